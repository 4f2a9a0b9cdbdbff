-- A tree passes or is refused, in one way, and of the lent memory only the lengths matter; so a folder has one list of trees that pass, or one first refused tree.
-- Assumes nothing.
use mathlib.Core.Path.{◌≡◌, refl, sym, ap, ap₂, ◌∙◌, subst}
use mathlib.Core.Logic.{◌≢◌, ◌⊎◌, inl, inr}
use mathlib.Core.List.{List, [], ◌∷◌, ◌++◌}
use Prim.Native.Nat.{ℕ, zero, suc, ◌≤◌, ◌<◌}
use native.Mathlib.Omega.{arith}
use lib.ListN.{length, get_or, take}
use lib.Seq.{get_or-take, length-take-le}
use Rattle.paper.specs.Limits.{limits}
use Rattle.paper.specs.Trees.{Tree}
use Rattle.paper.specs.Answers.{Verdict, OfReading, Unwritten, NodesFull, FilledAt, CutsFull}
use Rattle.algebra.proofs.Prefixes.{filled_full, filled_once}
use Rattle.rules.specs.Answers.{reason}
use Rattle.records.specs.Judge.{Book, accept, outcome}
use Rattle.records.specs.Trees.{tree_of}
use Rattle.memory.specs.Memory.{Memory, Lengths, capacity}
use Rattle.memory.specs.Outcome.{at, Done}
use Rattle.memory.specs.Analysis.{Analysis}
use Rattle.memory.proofs.Before.{SameLengths, lengths_from}
use Rattle.analyser.specs.Analysed.{Analysed}
use Rattle.promises.proofs.Contents.{other_way, filled_at, nodes_full_back, cuts_full, cuts_full_back}
use Rattle.promises.proofs.Refusals.{refusal_range}
use Rattle.promises.proofs.Coincide.{same_answer, same_book, not_both}
use Rattle.promises.proofs.Which.{from_done}
use Rattle.store.proofs.Denotes.{below_or_not}
use Rattle.totals.proofs.Unwritten.{unwritten_few}
use Rattle.folder.specs.Passing.{Passes, Refuses, AllPass, FirstRefused}

-- ---- the lengths alone

module _ {m k : Memory} (s : SameLengths m k) where
  pub passes_from : {bytes : List ℕ} {t : Tree} → Passes k bytes t → Passes m bytes t
  passes_from {bytes} {t} p = record {
    book = p.book;
    accepted = p.accepted;
    is = p.is;
    lengths = lengths_from (other_way s) p.lengths;
    nodes_fit = λ f. p.nodes_fit (nodes_full_back s t f);
    cuts_fit = λ f. p.cuts_fit (cuts_full_back s t f);
  }

  pub refuses_from : {bytes : List ℕ} {v : Verdict} → Refuses k bytes v → Refuses m bytes v
  refuses_from (Refuses.bad_tree w p e) = Refuses.bad_tree w p e
  refuses_from (Refuses.bad_length b p n e) = Refuses.bad_length b p (λ l. n (lengths_from s l)) e
  refuses_from (Refuses.nodes_full b g p l f e) = Refuses.nodes_full b g p (lengths_from (other_way s) l) (filled_at s (tree_of b) f) e
  refuses_from (Refuses.cuts_full b p l f g e) =
      Refuses.cuts_full b p (lengths_from (other_way s) l) (λ h. f (nodes_full_back s (tree_of b) h)) (cuts_full s (tree_of b) g) e

-- ---- what an analysis answers is what the tree is due

module _ {bytes : List ℕ} {m m' : Memory} {a : Analysis} where
  pub analysed_refused : Analysed bytes m m' a → (a.number ≡ 0 → ⊥) → Refuses m bytes (at a.number a.place) × (Unwritten a.number → m' ≡ m)
  analysed_refused (Analysed.bad_tree w p r k) z = (Refuses.bad_tree w p (ap₂ at r.number r.place), λ _. k)
  analysed_refused (Analysed.bad_length b p n r k) z = (Refuses.bad_length b p n (ap₂ at r.number r.place), λ _. k)
  analysed_refused (Analysed.nodes_full b g p n f r k) z = (Refuses.nodes_full b g p n f (ap₂ at r.number r.place), λ h. absurd (let e = r.number in omega (arith, e, unwritten_few a.number h (omega (arith, e)))))
  analysed_refused (Analysed.cuts_full b p n f g r k) z = (Refuses.cuts_full b p n f g (ap₂ at r.number r.place), λ h. absurd (let e = r.number in omega (arith, e, unwritten_few a.number h (omega (arith, e)))))
  analysed_refused (Analysed.done b p n f g r) z = absurd (z r.number)

  pub analysed_passed : Analysed bytes m m' a → a.number ≡ 0 → (t : Tree) × Passes m bytes t × Done t m m' a
  analysed_passed x q =
      let (t, n, f, g, d) = from_done x q in
      (tree_of t.book, record { book = t.book; accepted = t.is; is = refl; lengths = n; nodes_fit = f; cuts_fit = g }, d)

-- ---- one way

module _ (m : Memory) {b c : Book} (e : c ≡ b) where
  read_long : Lengths (length (tree_of c).gates) m → Lengths (length (tree_of b).gates) m
  read_long = subst (λ x. Lengths (length (tree_of x).gates) m) e

  read_at : {g : ℕ} → FilledAt (tree_of c) (capacity m.nodes) g → FilledAt (tree_of b) (capacity m.nodes) g
  read_at {g} = subst (λ x. FilledAt (tree_of x) (capacity m.nodes) g) e

  read_full : {g : ℕ} → FilledAt (tree_of c) (capacity m.nodes) g → NodesFull (tree_of b) (capacity m.nodes)
  read_full f = filled_full (tree_of b) (capacity m.nodes) (read_at f)

module _ {m : Memory} {bytes : List ℕ} where
  pub same_tree : {t u : Tree} → Passes m bytes t → Passes m bytes u → t ≡ u
  same_tree p q = p.is ∙ ap tree_of (same_book bytes q.accepted p.accepted) ∙ sym q.is

  -- the tree that passes is the one that was accepted
  tree_of_lem : {t : Tree} {b : Book} → Passes m bytes t → outcome limits bytes ≡ accept b → t ≡ tree_of b
  tree_of_lem p e = p.is ∙ ap tree_of (same_book bytes e p.accepted)

  pub not_both_ways : {t : Tree} {v : Verdict} → Passes m bytes t → Refuses m bytes v → ⊥
  not_both_ways p (Refuses.bad_tree w e q) = not_both bytes e p.accepted
  not_both_ways p (Refuses.bad_length b e n q) = n (subst (λ t. Lengths (length t.gates) m) (tree_of_lem p e) p.lengths)
  not_both_ways p (Refuses.nodes_full b g e l f q) = p.nodes_fit (subst (λ t. NodesFull t (capacity m.nodes)) (sym (tree_of_lem p e)) (filled_full (tree_of b) (capacity m.nodes) f))
  not_both_ways p (Refuses.cuts_full b e l f g q) = p.cuts_fit (subst (λ t. CutsFull t (capacity m.cuts)) (sym (tree_of_lem p e)) g)

  pub refusal_number : {v : Verdict} → Refuses m bytes v → (1 ≤ v.number) × (v.number ≢ 19)
  refusal_number {v} (Refuses.bad_tree w e q) = go (refusal_range bytes w e)
    where
      go : OfReading (reason w).number → (1 ≤ v.number) × (v.number ≢ 19)
      go (inl (l, h)) = let k = ap (λ x. x.number) q in (omega arith, λ z. omega arith)
      go (inr h) = let k = ap (λ x. x.number) q in (omega arith, λ z. omega arith)
  refusal_number (Refuses.bad_length b e n q) = let k = ap (λ x. x.number) q in (omega arith, λ z. omega arith)
  refusal_number (Refuses.nodes_full b g e l f q) = let k = ap (λ x. x.number) q in (omega arith, λ z. omega arith)
  refusal_number (Refuses.cuts_full b e l f g q) = let k = ap (λ x. x.number) q in (omega arith, λ z. omega arith)

  pub same_refusal : {v w : Verdict} → Refuses m bytes v → Refuses m bytes w → v ≡ w
  same_refusal (Refuses.bad_tree w p e) (Refuses.bad_tree v q d) = e ∙ ap reason (same_answer bytes q p) ∙ sym d
  same_refusal (Refuses.bad_tree w p e) (Refuses.bad_length b q n d) = absurd (not_both bytes p q)
  same_refusal (Refuses.bad_tree w p e) (Refuses.nodes_full b i q l f d) = absurd (not_both bytes p q)
  same_refusal (Refuses.bad_tree w p e) (Refuses.cuts_full b q l f g d) = absurd (not_both bytes p q)
  same_refusal (Refuses.bad_length b p n e) (Refuses.bad_tree v q d) = absurd (not_both bytes q p)
  same_refusal (Refuses.bad_length b p n e) (Refuses.bad_length c q o d) = e ∙ sym d
  same_refusal (Refuses.bad_length b p n e) (Refuses.nodes_full c i q l f d) = absurd (n (read_long m (same_book bytes p q) l))
  same_refusal (Refuses.bad_length b p n e) (Refuses.cuts_full c q l f g d) = absurd (n (read_long m (same_book bytes p q) l))
  same_refusal (Refuses.nodes_full b i p l f e) (Refuses.bad_tree v q d) = absurd (not_both bytes q p)
  same_refusal (Refuses.nodes_full b i p l f e) (Refuses.bad_length c q o d) = absurd (o (read_long m (same_book bytes q p) l))
  same_refusal (Refuses.nodes_full b i p l f e) (Refuses.nodes_full c j q k g d) = e ∙ ap (at 10) (filled_once (tree_of b) (capacity m.nodes) f (read_at m (same_book bytes p q) g)) ∙ sym d
  same_refusal (Refuses.nodes_full b i p l f e) (Refuses.cuts_full c q k g h d) = absurd (g (read_full m (same_book bytes q p) f))
  same_refusal (Refuses.cuts_full b p l f g e) (Refuses.bad_tree v q d) = absurd (not_both bytes q p)
  same_refusal (Refuses.cuts_full b p l f g e) (Refuses.bad_length c q o d) = absurd (o (read_long m (same_book bytes q p) l))
  same_refusal (Refuses.cuts_full b p l f g e) (Refuses.nodes_full c i q k h d) = absurd (f (read_full m (same_book bytes p q) h))
  same_refusal (Refuses.cuts_full b p l f g e) (Refuses.cuts_full c q k h i d) = e ∙ sym d

-- ---- the trees of a folder

module _ (m : Memory) where
  pub all_same : (bs : List (List ℕ)) (ts us : List Tree) → AllPass m bs ts → AllPass m bs us → ts ≡ us
  all_same [] [] [] p q = refl
  all_same [] [] (u ∷ us) p q = elim q [ ]
  all_same [] (t ∷ ts) us p q = elim p [ ]
  all_same (b ∷ bs) [] us p q = elim p [ ]
  all_same (b ∷ bs) (t ∷ ts) [] p q = elim q [ ]
  all_same (b ∷ bs) (t ∷ ts) (u ∷ us) (p, ps) (q, qs) = ap₂ ◌∷◌ (same_tree p q) (all_same bs ts us ps qs)

  -- one more
  pub all_more : {b : List ℕ} {t : Tree} → Passes m b t → (bs : List (List ℕ)) (ts : List Tree) → AllPass m bs ts → AllPass m (bs ++ (b ∷ [])) (ts ++ (t ∷ []))
  all_more p [] [] q = (p, tt)
  all_more p [] (t ∷ ts) q = elim q [ ]
  all_more p (b ∷ bs) [] q = elim q [ ]
  all_more p (b ∷ bs) (t ∷ ts) (q, qs) = (q, all_more p bs ts qs)

  -- each of them
  pass_at : (bs : List (List ℕ)) (ts : List Tree) → AllPass m bs ts → (i : ℕ) → i < length bs → (t : Tree) × Passes m (get_or bs i []) t
  pass_at [] [] p i h = absurd (omega arith)
  pass_at [] (t ∷ ts) p i h = elim p [ ]
  pass_at (b ∷ bs) [] p i h = elim p [ ]
  pass_at (b ∷ bs) (t ∷ ts) (p, ps) zero h = (t, p)
  pass_at (b ∷ bs) (t ∷ ts) (p, ps) (suc i) h = pass_at bs ts ps i (omega arith)

module _ {m : Memory} {bs : List (List ℕ)} where
  pub not_all : {i : ℕ} {v : Verdict} → FirstRefused m bs i v → (ts : List Tree) → AllPass m bs ts → ⊥
  not_all {i} f ts a = let (t, p) = pass_at m bs ts a i f.inside in not_both_ways p f.refused

  -- none before the first
  not_before : {i j : ℕ} {v w : Verdict} → FirstRefused m bs i v → FirstRefused m bs j w → i < j → ⊥
  not_before {i} {j} f g h =
      let short : length (take j bs) ≡ j = length-take-le j bs (let n = g.inside in omega arith) in
      let (t, p) = pass_at m (take j bs) g.trees g.before i (omega arith) in
      not_both_ways (subst (λ b. Passes m b t) (get_or-take j bs i [] h) p) f.refused

  pub first_same : {i j : ℕ} {v w : Verdict} → FirstRefused m bs i v → FirstRefused m bs j w → (i ≡ j) × (v ≡ w)
  first_same {i} {j} {v} {w} f g = (same, same_refusal (subst (λ x. Refuses m (get_or bs x []) v) same f.refused) g.refused)
    where
      same : i ≡ j
      same = go (below_or_not i j) (below_or_not j i)
        where
          go : (i < j) ⊎ (j ≤ i) → (j < i) ⊎ (i ≤ j) → i ≡ j
          go (inl l) k = absurd (not_before f g l)
          go (inr l) (inl k) = absurd (not_before g f k)
          go (inr l) (inr k) = omega arith
