-- SITES ARE NOT SEEN: files that tell the same tree but for sites analyse to the same, and both moves give such files.
-- Assumes nothing.
use mathlib.Core.Path.{◌≡◌, refl, sym, ap, ◌∙◌, subst}
use mathlib.Core.List.{List}
use Prim.Native.Nat.{ℕ, ◌*◌}
use native.Mathlib.Omega.{arith}
use lib.ListN.{length, take}
use Rattle.std.specs.Prelude.{Option, Some, None, Result, Ok, Err}
use Rattle.paper.specs.Limits.{limits}
use Rattle.paper.specs.Answers.{NodesFull, FilledAt, CutsFull}
use Rattle.paper.specs.Trees.{Tree, events}
use Rattle.rules.specs.declared.Refusal.{Refusal}
use Rattle.rules.specs.Format.{length_of}
use Rattle.rules.specs.declared.Refusal.TheVariants.{Sited}
use Rattle.records.specs.Judge.{Book, Outcome, accept, refuse, outcome}
use Rattle.records.specs.Trees.{tree_of}
use Rattle.writing.specs.Sites.{lowest_sited}
use Rattle.writing.specs.Writes.{Wrote, wrote}
use Rattle.trees.specs.Exactly.{AreBytes}
use Rattle.moves.specs.Moves.{to_sites, from_sites}
use Rattle.moves.proofs.Forms.{found_none}
use Rattle.moves.proofs.Promises.{to_keeps, from_keeps}
use Rattle.memory.specs.Memory.{Memory, Lengths, capacity}
use Rattle.memory.specs.Outcome.{Done}
use Rattle.memory.specs.Analysis.{Analysis}
use Rattle.analyser.specs.Analysed.{Analysed}
use Rattle.promises.specs.Sites.{SameButSites, AnswerAlike, Unsited, Keeps}
use Rattle.promises.proofs.Coincide.{same_book, not_both, coincide}
use Rattle.promises.proofs.OnTables.{list_is_whole}
use Rattle.promises.proofs.Unseen.{moved, carried, counted, both_done}

-- ---- what the contract says of one file it says of the other

module _ {bytes bytes' : List ℕ} (s : SameButSites bytes bytes') where
  -- the tree that is read of the one file is that of the other
  tree : {b : Book} → outcome limits bytes ≡ accept b → tree_of s.other.book ≡ tree_of b
  tree p = s.same ∙ ap tree_of (same_book bytes p s.one.is)

  across : {m m' : Memory} {a : Analysis} → Analysed bytes m m' a → Analysed bytes' m m' a
  across (Analysed.bad_tree w p r k) = absurd (not_both bytes p s.one.is)
  across {m} (Analysed.bad_length b p n r k) = Analysed.bad_length s.other.book s.other.is (λ l. n (subst (λ t. Lengths (length t.gates) m) (tree p) l)) r k
  across {m} (Analysed.nodes_full b g p n f r z) = Analysed.nodes_full s.other.book g s.other.is
      (subst (λ t. Lengths (length t.gates) m) (sym (tree p)) n)
      (subst (λ t. FilledAt t (capacity m.nodes) g) (sym (tree p)) f) r z
  across {m} (Analysed.cuts_full b p n f g r z) = Analysed.cuts_full s.other.book s.other.is
      (subst (λ t. Lengths (length t.gates) m) (sym (tree p)) n)
      (λ x. f (subst (λ t. NodesFull t (capacity m.nodes)) (tree p) x))
      (subst (λ t. CutsFull t (capacity m.cuts)) (sym (tree p)) g) r z
  across {m} {m'} {a} (Analysed.done b p n f g d) = Analysed.done s.other.book s.other.is
      (subst (λ t. Lengths (length t.gates) m) (sym (tree p)) n)
      (λ x. f (subst (λ t. NodesFull t (capacity m.nodes)) (tree p) x))
      (λ x. g (subst (λ t. CutsFull t (capacity m.cuts)) (tree p) x))
      (subst (λ t. Done t m m' a) (sym (tree p)) d)

turned : {bytes bytes' : List ℕ} → SameButSites bytes bytes' → SameButSites bytes' bytes
turned s = record { one = s.other; other = s.one; same = sym s.same }

-- ---- what the calls answer

answer_alike : {t : Tree} {m m₁ m₂ : Memory} {a₁ a₂ : Analysis} → Done t m m₁ a₁ → Done t m m₂ a₂ → AnswerAlike (events t) m₁ m₂ a₁ a₂
answer_alike d e = record {
  list = ((λ x. moved e d x), (λ x. moved d e x));
  listing = λ j k. list_is_whole e k ∙ sym (list_is_whole d j);
  bracket = ((λ x. carried e d x), (λ x. carried d e x));
  sizes = ((λ x. counted e d x), (λ x. counted d e x));
}

-- THE THEOREM
pub unsited : {bytes bytes' : List ℕ} (s : SameButSites bytes bytes') → Unsited (tree_of s.one.book) bytes bytes'
unsited {bytes} {bytes'} s = record {
  allowed = ((λ x. across s x), (λ x. across (turned s) x));
  coincide = λ x y. coincide x (across (turned s) y);
  answers = λ {m} {m₁} {m₂} {a₁} {a₂} x y q.
      let (t, d, e) = both_done x (across (turned s) y) q in
      let same : tree_of t.book ≡ tree_of s.one.book = ap tree_of (same_book bytes s.one.is t.is) in
      answer_alike (subst (λ k. Done k m m₁ a₁) same d) (subst (λ k. Done k m m₂ a₂) same e);
}

-- ---- both moves

-- what is read as the same tree is kept
kept : {bytes new : List ℕ} {b c : Book} → outcome limits bytes ≡ accept b → outcome limits new ≡ accept c → tree_of c ≡ tree_of b → Keeps bytes new
kept {bytes} {new} {b} {c} e f t =
    let s : SameButSites bytes new = record { one = record { book = b; is = e }; other = record { book = c; is = f }; same = t } in
    record { tree = s; analysis = unsited s }

module _ (bytes : List ℕ) (good : AreBytes bytes) (room : List ℕ) {w : Wrote} where
  -- a refusal is not done
  unmoved : {n : ℕ} (a : Refusal) → w ≡ wrote (Err a) room → w.answer ≡ Ok n → ⊥
  unmoved {n} a x d =
      let y : ◌≡◌ {A = Result ℕ Refusal} (Err a) (Ok n) = sym (ap (λ (v : Wrote). v.answer) x) ∙ d in
      let z : ◌≡◌ {A = ℕ} 0 1 = cc in omega arith

  -- TO THE FORM WITH SITES, where it is done: what stands at the front of the room
  pub to_sites_keeps : w ≡ to_sites limits bytes room → {n : ℕ} → w.answer ≡ Ok n → Keeps bytes (take n w.room)
  unfolding to_sites
  to_sites_keeps q {n} d = go (outcome limits bytes) refl
    where
      go : (o : Outcome) → outcome limits bytes ≡ o → Keeps bytes (take n w.room)
      go (accept b) e = let k = to_keeps bytes good b e room q d in kept e k.accepted k.tree
      go (refuse a) e = absurd (unmoved a (q ∙ rw e) d)

  -- AND BACK
  pub from_sites_keeps : w ≡ from_sites limits bytes room → {n : ℕ} → w.answer ≡ Ok n → Keeps bytes (take n w.room)
  unfolding from_sites
  from_sites_keeps q {n} d = go (outcome limits bytes) refl
    where
      go : (o : Outcome) → outcome limits bytes ≡ o → Keeps bytes (take n w.room)
      go (accept b) e = found (lowest_sited (length b.events) 0 b.events) refl
        where
          found : (x : Option ℕ) → lowest_sited (length b.events) 0 b.events ≡ x → Keeps bytes (take n w.room)
          found None k = let h = from_keeps bytes good b e (found_none b.events (length b.events) 0 k) room q d in kept e h.accepted h.tree
          found (Some i) k = absurd (unmoved (Sited (length_of 0x11 * i)) (q ∙ rw (e, k)) d)
      go (refuse a) e = absurd (unmoved a (q ∙ rw e) d)
