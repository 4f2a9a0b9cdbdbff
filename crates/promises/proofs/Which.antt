-- WHICH ANSWER: each number is given exactly when its rule is the first that is broken.
-- Assumes nothing.
use mathlib.Core.Path.{◌≡◌, refl, sym, ap, ◌∙◌, subst}
use mathlib.Core.Logic.{◌↔◌}
use mathlib.Core.List.{List}
use Prim.Native.Nat.{ℕ}
use native.Mathlib.Omega.{arith}
use lib.ListN.{length, replicate}
use Rattle.paper.specs.Limits.{limits}
use Rattle.paper.specs.Answers.{OfReading, NodesFull, FilledAt, CutsFull}
use Rattle.algebra.proofs.Prefixes.{filled_full, full_filled}
use Rattle.rules.specs.Answers.{reason}
use Rattle.records.specs.Judge.{refuse, outcome}
use Rattle.records.specs.Trees.{tree_of}
use Rattle.rules.specs.declared.Refusal.{Refusal}
use Rattle.memory.specs.Memory.{Memory, Lengths, AllZero, capacity}
use Rattle.memory.specs.Outcome.{Refused, at, Done}
use Rattle.analyser.specs.Analysed.{Analysed}
use Rattle.memory.specs.Analysis.{Analysis}
use Rattle.promises.specs.Reasons.{BadTree, Accepted, Long, TooManyNodes, FullAt, TooManyCuts}
use Rattle.promises.proofs.Refusals.{reading_some, reading_few, refusal_range}
use Rattle.promises.proofs.Coincide.{same_answer, same_book, not_both, coincide, same_number, same_place}

-- ---- an outcome for each refusal

answer : ℕ → ℕ → Analysis
answer number place = record { number = number; place = place; nodes = 0; cut_nodes = 0; root = 0; cut_root = 0 }

answers : (number place : ℕ) → Refused (at number place) (answer number place)
unfolding answer
answers number place = record { number = refl; place = refl; no_nodes = refl; no_cut_nodes = refl; no_root = refl; no_cut_root = refl }

empty : List ℕ → List ℕ
empty l = replicate (length l) 0

zeroed : Memory → Memory
zeroed m = record {
  nodes = empty m.nodes;
  cuts = empty m.cuts;
  gates = empty m.gates;
  added = empty m.added;
  memo = empty m.memo;
  heads = empty m.heads;
  next = empty m.next;
  marks = empty m.marks;
  own = empty m.own;
}

all_zeroed : (m : Memory) → AllZero m (zeroed m)
unfolding zeroed empty
all_zeroed m = record { nodes = refl; cuts = refl; gates = refl; added = refl; memo = refl; heads = refl; next = refl; marks = refl; own = refl }

-- ---- what a number says

module _ {bytes : List ℕ} {m m' : Memory} {a : Analysis} where
  from_tree : Analysed bytes m m' a → OfReading a.number → BadTree bytes a.number a.place
  from_tree (Analysed.bad_tree w p r k) q = record { answer = w; refused = p; number_is = r.number; place_is = r.place }
  from_tree (Analysed.bad_length b p n r k) q = absurd (let e = r.number in omega (arith, e, reading_few a.number q (omega (arith, e))))
  from_tree (Analysed.nodes_full b i p n f r k) q = absurd (let e = r.number in omega (arith, e, reading_few a.number q (omega (arith, e))))
  from_tree (Analysed.cuts_full b p n f g r k) q = absurd (let e = r.number in omega (arith, e, reading_few a.number q (omega (arith, e))))
  from_tree (Analysed.done b p n f g r) q = absurd (reading_some a.number q r.number)

  from_nine : Analysed bytes m m' a → a.number ≡ 9 → (t : Accepted bytes) × (Long t m → ⊥)
  from_nine (Analysed.bad_tree w p r k) q = absurd (let e = r.number in omega (arith, e, q, reading_few (reason w).number (refusal_range bytes w p) (omega (arith, e, q))))
  from_nine (Analysed.bad_length b p n r k) q = (record { book = b; is = p }, n)
  from_nine (Analysed.nodes_full b i p n f r k) q = absurd (let e = r.number in omega arith)
  from_nine (Analysed.cuts_full b p n f g r k) q = absurd (let e = r.number in omega arith)
  from_nine (Analysed.done b p n f g r) q = absurd (let e = r.number in omega arith)

  from_ten : Analysed bytes m m' a → a.number ≡ 10 → (t : Accepted bytes) × Long t m × FullAt t m a.place
  from_ten (Analysed.bad_tree w p r k) q = absurd (let e = r.number in omega (arith, e, q, reading_few (reason w).number (refusal_range bytes w p) (omega (arith, e, q))))
  from_ten (Analysed.bad_length b p n r k) q = absurd (let e = r.number in omega arith)
  from_ten (Analysed.nodes_full b i p n f r k) q = (record { book = b; is = p }, n, subst (λ g. FilledAt (tree_of b) (capacity m.nodes) g) (sym r.place) f)
  from_ten (Analysed.cuts_full b p n f g r k) q = absurd (let e = r.number in omega arith)
  from_ten (Analysed.done b p n f g r) q = absurd (let e = r.number in omega arith)

  from_eleven : Analysed bytes m m' a → a.number ≡ 11 → (t : Accepted bytes) × Long t m × (TooManyNodes t m → ⊥) × TooManyCuts t m
  from_eleven (Analysed.bad_tree w p r k) q = absurd (let e = r.number in omega (arith, e, q, reading_few (reason w).number (refusal_range bytes w p) (omega (arith, e, q))))
  from_eleven (Analysed.bad_length b p n r k) q = absurd (let e = r.number in omega arith)
  from_eleven (Analysed.nodes_full b i p n f r k) q = absurd (let e = r.number in omega arith)
  from_eleven (Analysed.cuts_full b p n f g r k) q = (record { book = b; is = p }, n, f, g)
  from_eleven (Analysed.done b p n f g r) q = absurd (let e = r.number in omega arith)

  -- and a done analysis leaves its tables
  pub from_done : Analysed bytes m m' a → a.number ≡ 0 → (t : Accepted bytes) × Long t m × (TooManyNodes t m → ⊥) × (TooManyCuts t m → ⊥) × Done (tree_of t.book) m m' a
  from_done (Analysed.bad_tree w p r k) q = absurd (reading_some (reason w).number (refusal_range bytes w p) (sym r.number ∙ q))
  from_done (Analysed.bad_length b p n r k) q = absurd (let e = r.number in omega arith)
  from_done (Analysed.nodes_full b i p n f r k) q = absurd (let e = r.number in omega arith)
  from_done (Analysed.cuts_full b p n f g r k) q = absurd (let e = r.number in omega arith)
  from_done (Analysed.done b p n f g r) q = (record { book = b; is = p }, n, f, g, r)

  pub finished_tree : Analysed bytes m m' a → a.number ≡ 0 → (t : Accepted bytes) × Done (tree_of t.book) m m' a
  finished_tree x q = let (t, n, f, g, d) = from_done x q in (t, d)

  to_done : Analysed bytes m m' a → ((t : Accepted bytes) × Long t m × (TooManyNodes t m → ⊥) × (TooManyCuts t m → ⊥)) → a.number ≡ 0
  to_done (Analysed.bad_tree w p r k) (t, l, g, z) = absurd (not_both bytes p t.is)
  to_done (Analysed.bad_length b p n r k) (t, l, g, z) = absurd (n (subst (λ x. Lengths (length (tree_of x).gates) m) (same_book bytes p t.is) l))
  to_done (Analysed.nodes_full b i p n f r k) (t, l, g, z) = absurd (g (subst (λ x. NodesFull (tree_of x) (capacity m.nodes)) (same_book bytes t.is p) (filled_full (tree_of b) (capacity m.nodes) f)))
  to_done (Analysed.cuts_full b p n f g r k) (t, l, y, z) = absurd (z (subst (λ x. CutsFull (tree_of x) (capacity m.cuts)) (same_book bytes t.is p) g))
  to_done (Analysed.done b p n f g r) z = r.number

-- ---- the numbers

module _ {bytes : List ℕ} {m m' : Memory} {a : Analysis} (x : Analysed bytes m m' a) where
  -- the outcome of a refusal is the outcome
  is_number : {m'' : Memory} (number place : ℕ) → Analysed bytes m m'' (answer number place) → a.number ≡ number
  unfolding answer
  is_number number place y = same_number (coincide y x)

  is_so : {m'' : Memory} (number place : ℕ) → Analysed bytes m m'' (answer number place) → (a.number ≡ number) × (a.place ≡ place)
  unfolding answer
  is_so number place y = let c = coincide y x in (same_number c, same_place c)

  -- 1 to 8 or 21 exactly when the bytes are refused, and then with their number and place
  pub of_reading : OfReading a.number ↔ BadTree bytes a.number a.place
  of_reading = (from_tree x, λ b. subst OfReading (sym b.number_is) (refusal_range bytes b.answer b.refused))

  pub refused_so : (w : Refusal) → outcome limits bytes ≡ refuse w → (a.number ≡ (reason w).number) × (a.place ≡ (reason w).place)
  refused_so w p = let b = from_tree x (subst OfReading (sym (is_number (reason w).number (reason w).place (Analysed.bad_tree w p (answers (reason w).number (reason w).place) refl))) (refusal_range bytes w p)) in
      let e : b.answer ≡ w = same_answer bytes p b.refused in
      (b.number_is ∙ ap (λ y. (reason y).number) e, b.place_is ∙ ap (λ y. (reason y).place) e)

  -- 9 exactly when an accepted tree meets a length that breaks the rules
  pub nine : (a.number ≡ 9) ↔ ((t : Accepted bytes) × (Long t m → ⊥))
  nine = (from_nine x, λ (t, n). is_number 9 0 (Analysed.bad_length t.book t.is n (answers 9 0) refl))

  -- 10 exactly when, with right lengths, more nodes are needed than the node table has room for
  pub ten : (a.number ≡ 10) ↔ ((t : Accepted bytes) × Long t m × TooManyNodes t m)
  ten = (
    (λ q. let (t, n, f) = from_ten x q in (t, n, filled_full (tree_of t.book) (capacity m.nodes) f)),
    (λ (t, n, f). let (g, i) = full_filled (tree_of t.book) (capacity m.nodes) f in is_number 10 g (Analysed.nodes_full t.book g t.is n i (answers 10 g) (all_zeroed m))),
  )

  -- and then its place is the gate being built, the least with which the nodes needed exceed that room
  pub ten_at : (g : ℕ) → ((a.number ≡ 10) × (a.place ≡ g)) ↔ ((t : Accepted bytes) × Long t m × FullAt t m g)
  ten_at g = (
    (λ (q, e). let (t, n, f) = from_ten x q in (t, n, subst (λ h. FullAt t m h) e f)),
    (λ (t, n, f). is_so 10 g (Analysed.nodes_full t.book g t.is n f (answers 10 g) (all_zeroed m))),
  )

  -- 11 exactly when, not 10, more cut nodes are needed than the cut table has room for
  pub eleven : (a.number ≡ 11) ↔ ((t : Accepted bytes) × Long t m × (TooManyNodes t m → ⊥) × TooManyCuts t m)
  eleven = (from_eleven x, λ (t, n, f, g). is_number 11 0 (Analysed.cuts_full t.book t.is n f g (answers 11 0) (all_zeroed m)))

  -- 0 exactly when nothing refuses
  pub zero_when : (a.number ≡ 0) ↔ ((t : Accepted bytes) × Long t m × (TooManyNodes t m → ⊥) × (TooManyCuts t m → ⊥))
  zero_when = ((λ q. let (t, n, f, g, d) = from_done x q in (t, n, f, g)), to_done x)
