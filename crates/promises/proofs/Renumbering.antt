-- Two tables of the same functions, or of the same families, are one table under other numbers.
-- Assumes nothing.
use mathlib.Core.Path.{◌≡◌, sym, ap, ◌∙◌}
use mathlib.Core.Logic.{◌⊎◌, inl, inr}
use mathlib.Core.Bool.{Bool, true, false, true≢false}
use mathlib.Core.List.{List}
use Prim.Native.Nat.{ℕ, zero, suc, ◌+◌, ◌-◌, ◌≤◌, ◌<◌}
use native.Mathlib.Omega.{arith}
use lib.ListN.{length}
use Rattle.paper.specs.Diagrams.{node}
use Rattle.algebra.specs.Operations.{is_node}
use Rattle.algebra.proofs.Base.{same_node}
use Rattle.algebra.proofs.Kind.{table_inj}
use Rattle.algebra.proofs.Plain.{plain}
use Rattle.algebra.proofs.Zero.{suppressed}
use Rattle.tables.specs.Table.{event_of, failed_of, sound_of, den}
use Rattle.tables.specs.Stored.{Lower}
use Rattle.tables.proofs.Den.{den_0, den_1, den_node}
use Rattle.tables.proofs.Lent.{lent_lower, lent_ordered, lent_suppressed}
use Rattle.tables.proofs.Once.{den_inj, lent_good}
use Rattle.store.proofs.Denotes.{below_or_not, den_is_node, den_no_node}
use Rattle.memory.specs.Outcome.{Table, function_of, family_of, Holds}
use Rattle.promises.specs.Coincide.{Renumbering}

-- each stored node of T denotes what some stored node of T' does
abbrev pub Match : List ℕ → List ℕ → ℕ → ℕ → Type 0
Match T T' c c' = (i : ℕ) → 2 ≤ i → i < c + 2 → (j : ℕ) × (2 ≤ j) × (j < c' + 2) × (den T' j ≡ den T i)

-- the number in the other table, of any number
found : (T T' : List ℕ) (c c' : ℕ) → Match T T' c c' → (i : ℕ) → (j : ℕ) × (i < c + 2 → (j < c' + 2) × (den T' j ≡ den T i))
found T T' c c' f zero = (0, λ _. (omega arith, den_0 T' ∙ sym (den_0 T)))
found T T' c c' f (suc zero) = (1, λ _. (omega arith, den_1 T' ∙ sym (den_1 T)))
found T T' c c' f (suc (suc i)) = go (below_or_not (suc (suc i)) (c + 2))
  where
    go : (suc (suc i) < c + 2) ⊎ (c + 2 ≤ suc (suc i)) → (j : ℕ) × (suc (suc i) < c + 2 → (j < c' + 2) × (den T' j ≡ den T (suc (suc i))))
    go (inl h) = let (j, l, k, e) = f (suc (suc i)) (omega arith) h in (j, λ _. (k, e))
    go (inr h) = (0, λ l. absurd (omega arith))

module _ {cut : Bool} {n : ℕ} {T T' : List ℕ} {c c' root root' : ℕ} (t : Table cut n T c root) (t' : Table cut n T' c' root') (same : c' ≡ c) (long : length T' ≡ length T)
    (f : Match T T' c c') (g : Match T' T c' c) where
  abbrev to : ℕ → ℕ
  to i = (found T T' c c' f i).0

  abbrev back : ℕ → ℕ
  back j = (found T' T c' c g j).0

  low : Lower T c
  low = lent_lower t.lent

  low' : Lower T' c'
  low' = lent_lower t'.lent

  to_in : (i : ℕ) → i < c + 2 → to i < c' + 2
  to_in i h = ((found T T' c c' f i).1 h).0

  to_den : (i : ℕ) → i < c + 2 → den T' (to i) ≡ den T i
  to_den i h = ((found T T' c c' f i).1 h).1

  back_in : (j : ℕ) → j < c' + 2 → back j < c + 2
  back_in j h = ((found T' T c' c g j).1 h).0

  back_den : (j : ℕ) → j < c' + 2 → den T (back j) ≡ den T' j
  back_den j h = ((found T' T c' c g j).1 h).1

  -- a number of T' that denotes what i does is to i
  only_to : (i j : ℕ) → i < c + 2 → j < c' + 2 → den T' j ≡ den T i → j ≡ to i
  only_to i j h l e = den_inj low' t'.unique l (to_in i h) (e ∙ sym (to_den i h))

  stays_node : (i : ℕ) → 2 ≤ i → i < c + 2 → 2 ≤ to i
  stays_node i a h = go (below_or_not (to i) 2)
    where
      go : (to i < 2) ⊎ (2 ≤ to i) → 2 ≤ to i
      go (inl l) = absurd (true≢false (sym (den_is_node low i a h) ∙ ap is_node (sym (to_den i h)) ∙ den_no_node low' (to i) l))
      go (inr l) = l

  parts : (i : ℕ) → 2 ≤ i → i < c + 2 → (event_of T' (to i) ≡ event_of T i) × (den T' (failed_of T' (to i)) ≡ den T (failed_of T i)) × (den T' (sound_of T' (to i)) ≡ den T (sound_of T i))
  parts i a h = same_node (sym (den_node low' (to i) (stays_node i a h) (to_in i h)) ∙ to_den i h ∙ den_node low i a h)

  pub renumbering : Renumbering T T' c c'
  renumbering = record {
    to = to;
    back = back;
    to_in = to_in;
    back_in = back_in;
    there = λ i h. den_inj low t.unique (back_in (to i) (to_in i h)) h (back_den (to i) (to_in i h) ∙ to_den i h);
    here = λ j h. den_inj low' t'.unique (to_in (back j) (back_in j h)) h (to_den (back j) (back_in j h) ∙ back_den j h);
    leaf_0 = sym (only_to 0 0 (omega arith) (omega arith) (den_0 T' ∙ sym (den_0 T)));
    leaf_1 = sym (only_to 1 1 (omega arith) (omega arith) (den_1 T' ∙ sym (den_1 T)));
    node = stays_node;
    event = λ i a h. (parts i a h).0;
    failed = λ i a h.
        let x = low.failed (i - 2) (omega arith) in
        let l = stays_node i a h in
        let k = to_in i h in
        let y = low'.failed (to i - 2) (omega arith) in
        only_to (failed_of T i) (failed_of T' (to i)) (omega arith) (omega arith) (parts i a h).1;
    sound = λ i a h.
        let x = low.sound (i - 2) (omega arith) in
        let l = stays_node i a h in
        let k = to_in i h in
        let y = low'.sound (to i - 2) (omega arith) in
        only_to (sound_of T i) (sound_of T' (to i)) (omega arith) (omega arith) (parts i a h).2;
    denotes = to_den;
    behind = λ p h. t'.behind.zero p (omega arith) ∙ sym (t.behind.zero p h);
    long = long;
  }

-- the same functions are needed of both: each number of the one has one of the other
module _ {n : ℕ} {T T' : List ℕ} {c c' root root' : ℕ} {needs : List (List Bool)} where
  pub match_functions : Table false n T c root → Table false n T' c' root' → Holds (function_of n T) c needs → Holds (function_of n T') c' needs → Match T T' c c'
  match_functions t t' h h' i a b =
      let (j, l, k, e) = h'.all (function_of n T i) (h.only i a b) in
      (j, l, k, table_inj n (plain n) (den T' j) (den T i) (lent_good t'.lent t'.unique j k) (lent_good t.lent t.unique i b) e)

  pub match_families : Table true n T c root → Table true n T' c' root' → Holds (family_of n T) c needs → Holds (family_of n T') c' needs → Match T T' c c'
  match_families t t' h h' i a b =
      let (j, l, k, e) = h'.all (family_of n T i) (h.only i a b) in
      (j, l, k, table_inj n (suppressed n) (den T' j) (den T i) (lent_ordered t'.lent k, lent_suppressed t'.lent k) (lent_ordered t.lent b, lent_suppressed t.lent b) e)
