-- One tree's counts added to the totals; and the number that is due after it.
-- Assumes nothing.
use mathlib.Core.Path.{◌≡◌, refl, sym, ap, ◌∙◌, subst}
use mathlib.Core.Bool.{true}
use Rattle.std.specs.Prelude.{Option, Some, None, Result, Ok, Err, is_ok}
use mathlib.Core.List.{List}
use Prim.Native.Nat.{ℕ, ◌+◌, ◌≤◌, ◌<◌}
use native.Mathlib.Decide.{ℕ_discrete}
use native.Mathlib.Omega.{arith}
use lib.ListN.{length, get_or, set, length-set}
use lib.Seq.{get_or-set_same, get_or-set_other}
use Rattle.paper.specs.Limits.{limits}
use Rattle.paper.specs.Refusals.{number_of}
use Rattle.paper.specs.declared.refusal.Refusal.{Refusal}
use Rattle.paper.specs.Sizes.{largest, sizes}
use Rattle.tables.specs.Table.{den}
use Rattle.tables.specs.Lent.{Lent}
use Rattle.sizes.specs.Counted.{Enough, Counted, no_diagram, too_short, too_many, done}
use Rattle.sizes.specs.Passes.{Written}
use Rattle.totals.specs.Adding.{Areas, counts_of, numbers_of, Adding, Beyond, Added, Due, Ends}

-- ---- one tree's numbers added to a list

pub adding_none : (c : ℕ → ℕ) (L : List ℕ) → Adding c 0 L L
adding_none c L = record { below = λ j h. absurd (omega arith); small = λ j h. absurd (omega arith); behind = λ j h. refl; long = refl }

module _ {c : ℕ → ℕ} {k : ℕ} {L L' : List ℕ} (s : Adding c k L L') where
  here : get_or L' k 0 ≡ get_or L k 0
  here = s.behind k (omega arith)

  pub added_over : k < sizes → largest < get_or L' k 0 + c k → Beyond c L
  added_over l h = let e = here in record { size = k; within = l; large = omega (arith, e, h) }

  pub adding_more : k < length L → get_or L' k 0 + c k ≤ largest → Adding c (k + 1) L (set L' k (get_or L' k 0 + c k))
  adding_more m h = record {
    below = λ j g. one j g (ℕ_discrete j k);
    small = λ j g. low j g (ℕ_discrete j k);
    behind = λ j g. get_or-set_other L' k j (get_or L' k 0 + c k) 0 (λ z. omega (arith, z, g)) ∙ s.behind j (omega arith);
    long = length-set L' k (get_or L' k 0 + c k) ∙ s.long;
  }
    where
      one : (j : ℕ) → j < k + 1 → Dec (j ≡ k) → get_or (set L' k (get_or L' k 0 + c k)) j 0 ≡ get_or L j 0 + c j
      one j g (yes e) =
          let n = s.long in
          ap (λ x. get_or (set L' k (get_or L' k 0 + c k)) x 0) e ∙ get_or-set_same L' k (get_or L' k 0 + c k) 0 (omega arith)
          ∙ ap (λ x. x + c k) here ∙ ap (λ x. get_or L x 0 + c x) (sym e)
      one j g (no n) = get_or-set_other L' k j (get_or L' k 0 + c k) 0 n ∙ s.below j (omega arith)

      low : (j : ℕ) → j < k + 1 → Dec (j ≡ k) → get_or L j 0 + c j ≤ largest
      low j g (yes e) = subst (λ x. get_or L x 0 + c x ≤ largest) (sym e) (subst (λ x. x + c k ≤ largest) here h)
      low j g (no n) = s.small j (omega arith)

  pub added_all : k ≤ sizes → sizes ≤ k → Adding c sizes L L'
  added_all a b = let q : k ≡ sizes = omega arith in subst (λ x. Adding c x L L') q s

pub added_no : {c : ℕ → ℕ} {L L' : List ℕ} → Beyond c L → Added c L L' None
added_no b = record { fits = λ q. cc; over = λ _. b }

pub added_yes : {c : ℕ → ℕ} {L L' : List ℕ} → Adding c sizes L L' → Added c L L' (Some tt)
added_yes a = record { fits = λ _. a; over = λ q. cc }

-- numbers that are equal below the number of sizes are added alike
module _ {c d : ℕ → ℕ} {L : List ℕ} (e : (k : ℕ) → k < sizes → c k ≡ d k) where
  adding_same : {L' : List ℕ} → Adding c sizes L L' → Adding d sizes L L'
  adding_same a = record {
    below = λ j h. a.below j h ∙ ap (λ x. get_or L j 0 + x) (e j h);
    small = λ j h. subst (λ x. get_or L j 0 + x ≤ largest) (e j h) (a.small j h);
    behind = a.behind;
    long = a.long;
  }

  beyond_same : Beyond c L → Beyond d L
  beyond_same b = record { size = b.size; within = b.within; large = subst (λ x. largest < get_or L b.size 0 + x) (e b.size b.within) b.large }

-- ---- what a tree's own counting says

pub ok_number : {A : Type 0} (r : Result A Refusal) → true ≡ is_ok r → number_of r ≡ 0
ok_number (Ok _) q = refl
ok_number (Err why) q = cc

pub areas_enough : {T C B W R : List ℕ} → Areas T B W R → sizes ≤ length C → Enough T C B W R
areas_enough a c = record { counts = c; less = a.less; work = a.work; reached = a.reached }

pub areas_from : {T C B W R : List ℕ} → Enough T C B W R → Areas T B W R
areas_from e = record { less = e.less; work = e.work; reached = e.reached }

module _ {T : List ℕ} {c root number place : ℕ} {C B W R C' B' W' R' : List ℕ} (v : Lent true limits.events T c root) (e : Enough T C B W R)
    (x : Counted limits.events T c root number place C B W R C' B' W' R') where
  -- a count of its own that is too large
  tally_over : (number ≡ 0 → ⊥) → (L : List ℕ) → Beyond (counts_of (den T root)) L
  tally_over z L = go x
    where
      go : Counted limits.events T c root number place C B W R C' B' W' R' → Beyond (counts_of (den T root)) L
      go (no_diagram n r) = absurd (n v)
      go (too_short w n r) = absurd (n e)
      go (too_many w n t r y) = let i = t.within in let a = t.above in record { size = t.size; within = omega (arith, i); large = omega (arith, a) }
      go (done w n f r y) = absurd (z r.number_is)

  tally_counts : number ≡ 0 → (k : ℕ) → k < sizes → get_or C' k 0 ≡ counts_of (den T root) k
  tally_counts z = go x
    where
      go : Counted limits.events T c root number place C B W R C' B' W' R' → (k : ℕ) → k < sizes → get_or C' k 0 ≡ counts_of (den T root) k
      go (no_diagram n r) = absurd (n v)
      go (too_short w n r) = absurd (n e)
      go (too_many w n t r y) = let q = r.number_is in absurd (omega arith)
      go (done w n f r y) = r.counts

  -- not by the tree itself
  pub due_own : {before : Option (Unit {0})} {L : List ℕ} → (number ≡ 0 → ⊥) → before ≡ Some tt → Due (counts_of (den T root)) before L L None
  due_own {before} {L} z e = record { stays = λ _. refl; fits = λ _ q. cc; over = λ _ _. tally_over z L }

  -- not by a total, or all is added
  pub due_added : {before : Option (Unit {0})} {L L' : List ℕ} {r : Option (Unit {0})} → number ≡ 0 → before ≡ Some tt → Added (numbers_of C') L L' r → Due (counts_of (den T root)) before L L' r
  due_added z e a = record { stays = λ n. cc; fits = λ _ q. adding_same (tally_counts z) (a.fits q); over = λ _ q. beyond_same (tally_counts z) (a.over q) }

-- not since before
pub due_still : {c : ℕ → ℕ} {before : Option (Unit {0})} {L : List ℕ} → before ≡ None → Due c before L L None
due_still n = record { stays = λ _. refl; fits = λ z q. cc; over = λ z q. cc }

-- the same of equal numbers
pub due_same : {c d : ℕ → ℕ} {before r : Option (Unit {0})} {L L' : List ℕ} → ((k : ℕ) → k < sizes → c k ≡ d k) → Due c before L L' r → Due d before L L' r
due_same e s = record { stays = s.stays; fits = λ z q. adding_same e (s.fits z q); over = λ z n. beyond_same e (s.over z n) }

-- ---- the end

pub ends_done : {number : ℕ} {C L C' : List ℕ} → number ≡ 0 → Written sizes C L C' → Ends number C L C'
ends_done z w = record { done = λ _. w; refused = λ n. absurd (n z) }

pub ends_refused : {number : ℕ} {C L : List ℕ} → (number ≡ 0 → ⊥) → Ends number C L C
ends_refused n = record { done = λ z. absurd (n z); refused = λ _. refl }
