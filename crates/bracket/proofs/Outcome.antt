-- What an outcome that the contract allows tells: there is one; and one with number 0 brackets the exact chance.
-- Assumes nothing.
use mathlib.Core.Path.{◌≡◌, sym, ◌∙◌, subst, subst₂}
use mathlib.Core.Bool.{false}
use mathlib.Core.List.{List}
use Prim.Native.Nat.{ℕ, suc, ◌-◌, ◌≤◌, ◌<◌}
use native.Mathlib.Omega.{arith}
use Rattle.paper.specs.Limits.{billion}
use Rattle.paper.specs.Functions.{depends_on}
use Rattle.paper.specs.Diagrams.{Diagram, eval, Ordered}
use Rattle.paper.specs.Chance.{total, low, high, standing, Brackets}
use Rattle.algebra.proofs.Bracket.{bracket}
use Rattle.algebra.proofs.Depends.{standing_depends}
use Rattle.algebra.proofs.SameChance.{same_low, same_high}
use Rattle.tables.specs.Table.{den}
use Rattle.tables.specs.Stored.{Unique}
use Rattle.tables.specs.Lent.{Lent}
use Rattle.tables.proofs.Lent.{root_ordered}
use Rattle.tables.proofs.Once.{lent_good}
use Rattle.bracket.specs.Bracketed.{chance_in, Chances, Refused, Done, Bracketed, no_diagram, too_short, no_chance, done}

-- ---- TWO OUTCOMES COINCIDE

pub record Same (number place lo hi number' place' lo' hi' : ℕ) (L H L' H' : List ℕ) : Type 0 where
  pub number_same : number ≡ number'
  pub place_same : place ≡ place'
  pub low_same : lo ≡ lo'
  pub high_same : hi ≡ hi'
  pub lows_same : L ≡ L'
  pub highs_same : H ≡ H'

module _ {number place lo hi number' place' lo' hi' : ℕ} {L H L₁ H₁ L₂ H₂ : List ℕ} where
  same_refused : {why : ℕ} → Refused why number place lo hi L H L₁ H₁ → Refused why number' place' lo' hi' L H L₂ H₂ → Same number place lo hi number' place' lo' hi' L₁ H₁ L₂ H₂
  same_refused r s = record {
    number_same = r.number_is ∙ sym s.number_is;
    place_same = r.no_place ∙ sym s.no_place;
    low_same = r.no_low ∙ sym s.no_low;
    high_same = r.no_high ∙ sym s.no_high;
    lows_same = r.lows ∙ sym s.lows;
    highs_same = r.highs ∙ sym s.highs;
  }

  same_done : {T : List ℕ} {root : ℕ} {A : List ℕ} → Done T root A number place lo hi L H L₁ H₁ → Done T root A number' place' lo' hi' L H L₂ H₂
      → Same number place lo hi number' place' lo' hi' L₁ H₁ L₂ H₂
  same_done r s = record {
    number_same = r.number_is ∙ sym s.number_is;
    place_same = r.no_place ∙ sym s.no_place;
    low_same = r.low_is ∙ sym s.low_is;
    high_same = r.high_is ∙ sym s.high_is;
    lows_same = r.lows ∙ sym s.lows;
    highs_same = r.highs ∙ sym s.highs;
  }

  pub one_outcome : {n : ℕ} {T : List ℕ} {c root : ℕ} {A : List ℕ} → Bracketed n T c root A number place lo hi L H L₁ H₁
      → Bracketed n T c root A number' place' lo' hi' L H L₂ H₂ → Same number place lo hi number' place' lo' hi' L₁ H₁ L₂ H₂
  one_outcome (no_diagram x r) (no_diagram y s) = same_refused r s
  one_outcome (no_diagram x r) (too_short v y s) = absurd (x v)
  one_outcome (no_diagram x r) (no_chance v e y s) = absurd (x v)
  one_outcome (no_diagram x r) (done v e p s) = absurd (x v)
  one_outcome (too_short v x r) (no_diagram y s) = absurd (y v)
  one_outcome (too_short v x r) (too_short w y s) = same_refused r s
  one_outcome (too_short v x r) (no_chance w e y s) = absurd (x e)
  one_outcome (too_short v x r) (done w e p s) = absurd (x e)
  one_outcome (no_chance v e x r) (no_diagram y s) = absurd (y v)
  one_outcome (no_chance v e x r) (too_short w y s) = absurd (y e)
  one_outcome (no_chance v e x r) (no_chance w f y s) = same_refused r s
  one_outcome (no_chance v e x r) (done w f p s) = absurd (x p)
  one_outcome (done v e p r) (no_diagram y s) = absurd (y v)
  one_outcome (done v e p r) (too_short w y s) = absurd (y e)
  one_outcome (done v e p r) (no_chance w f y s) = absurd (y p)
  one_outcome (done v e p r) (done w f q s) = same_done r s

-- ---- THE BRACKET

-- n = k + 1 events
encloses_at : (k n : ℕ) → n ≡ suc k → (a : ℕ → ℕ) → ((i : ℕ) → i < n → a i ≤ billion) → (d : Diagram) → Ordered 0 n d
    → Brackets billion (n - 1) (total billion a n 0 (eval d)) (standing n 0 d) (low billion a d) (high billion a d)
encloses_at k n q a h d o =
    let p : k ≡ n - 1 = omega arith in
    subst₂ (λ n j. Brackets billion j (total billion a n 0 (eval d)) (standing n 0 d) (low billion a d) (high billion a d)) (sym q) p
    (bracket billion a (omega arith) k (λ i l. h i (omega arith)) d (subst (λ n. Ordered 0 n d) q o))

-- a done answer: any diagram that passes, monotone or not, equal nodes or not
module _ {n : ℕ} {T : List ℕ} {c root : ℕ} {A : List ℕ} {number place lo hi : ℕ} {L H L' H' : List ℕ} where
  of_done : Lent false n T c root → Chances n A → Done T root A number place lo hi L H L' H'
      → Brackets billion (n - 1) (total billion (chance_in A) n 0 (eval (den T root))) (standing n 0 (den T root)) lo hi
  of_done v p r =
      let some = v.some_event in
      rw (r.low_is, r.high_is) (encloses_at (n - 1) n (omega arith) (chance_in A) p.each (den T root) (root_ordered v))

  -- L counts the events in nodes reached from the root
  pub encloses : Bracketed n T c root A number place lo hi L H L' H' → number ≡ 0
      → Brackets billion (n - 1) (total billion (chance_in A) n 0 (eval (den T root))) (standing n 0 (den T root)) lo hi
  encloses (no_diagram x r) q = let w = r.number_is in absurd (omega arith)
  encloses (too_short v x r) q = let w = r.number_is in absurd (omega arith)
  encloses (no_chance v e x r) q = let w = r.number_is in absurd (omega arith)
  encloses (done v e p r) q = of_done v p r

  -- of a table without equal nodes, as a built one, L is the number of events that the root's function depends on
  pub encloses_built : Unique T c → Bracketed n T c root A number place lo hi L H L' H' → number ≡ 0
      → Brackets billion (n - 1) (total billion (chance_in A) n 0 (eval (den T root))) (depends_on n (eval (den T root))) lo hi
  encloses_built unique b q = go b (encloses b q)
    where
      go : Bracketed n T c root A number place lo hi L H L' H'
          → Brackets billion (n - 1) (total billion (chance_in A) n 0 (eval (den T root))) (standing n 0 (den T root)) lo hi
          → Brackets billion (n - 1) (total billion (chance_in A) n 0 (eval (den T root))) (depends_on n (eval (den T root))) lo hi
      go (no_diagram x r) w = let w = r.number_is in absurd (omega arith)
      go (too_short v x r) w = let w = r.number_is in absurd (omega arith)
      go (no_chance v e x r) w = let w = r.number_is in absurd (omega arith)
      go (done v e p r) w =
          let (o, d) = lent_good v unique root v.root_in in
          subst (λ m. Brackets billion (n - 1) (total billion (chance_in A) n 0 (eval (den T root))) m lo hi) (standing_depends n (den T root) o d) w

-- ---- the numbers of a function: two diagrams of one function of n events get the same ends
module _ {n : ℕ} {T T' : List ℕ} {c c' root root' : ℕ} {A : List ℕ} {number place lo hi number' place' lo' hi' : ℕ} {L H L₁ H₁ L' H' L₂ H₂ : List ℕ} where
  pub same_ends : Lent false n T c root → Lent false n T' c' root' → Chances n A → eval (den T root) ≡ eval (den T' root')
      → Done T root A number place lo hi L H L₁ H₁ → Done T' root' A number' place' lo' hi' L' H' L₂ H₂ → (lo ≡ lo') × (hi ≡ hi')
  same_ends v w p e r s = (
    r.low_is ∙ same_low billion n (chance_in A) (omega arith) p.each (den T root) (den T' root') (root_ordered v) (root_ordered w) e ∙ sym s.low_is,
    r.high_is ∙ same_high billion n (chance_in A) (omega arith) p.each (den T root) (den T' root') (root_ordered v) (root_ordered w) e ∙ sym s.high_is,
  )
