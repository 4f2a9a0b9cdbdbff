-- What an outcome that the contract allows tells: there is one.
-- Assumes nothing.
use mathlib.Core.Path.{◌≡◌, sym, ◌∙◌}
use mathlib.Core.Logic.{◌⊎◌, inl, inr}
use mathlib.Core.List.{List}
use Prim.Native.Nat.{ℕ, ◌≤◌, ◌<◌}
use lib.ListN.{get_or}
use lib.Seq.{ext_get_or}
use Rattle.store.proofs.Denotes.{below_or_not}
use Rattle.importance.specs.Weighed.{Holds, Refused, Done, Weighed, no_diagram, too_short, no_chance, done}

-- two lists of results with the same numbers in front and behind
pub same_held : {n : ℕ} {v : ℕ → ℕ} {C C₁ C₂ : List ℕ} → Holds n v C C₁ → Holds n v C C₂ → C₁ ≡ C₂
same_held {n} {v} {C} {C₁} {C₂} r s = ext_get_or 0 C₁ C₂ (r.long ∙ sym s.long) (λ i l. at i (below_or_not i n))
  where
    at : (i : ℕ) → (i < n) ⊎ (n ≤ i) → get_or C₁ i 0 ≡ get_or C₂ i 0
    at i (inl l) = r.each i l ∙ sym (s.each i l)
    at i (inr l) = r.behind i l ∙ sym (s.behind i l)

-- ---- TWO OUTCOMES COINCIDE

pub record Same (number place number' place' : ℕ) (L H R W U K L' H' R' W' U' K' : List ℕ) : Type 0 where
  pub number_same : number ≡ number'
  pub place_same : place ≡ place'
  pub lows_same : L ≡ L'
  pub highs_same : H ≡ H'
  pub rank_same : R ≡ R'
  pub down_same : W ≡ W'
  pub up_same : U ≡ U'
  pub marks_same : K ≡ K'

module _ {number place number' place' : ℕ} {L H R W U K L₁ H₁ R₁ W₁ U₁ K₁ L₂ H₂ R₂ W₂ U₂ K₂ : List ℕ} where
  same_refused : {why : ℕ} → Refused why number place L H R W U K L₁ H₁ R₁ W₁ U₁ K₁ → Refused why number' place' L H R W U K L₂ H₂ R₂ W₂ U₂ K₂
      → Same number place number' place' L₁ H₁ R₁ W₁ U₁ K₁ L₂ H₂ R₂ W₂ U₂ K₂
  same_refused r s = record {
    number_same = r.number_is ∙ sym s.number_is;
    place_same = r.no_place ∙ sym s.no_place;
    lows_same = r.lows ∙ sym s.lows;
    highs_same = r.highs ∙ sym s.highs;
    rank_same = r.rank ∙ sym s.rank;
    down_same = r.down ∙ sym s.down;
    up_same = r.up ∙ sym s.up;
    marks_same = r.marks ∙ sym s.marks;
  }

  same_done : {n : ℕ} {T : List ℕ} {root : ℕ} {A : List ℕ} → Done n T root A number place L H R W U K L₁ H₁ R₁ W₁ U₁ K₁
      → Done n T root A number' place' L H R W U K L₂ H₂ R₂ W₂ U₂ K₂ → Same number place number' place' L₁ H₁ R₁ W₁ U₁ K₁ L₂ H₂ R₂ W₂ U₂ K₂
  same_done r s = record {
    number_same = r.number_is ∙ sym s.number_is;
    place_same = r.no_place ∙ sym s.no_place;
    lows_same = same_held r.lows s.lows;
    highs_same = same_held r.highs s.highs;
    rank_same = same_held r.rank s.rank;
    down_same = r.down ∙ sym s.down;
    up_same = r.up ∙ sym s.up;
    marks_same = r.marks ∙ sym s.marks;
  }

  pub one_outcome : {n : ℕ} {T : List ℕ} {c root : ℕ} {A : List ℕ} → Weighed n T c root A number place L H R W U K L₁ H₁ R₁ W₁ U₁ K₁
      → Weighed n T c root A number' place' L H R W U K L₂ H₂ R₂ W₂ U₂ K₂ → Same number place number' place' L₁ H₁ R₁ W₁ U₁ K₁ L₂ H₂ R₂ W₂ U₂ K₂
  one_outcome (no_diagram x r) (no_diagram y s) = same_refused r s
  one_outcome (no_diagram x r) (too_short v y s) = absurd (x v)
  one_outcome (no_diagram x r) (no_chance v e y s) = absurd (x v)
  one_outcome (no_diagram x r) (done v e p s) = absurd (x v)
  one_outcome (too_short v x r) (no_diagram y s) = absurd (y v)
  one_outcome (too_short v x r) (too_short w y s) = same_refused r s
  one_outcome (too_short v x r) (no_chance w e y s) = absurd (x e)
  one_outcome (too_short v x r) (done w e p s) = absurd (x e)
  one_outcome (no_chance v e x r) (no_diagram y s) = absurd (y v)
  one_outcome (no_chance v e x r) (too_short w y s) = absurd (y e)
  one_outcome (no_chance v e x r) (no_chance w f y s) = same_refused r s
  one_outcome (no_chance v e x r) (done w f p s) = absurd (x p)
  one_outcome (done v e p r) (no_diagram y s) = absurd (y v)
  one_outcome (done v e p r) (too_short w y s) = absurd (y e)
  one_outcome (done v e p r) (no_chance w f y s) = absurd (y p)
  one_outcome (done v e p r) (done w f q s) = same_done r s
