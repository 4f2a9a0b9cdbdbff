-- The distinct inputs of a name, by the numbers that stand for them.
-- Assumes nothing.
use mathlib.Core.Path.{◌≡◌, refl, sym, ap, ◌∙◌}
use mathlib.Core.Logic.{inl, inr}
use mathlib.Core.Bool.{Bool, true, false, cond}
use mathlib.Core.List.{List, [], ◌∷◌, map, map-map}
use Prim.Native.Nat.{ℕ, ◌≤◌, ◌<◌}
use native.Mathlib.Omega.{arith}
use lib.ListN.{length, get_or, take}
use lib.Seq.{length-take-le}
use Rattle.paper.specs.Limits.{limits}
use Rattle.paper.specs.Lists.{In}
use Rattle.paper.specs.Trees.{Input, event, gate, distinct_inputs, InputBelow, InputsBelow}
use Rattle.paper.specs.Walks.{is_event}
use Rattle.twins.specs.Distinct.{distinct_codes, Distinct}
use Rattle.records.specs.Memory.{pad}
use Rattle.records.specs.Trees.{InputLower, InputsLower}
use Rattle.records.specs.Flattened.{code_of}
use Rattle.records.proofs.Lists.{map_length}
use Rattle.records.proofs.Pad.{pad_take, pad_length}
use Rattle.records.proofs.Codes.{distinct_codes_lem}
use Rattle.depthfirst.specs.Inputs.{inputs_of}
use Rattle.planting.specs.Orders.{input_at}
use Rattle.planting.specs.Planting.{Putable, Puts, Sortable, DistinctTold}

module _ {S I : List ℕ} {n : ℕ} {N : List ℕ} {x : ℕ} (a : Sortable S I n N x) where
  -- few enough for one gate, so for an empty array
  pub sort_putable : {size : ℕ} → size ≡ length (inputs_of S I x) → size ≤ limits.inputs → Putable S I n N x 0
  sort_putable e h = record { arrays = a.arrays; low = a.low; long = a.long; small = a.small; room = omega arith }

  below : (l : List ℕ) → ((y : ℕ) → In y l → get_or N y 0 < limits.events) → InputsBelow limits.events (map (input_at S I N) l)
  below [] h = tt
  below (y ∷ l) h = (one (is_event (inputs_of S I y)), below l (λ z k. h z (inr k)))
    where
      one : (b : Bool) → InputBelow limits.events (cond b (event (get_or N y 0)) (gate (get_or N y 0)))
      one true = h y (inl refl)
      one false = tt

  lower : (l : List ℕ) → ((y : ℕ) → In y l → get_or N y 0 < limits.events) → InputsLower limits.events (map (input_at S I N) l)
  lower [] h = tt
  lower (y ∷ l) h = (one (is_event (inputs_of S I y)), lower l (λ z k. h z (inr k)))
    where
      one : (b : Bool) → InputLower limits.events (cond b (event (get_or N y 0)) (gate (get_or N y 0)))
      one true = tt
      one false = h y (inl refl)

  -- their numbers in an empty array
  module _ {size : ℕ} (e : size ≡ length (inputs_of S I x)) {out : List ℕ} (puts : Puts S I N (inputs_of S I x) 0 (pad limits.in_all 0 []) out) where
    abbrev codes : List ℕ
    codes = map (λ y. code_of (input_at S I N y)) (inputs_of S I x)

    laid : out ≡ pad limits.in_all 0 codes
    laid = puts [] refl refl

    long : length codes ≡ size
    long = map_length (λ y. code_of (input_at S I N y)) (inputs_of S I x) ∙ sym e

    front : take size out ≡ codes
    front = ap (take size) laid ∙ ap (λ k. take k (pad limits.in_all 0 codes)) (sym long) ∙ pad_take limits.in_all 0 codes

    module _ (few : size ≤ limits.inputs) where
      pub sort_fits : size ≤ length out
      sort_fits = omega (arith, ap length laid ∙ pad_length limits.in_all 0 codes (omega (arith, long)))

      pub sort_long : size ≡ length (take size out)
      sort_long = sym (length-take-le size out sort_fits)

      pub sort_few : length (take size out) ≤ limits.inputs
      sort_few = omega (arith, sort_long)

    -- the number of distinct numbers at the front of the array is that of the distinct inputs
    pub sort_told : {own : List ℕ} {r : ℕ} → Distinct (take size out) own r → DistinctTold S I N x r
    sort_told d small =
        let is : List Input = map (input_at S I N) (inputs_of S I x) in
        d.count ∙ ap (λ l. length (distinct_codes l)) (front ∙ sym (map-map code_of (input_at S I N) (inputs_of S I x)))
        ∙ ap length (distinct_codes_lem limits.events (omega arith) limits.events is (below (inputs_of S I x) a.small) (lower (inputs_of S I x) a.small)) ∙ map_length code_of (distinct_inputs is)

  -- more than one gate may have
  pub sort_many : {size : ℕ} → size ≡ length (inputs_of S I x) → limits.inputs < size → DistinctTold S I N x size
  sort_many e h small = absurd (omega arith)
