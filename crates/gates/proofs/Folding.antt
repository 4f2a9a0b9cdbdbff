-- The loop that joins inputs from left to right.
-- Assumes nothing.
use mathlib.Core.Path.{◌≡◌, sym, ap₂, subst}
use mathlib.Core.Bool.{false}
use mathlib.Core.List.{List, [], ◌∷◌, map}
use Prim.Native.Nat.{ℕ, ◌+◌, ◌≤◌, ◌<◌}
use native.Mathlib.Omega.{arith}
use lib.ListN.{length, take, get_or}
use lib.Seq.{take_all}
use Rattle.paper.specs.Lists.{In}
use Rattle.paper.specs.Diagrams.{Diagram, leaf}
use Rattle.algebra.specs.Operations.{join_d}
use Rattle.tables.specs.Table.{den}
use Rattle.store.specs.Building.{Part, PartOf, Found, Stops}
use Rattle.store.proofs.Building.{stops_more}
use Rattle.pairs.specs.Pairs.{bit}
use Rattle.joins.specs.Joins.{Ready, Joined}
use Rattle.gates.specs.Kinds.{join_all_d, join_steps_d}
use Rattle.atleast.specs.Making.{All, Row, Within, Held, Made, Gained}
use Rattle.gates.proofs.Joining.{join_next, steps_next, steps_front, join_first, steps_first}
use Rattle.atleast.proofs.Making.{all_one, row_here, row_grown, map_long, made_here, made_one, made_seq, made_stops, stops_one, part_more}

-- the first i inputs are joined
pub record Joining (z : ℕ) (ds : List Diagram) (T : List ℕ) (c : ℕ) (xs : List ℕ) (i : ℕ) (T₁ H₁ X₁ M₁ : List ℕ) (c₁ r : ℕ) : Type 0 where
  pub low : 1 ≤ i
  pub high : i ≤ length xs
  pub same : length xs ≡ length ds
  pub row : Row T₁ c₁ ds xs
  pub gained : Gained (join_steps_d (bit z) (take i ds)) (join_all_d (bit z) (take i ds)) T c T₁ H₁ X₁ M₁ c₁ r

pub joining_start : (z : ℕ) {T H X M : List ℕ} {c : ℕ} {xs : List ℕ} → Held T H X M c → Within c xs → 1 ≤ length xs
    → Joining z (map (den T) xs) T c xs 1 T H X M c (get_or xs 0 0)
joining_start z {T} {H} {X} {M} {c} {xs} h w some =
    let row : Row T c (map (den T) xs) xs = row_here w in
    let long = map_long T xs in
    let some' : 1 ≤ length (map (den T) xs) = omega arith in
    let first = row.each 0 (omega arith) in
    record {
      low = omega arith;
      high = some;
      same = sym long;
      row = row;
      gained = record {
        made = made_here h.store (subst (All T c) (sym (steps_first (bit z) (map (den T) xs) some')) (all_one first));
        held = h;
        found = subst (λ d. Found T c d (get_or xs 0 0)) (sym (join_first (bit z) (map (den T) xs) some')) first;
      };
    }

module _ {z : ℕ} {ds : List Diagram} {T : List ℕ} {c : ℕ} {xs : List ℕ} {i : ℕ} {T₁ H₁ X₁ M₁ : List ℕ} {c₁ r : ℕ}
    (a : Joining z ds T c xs i T₁ H₁ X₁ M₁ c₁ r) where
  module _ (l : i < length xs) where
    inside : i < length ds
    inside = let e = a.same in omega arith

    pub joining_ready : z < 2 → Ready T₁ H₁ X₁ M₁ c₁ z r (get_or xs i 0)
    joining_ready b = let h = a.gained.held in record {
      store = h.store;
      tidy = h.tidy;
      memo = h.memo;
      z_bit = b;
      f_in = a.gained.found.within;
      g_in = (a.row.each i inside).within;
    }

    -- the next partial result
    abbrev next : Diagram
    next = join_d (bit z) (join_all_d (bit z) (take i ds)) (get_or ds i (leaf false))

    is_next : join_d (bit z) (den T₁ r) (den T₁ (get_or xs i 0)) ≡ next
    is_next = ap₂ (join_d (bit z)) a.gained.found.is (a.row.each i inside).is

    pub joining_next : {T₂ H₂ X₂ M₂ : List ℕ} {c₂ r₂ : ℕ} → Joined T₁ M₁ c₁ (join_d (bit z) (den T₁ r) (den T₁ (get_or xs i 0))) T₂ H₂ X₂ M₂ c₂ r₂
        → Joining z ds T c xs (i + 1) T₂ H₂ X₂ M₂ c₂ r₂
    joining_next {T₂} {H₂} {X₂} {M₂} {c₂} {r₂} b =
        let j = subst (λ d. Joined T₁ M₁ c₁ d T₂ H₂ X₂ M₂ c₂ r₂) is_next b in
        let s = j.makes.step in
        record {
          low = omega arith;
          high = omega arith;
          same = a.same;
          row = row_grown a.gained.held.store.lower s.grown a.row;
          gained = record {
            made = subst (λ es. Made es T c T₂ H₂ X₂ c₂) (sym (steps_next (bit z) ds i a.low inside)) (made_seq (next ∷ []) a.gained.made (made_one j.makes));
            held = record { store = s.store; tidy = j.tidy; memo = j.memo };
            found = subst (λ d. Found T₂ c₂ d r₂) (sym (join_next (bit z) ds i a.low inside)) j.makes.found;
          };
        }

    pub joining_short : {T₂ H₂ X₂ : List ℕ} {c₂ : ℕ} → Stops (Part (join_d (bit z) (den T₁ r) (den T₁ (get_or xs i 0)))) T₁ c₁ T₂ H₂ X₂ c₂
        → Stops (PartOf (join_steps_d (bit z) ds)) T c T₂ H₂ X₂ c₂
    joining_short {T₂} {H₂} {X₂} {c₂} b =
        let s = subst (λ d. Stops (Part d) T₁ c₁ T₂ H₂ X₂ c₂) is_next b in
        stops_more (part_more (λ d h. steps_front (bit z) d (i + 1) ds (omega arith) (let m = inside in omega arith) (subst (λ es. In d es) (sym (steps_next (bit z) ds i a.low inside)) h)))
        (made_stops (next ∷ []) a.gained.made (stops_one s))

  pub joining_end : length xs ≤ i → Gained (join_steps_d (bit z) ds) (join_all_d (bit z) ds) T c T₁ H₁ X₁ M₁ c₁ r
  joining_end l =
      let e : take i ds ≡ ds = take_all i ds (let q = a.same in omega arith) in
      subst (λ es. Gained (join_steps_d (bit z) es) (join_all_d (bit z) es) T c T₁ H₁ X₁ M₁ c₁ r) e a.gained
