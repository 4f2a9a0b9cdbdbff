-- The answers of the call, from what its tests showed.
-- Assumes nothing.
use mathlib.Core.Path.{◌≡◌, refl}
use mathlib.Core.Bool.{false}
use mathlib.Core.List.{List}
use Prim.Native.Nat.{ℕ, ◌≤◌}
use native.Mathlib.Omega.{arith}
use lib.ListN.{length}
use Rattle.tables.specs.Lent.{Lent}
use Rattle.bracket.specs.Bracketed.{Enough, Chances, Refused}
use Rattle.bracket.specs.Pass.{Priced}

-- a refusal that left the work areas as they were
pub refused_now : {why number place lo hi : ℕ} {L H : List ℕ} → (number ≡ why) × (place ≡ 0) × (lo ≡ 0) × (hi ≡ 0) → Refused why number place lo hi L H L H
refused_now r = record { number_is = r.0; no_place = r.1; no_low = r.2; no_high = r.3; lows = refl; highs = refl }

-- all checks are passed
pub can_fill : {n : ℕ} {T : List ℕ} {c root : ℕ} {A L H : List ℕ} → Lent false n T c root → Enough n T A L H → Chances n A
    → (Priced n T c root A) × (c ≤ length L) × (c ≤ length H)
can_fill v e p =
    let f = v.fits in
    let lows = e.lows in
    let highs = e.highs in
    (record { lent = v; enough = e.chances; chances = p }, omega arith, omega arith)
