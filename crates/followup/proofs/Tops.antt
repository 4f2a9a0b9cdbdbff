-- The bracket of a priced tree is never refused.
-- Assumes nothing.
use mathlib.Core.Path.{◌≡◌, subst}
use mathlib.Core.List.{List}
use Prim.Native.Nat.{ℕ, ◌/◌, ◌≤◌}
use native.Mathlib.Omega.{arith}
use lib.ListN.{length}
use Rattle.records.specs.declared.Tree.{Tree}
use Rattle.arrays.specs.Chances.{chances_of}
use Rattle.arrays.proofs.Chances.{chances_long}
use Rattle.bracket.specs.Bracketed.{Bracketed, Enough}
use Rattle.followup.specs.Tops.{Priced, Topped}

pub topped : {t : Tree} {T : List ℕ} {c root : ℕ} {A : List ℕ} {number place lo hi : ℕ} {L H L' H' : List ℕ} → Priced t T c root → (length T / 3 ≤ length L) × (length T / 3 ≤ length H) → A ≡ chances_of t.events
    → Bracketed t.event_count T c root A number place lo hi L H L' H' → Topped t T root number place lo hi
topped {t} {T} {c} {root} {number = number} {place} {lo} {hi} {L} {H} {L'} {H'} p (hl, hh) e b = go (subst (λ (x : List ℕ). Bracketed t.event_count T c root x number place lo hi L H L' H') e b)
  where
    enough : Enough t.event_count T (chances_of t.events) L H
    enough =
        let few = p.lent.few_events in
        let l = chances_long t.events in
        record { chances = omega arith; lows = hl; highs = hh }

    go : Bracketed t.event_count T c root (chances_of t.events) number place lo hi L H L' H' → Topped t T root number place lo hi
    go (Bracketed.no_diagram h r) = absurd (h p.lent)
    go (Bracketed.too_short v h r) = absurd (h enough)
    go (Bracketed.no_chance v w h r) = absurd (h p.chances)
    go (Bracketed.done v w h r) = record { is = r.number_is; no_place = r.no_place; low_is = r.low_is; high_is = r.high_is }
