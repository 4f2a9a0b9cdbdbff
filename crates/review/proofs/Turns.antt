-- AT MOST n NODES ENTERED for each cut found: what falls at every turn of the walk down is at most n, and so is a path's depth, which falls at every turn up.
-- Assumes nothing.
use mathlib.Core.Path.{◌≡◌, refl, ap}
use mathlib.Core.List.{List}
use Prim.Native.Nat.{ℕ, zero, suc, ◌-◌, ◌≤◌, ◌<◌}
use native.Mathlib.Omega.{arith}
use Rattle.tables.specs.Table.{event_of, failed_of, sound_of}
use Rattle.tables.specs.Lent.{Above}
use Rattle.walk.specs.Paths.{Open}
use Rattle.walk.proofs.Paths.{here, depth_low}
use Rattle.review.specs.Hopes.{events_left}

-- THE TURNS DOWN from any node
pub left_few : (n : ℕ) (T : List ℕ) (i : ℕ) → events_left n T i ≤ n
unfolding events_left
left_few n T zero = omega arith
left_few n T (suc zero) = omega arith
left_few n T (suc (suc k)) = omega arith

left_node : (n : ℕ) (T : List ℕ) (i : ℕ) → 2 ≤ i → events_left n T i ≡ n - event_of T i
unfolding events_left
left_node n T zero h = absurd (omega arith)
left_node n T (suc zero) h = absurd (omega arith)
left_node n T (suc (suc k)) h = refl

left_above : (n : ℕ) (T : List ℕ) (e b : ℕ) → e < n → Above T e b → events_left n T b < n - e
unfolding events_left
left_above n T e zero h a = omega arith
left_above n T e (suc zero) h a = omega arith
left_above n T e (suc (suc k)) h a = let l = a (omega arith) in omega arith

module _ {n : ℕ} {T : List ℕ} {c : ℕ} {P : List ℕ} {d at : ℕ} (o : Open n T c P d at) where
  -- either branch has less left
  pub left_failed : {b : ℕ} → 2 ≤ at → b ≡ failed_of T at → events_left n T b < events_left n T at
  left_failed two q = let h = left_above n T (event_of T at) (failed_of T at) (here o two).event (here o two).failed_above in let e = left_node n T at two in let r = ap (events_left n T) q in omega arith

  pub left_sound : {b : ℕ} → 2 ≤ at → b ≡ sound_of T at → events_left n T b < events_left n T at
  left_sound two q = let h = left_above n T (event_of T at) (sound_of T at) (here o two).event (here o two).sound_above in let e = left_node n T at two in let r = ap (events_left n T) q in omega arith

  -- THE TURNS UP from its end
  pub depth_few : d ≤ n
  depth_few = let a = depth_low o in let b = o.low in omega arith
