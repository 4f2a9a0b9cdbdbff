-- What a number in memory stands for: an event, a gate, or an event that is forced.
-- Assumes nothing.
use mathlib.Core.Path.{◌≡◌, refl}
use mathlib.Core.Bool.{Bool, true, false}
use Prim.Native.Nat.{ℕ, ◌-◌, ◌≤◌, ◌<◌}
use native.Mathlib.Omega.{arith}
use lib.Dec.{ltb}
use borrow.Author.Tests.{ltb-true, ltb-false, lt-ltb, le-ltb}
use Rattle.paper.specs.Trees.{event, gate, forced}
use Rattle.paper.specs.Flat.{gates_from, failed_from, sound_from, input_of}

module _ (code : ℕ) where
  pub is_event_lem : code < gates_from → input_of code ≡ event code
  is_event_lem h = rw (lt-ltb code gates_from h)

  pub is_gate : gates_from ≤ code → code < failed_from → input_of code ≡ gate (code - gates_from)
  is_gate h l = rw (le-ltb code gates_from h, lt-ltb code failed_from l)

  pub is_failed : failed_from ≤ code → code < sound_from → input_of code ≡ forced (code - failed_from) true
  is_failed h l = rw (le-ltb code gates_from (omega arith), le-ltb code failed_from h, lt-ltb code sound_from l)

  pub is_sound : sound_from ≤ code → input_of code ≡ forced (code - sound_from) false
  is_sound h = rw (le-ltb code gates_from (omega arith), le-ltb code failed_from (omega arith), le-ltb code sound_from h)

  -- one of the four
  pub data Stands : Type 0 where
    an_event : code < gates_from → input_of code ≡ event code → Stands
    a_gate : gates_from ≤ code → code < failed_from → input_of code ≡ gate (code - gates_from) → Stands
    failed_event : failed_from ≤ code → code < sound_from → input_of code ≡ forced (code - failed_from) true → Stands
    sound_event : sound_from ≤ code → input_of code ≡ forced (code - sound_from) false → Stands

  pub stands : Stands
  stands = go (ltb code gates_from) refl (ltb code failed_from) refl (ltb code sound_from) refl
    where
      go : (a : Bool) → ltb code gates_from ≡ a → (b : Bool) → ltb code failed_from ≡ b → (c : Bool) → ltb code sound_from ≡ c → Stands
      go true p b q c r = let h = ltb-true code gates_from p in an_event h (is_event_lem h)
      go false p true q c r = let h = ltb-false code gates_from p in let l = ltb-true code failed_from q in a_gate h l (is_gate h l)
      go false p false q true r = let h = ltb-false code failed_from q in let l = ltb-true code sound_from r in failed_event h l (is_failed h l)
      go false p false q false r = let h = ltb-false code sound_from r in sound_event h (is_sound h)
