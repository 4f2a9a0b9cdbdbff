-- `rules::judge::next` meets its contract.
-- Assumes nothing.
use mathlib.Core.Path.{◌≡◌}
use Prim.Native.Nat.{◌-◌}
use native.Mathlib.Nat.{le_of_eq}
use lib.ListN.{length, take, drop, length-take, length-drop}
use native.Mathlib.Omega.{arith}
use Rattle.rules.proofs.Cases.{width_le}
use lib.Seq.{take_all}
use Rattle.rules.specs.Rules.{step_of}
use Rattle.rules.proofs.judge.next.Goals as goal

pub admit-requires : goal.admit-requires
admit-requires c = let b = c.args.bytes.now in let at = c.args.s.at in let w = width_le (take (length b - at) (drop at b)) in (c.requires.0, rw c.decode.ensures (omega (arith, simp (length-take, length-drop) at w)))

pub returns : goal.returns
unfolding step_of
returns c = let b = c.args.bytes.now in let at = c.args.s.at in let whole : take (length b - at) (drop at b) ≡ drop at b = take_all (length b - at) (drop at b) (le_of_eq (length-drop at b)) in rw (← whole) (rw c.decode.ensures at c.admit.ensures)
