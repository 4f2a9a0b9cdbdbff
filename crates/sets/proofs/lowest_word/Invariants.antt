-- `sets::lowest_word` meets its contract: before word k no event from `from` words on is a member. Assumes nothing.
use Prim.Native.Nat.{ℕ, ◌*◌, ◌≤◌, ◌<◌}
use mathlib.Core.Bool.{false}
use mathlib.Core.Path.{◌≡◌}
use Rattle.sets.specs.Words.{set_of}
use Rattle.sets.proofs.lowest_word.Given as goal

abbrev pub invariant-loop-k : goal.invariant-loop-k
invariant-loop-k l = (j : ℕ) → j < l.k * 64 → l.from * 64 ≤ j → set_of l.ws j ≡ false
