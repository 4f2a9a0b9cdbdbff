-- `store::first_slot`
use mathlib.Core.Path.{ap₂}
use Prim.Native.Nat.{◌*◌, ◌/◌, ◌%◌}
use native.Mathlib.Omega.{arith}
use Rattle.store.specs.Store.{first_slot}
use Rattle.store.proofs.Slots.{scaled_fits, scaled_below}
use borrow.Author.Rules.{rules}
use Rattle.store.proofs.first_slot.Goals as goal

pub returns : goal.returns
unfolding first_slot
returns c =
    let slots = c.args.slots in
    record {
      is = ap₂ (λ x z. x * z % 4294967296 * (slots % 4294967296) / 4294967296) c.mixed-x.ensures.0 c.mixed.ensures.0;
      below = scaled_below (c.mixed-x.result * c.mixed.result % 4294967296) (slots % 4294967296) slots (omega arith) (omega arith) c.requires;
    }
