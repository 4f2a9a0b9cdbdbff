-- `store::mixed`
use mathlib.Core.Path.{refl}
use Rattle.store.specs.Store.{mix}
use Rattle.store.proofs.Slots.{mix_below}
use Rattle.store.proofs.mixed.Goals as goal

pub returns : goal.returns
unfolding mix
returns c =
    (refl, mix_below c.args.e c.args.failed c.args.sound)
