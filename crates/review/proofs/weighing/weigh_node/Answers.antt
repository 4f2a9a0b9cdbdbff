-- `review::weighing::weigh_node` meets its contract. Assumes nothing.
use mathlib.Core.Path.{◌≡◌, refl, ap, ap₂, ◌∙◌}
use mathlib.Core.Bool.{Bool, true, false, cond}
use mir.Val.{bool_byte}
use Prim.Native.Nat.{ℕ, ◌+◌, ◌-◌, min}
use native.Mathlib.Nat.{min-le_right}
use native.Mathlib.Omega.{arith}
use lib.ListN.{set}
use Rattle.tables.proofs.Lent.{lent_node}
use Rattle.walk.proofs.Paths.{rooted}
use Rattle.review.proofs.Weights.{fews_next, picks_next, picks_fewer, few_small}
use Rattle.review.proofs.weighing.weigh_node.Goals as goal

-- 1 for yes
flagged : {x : ℕ} (b : Bool) → x ≡ bool_byte b → x ≡ cond b 1 0
flagged true e = e
flagged false e = e

pub event_of-e-requires : goal.event_of-e-requires
event_of-e-requires c = (c.requires.1, omega (arith, c.requires.0.fits, c.requires.0.root_in, c.requires.1))

pub failed_of-f-requires : goal.failed_of-f-requires
failed_of-f-requires c = (c.requires.1, omega (arith, c.requires.0.fits, c.requires.0.root_in, c.requires.1))

pub sound_of-s-requires : goal.sound_of-s-requires
sound_of-s-requires c = (c.requires.1, omega (arith, c.requires.0.fits, c.requires.0.root_in, c.requires.1))

pub few_in-x-requires : goal.few_in-x-requires
few_in-x-requires c = λ h. omega (arith, (lent_node c.requires.0 c.requires.1 c.requires.0.root_in).failed, c.failed_of-f.ensures, c.requires.2.room, c.requires.0.root_in)

pub overflow_add-x : goal.overflow_add-x
overflow_add-x c = let h = few_small c.requires.2 c.failed_of-f.result (omega (arith, (lent_node c.requires.0 c.requires.1 c.requires.0.root_in).failed, c.failed_of-f.ensures)) in omega (arith, c.few_in-x.ensures)

pub few_in-y-requires : goal.few_in-y-requires
few_in-y-requires c = λ h. omega (arith, (lent_node c.requires.0 c.requires.1 c.requires.0.root_in).sound, c.sound_of-s.ensures, c.requires.2.room, c.requires.0.root_in)

pub likelier-b-requires : goal.likelier-b-requires
likelier-b-requires c = (omega (arith, (lent_node c.requires.0 c.requires.1 c.requires.0.root_in).event, c.event_of-e.ensures), rooted c.requires.0 c.failed_of-f.result (omega (arith, (lent_node c.requires.0 c.requires.1 c.requires.0.root_in).failed, c.failed_of-f.ensures, c.requires.0.root_in)), rooted c.requires.0 c.sound_of-s.result (omega (arith, (lent_node c.requires.0 c.requires.1 c.requires.0.root_in).sound, c.sound_of-s.ensures, c.requires.0.root_in)), picks_fewer c.requires.3 (omega (arith, (lent_node c.requires.0 c.requires.1 c.requires.0.root_in).failed, c.failed_of-f.ensures)), picks_fewer c.requires.3 (omega (arith, (lent_node c.requires.0 c.requires.1 c.requires.0.root_in).sound, c.sound_of-s.ensures)))

pub overflow_cast-few : goal.overflow_cast-few
overflow_cast-few c = let h = few_small c.requires.2 c.sound_of-s.result (omega (arith, (lent_node c.requires.0 c.requires.1 c.requires.0.root_in).sound, c.sound_of-s.ensures)) in omega (arith, c.min.ensures, c.few_in-y.ensures, min-le_right (c.few_in-x.result + 1) c.few_in-y.result)

pub offset_bounds-few-i : goal.offset_bounds-few-i
offset_bounds-few-i c = omega (arith, c.requires.2.room, c.requires.0.root_in, c.requires.1, c.well_formed)

pub bounds-few-i : goal.bounds-few-i
bounds-few-i c = omega (arith, c.requires.2.room, c.requires.0.root_in, c.requires.1)

pub offset_bounds-picks-i : goal.offset_bounds-picks-i
offset_bounds-picks-i c = omega (arith, c.requires.3.room, c.requires.0.root_in, c.requires.1, c.well_formed)

pub bounds-picks-i : goal.bounds-picks-i
bounds-picks-i c = omega (arith, c.requires.3.room, c.requires.0.root_in, c.requires.1)

pub returns : goal.returns
returns c = (fews_next c.requires.0 c.requires.1 c.requires.0.root_in c.failed_of-f.ensures c.sound_of-s.ensures c.requires.2 (ap (set c.args.few.now (c.args.i - 2)) (c.min.ensures ∙ ap₂ (λ x y. min (x + 1) y) c.few_in-x.ensures c.few_in-y.ensures)), picks_next c.requires.0 c.requires.1 c.requires.0.root_in c.args.chances.now c.likelier-b.result c.event_of-e.ensures c.failed_of-f.ensures c.sound_of-s.ensures c.requires.3 c.likelier-b.ensures (flagged c.likelier-b.result c.from.ensures) refl)
