-- `settings::states_under`
use mathlib.Core.Path.{refl}
use native.Mathlib.Omega.{arith}
use Rattle.settings.proofs.Reading.{setting_start, setting_fits, setting_event, setting_next, setting_end}
use Rattle.settings.proofs.states_under.Goals as goal

pub loop-at-init : goal.loop-at-init
loop-at-init c = setting_start _ _ c.requires.store_value refl refl

pub take_entry-requires : goal.take_entry-requires
take_entry-requires c =
    record {
      entry_long_in_bounds = setting_fits c.loop-at.invariant c.loop-at-test.true;
      at_bound = setting_event c.loop-at.invariant c.loop-at-test.true c.requires.events_le_events;
    }

pub loop-at-preserved : goal.loop-at-preserved
loop-at-preserved c = setting_next c.loop-at.invariant c.loop-at-test.true c.requires.events_le_events c.take_entry.ensures

pub returns : goal.returns
returns c = setting_end c.loop-at.invariant c.loop-at-test.false

pub returns-2 : goal.returns-2
returns-2 c = setting_end (setting_next c.loop-at.invariant c.loop-at-test.true c.requires.events_le_events c.take_entry.ensures) (omega arith)
