-- `planting::check_event` meets its contract. Assumes nothing.
use Rattle.planting.proofs.Sowing.{event_many, event_high, event_fine}
use Rattle.planting.proofs.check_event.Goals as goal

pub returns-then-e-ge-EVENTS : goal.returns-then-e-ge-EVENTS
returns-then-e-ge-EVENTS c = event_many _ c.if-e-ge-EVENTS.true

pub returns-then-chance-gt-BILLION : goal.returns-then-chance-gt-BILLION
returns-then-chance-gt-BILLION c = event_high c.if-e-ge-EVENTS.false c.if-chance-gt-BILLION.true

pub returns : goal.returns
returns c = event_fine c.if-e-ge-EVENTS.false c.if-chance-gt-BILLION.false
