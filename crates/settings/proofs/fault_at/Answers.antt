-- `settings::fault_at`
use mathlib.Core.Path.{◌∙◌}
use Rattle.paper.specs.Store.{entry_at}
use Rattle.settings.proofs.Reading.{fault_kind, fault_state, fault_falls, fault_none, fault_range}
use Rattle.settings.proofs.fault_at.Goals as goal

pub returns-then-store-at-ne-KIND : goal.returns-then-store-at-ne-KIND
returns-then-store-at-ne-KIND c = fault_kind c.args.events c.args.last (entry_at c.args.store.now c.args.at) c.if-store-at-ne-KIND.true

pub returns-then-store-at-gt2 : goal.returns-then-store-at-gt2
returns-then-store-at-gt2 c = fault_state c.args.events c.args.last (entry_at c.args.store.now c.args.at) c.if-store-at-ne-KIND.false c.if-store-at-gt2.true

pub returns-then-edition_at-last : goal.returns-then-edition_at-last
returns-then-edition_at-last c = fault_falls c.args.events c.args.last (entry_at c.args.store.now c.args.at) c.if-store-at-ne-KIND.false c.if-store-at-gt2.false (rw c.edition_at.ensures at c.if-edition_at-last.true)

pub returns-then-from-events : goal.returns-then-from-events
returns-then-from-events c = fault_none c.args.events c.args.last (entry_at c.args.store.now c.args.at) c.if-store-at-ne-KIND.false c.if-store-at-gt2.false (rw c.edition_at.ensures at c.if-edition_at-last.false) (rw (c.from.ensures ∙ c.event_at.ensures) at c.if-from-events.true)

pub returns : goal.returns
returns c = fault_range c.args.events c.args.last (entry_at c.args.store.now c.args.at) c.if-store-at-ne-KIND.false c.if-store-at-gt2.false (rw c.edition_at.ensures at c.if-edition_at-last.false) (rw (c.from.ensures ∙ c.event_at.ensures) at c.if-from-events.false)
