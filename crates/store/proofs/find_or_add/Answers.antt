-- `store::find_or_add`
use mathlib.Core.Logic.{inl, inr}
use native.Mathlib.Omega.{arith}
use Rattle.store.proofs.Building.{placed_old, placed_none, placed_new}
use Rattle.store.proofs.find_or_add.Goals as goal

pub returns-in-Some : goal.returns-in-Some
returns-in-Some c = inl (placed_old c.requires.store (rw c.in-Some.is at c.find.ensures))

pub returns-then-nodes-count : goal.returns-then-nodes-count
returns-then-nodes-count c =
    placed_none c.requires.store c.requires.failed_bound c.requires.sound_bound (rw c.in_default.is at c.find.ensures) c.if-nodes-count.true

pub returns : goal.returns
returns c =
    inr (placed_new c.requires.store c.requires.failed_bound c.requires.sound_bound (rw c.in_default.is at c.find.ensures) c.first_slot-h.ensures (omega arith) c.put.ensures)
