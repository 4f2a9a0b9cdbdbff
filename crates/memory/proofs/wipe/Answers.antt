-- `memory::wipe` meets its contract: each area is cleared. Assumes nothing.
use borrow.Author.Rules.{rules}
use Rattle.memory.proofs.wipe.Goals as goal

pub returns : goal.returns
returns c =
    record { nodes = c.clear.ensures; cuts = c.clear-2.ensures; gates = c.clear-3.ensures; added = c.clear-4.ensures; memo = c.clear-5.ensures; heads = c.clear-6.ensures; next = c.clear-7.ensures; marks = c.clear-8.ensures; own = c.clear-9.ensures }
