-- Both diagrams are taken apart at the earlier of their top events. The measure is the events that remain below the higher of the two top nodes.
-- Assumes nothing.
use Rattle.tables.specs.Table.{den}
use Rattle.without.specs.Reading.{remain}
use Rattle.without.proofs.+without_nodes.Given as goal

abbrev pub decreases-without_nodes : goal.decreases-without_nodes
decreases-without_nodes l = remain (den l.cut.now l.f) (den l.nodes.now l.g)
