-- `gates::inputs::event_node`
use Rattle.gates.proofs.Rows.{event_made}
use Rattle.gates.proofs.inputs.event_node.Goals as goal

pub returns : goal.returns
returns c = event_made c.args.e c.requires c.find_or_add.new.nodes c.find_or_add.new.heads c.find_or_add.new.next c.find_or_add.result c.find_or_add.ensures
