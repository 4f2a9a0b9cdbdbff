-- `remaining::nodes::read_node` meets its contract. Assumes nothing.
use Rattle.remaining.proofs.Marking.{reads}
use Rattle.remaining.proofs.nodes.read_node.Goals as goal

pub returns : goal.returns
returns c = reads c.requires.0 c.requires.1 c.event_of-event.ensures c.failed_of-failed.ensures c.sound_of-sound.ensures
