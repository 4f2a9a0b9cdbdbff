-- `forcing::force_tree`
use Rattle.settings.specs.States.{states_in}
use Rattle.forcing.proofs.Codes.{force_made}
use Rattle.forcing.proofs.force_tree.Goals as goal

pub returns : goal.returns
returns c = force_made (states_in c.args.states.now) c.args.tree c.force_inputs.ensures
