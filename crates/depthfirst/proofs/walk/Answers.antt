-- `depthfirst::walk` meets its contract. Assumes nothing.
use native.Mathlib.Omega.{arith}
use mathlib.Core.Path.{refl}
use Rattle.depthfirst.proofs.All.{rooms_kept, idle_clear, walks_of}
use Rattle.depthfirst.proofs.walk.Goals as goal

pub clear-requires : goal.clear-requires
clear-requires c = c.requires.rooms.marks

pub walk_on-requires : goal.walk_on-requires
walk_on-requires c =
    record {
      arrays = c.requires.arrays;
      rooms = rooms_kept c.requires.rooms c.clear.auto.mark refl refl refl;
      idle = idle_clear c.args.starts.now c.args.inputs.now c.args.order.now (omega (arith, c.clear.auto.mark, c.requires.rooms.marks)) c.clear.ensures;
      root_lt_count = c.requires.root_lt_count;
    }

pub returns : goal.returns
returns c = walks_of c.args.starts.now c.args.inputs.now c.args.count c.args.root c.requires.root_lt_count _ _ _ c.walk_on.result (omega (arith, c.walk_on.auto.mark, c.clear.auto.mark, c.requires.rooms.marks)) c.walk_on.ensures
