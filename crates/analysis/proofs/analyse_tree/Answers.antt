-- `analysis::analyse_tree` meets its contract: 9, or what filling promises. Assumes nothing.
use mathlib.Core.Path.{refl}
use Rattle.analysis.specs.Filling.{Tried}
use Rattle.analysis.proofs.Flags.{denied, granted}
use Rattle.paper.specs.declared.refusal.Refusal.TheVariants.{Length}
use Rattle.memory.proofs.Refusing.{refuses}
use borrow.Author.Rules.{rules}
use Rattle.analysis.proofs.analyse_tree.Goals as goal

pub returns-then-not-lengths_ok : goal.returns-then-not-lengths_ok
returns-then-not-lengths_ok c =
    Tried.bad_length (denied c.lengths_ok.result c.lengths_ok.ensures c.if-not-lengths_ok.true-raw) (refuses Length 0) refl

pub fill-requires : goal.fill-requires
fill-requires c =
    record {
      buildable = c.requires;
      lengths = granted c.lengths_ok.result c.lengths_ok.ensures c.if-not-lengths_ok.false-raw;
    }

pub returns : goal.returns
returns c =
    Tried.filled (granted c.lengths_ok.result c.lengths_ok.ensures c.if-not-lengths_ok.false-raw) c.fill.ensures
