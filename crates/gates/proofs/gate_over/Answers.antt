-- `gates::gate_over`
use mathlib.Core.Path.{sym}
use mathlib.Core.List.{map}
use Prim.Native.Nat.{ℕ}
use lib.ListN.{length-replicate}
use Rattle.std.proofs.lemmas.Result.{err_from_is_err_and}
use Rattle.tables.specs.Table.{den}
use Rattle.paper.specs.Flat.{input_of}
use Rattle.gates.proofs.ByKind.{gate_held, row_fits, row_long, row_some, row_within, gate_gains, gate_short}
use Rattle.gates.proofs.gate_over.Goals as goal

pub combined-requires : goal.combined-requires
combined-requires c =
    let a = c.in_ok-used.ensures in
    let h = c.requires.held in
    let w = c.requires.own in
    let G = c.args.gates.now in
    let own = c.args.inputs.now in
    record {
      held = gate_held G own h w a;
      within = row_within G own h w a;
      in_bounds = row_some G own h w a;
      k_le_inputs = c.requires.k_le_inputs;
    }

pub returns : goal.returns
returns c =
    let a = c.in_ok-used.ensures in
    gate_gains c.args.gates.now c.args.inputs.now c.requires.held c.requires.own a c.args.kind c.args.k c.combined.new.nodes c.combined.new.heads c.combined.new.next c.combined.new.memo c.combined.result c.combined.ensures

pub returns-in_err-used : goal.returns-in_err-used
returns-in_err-used c =
    let e = err_from_is_err_and c.from_residual.result c.from_residual.ensures.1 in
    rw (e.1, e.2) (gate_short (map (den c.args.nodes.now) c.args.gates.now) c.args.kind c.args.k (map input_of c.args.inputs.now) c.in_err-used.ensures)
