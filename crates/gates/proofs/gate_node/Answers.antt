-- `gates::gate_node` meets its contract. Assumes nothing.
use mathlib.Core.Path.{◌≡◌}
use mathlib.Core.List.{map}
use lib.ListN.{take}
use Rattle.tables.specs.Table.{den}
use Rattle.paper.specs.Flat.{input_of}
use Rattle.gates.proofs.ByKind.{gains_counted}
use Rattle.gates.proofs.Counted.{all_of_and, all_of_or, distinct_of_least, found_own}
use Rattle.gates.specs.Rules.{counted}
use Rattle.gates.proofs.gate_node.Goals.{then-kind-eq-AND-via-then-kind-eq-AND, then-kind-eq-AND-via-else-kind-eq-AND+then-kind-eq-OR}
use Rattle.gates.proofs.gate_node.Goals as goal

pub returns-then-kind-eq-AND : goal.returns-then-kind-eq-AND
returns-then-kind-eq-AND c =
    let is = map input_of c.args.inputs.now in
    let all : is ≡ counted c.args.kind is = elim c.then-kind-eq-AND.branch [
      | then-kind-eq-AND-via-then-kind-eq-AND w ↦ all_of_and is w.if-kind-eq-AND.true
      | then-kind-eq-AND-via-else-kind-eq-AND+then-kind-eq-OR w ↦ all_of_or is w.if-kind-eq-AND.false w.if-kind-eq-OR.true
    ] in
    gains_counted (map (den c.args.nodes.now) c.args.gates.now) c.args.kind c.args.k is c.args.nodes.now c.args.count c.gate_over.new.nodes c.gate_over.new.heads c.gate_over.new.next c.gate_over.new.memo c.gate_over.result
    is all c.gate_over.ensures

pub gate_over-requires-2 : goal.gate_over-requires-2
gate_over-requires-2 c =
    record {
      held = c.requires.held;
      within = c.requires.within;
      own = found_own c.distinct-n.ensures c.requires.own;
      k_le_inputs = c.requires.k_le_inputs;
    }

pub returns : goal.returns
returns c =
    let is = map input_of c.args.inputs.now in
    gains_counted (map (den c.args.nodes.now) c.args.gates.now) c.args.kind c.args.k is c.args.nodes.now c.args.count c.gate_over-2.new.nodes c.gate_over-2.new.heads c.gate_over-2.new.next c.gate_over-2.new.memo c.gate_over-2.result
    (map input_of (take c.distinct-n.result c.distinct-n.new.out)) (distinct_of_least c.distinct-n.ensures c.if-kind-eq-AND.false c.if-kind-eq-OR.false) c.gate_over-2.ensures
