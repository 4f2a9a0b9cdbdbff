-- `analysis::lengths::lengths_ok` meets its contract: each test says whether one of the rules is kept.
-- Assumes nothing.
use native.Mathlib.Omega.{arith}
use borrow.Author.Rules.{rules}
use Rattle.analysis.proofs.Flags.{denied, granted}
use Rattle.analysis.proofs.lengths.lengths_ok.Goals as goal

pub returns-then-not-table_ok : goal.returns-then-not-table_ok
returns-then-not-table_ok c = λ l. denied c.table_ok.result c.table_ok.ensures c.if-not-table_ok.true-raw l.node_table

pub returns-then-not-table_ok-2 : goal.returns-then-not-table_ok-2
returns-then-not-table_ok-2 c = λ l. denied c.table_ok-2.result c.table_ok-2.ensures c.if-not-table_ok-2.true-raw l.cut_table

pub areas_ok-requires : goal.areas_ok-requires
areas_ok-requires c = (
  granted c.table_ok.result c.table_ok.ensures c.if-not-table_ok.false-raw,
  granted c.table_ok-2.result c.table_ok-2.ensures c.if-not-table_ok-2.false-raw,
)

pub returns-then-not-areas_ok : goal.returns-then-not-areas_ok
returns-then-not-areas_ok c = λ l. denied c.areas_ok.result c.areas_ok.ensures c.if-not-areas_ok.true-raw l.areas

pub returns : goal.returns
returns c = record {
  node_table = granted c.table_ok.result c.table_ok.ensures c.if-not-table_ok.false-raw;
  cut_table = granted c.table_ok-2.result c.table_ok-2.ensures c.if-not-table_ok-2.false-raw;
  gate_list = omega arith;
  added_list = omega arith;
  fours = omega arith;
  areas = granted c.areas_ok.result c.areas_ok.ensures c.if-not-areas_ok.false-raw;
}
