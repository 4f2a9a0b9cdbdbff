-- `planting::distinct_inputs` meets its contract. Assumes nothing.
use borrow.Author.Rules.{rules}
use Rattle.records.specs.Memory.{pad}
use Rattle.planting.proofs.Sorting.{sort_putable, sort_fits, sort_long, sort_few, sort_told, sort_many}
use Rattle.planting.proofs.distinct_inputs.Goals as goal

pub size-n-requires : goal.size-n-requires
size-n-requires c =
    record {
      arrays = c.requires.arrays;
      x_lt_count = c.requires.low;
    }

pub returns-then-n-gt-INPUTS : goal.returns-then-n-gt-INPUTS
returns-then-n-gt-INPUTS c = sort_many c.requires c.size-n.ensures c.if-n-gt-INPUTS.true

pub put_inputs-requires : goal.put_inputs-requires
put_inputs-requires c = sort_putable c.requires c.size-n.ensures c.if-n-gt-INPUTS.false

pub slice_bounds-codes-end : goal.slice_bounds-codes-end
unfolding pad
slice_bounds-codes-end c = sort_fits c.requires c.size-n.ensures c.put_inputs.ensures c.if-n-gt-INPUTS.false

pub slice_bounds-distinct-end : goal.slice_bounds-distinct-end
unfolding pad
slice_bounds-distinct-end c = sort_long c.requires c.size-n.ensures c.put_inputs.ensures c.if-n-gt-INPUTS.false

pub distinct-requires : goal.distinct-requires
unfolding pad
distinct-requires c =
    record {
      inputs_len_bound = sort_few c.requires c.size-n.ensures c.put_inputs.ensures c.if-n-gt-INPUTS.false;
      out_len = search rules;
    }

pub returns : goal.returns
unfolding pad
returns c = sort_told c.requires c.size-n.ensures c.put_inputs.ensures c.distinct.ensures
