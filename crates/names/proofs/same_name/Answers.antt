-- `names::same_name` meets its contract. Assumes nothing.
use native.Mathlib.Omega.{arith}
use mathlib.Core.Path.{ap, ◌∙◌}
use Rattle.paper.specs.Bytes.{same}
use Rattle.lines.specs.Reading.{name_at}
use Rattle.lines.proofs.Leads.{ends_part}
use Rattle.names.proofs.same_name.Goals as goal

pub name_end-e-requires : goal.name_end-e-requires
name_end-e-requires c = c.requires.a_in_bounds

pub slice_bounds-is_word-count : goal.slice_bounds-is_word-count
slice_bounds-is_word-count c = omega (arith, c.requires.ends.from)

pub is_word-requires : goal.is_word-requires
is_word-requires c = c.name_end-e.ensures

pub returns : goal.returns
returns c = c.is_word.ensures ∙ ap (same (name_at c.args.text.now c.args.a)) (ends_part c.requires.ends)
