-- `scanning::judging::give_line` meets its contract. Assumes nothing.
use Rattle.std.proofs.Common.{Some, ap, ◌∙◌}
use Rattle.scanning.proofs.Giving.{bad_wrong, equation_right, chance_room, chance_wrong, chance_right}
use Rattle.scanning.proofs.judging.give_line.Goals as goal

pub returns-in_err-v : goal.returns-in_err-v
returns-in_err-v c = rw c.from_residual.ensures (bad_wrong c.requires.giving c.line-r.ensures c.in_err-v.was)

pub returns-in_default : goal.returns-in_default
returns-in_default c = equation_right c.requires.giving c.line-r.ensures (c.in_ok-v.was) c.in_default.not-Chance

pub give_chance-requires : goal.give_chance-requires
give_chance-requires c =
    record {
      gathered = c.requires.gathered;
      places = c.requires.places;
      at_in_bounds = (chance_room c.requires.giving c.line-r.ensures (c.in_ok-v.was ∙ ap Some c.in-Chance.is), c.requires.giving.marked, c.requires.giving.room);
    }

pub returns-then-give_chance : goal.returns-then-give_chance
returns-then-give_chance c = chance_wrong c.requires.giving c.line-r.ensures (c.in_ok-v.was ∙ ap Some c.in-Chance.is) c.if-give_chance.ensures

pub returns-else-give_chance : goal.returns-else-give_chance
returns-else-give_chance c = chance_right c.requires.giving c.line-r.ensures (c.in_ok-v.was ∙ ap Some c.in-Chance.is) c.if-give_chance.ensures
