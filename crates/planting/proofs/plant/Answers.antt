-- `planting::plant` meets its contract. Assumes nothing.
use Rattle.std.proofs.lemmas.Result.{err_from_is_err_and}
use Rattle.planting.proofs.Growing.{sowable, plants_events, sown_few_events}
use Rattle.planting.proofs.plant.Goals as goal

pub plant_events-requires : goal.plant_events-requires
plant_events-requires c = sowable c.requires.plantable c.requires.count_in_bounds

pub returns-in_err-sown : goal.returns-in_err-sown
returns-in_err-sown c =
    let p = err_from_is_err_and c.from_residual.result c.from_residual.ensures.1 in
    rw (p.1, p.2) (plants_events _ _ _ (rw c.in_err-sown.was at c.plant_events.ensures))

pub plant_gates-requires : goal.plant_gates-requires
plant_gates-requires c =
    record {
      plantable = c.requires.plantable;
      order_len_bound = sown_few_events _ _ _ _ (rw c.in_ok-sown.was at c.plant_events.ensures);
    }

pub returns : goal.returns
returns c = c.plant_gates.ensures _ (rw c.in_ok-sown.was at c.plant_events.ensures)
