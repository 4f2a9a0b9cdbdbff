-- `exported::moving::matticklet_from_sites` meets its contract. Assumes nothing.
use Rattle.exported.proofs.Answers.{told}
use Rattle.exported.proofs.moving.matticklet_from_sites.Goals as goal

pub returns : goal.returns
returns c =
    let both = told c.from_sites-w.ensures c.numbers_of.ensures in
    record { answer_after = both.0; room_after = both.1 }
