-- `exported::matticklet_folder` meets its contract. Assumes nothing.
use mathlib.Core.Path.{refl}
use Rattle.std.specs.Prelude.{Ok, Err}
use Rattle.folder.specs.Gathered.{gathered_of}
use Rattle.exported.proofs.matticklet_folder.Goals as goal

pub returns-in-Ok : goal.returns-in-Ok
returns-in-Ok c = (gathered_of (Ok tt), (c.in-Ok.ensures, refl))

pub returns-in-Err : goal.returns-in-Err
returns-in-Err c = (gathered_of (Err c.in-Err.refused), (c.in-Err.ensures, rw c.number.ensures refl))
