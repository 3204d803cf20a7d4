-- `jobfile::reader::read` meets its contract.
-- Assumes nothing.
use mathlib.Core.Path.{refl}
use Rattle.jobfile.proofs.ReaderLaws.{judged_good}
use Rattle.jobfile.proofs.Yields.{yield_no_sizes}
use Rattle.jobfile.proofs.reader.read.Goals as goal

pub sizes_of-requires : goal.sizes_of-requires
sizes_of-requires c = judged_good c.in-Ok.ensures

pub returns-in-Err : goal.returns-in-Err
returns-in-Err c = record { judged = c.in-Err.ensures; yielded = yield_no_sizes refl refl }
