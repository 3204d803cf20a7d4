-- `jobfile::taken::take_job` meets its contract.
-- Assumes nothing.
use native.Mathlib.Omega.{arith}
use Rattle.jobfile.proofs.TakenLaws.{part_size, job-taken}
use Rattle.jobfile.proofs.taken.take_job.Goals as goal

pub slice_bounds-take-count : goal.slice_bounds-take-count
slice_bounds-take-count c = omega (arith, part_size c.requires c.body-body.ensures)

pub slice_bounds-take-start : goal.slice_bounds-take-start
slice_bounds-take-start c = omega (arith, part_size c.requires c.body-body.ensures)

pub returns : goal.returns
returns c = job-taken c.requires c.body-body.ensures c.take.ensures c.take-2.ensures
