-- `jobfile::reader::bodies` meets its contract.
-- Assumes nothing.
use native.Mathlib.Omega.{arith}
use Rattle.jobfile.proofs.ReaderLaws.{judged_good}
use Rattle.jobfile.proofs.reader.bodies.Goals as goal

pub number-requires : goal.number-requires
number-requires c = (judged_good c.in-Ok.ensures).at_least

pub slice_bounds-result-count : goal.slice_bounds-result-count
slice_bounds-result-count c = omega (arith, (judged_good c.in-Ok.ensures).contents_inside)

pub slice_bounds-result-start : goal.slice_bounds-result-start
slice_bounds-result-start c = omega (arith, (judged_good c.in-Ok.ensures).contents_inside)
