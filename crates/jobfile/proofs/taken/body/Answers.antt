-- `jobfile::taken::body` meets its contract.
-- Assumes nothing.
use native.Mathlib.Omega.{arith}
use Rattle.jobfile.proofs.TakenLaws.{body_ends}
use Rattle.jobfile.proofs.taken.body.Goals as goal

pub slice_bounds-result-end : goal.slice_bounds-result-end
slice_bounds-result-end c = omega (arith, body_ends c.requires c.number-start.ensures.0 c.body_size.ensures.0)
