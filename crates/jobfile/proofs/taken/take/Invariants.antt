-- `jobfile::taken::take` meets its contract.
-- Assumes nothing.
use mathlib.Core.List.{map}
use Rattle.rows.proofs.Laws.{Built}
use Rattle.jobfile.specs.Numbers.{row_in}
use Rattle.jobfile.proofs.taken.take.Given as goal

abbrev pub invariant-loop-i : goal.invariant-loop-i
invariant-loop-i g l = Built (map g.T.LittleEndian.of_number (row_in g.T.LittleEndian.WIDTH l.count l.bytes)) l.initial.into l.count l.i l.into
