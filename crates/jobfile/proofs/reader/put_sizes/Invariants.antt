-- `jobfile::reader::put_sizes` meets its contract.
-- Assumes nothing.
use Rattle.rows.proofs.Laws.{Built}
use Rattle.jobfile.specs.File.{sizes_in}
use Rattle.jobfile.proofs.reader.put_sizes.Given as goal

abbrev pub invariant-loop-i : goal.invariant-loop-i
invariant-loop-i l = Built (sizes_in l.file) l.initial.row l.count l.i l.row
