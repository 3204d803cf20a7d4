-- `jobfile::writer::copy` meets its contract.
-- Assumes nothing.
use lib.ListN.{length}
use Rattle.rows.proofs.Laws.{Built}
use Rattle.jobfile.proofs.writer.copy.Given as goal

abbrev pub invariant-loop-i : goal.invariant-loop-i
invariant-loop-i l = Built l.from l.initial.into (length l.from) l.i l.into
