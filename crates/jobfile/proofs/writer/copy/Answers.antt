-- `jobfile::writer::copy` meets its contract: `into` is built from the front out of `from`.
-- Assumes nothing.
use mathlib.Core.Path.{refl}
use native.Mathlib.Omega.{arith}
use Rattle.rows.proofs.Laws.{built_more}
use Rattle.jobfile.proofs.writer.copy.Goals as goal

pub loop-i-preserved : goal.loop-i-preserved
loop-i-preserved c = built_more 0 c.loop-i.invariant (omega arith) refl
