-- `host::report::put_classes` meets its contract.
-- Assumes nothing.
use mathlib.Core.Path.{refl}
use native.Mathlib.Omega.{arith}
use Rattle.host.proofs.ReportLaws.{reporting_none, reporting_more}
use Rattle.host.proofs.report.put_classes.Goals as goal

pub loop-i-init : goal.loop-i-init
loop-i-init c = reporting_none c.requires

pub loop-i-preserved : goal.loop-i-preserved
loop-i-preserved c = reporting_more c.loop-i.invariant (omega arith) refl c.write16.ensures
