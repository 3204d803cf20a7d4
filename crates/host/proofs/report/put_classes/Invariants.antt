-- `host::report::put_classes` meets its contract.
-- Assumes nothing.
use Prim.Native.Nat.{◌-◌}
use lib.ListN.{length}
use Rattle.host.proofs.ReportLaws.{Reporting}
use Rattle.host.proofs.report.put_classes.Given as goal

abbrev pub invariant-loop-i : goal.invariant-loop-i
invariant-loop-i l = Reporting l.class l.initial.room l.i l.room

abbrev pub decreases-loop-i : goal.decreases-loop-i
decreases-loop-i l = length l.class - l.i
