-- `matcher::first_failure::first_cycle` meets its contract. The loop's invariant: the first `none` pairs have no cycle, and the first
-- `some` have one. The distance between the two falls. Assumes nothing.
use Prim.Native.Nat.{◌-◌}
use Rattle.matcher.proofs.Halving.{Halved}
use Rattle.matcher.proofs.first_failure.first_cycle.Given as goal

abbrev pub invariant-loop-none : goal.invariant-loop-none
invariant-loop-none l = Halved l.table l.list l.initial.class l.initial.work l.many l.class l.work l.none l.some

abbrev pub decreases-loop-none : goal.decreases-loop-none
decreases-loop-none l = l.some - l.none
