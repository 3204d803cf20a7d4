-- `classes::joining::join_each` meets its contract. The loop's invariant: the pairs before place i are joined.
-- Assumes nothing.
use Rattle.classes.specs.Steps.Lists.{JoinedBefore}
use Rattle.classes.proofs.joining.join_each.Given as goal

abbrev pub invariant-loop-i : goal.invariant-loop-i
invariant-loop-i l = JoinedBefore l.table l.list l.initial.class l.initial.work l.class l.work l.i
