-- `classes::own::count_joins` meets its contract. The loop's invariant is `CountedBelow`: what is counted so far and the classes so
-- far are the nodes so far. Assumes nothing.
use Rattle.classes.proofs.CountedJoins.{CountedBelow}
use Rattle.classes.proofs.own.count_joins.Given as goal

abbrev pub invariant-loop-x : goal.invariant-loop-x
invariant-loop-x l = CountedBelow l.table l.class l.joined l.x
