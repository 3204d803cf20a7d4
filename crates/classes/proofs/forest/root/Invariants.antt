-- `classes::forest::root` meets its contract. The loop's invariant is `Climb`: where the walk is, and the row with shorter links. The
-- measure is the place of that node in the naming order. Assumes nothing.
use Rattle.graphs.specs.Partition.{key}
use Rattle.table.specs.Table.{graph_of}
use Rattle.classes.proofs.Climbs.{Climb}
use Rattle.classes.proofs.forest.root.Given as goal

abbrev pub invariant-loop-above : goal.invariant-loop-above
invariant-loop-above l = Climb l.table l.initial.class l.class l.initial.at.0 l.at.0 l.above.0

abbrev pub decreases-loop-above : goal.decreases-loop-above
decreases-loop-above l = key (graph_of l.table) l.at.0
