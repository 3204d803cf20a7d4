-- `classes::own::apart` meets its contract. The loop's invariant is `Built`: the row is made from the front. Assumes nothing.
use lib.ListN.{length}
use Rattle.rows.proofs.Laws.{Built}
use Rattle.graphs.specs.Partition.{apart}
use Rattle.table.specs.Table.{graph_of}
use Rattle.classes.proofs.own.apart.Given as goal

abbrev pub invariant-loop-x : goal.invariant-loop-x
invariant-loop-x l = Built (apart (graph_of l.table)) l.initial.class (length l.table) l.x l.class
