-- `cycles::search::from_each` meets its contract. The loop's invariant is `Swept`: all names below x are begun, and no cycle was found. The
-- measure is what is left of the table. Assumes nothing.
use Rattle.cycles.specs.Digraph.{digraph_of}
use Rattle.cycles.proofs.Roots.{Swept}
use Rattle.cycles.proofs.search.from_each.Given as goal

abbrev pub invariant-loop-x : goal.invariant-loop-x
invariant-loop-x l = Swept (digraph_of l.table l.class) l.class l.initial.work l.work l.x
