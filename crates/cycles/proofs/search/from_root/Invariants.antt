-- `cycles::search::from_root` meets its contract. The loop's invariant: the search goes on from the end of its path, and no mark fell since
-- the root was begun. The measure is by how much marks can still be raised. A turn ends by a way out of proofs/GoingDown.antt or
-- proofs/ComingBack.antt, from what was read on the way there. Assumes nothing.
use Rattle.cycles.specs.Digraph.{digraph_of}
use Rattle.cycles.specs.Steps.Marks.{Grown}
use Rattle.cycles.proofs.Totals.{left}
use Rattle.cycles.proofs.Turns.{SearchGoing}
use Rattle.cycles.proofs.search.from_root.Given as goal

abbrev pub invariant-loop-depth : goal.invariant-loop-depth
invariant-loop-depth l = SearchGoing (digraph_of l.table l.class) l.work l.depth l.x l.i × Grown (digraph_of l.table l.class) l.initial.work l.work

abbrev pub decreases-loop-depth : goal.decreases-loop-depth
decreases-loop-depth l = left (digraph_of l.table l.class) l.work
