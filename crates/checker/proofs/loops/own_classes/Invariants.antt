-- `checker::loops::own_classes` meets its contract.
-- Assumes nothing.
use Rattle.rows.proofs.Laws.{Built}
use Rattle.checker.specs.Steps.Stage.{counting}
use Rattle.checker.proofs.loops.own_classes.Given as goal

abbrev pub invariant-loop-x : goal.invariant-loop-x
invariant-loop-x l = Built (counting 0 l.n) l.initial.class l.n l.x l.class
