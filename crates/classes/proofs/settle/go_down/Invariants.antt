-- `classes::settle::go_down` meets its contract. The loop's invariant: the children before place i have met, and those from i on are
-- still to meet. Assumes nothing.
use Rattle.table.specs.Table.{degree}
use Rattle.classes.proofs.Down.{Going}
use Rattle.classes.proofs.settle.go_down.Given as goal

abbrev pub invariant-loop-i : goal.invariant-loop-i
invariant-loop-i l = Going l.table l.initial.class l.initial.work l.waiting l.f.0 l.g.0 (degree l.table l.f.0) l.class l.work l.waits l.i
