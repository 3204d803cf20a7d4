-- `classes::settle::settle` meets its contract. The measure is what is left to do: each pair that goes down either joins two classes
-- for each pair that it lets wait, or lets none wait. Assumes nothing.
use Prim.Native.Nat.{◌+◌, ◌*◌}
use Rattle.graphs.specs.Partition.{classes}
use Rattle.table.specs.Table.{graph_of}
use Rattle.classes.proofs.Down.{Settling}
use Rattle.classes.proofs.settle.settle.Given as goal

abbrev pub invariant-loop-waits : goal.invariant-loop-waits
invariant-loop-waits l = Settling l.table l.initial.class l.initial.work l.waiting l.class l.work l.waits

abbrev pub decreases-loop-waits : goal.decreases-loop-waits
decreases-loop-waits l = 2 * classes (graph_of l.table) l.class + l.waits
