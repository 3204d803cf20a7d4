-- `checker::sound::is_sound` meets its contract: the walk has come from address 1 to `at`, where an item may stand. Assumes nothing.
use Prim.Native.Nat.{◌-◌}
use lib.ListN.{length}
use Rattle.checker.proofs.WalkLaws.{ItemsYet}
use Rattle.checker.proofs.sound.is_sound.Given as goal

abbrev pub invariant-loop-at : goal.invariant-loop-at
invariant-loop-at l = ItemsYet l.table l.initial.work l.work l.at

abbrev pub decreases-loop-at : goal.decreases-loop-at
decreases-loop-at l = length l.table - l.at
