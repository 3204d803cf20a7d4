-- `listing::variables::put_variables` meets its contract. Assumes nothing.
use Prim.Native.Nat.{◌-◌}
use lib.ListN.{length}
use Rattle.listing.proofs.PutLaws.{Telling}
use Rattle.listing.proofs.variables.put_variables.Given as goal

abbrev pub invariant-loop-x : goal.invariant-loop-x
invariant-loop-x l = Telling l.table l.class l.initial.row l.start l.row l.at l.x

abbrev pub decreases-loop-x : goal.decreases-loop-x
decreases-loop-x l = length l.table - l.x
