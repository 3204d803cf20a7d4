-- `lines::input::read_to_fill` ends, since each turn leaves less to fill. Assumes nothing.
use lib.ListN.{length}
use Prim.Native.Nat.{◌-◌}
use Rattle.lines.proofs.InputLaws.{Filled}
use Rattle.lines.proofs.input.read_to_fill.Given as goal

abbrev pub invariant-loop-size : goal.invariant-loop-size
invariant-loop-size g l = Filled (g.R.Read.remaining l.initial.input) (g.R.Read.remaining l.input) l.initial.row l.row l.size

abbrev pub decreases-loop-size : goal.decreases-loop-size
decreases-loop-size g l = length l.initial.row - l.size
