-- `shape::pointer_fault::is_bad_target` meets its contract: one case a branch. Assumes nothing.
use native.Mathlib.Omega.{arith}
use Rattle.std.proofs.lemmas.Bool.Decides.{nat_tests}
use Rattle.table.specs.Faults.{bad_target}
use Rattle.shape.proofs.pointer_fault.is_bad_target.Goals as goal

pub returns-then-table-at : goal.returns-then-table-at
unfolding bad_target
returns-then-table-at c = grind (arith, nat_tests)

pub returns-in-Pointer : goal.returns-in-Pointer
unfolding bad_target
returns-in-Pointer c = grind (arith, nat_tests)

pub returns-in_default : goal.returns-in_default
unfolding bad_target
returns-in_default c = grind (arith, nat_tests)
