-- `table::node::is_node` meets its contract.
-- Assumes nothing.
use native.Mathlib.Omega.{arith}
use Rattle.std.proofs.lemmas.Bool.Decides.{nat_tests}
use Rattle.table.proofs.Leaves.{past_end}
use Rattle.table.proofs.node.is_node.Goals as goal

pub returns-else-at-table : goal.returns-else-at-table
returns-else-at-table c = rw (past_end c.args.table.now c.args.x.0 (omega arith)) (grind (arith, nat_tests))
