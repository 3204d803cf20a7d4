-- `table::node::named_at` meets its contract. Assumes nothing.
use Rattle.std.proofs.Common.{rules}
use Rattle.table.specs.Table.{named, choose}
use Rattle.table.proofs.node.named_at.Goals as goal

pub returns-then-eq : goal.returns-then-eq
unfolding named choose
returns-then-eq c = search rules

pub returns-else-eq : goal.returns-else-eq
unfolding named choose
returns-else-eq c = search rules
