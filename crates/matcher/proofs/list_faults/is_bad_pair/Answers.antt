-- `matcher::list_faults::is_bad_pair` meets its contract, by the laws of a pair's two entries. Assumes nothing.
use Rattle.matcher.proofs.ListLaws.{left_node, left_no_node}
use Rattle.matcher.proofs.list_faults.is_bad_pair.Goals as goal

pub returns-then-not-is_node : goal.returns-then-not-is_node
returns-then-not-is_node c = left_no_node c.args.table.now c.args.list.now c.args.k c.requires c.is_node.ensures c.if-not-is_node.true

pub returns-else-not-is_node : goal.returns-else-not-is_node
returns-else-not-is_node c = left_node c.args.table.now c.args.list.now c.args.k c.requires c.is_node.ensures c.if-not-is_node.false c.is_node-else-not-is_node.ensures
