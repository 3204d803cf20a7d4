-- `cycles::path::is_open` meets its contract: what is no function is not open, and of any other vertex the mark tells. Assumes nothing.
use Rattle.std.proofs.Common.{rules}
use Rattle.table.specs.Table.{degree, choose}
use Rattle.cycles.proofs.path.is_open.Goals as goal

pub returns-else-has_edges : goal.returns-else-has_edges
unfolding degree choose
returns-else-has_edges c = search rules
