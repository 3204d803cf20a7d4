-- `shape::layout_fault::end` meets its contract: one case a thing wanted. Assumes nothing.
use Rattle.std.proofs.Common.{rules}
use Rattle.table.specs.Layout.{at_end}
use Rattle.shape.proofs.layout_fault.end.Goals as goal

pub returns-in-Item : goal.returns-in-Item
unfolding at_end
returns-in-Item c = search rules

pub returns-in-Count : goal.returns-in-Count
unfolding at_end
returns-in-Count c = search rules

pub returns-in-Arguments : goal.returns-in-Arguments
unfolding at_end
returns-in-Arguments c = search rules
