-- `shape::layout_fault::can_stand` meets its contract: one case a thing wanted. Assumes nothing.
use Rattle.std.proofs.Common.{rules}
use Rattle.table.specs.Layout.{can_stand}
use Rattle.shape.proofs.layout_fault.can_stand.Goals as goal

pub returns-in-Item : goal.returns-in-Item
unfolding can_stand
returns-in-Item c = search rules

pub returns-in-Count : goal.returns-in-Count
unfolding can_stand
returns-in-Count c = search rules

pub returns-in-Arguments : goal.returns-in-Arguments
unfolding can_stand
returns-in-Arguments c = search rules
