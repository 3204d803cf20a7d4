-- `shape::layout_fault::after` meets its contract: one case a branch. Assumes nothing.
use Rattle.std.proofs.Common.{rules}
use Rattle.table.specs.Layout.{after as after_word}
use Rattle.shape.proofs.LayoutLaws.{one_less}
use Rattle.shape.proofs.layout_fault.after.Goals as goal

pub returns-in-Item : goal.returns-in-Item
unfolding after_word
returns-in-Item c = search rules

pub returns-in-Item-2 : goal.returns-in-Item-2
unfolding after_word
returns-in-Item-2 c = search rules

pub returns-in-Count : goal.returns-in-Count
unfolding after_word
returns-in-Count c = search rules

pub returns-in-Arguments : goal.returns-in-Arguments
unfolding after_word
returns-in-Arguments c = search (rules, one_less)
