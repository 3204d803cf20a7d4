-- `shape::word_fault::is_bad_kind` meets its contract: one case a branch. Assumes nothing.
use Rattle.std.proofs.Common.{rules}
use Rattle.table.specs.Faults.{bad_kind}
use Rattle.shape.proofs.word_fault.is_bad_kind.Goals as goal

pub returns-in-NoWord : goal.returns-in-NoWord
unfolding bad_kind
returns-in-NoWord c = search rules

pub returns-then-content-eq0 : goal.returns-then-content-eq0
unfolding bad_kind
returns-then-content-eq0 c = search rules

pub returns-else-content-eq0 : goal.returns-else-content-eq0
unfolding bad_kind
returns-else-content-eq0 c = search rules

pub returns-in_default : goal.returns-in_default
unfolding bad_kind
returns-in_default c = search rules
