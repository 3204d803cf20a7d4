-- `classes::joining::join_pair` meets its contract.
-- Assumes nothing.
use mathlib.Core.List.{[]}
use Rattle.classes.proofs.Moves.{err_settled, settled_after, waiting_moved, clash_stops}
use Rattle.classes.proofs.joining.join_pair.Goals as goal

pub returns-in_err-waiting : goal.returns-in_err-waiting
returns-in_err-waiting c = λ owed. err_settled _ c.from_residual.ensures.0 (clash_stops (c.meet.ensures owed) c.in_err-waiting.was)

pub settle-requires : goal.settle-requires
settle-requires c = (c.requires.0, (waiting_moved (c.meet.ensures []) c.in_ok-waiting.was).state)

pub returns : goal.returns
returns c = λ owed. settled_after (waiting_moved (c.meet.ensures owed) c.in_ok-waiting.was) (c.settle.ensures owed)
