-- `classes::settle::settle` meets its contract. The measure is what is left to do: each pair that goes down either joins two classes
-- for each pair that it lets wait, or lets none wait. Assumes nothing.
use mathlib.Core.List.{[]}
use Rattle.classes.proofs.Moves.{err_settled}
use Rattle.classes.proofs.Down.{settling_on, settling_less, settling_stops, settling_ends}
use Rattle.classes.proofs.settle.settle.Goals as goal

pub settle_last-requires : goal.settle_last-requires
settle_last-requires c = (c.requires.0, (c.loop-waits.invariant.moved []).state, c.loop-waits-test.true)

pub returns-in_err-waits : goal.returns-in_err-waits
returns-in_err-waits c = λ owed. err_settled _ c.from_residual.ensures.0 (settling_stops c.requires.0 c.loop-waits.invariant c.loop-waits-test.true c.settle_last.ensures c.in_err-waits.was owed)

pub loop-waits-smaller : goal.loop-waits-smaller
loop-waits-smaller c = settling_less c.requires.0 c.loop-waits.invariant c.loop-waits-test.true c.settle_last.ensures c.in_ok-waits.was

pub loop-waits-preserved : goal.loop-waits-preserved
loop-waits-preserved c = settling_on c.requires.0 c.loop-waits.invariant c.loop-waits-test.true c.settle_last.ensures c.in_ok-waits.was

pub returns : goal.returns
returns c = settling_ends c.loop-waits.invariant c.loop-waits-test.false
