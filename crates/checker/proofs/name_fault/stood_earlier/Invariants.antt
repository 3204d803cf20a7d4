-- `checker::name_fault::stood_earlier` meets its contract. The loop's invariant: each earlier variable of the label
-- is in what is left of the chain. Links fall, so the measure is the address that the walk has come to. Assumes nothing.
use Rattle.checker.specs.Steps.Names.{next_in}
use Rattle.checker.proofs.ChainLaws.{Walk}
use Rattle.checker.proofs.name_fault.stood_earlier.Given as goal

abbrev pub invariant-loop-earlier : goal.invariant-loop-earlier
invariant-loop-earlier l = Walk l.table l.at l.label.0 (next_in l.table l.work) l.earlier

abbrev pub decreases-loop-earlier : goal.decreases-loop-earlier
decreases-loop-earlier l = l.earlier
