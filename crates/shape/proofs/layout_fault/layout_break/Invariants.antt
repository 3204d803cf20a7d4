-- `shape::layout_fault::layout_break` meets its contract: the row breaks where the rest of it breaks, from where the scan has come to. Assumes nothing.
use Rattle.shape.specs.Steps.Wanted.{wanted_of}
use Rattle.shape.proofs.LayoutLaws.{Scanned}
use Rattle.shape.proofs.layout_fault.layout_break.Given as goal

abbrev pub invariant-loop-at : goal.invariant-loop-at
invariant-loop-at l = Scanned l.table (wanted_of l.wanted) l.at
