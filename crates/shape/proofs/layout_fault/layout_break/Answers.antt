-- `shape::layout_fault::layout_break` meets its contract: the row breaks where the rest of it breaks, from where the scan has come to. Assumes nothing.
use Rattle.shape.proofs.LayoutLaws.{scan_stops, scan_stands, scan_ends}
use Rattle.shape.proofs.layout_fault.layout_break.Goals as goal

pub returns-then-not-can_stand : goal.returns-then-not-can_stand
returns-then-not-can_stand c = scan_stops c.loop-at.invariant c.loop-at-test.true
    c.kind.ensures c.can_stand.ensures c.if-not-can_stand.true

pub loop-at-preserved : goal.loop-at-preserved
loop-at-preserved c = scan_stands c.loop-at.invariant c.loop-at-test.true
    c.kind.ensures c.can_stand.ensures c.if-not-can_stand.false c.after-wanted.ensures

pub returns : goal.returns
returns c = scan_ends c.loop-at.invariant c.loop-at-test.false c.loop-at.auto.at-end c.end.ensures
