-- `host::report::report` meets its contract.
-- Assumes nothing.
use Rattle.host.proofs.ReportLaws.{reported}
use Rattle.host.proofs.report.report.Goals as goal

pub returns : goal.returns
returns c = (c.number-number.ensures, reported c.args.class.now c.args.room.now c.number-number.ensures c.place.ensures c.joins.ensures c.put_numbers.ensures c.put_classes.ensures)
