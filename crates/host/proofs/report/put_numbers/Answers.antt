-- `host::report::put_numbers` meets its contract.
-- Assumes nothing.
use Rattle.jobfile.proofs.WriterLaws.{entry_placed}
use Rattle.host.proofs.report.put_numbers.Goals as goal

pub returns : goal.returns
returns c = entry_placed 0 c.args.answer c.args.place c.args.joins c.args.room.now c.requires c.write16.ensures c.write16-2.ensures c.write16-3.ensures
