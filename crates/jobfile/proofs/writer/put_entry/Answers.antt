-- `jobfile::writer::put_entry` meets its contract.
-- Assumes nothing.
use Rattle.jobfile.proofs.WriterLaws.{entry_placed}
use Rattle.jobfile.proofs.writer.put_entry.Goals as goal

pub returns : goal.returns
returns c = entry_placed c.args.at c.args.start c.args.n c.args.p c.args.file.now c.requires c.write16.ensures c.write16-2.ensures c.write16-3.ensures
