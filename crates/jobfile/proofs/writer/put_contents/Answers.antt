-- `jobfile::writer::put_contents` meets its contract.
-- Assumes nothing.
use mathlib.Core.Path.{refl}
use Rattle.jobfile.proofs.WriterLaws.{writing_none, writing_more, writing_all}
use Rattle.jobfile.proofs.writer.put_contents.Goals as goal

pub loop-k-init : goal.loop-k-init
loop-k-init c = writing_none c.requires c.write16.ensures

pub loop-k-preserved : goal.loop-k-preserved
loop-k-preserved c = let m = writing_more c.loop-k.invariant c.loop-k-test.true refl refl in
    rw c.put_entry.ensures m

pub returns : goal.returns
returns c = writing_all c.requires c.write16.ensures c.loop-k.invariant c.loop-k-test.false
