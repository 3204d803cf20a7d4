-- `jobfile::writer::put_contents` meets its contract.
-- Assumes nothing.
use Rattle.jobfile.proofs.WriterLaws.{Writing}
use Rattle.jobfile.proofs.writer.put_contents.Given as goal

abbrev pub invariant-loop-k : goal.invariant-loop-k
invariant-loop-k l = Writing l.sizes l.initial.file l.k l.start l.file
