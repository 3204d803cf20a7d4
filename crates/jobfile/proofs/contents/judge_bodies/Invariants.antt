-- `jobfile::contents::judge_bodies` meets its contract.
-- Assumes nothing.
use Rattle.jobfile.proofs.ReaderLaws.{EntriesWalked}
use Rattle.jobfile.proofs.contents.judge_bodies.Given as goal

abbrev pub invariant-loop-k : goal.invariant-loop-k
invariant-loop-k l = EntriesWalked l.file l.k l.start
