-- `jobfile::contents::judge` meets its contract.
-- Assumes nothing.
use mathlib.Core.Logic.{inl, inr}
use native.Mathlib.Omega.{arith}
use Rattle.jobfile.proofs.ReaderLaws.{judged_file, judged_contents}
use Rattle.jobfile.proofs.contents.judge.Goals as goal
use Rattle.jobfile.proofs.contents.judge.Goals.{then-file-lt2-via-then-file-lt2, then-file-lt2-via-else-file-lt2+then-file-gt-MOST_BYTES, then-jobs-eq0-via-then-jobs-eq0, then-jobs-eq0-via-else-jobs-eq0+then-jobs-gt-MOST_JOBS, then-jobs-eq0-via-else-jobs-eq0+else-jobs-gt-MOST_JOBS+then-file-jobs}

pub returns-then-file-lt2 : goal.returns-then-file-lt2
returns-then-file-lt2 c =
    elim c.then-file-lt2.branch [
      | then-file-lt2-via-then-file-lt2 w ↦ judged_file (inl w.if-file-lt2.true)
      | then-file-lt2-via-else-file-lt2+then-file-gt-MOST_BYTES w ↦ judged_file (inr w.if-file-gt-MOST_BYTES.true)
    ]

pub returns-then-jobs-eq0 : goal.returns-then-jobs-eq0
returns-then-jobs-eq0 c =
    elim c.then-jobs-eq0.branch [
      | then-jobs-eq0-via-then-jobs-eq0 w ↦ judged_contents (omega arith) (omega arith) (inl (omega arith))
      | then-jobs-eq0-via-else-jobs-eq0+then-jobs-gt-MOST_JOBS w ↦ judged_contents (omega arith) (omega arith) (inr (inl (omega arith)))
      | then-jobs-eq0-via-else-jobs-eq0+else-jobs-gt-MOST_JOBS+then-file-jobs w ↦ judged_contents (omega arith) (omega arith) (inr (inr (omega arith)))
    ]
