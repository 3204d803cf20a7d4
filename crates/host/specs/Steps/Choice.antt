-- What the choice of a job promises: the job, or why the call is refused. For this crate alone. Assumes nothing.
use Rattle.std.specs.Prelude.{◌≡◌, List, ℕ, ◌+◌, ◌*◌, ◌≤◌, length, Result, Ok, Err}
use Rattle.words.specs.Limits.{most_words}
use Rattle.answering.specs.Answers.{Answered}
use Rattle.jobfile.specs.Found.{refusal_number as no_job_number}
use Rattle.jobfile.specs.declared.job.FoundJob.{FoundJob}
use Rattle.host.specs.Host.{HostFault, host_number, early_order}
use Rattle.host.specs.declared.choice.Refusal.{Refusal}
use Rattle.host.specs.declared.choice.Refusal.TheVariants.{Job, Size, Room}

-- 12, 13, 14 and 15, then 1 and 2
abbrev pub refusal_number : Refusal → ℕ
refusal_number (Job none) = no_job_number none
refusal_number Size = 1
refusal_number Room = 2

-- one of the six that write nothing
pub record Early (bytes : List ℕ) (job : ℕ) (room : List ℕ) (answer : ℕ) : Type 0 where
  pub place : ℕ
  pub refused : answer ≡ 0 → ⊥
  pub answered : Answered host_number (HostFault bytes job room) early_order answer place

-- a table of n words is of a size that is allowed, and the room has room for its report
pub record Matchable (n room : ℕ) : Type 0 where
  pub some_word : 1 ≤ n
  pub few_words : n ≤ most_words
  pub enough : 6 + 2 * n ≤ room

-- one of the six, or none of them
abbrev pub Choice : List ℕ → ℕ → List ℕ → Result FoundJob Refusal → Type 0
Choice bytes job room (Ok found) = (found.file.now ≡ bytes) × (found.number ≡ job) × Matchable found.words (length room)
Choice bytes job room (Err refusal) = Early bytes job room (refusal_number refusal)
