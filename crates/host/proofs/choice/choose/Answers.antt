-- `host::choice::choose` meets its contract.
-- Assumes nothing.
use mathlib.Core.Path.{◌≡◌, subst}
use mathlib.Core.Logic.{inl, inr}
use mathlib.Core.List.{List}
use Prim.Native.Nat.{ℕ}
use native.Mathlib.Omega.{arith}
use Rattle.std.proofs.lemmas.Result.{err_from_is_err_and}
use Rattle.jobfile.specs.Jobs.{JobWith}
use Rattle.host.proofs.ChoiceLaws.{early_none, early_size, early_room}
use Rattle.host.proofs.choice.choose.Goals as goal

-- the job is of the file, and has the number, that were asked for
asked_for : {file bytes : List ℕ} {number job n p : ℕ} → (file ≡ bytes) × (number ≡ job) → JobWith file number n p → JobWith bytes job n p
asked_for {bytes = bytes} {number} {n = n} {p} (e, f) found = subst (λ (j : ℕ). JobWith bytes j n p) f (subst (λ (l : List ℕ). JobWith l number n p) e found)

pub returns-in_err-job : goal.returns-in_err-job
returns-in_err-job c = let p = err_from_is_err_and c.from_residual.result c.from_residual.ensures.1 in rw (p.1, p.2) (early_none _ _ _ c.in_err-job.field-0.0 c.in_err-job.ensures)

pub returns-then-job-eq0 : goal.returns-then-job-eq0
returns-then-job-eq0 c = early_size _ _ _ (asked_for c.in_ok-job.ensures c.in_ok-job.job.is_there) (inl c.if-job-eq0.true)

pub returns-then-job-gt-MOST_WORDS : goal.returns-then-job-gt-MOST_WORDS
returns-then-job-gt-MOST_WORDS c = early_size _ _ _ (asked_for c.in_ok-job.ensures c.in_ok-job.job.is_there) (inr c.if-job-gt-MOST_WORDS.true)

pub returns-then-room-job : goal.returns-then-room-job
returns-then-room-job c = early_room _ _ _ (asked_for c.in_ok-job.ensures c.in_ok-job.job.is_there) (omega arith) (omega arith) c.if-room-job.true
