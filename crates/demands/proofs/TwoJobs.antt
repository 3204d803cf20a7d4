-- Document 01's file of two jobs passes all checks, and the host call accepts the first of them and refuses the second, so that what
-- the demands say of calls that pass is about something. Assumes nothing.
use mathlib.Core.Path.{◌≡◌, refl, sym, ap, subst}
use mathlib.Core.Logic.{◌⊎◌, inl, inr}
use mathlib.Core.List.Memᴰ
use mathlib.Core.List.{List, [], ◌∷◌, ◌++◌, map}
use Prim.Native.Nat.{ℕ, ◌+◌, ◌*◌, ◌≤◌}
use native.Mathlib.Omega.{arith}
use borrow.Author.Tests.{ltb-true}
use lib.Dec.{ltb}
use lib.ListN.{length}
use Rattle.rows.specs.LittleEndian.{from_bytes, bytes_of, number_at}
use Rattle.words.specs.Limits.{most_words}
use Rattle.answering.specs.Answers.{Answered, NoneOf}
use Rattle.answering.proofs.Orders.{answered_tested, answered_parts, rest_answers, none_both, none_parts, answered_only}
use Rattle.table.specs.Faults.{Row, Job, sent, Fault, number, size_rows, table_rows, list_rows, pair_rows, check_order, match_order}
use Rattle.table.proofs.OneAnswer.{fault_once}
use Rattle.jobfile.specs.Numbers.{bytes_of_row, row_in}
use Rattle.jobfile.specs.File.{count_in, body_start, bodies_size, contents_of, file_of, GoodFile}
use Rattle.jobfile.proofs.Written.{written_good}
use Rattle.jobfile.specs.Jobs.{words_of}
use Rattle.host.specs.Host.{called_job, of_match, HostFault, match_fault, early_order, HostOf}
use Rattle.host.proofs.ChoiceLaws.{none_early}
use Rattle.sheet.specs.Sheet.{example_a, example_b}
use Rattle.sheet.proofs.Theorems.{sheet_holds}
use Rattle.demands.specs.HostPasses.{HostPasses}
use Rattle.demands.proofs.HostMatch.{late, passes_match}

-- "Two jobs, example A with pair (1,9) and example B with pair (1,3), have bodies at 14 and 86, a file of 106 bytes"
sizes : List ℕ
sizes = 17 ∷ 1 ∷ 4 ∷ 1 ∷ []

bodies : List ℕ
bodies = bytes_of_row 4 example_a ++ bytes_of_row 2 (1 ∷ 9 ∷ []) ++ bytes_of_row 4 example_b ++ bytes_of_row 2 (1 ∷ 3 ∷ [])

pub two_jobs : List ℕ
two_jobs = file_of sizes bodies

pub two_jobs-length : length two_jobs ≡ 106
unfolding two_jobs sizes bodies file_of contents_of bytes_of_row bytes_of bodies_size
two_jobs-length = refl

good : GoodFile two_jobs
unfolding two_jobs sizes bodies file_of contents_of bytes_of_row bytes_of bodies_size
good = written_good {sizes = sizes} {bodies = bodies} (record { even = refl; some_job = omega arith; few_jobs = omega arith; sum = refl; short = omega arith })

first_job : called_job two_jobs 1 ≡ sent example_a (1 ∷ 9 ∷ []) 17 68
unfolding two_jobs sizes bodies file_of contents_of bytes_of_row bytes_of from_bytes number_at row_in body_start
first_job = refl

second_job : called_job two_jobs 2 ≡ sent example_b (1 ∷ 3 ∷ []) 4 16
unfolding two_jobs sizes bodies file_of contents_of bytes_of_row bytes_of from_bytes number_at row_in body_start
second_job = refl

-- ---- the checks

-- none of the match's rows applies to a job, so none of them to the call
match_none : (bytes room : List ℕ) (job : ℕ) (rows : List Row) → NoneOf (Fault (called_job bytes job)) rows → NoneOf (HostFault bytes job room) (map of_match rows)
match_none bytes room job [] none = tt
match_none bytes room job (row ∷ rows) none = (λ p f. none.0 p (out f), match_none bytes room job rows none.1)
  where
    out : {p : ℕ} → HostFault bytes job room (of_match row) p → Fault (called_job bytes job) row p
    out (match_fault f) = f

-- what is accepted, or refused for its pairs, passes the checks before them
checks_pass : {job : Job} {a p : ℕ} → (a ≡ 0) ⊎ (10 ≤ a) → Answered number (Fault job) match_order a p → NoneOf (Fault job) (table_rows ++ list_rows)
unfolding number
checks_pass {job} {a} {p} late x = go late (answered_parts number (Fault job) (check_order ++ list_rows) pair_rows a p refl x)
  where
    go : (a ≡ 0) ⊎ (10 ≤ a) → ((a ≡ 0 → ⊥) × Answered number (Fault job) (check_order ++ list_rows) a p) ⊎ (NoneOf (Fault job) (check_order ++ list_rows) × Answered number (Fault job) pair_rows a p)
        → NoneOf (Fault job) (table_rows ++ list_rows)
    go (inl z) (inl (not_0, early)) = absurd (not_0 z)
    go (inr h) (inl (not_0, early)) =
        absurd (omega (arith, h, ltb-true a 10 (answered_tested number (Fault job) (λ b. ltb b 10) (check_order ++ list_rows) a p refl (λ z. ap (λ (b : ℕ). ltb b 10) z) early)))
    go l (inr (none, later)) = (none_parts (Fault job) size_rows (table_rows ++ list_rows) none).1

module _ {room : List ℕ} {job a p : ℕ} (some_job : 1 ≤ job) (inside : job ≤ count_in two_jobs) (some_word : 1 ≤ words_of two_jobs job) (few_words : words_of two_jobs job ≤ most_words)
    (enough : 6 + 2 * words_of two_jobs job ≤ length room) (late_answer : (a ≡ 0) ⊎ (10 ≤ a)) (x : Answered number (Fault (called_job two_jobs job)) match_order a p) where
  job_passes : HostPasses two_jobs job room
  job_passes =
      none_both (HostFault two_jobs job room) early_order (map of_match (table_rows ++ list_rows)) (none_early two_jobs job room good some_job inside some_word few_words enough)
      (match_none two_jobs room job (table_rows ++ list_rows) (checks_pass late_answer x))

  job_answered : {r : ℕ} {after : List ℕ} (h : HostOf two_jobs job room r after) → (r ≡ a) × (h.place ≡ p)
  job_answered {r} h =
      answered_only number (Fault (called_job two_jobs job)) (fault_once (called_job two_jobs job)) pair_rows r h.place a p (late job_passes r h.place h.answered)
      (rest_answers number (Fault (called_job two_jobs job)) (check_order ++ list_rows) pair_rows a p (passes_match job_passes) x)

-- ---- the two jobs

-- the sheet's rows P1 and P2
first_answered : Answered number (Fault (called_job two_jobs 1)) match_order 0 0
first_answered =
    subst (λ (job : Job). Answered number (Fault job) match_order 0 0) (sym first_job)
    ((sheet_holds _ (Memᴰ.head refl)).answered 17 68 (omega arith) (omega arith))

second_answered : Answered number (Fault (called_job two_jobs 2)) match_order 11 1
second_answered =
    subst (λ (job : Job). Answered number (Fault job) match_order 11 1) (sym second_job)
    ((sheet_holds _ (Memᴰ.tail (Memᴰ.head refl))).answered 4 16 (omega arith) (omega arith))

numbers : (count_in two_jobs ≡ 2) × (words_of two_jobs 1 ≡ 17) × (words_of two_jobs 2 ≡ 4)
unfolding two_jobs sizes bodies file_of contents_of bytes_of_row bytes_of from_bytes number_at
numbers = (refl, refl, refl)

-- Both pass. The first is accepted, and the second refused for a cycle at its first pair.
module _ {room : List ℕ} (enough : 40 ≤ length room) where
  pub first_passes : HostPasses two_jobs 1 room
  first_passes = job_passes (omega arith) (omega (arith, numbers)) (omega (arith, numbers)) (omega (arith, numbers)) (omega (arith, enough, numbers)) (inl refl) first_answered

  pub second_passes : HostPasses two_jobs 2 room
  second_passes = job_passes (omega arith) (omega (arith, numbers)) (omega (arith, numbers)) (omega (arith, numbers)) (omega (arith, enough, numbers)) (inr (omega arith)) second_answered

  pub first_accepted : {r : ℕ} {after : List ℕ} → HostOf two_jobs 1 room r after → r ≡ 0
  first_accepted h = (job_answered (omega arith) (omega (arith, numbers)) (omega (arith, numbers)) (omega (arith, numbers)) (omega (arith, enough, numbers)) (inl refl) first_answered h).0

  pub second_refused : {r : ℕ} {after : List ℕ} (h : HostOf two_jobs 2 room r after) → (r ≡ 11) × (h.place ≡ 1)
  second_refused h = job_answered (omega arith) (omega (arith, numbers)) (omega (arith, numbers)) (omega (arith, numbers)) (omega (arith, enough, numbers)) (inr (omega arith)) second_answered h
