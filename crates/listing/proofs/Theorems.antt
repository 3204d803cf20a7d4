-- What follows from the contracts. In order:
--     one listing     job_listed_only, listing_only: a file has one listing
--     one part        first_line_only, jobs_told_only, job_part_only: with `text_only` of lines, two results that a contract
--                     of src/parts.rt allows are equal
--     the whole       in_order, parts_make_listing: the parts one after the other are the listing
-- Assumes nothing.
use mathlib.Core.Path.{◌≡◌, refl, sym, ap, ap₂, ◌∙◌, subst}
use mathlib.Core.List.{List, [], ◌∷◌, ◌++◌, append-nil}
use Prim.Native.Nat.{ℕ, zero, suc, ◌+◌, ◌≤◌, ◌<◌}
use native.Mathlib.Omega.{arith}
use lib.ListN.{length, take, get_or}
use Rattle.answering.specs.Answers.{Answered}
use Rattle.answering.proofs.Orders.{answered_only}
use Rattle.graphs.specs.Partition.{joins}
use Rattle.graphs.proofs.Theorems.{class_table_only}
use Rattle.table.specs.Table.{graph_of}
use Rattle.table.specs.Faults.{Fault, number, match_order}
use Rattle.table.proofs.OneAnswer.{fault_once}
use Rattle.jobfile.specs.File.{GoodFile, count_in, sizes_from, bodies_in}
use Rattle.jobfile.specs.Jobs.{FileJob, jobs_from, jobs_in, entry_of}
use Rattle.jobfile.proofs.ReaderLaws.{answered_once, not_good}
use Rattle.lines.specs.Lines.{header_line, job_line, file_line, TextIn}
use Rattle.lines.proofs.LineLaws.{text_written}
use Rattle.listing.specs.Listing.{variable_lines, sent_for, JobListed, job_refused, job_accepted, JobsListed, no_jobs, next_job, ListingOf, file_refused, file_listed}
use Rattle.listing.specs.Parts.{FirstLine, refusal, header, JobsTold, all_of_good, none_of_refused, job_at, JobPart, lines_there, nothing_there}

-- ---- one listing

-- a job is answered once
module _ (job : FileJob) {a p b q : ℕ} (x : Answered number (Fault (sent_for job)) match_order a p) (y : Answered number (Fault (sent_for job)) match_order b q) where
  job_answered_once : (a ≡ b) × (p ≡ q)
  job_answered_once = answered_only number (Fault (sent_for job)) (fault_once (sent_for job)) match_order a p b q x y

pub job_listed_only : {k : ℕ} {job : FileJob} (x y : List ℕ) → JobListed k job x → JobListed k job y → x ≡ y
job_listed_only {k} {job} x y (job_refused a other) (job_refused b different) = let e = job_answered_once job a b in ap₂ (λ (n p : ℕ). job_line k n p 0) e.0 e.1
job_listed_only {k} {job} x y (job_refused a other) (job_accepted b classes) = absurd (other (job_answered_once job a b).0)
job_listed_only {k} {job} x y (job_accepted a classes) (job_refused b other) = absurd (other (job_answered_once job b a).0)
job_listed_only {k} {job} x y (job_accepted a classes) (job_accepted b others) =
    ap (λ (t : List ℕ). job_line k 0 0 (joins (graph_of job.words) t) ++ variable_lines job.words t) (class_table_only classes others)

jobs_listed_only : {k : ℕ} {jobs : List FileJob} (x y : List ℕ) → JobsListed k jobs x → JobsListed k jobs y → x ≡ y
jobs_listed_only x y no_jobs no_jobs = refl
jobs_listed_only x y (next_job {lines = l} {rest = r} a more) (next_job {lines = m} {rest = s} b others) =
    ap₂ (λ (f g : List ℕ). f ++ g) (job_listed_only l m a b) (jobs_listed_only r s more others)

pub listing_only : {file : List ℕ} (x y : List ℕ) → ListingOf file x → ListingOf file y → x ≡ y
listing_only x y (file_refused a other) (file_refused b different) = let e = answered_once a b in ap₂ file_line e.0 e.1
listing_only x y (file_refused a other) (file_listed good lines) = absurd (not_good a other good)
listing_only x y (file_listed good lines) (file_refused b other) = absurd (not_good b other good)
listing_only x y (file_listed {lines = l} good a) (file_listed {lines = m} also b) = ap (λ (lines : List ℕ). header_line ++ lines) (jobs_listed_only l m a b)

-- ---- one part

pub first_line_only : {file : List ℕ} (x y : List ℕ) → FirstLine file x → FirstLine file y → x ≡ y
first_line_only x y (refusal a other) (refusal b different) = let e = answered_once a b in ap₂ file_line e.0 e.1
first_line_only x y (refusal a other) (header good) = absurd (not_good a other good)
first_line_only x y (header good) (refusal b other) = absurd (not_good b other good)
first_line_only x y (header good) (header also) = refl

pub jobs_told_only : {file : List ℕ} {m n : ℕ} → JobsTold file m → JobsTold file n → m ≡ n
jobs_told_only (all_of_good good) (all_of_good also) = refl
jobs_told_only (all_of_good good) (none_of_refused bad) = absurd (bad good)
jobs_told_only (none_of_refused bad) (all_of_good good) = absurd (bad good)
jobs_told_only (none_of_refused bad) (none_of_refused also) = refl

pub job_part_only : {file : List ℕ} {job : ℕ} (x y : List ℕ) → JobPart file job x → JobPart file job y → x ≡ y
job_part_only x y (lines_there t a) (lines_there u b) = job_listed_only x y a b
job_part_only x y (lines_there t a) (nothing_there none_there) = absurd (none_there t)
job_part_only x y (nothing_there none_there) (lines_there t b) = absurd (none_there t)
job_part_only x y (nothing_there none_there) (nothing_there also) = refl

-- ---- the whole

-- m parts from part k on, one after the other
unfoldable pub in_order : (ℕ → List ℕ) → ℕ → ℕ → List ℕ
in_order part k zero = []
in_order part k (suc m) = part k ++ in_order part (suc k) m

in_order_listed : (part : ℕ → List ℕ) (k : ℕ) (jobs : List FileJob) → ((i : ℕ) → i < length jobs → JobListed (k + i) (get_or jobs i (record { words = []; pairs = [] })) (part (k + i)))
    → JobsListed k jobs (in_order part k (length jobs))
unfolding in_order
in_order_listed part k [] each_listed = no_jobs
in_order_listed part k (job ∷ jobs) each_listed =
    let here : k + 0 ≡ k = omega arith in
    next_job (subst (λ (i : ℕ). JobListed i job (part i)) here (each_listed 0 (omega arith)))
    (in_order_listed part (suc k) jobs
    (λ i h.
    let way : k + suc i ≡ suc k + i = omega arith in
    subst (λ (j : ℕ). JobListed j (get_or jobs i (record { words = []; pairs = [] })) (part j)) way (each_listed (suc i) (omega arith))))

length_jobs : (m k : ℕ) (bytes bodies : List ℕ) → length (jobs_from (sizes_from m k bytes) bodies) ≡ m
unfolding jobs_from sizes_from
length_jobs zero k bytes bodies = refl
length_jobs (suc m) k bytes bodies = ap suc (length_jobs m (suc k) bytes _)

module _ {file : List ℕ} {jobs : ℕ} (told : JobsTold file jobs) where
  told_of_good : GoodFile file → jobs ≡ count_in file
  told_of_good good = jobs_told_only told (all_of_good good)

  told_of_refused : (GoodFile file → ⊥) → jobs ≡ 0
  told_of_refused bad = jobs_told_only told (none_of_refused bad)

  job_part_listed : {job : ℕ} {lines : List ℕ} → GoodFile file → 1 ≤ job → job ≤ count_in file → JobPart file job lines → JobListed job (job_at file job) lines
  job_part_listed good some_job inside (lines_there there listed) = listed
  job_part_listed good some_job inside (nothing_there none_there) = absurd (none_there (record { good = good; some_job = some_job; inside = inside }))

  parts_listed : (part : ℕ → List ℕ) {first : List ℕ} → FirstLine file first → ((job : ℕ) → 1 ≤ job → job ≤ jobs → JobPart file job (part job)) → ListingOf file (first ++ in_order part 1 jobs)
  unfolding in_order
  parts_listed part (refusal {answer = a} {place = p} x other) each_part =
      subst (ListingOf file) (sym (ap (λ (m : ℕ). file_line a p ++ in_order part 1 m) (told_of_refused (not_good x other)) ∙ append-nil (file_line a p))) (file_refused x other)
  parts_listed part (header good) each_part =
      let count : length (jobs_in file) ≡ count_in file = length_jobs (count_in file) 0 file (bodies_in file) in
      let all : length (jobs_in file) ≡ jobs = count ∙ sym (told_of_good good) in
      file_listed good
      (subst (λ (m : ℕ). JobsListed 1 (jobs_in file) (in_order part 1 m)) all
      (in_order_listed part 1 (jobs_in file)
      (λ i h.
      let way : entry_of (1 + i) ≡ i = omega arith in
      subst (λ (j : ℕ). JobListed (1 + i) (get_or (jobs_in file) j (record { words = []; pairs = [] })) (part (1 + i))) way
      (job_part_listed good (omega arith) (omega (arith, count)) (each_part (1 + i) (omega arith) (omega (arith, all)))))))

-- What the program writes, by the contracts of src/parts.rt: the counted bytes of the first row, and then of each job's row.
pub parts_make_listing : {file first_row first_after : List ℕ} {first jobs : ℕ} (row after : ℕ → List ℕ) (size : ℕ → ℕ) → TextIn (FirstLine file) first_row first first_after → JobsTold file jobs
    → ((job : ℕ) → 1 ≤ job → job ≤ jobs → TextIn (JobPart file job) (row job) (size job) (after job))
    → ListingOf file (take first first_after ++ in_order (λ job. take (size job) (after job)) 1 jobs)
parts_make_listing row after size line told each_part =
    parts_listed told (λ job. take (size job) (after job)) (text_written line) (λ job l h. text_written (each_part job l h))
