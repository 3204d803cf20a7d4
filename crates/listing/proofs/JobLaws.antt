-- A job taken out of its file, matched and told. In order: its rows (`rows_for_job`); what was taken is the job (`job_matched`);
-- an accepted table can be told (`tellable`); the lines are the job's (`job_told`). Assumes nothing.
use mathlib.Core.Path.{◌≡◌, refl, sym, ap, ap₂, ◌∙◌, subst}
use mathlib.Core.List.{List, [], ◌++◌}
use Prim.Native.Nat.{ℕ, ◌+◌, ◌*◌, ◌≤◌}
use native.Mathlib.Omega.{arith}
use Rattle.std.specs.Prelude.{Ok, Err, OnOk}
use lib.ListN.{length, take, drop}
use lib.Seq.{take_all, length-take-le}
use Rattle.words.specs.Limits.{most_words, most_bytes}
use Rattle.answering.specs.Answers.{Answered}
use Rattle.graphs.specs.Partition.{ClassTable, joins}
use Rattle.table.specs.Table.{graph_of}
use Rattle.table.specs.Faults.{sent, Fault, number, match_order}
use Rattle.matcher.specs.Match.{Matched, number_of, place_of, AcceptedWith, MatchOf}
use Rattle.matcher.proofs.Verdicts.{ready}
use Rattle.matcher.proofs.Demands.{accepted_passes}
use Rattle.matcher.specs.declared.answer.Counts.{Counts}
use Rattle.matcher.proofs.OneMatch.{refusal_refuses}
use Rattle.jobfile.specs.File.{words_in, pairs_in, body_start, body_in}
use Rattle.jobfile.specs.Jobs.{FileJob, entries_of, entry_of, words_of, list_of, JobThere, JobTaken}
use Rattle.jobfile.proofs.NumberLaws.{length-row_in}
use Rattle.jobfile.proofs.FileLaws.{next_start}
use Rattle.jobfile.proofs.JobLaws.{pairs_entries, entries_pairs}
use Rattle.jobfile.proofs.ReaderLaws.{body_inside}
use Rattle.jobfile.proofs.Theorems.{job_body}
use Rattle.lines.specs.Lines.{job_line, LineIn, TextIn}
use Rattle.listing.specs.Listing.{variable_lines, sent_for, JobListed, job_refused, job_accepted}
use Rattle.listing.specs.Parts.{job_at}
use Rattle.listing.specs.Steps.Putting.{Tellable, answer_line, answer_lines, RowsForListing}
use Rattle.listing.proofs.PutLaws.{lines_front}

-- ---- its rows

-- a file has at most 32,768 bytes
pub job_fits : {file : List ℕ} {job : ℕ} → JobThere file job → (words_of file job ≤ 8192) × (2 * pairs_in file (entry_of job) ≤ 16384)
job_fits {file} {job} there =
    let k : ℕ = entry_of job in
    let fits : 4 * words_in file k + 4 * pairs_in file k ≤ most_bytes =
    omega (arith, next_start file k {start = body_start file k} refl refl refl, body_inside there.good k (omega (arith, there.some_job, there.inside)), there.good.at_most) in
    (omega arith, omega arith)

pub rows_for_job : {file : List ℕ} {job n p entries : ℕ} (table list : List ℕ) {class work : List ℕ} → JobThere file job → n ≡ words_of file job → p ≡ pairs_in file (entry_of job) → entries ≡ 2 * p
    → n ≤ length table → entries ≤ length list → length class ≡ most_words → length work ≡ 4 * most_words
    → RowsForListing file job (take n table) (take entries list) class work
rows_for_job {n = n} {entries = entries} table list there words pairs all tables lists classes works =
    let long : length (take entries list) ≡ entries = length-take-le entries list lists in
    record {
      copied = record { there = there; words = length-take-le n table tables ∙ words; pairs = omega (arith, long, all, pairs) };
      whole = omega (arith, long, all, pairs);
      classes = classes;
      works = works;
    }

-- ---- what was taken

job_matched : {file table list class work t l class_after work_after : List ℕ} {job : ℕ} {answer : Matched} → RowsForListing file job table list class work → JobTaken file job list t l
    → MatchOf t l class work answer class_after work_after
    → (t ≡ (job_at file job).words) × MatchOf (job_at file job).words (entries_of (job_at file job).pairs) class work answer class_after work_after
job_matched {file} {list = list} {class} {work} {t = t} {l} {class_after} {work_after} {job} {answer} rows taken m =
    let k : ℕ = entry_of job in
    let size : length (list_of file job) ≡ 2 * pairs_in file k = length-row_in 2 (2 * pairs_in file k) (drop (4 * words_in file k) (body_in file k)) in
    let is = job_body file k (omega (arith, rows.copied.there.some_job, rows.copied.there.inside)) (record { words = []; pairs = [] }) in
    let words : t ≡ (job_at file job).words = taken.0 ∙ ap (λ (j : FileJob). j.words) (sym is) in
    let entries : l ≡ entries_of (job_at file job).pairs =
    taken.1
    ∙ take_all (length list) (list_of file job) (omega (arith, rows.whole, size))
    ∙ sym (entries_pairs (pairs_in file k) (list_of file job) size)
    ∙ ap (λ (j : FileJob). entries_of j.pairs) (sym is) in
    (words, subst (λ (e : List ℕ). MatchOf (job_at file job).words e class work answer class_after work_after) entries (subst (λ (w : List ℕ). MatchOf w l class work answer class_after work_after) words m))

-- ---- an accepted table

-- its variables can be told
pub tellable : {t l class work class_after work_after : List ℕ} → length class ≡ most_words → (answer : Matched) → MatchOf t l class work answer class_after work_after → length class_after ≡ length class
    → OnOk answer (Tellable t class_after)
tellable {t = t} long (Ok counts) m same =
    let small : length t ≤ most_words = (ready (accepted_passes m refl)).passed.readable.small in
    (small, omega (arith, long, same, small))
tellable long (Err refusal) m same = tt

-- ---- its lines

module _ (k : ℕ) (job : FileJob) {class work class_after work_after : List ℕ} (classes : length class ≡ most_words) (works : length work ≡ 4 * most_words) where
  answered : {answer : Matched} → MatchOf job.words (entries_of job.pairs) class work answer class_after work_after → Answered number (Fault (sent_for job)) match_order (number_of answer) (place_of answer)
  answered {answer} m =
      subst (λ (w : ℕ). Answered number (Fault (sent job.words (entries_of job.pairs) most_words w)) match_order (number_of answer) (place_of answer)) works
      (subst (λ (c : ℕ). Answered number (Fault (sent job.words (entries_of job.pairs) c (length work))) match_order (number_of answer) (place_of answer)) classes m.answered)

  listed_accepted : {row after : List ℕ} {r : ℕ} {counts : Counts} → MatchOf job.words (entries_of job.pairs) class work (Ok counts) class_after work_after
      → LineIn (answer_lines k (Ok counts) job.words class_after) row r after → TextIn (JobListed k job) row r after
  listed_accepted {row} {after} {r} {counts} m told =
      let b : AcceptedWith job.words (entries_of job.pairs) class class_after counts.joins = m.bound refl in
      let table : ClassTable (graph_of job.words) job.pairs b.table = subst (λ ps. ClassTable (graph_of job.words) ps b.table) (pairs_entries job.pairs) b.class_table in
      let line : answer_line k (Ok counts) ≡ job_line k 0 0 (joins (graph_of job.words) b.table) = ap (job_line k 0 0) b.joins_counted in
      let variables : variable_lines job.words class_after ≡ variable_lines job.words b.table =
      ap (variable_lines job.words) b.row ∙ lines_front job.words b.table (drop (length job.words) class) (length job.words) (omega (arith, table.long)) in
      record {
        text = job_line k 0 0 (joins (graph_of job.words) b.table) ++ variable_lines job.words b.table;
        is = job_accepted (answered m) table;
        there = subst (λ (text : List ℕ). LineIn text row r after) (ap₂ (λ (f g : List ℕ). f ++ g) line variables) told;
      }

  job_listed : {row after : List ℕ} {r : ℕ} (answer : Matched) → MatchOf job.words (entries_of job.pairs) class work answer class_after work_after → LineIn (answer_lines k answer job.words class_after) row r after → TextIn (JobListed k job) row r after
  job_listed (Ok counts) m told = listed_accepted m told
  job_listed (Err refusal) m told = record { text = answer_line k (Err refusal); is = job_refused (answered m) (refusal_refuses refusal); there = told }

pub job_told : {file table list class work row t l class_after work_after after : List ℕ} {job r : ℕ} (answer : Matched) → RowsForListing file job table list class work → JobTaken file job list t l
    → MatchOf t l class work answer class_after work_after → LineIn (answer_lines job answer t class_after) row r after → TextIn (JobListed job (job_at file job)) row r after
job_told {file} {row = row} {class_after = class_after} {after = after} {job} {r} answer rows taken m told =
    let matched = job_matched rows taken m in
    job_listed job (job_at file job) rows.classes rows.works answer matched.1 (subst (λ (t : List ℕ). LineIn (answer_lines job answer t class_after) row r after) matched.0 told)
