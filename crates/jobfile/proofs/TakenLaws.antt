-- What is copied out of a body. In order:
--     numbers, over their width    taken_more: what a turn copies; all_taken: what a loop leaves; taken_full: a full row
--     a job                        body_ends: its body; part_size, job-taken: its words and addresses, out of it
-- Assumes nothing.
use mathlib.Core.Path.{◌≡◌, refl, sym, ap, ap₂, ◌∙◌}
use mathlib.Core.List.{List, ◌++◌, append-nil, map}
use Prim.Native.Nat.{ℕ, ◌+◌, ◌-◌, ◌*◌, ◌/◌, ◌≤◌, ◌<◌}
use native.Mathlib.Nat.{min-eq_left}
use native.Mathlib.Omega.{arith}
use lib.ListN.{length, take, drop, get_or-map, set, length-drop}
use lib.Seq.{drop-length, length-take-le}
use Rattle.std.proofs.lemmas.List.{map-id}
use Rattle.rows.specs.LittleEndian.{number_at}
use Rattle.rows.proofs.Laws.{Built, built_more, built_all}
use Rattle.jobfile.specs.Numbers.{row_in}
use Rattle.jobfile.specs.Steps.Taking.{fitting, taken}
use Rattle.jobfile.specs.File.{body_size, count_in, offset_in, pairs_in, body_start, body_in}
use Rattle.jobfile.specs.Jobs.{entry_of, words_of, JobThere, RowsForJob, JobTaken}
use Rattle.jobfile.proofs.NumberLaws.{to_the_end, entry_row_in}
use Rattle.jobfile.proofs.FileLaws.{next_start}
use Rattle.jobfile.proofs.JobLaws.{row_front}
use Rattle.jobfile.proofs.ReaderLaws.{body_inside}

module _ {A : Type 0} (of_number : ℕ → A) where
  -- a turn takes the number that is next
  pub taken_more : (k m i : ℕ) (bytes : List ℕ) {row₀ row : List A} {x : A} → Built (map of_number (row_in k m bytes)) row₀ m i row → i < m
      → x ≡ of_number (number_at k (k * i) bytes) → Built (map of_number (row_in k m bytes)) row₀ m (i + 1) (set row i x)
  taken_more k m i bytes built h e =
      built_more (of_number 0) built h (e ∙ ap of_number (sym (entry_row_in k m i bytes h)) ∙ sym (get_or-map of_number (row_in k m bytes) i 0))

  pub all_taken : (k m : ℕ) (bytes : List ℕ) {row₀ row : List A} {i : ℕ} → Built (map of_number (row_in k m bytes)) row₀ m i row → m ≤ i → m ≡ fitting k bytes row₀
      → row ≡ taken of_number k bytes row₀
  unfolding taken
  all_taken k m bytes {row₀} built past e = built_all built past ∙ ap (λ (j : ℕ). map of_number (row_in k j bytes) ++ drop j row₀) e

-- a row for which there are numbers enough holds just those
pub taken_full : (k : ℕ) (bytes row : List ℕ) → length row ≤ length bytes / k → taken (λ x. x) k bytes row ≡ row_in k (length row) bytes
unfolding taken
taken_full k bytes row enough =
    let all : fitting k bytes row ≡ length row = min-eq_left enough in
    ap (λ (m : ℕ). map (λ x. x) (row_in k m bytes) ++ drop m row) all ∙ ap (λ (l : List ℕ). map (λ x. x) (row_in k (length row) bytes) ++ l) (drop-length row) ∙ append-nil (map (λ x. x) (row_in k (length row) bytes)) ∙ map-id (row_in k (length row) bytes)

-- ---- a job out of its body

module _ {bytes : List ℕ} {job : ℕ} (there : JobThere bytes job) where
  entry_there : entry_of job < count_in bytes
  entry_there = omega (arith, there.some_job, there.inside)

  -- a body that starts where the contents say ends within the file
  pub body_ends : {start size : ℕ} → start ≡ offset_in bytes (entry_of job) → size ≡ body_size (words_of bytes job) (pairs_in bytes (entry_of job)) → start + size ≤ length bytes
  body_ends begins long =
      omega (arith, next_start bytes (entry_of job) (begins ∙ there.good.offsets (entry_of job) entry_there) refl refl, body_inside there.good (entry_of job) entry_there)

  length_body : length (body_in bytes (entry_of job)) ≡ body_size (words_of bytes job) (pairs_in bytes (entry_of job))
  length_body =
      length-take-le (body_size (words_of bytes job) (pairs_in bytes (entry_of job))) (drop (body_start bytes (entry_of job)) bytes)
      (simp length-drop (omega (arith, next_start bytes (entry_of job) {start = body_start bytes (entry_of job)} refl refl refl, body_inside there.good (entry_of job) entry_there)))

module _ {bytes : List ℕ} {job : ℕ} {table list part : List ℕ} (rows : RowsForJob bytes job table list) (body : part ≡ body_in bytes (entry_of job)) where
  pub part_size : length part ≡ 4 * length table + 4 * pairs_in bytes (entry_of job)
  part_size = omega (arith, ap length body, length_body rows.there, rows.words)

  -- the words fill their row, and so do the addresses from behind the n words, or the first of them
  pub job-taken : {table_after list_after : List ℕ} → table_after ≡ taken (λ x. x) 4 part table → list_after ≡ taken (λ x. x) 2 (take (length part - 4 * length table) (drop (4 * length table) part)) list
      → JobTaken bytes job list table_after list_after
  job-taken words entries =
      let p : ℕ = pairs_in bytes (entry_of job) in (
        words
            ∙ taken_full 4 part table (omega (arith, part_size))
            ∙ ap₂ (λ (n : ℕ) (l : List ℕ). row_in 4 n l) rows.words body,
        entries
            ∙ ap (λ (l : List ℕ). taken (λ x. x) 2 l list) (to_the_end (4 * length table) part)
            ∙ taken_full 2 (drop (4 * length table) part) list (omega (arith, part_size, length-drop (4 * length table) part, rows.pairs))
            ∙ row_front 2 (length list) (2 * p) (drop (4 * length table) part) rows.pairs
            ∙ ap₂ (λ (m : ℕ) (l : List ℕ). take (length list) (row_in 2 (2 * p) (drop (4 * m) l))) rows.words body,
      )
