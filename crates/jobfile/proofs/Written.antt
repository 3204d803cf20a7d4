-- What the writer writes is a good file, with the sizes and the bodies that it was sent; and a good file is the file of its own
-- sizes and bodies.
--
-- In order: what the writer does not refuse (`Writable`); that it is good and is read back (`written_good`, `written_sizes`,
-- `written_bodies`); that a good file is such a file (`good_writable`, `good_again`). Assumes nothing.
use mathlib.Core.Path.{◌≡◌, sym, ap, ◌∙◌}
use mathlib.Core.List.{List, ◌++◌, append_assoc}
use Prim.Native.Nat.{ℕ, ◌+◌, ◌*◌, ◌%◌, ◌≤◌}
use native.Mathlib.Omega.{arith}
use lib.ListN.{length, drop, length-drop}
use Rattle.rows.specs.LittleEndian.{bytes_of, AllBytes}
use Rattle.words.specs.Limits.{most_bytes, most_jobs}
use Rattle.jobfile.specs.File.{contents_end, count_in, body_start, sizes_from, sizes_in, bodies_in, GoodFile, job_count, bodies_size, contents_of, file_of}
use Rattle.jobfile.proofs.NumberLaws.{number_there_lem, rest_there, bytes_there}
use Rattle.jobfile.proofs.FileLaws.{length-sizes_from, sizes_end, length-file_of, ReadBack, read_back, contents_again}

-- sizes and bodies that neither 13, 14 nor 12 refuses
pub record Writable (sizes bodies : List ℕ) : Type 0 where
  pub even : length sizes % 2 ≡ 0
  pub some_job : 1 ≤ job_count sizes
  pub few_jobs : job_count sizes ≤ most_jobs
  pub sum : length bodies ≡ bodies_size sizes
  pub short : length (file_of sizes bodies) ≤ most_bytes

-- ---- written, then read

module _ {sizes bodies : List ℕ} (w : Writable sizes bodies) where
  file_size : length (file_of sizes bodies) ≡ contents_end (job_count sizes) + length bodies
  file_size = length-file_of sizes bodies w.even

  front : drop 0 (file_of sizes bodies) ≡ bytes_of 2 (job_count sizes) ++ (contents_of (contents_end (job_count sizes)) sizes ++ bodies)
  unfolding file_of
  front = append_assoc (bytes_of 2 (job_count sizes)) (contents_of (contents_end (job_count sizes)) sizes) bodies

  pub written_count : count_in (file_of sizes bodies) ≡ job_count sizes
  written_count = number_there_lem 2 (job_count sizes) 0 (file_of sizes bodies) (contents_of (contents_end (job_count sizes)) sizes ++ bodies) front (omega (arith, w.few_jobs))

  written_back : ReadBack (file_of sizes bodies) (job_count sizes) 0 (contents_end (job_count sizes)) sizes bodies
  unfolding body_start
  written_back =
      read_back (file_of sizes bodies) bodies (job_count sizes) 0 (contents_end (job_count sizes)) sizes
      (omega (arith, w.even))
      (omega (arith, file_size, w.short, w.sum))
      (ap contents_end (sym written_count))
      (rest_there 2 (job_count sizes) 0 (file_of sizes bodies) (contents_of (contents_end (job_count sizes)) sizes ++ bodies) front)

  pub written_sizes : sizes_in (file_of sizes bodies) ≡ sizes
  written_sizes = ap (λ (m : ℕ). sizes_from m 0 (file_of sizes bodies)) written_count ∙ written_back.same_sizes

  pub written_bodies : bodies_in (file_of sizes bodies) ≡ bodies
  written_bodies =
      let way : contents_end (count_in (file_of sizes bodies)) ≡ 2 + 6 * (0 + job_count sizes) = omega (arith, written_count) in
      ap (λ (i : ℕ). drop i (file_of sizes bodies)) way ∙ written_back.after

  last_end : body_start (file_of sizes bodies) (count_in (file_of sizes bodies)) ≡ length (file_of sizes bodies)
  unfolding body_start
  last_end =
      let bytes : List ℕ = file_of sizes bodies in
      let way : count_in bytes ≡ 0 + count_in bytes = omega arith in
      omega (arith, ap (body_start bytes) way, sizes_end (count_in bytes) 0 bytes, ap bodies_size written_sizes, w.sum, file_size, written_count)

  pub written_good : GoodFile (file_of sizes bodies)
  written_good = record {
    at_least = omega (arith, file_size);
    at_most = w.short;
    some_job = omega (arith, written_count, w.some_job);
    few_jobs = omega (arith, written_count, w.few_jobs);
    contents_inside = omega (arith, written_count, file_size);
    offsets = λ k h. written_back.offsets k (omega arith) (omega (arith, written_count));
    ends = last_end;
  }

-- ---- read, then written

module _ {bytes : List ℕ} (good : GoodFile bytes) where
  good_count : job_count (sizes_in bytes) ≡ count_in bytes
  good_count = omega (arith, length-sizes_from (count_in bytes) 0 bytes)

  -- a good file is the file of its sizes and bodies
  pub good_again : AllBytes bytes → file_of (sizes_in bytes) (bodies_in bytes) ≡ bytes
  unfolding file_of body_start
  good_again all =
      let J : ℕ = count_in bytes in
      let way : 2 + 6 * (0 + J) ≡ contents_end J = omega arith in
      let contents : contents_of (contents_end J) (sizes_in bytes) ++ drop (2 + 6 * (0 + J)) bytes ≡ drop 2 bytes =
      contents_again J 0 bytes all (omega (arith, good.contents_inside)) (λ j l h. good.offsets j (omega arith)) in
      ap (λ (m : ℕ). (bytes_of 2 m ++ contents_of (contents_end m) (sizes_in bytes)) ++ bodies_in bytes) good_count
      ∙ append_assoc (bytes_of 2 J) (contents_of (contents_end J) (sizes_in bytes)) (bodies_in bytes)
      ∙ ap (λ (i : ℕ). bytes_of 2 J ++ (contents_of (contents_end J) (sizes_in bytes) ++ drop i bytes)) (sym way)
      ∙ ap (λ (l : List ℕ). bytes_of 2 J ++ l) contents
      ∙ bytes_there 2 0 bytes all good.at_least

  -- and the writer does not refuse those
  pub good_writable : AllBytes bytes → Writable (sizes_in bytes) (bodies_in bytes)
  unfolding body_start
  good_writable all =
      let J : ℕ = count_in bytes in
      let way : 0 + J ≡ J = omega arith in
      record {
        even = omega (arith, length-sizes_from J 0 bytes);
        some_job = omega (arith, good_count, good.some_job);
        few_jobs = omega (arith, good_count, good.few_jobs);
        sum = omega (arith, length-drop (contents_end J) bytes, sizes_end J 0 bytes, ap (body_start bytes) way, good.ends);
        short = omega (arith, ap length (good_again all), good.at_most);
      }
