-- What the writer's own functions promise each other. Assumes nothing.
use Rattle.std.specs.Prelude.{◌≡◌, List, ◌++◌, ℕ, ◌+◌, ◌*◌, ◌≤◌, length}
use Rattle.rows.specs.LittleEndian.{bytes_of}
use Rattle.words.specs.Limits.{most_bytes}
use Rattle.jobfile.specs.File.{contents_end, job_count, bodies_size, contents_of}

-- what a file begins with: the count and the entries
abbrev pub front_of : List ℕ → List ℕ
front_of sizes = bytes_of 2 (job_count sizes) ++ contents_of (contents_end (job_count sizes)) sizes

-- n and p of each job, with none missing; their file is short enough, and there is room for its contents
pub record Fitted (sizes room : List ℕ) : Type 0 where
  pub even : length sizes ≡ 2 * job_count sizes
  pub short : contents_end (job_count sizes) + bodies_size sizes ≤ most_bytes
  pub enough : contents_end (job_count sizes) ≤ length room
