-- Document 01's limits, each beside its sentence. Assumes nothing.
use Rattle.std.specs.Prelude.{ℕ, ◌*◌}

-- "A table is n words of 32 bits at addresses 0 to n-1, with n from 1 to 4,096."
abbrev pub most_words : ℕ
most_words = 4096

-- a block is a function word, "a count word k, then k argument words"; "a count is 0 or over 255" is a fault
abbrev pub most_arguments : ℕ
most_arguments = 255

-- "A list holds 0 to 256 pairs"
abbrev pub most_pairs : ℕ
most_pairs = 256

-- two addresses a pair: "odd number of entries, or over 512" is a fault
abbrev pub most_entries : ℕ
most_entries = 2 * most_pairs

-- "under 2 bytes or over 32,768" is a fault
abbrev pub most_bytes : ℕ
most_bytes = 32768

-- "J is 0 or over 64" is a fault
abbrev pub most_jobs : ℕ
most_jobs = 64

-- n and p for each job: "at most 128 numbers"
abbrev pub most_sizes : ℕ
most_sizes = 2 * most_jobs
