-- An answer's three numbers as one, for entries that return no more than a number. Assumes nothing.
use Rattle.std.specs.Prelude.{ℕ, ◌+◌, ◌*◌, ◌/◌, ◌%◌}

-- answer, place and joins, 16 bits each from the low end; the top 16 bits are 0
abbrev pub as_one : ℕ → ℕ → ℕ → ℕ
as_one answer place joined = answer + 65536 * place + 4294967296 * joined

-- The three numbers taken out again, as STATION_ANSWER_OF, STATION_PLACE_OF and STATION_JOINS_OF of include/station.h take
-- them. STATION_JOBS_OF is the same as the last.
abbrev pub answer_in : ℕ → ℕ
answer_in result = result % 65536

abbrev pub place_in : ℕ → ℕ
place_in result = result / 65536 % 65536

abbrev pub joins_in : ℕ → ℕ
joins_in result = result / 4294967296 % 65536
