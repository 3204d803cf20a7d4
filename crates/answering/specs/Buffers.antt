-- What an answer leaves in a lent row. The sentences quoted are document 01's, "Numbers returned". Assumes nothing.
use Rattle.std.specs.Prelude.{Bool, cond, ◌||◌, List, ℕ, eqb}
use Rattle.rows.specs.Placed.{zeroed}

-- "Answers 1 and 2 change nothing."
unfoldable pub changes_nothing : ℕ → Bool
changes_nothing answer = eqb answer 1 || eqb answer 2

-- "From 3 on, the first n class entries and the first 4n work entries become 0; for answer 0 .. the work entries 0." "Entries
-- above n and 4n stay." Of the check: "on 0 .. the entries in use are 0".
unfoldable pub left : ℕ → ℕ → List ℕ → List ℕ
left answer n row = cond (changes_nothing answer) row (zeroed n row)
