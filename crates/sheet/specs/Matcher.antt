-- What a matcher is, when one meets the contract of a match, and when a match gives what a row of the sheet says.
-- Assumes nothing.
use Rattle.std.specs.Prelude.{◌≡◌, List, ℕ, ◌<◌, length, get_or, take}
use Rattle.matcher.specs.Match.{Matched, number_of, place_of, joins_of, MatchOf}
use Rattle.sheet.specs.Sheet.{Example}

-- From a table, a list and what the class and the work buffer hold, to the answer and what the two buffers hold then.
abbrev pub Matcher : Type 0
Matcher = (t list class work : List ℕ) → Matched × List ℕ × List ℕ

-- every number of a row is below a bound
abbrev pub Below : ℕ → List ℕ → Type 0
Below bound row = (i : ℕ) → i < length row → get_or row i 0 < bound

-- What can be lent to a match: "n words of 32 bits", "16-bit addresses", "Class and work entries are 16 bits".
pub record Lendable (t list class work : List ℕ) : Type 0 where
  pub words : Below 4294967296 t
  pub sides : Below 65536 list
  pub class_entries : Below 65536 class
  pub work_entries : Below 65536 work

-- A matcher meets the contract if it does on all that can be lent.
abbrev pub MeetsContract : Matcher → Type 0
MeetsContract m = (t list class work : List ℕ) → Lendable t list class work → MatchOf t list class work (m t list class work).0 (m t list class work).1 (m t list class work).2

-- The answer and the class entries of a match are those of a row.
pub record Gives (e : Example) (answer : Matched) (class_after : List ℕ) : Type 0 where
  pub the_answer : number_of answer ≡ e.answer
  pub the_place : place_of answer ≡ e.place
  pub the_joins : joins_of answer ≡ e.joins
  pub the_entries : e.answer ≡ 0 → take (length e.table) class_after ≡ e.entries
