-- The lines that programs print. Document 01, 'The host and the listing': "A refused file prints one line, `file`, answer,
-- place. Otherwise a header, one line a job, and after an accepted job one line for each variable in address order: `v`, its
-- address, label and class name. Fields are parted by one space." Assumes nothing.
use Rattle.std.specs.Prelude.{◌≡◌, List, [], ◌∷◌, ◌++◌, ℕ, ◌≤◌, length, take, drop}
use Rattle.lines.specs.Decimal.{decimal}

abbrev pub SPACE : ℕ
SPACE = 32

abbrev pub NEWLINE : ℕ
NEWLINE = 10

-- a number and the byte after it
unfoldable pub field : ℕ → ℕ → List ℕ
field x after = decimal x ++ (after ∷ [])

-- `k answer place joins`
unfoldable pub job_line : ℕ → ℕ → ℕ → ℕ → List ℕ
job_line job answer place joins = field job SPACE ++ field answer SPACE ++ field place SPACE ++ field joins NEWLINE

-- `v ` in ASCII
abbrev pub variable_word : List ℕ
variable_word = 118 ∷ 32 ∷ []

-- `v address label name`
unfoldable pub variable_line : ℕ → ℕ → ℕ → List ℕ
variable_line address label name = variable_word ++ field address SPACE ++ field label SPACE ++ field name NEWLINE

-- `file ` in ASCII
abbrev pub file_word : List ℕ
file_word = 102 ∷ 105 ∷ 108 ∷ 101 ∷ 32 ∷ []

-- `file answer place`
unfoldable pub file_line : ℕ → ℕ → List ℕ
file_line answer place = file_word ++ field answer SPACE ++ field place NEWLINE

-- `job answer place joins` in ASCII
abbrev pub header_line : List ℕ
header_line = 106 ∷ 111 ∷ 98 ∷ 32 ∷ 97 ∷ 110 ∷ 115 ∷ 119 ∷ 101 ∷ 114 ∷ 32 ∷ 112 ∷ 108 ∷ 97 ∷ 99 ∷ 101 ∷ 32 ∷ 106 ∷ 111 ∷ 105 ∷ 110 ∷ 115 ∷ 10 ∷ []

-- ---- a line in a row

-- no line is longer: four numbers of five digits, with a byte after each
abbrev pub line_room : ℕ
line_room = 24

-- A line of r bytes stands at the front of a row; the bytes after it stay.
pub record LineIn (line row : List ℕ) (r : ℕ) (after : List ℕ) : Type 0 where
  pub long : r ≡ length line
  pub there : after ≡ line ++ drop (length line) row

-- Text of this kind, of r bytes, stands at the front of a row; the bytes after it stay.
pub record TextIn (Text : List ℕ → Type 0) (row : List ℕ) (r : ℕ) (after : List ℕ) : Type 0 where
  pub text : List ℕ
  pub is : Text text
  pub there : LineIn text row r after

-- r counts bytes at the front of a row. It follows from LineIn, and is said so that whoever lends the front on has no more to
-- show.
abbrev pub Counts : ℕ → List ℕ → Type 0
Counts r row = (r ≤ length row) × (r ≡ length (take r row))
