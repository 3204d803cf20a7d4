-- Lines. In order:
--     one part after another      field-placed, line_word, line_first, line_more: what stores and copies leave
--     a front lent on             line_counts
--     read back                   job_line_read, variable_line_read, file_line_read: a line tells its numbers; decimal_tells
--     what was put                line_written, line_lent, text_written
--     one result                  line_only, text_only
-- Assumes nothing.
use mathlib.Core.Path.{◌≡◌, refl, sym, ap, ap₂, ◌∙◌, subst}
use mathlib.Core.List.{List, [], ◌∷◌, ◌++◌, append_assoc, append-nil}
use Prim.Native.Nat.{ℕ, suc, ◌+◌, ◌≤◌, ◌<◌}
use native.Mathlib.Omega.{arith}
use lib.ListN.{length, take, drop, get_or, set, length-append, take-append-drop}
use lib.Seq.{drop-cons, take_at, set_at, append_snoc, length-take-le, drop-append-le}
use Rattle.rows.specs.Placed.{placed}
use Rattle.rows.proofs.Laws.{behind_stays}
use Rattle.lines.specs.Decimal.{decimal, numbers_from, numbers_in}
use Rattle.lines.specs.Lines.{SPACE, NEWLINE, field, job_line, variable_line, file_line, LineIn, TextIn, Counts}
use Rattle.lines.proofs.Decimals.{numbers_end, decimal_read}

-- ---- one part after another

-- a store straight after a part makes the part longer
store_next : (at : ℕ) (xs row : List ℕ) (v : ℕ) → at + length xs < length row → set (placed at xs row) (at + length xs) v ≡ placed at (xs ++ (v ∷ [])) row
unfolding placed
store_next at xs row v h =
    let n : ℕ = at + length xs in
    let front : length (take at row ++ xs) ≡ n = simp (length-append, length-take-le at row (omega arith)) refl in
    let end : suc n ≡ at + length (xs ++ (v ∷ [])) = omega (arith, length-append xs (v ∷ [])) in
    ap (λ (l : List ℕ). set (take at row ++ xs ++ l) n v) (drop-cons row n 0 h)
    ∙ set_at (take at row ++ xs) (get_or row n 0) (drop (suc n) row) v n front
    ∙ sym (append_snoc (take at row ++ xs) v (drop (suc n) row))
    ∙ ap₂ (λ (f : List ℕ) (i : ℕ). f ++ drop i row) (append_assoc (take at row) xs (v ∷ [])) end

-- the byte after a number
pub field-placed : (x after at next : ℕ) (row before : List ℕ) → at + length (decimal x) < length row → next ≡ at + length (decimal x) → before ≡ placed at (decimal x) row
    → (next + 1 ≡ at + length (field x after)) × (set before next after ≡ placed at (field x after) row)
unfolding field
field-placed x after at next row before room e built = (
  omega (arith, length-append (decimal x) (after ∷ [])),
  ap₂ (λ (l : List ℕ) (i : ℕ). set l i after) built e ∙ store_next at (decimal x) row after room,
)

-- a word copied to the front
pub line_word : (word row copied : List ℕ) → copied ≡ word → LineIn word row (length word) (copied ++ drop (length word) row)
line_word word row copied same = record { long = refl; there = ap (λ (l : List ℕ). l ++ drop (length word) row) same }

pub line_first : {next row after : List ℕ} {r : ℕ} → r ≡ 0 + length next → after ≡ placed 0 next row → LineIn next row r after
unfolding placed
line_first {next} {row} e built =
    let way : 0 + length next ≡ length next = omega arith in
    record { long = e ∙ way; there = built ∙ ap (λ (i : ℕ). next ++ drop i row) way }

pub line_more : (next : List ℕ) {front row before after : List ℕ} {at r : ℕ} → LineIn front row at before → r ≡ at + length next → after ≡ placed at next before
    → LineIn (front ++ next) row r after
unfolding placed
line_more next {front} {row} {before} {after} {at} so_far e built =
    let size : at + length next ≡ length (front ++ next) = omega (arith, so_far.long, length-append front next) in
    let head : take at before ≡ front = ap (take at) so_far.there ∙ take_at front (drop (length front) row) at (sym so_far.long) in
    let behind : drop (at + length next) before ≡ drop (length (front ++ next)) row =
    ap (drop (at + length next)) so_far.there ∙ behind_stays front row (length front) (at + length next) refl (omega (arith, so_far.long)) ∙ ap (λ (i : ℕ). drop i row) size in
    record { long = e ∙ size; there = built ∙ ap₂ (λ (f g : List ℕ). f ++ next ++ g) head behind }

-- ---- a front lent on

pub line_counts : (r : ℕ) (row : List ℕ) → r ≤ length row → Counts r row
line_counts r row h = (h, sym (length-take-le r row h))

-- ---- read back

field_read : (x after : ℕ) (rest : List ℕ) → after < 48 → numbers_in (field x after ++ rest) ≡ x ∷ numbers_in rest
unfolding field
field_read x after rest h = ap numbers_in (append_assoc (decimal x) (after ∷ []) rest) ∙ decimal_read x (after ∷ rest) ∙ numbers_end x after rest h

field_read_last : (x after : ℕ) → after < 48 → numbers_in (field x after) ≡ x ∷ []
unfolding numbers_from
field_read_last x after h = ap numbers_in (sym (append-nil (field x after))) ∙ field_read x after [] h

-- two fields after whatever stood before
two_read : (x y : ℕ) → numbers_in (field x SPACE ++ field y NEWLINE) ≡ x ∷ y ∷ []
two_read x y = field_read x SPACE (field y NEWLINE) (omega arith) ∙ ap (λ (l : List ℕ). x ∷ l) (field_read_last y NEWLINE (omega arith))

three_read : (x y z : ℕ) → numbers_in (field x SPACE ++ field y SPACE ++ field z NEWLINE) ≡ x ∷ y ∷ z ∷ []
three_read x y z =
    ap numbers_in (append_assoc (field x SPACE) (field y SPACE) (field z NEWLINE))
    ∙ field_read x SPACE (field y SPACE ++ field z NEWLINE) (omega arith)
    ∙ ap (λ (l : List ℕ). x ∷ l) (two_read y z)

pub job_line_read : (job answer place joins : ℕ) → numbers_in (job_line job answer place joins) ≡ job ∷ answer ∷ place ∷ joins ∷ []
unfolding job_line
job_line_read job answer place joins =
    ap numbers_in (ap (λ (l : List ℕ). l ++ field joins NEWLINE) (append_assoc (field job SPACE) (field answer SPACE) (field place SPACE)) ∙ append_assoc (field job SPACE) (field answer SPACE ++ field place SPACE) (field joins NEWLINE))
    ∙ field_read job SPACE (field answer SPACE ++ field place SPACE ++ field joins NEWLINE) (omega arith)
    ∙ ap (λ (l : List ℕ). job ∷ l) (three_read answer place joins)

-- of a variable's line, behind the `v` and its space
pub variable_line_read : (address label name : ℕ) → numbers_in (drop 2 (variable_line address label name)) ≡ address ∷ label ∷ name ∷ []
unfolding variable_line
variable_line_read address label name = three_read address label name

-- of a refused file's line, behind the `file` and its space
pub file_line_read : (answer place : ℕ) → numbers_in (drop 5 (file_line answer place)) ≡ answer ∷ place ∷ []
unfolding file_line
file_line_read answer place = two_read answer place

-- so numbers that differ have digits that differ
pub decimal_tells : (x y : ℕ) → decimal x ≡ decimal y → x ≡ y
unfolding field
decimal_tells x y e =
    let same : x ∷ [] ≡ y ∷ [] = sym (field_read_last x SPACE (omega arith)) ∙ ap (λ (l : List ℕ). numbers_in (l ++ (SPACE ∷ []))) e ∙ field_read_last y SPACE (omega arith) in
    ap (λ (l : List ℕ). get_or l 0 0) same

-- ---- what was put

-- what was put into the row, and is counted, is the line ..
pub line_written : {line row after : List ℕ} {r : ℕ} → LineIn line row r after → take r after ≡ line
line_written {line} {row} {r = r} l = ap (take r) l.there ∙ take_at line (drop (length line) row) r (sym l.long)

-- .. also where it was put into the front of another row, that was lent ..
pub line_lent : {line front part : List ℕ} {n r : ℕ} (row : List ℕ) → LineIn line front r part → front ≡ take n row → n ≤ length row → r ≤ n → LineIn line row r (part ++ drop n row)
line_lent {line} {front} {part} {n} {r} row l lent inside short =
    let size : length (take n row) ≡ n = length-take-le n row inside in
    let rest : drop (length line) (take n row) ++ drop n row ≡ drop (length line) row =
    sym (drop-append-le (length line) (take n row) (drop n row) (omega (arith, l.long))) ∙ ap (drop (length line)) (take-append-drop n row) in
    record {
      long = l.long;
      there =
          ap (λ (x : List ℕ). x ++ drop n row) (l.there ∙ ap (λ (x : List ℕ). line ++ drop (length line) x) lent)
          ∙ append_assoc line (drop (length line) (take n row)) (drop n row)
          ∙ ap (λ (x : List ℕ). line ++ x) rest;
    }

-- .. and so is such text
pub text_written : {Text : List ℕ → Type 0} {row after : List ℕ} {r : ℕ} → TextIn Text row r after → Text (take r after)
text_written {Text} t = subst Text (sym (line_written t.there)) t.is

-- ---- one result

-- Two results that a contract of this crate allows are equal.
pub line_only : {line row after₁ after₂ : List ℕ} {r s : ℕ} → LineIn line row r after₁ → LineIn line row s after₂ → (r ≡ s) × (after₁ ≡ after₂)
line_only a b = (a.long ∙ sym b.long, a.there ∙ sym b.there)

-- the same where there is one text of the kind
pub text_only : {Text : List ℕ → Type 0} {row after₁ after₂ : List ℕ} {r s : ℕ} → ((x y : List ℕ) → Text x → Text y → x ≡ y) → TextIn Text row r after₁ → TextIn Text row s after₂
    → (r ≡ s) × (after₁ ≡ after₂)
text_only {row = row} {after₂ = after₂} {s = s} one a b =
    line_only a.there (subst (λ (l : List ℕ). LineIn l row s after₂) (one b.text a.text b.is a.is) b.there)
