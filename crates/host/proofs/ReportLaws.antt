-- The report in the room. In order: the class entries one after another (`Reporting`, `reporting_none`, `reporting_more`,
-- `reporting_all`); the three numbers and the entries together (`reported`); the room by the answer (`room_reported`,
-- `room_untouched`). Assumes nothing.
use mathlib.Core.Path.{◌≡◌, refl, sym, ap, ap₂, ◌∙◌}
use mathlib.Core.Bool.{Bool, true, false, cond}
use mathlib.Core.List.{List, [], ◌∷◌, ◌++◌, append_assoc, append-nil}
use Prim.Native.Nat.{ℕ, ◌+◌, ◌*◌, ◌≤◌, ◌<◌}
use native.Mathlib.Nat.{zero-add}
use native.Mathlib.Numerals.{add-one}
use native.Mathlib.Omega.{arith}
use lib.ListN.{length, take, drop, get_or, length-append, take-append-drop}
use lib.Seq.{take-suc, take_all, length-take-le}
use Rattle.rows.specs.LittleEndian.{bytes_of}
use Rattle.rows.specs.Placed.{placed}
use Rattle.rows.proofs.Laws.{length-bytes_of, length-placed}
use Rattle.jobfile.specs.Numbers.{bytes_of_row}
use Rattle.jobfile.proofs.NumberLaws.{length-bytes_of_row}
use Rattle.jobfile.proofs.WriterLaws.{placed_next}
use Rattle.host.specs.Host.{report_of, writes_nothing, room_after}

-- ---- the class entries

row_snoc : (k x : ℕ) (xs : List ℕ) → bytes_of_row k (xs ++ (x ∷ [])) ≡ bytes_of_row k xs ++ bytes_of k x
unfolding bytes_of_row
row_snoc k x [] = append-nil (bytes_of k x)
row_snoc k x (y ∷ xs) = ap (λ (l : List ℕ). bytes_of k y ++ l) (row_snoc k x xs) ∙ sym (append_assoc (bytes_of k y) (bytes_of_row k xs) (bytes_of k x))

-- room is room₀ with the first i class entries in it
pub record Reporting (class room₀ : List ℕ) (i : ℕ) (room : List ℕ) : Type 0 where
  pub so_far : room ≡ placed 6 (bytes_of_row 2 (take i class)) room₀
  pub within : i ≤ length class
  pub enough : 6 + 2 * length class ≤ length room₀
  pub same_length : length room ≡ length room₀

pub reporting_none : {class room : List ℕ} → 6 + 2 * length class ≤ length room → Reporting class room 0 room
unfolding placed bytes_of_row
reporting_none {class} {room} enough = record {
  so_far = sym (ap (λ (l : List ℕ). l ++ drop 6 room) (append-nil (take 6 room)) ∙ take-append-drop 6 room);
  within = omega arith;
  enough = enough;
  same_length = refl;
}

pub reporting_more : {class room₀ room after : List ℕ} {i x : ℕ} → Reporting class room₀ i room → i < length class → x ≡ get_or class i 0 → after ≡ placed (6 + 2 * i) (bytes_of 2 x) room
    → Reporting class room₀ (i + 1) after
reporting_more {class} {room₀} {room} {after} {i} {x} r more next stored =
    let size : length (bytes_of_row 2 (take i class)) ≡ 2 * i = length-bytes_of_row 2 (take i class) ∙ ap (λ (n : ℕ). 2 * n) (length-take-le i class (omega arith)) in
    let row : bytes_of_row 2 (take i class) ++ bytes_of 2 x ≡ bytes_of_row 2 (take (i + 1) class) =
    sym (ap (λ (n : ℕ). bytes_of_row 2 (take n class)) (add-one i)
    ∙ ap (bytes_of_row 2) (take-suc class i 0 more)
    ∙ row_snoc 2 (get_or class i 0) (take i class)
    ∙ ap (λ (y : ℕ). bytes_of_row 2 (take i class) ++ bytes_of 2 y) (sym next)) in
    record {
      so_far =
          stored
          ∙ ap (placed (6 + 2 * i) (bytes_of 2 x)) r.so_far
          ∙ placed_next 6 (6 + 2 * i) (bytes_of_row 2 (take i class)) (bytes_of 2 x) room₀ (omega (arith, r.enough)) (omega arith)
          ∙ ap (λ (l : List ℕ). placed 6 l room₀) row;
      within = omega arith;
      enough = r.enough;
      same_length =
          ap length stored ∙ length-placed (6 + 2 * i) (bytes_of 2 x) room (omega (arith, length-bytes_of 2 x, r.enough, r.same_length)) ∙ r.same_length;
    }

pub reporting_all : {class room₀ room : List ℕ} {i : ℕ} → Reporting class room₀ i room → length class ≤ i → room ≡ placed 6 (bytes_of_row 2 class) room₀
reporting_all {class} {room₀} {room} {i} r past = r.so_far ∙ ap (λ (l : List ℕ). placed 6 (bytes_of_row 2 l) room₀) (take_all i class past)

-- ---- the three numbers and the entries

report_placed : (a p j : ℕ) (class room : List ℕ) {one two : List ℕ} → one ≡ placed 0 (bytes_of 2 a ++ bytes_of 2 p ++ bytes_of 2 j) room
    → two ≡ placed 6 (bytes_of_row 2 class) one → two ≡ placed 0 (report_of a p j class) room
unfolding report_of
report_placed a p j class room first second =
    let size : length (bytes_of 2 a ++ bytes_of 2 p ++ bytes_of 2 j) ≡ 6 = simp (length-append, length-bytes_of) in
    second
    ∙ ap (placed 6 (bytes_of_row 2 class)) first
    ∙ placed_next 0 6 (bytes_of 2 a ++ bytes_of 2 p ++ bytes_of 2 j) (bytes_of_row 2 class) room (omega arith) (omega arith)

pub reported : (class room : List ℕ) {a b p q j k : ℕ} {one two : List ℕ} → a ≡ b → p ≡ q → j ≡ k → one ≡ placed 0 (bytes_of 2 a ++ bytes_of 2 p ++ bytes_of 2 j) room
    → two ≡ placed 6 (bytes_of_row 2 class) one → two ≡ placed 0 (report_of b q k class) room
reported class room {a} {b} {p} {q} {j} {k} e f g first second =
    report_placed a p j class room first second
    ∙ ap (λ (x : ℕ). placed 0 (report_of x p j class) room) e
    ∙ ap₂ (λ (x y : ℕ). placed 0 (report_of b x y class) room) f g

-- ---- the room by the answer

pub room_reported : (a : ℕ) (report room : List ℕ) {after : List ℕ} → writes_nothing a ≡ false → after ≡ placed 0 report room → after ≡ room_after a report room
unfolding room_after placed
room_reported a report room w e =
    e
    ∙ ap (λ (n : ℕ). report ++ drop n room) (zero-add (length report))
    ∙ sym (ap (λ (b : Bool). cond b room (report ++ drop (length report) room)) w)

pub room_untouched : (a : ℕ) (report room : List ℕ) → writes_nothing a ≡ true → room ≡ room_after a report room
unfolding room_after
room_untouched a report room e = sym (ap (λ (b : Bool). cond b room (report ++ drop (length report) room)) e)
