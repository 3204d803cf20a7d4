-- Lines put into a row one after the other. In order:
--     one line         copied_line: a line that was copied; put_nothing
--     an address       line_there, line_nowhere
--     all addresses    Telling, telling_none, telling_more; lines_front: by the front of a row of class entries
-- Assumes nothing.
use mathlib.Core.Path.{◌≡◌, refl, sym, ap, ap₂, ◌∙◌}
use mathlib.Core.List.{List, [], ◌++◌, append-nil}
use Prim.Native.Nat.{ℕ, zero, suc, ◌+◌, ◌*◌, ◌≤◌, ◌<◌}
use native.Mathlib.Numerals.{add-one}
use native.Mathlib.Omega.{arith}
use lib.ListN.{length, take, drop, get_or, length-append, take-append-drop, get_or-append}
use Rattle.rows.specs.Placed.{placed}
use Rattle.rows.proofs.Laws.{length-placed}
use Rattle.words.specs.Limits.{most_words}
use Rattle.words.specs.declared.kind.Kind.{Kind}
use Rattle.table.specs.Table.{kind_at, content_at}
use Rattle.table.proofs.Leaves.{picked, passed}
use borrow.Rule.Slice.PartMut.{put_mid}
use Rattle.rows.proofs.Laws.{copied_within}
use Rattle.jobfile.proofs.WriterLaws.{placed_next}
use Rattle.lines.specs.Lines.{variable_line, line_room, LineIn}
use Rattle.lines.proofs.LineLaws.{line_written}
use Rattle.listing.specs.Listing.{line_at, lines_below}
use Rattle.listing.specs.Steps.Putting.{job_room, PutAt}

-- ---- one line

module _ {line line₀ line_after : List ℕ} {size : ℕ} (l : LineIn line line₀ size line_after) where
  pub copied_line : (at : ℕ) {k : ℕ} (row : List ℕ) {copied : List ℕ} → k ≡ size → copied ≡ take size line_after → PutAt line at row (at + size) (put_mid at k row copied)
  copied_line at {k} row {copied} long e = record { next = ap (λ (n : ℕ). at + n) l.long; there = copied_within at k line row copied (long ∙ l.long) (e ∙ line_written l) }

put_nothing : (at : ℕ) (row : List ℕ) → PutAt [] at row at row
unfolding placed
put_nothing at row =
    let way : at ≡ at + 0 = omega arith in
    record { next = way; there = sym (take-append-drop at row) ∙ ap₂ (λ (f : List ℕ) (i : ℕ). f ++ drop i row) (sym (append-nil (take at row))) way }

-- ---- an address

module _ (t class : List ℕ) (x : ℕ) {read : Kind} (k : read ≡ kind_at t x) where
  pub line_there : {label at r : ℕ} {row after : List ℕ} → read ≡ Kind.Variable → label ≡ content_at t x → PutAt (variable_line x label (get_or class x 0)) at row r after
      → PutAt (line_at t class x) at row r after
  unfolding line_at
  line_there {at = at} {row = row} is e p =
      let whole : variable_line x _ (get_or class x 0) ≡ line_at t class x = picked [] k is (ap (λ (l : ℕ). variable_line x l (get_or class x 0)) e) in
      record { next = p.next ∙ ap (λ (text : List ℕ). at + length text) whole; there = p.there ∙ ap (λ (text : List ℕ). placed at text row) whole }

  pub line_nowhere : (at : ℕ) (row : List ℕ) → (read ≡ Kind.Variable → ⊥) → PutAt (line_at t class x) at row at row
  unfolding line_at
  line_nowhere at row other =
      let none_there : [] ≡ line_at t class x = passed (variable_line x (content_at t x) (get_or class x 0)) k other refl in
      let p : PutAt [] at row at row = put_nothing at row in
      record { next = p.next ∙ ap (λ (text : List ℕ). at + length text) none_there; there = p.there ∙ ap (λ (text : List ℕ). placed at text row) none_there }

-- ---- all addresses

-- the addresses below x are told
pub record Telling (t class row₀ : List ℕ) (start : ℕ) (row : List ℕ) (at x : ℕ) : Type 0 where
  pub put : PutAt (lines_below t class x) start row₀ at row
  pub near : at ≤ line_room * (1 + x)
  pub within : x ≤ length t
  pub same_length : length row ≡ length row₀

pub telling_none : {t class row : List ℕ} {start : ℕ} → start ≤ line_room → Telling t class row start row start 0
unfolding lines_below
telling_none {row = row} {start} h = record { put = put_nothing start row; near = omega arith; within = omega arith; same_length = refl }

pub telling_more : {t class row₀ row after : List ℕ} {start at x r : ℕ} → length t ≤ most_words → job_room ≤ length row₀ → Telling t class row₀ start row at x → x < length t
    → PutAt (line_at t class x) at row r after → r ≤ at + line_room → Telling t class row₀ start after r (x + 1)
unfolding lines_below
telling_more {t} {class} {row₀} {row} {after} {start} {at} {x} {r} few room so_far more p short =
    let text : lines_below t class x ++ line_at t class x ≡ lines_below t class (x + 1) = ap (lines_below t class) (sym (add-one x)) in
    let size : at + length (line_at t class x) ≡ start + length (lines_below t class x ++ line_at t class x) =
    omega (arith, so_far.put.next, length-append (lines_below t class x) (line_at t class x)) in
    record {
      put =
          record {
            next = p.next ∙ size ∙ ap (λ (l : List ℕ). start + length l) text;
            there =
                p.there
                ∙ ap (placed at (line_at t class x)) so_far.put.there
                ∙ placed_next start at (lines_below t class x) (line_at t class x) row₀ (omega (arith, so_far.put.next, so_far.near)) so_far.put.next
                ∙ ap (λ (l : List ℕ). placed start l row₀) text;
          };
      near = omega (arith, so_far.near);
      within = omega arith;
      same_length = ap length p.there ∙ length-placed at (line_at t class x) row (omega (arith, so_far.near, so_far.same_length, p.next)) ∙ so_far.same_length;
    }

-- what is told goes by the entries of the table's addresses alone
pub lines_front : (t front behind : List ℕ) (x : ℕ) → x ≤ length front → lines_below t (front ++ behind) x ≡ lines_below t front x
unfolding lines_below line_at
lines_front t front behind zero h = refl
lines_front t front behind (suc x) h =
    rw (lines_front t front behind x (omega arith), get_or-append front behind 0 x (omega arith))
