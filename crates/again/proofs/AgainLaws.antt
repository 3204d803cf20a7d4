-- A file that was read, and written or refused (`read_written`, `read_refused`); what is put into the room (`put_again`,
-- `put_refused`); one result (`again_only`). Assumes nothing.
use mathlib.Core.Path.{◌≡◌, refl, ap₂, subst}
use mathlib.Core.Logic.{inl, inr}
use mathlib.Core.List.{List, []}
use Prim.Native.Nat.{ℕ, ◌≤◌}
use native.Mathlib.Omega.{arith}
use lib.ListN.{length, take}
use Rattle.std.specs.Prelude.{Ok, Err}
use Rattle.rows.specs.LittleEndian.{AllBytes}
use Rattle.words.specs.Limits.{most_bytes}
use Rattle.jobfile.specs.File.{GoodFile}
use Rattle.jobfile.specs.Reader.{FileAnswer, fault_number, fault_place, Judged, yielded_sizes, ReadOf, BodiesOf}
use Rattle.jobfile.specs.Writer.{WriteAnswer, WriteOf}
use Rattle.jobfile.specs.declared.answers.FileFault.{FileFault}
use Rattle.jobfile.specs.declared.sizes.Sizes.{Sizes}
use Rattle.jobfile.proofs.ReaderLaws.{answered_once, fault_refuses, judged_good, not_good}
use Rattle.jobfile.proofs.WriteAnswers.{write_contents, write_only}
use Rattle.jobfile.proofs.Theorems.{reader_accepts_good, read_sizes, good_read_written_again}
use Rattle.lines.specs.Lines.{file_line, LineIn, TextIn}
use Rattle.again.specs.Again.{AgainOf, same_bytes, refusal}
use Rattle.again.specs.Steps.Rewriting.{room_again, Rewritten}

-- the writer refuses an empty row of sizes
nothing_written : {sizes bodies room after : List ℕ} {w : WriteAnswer} → sizes ≡ [] → WriteOf sizes bodies room w after → after ≡ room
nothing_written {sizes} {bodies} {room} {after} {w} e r =
    (write_only (subst (λ (l : List ℕ). WriteOf l bodies room w after) e r) (write_contents [] bodies room (inr (inl refl)))).1

-- a file that was read, and of which what is yielded was written: also where it is refused, and an empty row is yielded
pub read_written : {file part room after : List ℕ} {answer : FileAnswer} {sizes : Sizes} {w : WriteAnswer} → AllBytes file → most_bytes ≤ length room
    → ReadOf file answer sizes → BodiesOf file part → WriteOf (take sizes.count sizes.row) part room w after → Rewritten file room answer after
unfolding room_again
read_written {file} {part} {room} {after} {answer} {sizes} {w} all enough r b written = record { judged = r.judged; same = go answer r (read_sizes r) }
  where
    go : (q : FileAnswer) → ReadOf file q sizes → take sizes.count sizes.row ≡ yielded_sizes q file → after ≡ room_again q file room
    go (Ok done) read e = let good : GoodFile file = (reader_accepts_good read).0 refl in (good_read_written_again all good read b (omega (arith, good.at_most)) written).1
    go (Err fault) read e = nothing_written e written

pub read_refused : {file room : List ℕ} {answer : FileAnswer} {sizes : Sizes} {fault : FileFault} → ReadOf file answer sizes → answer ≡ Err fault → Rewritten file room (Err fault) room
unfolding room_again
read_refused {file} r is = record { judged = subst (Judged file) is r.judged; same = refl }

-- ---- what is put into the room

module _ {file room after : List ℕ} where
  pub put_again : Rewritten file room (Ok tt) after → (length file ≤ most_bytes) × TextIn (AgainOf file) room (length file) after
  unfolding room_again
  put_again w =
      let good : GoodFile file = judged_good w.judged in
      (good.at_most, record { text = file; is = same_bytes good; there = record { long = refl; there = w.same } })

  pub put_refused : {before : List ℕ} {r : ℕ} (fault : FileFault) → Rewritten file room (Err fault) before → LineIn (file_line (fault_number fault) (fault_place fault)) before r after
      → TextIn (AgainOf file) room r after
  unfolding room_again
  put_refused {r = r} fault w line =
      record {
        text = file_line (fault_number fault) (fault_place fault);
        is = refusal w.judged (fault_refuses fault);
        there = subst (λ (row : List ℕ). LineIn (file_line (fault_number fault) (fault_place fault)) row r after) w.same line;
      }

-- ---- one result

-- a file is written again in one way; with `text_only` of lines, two results that the contract of again allows are equal
pub again_only : {file : List ℕ} (x y : List ℕ) → AgainOf file x → AgainOf file y → x ≡ y
again_only x y (same_bytes good) (same_bytes also) = refl
again_only {file} x y (same_bytes good) (refusal b other) = absurd (not_good b other good)
again_only {file} x y (refusal a other) (same_bytes good) = absurd (not_good a other good)
again_only {file} x y (refusal a other) (refusal b different) = let e = answered_once a b in ap₂ file_line e.0 e.1
