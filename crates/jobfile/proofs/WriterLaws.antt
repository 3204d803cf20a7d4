-- What the writer's stores come to. In order:
--     one part after another       placed_next, built_placed, built_behind, built_again, copied_behind, entry_placed
--     the sum of the sizes         bodies_summed
--     the contents                 Writing, writing_none, writing_more, writing_all
-- Assumes nothing.
use mathlib.Core.Path.{◌≡◌, refl, sym, ap, ap₂, ◌∙◌, subst}
use Prim.Native.Nat.{ℕ, suc, ◌+◌, ◌-◌, ◌*◌, ◌≤◌, ◌<◌}
use native.Mathlib.Omega.{arith}
use mathlib.Core.List.{List, [], ◌∷◌, ◌++◌, append_assoc, append-nil}
use lib.ListN.{length, take, drop, get_or, length-append, length-drop, drop_of_length-le}
use lib.Seq.{drop-cons, take_at, drop_at, take-add, drop-drop, length-take-le}
use Rattle.std.specs.Prelude.{sum_by}
use Rattle.std.proofs.lemmas.List.Sums.{sum_by-cons}
use Rattle.rows.specs.LittleEndian.{bytes_of}
use Rattle.rows.specs.Placed.{placed}
use Rattle.rows.proofs.Laws.{length-bytes_of, length-placed, behind_stays, Built, built_none, built_all}
use Rattle.words.specs.Limits.{most_bytes}
use Rattle.jobfile.specs.File.{body_size, contents_end, job_count, bodies_size, contents_of}
use Rattle.jobfile.specs.Steps.Writing.{front_of, Fitted}
use Rattle.jobfile.proofs.NumberLaws.{to_the_end}
use Rattle.jobfile.proofs.FileLaws.{length-contents_of}

-- ---- one part after another

module _ {A : Type 0} where
  -- a part put straight after another is one part
  pub placed_next : (at next : ℕ) (xs ys row : List A) → at ≤ length row → next ≡ at + length xs → placed next ys (placed at xs row) ≡ placed at (xs ++ ys) row
  unfolding placed
  placed_next at next xs ys row inside e =
      let front : length (take at row ++ xs) ≡ next = simp (length-append, length-take-le at row inside) (sym e) in
      let way : next + length ys ≡ at + length (xs ++ ys) = simp length-append (omega arith) in
      let before : take next ((take at row ++ xs) ++ drop (at + length xs) row) ≡ take at row ++ xs = take_at (take at row ++ xs) (drop (at + length xs) row) next front in
      let behind : drop (next + length ys) ((take at row ++ xs) ++ drop next row) ≡ drop (next + length ys) row = behind_stays (take at row ++ xs) row next (next + length ys) front (omega arith) in
      let behind' : drop (next + length ys) ((take at row ++ xs) ++ drop (at + length xs) row) ≡ drop (at + length (xs ++ ys)) row =
      ap (λ (i : ℕ). drop (next + length ys) ((take at row ++ xs) ++ drop i row)) (sym e) ∙ behind ∙ ap (λ (i : ℕ). drop i row) way in
      ap₂ (λ (f g : List A). f ++ ys ++ g) before behind' ∙ ap (λ (f : List A). f ++ drop (at + length (xs ++ ys)) row) (append_assoc (take at row) xs ys)

  -- a row that is built from the front, with the next part of the whole put in its place
  pub built_placed : {whole row₀ row : List A} {n i : ℕ} (m : ℕ) (xs rest : List A) → Built whole row₀ n i row → drop i whole ≡ xs ++ rest → length xs ≡ m → i + m ≤ n
      → Built whole row₀ n (i + m) (placed i xs row)
  unfolding placed
  built_placed {whole} {row₀} {row} {n} {i} m xs rest built here size inside =
      let seam : length (take i whole) ≡ i = length-take-le i whole (omega (arith, built.full)) in
      let before : take i row ≡ take i whole = ap (take i) built.so_far ∙ take_at (take i whole) (drop i row₀) i seam in
      let behind : drop (i + length xs) row ≡ drop (i + m) row₀ =
      ap (drop (i + length xs)) built.so_far ∙ behind_stays (take i whole) row₀ i (i + length xs) seam (omega arith) ∙ ap (λ (j : ℕ). drop (i + j) row₀) size in
      let part : take m (drop i whole) ≡ xs = ap (take m) here ∙ take_at xs rest m size in
      let whole' : take (i + m) whole ≡ take i whole ++ xs = take-add i m whole ∙ ap (λ (l : List A). take i whole ++ l) part in
      record {
        so_far = ap₂ (λ (f g : List A). f ++ xs ++ g) before behind ∙ ap (λ (f : List A). f ++ drop (i + m) row₀) (sym whole');
        full = built.full;
        within = inside;
        room = built.room;
        same_length = length-placed i xs row (omega (arith, built.room, built.same_length)) ∙ built.same_length;
      }

  -- what lies behind the next place is as it was
  pub built_behind : {whole row₀ row : List A} {n i : ℕ} → Built whole row₀ n i row → (m : ℕ) → i ≤ m → drop m row ≡ drop m row₀
  built_behind {whole} {row₀} {row} {n} {i} built m h =
      ap (drop m) built.so_far ∙ behind_stays (take i whole) row₀ i m (length-take-le i whole (omega (arith, built.full))) h

  -- so what is built over a row is built over itself
  pub built_again : {whole row₀ row : List A} {n i : ℕ} → Built whole row₀ n i row → Built whole row n i row
  built_again {whole} {row₀} {row} {n} {i} built = record {
    so_far = built.so_far ∙ ap (λ (l : List A). take i whole ++ l) (sym (built_behind built i (omega arith)));
    full = built.full;
    within = built.within;
    room = omega (arith, built.room, built.same_length);
    same_length = refl;
  }

  -- a row copied over the front of the part from a place on, as it comes back from a loan of that part
  pub copied_behind : (at : ℕ) (xs row : List A) {part : List A} → at + length xs ≤ length row → part ≡ xs ++ drop (length xs) (take (length row - at) (drop at row))
      → take at row ++ (part ++ drop (length row - at) (drop at row)) ≡ placed at xs row
  unfolding placed
  copied_behind at xs row {part} inside e =
      let size : length (drop at row) ≤ length row - at = simp length-drop (omega arith) in
      let whole : take (length row - at) (drop at row) ≡ drop at row = to_the_end at row in
      let over : drop (length row - at) (drop at row) ≡ [] = drop_of_length-le (drop at row) size in
      rw (over, append-nil, e, whole, drop-drop (length xs) at row) (sym (append_assoc (take at row) xs (drop (at + length xs) row)))

-- the three numbers of an entry, one after another
pub entry_placed : (at x y z : ℕ) (row : List ℕ) {one two three : List ℕ} → at + 6 ≤ length row → one ≡ placed at (bytes_of 2 x) row → two ≡ placed (at + 2) (bytes_of 2 y) one
    → three ≡ placed (at + 4) (bytes_of 2 z) two → three ≡ placed at (bytes_of 2 x ++ bytes_of 2 y ++ bytes_of 2 z) row
entry_placed at x y z row inside first second third =
    let pair : placed (at + 2) (bytes_of 2 y) (placed at (bytes_of 2 x) row) ≡ placed at (bytes_of 2 x ++ bytes_of 2 y) row =
    placed_next at (at + 2) (bytes_of 2 x) (bytes_of 2 y) row (omega arith) (omega (arith, length-bytes_of 2 x)) in
    let size : length (bytes_of 2 x ++ bytes_of 2 y) ≡ 4 = simp (length-append, length-bytes_of) in
    third
    ∙ ap (placed (at + 4) (bytes_of 2 z)) (second ∙ ap (placed (at + 2) (bytes_of 2 y)) first ∙ pair)
    ∙ placed_next at (at + 4) (bytes_of 2 x ++ bytes_of 2 y) (bytes_of 2 z) row (omega arith) (omega arith)

-- ---- the sum of the sizes

-- what the bodies have is what the sizes come to, 4 bytes each
pub bodies_summed : (sizes : List ℕ) → sum_by (λ (size : ℕ). 4 * size) sizes ≡ bodies_size sizes
unfolding bodies_size
bodies_summed [] = refl
bodies_summed (size ∷ sizes) = omega (arith, sum_by-cons (λ (n : ℕ). 4 * n) size sizes, bodies_summed sizes)

-- ---- the contents

-- the sizes from job k on, and from the next
next_job : (sizes : List ℕ) (k : ℕ) → 2 * k + 1 < length sizes → drop (2 * k) sizes ≡ get_or sizes (2 * k) 0 ∷ get_or sizes (2 * k + 1) 0 ∷ drop (2 * (k + 1)) sizes
next_job sizes k h =
    let one : suc (2 * k) ≡ 2 * k + 1 = omega arith in
    let two : suc (2 * k + 1) ≡ 2 * (k + 1) = omega arith in
    drop-cons sizes (2 * k) 0 (omega arith)
    ∙ ap (λ (i : ℕ). get_or sizes (2 * k) 0 ∷ drop i sizes) one
    ∙ ap (λ (l : List ℕ). get_or sizes (2 * k) 0 ∷ l) (drop-cons sizes (2 * k + 1) 0 h ∙ ap (λ (i : ℕ). get_or sizes (2 * k + 1) 0 ∷ drop i sizes) two)

-- The first k entries are written, and the next body starts at `start`.
pub record Writing (sizes file₀ : List ℕ) (k start : ℕ) (file : List ℕ) : Type 0 where
  pub even : length sizes ≡ 2 * job_count sizes
  pub built : Built (front_of sizes) file₀ (contents_end (job_count sizes)) (2 + 6 * k) file
  pub rest : drop (2 + 6 * k) (front_of sizes) ≡ contents_of start (drop (2 * k) sizes)
  pub small : start + bodies_size (drop (2 * k) sizes) ≤ most_bytes

pub length-front_of : (sizes : List ℕ) → length sizes ≡ 2 * job_count sizes → length (front_of sizes) ≡ contents_end (job_count sizes)
length-front_of sizes even = simp (length-append, length-bytes_of) (omega (arith, length-contents_of (job_count sizes) (contents_end (job_count sizes)) sizes even))

-- the count, before the first entry
count_placed : {sizes file₀ : List ℕ} → Fitted sizes file₀ → Built (front_of sizes) file₀ (contents_end (job_count sizes)) 2 (placed 0 (bytes_of 2 (job_count sizes)) file₀)
count_placed {sizes} {file₀} fitted =
    built_placed 2 (bytes_of 2 (job_count sizes)) (contents_of (contents_end (job_count sizes)) sizes) (built_none (length-front_of sizes fitted.even) fitted.enough) refl (length-bytes_of 2 (job_count sizes)) (omega arith)

-- file₁ is the file when the count is in it
pub writing_none : {sizes file₀ file₁ : List ℕ} → Fitted sizes file₀ → file₁ ≡ placed 0 (bytes_of 2 (job_count sizes)) file₀ → Writing sizes file₁ 0 (contents_end (job_count sizes)) file₁
writing_none {sizes} {file₀} {file₁} fitted e =
    record {
      even = fitted.even;
      built = built_again {row₀ = file₀} (rw e (count_placed fitted));
      rest = drop_at (bytes_of 2 (job_count sizes)) (contents_of (contents_end (job_count sizes)) sizes) 2 (length-bytes_of 2 (job_count sizes));
      small = fitted.short;
    }

pub writing_more : {sizes file₀ file : List ℕ} {k start n p : ℕ} → Writing sizes file₀ k start file → k < job_count sizes → n ≡ get_or sizes (2 * k) 0 → p ≡ get_or sizes (2 * k + 1) 0
    → Writing sizes file₀ (k + 1) (start + body_size n p) (placed (2 + 6 * k) (bytes_of 2 start ++ bytes_of 2 n ++ bytes_of 2 p) file)
unfolding contents_of bodies_size
writing_more {sizes} {file₀} {file} {k} {start} {n} {p} w h en ep =
    let entry : List ℕ = bytes_of 2 start ++ bytes_of 2 n ++ bytes_of 2 p in
    let later : List ℕ = contents_of (start + body_size n p) (drop (2 * (k + 1)) sizes) in
    let size : length entry ≡ 6 = simp (length-append, length-bytes_of) in
    let split : drop (2 * k) sizes ≡ n ∷ p ∷ drop (2 * (k + 1)) sizes =
    next_job sizes k (omega (arith, w.even)) ∙ ap₂ (λ (a b : ℕ). a ∷ b ∷ drop (2 * (k + 1)) sizes) (sym en) (sym ep) in
    let here : drop (2 + 6 * k) (front_of sizes) ≡ entry ++ later = w.rest ∙ ap (contents_of start) split in
    let way : 2 + 6 * k + 6 ≡ 2 + 6 * (k + 1) = omega arith in
    let built : Built (front_of sizes) file₀ (contents_end (job_count sizes)) (2 + 6 * k + 6) (placed (2 + 6 * k) entry file) = built_placed 6 entry later w.built here size (omega arith) in
    record {
      even = w.even;
      built = subst (λ (i : ℕ). Built (front_of sizes) file₀ (contents_end (job_count sizes)) i (placed (2 + 6 * k) entry file)) way built;
      rest = ap (λ (i : ℕ). drop i (front_of sizes)) (sym way) ∙ sym (drop-drop 6 (2 + 6 * k) (front_of sizes)) ∙ ap (drop 6) here ∙ drop_at entry later 6 size;
      small = omega (arith, w.small, ap bodies_size split);
    }

pub writing_all : {sizes file₀ file₁ file : List ℕ} {k start : ℕ} → Fitted sizes file₀ → file₁ ≡ placed 0 (bytes_of 2 (job_count sizes)) file₀
    → Writing sizes file₁ k start file → job_count sizes ≤ k → file ≡ front_of sizes ++ drop (length (front_of sizes)) file₀
writing_all {sizes} {file₀} {file₁} fitted e w h =
    let n : ℕ = contents_end (job_count sizes) in
    built_all w.built (omega arith)
    ∙ ap (λ (l : List ℕ). front_of sizes ++ l) (ap (drop n) e ∙ built_behind (count_placed fitted) n (omega arith))
    ∙ ap (λ (i : ℕ). front_of sizes ++ drop i file₀) (sym (length-front_of sizes w.even))
