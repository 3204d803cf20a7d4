-- What is told of a refusal (`NotGood`, `by_refusal`), and the row of sizes that the reader yields of a good file (`yield_sizes`)
-- and of any other (`yield_no_sizes`). Assumes nothing.
use mathlib.Core.Path.{◌≡◌, refl, sym, ap, ◌∙◌}
use mathlib.Core.List.{List, [], ◌++◌}
use Rattle.std.specs.Prelude.{Ok, Err}
use Prim.Native.Nat.{ℕ, ◌+◌, ◌-◌, ◌*◌, ◌≤◌}
use native.Mathlib.Omega.{arith}
use lib.ListN.{length, drop, replicate, length-replicate, replicate-append-replicate}
use lib.Seq.{drop_at}
use Rattle.words.specs.Limits.{most_jobs, most_sizes}
use Rattle.jobfile.specs.File.{count_in, sizes_in}
use Rattle.jobfile.specs.declared.answers.EntryNumber.{EntryNumber}
use Rattle.jobfile.specs.declared.answers.FileFault.TheVariants.{File, Contents, Body}
use Rattle.jobfile.specs.Reader.{FileAnswer, in_row, Holds}
use Rattle.jobfile.specs.declared.sizes.Sizes.{Sizes}
use Rattle.jobfile.proofs.FileLaws.{length-sizes_from}

-- ---- what is told of a refusal

-- what is told where the file is not good
abbrev pub NotGood : FileAnswer → Type 0
NotGood r = r ≡ Ok tt → ⊥

-- what all refusals yield is then yielded
pub by_refusal : {A : Type 0} {x : A} (yielded : FileAnswer → A) (r : FileAnswer) → NotGood r
    → yielded (Err File) ≡ x → yielded (Err Contents) ≡ x → ((entry : EntryNumber) → yielded (Err (Body entry)) ≡ x) → yielded r ≡ x
by_refusal yielded (Ok good) told f c b = absurd (told refl)
by_refusal yielded (Err File) told f c b = f
by_refusal yielded (Err Contents) told f c b = c
by_refusal yielded (Err (Body entry)) told f c b = b entry

drop_zeros : (k n : ℕ) → k ≤ n → drop {A = ℕ} k (replicate n 0) ≡ replicate (n - k) 0
drop_zeros k n h =
    let way : k + (n - k) ≡ n = omega arith in
    ap (λ (m : ℕ). drop {A = ℕ} k (replicate m 0)) (sym way)
    ∙ ap (drop k) (sym (replicate-append-replicate k (n - k) 0))
    ∙ drop_at {A = ℕ} (replicate k 0) (replicate (n - k) 0) k (length-replicate k 0)

pub yield_sizes : (bytes : List ℕ) {sizes : Sizes} → count_in bytes ≤ most_jobs → sizes.row ≡ sizes_in bytes ++ drop sizes.count (replicate most_sizes 0)
    → sizes.count ≡ 2 * count_in bytes → Holds sizes (sizes_in bytes)
unfolding in_row
yield_sizes bytes {sizes} few row count =
    let size : sizes.count ≡ length (sizes_in bytes) = count ∙ sym (length-sizes_from (count_in bytes) 0 bytes) in
    let small : length (sizes_in bytes) ≤ most_sizes = omega arith in
    record {
      numbers =
          row
          ∙ ap (λ (k : ℕ). sizes_in bytes ++ drop k (replicate most_sizes 0)) size
          ∙ ap (λ (l : List ℕ). sizes_in bytes ++ l) (drop_zeros (length (sizes_in bytes)) most_sizes small);
      counted = size;
    }

pub yield_no_sizes : {sizes : Sizes} → sizes.row ≡ replicate most_sizes 0 → sizes.count ≡ 0 → Holds sizes []
unfolding in_row
yield_no_sizes row count = record { numbers = row; counted = count }
