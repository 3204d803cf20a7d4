-- What is read into a row, read after read. In order: what was consumed (`consumes_more`); the row (`Filled`,
-- `filled_more`). Assumes nothing.
use mathlib.Core.Path.{◌≡◌, sym, ap, ap₂, ◌∙◌}
use mathlib.Core.List.{List, ◌++◌, append_assoc}
use Rattle.std.specs.Prelude.{Option, Some, None}
use Rattle.std.specs.Io.KnownBytes.{Consumes}
use Prim.Native.Nat.{ℕ, ◌+◌, ◌-◌, ◌≤◌}
use native.Mathlib.Omega.{arith}
use borrow.Rule.Slice.PartMut.{mid_of, put_mid, post_of, mid_len, same_len_mid}
use lib.ListN.{length, take, drop}
use lib.Seq.{take_at, drop_at, take-add, take-append-le, length-take-le}

-- ---- what was consumed

consumes_more : (before between now : Option (List ℕ)) (xs ys : List ℕ) → Consumes before between xs → Consumes between now ys → Consumes before now (xs ++ ys)
consumes_more None between now xs ys first second = tt
consumes_more (Some bytes) None now xs ys first second = absurd first
consumes_more (Some bytes) (Some rest) None xs ys first second = absurd second
consumes_more (Some bytes) (Some rest) (Some end) xs ys first second = first ∙ ap (λ (l : List ℕ). xs ++ l) second ∙ sym (append_assoc xs ys end)

-- ---- the row

-- the first `size` bytes of the row are what was given since `before`
pub record Filled (before now : Option (List ℕ)) (row₀ row : List ℕ) (size : ℕ) : Type 0 where
  pub same_length : length row ≡ length row₀
  pub within : size ≤ length row
  pub given : Consumes before now (take size row)

-- a read puts what it gives straight after what was given before
pub filled_more : {before : Option (List ℕ)} (between now : Option (List ℕ)) {row₀ row : List ℕ} (part : List ℕ) {size count : ℕ} → Filled before between row₀ row size
    → length part ≡ length (mid_of size (length row - size) row) → count ≤ length part → Consumes between now (take count part)
    → Filled before now row₀ (put_mid size (length row - size) row part) (size + count)
filled_more {before} between now {row₀} {row} part {size} {count} filled same few more =
    let behind : List ℕ = post_of size (length row - size) row in
    let seam : length (take size row) ≡ size = length-take-le size row filled.within in
    let front : take size (take size row ++ (part ++ behind)) ≡ take size row = take_at (take size row) (part ++ behind) size seam in
    let next : take count (drop size (take size row ++ (part ++ behind))) ≡ take count part =
    ap (take count) (drop_at (take size row) (part ++ behind) size seam) ∙ take-append-le count part behind few in
    let given : take (size + count) (take size row ++ (part ++ behind)) ≡ take size row ++ take count part =
    take-add size count (take size row ++ (part ++ behind)) ∙ ap₂ (λ (a b : List ℕ). a ++ b) front next in
    let long : length (put_mid size (length row - size) row part) ≡ length row = same_len_mid size (length row - size) row part same in
    record {
      same_length = long ∙ filled.same_length;
      within = omega (arith, long, same, mid_len size (length row) row (omega arith), filled.within);
      given = rw given (consumes_more before between now (take size row) (take count part) filled.given more);
    }
