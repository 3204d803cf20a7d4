-- What an answer leaves in a row: at 1 and 2 (`early_changes`) the row as it was (`left_same`), and else (`late_changes`,
-- `later_rows`) zeros in front (`left-zeroed`). Assumes nothing.
use mathlib.Core.Path.{◌≡◌, refl, ap}
use mathlib.Core.Bool.{Bool, true, false, cond, not}
use mathlib.Core.Logic.{◌⊎◌, inl, inr}
use mathlib.Core.List.{List}
use Prim.Native.Nat.{ℕ}
use borrow.Author.Tests.{ne_eqb, not-true}
use Rattle.rows.specs.Placed.{zeroed}
use Rattle.answering.specs.Answers.{Answered}
use Rattle.answering.specs.Buffers.{changes_nothing, left}
use Rattle.answering.proofs.Orders.{each, answered_tested}

pub early_changes : (a : ℕ) → (a ≡ 1) ⊎ (a ≡ 2) → changes_nothing a ≡ true
unfolding changes_nothing
early_changes a (inl e) = ap changes_nothing e
early_changes a (inr e) = ap changes_nothing e

pub late_changes : (a : ℕ) → (a ≡ 1 → ⊥) → (a ≡ 2 → ⊥) → changes_nothing a ≡ false
unfolding changes_nothing
late_changes a one two = rw (ne_eqb a 1 one, ne_eqb a 2 two) refl

-- an answer by rows whose numbers are neither 1 nor 2
pub later_rows : {Row : Type 0} (number : Row → ℕ) (Applies : Row → ℕ → Type 0) (rows : List Row) (a p : ℕ) → each (λ row. not (changes_nothing (number row))) rows ≡ true
    → Answered number Applies rows a p → changes_nothing a ≡ false
unfolding changes_nothing
later_rows number Applies rows a p t x =
    not-true (changes_nothing a) (answered_tested number Applies (λ b. not (changes_nothing b)) rows a p t (λ z. ap (λ (b : ℕ). not (changes_nothing b)) z) x)

module _ (a n : ℕ) (row : List ℕ) where
  pub left_same : changes_nothing a ≡ true → left a n row ≡ row
  unfolding left
  left_same e = ap (λ (b : Bool). cond b row (zeroed n row)) e

  pub left-zeroed : changes_nothing a ≡ false → left a n row ≡ zeroed n row
  unfolding left
  left-zeroed e = ap (λ (b : Bool). cond b row (zeroed n row)) e
