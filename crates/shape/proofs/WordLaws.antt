-- Whether a word is bad, at address 0 and after it, from what was read of it. Assumes nothing.
use mathlib.Core.Path.{◌≡◌, refl, ◌∙◌}
use mathlib.Core.Bool.{Bool, not}
use mathlib.Core.List.{List}
use Prim.Native.Nat.{ℕ, zero, suc}
use native.Mathlib.Omega.{arith}
use lib.Dec.{eqb}
use Rattle.words.specs.declared.kind.Kind.{Kind}
use Rattle.table.specs.Table.{word_at, kind_at, content_at}
use Rattle.table.specs.Faults.{bad_kind, bad_word}

pub first_word : (t : List ℕ) (a : ℕ) → a ≡ 0 → not (eqb (word_at t a) 0) ≡ bad_word t a
unfolding bad_word
first_word t zero e = refl
first_word t (suc a) e = absurd (omega arith)

pub later_word :
    (t : List ℕ) (a : ℕ) {kind : Kind} {content : ℕ} {b : Bool} →
    (a ≡ 0 → ⊥) →
    kind ≡ kind_at t a →
    content ≡ content_at t a →
    b ≡ bad_kind kind content →
    b ≡ bad_word t a
unfolding bad_word
later_word t zero other k c e = absurd (other refl)
later_word t (suc a) other k c e = e ∙ (λ i. bad_kind (k i) (c i))
