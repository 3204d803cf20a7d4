-- What the leaves read, from the parts that they read. Assumes nothing.
use mathlib.Core.Path.{◌≡◌, sym, ap, ◌∙◌}
use mathlib.Core.Bool.{Bool}
use mathlib.Core.List.{List}
use Prim.Native.Nat.{ℕ, ◌≤◌}
use lib.ListN.{length, get_or-eq_default}
use Rattle.words.specs.Word.{same_kind, kind_of}
use Rattle.words.specs.declared.kind.Kind.{Kind}
use Rattle.words.specs.declared.kind.Kind.TheVariants.{NoWord}
use Rattle.words.proofs.WordLaws.{same_kind_exactly}
use Rattle.words.proofs.KindLaws.{other_kind}
use Rattle.table.specs.Table.{choose, kind_at}

-- past the end stands no word
pub past_end : (t : List ℕ) (a : ℕ) → length t ≤ a → kind_at t a ≡ NoWord
unfolding kind_of
past_end t a h = ap kind_of (get_or-eq_default t 0 h)

-- what is chosen by the kind that was read: the kind that was asked for, or another
pub picked : {A : Type 0} {read k j : Kind} {x r : A} (y : A) → read ≡ k → read ≡ j → r ≡ x → r ≡ choose (same_kind k j) x y
unfolding choose
picked {A} {read} {k} {j} {x} y e f g = g ∙ sym (ap (λ (b : Bool). choose b x y) ((same_kind_exactly k j).1 (sym e ∙ f)))

pub passed : {A : Type 0} {read k j : Kind} {y r : A} (x : A) → read ≡ k → (read ≡ j → ⊥) → r ≡ y → r ≡ choose (same_kind k j) x y
unfolding choose
passed {A} {read} {k} {j} {y} x e other g = g ∙ sym (ap (λ (b : Bool). choose b x y) (other_kind k j (λ f. other (e ∙ f))))
