-- Kinds, and lists of kinds. In order:
--   other_kind   two kinds that are not equal fail their test
--   not_both     no kind is two kinds that differ
--   one_of       what is so for each kind of a list is so for a kind that is one of them
--   every_kind_lem   what is so for each kind is so for any
--   told, told_not, told_others   a branch that is taken for just the kinds that pass a test, or fail it, tells so of the kind at hand
-- Assumes nothing.
use mathlib.Core.Path.{◌≡◌, refl, sym, ap, subst, ◌∙◌}
use mathlib.Core.Bool.{Bool, true, false, cond, not, ◌||◌, true≢false}
use mathlib.Core.List.{List, [], ◌∷◌}
use Prim.Native.Nat.{ℕ}
use lib.Dec.{T, eqb}
use lib.ListN.{get_or}
use borrow.Author.Tests.{eqb-true, not-true}
use mir.Val.{has_key}
use types.Run.{OneOf, miss}
use denote.Enum.Declared.{tag_of}
use Rattle.words.specs.Word.{same_kind, is_one_of}
use Rattle.words.specs.declared.kind.Kind.{Kind}
use Rattle.words.specs.declared.kind.Kind.TheVariants.{Variable, Constant, Function, Pointer, Count, NoWord}
use Rattle.words.specs.contracts.kind.Kind.{the_type}
use Rattle.words.proofs.Tests.{false_exactly, or_false}
use Rattle.words.proofs.WordLaws.{same_kind_exactly}

pub other_kind : (k j : Kind) → (k ≡ j → ⊥) → same_kind k j ≡ false
other_kind k j = (false_exactly (same_kind k j) (same_kind_exactly k j)).1

pub not_both : {k i j : Kind} → k ≡ i → same_kind i j ≡ false → k ≡ j → ⊥
not_both {k} {i} {j} e f g = true≢false (sym ((same_kind_exactly i j).1 (sym e ∙ g)) ∙ f)

abbrev pub Each : (Kind → Type 0) → List Kind → Type 0
Each P [] = Unit {0}
Each P (k ∷ ks) = P k × Each P ks

pub one_of : (P : Kind → Type 0) (ks : List Kind) → Each P ks → (k : Kind) → is_one_of ks k ≡ true → P k
one_of P [] each k e = absurd (true≢false (sym e))
one_of P (j ∷ js) each k e = go (same_kind k j) refl e (one_of P js each.1 k)
  where
    go : (b : Bool) → same_kind k j ≡ b → (b || is_one_of js k) ≡ true → (is_one_of js k ≡ true → P k) → P k
    go true same f later = subst P (sym ((same_kind_exactly k j).0 same)) each.0
    go false other f later = later f

pub every_kind_lem : (P : Kind → Type 0) → P Variable → P Constant → P Function → P Pointer → P Count → P NoWord → (k : Kind) → P k
every_kind_lem P v c f p n w Variable = v
every_kind_lem P v c f p n w Constant = c
every_kind_lem P v c f p n w Function = f
every_kind_lem P v c f p n w Pointer = p
every_kind_lem P v c f p n w Count = n
every_kind_lem P v c f p n w NoWord = w

-- ---- what a branch tells of a kind: that its variant's place is one of some numbers

abbrev place_of : Kind → ℕ
place_of k = tag_of the_type k

-- every kind, by its place
abbrev pub every_kind : List Kind
every_kind = Variable ∷ Constant ∷ Function ∷ Pointer ∷ Count ∷ NoWord ∷ []

-- the places of the kinds that pass a test
abbrev pub places_among : (Kind → Bool) → List Kind → List ℕ
places_among test [] = []
places_among test (k ∷ ks) = cond (test k) (place_of k ∷ places_among test ks) (places_among test ks)

abbrev pub places : (Kind → Bool) → List ℕ
places test = places_among test every_kind

at_place : (k : Kind) → get_or every_kind (place_of k) NoWord ≡ k
at_place = every_kind_lem (λ k. get_or every_kind (place_of k) NoWord ≡ k) refl refl refl refl refl refl

one_place : (j k : Kind) → place_of j ≡ place_of k → j ≡ k
one_place j k e = sym (at_place j) ∙ ap (λ (n : ℕ). get_or every_kind n NoWord) e ∙ at_place k

told_among : (test : Kind → Bool) (ks : List Kind) (k : Kind) → has_key (places_among test ks) (place_of k) ≡ true → test k ≡ true
told_among test [] k e = absurd (true≢false (sym e))
told_among test (j ∷ js) k e = go (test j) refl e (told_among test js k)
  where
    here : (b : Bool) → eqb (place_of j) (place_of k) ≡ b → test j ≡ true → (b || has_key (places_among test js) (place_of k)) ≡ true → (has_key (places_among test js) (place_of k) ≡ true → test k ≡ true) → test k ≡ true
    here true q t f later = sym (ap test (one_place j k (eqb-true (place_of j) (place_of k) q))) ∙ t
    here false q t f later = later f

    go : (b : Bool) → test j ≡ b → has_key (cond b (place_of j ∷ places_among test js) (places_among test js)) (place_of k) ≡ true → (has_key (places_among test js) (place_of k) ≡ true → test k ≡ true) → test k ≡ true
    go true t f later = here (eqb (place_of j) (place_of k)) refl t f later
    go false t f later = later f

pub told : (test : Kind → Bool) (k : Kind) → OneOf (places test) (tag_of the_type k) → test k ≡ true
told test k place = go (has_key (places test) (place_of k)) refl
  where
    go : (b : Bool) → has_key (places test) (place_of k) ≡ b → test k ≡ true
    go true q = told_among test every_kind k q
    go false q = absurd (miss (places test) (place_of k) (subst (λ (b : Bool). T (not b)) (sym q) tt) place)

pub told_not : (test : Kind → Bool) (k : Kind) → OneOf (places (λ j. not (test j))) (tag_of the_type k) → test k ≡ false
told_not test k place = not-true (test k) (told (λ j. not (test j)) k place)

-- the kind is none of those for which another branch is taken
pub told_others : (ks : List Kind) (k : Kind) → OneOf (places (λ j. not (is_one_of ks j))) (tag_of the_type k) → Each (λ j. k ≡ j → ⊥) ks
told_others ks k place = others ks (told_not (is_one_of ks) k place)
  where
    others : (js : List Kind) → is_one_of js k ≡ false → Each (λ j. k ≡ j → ⊥) js
    others [] e = tt
    others (j ∷ js) e =
        let both : (same_kind k j ≡ false) × (is_one_of js k ≡ false) = or_false (same_kind k j) (is_one_of js k) e in
        ((false_exactly (same_kind k j) (same_kind_exactly k j)).0 both.0, others js both.1)
