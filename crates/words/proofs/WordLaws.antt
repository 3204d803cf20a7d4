-- The definitions of a word say what document 01's table says. In order:
--   word_parts, high_of_32_bits   a number is its high bits, its tag and its content; of 32 bits, 11 are high
--   high_of-word_of, tag_of-word_of, content_of-word_of, kind_of-word_of   a word put together has the parts it was made of, and its tag's kind
--   kind_of_tag-tag_number           the table of tags, read to and fro
--   same_kind_exactly             the test of two kinds is their equality
--   kind_exactly                  a number is of a kind exactly when it is a word with the kind's tag
--   kind_by_top, no_kind_by_top   the kind by the tag and the high bits together, which one division gives
-- Assumes nothing.
use Prim.Native.Nat.{ℕ, ◌+◌, ◌*◌, ◌/◌, ◌<◌, ◌≤◌}
use mathlib.Core.Path.{◌≡◌, refl, ap, sym, ◌∙◌}
use mathlib.Core.Bool.{Bool, true, false, cond}
use mathlib.Core.List.{List, [], ◌∷◌}
use mathlib.Core.Logic.{◌↔◌}
use native.Mathlib.Omega.{arith}
use lib.Dec.{eqb}
use borrow.Author.Tests.{eq-eqb, ne_eqb, eqb-true, eqb-false}
use Rattle.words.specs.Word.{content_of, tag_of, high_of, word_of, tag_number, same_kind, table_kinds, kind_among, kind_of_tag, kind_of}
use Rattle.words.specs.declared.kind.Kind.{Kind}
use Rattle.words.specs.declared.kind.Kind.TheVariants.{Variable, Constant, Function, Pointer, Count, NoWord}

pub word_parts : (w : ℕ) → w ≡ high_of w * 2097152 + word_of (tag_of w) (content_of w)
word_parts w = omega arith

pub high_of_32_bits : (w : ℕ) → w < 4294967296 → high_of w < 2048
high_of_32_bits w fits = omega arith

module _ (tag content : ℕ) (five_bits : tag < 32) (sixteen_bits : content < 65536) where
  pub high_of-word_of : high_of (word_of tag content) ≡ 0
  high_of-word_of = omega arith

  pub tag_of-word_of : tag_of (word_of tag content) ≡ tag
  tag_of-word_of = omega arith

  pub content_of-word_of : content_of (word_of tag content) ≡ content
  content_of-word_of = omega arith

  pub kind_of-word_of : kind_of (word_of tag content) ≡ kind_of_tag tag
  unfolding kind_of
  kind_of-word_of = simp (eq-eqb _ _ high_of-word_of, tag_of-word_of)

tag_number_of_five_bits : (k : Kind) → tag_number k < 32
tag_number_of_five_bits Variable = omega arith
tag_number_of_five_bits Constant = omega arith
tag_number_of_five_bits Function = omega arith
tag_number_of_five_bits Pointer = omega arith
tag_number_of_five_bits Count = omega arith
tag_number_of_five_bits NoWord = omega arith

pub kind_of_tag-tag_number : (k : Kind) → kind_of_tag (tag_number k) ≡ k
kind_of_tag-tag_number Variable = refl
kind_of_tag-tag_number Constant = refl
kind_of_tag-tag_number Function = refl
kind_of_tag-tag_number Pointer = refl
kind_of_tag-tag_number Count = refl
kind_of_tag-tag_number NoWord = refl

pub same_kind_exactly : (a b : Kind) → same_kind a b ≡ true ↔ a ≡ b
same_kind_exactly a b = (λ e. sym (kind_of_tag-tag_number a) ∙ back e ∙ kind_of_tag-tag_number b, λ e. eq-eqb _ _ (ap tag_number e))
  where
    back : same_kind a b ≡ true → kind_of_tag (tag_number a) ≡ kind_of_tag (tag_number b)
    back e = ap kind_of_tag (eqb-true (tag_number a) (tag_number b) e)

-- A kind that is found among some has the tag: at the first of them, or among the rest.
found_here :
    (here : Bool) (tag : ℕ) (first k rest : Kind) →
    eqb tag (tag_number first) ≡ here →
    (rest ≡ k → tag ≡ tag_number k) →
    cond here first rest ≡ k →
    tag ≡ tag_number k
found_here true tag first k rest test later e = eqb-true _ _ test ∙ ap tag_number e
found_here false tag first k rest test later e = later e

found_among : (ks : List Kind) (tag : ℕ) (k : Kind) → (k ≡ NoWord → ⊥) → kind_among ks tag ≡ k → tag ≡ tag_number k
found_among [] tag k is_word e = absurd (is_word (sym e))
found_among (first ∷ ks) tag k is_word e =
    found_here (eqb tag (tag_number first)) tag first k (kind_among ks tag) refl (found_among ks tag k is_word) e

-- by the test of the high bits
kind_has_tag :
    (low : Bool) (w : ℕ) (k : Kind) →
    (k ≡ NoWord → ⊥) →
    eqb (high_of w) 0 ≡ low →
    cond low (kind_of_tag (tag_of w)) NoWord ≡ k →
    w ≡ word_of (tag_number k) (content_of w)
kind_has_tag true w k is_word test e =
    omega (arith, eqb-true (high_of w) 0 test, found_among table_kinds (tag_of w) k is_word e)
kind_has_tag false w k is_word test e = absurd (is_word (sym e))

tag_has_kind : (w : ℕ) (k : Kind) → w ≡ word_of (tag_number k) (content_of w) → kind_of w ≡ k
tag_has_kind w k e =
    ap kind_of e
    ∙ kind_of-word_of (tag_number k) (content_of w) (tag_number_of_five_bits k) (omega arith)
    ∙ kind_of_tag-tag_number k

pub kind_exactly : (w : ℕ) (k : Kind) → (k ≡ NoWord → ⊥) → kind_of w ≡ k ↔ w ≡ word_of (tag_number k) (content_of w)
unfolding kind_of
kind_exactly w k is_word = (kind_has_tag (eqb (high_of w) 0) w k is_word refl, tag_has_kind w k)

-- a number past five bits is no tag
none_among : (ks : List Kind) (top : ℕ) → 32 ≤ top → kind_among ks top ≡ NoWord
none_among [] top high = refl
none_among (k ∷ ks) top high =
    rw (ne_eqb top (tag_number k) (λ e. omega (arith, tag_number_of_five_bits k))) (none_among ks top high)

by_high_bits : (low : Bool) (w : ℕ) → eqb (high_of w) 0 ≡ low → cond low (kind_of_tag (tag_of w)) NoWord ≡ kind_of_tag (w / 65536)
by_high_bits true w test =
    let whole : tag_of w ≡ w / 65536 = omega (arith, eqb-true (high_of w) 0 test) in
    ap kind_of_tag whole
by_high_bits false w test = sym (none_among table_kinds (w / 65536) (omega (arith, eqb-false (high_of w) 0 test)))

pub kind_by_top : (w top : ℕ) → w / 65536 ≡ top → kind_of_tag top ≡ kind_of w
unfolding kind_of
kind_by_top w top e = sym (by_high_bits (eqb (high_of w) 0) w refl ∙ ap kind_of_tag e)

pub no_kind_by_top :
    (w : ℕ) →
    (w / 65536 ≡ 16 → ⊥) →
    (w / 65536 ≡ 18 → ⊥) →
    (w / 65536 ≡ 19 → ⊥) →
    (w / 65536 ≡ 20 → ⊥) →
    (w / 65536 ≡ 24 → ⊥) →
    NoWord ≡ kind_of w
no_kind_by_top w v c f p n =
    simp (ne_eqb _ _ v, ne_eqb _ _ c, ne_eqb _ _ f, ne_eqb _ _ p, ne_eqb _ _ n) at (kind_by_top w (w / 65536) refl)
