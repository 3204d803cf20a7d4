-- The walk along the items of a sound table, as far as the table goes; WalkLaws has the work row too. In order:
--   good_first     word 0 is the number 0
--   sound_count_lem   the test of a count
--   walked_none, walked_on   no step, and one walk after another
--   variable_good, constant_good, pointer_good   a word whose kind was read
--   variable_item, constant_item, function_word, count_word, argument_word   one word further
--   argument_more, arguments_end, walked_block   a count and its arguments
--   walked_readable, walked_names   the whole table
-- Assumes nothing.
use mathlib.Core.Path.{◌≡◌, refl, ap, subst, ◌∙◌}
use mathlib.Core.Bool.{Bool, true, false, cond, ◌&&◌, not}
use mathlib.Core.List.{List}
use Prim.Native.Nat.{ℕ, zero, suc, ◌+◌, ◌-◌, ◌≤◌, ◌<◌}
use native.Mathlib.Omega.{arith}
use borrow.Author.Tests.{eq-eqb, leb-true, leb-false, not-true}
use lib.Dec.{leb}
use lib.ListN.{length}
use Rattle.words.specs.Limits.{most_words}
use Rattle.words.specs.Word.{same_kind, node_kinds, argument_kinds, is_one_of, kind_of, content_of}
use Rattle.words.specs.declared.kind.Kind.{Kind}
use Rattle.words.specs.declared.kind.Kind.TheVariants.{Variable, Constant, Function, Pointer, Count}
use Rattle.words.proofs.Tests.{and_exactly}
use Rattle.words.proofs.WordLaws.{same_kind_exactly}
use Rattle.words.proofs.KindLaws.{not_both}
use Rattle.graphs.proofs.Classes.{never}
use Rattle.table.specs.Table.{word_at, kind_at, content_at}
use Rattle.table.specs.Layout.{Wanted, item, count, arguments, more, can_stand, after, at_end}
use Rattle.table.specs.Faults.{bad_kind, bad_word, bad_target, Repeats}
use Rattle.table.specs.Readable.{Readable}
use Rattle.checker.specs.Steps.Sound.{sound_count, Good, Walked}
use Rattle.shape.proofs.LayoutLaws.{break_stands, break_ends}
use Rattle.checker.proofs.NameLaws.{repeats_inside}

-- ---- one address

pub good_first : (t : List ℕ) → word_at t 0 ≡ 0 → Good t 0
unfolding bad_word kind_of
good_first t e = record {
  word = ap not (eq-eqb (word_at t 0) 0 e);
  pointer = ap (λ (w : ℕ). same_kind (kind_of w) Pointer && bad_target t (content_at t 0)) e;
  name = λ r. omega (arith, r.stood.before);
}

-- a later word is good if its kind, its content and its name are
good_later : (t : List ℕ) (a : ℕ) (k : Kind) → 0 < a → kind_at t a ≡ k → bad_kind k (content_at t a) ≡ false → (same_kind k Pointer && bad_target t (content_at t a)) ≡ false → (Repeats t a → ⊥) → Good t a
unfolding bad_word
good_later t zero k h e w p n = absurd (omega arith)
good_later t (suc a) k h e w p n = record {
  word = ap (λ (q : Kind). bad_kind q (content_at t (suc a))) e ∙ w;
  pointer = ap (λ (q : Kind). same_kind q Pointer && bad_target t (content_at t (suc a))) e ∙ p;
  name = n;
}

-- the test of a count, and what it shows
module _ (w : ℕ) where
  pub sound_count_lem : sound_count w ≡ true → (kind_of w ≡ Count) × (bad_kind Count (content_of w) ≡ false)
  unfolding sound_count
  sound_count_lem = (and_exactly (same_kind (kind_of w) Count) _ (same_kind_exactly (kind_of w) Count) (not-true _, ap not)).0

-- ---- walks

pub walked_none : (t : List ℕ) (wanted : Wanted) (a : ℕ) → a ≤ length t → Walked t wanted a wanted a
walked_none t wanted a h = record { same = refl; good = λ j p q. absurd (omega arith); forth = omega arith; within = h }

pub walked_on : {t : List ℕ} {u v w : Wanted} {a b c : ℕ} → Walked t u a v b → Walked t v b w c → Walked t u a w c
walked_on {t} {u} {v} {w} {a} {b} {c} x y = record {
  same = x.same ∙ y.same;
  good = λ j p q. at j p q (leb b j) refl;
  forth = omega (arith, x.forth, y.forth);
  within = y.within;
}
  where
    at : (j : ℕ) → a ≤ j → j < c → (r : Bool) → leb b j ≡ r → Good t j
    at j p q true e = y.good j (leb-true b j e) q
    at j p q false e = x.good j p (leb-false b j e)

-- a word that stands, and is good
one_word : (t : List ℕ) (wanted : Wanted) (a : ℕ) → a < length t → can_stand wanted (kind_at t a) ≡ true → Good t a → Walked t wanted a (after wanted (word_at t a)) (a + 1)
one_word t wanted a h e g = record {
  same = break_stands t a wanted h e;
  good = λ j p q. subst (Good t) (let s : a ≡ j = omega arith in s) g;
  forth = omega arith;
  within = omega arith;
}

module _ (t : List ℕ) (a : ℕ) (later : 0 < a) where
  -- a word that is no variable has no name
  other_good : (k : Kind) → kind_at t a ≡ k → same_kind k Variable ≡ false → bad_kind k (content_at t a) ≡ false → (same_kind k Pointer && bad_target t (content_at t a)) ≡ false → Good t a
  other_good k e v w p = good_later t a k later e w p (λ r. not_both e v r.stood.later)

  pub variable_good : kind_at t a ≡ Variable → (Repeats t a → ⊥) → Good t a
  unfolding bad_kind
  variable_good e new = good_later t a Variable later e refl refl new

  pub constant_good : kind_at t a ≡ Constant → Good t a
  unfolding bad_kind
  constant_good e = other_good Constant e refl refl refl

  pub pointer_good : kind_at t a ≡ Pointer → bad_target t (content_at t a) ≡ false → Good t a
  unfolding bad_kind
  pointer_good e p = other_good Pointer e refl refl p

  module _ (inside : a < length t) where
    item_word : (k : Kind) → kind_at t a ≡ k → is_one_of node_kinds k ≡ true → Good t a → Walked t item a (cond (same_kind k Function) count item) (a + 1)
    unfolding can_stand after
    item_word k e i g =
        subst (λ (q : Kind). Walked t item a (cond (same_kind q Function) count item) (a + 1)) e
        (one_word t item a inside (ap (is_one_of node_kinds) e ∙ i) g)

    pub variable_item : kind_at t a ≡ Variable → (Repeats t a → ⊥) → Walked t item a item (a + 1)
    variable_item e new = item_word Variable e refl (variable_good e new)

    pub constant_item : kind_at t a ≡ Constant → Walked t item a item (a + 1)
    constant_item e = item_word Constant e refl (constant_good e)

    pub function_word : kind_at t a ≡ Function → Walked t item a count (a + 1)
    unfolding bad_kind
    function_word e = item_word Function e refl (other_good Function e refl refl refl)

    pub count_word : sound_count (word_at t a) ≡ true → Walked t count a (more (content_at t a)) (a + 1)
    unfolding can_stand after
    count_word s =
        let k = sound_count_lem (word_at t a) s in
        one_word t count a inside ((same_kind_exactly (kind_at t a) Count).1 k.0) (other_good Count k.0 refl k.1 refl)

    pub argument_word : (j : ℕ) → is_one_of argument_kinds (kind_at t a) ≡ true → Good t a → Walked t (arguments (suc j)) a (more j) (a + 1)
    unfolding can_stand after
    argument_word j e g = one_word t (arguments (suc j)) a inside e g

-- ---- the arguments, the block and the table

-- the words up to `to` are arguments still to come, and there is one less of them after this one
pub argument_more : {t : List ℕ} {from to a : ℕ} → Walked t (more (to - from)) from (more (to - a)) a → 0 < from → a < to → to ≤ length t → is_one_of argument_kinds (kind_at t a) ≡ true → Good t a
    → Walked t (more (to - from)) from (more (to - (a + 1))) (a + 1)
argument_more {t} {from} {to} {a} w later h inside e g =
    walked_on w
    (subst (λ (k : ℕ). Walked t (more k) a (more (to - (a + 1))) (a + 1)) (let e : suc (to - (a + 1)) ≡ to - a = omega arith in e)
    (argument_word t a (omega (arith, w.forth)) (omega arith) (to - (a + 1)) e g))

pub arguments_end : {t : List ℕ} {wanted : Wanted} {from to a : ℕ} → Walked t wanted from (more (to - a)) a → a ≤ to → to ≤ a → Walked t wanted from item to
arguments_end {t} {wanted} {from} {to} {a} w below above =
    subst (λ (b : ℕ). Walked t wanted from item b) (let e : a ≡ to = omega arith in e)
    (subst (λ (k : ℕ). Walked t wanted from (more k) a) (let e : to - a ≡ 0 = omega arith in e) w)

pub walked_block : {t : List ℕ} {a end : ℕ} → 0 < a → a < length t → sound_count (word_at t a) ≡ true → end ≡ a + 1 + content_at t a
    → Walked t (more (end - (a + 1))) (a + 1) item end → Walked t count a item end
walked_block {t} {a} {end} later inside s e w =
    walked_on (count_word t a later inside s)
    (subst (λ (k : ℕ). Walked t (more k) (a + 1) item end) (let q : end - (a + 1) ≡ content_at t a = omega (arith, e) in q) w)

-- ---- the whole table

module _ {t : List ℕ} {b : ℕ} (first : word_at t 0 ≡ 0) (w : Walked t item 1 item b) (end : length t ≤ b) where
  all_good : (a : ℕ) → a < length t → Good t a
  all_good zero h = good_first t first
  all_good (suc a) h = w.good (suc a) (omega arith) (omega arith)

  pub walked_readable : length t ≤ most_words → Readable t
  unfolding at_end
  walked_readable small = record {
    some_word = omega (arith, w.forth, w.within);
    small = small;
    words = λ a h e. let g : Good t a = all_good a h in let f = g.word in never (cc);
    whole = w.same ∙ break_ends t b item end;
    pointers = λ a h e. let g : Good t a = all_good a h in let f = g.pointer in never (cc);
  }

  pub walked_names : (a : ℕ) → Repeats t a → ⊥
  walked_names a r = (all_good a (repeats_inside r)).name r
