-- The row of items does not break exactly where it is a row of items: `whole_items` and `items_whole`.
-- Assumes nothing.
use mathlib.Core.Path.{◌≡◌, refl, sym, ap, ◌∙◌, subst}
use mathlib.Core.Bool.{Bool, true, false, cond}
use mathlib.Core.List.{List, [], ◌∷◌, ◌++◌}
use Rattle.std.specs.Prelude.{None, Some}
use Prim.Native.Nat.{ℕ, zero, suc, ◌+◌, ◌<◌}
use native.Mathlib.Omega.{arith}
use lib.ListN.{length, get_or}
use Rattle.words.specs.Word.{same_kind, node_kinds, argument_kinds, is_one_of, kind_of, content_of}
use Rattle.words.specs.declared.kind.Kind.{Kind}
use Rattle.words.specs.declared.kind.Kind.TheVariants.{Function, Count}
use Rattle.words.proofs.WordLaws.{same_kind_exactly}
use Rattle.words.proofs.KindLaws.{one_of}
use Rattle.graphs.proofs.Classes.{never}
use Rattle.table.specs.Layout.{Items, no_more, variable_item, constant_item, block, Wanted, item, count, arguments, more, can_stand, after, at_end, break_from}
use Rattle.table.proofs.Blocks.{break_stands, break_stops}

AllArguments : List ℕ → Type 0
AllArguments words = (i : ℕ) → i < length words → is_one_of argument_kinds (kind_of (get_or words i 0)) ≡ true

-- k arguments, and then a row of items
record AfterCount (k : ℕ) (row : List ℕ) : Type 0 where
  words : List ℕ
  rest : List ℕ
  is : row ≡ words ++ rest
  counted : length words ≡ k
  all : AllArguments words
  items : Items rest

-- what a row is that goes on where `wanted` may stand; no state wants 0 arguments
abbrev Goes : Wanted → List ℕ → Type 0
Goes item row = Items row
Goes count row = (k : ℕ) × (rest : List ℕ) × (row ≡ k ∷ rest) × (kind_of k ≡ Count) × AfterCount (content_of k) rest
Goes (arguments zero) row = Unit {0}
Goes (arguments (suc k)) row = AfterCount (suc k) row

goes_more : (k : ℕ) (row : List ℕ) → Goes (more k) row → AfterCount k row
unfolding AllArguments
goes_more zero row items = record { words = []; rest = row; is = refl; counted = refl; all = λ i h. absurd (omega arith); items = items }
goes_more (suc k) row after = after

one_argument : (w k : ℕ) (rest : List ℕ) → is_one_of argument_kinds (kind_of w) ≡ true → AfterCount k rest → AfterCount (suc k) (w ∷ rest)
unfolding AllArguments
one_argument w k rest e a =
    record { words = w ∷ a.words; rest = a.rest; is = ap (◌∷◌ w) a.is; counted = ap suc a.counted; all = every; items = a.items }
  where
    every : (i : ℕ) → i < suc (length a.words) → is_one_of argument_kinds (kind_of (get_or (w ∷ a.words) i 0)) ≡ true
    every zero h = e
    every (suc i) h = a.all i (omega arith)

-- what may stand after an item
abbrev next : Kind → Wanted
next k = cond (same_kind k Function) count item

one_item : (w : ℕ) (rest : List ℕ) → is_one_of node_kinds (kind_of w) ≡ true → Goes (next (kind_of w)) rest → Items (w ∷ rest)
unfolding AllArguments
one_item w rest e g =
    one_of (λ k. kind_of w ≡ k → Goes (next k) rest → Items (w ∷ rest)) node_kinds (variable_item, (constant_item, (function, tt)))
    (kind_of w) e refl g
  where
    function : kind_of w ≡ Function → Goes count rest → Items (w ∷ rest)
    function f (k, words_rest, is, c, a) =
        subst (λ (row : List ℕ). Items (w ∷ row)) (sym (is ∙ ap (◌∷◌ k) a.is)) (block a.words f c a.counted a.all a.items)

one_word : (wanted : Wanted) (w : ℕ) (rest : List ℕ) → can_stand wanted (kind_of w) ≡ true → Goes (after wanted w) rest → Goes wanted (w ∷ rest)
unfolding can_stand after
one_word item w rest e g = one_item w rest e g
one_word count w rest e g = (w, rest, refl, (same_kind_exactly (kind_of w) Count).0 e, goes_more (content_of w) rest g)
one_word (arguments zero) w rest e g = tt
one_word (arguments (suc k)) w rest e g = one_argument w k rest e (goes_more k rest g)

whole_goes : (row : List ℕ) (wanted : Wanted) (a : ℕ) → break_from wanted a row ≡ None → Goes wanted row
unfolding break_from at_end
whole_goes [] item a e = no_more
whole_goes [] count a e = never (cc)
whole_goes [] (arguments k) a e = never (cc)
whole_goes (w ∷ rest) wanted a e = go (can_stand wanted (kind_of w)) refl (λ q. whole_goes rest (after wanted w) (a + 1) q)
  where
    go : (b : Bool) → can_stand wanted (kind_of w) ≡ b → (break_from (after wanted w) (a + 1) rest ≡ None → Goes (after wanted w) rest) → Goes wanted (w ∷ rest)
    go false s ih = let q : Some a ≡ None = sym (break_stops wanted a w rest s) ∙ e in never (cc)
    go true s ih = one_word wanted w rest s (ih (sym (break_stands wanted a w rest s) ∙ e))

-- A row that does not break is a row of items.
pub whole_items : (row : List ℕ) (a : ℕ) → break_from item a row ≡ None → Items row
whole_items row a e = whole_goes row item a e

-- the arguments of a block stand, and the question is passed on to what follows
arguments_stand : (words rest : List ℕ) → AllArguments words → (a : ℕ) → break_from (more (length words)) a (words ++ rest) ≡ break_from item (a + length words) rest
unfolding AllArguments after can_stand
arguments_stand [] rest all a = ap (λ (b : ℕ). break_from item b rest) (let e : a ≡ a + 0 = omega arith in e)
arguments_stand (w ∷ words) rest all a =
    break_stands (arguments (suc (length words))) a w (words ++ rest) (all 0 (omega arith))
    ∙ arguments_stand words rest (λ i h. all (suc i) (omega arith)) (a + 1)
    ∙ ap (λ (b : ℕ). break_from item b rest) (let e : a + 1 + length words ≡ a + suc (length words) = omega arith in e)

-- A row of items does not break.
pub items_whole : {row : List ℕ} → Items row → (a : ℕ) → break_from item a row ≡ None
unfolding break_from at_end can_stand after AllArguments
items_whole no_more a = refl
items_whole (variable_item {w} {rest} e items) a =
    break_stands item a w rest (ap (is_one_of node_kinds) e) ∙ ap (λ (k : Kind). break_from (next k) (a + 1) rest) e ∙ items_whole items (a + 1)
items_whole (constant_item {w} {rest} e items) a =
    break_stands item a w rest (ap (is_one_of node_kinds) e) ∙ ap (λ (k : Kind). break_from (next k) (a + 1) rest) e ∙ items_whole items (a + 1)
items_whole (block {f} {k} {rest} words e c counted all items) a =
    break_stands item a f (k ∷ (words ++ rest)) (ap (is_one_of node_kinds) e)
    ∙ ap (λ (q : Kind). break_from (next q) (a + 1) (k ∷ (words ++ rest))) e
    ∙ break_stands count (a + 1) k (words ++ rest) ((same_kind_exactly (kind_of k) Count).1 c)
    ∙ ap (λ (j : ℕ). break_from (more j) (a + 1 + 1) (words ++ rest)) (sym counted)
    ∙ arguments_stand words rest all (a + 1 + 1)
    ∙ items_whole items (a + 1 + 1 + length words)
