-- The row of items, and where it breaks. The sentences quoted are document 01's. Assumes nothing.
use Rattle.std.specs.Prelude.{◌≡◌, Bool, true, false, cond, Option, None, Some, List, [], ◌∷◌, ◌++◌, ℕ, zero, suc, ◌+◌, ◌<◌, length, get_or}
use Rattle.words.specs.Word.{same_kind, node_kinds, argument_kinds, is_one_of, kind_of, content_of}
use Rattle.words.specs.declared.kind.Kind.{Kind}
use Rattle.words.specs.declared.kind.Kind.TheVariants.{Variable, Constant, Function, Count}

-- ---- a row of items

-- "the table is a row of items: a variable, a constant, or a block. A block is a function word, a count word k, then k
-- argument words"
pub data Items : List ℕ → Type 0 where
  no_more : Items []
  variable_item : {w : ℕ} {rest : List ℕ} → kind_of w ≡ Variable → Items rest → Items (w ∷ rest)
  constant_item : {w : ℕ} {rest : List ℕ} → kind_of w ≡ Constant → Items rest → Items (w ∷ rest)
  block : {f k : ℕ} {rest : List ℕ} (arguments : List ℕ) → kind_of f ≡ Function → kind_of k ≡ Count → length arguments ≡ content_of k
      → ((i : ℕ) → i < length arguments → is_one_of argument_kinds (kind_of (get_or arguments i 0)) ≡ true) → Items rest → Items (f ∷ k ∷ (arguments ++ rest))

-- ---- where the row breaks

-- What may stand next: an item; a count, after a function; the arguments that a count leaves to come.
pub data Wanted : Type 0 where
  item : Wanted
  count : Wanted
  arguments : ℕ → Wanted

abbrev pub more : ℕ → Wanted
more zero = item
more (suc k) = arguments (suc k)

-- an item begins with a node
unfoldable pub can_stand : Wanted → Kind → Bool
can_stand item k = is_one_of node_kinds k
can_stand count k = same_kind k Count
can_stand (arguments j) k = is_one_of argument_kinds k

abbrev pub less : ℕ → ℕ
less zero = zero
less (suc k) = k

-- what may stand after a word that stands
unfoldable pub after : Wanted → ℕ → Wanted
after item w = cond (same_kind (kind_of w) Function) count item
after count w = more (content_of w)
after (arguments j) w = more (less j)

unfoldable pub at_end : Wanted → ℕ → Option ℕ
at_end item a = None
at_end count a = Some a
at_end (arguments j) a = Some a

-- "first word that cannot stand there; n if a block runs past the end": the words from address a on, where `wanted` may stand
-- at a. The end of the row is at address n.
unfoldable pub break_from : Wanted → ℕ → List ℕ → Option ℕ
break_from wanted a [] = at_end wanted a
break_from wanted a (w ∷ rest) = elim (can_stand wanted (kind_of w)) [ true ↦ break_from (after wanted w) (a + 1) rest | false ↦ Some a ]
