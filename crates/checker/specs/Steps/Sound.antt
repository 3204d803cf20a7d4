-- What the walk along the items of a sound table knows. For this crate alone. Assumes nothing.
use Rattle.std.specs.Prelude.{◌≡◌, Bool, true, false, ◌&&◌, not, Option, IfSome, List, ℕ, ◌+◌, ◌-◌, ◌≤◌, ◌<◌, length, drop}
use Rattle.words.specs.Word.{same_kind, argument_kinds, is_one_of, kind_of, content_of}
use Rattle.words.specs.declared.kind.Kind.TheVariants.{Count}
use Rattle.table.specs.Table.{kind_at}
use Rattle.table.specs.Layout.{Wanted, item, more, break_from}
use Rattle.table.specs.Faults.{bad_kind, bad_word, bad_pointer, Repeats}
use Rattle.table.specs.Readable.{Readable}
use Rattle.checker.specs.Steps.Names.{RestStays, Chained}

-- a count word whose content is allowed
unfoldable pub sound_count : ℕ → Bool
sound_count w = same_kind (kind_of w) Count && not (bad_kind Count (content_of w))

-- none of a bad word (row 3), a bad pointer (row 5) and a repeated name (row 6)
pub record Good (t : List ℕ) (a : ℕ) : Type 0 where
  pub word : bad_word t a ≡ false
  pub pointer : bad_pointer t a ≡ false
  pub name : Repeats t a → ⊥

-- The walk came from a, where `here` may stand, to b, where `there` may. If the row breaks, it breaks from b on.
pub record Walked (t : List ℕ) (here : Wanted) (a : ℕ) (there : Wanted) (b : ℕ) : Type 0 where
  pub same : break_from here a (drop a t) ≡ break_from there b (drop b t)
  pub good : (j : ℕ) → a ≤ j → j < b → Good t j
  pub forth : a ≤ b
  pub within : b ≤ length t

-- The walk goes by the chains of the variables below the address that it has come to, which are in the work row. Where it stops,
-- nothing is said of them; but in every case the entries after the first 4n stay.

-- The word at a was looked at as an argument.
pub record AsArgument (t entry exit : List ℕ) (a : ℕ) (sound : Bool) : Type 0 where
  pub stays : RestStays t entry exit
  pub goes_on : sound ≡ true → (is_one_of argument_kinds (kind_at t a) ≡ true) × Good t a × Chained t exit (a + 1)

-- The words from a to below b were looked at as arguments.
pub record AsArguments (t entry exit : List ℕ) (a b : ℕ) (sound : Bool) : Type 0 where
  pub stays : RestStays t entry exit
  pub goes_on : sound ≡ true → Walked t (more (b - a)) a item b × Chained t exit b

-- The walk came from a, where `here` may stand, to b, where an item may.
pub record WalkedOn (t exit : List ℕ) (here : Wanted) (a b : ℕ) : Type 0 where
  pub further : a < b
  pub walked : Walked t here a item b
  pub chained : Chained t exit b

-- The address at which the next item may stand, if `here` may at a, or none where the walk cannot go on.
pub record NextItem (t entry exit : List ℕ) (here : Wanted) (a : ℕ) (next : Option ℕ) : Type 0 where
  pub stays : RestStays t entry exit
  pub goes_on : IfSome next (WalkedOn t exit here a)

-- The table was walked along. If it is sound, then none of the rows from 3 to 6 applies.
pub record SoundTable (t entry exit : List ℕ) (sound : Bool) : Type 0 where
  pub stays : RestStays t entry exit
  pub shows : sound ≡ true → Readable t × ((a : ℕ) → Repeats t a → ⊥)
