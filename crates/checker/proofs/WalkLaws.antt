-- The walk along the items with the work row, by what each function of it read. In order:
--   variable_argument, constant_argument, pointer_argument, no_argument   a word looked at as an argument
--   ArgumentsYet   the arguments passed are sound; arguments_none, arguments_more, arguments_stop, arguments_all
--   nowhere, next_variable, next_constant, next_arguments, count_chained, next_block   the address after an item
--   ItemsYet       the items passed are sound; items_none, items_more, sound_table, unsound_table
-- Assumes nothing.
use mathlib.Core.Path.{◌≡◌, refl, sym, ap, subst, ◌∙◌}
use mathlib.Core.Bool.{Bool, true, false, not, true≢false}
use mathlib.Core.List.{List}
use Prim.Native.Nat.{ℕ, ◌+◌, ◌-◌, ◌≤◌, ◌<◌}
use native.Mathlib.Omega.{arith}
use borrow.Author.Tests.{not-true}
use lib.ListN.{length}
use Rattle.std.specs.Prelude.{Option, None, Some}
use Rattle.words.specs.Word.{argument_kinds, is_one_of}
use Rattle.words.specs.declared.kind.Kind.TheVariants.{Variable, Constant, Pointer}
use Rattle.words.proofs.KindLaws.{not_both}
use Rattle.table.specs.Table.{word_at, kind_at, content_at}
use Rattle.table.specs.Layout.{Wanted, item, count, more}
use Rattle.table.specs.Faults.{bad_target, Repeats}
use Rattle.checker.specs.Steps.Names.{RestStays, Chained, NameJudged}
use Rattle.checker.specs.Steps.Sound.{sound_count, Walked, AsArgument, AsArguments, NextItem, SoundTable}
use Rattle.checker.proofs.NameLaws.{stays_same, stays_on, chained_pass, judged_stays}
use Rattle.checker.proofs.SoundLaws.{sound_count_lem, variable_good, constant_good, pointer_good, variable_item, constant_item, walked_none, walked_on, argument_more, arguments_end, walked_block, walked_readable, walked_names}

-- a name that was judged to be new
new_name : {t entry exit : List ℕ} {a : ℕ} {repeated : Bool} → NameJudged t entry exit a repeated → repeated ≡ false → (Repeats t a → ⊥) × Chained t exit (a + 1)
new_name {t} {entry} {exit} {a} j e = let d : NameJudged t entry exit a false = subst (λ b. NameJudged t entry exit a b) e j in (d.verdict, d.goes_on.chained)

-- ---- one argument

module _ (t : List ℕ) (a : ℕ) (later : 0 < a) where
  pub variable_argument : {entry exit : List ℕ} (repeated : Bool) → kind_at t a ≡ Variable → NameJudged t entry exit a repeated → AsArgument t entry exit a (not repeated)
  variable_argument repeated e j = record {
    stays = judged_stays repeated j;
    goes_on = λ s. let n = new_name j (not-true repeated s) in (ap (is_one_of argument_kinds) e, variable_good t a later e n.0, n.1);
  }

  module _ {work : List ℕ} (c : Chained t work a) where
    pub constant_argument : kind_at t a ≡ Constant → AsArgument t work work a true
    constant_argument e = record {
      stays = stays_same t work;
      goes_on = λ s. (ap (is_one_of argument_kinds) e, constant_good t a later e, chained_pass c (not_both e refl));
    }

    pub pointer_argument : {bad : Bool} → kind_at t a ≡ Pointer → bad ≡ bad_target t (content_at t a) → AsArgument t work work a (not bad)
    pointer_argument {bad} e b = record {
      stays = stays_same t work;
      goes_on = λ s. (ap (is_one_of argument_kinds) e, pointer_good t a later e (sym b ∙ not-true bad s), chained_pass c (not_both e refl));
    }

pub no_argument : (t work : List ℕ) (a : ℕ) → AsArgument t work work a false
no_argument t work a = record { stays = stays_same t work; goes_on = λ e. absurd (true≢false (sym e)) }

-- ---- the arguments

-- The arguments from `from` to below a are sound, and as many are to come as words are left up to `to`.
pub record ArgumentsYet (t entry work : List ℕ) (from to a : ℕ) : Type 0 where
  pub stays : RestStays t entry work
  pub walked : Walked t (more (to - from)) from (more (to - a)) a
  pub chained : Chained t work a
  pub within : a ≤ to

pub arguments_none : {t work : List ℕ} {from to : ℕ} → Chained t work from → from ≤ to → to ≤ length t → ArgumentsYet t work work from to from
arguments_none {t} {work} {from} {to} c h inside =
    record { stays = stays_same t work; walked = walked_none t (more (to - from)) from (omega arith); chained = c; within = h }

module _ {t entry work : List ℕ} {from to a : ℕ} (y : ArgumentsYet t entry work from to a) where
  module _ {exit : List ℕ} {sound : Bool} (r : AsArgument t work exit a sound) where
    pub arguments_more : 0 < from → a < to → to ≤ length t → sound ≡ true → ArgumentsYet t entry exit from to (a + 1)
    arguments_more later h inside e = record {
      stays = stays_on y.stays r.stays;
      walked = argument_more y.walked later h inside (r.goes_on e).0 (r.goes_on e).1;
      chained = (r.goes_on e).2;
      within = omega arith;
    }

    pub arguments_stop : AsArguments t entry exit from to false
    arguments_stop = record { stays = stays_on y.stays r.stays; goes_on = λ e. absurd (true≢false (sym e)) }

  pub arguments_all : to ≤ a → AsArguments t entry work from to true
  arguments_all end = record {
    stays = y.stays;
    goes_on = λ e. (
      arguments_end y.walked y.within end,
      subst (Chained t work) (let e : a ≡ to = omega (arith, y.within) in e) y.chained,
    );
  }

-- ---- the address after an item

pub nowhere : {t entry exit : List ℕ} {here : Wanted} {a : ℕ} → RestStays t entry exit → NextItem t entry exit here a None
nowhere s = record { stays = s; goes_on = tt }

module _ (t : List ℕ) (a : ℕ) (later : 0 < a) (inside : a < length t) where
  pub next_variable : {entry exit : List ℕ} (repeated : Bool) → kind_at t a ≡ Variable → NameJudged t entry exit a repeated → repeated ≡ false → NextItem t entry exit item a (Some (a + 1))
  next_variable repeated e j new = record {
    stays = judged_stays repeated j;
    goes_on = record { further = omega arith; walked = variable_item t a later inside e (new_name j new).0; chained = (new_name j new).1 };
  }

  pub next_constant : {work : List ℕ} → Chained t work a → kind_at t a ≡ Constant → NextItem t work work item a (Some (a + 1))
  next_constant {work} c e = record {
    stays = stays_same t work;
    goes_on = record { further = omega arith; walked = constant_item t a later inside e; chained = chained_pass c (not_both e refl) };
  }

  pub next_arguments : {entry exit : List ℕ} {end : ℕ} {sound : Bool} → sound_count (word_at t a) ≡ true → end ≡ a + 1 + content_at t a
      → AsArguments t entry exit (a + 1) end sound → sound ≡ true → NextItem t entry exit count a (Some end)
  next_arguments s e r all = record {
    stays = r.stays;
    goes_on = record { further = omega arith; walked = walked_block later inside s e (r.goes_on all).0; chained = (r.goes_on all).1 };
  }

-- a count is no variable
pub count_chained : {t work : List ℕ} {a : ℕ} → Chained t work a → sound_count (word_at t a) ≡ true → Chained t work (a + 1)
count_chained {t} {work} {a} c s = chained_pass c (not_both (sound_count_lem (word_at t a) s).0 refl)

pub next_block : {t entry exit : List ℕ} {a : ℕ} (next : Option ℕ) → Walked t item a count (a + 1) → NextItem t entry exit count (a + 1) next → NextItem t entry exit item a next
next_block None function block = record { stays = block.stays; goes_on = tt }
next_block (Some b) function block = record {
  stays = block.stays;
  goes_on = record { further = omega (arith, block.goes_on.further); walked = walked_on function block.goes_on.walked; chained = block.goes_on.chained };
}

-- ---- the table

-- The items from address 1 to below a are sound.
pub record ItemsYet (t entry work : List ℕ) (a : ℕ) : Type 0 where
  pub stays : RestStays t entry work
  pub walked : Walked t item 1 item a
  pub chained : Chained t work a

pub items_none : {t work : List ℕ} → Chained t work 1 → 0 < length t → ItemsYet t work work 1
items_none {t} {work} c some = record { stays = stays_same t work; walked = walked_none t item 1 some; chained = c }

pub unsound_table : {t entry exit : List ℕ} → RestStays t entry exit → SoundTable t entry exit false
unsound_table s = record { stays = s; shows = λ e. absurd (true≢false (sym e)) }

module _ {t entry work : List ℕ} {a : ℕ} (y : ItemsYet t entry work a) where
  pub items_more : {exit : List ℕ} (next : ℕ) → NextItem t work exit item a (Some next) → ItemsYet t entry exit next
  items_more next n = record {
    stays = stays_on y.stays n.stays;
    walked = walked_on y.walked n.goes_on.walked;
    chained = n.goes_on.chained;
  }

  pub sound_table : {before : List ℕ} → RestStays t before entry → word_at t 0 ≡ 0 → length t ≤ a → SoundTable t before work true
  sound_table s first end = record {
    stays = stays_on s y.stays;
    shows = λ e. (walked_readable first y.walked end y.chained.small, walked_names first y.walked end);
  }
