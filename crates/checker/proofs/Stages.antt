-- What the scans find, as answers by the rows.
--
-- In order: the shape rows; where the row of items can break (`break_within`). Assumes nothing.
use mathlib.Core.Path.{◌≡◌, refl, sym, ◌∙◌}
use mathlib.Core.Bool.{Bool, true, false}
use mathlib.Core.Logic.{inl, inr}
use mathlib.Core.List.{List, [], ◌∷◌}
use Rattle.std.specs.Prelude.{None, Some, Ok, Err}
use Prim.Native.Nat.{ℕ, suc, ◌+◌, ◌≤◌}
use native.Mathlib.Omega.{arith}
use lib.ListN.{length, drop, length-drop}
use Rattle.words.specs.Word.{kind_of}
use Rattle.answering.specs.declared.fault.TableFault.TheVariants.{Word, Layout, Pointer}
use Rattle.answering.specs.Answers.{Found, NoneOf}
use Rattle.answering.proofs.LowestLaws.{found_lowest, found_none}
use Rattle.answering.proofs.Orders.{none_first}
use Rattle.graphs.proofs.Classes.{never}
use Rattle.table.specs.Layout.{Wanted, item, count, arguments, can_stand, after, at_end, break_from}
use Rattle.table.specs.Faults.{Job, sent, bad_word, bad_pointer, WORD, LAYOUT, POINTER, Fault, word_fault, layout_fault, pointer_fault, number, shape_rows}
use Rattle.table.specs.Readable.{Readable}
use Rattle.table.proofs.Blocks.{break_stands, break_stops}
use Rattle.checker.specs.Steps.Stage.{ByRows}

-- ---- the shape rows

module _ {job : Job} where
  no_word : Found (bad_word job.table) (length job.table) None → (p : ℕ) → Fault job WORD p → ⊥
  no_word none p (word_fault l) = found_none none p l.has

  no_layout : break_from item 1 (drop 1 job.table) ≡ None → (p : ℕ) → Fault job LAYOUT p → ⊥
  no_layout e p (layout_fault b) = never (cc)

  -- none of the rows applies to a table that can be read
  pub readable_none : Readable job.table → NoneOf (Fault job) shape_rows
  readable_none s = (word, (no_layout s.whole, (pointer, tt)))
    where
      word : (p : ℕ) → Fault job WORD p → ⊥
      word p (word_fault l) = s.words p l.has.0 l.has.1

      pointer : (p : ℕ) → Fault job POINTER p → ⊥
      pointer p (pointer_fault l) = s.pointers p l.has.0 l.has.1

module _ {t : List ℕ} where
  pub readable_accepted : Readable t → ByRows shape_rows t (Ok tt)
  readable_accepted s list c w = none_first number (Fault (sent t list c w)) shape_rows [] 0 0 (readable_none s) (refl, refl)

  pub bad_word_lem : (a : ℕ) → Found (bad_word t) (length t) (Some a) → ByRows shape_rows t (Err (Word (record { 0 = a })))
  unfolding number
  bad_word_lem a found list c w = inl (refl, word_fault (found_lowest found))

  module _ (words : Found (bad_word t) (length t) None) where
    pub bad_layout : {a : ℕ} → break_from item 1 (drop 1 t) ≡ Some a → ByRows shape_rows t (Err (Layout (record { 0 = a })))
    unfolding number
    bad_layout e list c w = inr (no_word words, inl (refl, layout_fault e))

    module _ (whole : break_from item 1 (drop 1 t) ≡ None) where
      pub bad_pointer_lem : (a : ℕ) → Found (bad_pointer t) (length t) (Some a) → ByRows shape_rows t (Err (Pointer (record { 0 = a })))
      unfolding number
      bad_pointer_lem a found list c w = inr (no_word words, inr (no_layout whole, inl (refl, pointer_fault (found_lowest found))))

-- ---- where the row of items can break

at_end_within : (wanted : Wanted) (a p : ℕ) → at_end wanted a ≡ Some p → p ≡ a
unfolding at_end
at_end_within item a p e = never (cc)
at_end_within count a p e = cc
at_end_within (arguments k) a p e = cc

break_from_within : (row : List ℕ) (wanted : Wanted) (a p : ℕ) → break_from wanted a row ≡ Some p → p ≤ a + length row
unfolding break_from
break_from_within [] wanted a p e = omega (arith, at_end_within wanted a p e)
break_from_within (w ∷ rest) wanted a p e = go (can_stand wanted (kind_of w)) refl (λ q. break_from_within rest (after wanted w) (a + 1) p q)
  where
    go : (b : Bool) → can_stand wanted (kind_of w) ≡ b → (break_from (after wanted w) (a + 1) rest ≡ Some p → p ≤ a + 1 + length rest) → p ≤ a + suc (length rest)
    go true s below = omega (arith, below (sym (break_stands wanted a w rest s) ∙ e))
    go false s below = let q : Some a ≡ Some p = sym (break_stops wanted a w rest s) ∙ e in let r : a ≡ p = cc in omega arith

pub break_within : (t : List ℕ) (p : ℕ) → break_from item 1 (drop 1 t) ≡ Some p → p ≤ length t + 1
break_within t p e = omega (arith, break_from_within (drop 1 t) item 1 p e, length-drop 1 t)
