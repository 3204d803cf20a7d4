-- What no fault gives: a table that can be read (`no_fault_readable`), whose graph is well_formed where it has no loop
-- (`loopless_well_formed`); and so a table that passed its check (`passed_check`). Assumes nothing.
use mathlib.Core.Path.{◌≡◌, refl, sym, ap, ◌∙◌}
use mathlib.Core.Bool.{true≢false}
use mathlib.Core.List.{List, [], ◌∷◌}
use mathlib.Core.Logic.{inl, inr}
use Rattle.std.specs.Prelude.{Option, None, Some}
use Prim.Native.Nat.{ℕ, suc, ◌≤◌, ◌<◌}
use native.Mathlib.Omega.{arith}
use lib.ListN.{length, drop}
use Rattle.words.specs.Limits.{most_words}
use Rattle.answering.specs.Answers.{NoneOf}
use Rattle.answering.proofs.LowestLaws.{none_at_all}
use Rattle.answering.proofs.Orders.{none_parts}
use Rattle.graphs.specs.Graph.{Child, Steps, WellFormed}
use Rattle.table.specs.Table.{kind_at, node_kind, graph_of}
use Rattle.table.specs.Layout.{item, break_from}
use Rattle.table.specs.Faults.{Job, NAME, LOOP, Fault, size_fault, word_fault, layout_fault, pointer_fault, loop_fault, size_rows, shape_rows, table_rows, check_order}
use Rattle.table.proofs.Children.{kind_node, node_kind_lem, symbol_count, symbol_length, NamedChild, named_child}
use Rattle.table.specs.Readable.{Readable, PassedCheck}
use Rattle.table.proofs.Readable.{inside_kind, kind_0, child_is_node}

module _ {t : List ℕ} (c : Readable t) (no_loop : (x : ℕ) → Steps (Child (graph_of t)) x x → ⊥) where
  pub loopless_well_formed : WellFormed (graph_of t)
  loopless_well_formed =
      record {
        inside = λ x n. inside_kind t x node_kind refl (node_kind_lem t x n);
        none_at_0 = λ n. true≢false (sym (node_kind_lem t 0 n) ∙ ap node_kind (kind_0 c));
        counted = λ x s cs e. symbol_length t x e ∙ sym (symbol_count t x e);
        child_node = λ x y d.
            let n : NamedChild t x y = named_child t x y d in
            kind_node t y (sym (ap (λ (z : ℕ). node_kind (kind_at t z)) n.is) ∙ child_is_node c x n.place n.within);
        no_loop = no_loop;
      }

-- ---- no fault

module _ (job : Job) where
  pub no_fault_readable : 0 < length job.table → length job.table ≤ most_words → NoneOf (Fault job) shape_rows → Readable job.table
  no_fault_readable some_word small (word, (layout, (pointer, rest))) =
      record {
        some_word = some_word;
        small = small;
        words = λ a h e. none_at_all (λ b l. word b (word_fault l)) (suc a) a (omega arith) (h, e);
        whole = whole (break_from item 1 (drop 1 job.table)) refl;
        pointers = λ a h e. none_at_all (λ b l. pointer b (pointer_fault l)) (suc a) a (omega arith) (h, e);
      }
    where
      whole : (o : Option ℕ) → break_from item 1 (drop 1 job.table) ≡ o → break_from item 1 (drop 1 job.table) ≡ None
      whole None e = e
      whole (Some a) e = absurd (layout a (layout_fault e))

  pub passed_check : NoneOf (Fault job) check_order → PassedCheck job.table
  passed_check none_applies =
      let parts = none_parts (Fault job) size_rows table_rows none_applies in
      let rows = none_parts (Fault job) shape_rows (NAME ∷ LOOP ∷ []) parts.1 in
      let some_word : length job.table ≡ 0 → ⊥ = λ z. parts.0.0 0 (size_fault (inl z)) in
      let small : most_words < length job.table → ⊥ = λ h. parts.0.0 0 (size_fault (inr h)) in
      let readable : Readable job.table = no_fault_readable (omega arith) (omega arith) rows.0 in
      record { readable = readable; well_formed = loopless_well_formed readable (λ x s. rows.1.1.0 0 (loop_fault x s)) }
