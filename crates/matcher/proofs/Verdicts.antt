-- The answers of a match, from what its stages have shown.
--
-- In order: the check's answer is the match's (`check_refused`, `check_passed`); the list (`list_answered`, `list_clear`,
-- `side_answered`, `passes_all`); what a job has that passes all checks (`ready`); the pairs (`accepted_answered`,
-- `clash_answered`, `cycle_answered`). Assumes nothing.
use mathlib.Core.Path.{◌≡◌, refl, sym, ◌∙◌, subst}
use Rattle.std.proofs.lemmas.Bool.{false≢true}
use mathlib.Core.Bool.{Bool, true, false, not, ◌&&◌}
use mathlib.Core.Logic.{◌⊎◌, inl, inr, ⊎_elim}
use mathlib.Core.List.{List, [], ◌∷◌, ◌++◌}
use Prim.Native.Nat.{ℕ, ◌+◌, ◌*◌, ◌≤◌, ◌<◌}
use native.Mathlib.Decide.{dec_lt}
use native.Mathlib.Omega.{arith}
use lib.ListN.{length, take}
use lib.Seq.{take_all}
use Rattle.std.specs.Prelude.{Some, None, Ok, Err}
use Rattle.words.specs.Limits.{most_entries}
use Rattle.answering.specs.declared.fault.TableFault.{TableFault}
use Rattle.answering.specs.Answers.{Found, Answered, NoneOf}
use Rattle.answering.specs.TableFaults.{number_of as fault_number, place_of as fault_place}
use Rattle.answering.proofs.FaultLaws.{known}
use Rattle.answering.proofs.LowestLaws.{none_at_all}
use Rattle.answering.proofs.Orders.{passed_none, refused_first, none_first, none_both, none_parts}
use Rattle.graphs.specs.Partition.{Pair, pairs_of, ◌∈◌, Sides, Clash, Cycle}
use Rattle.graphs.proofs.Classes.{never}
use Rattle.graphs.proofs.Theorems.{first_pairs_grow, clash_grows, cycle_grows}
use Rattle.table.specs.Table.{kind_at, node_kind, graph_of}
use Rattle.table.specs.Faults.{Job, odd, bad_sides, pair_at, FirstClash, FirstCycle, LIST, ADDRESS, CLASH, CYCLE, number, Fault, room_fault, list_fault, address_fault, clash_fault, cycle_fault, size_rows, table_rows, list_rows, pair_rows, check_order, match_order}
use Rattle.table.proofs.Pairs.{pair_place}
use Rattle.table.proofs.Children.{kind_node}
use Rattle.table.proofs.PassedCheck.{passed_check}
use Rattle.table.proofs.OneAnswer.{check_off_list}
use Rattle.checker.specs.Check.{CheckOf}
use Rattle.matcher.specs.declared.answer.Refusal.{Refusal}
use Rattle.matcher.specs.Match.{job_of, MatchOf, Passes}
use Rattle.matcher.specs.Steps.PassedAll.{PassedAll}

-- ---- the check's answer is the match's

module _ {t class work : List ℕ} (list : List ℕ) {class_after work_after : List ℕ} where
  pub check_refused : {fault : TableFault} → CheckOf t class work (Err fault) class_after work_after → MatchOf t list class work (Err (Refusal.Table fault)) class_after work_after
  check_refused {fault} c =
      record {
        answered =
            refused_first number (Fault (job_of t list class work)) check_order (list_rows ++ pair_rows) (fault_number fault) (fault_place fault) is_refused
            (check_off_list t (length class) (length work) [] list (fault_number fault) (fault_place fault) c.answered);
        bound = λ z. absurd (is_refused z);
        refused = λ z. c.class_left;
        work_left = c.work_left;
      }
    where
      is_refused : fault_number fault ≡ 0 → ⊥
      is_refused z = omega (arith, z, (known fault).1)

  pub check_passed : {done : Unit {0}} → CheckOf t class work (Ok done) class_after work_after → NoneOf (Fault (job_of t list class work)) check_order
  unfolding number
  check_passed c = (passed_none number (Fault (job_of t list class work)) check_order 0 0 refl refl (check_off_list t (length class) (length work) [] list 0 0 c.answered)).0

-- ---- the list

module _ {job : Job} where
  pub list_answered : NoneOf (Fault job) check_order → (odd job.list ≡ true) ⊎ (most_entries < length job.list) → Answered number (Fault job) match_order 8 0
  unfolding number
  list_answered clear h = none_first number (Fault job) check_order (list_rows ++ pair_rows) 8 0 clear (inl (refl, list_fault h))

  pub list_clear : NoneOf (Fault job) check_order → odd job.list ≡ false → length job.list ≤ most_entries → NoneOf (Fault job) (check_order ++ (LIST ∷ []))
  list_clear clear even few = none_both (Fault job) check_order (LIST ∷ []) clear (no_list, tt)
    where
      no_list : (p : ℕ) → Fault job LIST p → ⊥
      no_list p (list_fault h) = ⊎_elim (λ e. never (cc)) (λ e. omega arith) h

  module _ (clear : NoneOf (Fault job) (check_order ++ (LIST ∷ []))) where
    pub side_answered : (k : ℕ) → Found (λ k. bad_sides job.table (pair_at (pairs_of job.list) k)) (length (pairs_of job.list)) (Some k) → Answered number (Fault job) match_order 9 (k + 1)
    unfolding number
    side_answered k found =
        none_first number (Fault job) (check_order ++ (LIST ∷ [])) (ADDRESS ∷ pair_rows) 9 (k + 1) clear
        (inl (refl, address_fault (record { has = (found.0, found.1); none_below = λ j below bad. false≢true (sym (found.2 j below) ∙ bad.1) })))

    pub passes_all : Found (λ k. bad_sides job.table (pair_at (pairs_of job.list) k)) (length (pairs_of job.list)) None → Passes job
    passes_all none_found = none_both (Fault job) (check_order ++ (LIST ∷ [])) (ADDRESS ∷ []) clear (no_side, tt)
      where
        no_side : (p : ℕ) → Fault job ADDRESS p → ⊥
        no_side p (address_fault {i} l) = false≢true (sym (none_found i l.has.0) ∙ l.has.1)

-- ---- what a job has that passes all checks

both_kinds : (a b : Bool) → not (a && b) ≡ false → (a ≡ true) × (b ≡ true)
both_kinds true true e = (refl, refl)
both_kinds true false e = never (cc)
both_kinds false b e = never (cc)

pub at_most : {a b : ℕ} → (b < a → ⊥) → a ≤ b
at_most none = omega arith

module _ {job : Job} (passes : Passes job) where
  of_check : NoneOf (Fault job) check_order
  of_check = (none_parts (Fault job) check_order list_rows passes).0

  of_list : NoneOf (Fault job) list_rows
  of_list = (none_parts (Fault job) check_order list_rows passes).1

  enough : (job.class_room < length job.table) ⊎ (job.work_room < 4 * length job.table) → ⊥
  enough short = (none_parts (Fault job) size_rows table_rows of_check).0.1.0 0 (room_fault short)

  even_there : odd job.list ≡ false
  even_there = go (odd job.list) refl
    where
      go : (b : Bool) → odd job.list ≡ b → odd job.list ≡ false
      go false e = e
      go true e = absurd (of_list.0 0 (list_fault (inl e)))

  good_side : (k : ℕ) → k < length (pairs_of job.list) → bad_sides job.table (pair_at (pairs_of job.list) k) ≡ false
  good_side k h = go (bad_sides job.table (pair_at (pairs_of job.list) k)) refl
    where
      go : (b : Bool) → bad_sides job.table (pair_at (pairs_of job.list) k) ≡ b → bad_sides job.table (pair_at (pairs_of job.list) k) ≡ false
      go false e = e
      go true e = absurd (none_at_all (λ i l. of_list.1.0 (i + 1) (address_fault l)) (k + 1) k (omega arith) (h, e))

  sides_there : Sides (graph_of job.table) (pairs_of job.list)
  sides_there p m =
      let at : (k : ℕ) × (k < length (pairs_of job.list)) × (pair_at (pairs_of job.list) k ≡ p) = pair_place m in
      let kinds : (node_kind (kind_at job.table p.left) ≡ true) × (node_kind (kind_at job.table p.right) ≡ true) =
      both_kinds (node_kind (kind_at job.table p.left)) (node_kind (kind_at job.table p.right))
      (subst (λ (q : Pair). bad_sides job.table q ≡ false) at.2 (good_side at.0 at.1)) in
      (kind_node job.table p.left kinds.0, kind_node job.table p.right kinds.1)

  pub ready : PassedAll job
  ready =
      record {
        passed = passed_check job of_check;
        class_enough = at_most (λ h. enough (inl h));
        work_enough = at_most (λ h. enough (inr h));
        even = even_there;
        few = at_most (λ h. of_list.0 0 (list_fault (inr h)));
        sides = sides_there;
      }

  -- ---- the pairs

  pub list_so_far : (k : ℕ) (p : Pair) → p ∈ take k (pairs_of job.list) → p ∈ pairs_of job.list
  list_so_far k p m =
      subst (λ (ps : List Pair). p ∈ ps) (take_all (k + length (pairs_of job.list)) (pairs_of job.list) (omega arith))
      (first_pairs_grow k (k + length (pairs_of job.list)) (pairs_of job.list) (omega arith) p m)

  -- only the rows 10 and 11 are left
  pub behind_nine : (a p : ℕ) → Answered number (Fault job) pair_rows a p → Answered number (Fault job) match_order a p
  behind_nine a p = none_first number (Fault job) (check_order ++ list_rows) pair_rows a p passes

  pub accepted_answered : (Clash (graph_of job.table) (pairs_of job.list) → ⊥) → (Cycle (graph_of job.table) (pairs_of job.list) → ⊥) → Answered number (Fault job) match_order 0 0
  accepted_answered no_clash no_cycle = behind_nine 0 0 (inr (clash_row, inr (cycle_row, (refl, refl))))
    where
      clash_row : (p : ℕ) → Fault job CLASH p → ⊥
      clash_row p (clash_fault {i} f) = no_clash (clash_grows (list_so_far (i + 1)) f.clash)

      cycle_row : (p : ℕ) → Fault job CYCLE p → ⊥
      cycle_row p (cycle_fault {i} f) = no_cycle (cycle_grows (list_so_far (i + 1)) f.cycle)

  pub clash_answered : (i : ℕ) → FirstClash (graph_of job.table) (pairs_of job.list) i → Answered number (Fault job) match_order 10 (i + 1)
  unfolding number
  clash_answered i f = behind_nine 10 (i + 1) (inl (refl, clash_fault f))

  pub cycle_answered : (i : ℕ) → FirstCycle (graph_of job.table) (pairs_of job.list) i → Answered number (Fault job) match_order 11 (i + 1)
  unfolding number
  cycle_answered i f = behind_nine 11 (i + 1) (inr (clash_row, inl (refl, cycle_fault f)))
    where
      -- A clash up to this pair is one that f excludes; a later one comes after f's cycle.
      clash_row : (p : ℕ) → Fault job CLASH p → ⊥
      clash_row p (clash_fault {i = j} c) = go (dec_lt j (i + 1))
        where
          go : Dec (j < i + 1) → ⊥
          go (yes h) = f.no_clash (clash_grows (first_pairs_grow (j + 1) (i + 1) (pairs_of job.list) (omega arith)) c.clash)
          go (no h) = c.no_cycle_before (cycle_grows (first_pairs_grow (i + 1) j (pairs_of job.list) (omega arith)) f.cycle)
