-- No row of document 01's table of numbers applies at two places (`fault_once`); of 10 and 11 only one applies
-- (`clash_or_cycle`); and those of the table check do not look at the list (`check_off_list`, `none_off_list`). Assumes nothing.
use mathlib.Core.Path.{◌≡◌, refl, sym, ap, ◌∙◌}
use mathlib.Core.Bool.{true}
use mathlib.Core.List.{List}
use Rattle.std.specs.Prelude.{Some}
use Prim.Native.Nat.{ℕ, ◌+◌, ◌≤◌, ◌<◌}
use native.Mathlib.Decide.{dec_le}
use native.Mathlib.Omega.{arith}
use lib.Dec.{leb}
use lib.ListN.{take}
use Rattle.answering.specs.Answers.{Answered, NoneOf}
use Rattle.answering.proofs.LowestLaws.{neither_below, lowest_only}
use Rattle.answering.proofs.Orders.{carried, none_carried}
use Rattle.graphs.specs.Partition.{pairs_of, Clash, Cycle}
use Rattle.graphs.proofs.Classes.{never}
use Rattle.graphs.proofs.Theorems.{first_pairs_grow, clash_grows, cycle_grows}
use Rattle.table.specs.Table.{graph_of}
use Rattle.table.specs.Faults.{Job, sent, Row, CLASH, CYCLE, number, Fault, size_fault, room_fault, word_fault, layout_fault, pointer_fault, name_fault, loop_fault, list_fault, address_fault, clash_fault, cycle_fault, check_order}

-- No row applies at two places.
module _ (job : Job) where
  clash_before : {i j : ℕ} → i < j → Clash (graph_of job.table) (take (i + 1) (pairs_of job.list)) → (Clash (graph_of job.table) (take j (pairs_of job.list)) → ⊥) → ⊥
  clash_before {i} {j} h c f = f (clash_grows (first_pairs_grow (i + 1) j (pairs_of job.list) (omega arith)) c)

  cycle_before : {i j : ℕ} → i < j → Cycle (graph_of job.table) (take (i + 1) (pairs_of job.list)) → (Cycle (graph_of job.table) (take j (pairs_of job.list)) → ⊥) → ⊥
  cycle_before {i} {j} h c f = f (cycle_grows (first_pairs_grow (i + 1) j (pairs_of job.list) (omega arith)) c)

  pub fault_once : (row : Row) (p q : ℕ) → Fault job row p → Fault job row q → p ≡ q
  fault_once row p q (size_fault a) (size_fault b) = refl
  fault_once row p q (room_fault a) (room_fault b) = refl
  fault_once row p q (word_fault a) (word_fault b) = lowest_only a b
  fault_once row p q (layout_fault a) (layout_fault b) = let e : Some p ≡ Some q = sym a ∙ b in cc
  fault_once row p q (pointer_fault a) (pointer_fault b) = lowest_only a b
  fault_once row p q (name_fault a) (name_fault b) = lowest_only a b
  fault_once row p q (loop_fault x a) (loop_fault y b) = refl
  fault_once row p q (list_fault a) (list_fault b) = refl
  fault_once row p q (address_fault a) (address_fault b) = ap (λ (i : ℕ). i + 1) (lowest_only a b)
  fault_once row p q (clash_fault c) (clash_fault d) =
      ap (λ (i : ℕ). i + 1) (neither_below (λ l. clash_before l c.clash d.no_clash_before) (λ l. clash_before l d.clash c.no_clash_before))
  fault_once row p q (cycle_fault c) (cycle_fault d) =
      ap (λ (i : ℕ). i + 1) (neither_below (λ l. cycle_before l c.cycle d.no_cycle_before) (λ l. cycle_before l d.cycle c.no_cycle_before))

  -- "10 and 11 go by the lower k and cannot share one": only one of the two applies to a job.
  pub clash_or_cycle : {p q : ℕ} → Fault job CLASH p → Fault job CYCLE q → ⊥
  clash_or_cycle (clash_fault {i = i} c) (cycle_fault {i = j} d) = go (dec_le (i + 1) (j + 1))
    where
      go : Dec (i + 1 ≤ j + 1) → ⊥
      go (yes h) = clash_before {i = i} {j = j + 1} (omega (arith, h)) c.clash d.no_clash
      go (no h) = cycle_before {i = j} {j = i} (omega (arith, h)) d.cycle c.no_cycle_before

module _ (t : List ℕ) (c w : ℕ) where
  off_list : (list other : List ℕ) (row : Row) (p : ℕ) → leb (number row) 7 ≡ true → Fault (sent t list c w) row p → Fault (sent t other c w) row p
  unfolding number
  off_list list other row p h (size_fault x) = size_fault x
  off_list list other row p h (room_fault x) = room_fault x
  off_list list other row p h (word_fault x) = word_fault x
  off_list list other row p h (layout_fault x) = layout_fault x
  off_list list other row p h (pointer_fault x) = pointer_fault x
  off_list list other row p h (name_fault x) = name_fault x
  off_list list other row p h (loop_fault x s) = loop_fault x s
  off_list list other row p h (list_fault x) = never (cc)
  off_list list other row p h (address_fault x) = never (cc)
  off_list list other row p h (clash_fault x) = never (cc)
  off_list list other row p h (cycle_fault x) = never (cc)

  module _ (list other : List ℕ) where
    pub check_off_list : (a p : ℕ) → Answered number (Fault (sent t list c w)) check_order a p → Answered number (Fault (sent t other c w)) check_order a p
    unfolding number
    check_off_list a p =
        carried number (Fault (sent t list c w)) number (Fault (sent t other c w)) (λ row. row) (λ row. leb (number row) 7) (λ row. refl) (off_list list other) (off_list other list) check_order a p refl

    pub none_off_list : NoneOf (Fault (sent t other c w)) check_order → NoneOf (Fault (sent t list c w)) check_order
    unfolding number
    none_off_list =
        none_carried number (Fault (sent t list c w)) number (Fault (sent t other c w)) (λ row. row) (λ row. leb (number row) 7) (λ row. refl) (off_list list other) (off_list other list) check_order refl
