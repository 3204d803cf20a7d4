-- What a join answers, from what its pairs came to. Assumes nothing.
use mathlib.Core.Path.{◌≡◌, ap, ◌∙◌, subst}
use mathlib.Core.Logic.{⊎_elim}
use mathlib.Core.List.Memᴰ
use mathlib.Core.List.{List, ◌++◌}
use Prim.Native.Nat.{ℕ, ◌*◌}
use lib.ListN.{length, take, replicate}
use lib.Seq.{take-length}
use Rattle.std.specs.Prelude.{Result, Ok, Err}
use Rattle.words.specs.declared.numbers.PairNumber.{PairNumber}
use Rattle.rows.specs.Placed.{zeroed}
use Rattle.graphs.specs.Partition.{Pair, pairs_of, Sides, Clash, ClassTable}
use Rattle.graphs.proofs.Classes.{never}
use Rattle.table.specs.Table.{graph_of}
use Rattle.classes.specs.Steps.Forest.{Forest, Flattened}
use Rattle.classes.specs.Steps.Meeting.{State}
use Rattle.classes.specs.Steps.Lists.{Holding, EachJoined, each_joined, one_clashes}
use Rattle.classes.specs.Joining.{Joinable, CanJoin, JoinOf}
use Rattle.classes.proofs.ClassTables.{flat_class_table, class_table_start}

module _ {t list class work : List ℕ} where
  starting : {earlier : List Pair} → Joinable t earlier list class (length work) → State t class work 0 × Holding t earlier class work
  starting j =
      let s : _ = class_table_start class work j.passed j.earlier_sides j.class_room j.class_table j.no_clash j.work_enough in
      (s.0, record { within = s.1; complete = s.2 })

  pub starting_state : CanJoin t list class (length work) → State t class work 0
  starting_state (earlier, j) = (starting j).0

  pub clash_joined : {class_each work_each class_after work_after : List ℕ} {answer : Result (Unit {0}) PairNumber} {k : PairNumber} → EachJoined t list class work class_each work_each answer
      → answer ≡ Err k → class_after ≡ zeroed (length t) class_each → work_after ≡ zeroed (2 * length t) work_each → JoinOf t list class work answer class_after work_after
  clash_joined (each_joined b) q e w = never (cc)
  clash_joined (one_clashes {i = i} n c) q e w =
      record {
        outcome = λ earlier j.
            record {
              place = i;
              numbers = n;
              inside = c.inside;
              clash = c.clash earlier (starting j).1;
              none_before = c.none_before earlier j.earlier_sides (starting j).1;
              cleared = e ∙ ap (λ (rest : List ℕ). replicate (length t) 0 ++ rest) c.kept.row_behind;
            };
        cleared = w ∙ ap (λ (rest : List ℕ). replicate (2 * length t) 0 ++ rest) c.kept.work_behind;
      }

  pub all_joined_flat : {class_each work_each class_after work_after : List ℕ} {answer : Result (Unit {0}) PairNumber} {done : Unit {0}} → EachJoined t list class work class_each work_each answer
      → answer ≡ Ok done → Flattened t class_each class_after → work_after ≡ zeroed (2 * length t) work_each → JoinOf t list class work answer class_after work_after
  all_joined_flat (one_clashes n c) q flat w = never (cc)
  all_joined_flat {class_each} {work_each} {class_after} (each_joined b) q flat w =
      record {
        outcome = λ earlier j.
            let held : Holding t (earlier ++ pairs_of list) class_each work_each = subst (λ (p : List Pair). Holding t (earlier ++ p) class_each work_each) (take-length (pairs_of list)) (b.holding earlier (starting j).1) in
            let both : Sides (graph_of t) (earlier ++ pairs_of list) = (λ p m. ⊎_elim (j.earlier_sides p) (j.sides p) (Memᴰ.append_cases earlier m)) in
            let c : ClassTable (graph_of t) (earlier ++ pairs_of list) (take (length t) class_after) × (Clash (graph_of t) (earlier ++ pairs_of list) → ⊥) = flat_class_table j.passed both b.state held.within held.complete flat in
            record { class_table = c.0; no_clash = c.1; behind = flat.shorter.behind ∙ b.kept.row_behind };
        cleared = w ∙ ap (λ (rest : List ℕ). replicate (2 * length t) 0 ++ rest) b.kept.work_behind;
      }

pub flattens : {t list class work class_each work_each : List ℕ} {answer : Result (Unit {0}) PairNumber} {done : Unit {0}} → EachJoined t list class work class_each work_each answer
    → answer ≡ Ok done → Forest t class_each
flattens (each_joined b) q = b.state.forest
flattens (one_clashes n c) q = never (cc)
