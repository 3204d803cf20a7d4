-- The pairs of a list are joined one after the other.
--
-- In order: the pairs so far and one more; before the first (`begins`), with one more (`joins_on`), at a clash
-- (`clashes_here`), and when all are joined. Assumes nothing.
use mathlib.Core.Path.{◌≡◌, refl, sym, ◌∙◌, subst}
use mathlib.Core.Logic.{◌⊎◌, inl, inr, ⊎_elim}
use mathlib.Core.List.Memᴰ
use mathlib.Core.List.{List, [], ◌∷◌, ◌++◌, append-nil}
use Prim.Native.Nat.{ℕ, zero, suc, ◌+◌, ◌*◌, ◌≤◌, ◌<◌}
use native.Mathlib.Omega.{arith}
use lib.ListN.{length, get_or, set, take}
use lib.Seq.{take-length}
use Rattle.std.specs.Prelude.{true, false, Result, Ok, is_err}
use Rattle.graphs.specs.Graph.{Node}
use Rattle.graphs.specs.Partition.{Pair, pairs_of, ◌∈◌, Sides, Same, paired, Clash}
use Rattle.graphs.proofs.Classes.{same_grows, first_pairs_grow}
use Rattle.table.specs.Readable.{PassedCheck}
use Rattle.table.specs.Table.{graph_of}
use Rattle.table.specs.Faults.{pair_at}
use Rattle.table.proofs.Pairs.{pair_at_entries}
use Rattle.classes.specs.Steps.Forest.{Forest}
use Rattle.classes.specs.declared.meet.Clash.{Clash as ClashMet}
use Rattle.classes.specs.Steps.Meeting.{State, Within, Agrees, Complete, Settled}
use Rattle.classes.specs.Steps.Lists.{JoinsPair, resting, Holding, JoinedBefore, ClashesAt, EachJoined, each_joined}
use Rattle.classes.proofs.Links.{shorter_none, root_exists}
use Rattle.classes.proofs.Flat.{Flat, led_now, flat_none, flat_forest, flat_more, flat_all}
use Rattle.classes.proofs.Moves.{kept_none, kept_join, all_done, clash_done}
use Rattle.classes.proofs.ClassTables.{flat_class_table}

-- ---- the pairs so far and one more

-- the pair at place i is among the first i + 1,
pub one_more_in : (pairs : List Pair) (i : ℕ) → i < length pairs → pair_at pairs i ∈ take (i + 1) pairs
one_more_in [] i h = absurd (omega arith)
one_more_in (q ∷ pairs) zero h = Memᴰ.head refl
one_more_in (q ∷ pairs) (suc i) h =
    subst (λ (k : ℕ). pair_at (q ∷ pairs) (suc i) ∈ take k (q ∷ pairs)) (let e : suc (i + 1) ≡ suc i + 1 = omega arith in e) (Memᴰ.tail (one_more_in pairs i (omega arith)))

-- and the only one of them that is not among the first i
pub one_more_only : (pairs : List Pair) (i : ℕ) (p : Pair) → i < length pairs → p ∈ take (i + 1) pairs → (p ∈ take i pairs) ⊎ (p ≡ pair_at pairs i)
one_more_only [] i p h m = absurd (omega arith)
one_more_only (q ∷ pairs) zero p h m = inr (Memᴰ.eq_of_singleton m)
one_more_only (q ∷ pairs) (suc i) p h m =
    let n : p ∈ (q ∷ take (i + 1) pairs) = subst (λ (k : ℕ). p ∈ take k (q ∷ pairs)) (let e : suc i + 1 ≡ suc (i + 1) = omega arith in e) m in
    ⊎_elim (λ e. inl (Memᴰ.head e)) (λ r. ⊎_elim (λ l. inl (Memᴰ.tail l)) inr (one_more_only pairs i p (omega arith) r)) (Memᴰ.cases_cons n)

pub first_in_whole : (pairs : List Pair) (i : ℕ) (p : Pair) → i ≤ length pairs → p ∈ take i pairs → p ∈ pairs
first_in_whole pairs i p h m = subst (λ (l : List Pair). p ∈ l) (take-length pairs) (first_pairs_grow i (length pairs) pairs h p m)

module _ (earlier pairs : List Pair) (i : ℕ) (inside : i < length pairs) where
  pub still_in : (p : Pair) → p ∈ (earlier ++ take i pairs) → p ∈ (earlier ++ take (i + 1) pairs)
  still_in p m =
      ⊎_elim (λ a. Memᴰ.append_left (take (i + 1) pairs) a) (λ b. Memᴰ.append_right earlier (first_pairs_grow i (i + 1) pairs (omega arith) p b)) (Memᴰ.append_cases earlier m)

  new_in : pair_at pairs i ∈ (earlier ++ take (i + 1) pairs)
  new_in = Memᴰ.append_right earlier (one_more_in pairs i inside)

  new_only : (p : Pair) → p ∈ (earlier ++ take (i + 1) pairs) → (p ∈ (earlier ++ take i pairs)) ⊎ (p ≡ pair_at pairs i)
  new_only p m =
      ⊎_elim (λ a. inl (Memᴰ.append_left (take i pairs) a)) (λ b. ⊎_elim (λ c. inl (Memᴰ.append_right earlier c)) inr (one_more_only pairs i p inside b)) (Memᴰ.append_cases earlier m)

  -- the rows hold the pairs so far, and one more is to be joined
  module _ {t row work : List ℕ} (holds : Holding t (earlier ++ take i pairs) row work) where
    more_within : Within t (earlier ++ take (i + 1) pairs) (record { row = row; work = work; waiting = 0; owed = pair_at pairs i ∷ [] })
    more_within =
        record {
          links = λ x n. same_grows still_in (holds.within.links x n);
          waiting = λ k h. absurd (omega arith);
          owed = λ p m. subst (λ (r : Pair). Same (graph_of t) (earlier ++ take (i + 1) pairs) r.left r.right) (sym (Memᴰ.eq_of_singleton m)) (paired (pair_at pairs i) new_in);
        }

    rests : (q : ℕ → ℕ) → Agrees t (record { row = row; work = work; waiting = 0; owed = pair_at pairs i ∷ [] }) q → Agrees t (resting row work) q
    rests q a = record { links = a.links; waiting = λ k j h b. absurd (omega arith); owed = λ p m. absurd (Memᴰ.not-nil m) }

    more_complete : Complete t (earlier ++ take (i + 1) pairs) (record { row = row; work = work; waiting = 0; owed = pair_at pairs i ∷ [] })
    more_complete =
        record {
          pairs = λ q a p m.
              ⊎_elim (λ old. holds.complete.pairs q (rests q a) p old)
              (λ e. subst (λ (r : Pair). q r.left ≡ q r.right) (sym e) (a.owed (pair_at pairs i) (Memᴰ.head refl))) (new_only p m);
          children = λ q a. holds.complete.children q (rests q a);
        }

-- ---- a partition that is held has no clash

-- A forest can be made flat.
flat_to : {t row : List ℕ} → Forest t row → (k : ℕ) → k ≤ length t → (after : List ℕ) × Flat t row after k
flat_to {t} {row} forest zero h = (row, flat_none forest)
flat_to {t} {row} forest (suc k) h = go (flat_to forest k (omega arith))
  where
    go : (after : List ℕ) × Flat t row after k → (after : List ℕ) × Flat t row after (suc k)
    go (after, flat) =
        let r : _ = root_exists (flat_forest flat) k (omega arith) in (
          set after k r.0,
          subst (Flat t row (set after k r.0)) (let e : k + 1 ≡ suc k = omega arith in e)
              (flat_more flat (omega arith)
              (led_now (flat_forest flat) (omega arith) (record { inside = r.3; reached = r.1; own = r.2; shorter = shorter_none }))),
        )

pub holding_no_clash : {t row work : List ℕ} {pairs : List Pair} → PassedCheck t → Sides (graph_of t) pairs → State t row work 0 → Holding t pairs row work → Clash (graph_of t) pairs → ⊥
holding_no_clash {t} {row} checked sides state holds =
    let f : _ = flat_to state.forest (length t) (omega arith) in
    (flat_class_table checked sides state holds.within holds.complete (flat_all f.1 (omega arith))).1

-- ---- one after the other

pub begins : {t list row work : List ℕ} → State t row work 0 → JoinedBefore t list row work row work 0
begins {t} {list} {row} {work} state =
    record {
      inside = omega arith;
      state = state;
      kept = kept_none;
      holding = λ earlier h. subst (λ (p : List Pair). Holding t p row work) (sym (append-nil earlier)) h;
    }

module _ {t list row₀ work₀ row work : List ℕ} {i : ℕ} (so_far : JoinedBefore t list row₀ work₀ row work i) (inside : i < length (pairs_of list)) where
  -- the pair at place i has met, whatever its entries are called
  module _ {left right : ℕ} (el : left ≡ get_or list (2 * i) 0) (er : right ≡ get_or list (2 * i + 1) 0) {row_after work_after : List ℕ} {answer : Result (Unit {0}) ClashMet} (met : JoinsPair t row work left right row_after work_after answer) where
    here : Settled t (record { row = row; work = work; waiting = 0; owed = pair_at (pairs_of list) i ∷ [] }) row_after work_after [] answer
    here =
        subst (λ (p : Pair). Settled t (record { row = row; work = work; waiting = 0; owed = p ∷ [] }) row_after work_after [] answer)
        (let e : ◌≡◌ {A = Pair} (record { left = left; right = right }) (record { left = get_or list (2 * i) 0; right = get_or list (2 * i + 1) 0 }) = (λ j. record { left = el j; right = er j }) in e ∙ sym (pair_at_entries list i inside))
        (met [])

    pub joins_on : is_err answer ≡ false → JoinedBefore t list row₀ work₀ row_after work_after (i + 1)
    joins_on e =
        let m : _ = all_done here e in
        record {
          inside = omega arith;
          state = m.state;
          kept = kept_join so_far.kept (record { row_long = m.kept.row_long; work_long = m.kept.work_long; row_behind = m.kept.row_behind; work_behind = m.kept.work_behind });
          holding = λ earlier h.
              let g : Holding t (earlier ++ take i (pairs_of list)) row work = so_far.holding earlier h in
              record {
                within = m.within _ (more_within earlier (pairs_of list) i inside g);
                complete = m.complete _ (more_complete earlier (pairs_of list) i inside g);
              };
        }

    pub clashes_here : PassedCheck t → Sides (graph_of t) (pairs_of list) → is_err answer ≡ true → ClashesAt t list row₀ work₀ row_after work_after i
    clashes_here checked sides e =
        let s : _ = clash_done here e in
        record {
          inside = inside;
          kept = kept_join so_far.kept (record { row_long = s.kept.row_long; work_long = s.kept.work_long; row_behind = s.kept.row_behind; work_behind = s.kept.work_behind });
          clash = λ earlier h. s.clash _ (more_within earlier (pairs_of list) i inside (so_far.holding earlier h));
          none_before = λ earlier earlier_sides h.
              holding_no_clash checked (both_sides earlier earlier_sides) so_far.state (so_far.holding earlier h);
        }
      where
        both_sides : (earlier : List Pair) → Sides (graph_of t) earlier → Sides (graph_of t) (earlier ++ take i (pairs_of list))
        both_sides earlier earlier_sides p m =
            ⊎_elim (earlier_sides p) (λ b. sides p (first_in_whole (pairs_of list) i p (omega arith) b)) (Memᴰ.append_cases earlier m)

-- ---- the outcome

pub all_met : {t list row₀ work₀ row work : List ℕ} {i : ℕ} → JoinedBefore t list row₀ work₀ row work i → i ≡ length (pairs_of list) → EachJoined t list row₀ work₀ row work (Ok tt)
all_met {t} {list} {row₀} {work₀} {row} {work} j e = each_joined (subst (JoinedBefore t list row₀ work₀ row work) e j)

-- both sides of the pair at a place are nodes
pub side_nodes : (t list : List ℕ) → Sides (graph_of t) (pairs_of list) → (i : ℕ) → i < length (pairs_of list) → Node (graph_of t) (get_or list (2 * i) 0) × Node (graph_of t) (get_or list (2 * i + 1) 0)
side_nodes t list sides i h =
    subst (λ (p : Pair). Node (graph_of t) p.left × Node (graph_of t) p.right) (pair_at_entries list i h)
    (sides (pair_at (pairs_of list) i) (first_in_whole (pairs_of list) (i + 1) (pair_at (pairs_of list) i) (omega arith) (one_more_in (pairs_of list) i h)))
