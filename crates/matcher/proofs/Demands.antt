-- The second and the third demand, of tables and lists: for a table, list and buffers that pass all checks, what the answer of a
-- match and its class table are.
--
-- In order: the class table; the answer 0 and unifiers; the answer as a replacement; refusals and their place.
--
-- `m` says that the answer and the buffers are what a match gives, `passes` that none of the rows 1 to 9 applies.
-- Assumes nothing.
use mathlib.Core.Path.{◌≡◌, refl, sym, ap, ◌∙◌, subst}
use mathlib.Core.Logic.{◌⊎◌, inl, inr, ⊎_elim, ◌↔◌}
use mathlib.Core.List.{List, ◌++◌}
use Prim.Native.Nat.{ℕ, zero, suc, ◌+◌, ◌-◌, ◌≤◌, ◌<◌}
use native.Mathlib.Omega.{arith}
use lib.ListN.{length, take, drop}
use lib.Seq.{take_at, take_all}
use Rattle.answering.specs.Answers.{Answered, NoneOf}
use Rattle.answering.proofs.LowestLaws.{neither_below}
use Rattle.answering.proofs.Orders.{answered_only, passed_none, none_parts, rest_answers}
use Rattle.graphs.specs.Graph.{Symbols, Graph, variable, Node, WellFormed}
use Rattle.graphs.specs.Partition.{Pair, pairs_of, ◌∈◌, Sides, Same, Smallest, Clash, Cycle, entry, ClassTable, OneEntry, joins}
use Rattle.graphs.specs.Term.{WellCounted, Replacement, ◌then◌, Unifies, FollowsRule, answer}
use Rattle.graphs.proofs.Theorems.{unifier_no_clash, unifier_no_cycle, no_pairs_no_clash, no_pairs_no_cycle, answer_unifies, answer_most_general, answer_follows_rule, answer_only, answer_counted, class_table_classes, class_table_smallest, first_pairs_grow, class_table_or_clash}
use Rattle.table.specs.Table.{TableSymbols, graph_of}
use Rattle.table.specs.Faults.{Job, FirstClash, FirstCycle, number, Fault, clash_fault, cycle_fault, check_order, list_rows, pair_rows, match_order}
use Rattle.table.proofs.OneAnswer.{fault_once}
use Rattle.matcher.specs.Match.{Matched, number_of, place_of, joins_of, AcceptedWith, job_of, MatchOf, Passes}
use Rattle.matcher.specs.Demands.{Met, MetCounted, FirstUnmet}
use Rattle.matcher.specs.Steps.PassedAll.{PassedAll}
use Rattle.matcher.proofs.Verdicts.{ready, list_so_far, accepted_answered, clash_answered, cycle_answered}

-- ---- lists that can be met

module _ {S : Symbols} (G : Graph S) where
  fewer_met : {few many : List Pair} → ((p : Pair) → p ∈ few → p ∈ many) → Met G many → Met G few
  fewer_met sub (θ, unifies) = (θ, λ p m. unifies p (sub p m))

  sooner_met : (pairs : List Pair) (j k : ℕ) → j ≤ k → Met G (take k pairs) → Met G (take j pairs)
  sooner_met pairs j k h = fewer_met (first_pairs_grow j k pairs h)

  -- A list with neither clash nor cycle can be met: it has a class table, and its answer makes every pair equal.
  faultless_met : {pairs : List Pair} → WellFormed G → Sides G pairs → (Clash G pairs → ⊥) → (Cycle G pairs → ⊥) → Met G pairs
  faultless_met {pairs} wf sides no_clash no_cycle =
      ⊎_elim (λ c. (answer G c.0, answer_unifies wf sides c.1 no_clash no_cycle)) (λ c. absurd (no_clash c)) (class_table_or_clash wf sides)

  first_unmet_only : {pairs : List Pair} {j k : ℕ} → FirstUnmet G pairs j → FirstUnmet G pairs k → j ≡ k
  first_unmet_only {pairs} {j} {k} f g =
      neither_below (λ h. f.unmet (sooner_met pairs j (k - 1) (omega arith) g.met_before)) (λ h. g.unmet (sooner_met pairs k (j - 1) (omega arith) f.met_before))

-- ---- what the rows 10 and 11 say

module _ {job : Job} where
  clash_told : (a p : ℕ) → a ≡ 10 → Answered number (Fault job) pair_rows a p → (i : ℕ) × (p ≡ i + 1) × FirstClash (graph_of job.table) (pairs_of job.list) i
  unfolding number
  clash_told a p ten (inl (e, clash_fault {i} f)) = (i, refl, f)
  clash_told a p ten (inr (no_clash, inl (e, f))) = absurd (omega arith)
  clash_told a p ten (inr (no_clash, inr (no_cycle, (z, e)))) = absurd (omega arith)

  cycle_told : (a p : ℕ) → a ≡ 11 → Answered number (Fault job) pair_rows a p → (i : ℕ) × (p ≡ i + 1) × FirstCycle (graph_of job.table) (pairs_of job.list) i
  unfolding number
  cycle_told a p eleven (inl (e, f)) = absurd (omega arith)
  cycle_told a p eleven (inr (no_clash, inl (e, cycle_fault {i} f))) = (i, refl, f)
  cycle_told a p eleven (inr (no_clash, inr (no_cycle, (z, e)))) = absurd (omega arith)

  which : (a p : ℕ) → Answered number (Fault job) pair_rows a p → (a ≡ 0) ⊎ ((a ≡ 10) ⊎ (a ≡ 11))
  unfolding number
  which a p (inl (e, f)) = inr (inl e)
  which a p (inr (no_clash, inl (e, f))) = inr (inr e)
  which a p (inr (no_clash, inr (no_cycle, (z, e)))) = inl z

-- What is accepted passes all checks.
pub accepted_passes : {t list class work : List ℕ} {r : Matched} {class_after work_after : List ℕ} → MatchOf t list class work r class_after work_after
    → number_of r ≡ 0 → Passes (job_of t list class work)
unfolding number
accepted_passes {t} {list} {class} {work} {r} m z =
    (none_parts (Fault (job_of t list class work)) (check_order ++ list_rows) pair_rows
    (passed_none number (Fault (job_of t list class work)) match_order (number_of r) (place_of r) refl z m.answered).0).0

module _ {t list class work : List ℕ} {r : Matched} {class_after work_after : List ℕ} (m : MatchOf t list class work r class_after work_after) (passes : Passes (job_of t list class work)) where
  has : PassedAll (job_of t list class work)
  has = ready passes

  formed : WellFormed (graph_of t)
  formed = has.passed.well_formed

  sides_so_far : (k : ℕ) → Sides (graph_of t) (take k (pairs_of list))
  sides_so_far k p q = has.sides p (list_so_far passes k p q)

  -- where the rows 1 to 9 do not apply, 10 and 11 answer
  by_pairs : Answered number (Fault (job_of t list class work)) pair_rows (number_of r) (place_of r)
  by_pairs = rest_answers number (Fault (job_of t list class work)) (check_order ++ list_rows) pair_rows (number_of r) (place_of r) passes m.answered

  -- ---- the class table

  -- The entries in front are the table that the answer 0 promises.
  front_is : (b : AcceptedWith t list class class_after (joins_of r)) → take (length t) class_after ≡ b.table
  front_is b = ap (take (length t)) b.row ∙ take_at b.table (drop (length t) class) (length t) b.class_table.long

  -- If the answer is 0, the class entries in use are the class table of the list: a node's entry is its class's name.
  pub accepted_class_table : number_of r ≡ 0 → ClassTable (graph_of t) (pairs_of list) (take (length t) class_after)
  accepted_class_table z = subst (ClassTable (graph_of t) (pairs_of list)) (sym (front_is (m.bound z))) (m.bound z).class_table

  -- In it nodes are together exactly where they have one entry.
  pub accepted_classes : number_of r ≡ 0 → {x y : ℕ} → Node (graph_of t) x → Node (graph_of t) y
      → Same (graph_of t) (pairs_of list) x y ↔ (entry (take (length t) class_after) x ≡ entry (take (length t) class_after) y)
  accepted_classes z = class_table_classes formed has.sides (accepted_class_table z)

  -- To have one entry in it is the smallest equivalence that joins the pairs and the children that must follow.
  pub accepted_smallest : number_of r ≡ 0 → Smallest (graph_of t) (pairs_of list) (OneEntry (graph_of t) (take (length t) class_after))
  accepted_smallest z = class_table_smallest formed has.sides (accepted_class_table z)

  -- The joins are the number of nodes less the number of classes.
  pub accepted_joins : number_of r ≡ 0 → joins_of r ≡ joins (graph_of t) (take (length t) class_after)
  accepted_joins z = (m.bound z).joins_counted ∙ ap (joins (graph_of t)) (sym (front_is (m.bound z)))

  -- ---- the answer 0 and unifiers

  -- If the answer is 0, no part of the list has a clash or a cycle.
  faultless_so_far : number_of r ≡ 0 → (k : ℕ) → k ≤ length (pairs_of list) → (Clash (graph_of t) (take k (pairs_of list)) → ⊥) × (Cycle (graph_of t) (take k (pairs_of list)) → ⊥)
  unfolding number
  faultless_so_far z zero h = (no_pairs_no_clash formed, no_pairs_no_cycle formed)
  faultless_so_far z (suc k) h =
      subst (λ (n : ℕ). (Clash (graph_of t) (take n (pairs_of list)) → ⊥) × (Cycle (graph_of t) (take n (pairs_of list)) → ⊥)) (let e : k + 1 ≡ suc k = omega arith in e)
      (one_more (faultless_so_far z k (omega arith)))
    where
      neither : NoneOf (Fault (job_of t list class work)) pair_rows
      neither = (passed_none number (Fault (job_of t list class work)) pair_rows (number_of r) (place_of r) refl z by_pairs).0

      one_more : (Clash (graph_of t) (take k (pairs_of list)) → ⊥) × (Cycle (graph_of t) (take k (pairs_of list)) → ⊥)
          → (Clash (graph_of t) (take (k + 1) (pairs_of list)) → ⊥) × (Cycle (graph_of t) (take (k + 1) (pairs_of list)) → ⊥)
      one_more (no_clash, no_cycle) =
          let clash : Clash (graph_of t) (take (k + 1) (pairs_of list)) → ⊥ =
          λ c. neither.0 (k + 1) (clash_fault (record { within = omega arith; clash = c; no_clash_before = no_clash; no_cycle_before = no_cycle })) in (
            clash,
            λ c. neither.1.0 (k + 1) (cycle_fault (record { within = omega arith; cycle = c; no_clash = clash; no_clash_before = no_clash; no_cycle_before = no_cycle })),
          )

  faultless : number_of r ≡ 0 → (Clash (graph_of t) (pairs_of list) → ⊥) × (Cycle (graph_of t) (pairs_of list) → ⊥)
  faultless z =
      subst (λ (ps : List Pair). (Clash (graph_of t) ps → ⊥) × (Cycle (graph_of t) ps → ⊥)) (take_all (length (pairs_of list)) (pairs_of list) (omega arith))
      (faultless_so_far z (length (pairs_of list)) (omega arith))

  -- two answers at once
  answered_as : (a p : ℕ) → Answered number (Fault (job_of t list class work)) match_order a p → (number_of r ≡ a) × (place_of r ≡ p)
  answered_as a p = answered_only number (Fault (job_of t list class work)) (fault_once (job_of t list class work)) match_order (number_of r) (place_of r) a p m.answered

  -- If the answer is 0, the answer as a replacement makes both sides of every pair equal.
  pub answer_makes_equal : number_of r ≡ 0 → Unifies (graph_of t) (pairs_of list) (answer (graph_of t) (take (length t) class_after))
  answer_makes_equal z = answer_unifies formed has.sides (accepted_class_table z) (faultless z).0 (faultless z).1

  -- The answer is 0 exactly where some replacement makes both sides of every pair equal.
  pub accepted_exactly : (number_of r ≡ 0) ↔ Met (graph_of t) (pairs_of list)
  accepted_exactly = (
    λ z. (answer (graph_of t) (take (length t) class_after), answer_makes_equal z),
    λ met. (answered_as 0 0 (accepted_answered passes (unifier_no_clash formed met.0 met.1) (unifier_no_cycle formed met.0 met.1))).0,
  )

  -- The terms of the answer have as many arguments as their symbols count, so it makes no difference whether a replacement by
  -- other terms is allowed.
  pub answer_well_counted : (x : ℕ) → WellCounted (answer (graph_of t) (take (length t) class_after) x)
  answer_well_counted = answer_counted formed (take (length t) class_after)

  pub accepted_exactly_counted : (number_of r ≡ 0) ↔ MetCounted (graph_of t) (pairs_of list)
  accepted_exactly_counted = (
    λ z. (answer (graph_of t) (take (length t) class_after), answer_well_counted, answer_makes_equal z),
    λ met. accepted_exactly.1 (met.0, met.2),
  )

  -- ---- the answer as a replacement

  -- For every replacement that makes the pairs equal, doing the answer first and then that one gives every variable of the table
  -- the same term as that one alone.
  pub answer_most_general_of_list : number_of r ≡ 0 → (θ : Replacement TableSymbols) → Unifies (graph_of t) (pairs_of list) θ
      → (x : ℕ) → (graph_of t).head x ≡ variable → (answer (graph_of t) (take (length t) class_after) then θ) x ≡ θ x
  answer_most_general_of_list z = answer_most_general formed has.sides (accepted_class_table z) (faultless z).0 (faultless z).1

  -- A variable in a class of variables only goes to the variable that names it; any other goes to the term below its class's
  -- name, with each variable in that term replaced by its own answer.
  pub answer_rule : number_of r ≡ 0 → FollowsRule (graph_of t) (pairs_of list) (take (length t) class_after) (answer (graph_of t) (take (length t) class_after))
  answer_rule z = answer_follows_rule formed has.sides (accepted_class_table z) (faultless z).0 (faultless z).1

  -- No other replacement follows that rule, on the variables of the table.
  pub answer_rule_only : number_of r ≡ 0 → (σ : Replacement TableSymbols) → FollowsRule (graph_of t) (pairs_of list) (take (length t) class_after) σ
      → (x : ℕ) → (graph_of t).head x ≡ variable → σ x ≡ answer (graph_of t) (take (length t) class_after) x
  answer_rule_only z = answer_only formed has.sides (accepted_class_table z) (faultless z).0 (faultless z).1

  -- ---- refusals and their place

  -- The answer is 10 at i + 1 exactly where the first i + 1 pairs have a clash and the first i neither clash nor cycle.
  pub clash_exactly_at : (i : ℕ) → ((number_of r ≡ 10) × (place_of r ≡ i + 1)) ↔ FirstClash (graph_of t) (pairs_of list) i
  clash_exactly_at i = (
    λ (e, q).
        let shown : (j : ℕ) × (place_of r ≡ j + 1) × FirstClash (graph_of t) (pairs_of list) j = clash_told (number_of r) (place_of r) e by_pairs in
        subst (FirstClash (graph_of t) (pairs_of list)) (let a : place_of r ≡ shown.0 + 1 = shown.1 in omega arith) shown.2,
    λ f. answered_as 10 (i + 1) (clash_answered passes i f),
  )

  -- The answer is 11 at i + 1 exactly where the first i + 1 pairs have a cycle and no clash, and the first i neither.
  pub cycle_exactly_at : (i : ℕ) → ((number_of r ≡ 11) × (place_of r ≡ i + 1)) ↔ FirstCycle (graph_of t) (pairs_of list) i
  cycle_exactly_at i = (
    λ (e, q).
        let shown : (j : ℕ) × (place_of r ≡ j + 1) × FirstCycle (graph_of t) (pairs_of list) j = cycle_told (number_of r) (place_of r) e by_pairs in
        subst (FirstCycle (graph_of t) (pairs_of list)) (let a : place_of r ≡ shown.0 + 1 = shown.1 in omega arith) shown.2,
    λ f. answered_as 11 (i + 1) (cycle_answered passes i f),
  )

  unmet_at : {k : ℕ} (i : ℕ) → k ≡ i + 1 → i < length (pairs_of list) → (Met (graph_of t) (take (i + 1) (pairs_of list)) → ⊥)
      → (Clash (graph_of t) (take i (pairs_of list)) → ⊥) → (Cycle (graph_of t) (take i (pairs_of list)) → ⊥) → FirstUnmet (graph_of t) (pairs_of list) k
  unmet_at {k} i e h unmet no_clash no_cycle =
      record {
        from_1 = omega arith;
        within = omega arith;
        unmet = subst (λ (n : ℕ). Met (graph_of t) (take n (pairs_of list)) → ⊥) (sym e) unmet;
        met_before =
            subst (λ (n : ℕ). Met (graph_of t) (take n (pairs_of list))) (let q : i ≡ k - 1 = omega arith in q)
            (faultless_met (graph_of t) formed (sides_so_far i) no_clash no_cycle);
      }

  -- A refusal stands at the first pair where the list so far cannot be met.
  refused_unmet : (number_of r ≡ 10) ⊎ (number_of r ≡ 11) → FirstUnmet (graph_of t) (pairs_of list) (place_of r)
  refused_unmet (inl e) =
      let shown : (i : ℕ) × (place_of r ≡ i + 1) × FirstClash (graph_of t) (pairs_of list) i = clash_told (number_of r) (place_of r) e by_pairs in
      let f : FirstClash (graph_of t) (pairs_of list) shown.0 = shown.2 in
      unmet_at shown.0 shown.1 f.within (λ met. unifier_no_clash formed met.0 met.1 f.clash) f.no_clash_before f.no_cycle_before
  refused_unmet (inr e) =
      let shown : (i : ℕ) × (place_of r ≡ i + 1) × FirstCycle (graph_of t) (pairs_of list) i = cycle_told (number_of r) (place_of r) e by_pairs in
      let f : FirstCycle (graph_of t) (pairs_of list) shown.0 = shown.2 in
      unmet_at shown.0 shown.1 f.within (λ met. unifier_no_cycle formed met.0 met.1 f.cycle)
      f.no_clash_before
      f.no_cycle_before

  -- A list is refused at k exactly where k is the first pair at which the list so far cannot be met.
  pub refused_at_first : (k : ℕ) → (((number_of r ≡ 10) ⊎ (number_of r ≡ 11)) × (place_of r ≡ k)) ↔ FirstUnmet (graph_of t) (pairs_of list) k
  refused_at_first k = (λ h. subst (FirstUnmet (graph_of t) (pairs_of list)) h.1 (refused_unmet h.0), λ f. from f (which (number_of r) (place_of r) by_pairs))
    where
      from : FirstUnmet (graph_of t) (pairs_of list) k → (number_of r ≡ 0) ⊎ ((number_of r ≡ 10) ⊎ (number_of r ≡ 11)) → ((number_of r ≡ 10) ⊎ (number_of r ≡ 11)) × (place_of r ≡ k)
      from f (inl z) = absurd (f.unmet (fewer_met (graph_of t) (list_so_far passes k) (accepted_exactly.0 z)))
      from f (inr h) = (h, first_unmet_only (graph_of t) (refused_unmet h) f)
