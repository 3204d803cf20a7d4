-- The host call is the match of the job that it names.
--
-- In order: an accepted call passes all checks (`accepted_host_passes`); the rows that the host call passes over (`late`); its job passes the checks of a match (`passes_match`); the answer
-- of that match (`told`); the host call as a match on buffers of n and of 4n zeros (`as_match`); the demands on that
-- match, of the host call. Assumes nothing.
use mathlib.Core.Path.{◌≡◌, refl, sym, ap, ap₂, ◌∙◌, subst}
use mathlib.Core.Bool.{false}
use mathlib.Core.Logic.{◌⊎◌, inl, inr, ⊎_elim, ◌↔◌}
use mathlib.Core.List.{List, ◌++◌, append-nil, map}
use Prim.Native.Nat.{ℕ, ◌*◌}
use native.Mathlib.Omega.{arith}
use lib.ListN.{length, take, replicate, length-replicate, drop_of_length-le}
use lib.Seq.{take_all}
use Rattle.rows.specs.Placed.{zeroed}
use Rattle.answering.specs.Answers.{Answered}
use Rattle.answering.specs.Buffers.{changes_nothing, left}
use Rattle.answering.proofs.Orders.{passed_none, rest_answers, none_both, none_parts}
use Rattle.answering.proofs.BufferLaws.{left-zeroed}
use Rattle.graphs.specs.Graph.{variable, Node}
use Rattle.graphs.specs.Partition.{pairs_of, Same, Smallest, entry, ClassTable, OneEntry}
use Rattle.graphs.specs.Term.{WellCounted, Replacement, ◌then◌, Unifies, FollowsRule, answer}
use Rattle.graphs.proofs.Theorems.{class_table_classes, class_table_smallest, answer_counted}
use Rattle.table.specs.Table.{TableSymbols, graph_of}
use Rattle.table.specs.Faults.{Job, sent, Fault, number as match_number, size_rows, table_rows, list_rows, pair_rows, match_order}
use Rattle.std.specs.Prelude.{Ok, Err}
use Rattle.matcher.specs.declared.answer.Refusal.TheVariants.{Clash as ClashAt, Cycle as CycleAt}
use Rattle.matcher.specs.Match.{Matched, number_of, place_of, joins_of, MatchOf, Passes, job_of as lent_job}
use Rattle.matcher.specs.Demands.{Met, MetCounted, FirstUnmet}
use Rattle.matcher.specs.Steps.PassedAll.{PassedAll}
use Rattle.matcher.proofs.Verdicts.{ready, behind_nine}
use Rattle.matcher.proofs.Demands.{accepted_exactly, accepted_exactly_counted, answer_makes_equal, answer_rule, answer_rule_only, answer_most_general_of_list, refused_at_first}
use Rattle.jobfile.specs.File.{body_in}
use Rattle.jobfile.specs.Faults.{file_number, read_order}
use Rattle.jobfile.proofs.NumberLaws.{length-row_in}
use Rattle.jobfile.specs.Jobs.{entry_of, words_of, table_of, list_of}
use Rattle.host.specs.Host.{called_job, of_file, of_match, host_number, HostFault, size_fault, call_rows, early_order, host_order, HostOf}
use Rattle.host.proofs.ChoiceLaws.{to_match, none_of_match}
use Rattle.host.proofs.JobLaws.{sizes_pass}
use Rattle.demands.specs.HostPasses.{HostPasses}

-- What is accepted passes all checks.
pub accepted_host_passes : {bytes : List ℕ} {job : ℕ} {room : List ℕ} {a : ℕ} {after : List ℕ} → HostOf bytes job room a after → a ≡ 0 → HostPasses bytes job room
unfolding host_number file_number match_number
accepted_host_passes {bytes} {job} {room} {a} h z =
    (none_parts (HostFault bytes job room) (early_order ++ map of_match (table_rows ++ list_rows)) (map of_match pair_rows)
    (passed_none host_number (HostFault bytes job room) host_order a h.place refl z h.answered).0).0

module _ {bytes : List ℕ} {job : ℕ} {room : List ℕ} (passes : HostPasses bytes job room) where
  abbrev table : List ℕ
  table = table_of bytes job

  -- ---- the rows that the host call passes over

  pub late : (a p : ℕ) → Answered host_number (HostFault bytes job room) host_order a p → Answered match_number (Fault (called_job bytes job)) pair_rows a p
  late a p x =
      to_match bytes job room pair_rows a p refl
      (rest_answers host_number (HostFault bytes job room) (early_order ++ map of_match (table_rows ++ list_rows)) (map of_match pair_rows) a p passes x)

  -- ---- its job passes the checks of a match

  pub passes_match : Passes (called_job bytes job)
  passes_match =
      let parts = none_parts (HostFault bytes job room) early_order (map of_match (table_rows ++ list_rows)) passes in
      let call = (none_parts (HostFault bytes job room) (map of_file read_order) call_rows parts.0).1 in
      none_both (Fault (called_job bytes job)) size_rows (table_rows ++ list_rows) (sizes_pass bytes job (λ x. call.1.0 0 (size_fault x))) (none_of_match bytes job room (table_rows ++ list_rows) refl parts.1)

  -- ---- the answer of that match

  -- the answer of a match with these numbers
  pub record Told (a p j : ℕ) : Type 0 where
    pub r : Matched
    pub number_is : number_of r ≡ a
    pub place_is : place_of r ≡ p
    pub joins_is : joins_of r ≡ j
    late_is : changes_nothing (number_of r) ≡ false
    answered : Answered match_number (Fault (called_job bytes job)) match_order a p

  told : {a p j : ℕ} → ((a ≡ 0 → ⊥) → j ≡ 0) → Answered match_number (Fault (called_job bytes job)) pair_rows a p → Told a p j
  unfolding match_number changes_nothing
  told {a} {p} {j} zero_joins (inl (e, f)) = record {
    r = Err (ClashAt (record { 0 = p }));
    number_is = sym e;
    place_is = refl;
    joins_is = sym (zero_joins (λ z. omega arith));
    late_is = refl;
    answered = behind_nine passes_match a p (inl (e, f));
  }
  told {a} {p} {j} zero_joins (inr (no_clash, inl (e, f))) = record {
    r = Err (CycleAt (record { 0 = p }));
    number_is = sym e;
    place_is = refl;
    joins_is = sym (zero_joins (λ z. omega arith));
    late_is = refl;
    answered = behind_nine passes_match a p (inr (no_clash, inl (e, f)));
  }
  told {a} {p} {j} zero_joins (inr (no_clash, inr (no_cycle, (z, e)))) = record {
    r = Ok (record { joins = j });
    number_is = sym z;
    place_is = sym e;
    joins_is = refl;
    late_is = refl;
    answered = behind_nine passes_match a p (inr (no_clash, inr (no_cycle, (z, e))));
  }

  -- ---- the host call as a match

  abbrev class : List ℕ
  class = replicate (words_of bytes job) 0

  abbrev work : List ℕ
  work = replicate (4 * words_of bytes job) 0

  pub table_long : length table ≡ words_of bytes job
  table_long = length-row_in 4 (words_of bytes job) (body_in bytes (entry_of job))

  same_job : lent_job table (list_of bytes job) class work ≡ called_job bytes job
  same_job = ap₂ (sent table (list_of bytes job)) (length-replicate {A = ℕ} (words_of bytes job) 0) (length-replicate {A = ℕ} (4 * words_of bytes job) 0)

  module _ {a : ℕ} {after : List ℕ} (h : HostOf bytes job room a after) where
    pub as_told : Told a h.place h.joined
    as_told = told (λ refused. (h.refused refused).0) (late a h.place h.answered)

    abbrev matched : Matched
    matched = as_told.r

    left_zero : (n m : ℕ) → n ≡ m → left (number_of matched) n (replicate m 0) ≡ replicate m 0
    left_zero n m e =
        left-zeroed (number_of matched) n (replicate m 0) as_told.late_is
        ∙ ap (λ (k : ℕ). zeroed k (replicate m 0)) e
        ∙ ap (λ (l : List ℕ). replicate m 0 ++ l) (drop_of_length-le (replicate m 0) {i = m} (omega (arith, length-replicate {A = ℕ} m 0)))
        ∙ append-nil (replicate m 0)

    pub as_match : MatchOf table (list_of bytes job) class work matched h.classes work
    as_match = record {
      answered =
          subst (λ (j : Job). Answered match_number (Fault j) match_order (number_of matched) (place_of matched)) (sym same_job)
          (subst (λ (n : ℕ). Answered match_number (Fault (called_job bytes job)) match_order n (place_of matched)) (sym as_told.number_is)
          (subst (λ (p : ℕ). Answered match_number (Fault (called_job bytes job)) match_order a p) (sym as_told.place_is) as_told.answered));
      bound = λ z. let b = h.bound (sym as_told.number_is ∙ z) in record {
        table = h.classes;
        class_table = b.class_table;
        row = sym (ap (λ (l : List ℕ). h.classes ++ l) (drop_of_length-le class {i = length table} (omega (arith, table_long, length-replicate {A = ℕ} (words_of bytes job) 0))) ∙ append-nil h.classes);
        joins_counted = as_told.joins_is ∙ b.joins_counted;
      };
      refused = λ z. (h.refused (λ e. z (as_told.number_is ∙ e))).1 ∙ sym (left_zero (length table) (words_of bytes job) table_long);
      work_left = sym (left_zero (4 * length table) (4 * words_of bytes job) (ap (λ (n : ℕ). 4 * n) table_long));
    }

    pub called_passes : Passes (lent_job table (list_of bytes job) class work)
    called_passes = subst (λ (j : Job). Passes j) (sym same_job) passes_match

    -- ---- the demands on that match, of the host call

    accepted : a ≡ 0 → number_of matched ≡ 0
    accepted z = as_told.number_is ∙ z

    pub host_accepted_exactly : (a ≡ 0) ↔ Met (graph_of table) (pairs_of (list_of bytes job))
    host_accepted_exactly = (
      λ z. (accepted_exactly as_match called_passes).0 (accepted z),
      λ met. sym as_told.number_is ∙ (accepted_exactly as_match called_passes).1 met,
    )

    pub host_accepted_exactly_counted : (a ≡ 0) ↔ MetCounted (graph_of table) (pairs_of (list_of bytes job))
    host_accepted_exactly_counted = (
      λ z. (accepted_exactly_counted as_match called_passes).0 (accepted z),
      λ met. sym as_told.number_is ∙ (accepted_exactly_counted as_match called_passes).1 met,
    )

    pub host_refused_at_first : (k : ℕ) → (((a ≡ 10) ⊎ (a ≡ 11)) × (h.place ≡ k)) ↔ FirstUnmet (graph_of table) (pairs_of (list_of bytes job)) k
    host_refused_at_first k = (
      λ x. (refused_at_first as_match called_passes k).0 (⊎_elim (λ e. inl (as_told.number_is ∙ e)) (λ e. inr (as_told.number_is ∙ e)) x.0, as_told.place_is ∙ x.1),
      λ f. let x = (refused_at_first as_match called_passes k).1 f in
          (⊎_elim (λ e. inl (sym as_told.number_is ∙ e)) (λ e. inr (sym as_told.number_is ∙ e)) x.0, sym as_told.place_is ∙ x.1),
    )

    -- ---- of the class table and its answer

    has : PassedAll (lent_job table (list_of bytes job) class work)
    has = ready called_passes

    module _ (z : a ≡ 0) where
      class_table : ClassTable (graph_of table) (pairs_of (list_of bytes job)) h.classes
      class_table = (h.bound z).class_table

      pub host_smallest : Smallest (graph_of table) (pairs_of (list_of bytes job)) (OneEntry (graph_of table) h.classes)
      host_smallest = class_table_smallest has.passed.well_formed has.sides class_table

      pub host_classes : {x y : ℕ} → Node (graph_of table) x → Node (graph_of table) y
          → Same (graph_of table) (pairs_of (list_of bytes job)) x y ↔ (entry h.classes x ≡ entry h.classes y)
      host_classes = class_table_classes has.passed.well_formed has.sides class_table

      all_classes : take (length table) h.classes ≡ h.classes
      all_classes = take_all (length table) h.classes (omega (arith, class_table.long))

      -- what holds of the entries in front holds of the entries, which are all
      of_all : (P : List ℕ → Type 0) → P (take (length table) h.classes) → P h.classes
      of_all P = subst P all_classes

      pub host_answer_makes_equal : Unifies (graph_of table) (pairs_of (list_of bytes job)) (answer (graph_of table) h.classes)
      host_answer_makes_equal = of_all (λ l. Unifies (graph_of table) (pairs_of (list_of bytes job)) (answer (graph_of table) l)) (answer_makes_equal as_match called_passes (accepted z))

      pub host_answer_well_counted : (x : ℕ) → WellCounted (answer (graph_of table) h.classes x)
      host_answer_well_counted = answer_counted has.passed.well_formed h.classes

      pub host_answer_rule : FollowsRule (graph_of table) (pairs_of (list_of bytes job)) h.classes (answer (graph_of table) h.classes)
      host_answer_rule = of_all (λ l. FollowsRule (graph_of table) (pairs_of (list_of bytes job)) l (answer (graph_of table) l)) (answer_rule as_match called_passes (accepted z))

      pub host_answer_rule_only : (σ : Replacement TableSymbols) → FollowsRule (graph_of table) (pairs_of (list_of bytes job)) h.classes σ
          → (x : ℕ) → (graph_of table).head x ≡ variable → σ x ≡ answer (graph_of table) h.classes x
      host_answer_rule_only σ follows x v =
          of_all (λ l. FollowsRule (graph_of table) (pairs_of (list_of bytes job)) l σ → σ x ≡ answer (graph_of table) l x)
          (λ f. answer_rule_only as_match called_passes (accepted z) σ f x v)
          follows

      pub host_answer_most_general : (θ : Replacement TableSymbols) → Unifies (graph_of table) (pairs_of (list_of bytes job)) θ
          → (x : ℕ) → (graph_of table).head x ≡ variable → (answer (graph_of table) h.classes then θ) x ≡ θ x
      host_answer_most_general θ unifies x v =
          of_all (λ l. (answer (graph_of table) l then θ) x ≡ θ x) (answer_most_general_of_list as_match called_passes (accepted z) θ unifies x v)
