-- The first cycle: what one search tells, and the search by halving; and the verdicts 0, 10 and 11.
--
-- In order: a search of the row (`row_tells`, `tells_cycle`); halves (`Halved`); the first failure (`cycle_fails`,
-- `joined_fails`); the verdicts (`refused_verdict`, `accepted_verdict`). Assumes nothing.
use mathlib.Core.Path.{◌≡◌, refl, sym, ap, ◌∙◌, subst}
use mathlib.Core.Bool.{Bool, true, false, ◌&&◌}
use mathlib.Core.List.{List, ◌++◌}
use Prim.Native.Nat.{ℕ, zero, suc, ◌+◌, ◌-◌, ◌*◌, ◌/◌, ◌≤◌, ◌<◌}
use native.Mathlib.Omega.{arith}
use lib.Dec.{eqb}
use lib.ListN.{length, take, replicate, take-append-drop}
use lib.Seq.{take-length, get_or-take}
use Rattle.std.specs.Prelude.{Result, Ok, Err, MatchResult, IsErrAnd}
use Rattle.std.proofs.lemmas.Result.{err_from_is_err_and}
use Rattle.words.specs.declared.numbers.PairNumber.{PairNumber}
use Rattle.rows.specs.Placed.{zeroed}
use Rattle.answering.specs.Answers.{Answered}
use Rattle.answering.specs.Buffers.{changes_nothing}
use Rattle.graphs.specs.Partition.{Pair, pairs_of, Clash, Cycle, ClassTable, is_node, nodes, classes, joins}
use Rattle.graphs.proofs.Theorems.{no_pairs_no_cycle}
use Rattle.graphs.proofs.Classes.{never, clash_grows, first_pairs_grow}
use Rattle.table.specs.Table.{graph_of}
use Rattle.table.specs.Faults.{FirstClash, FirstCycle, Fault, number, match_order}
use Rattle.cycles.specs.Digraph.{Searchable, Searched}
use Rattle.classes.specs.Counting.{NamesNodes}
use Rattle.classes.proofs.CountedJoins.{front_names_nodes}
use Rattle.classes.proofs.Counts.{count_same, own_node}
use Rattle.matcher.specs.declared.answer.Refusal.{Refusal}
use Rattle.matcher.specs.Match.{job_of, Passes}
use Rattle.matcher.specs.Steps.PassedAll.{Cycles}
use Rattle.matcher.specs.Steps.FirstFailure.{Standing, OnlyClassFront, Partitioned, JoinsFirst, UntilClash, Clashless, TellsCycle, CycleAt, Failed, none_fails, clash_first, cycle_first, FirstFailed, unclashed, ClashesAt, Verdict}
use Rattle.matcher.proofs.ListLaws.{half_entries}
use Rattle.matcher.proofs.CycleSearch.{class_searchable, search_tells}
use Rattle.matcher.proofs.Verdicts.{accepted_answered, clash_answered, cycle_answered}
use Rattle.matcher.proofs.FirstPairs.{lent_join, lent_none, standing_after, first_sides, all_partitioned}

-- ---- a search of the row

module _ {t list class work : List ℕ} {k : ℕ} (s : Standing t list class work) (inside : k ≤ length (pairs_of list)) (p : Partitioned t list class k) where
  -- what the search asks
  pub row_searchable : Searchable t class × (2 * length t ≤ length work)
  row_searchable = (
    class_searchable class s.ready.passed (first_sides s.ready.sides k inside) p.class_table s.ready.class_enough,
    omega (arith, s.ready.work_enough),
  )

  -- so the joins can be counted by the row alone
  pub row_names_nodes : NamesNodes (graph_of t) class
  row_names_nodes = front_names_nodes t class s.ready.passed.well_formed (first_sides s.ready.sides k inside) p.class_table

  module _ {found : Bool} {work_after : List ℕ} (searched : Searched t class work found work_after) where
    pub row_tells : Cycles found (graph_of t) (take k (pairs_of list))
    row_tells =
        search_tells class s.ready.passed (first_sides s.ready.sides k inside) p.class_table s.ready.class_enough
        p.no_clash found searched.truth

    pub row_lent : OnlyClassFront t class work class work_after
    row_lent = record { class_long = refl; class_behind = refl; work_same = searched.cleared ∙ s.clean }

-- what `has_cycle` does
pub tells_cycle : {t list class work class_mid work_mid work_after : List ℕ} {k : ℕ} {answer : Result (Unit {0}) PairNumber} {found : Bool} → Standing t list class_mid work_mid → Clashless t list k
    → JoinsFirst t list class work k answer class_mid work_mid → Searched t class_mid work_mid found work_after → TellsCycle t list class work k found class_mid work_after
tells_cycle s few j searched =
    let p : Partitioned _ _ _ _ = all_partitioned j.joined few.no_clash in
    record { lent = lent_join j.lent (row_lent s few.inside p searched); truth = row_tells s few.inside p searched }

pub fewer_clashless : {t list : List ℕ} {many : ℕ} (k : ℕ) → Clashless t list many → k ≤ many → Clashless t list k
fewer_clashless {t} {list} {many} k c h =
    record { inside = omega (arith, c.inside); no_clash = λ d. c.no_clash (clash_grows (first_pairs_grow k many (pairs_of list) h) d) }

-- ---- halves

-- The first `few` pairs have no cycle and the first `many` have one.
pub record Halved (t list class₀ work₀ : List ℕ) (all : ℕ) (class work : List ℕ) (few many : ℕ) : Type 0 where
  pub lent : OnlyClassFront t class₀ work₀ class work
  pub apart : few < many
  pub within : many ≤ all
  pub none_yet : Cycle (graph_of t) (take few (pairs_of list)) → ⊥
  pub cycle : Cycle (graph_of t) (take many (pairs_of list))

pub halved_start : {t list class work : List ℕ} (many : ℕ) → Standing t list class work → Cycle (graph_of t) (take many (pairs_of list)) → Halved t list class work many class work 0 many
halved_start {t} {list} zero s c = absurd (no_pairs_no_cycle s.ready.passed.well_formed c)
halved_start {t} {list} (suc many) s c =
    record { lent = lent_none; apart = omega arith; within = omega arith; none_yet = no_pairs_no_cycle s.ready.passed.well_formed; cycle = c }

module _ {t list class₀ work₀ class work class_after work_after : List ℕ} {all few many middle : ℕ} {found : Bool} (h : Halved t list class₀ work₀ all class work few many)
    (tells : TellsCycle t list class work middle found class_after work_after) (below : few < middle) (above : middle < many) where
  pub lower_half : found ≡ true → Halved t list class₀ work₀ all class_after work_after few middle
  lower_half e =
      record {
        lent = lent_join h.lent tells.lent;
        apart = below;
        within = omega (arith, h.within);
        none_yet = h.none_yet;
        cycle = subst (λ (b : Bool). Cycles b (graph_of t) (take middle (pairs_of list))) e tells.truth;
      }

  pub upper_half : found ≡ false → Halved t list class₀ work₀ all class_after work_after middle many
  upper_half e =
      record {
        lent = lent_join h.lent tells.lent;
        apart = above;
        within = h.within;
        none_yet = subst (λ (b : Bool). Cycles b (graph_of t) (take middle (pairs_of list))) e tells.truth;
        cycle = h.cycle;
      }

pub halved_end : {t list class₀ work₀ class work : List ℕ} {all few many : ℕ} → Halved t list class₀ work₀ all class work few many → many ≤ few + 1 → CycleAt t list class₀ work₀ all many class work
halved_end {t} {list} {few = few} {many = many} h e =
    let same : many ≡ few + 1 = omega (arith, h.apart) in
    record {
      lent = h.lent;
      place = few;
      numbers = same;
      within = h.within;
      cycle = subst (λ (k : ℕ). Cycle (graph_of t) (take k (pairs_of list))) same h.cycle;
      none_before = h.none_yet;
    }

-- ---- the first failure

-- how many pairs are joined
pub unclashed_all : (list : List ℕ) {joined : Result (Unit {0}) PairNumber} {done : Unit {0}} {many : ℕ} → joined ≡ Ok done → many ≡ length list / 2 → many ≡ unclashed list joined
unclashed_all list e f = f ∙ half_entries list ∙ sym (ap (unclashed list) e)

pub unclashed_before : (list : List ℕ) {joined : Result (Unit {0}) PairNumber} {at : PairNumber} {many : ℕ} → joined ≡ Err at → many ≡ at.0 - 1 → many ≡ unclashed list joined
unclashed_before list e f = f ∙ sym (ap (unclashed list) e)

module _ {t list class work class_mid work_mid : List ℕ} {joined : Result (Unit {0}) PairNumber} (s : Standing t list class work) (until : UntilClash t list class work joined class_mid work_mid) where
  joined_clashless : Clashless t list (unclashed list joined)
  joined_clashless = record { inside = until.inside; no_clash = until.partitioned.no_clash }

  both_lent : {work_search : List ℕ} {found : Bool} → Searched t class_mid work_mid found work_search → OnlyClassFront t class work class_mid work_search
  both_lent searched = lent_join until.lent (row_lent (standing_after s until.lent) until.inside until.partitioned searched)

  tells : {work_search : List ℕ} {found : Bool} → Searched t class_mid work_mid found work_search → Cycles found (graph_of t) (take (unclashed list joined) (pairs_of list))
  tells searched = row_tells (standing_after s until.lent) until.inside until.partitioned searched

  -- the pairs that are joined have a cycle
  module _ {work_search : List ℕ} (searched : Searched t class_mid work_mid true work_search) {many : ℕ} (same : many ≡ unclashed list joined) where
    -- what the search for the first one asks
    pub cycle_found : Standing t list class_mid work_search × Clashless t list many × Cycle (graph_of t) (take many (pairs_of list))
    cycle_found = (
      standing_after s (both_lent searched),
      subst (Clashless t list) (sym same) joined_clashless,
      subst (λ (k : ℕ). Cycle (graph_of t) (take k (pairs_of list))) (sym same) (tells searched),
    )

    pub cycle_fails : {class_after work_after : List ℕ} {at : PairNumber} → CycleAt t list class_mid work_search many at.0 class_after work_after
        → FirstFailed t list class work (Err (Refusal.Cycle at)) class_after work_after
    cycle_fails c =
        let first : FirstCycle (graph_of t) (pairs_of list) c.place =
        record {
          within = omega (arith, until.inside, c.within, c.numbers, same);
          cycle = c.cycle;
          no_clash = (fewer_clashless (c.place + 1) joined_clashless (omega (arith, c.within, c.numbers, same))).no_clash;
          no_clash_before = (fewer_clashless c.place joined_clashless (omega (arith, c.within, c.numbers, same))).no_clash;
          no_cycle_before = c.none_before;
        } in
        record { lent = lent_join (both_lent searched) c.lent; failed = cycle_first c.place c.numbers first }

  -- they have none, so a clash is the first failure, or nothing fails
  module _ {work_search : List ℕ} (searched : Searched t class_mid work_mid false work_search) where
    clash_fails : {at : PairNumber} → joined ≡ Err at → FirstFailed t list class work (Err (Refusal.Clash at)) class_mid work_search
    clash_fails {at} e =
        let next : ClashesAt t list at = until.next at e in
        let count : unclashed list joined ≡ at.0 - 1 = ap (unclashed list) e in
        let first : FirstClash (graph_of t) (pairs_of list) (at.0 - 1) =
        record {
          within = omega (arith, next.from_1, next.within);
          clash = subst (λ (k : ℕ). Clash (graph_of t) (take k (pairs_of list))) (let q : at.0 ≡ at.0 - 1 + 1 = omega (arith, next.from_1) in q) next.clash;
          no_clash_before = subst (λ (k : ℕ). Clash (graph_of t) (take k (pairs_of list)) → ⊥) count until.partitioned.no_clash;
          no_cycle_before = subst (λ (k : ℕ). Cycle (graph_of t) (take k (pairs_of list)) → ⊥) count (tells searched);
        } in
        record { lent = both_lent searched; failed = clash_first (at.0 - 1) (omega (arith, next.from_1)) first }

    nothing_fails : {done : Unit {0}} → joined ≡ Ok done → FirstFailed t list class work (Ok done) class_mid work_search
    nothing_fails e =
        record {
          lent = both_lent searched;
          failed =
              none_fails (subst (Partitioned t list class_mid) (ap (unclashed list) e) until.partitioned)
              (subst (λ (k : ℕ). Cycle (graph_of t) (take k (pairs_of list)) → ⊥) (ap (unclashed list) e) (tells searched));
        }

    -- so it is what the join has come to
    pub joined_fails : {Made : PairNumber → Refusal → Type 0} (answer : Result (Unit {0}) Refusal) → MatchResult joined (λ done. answer ≡ Ok done) (λ at. IsErrAnd answer (Made at))
        → ((at : PairNumber) (refusal : Refusal) → Made at refusal → refusal ≡ Refusal.Clash at) → FirstFailed t list class work answer class_mid work_search
    joined_fails {Made} answer cases is_clash = go joined refl cases
      where
        go : (j : Result (Unit {0}) PairNumber) → joined ≡ j → MatchResult j (λ done. answer ≡ Ok done) (λ at. IsErrAnd answer (Made at)) → FirstFailed t list class work answer class_mid work_search
        go (Ok done) e q = rw q (nothing_fails e)
        go (Err at) e q = let p = err_from_is_err_and answer q in rw (p.1, is_clash at p.0 p.2) (clash_fails e)

-- ---- the answers

-- the joins are counted in the first n entries
front_joins : (t row : List ℕ) → joins (graph_of t) row ≡ joins (graph_of t) (take (length t) row)
unfolding joins classes
front_joins t row =
    ap (λ (k : ℕ). nodes (graph_of t) - k)
    (count_same (own_node (graph_of t) row) (own_node (graph_of t) (take (length t) row)) (length t)
    (λ x h. ap (λ (z : ℕ). is_node ((graph_of t).head x) && eqb z x) (sym (get_or-take (length t) row x 0 h))))

-- all pairs are joined
pub whole_joined : {t list class : List ℕ} {answer : Result (Unit {0}) Refusal} {done : Unit {0}} → Failed t list class answer → answer ≡ Ok done → Partitioned t list class (length (pairs_of list))
whole_joined (none_fails p n) e = p
whole_joined (clash_first i n f) e = never (cc)
whole_joined (cycle_first i n f) e = never (cc)

none_cycles : {t list class : List ℕ} {answer : Result (Unit {0}) Refusal} {done : Unit {0}} → Failed t list class answer → answer ≡ Ok done → Cycle (graph_of t) (take (length (pairs_of list)) (pairs_of list)) → ⊥
none_cycles (none_fails p n) e = n
none_cycles (clash_first i n f) e = never (cc)
none_cycles (cycle_first i n f) e = never (cc)

module _ {t list class work class_mid work_mid : List ℕ} (passes : Passes (job_of t list class work)) {failure : Result (Unit {0}) Refusal}
    (first : FirstFailed t list class work failure class_mid work_mid) where
  pub refused_verdict : {refusal : Refusal} → failure ≡ Err refusal → {class_after : List ℕ} → class_after ≡ zeroed (length t) class_mid
      → Verdict t list class work (Err refusal) class_after work_mid
  unfolding changes_nothing
  refused_verdict {refusal} is {class_after} e = go first.failed is
    where
      cleared_row : class_after ≡ zeroed (length t) class
      cleared_row = e ∙ ap (λ (rest : List ℕ). replicate (length t) 0 ++ rest) first.lent.class_behind

      clash_at_place : {at : PairNumber} (i : ℕ) → at.0 ≡ i + 1 → FirstClash (graph_of t) (pairs_of list) i → Verdict t list class work (Err (Refusal.Clash at)) class_after work_mid
      clash_at_place i n f =
          record {
            answered = subst (λ (p : ℕ). Answered number (Fault (job_of t list class work)) match_order 10 p) (sym n) (clash_answered passes i f);
            late = refl;
            bound = λ z. absurd (omega arith);
            refused = λ z. cleared_row;
            work_same = first.lent.work_same;
          }

      cycle_at_place : {at : PairNumber} (i : ℕ) → at.0 ≡ i + 1 → FirstCycle (graph_of t) (pairs_of list) i → Verdict t list class work (Err (Refusal.Cycle at)) class_after work_mid
      cycle_at_place i n f =
          record {
            answered = subst (λ (p : ℕ). Answered number (Fault (job_of t list class work)) match_order 11 p) (sym n) (cycle_answered passes i f);
            late = refl;
            bound = λ z. absurd (omega arith);
            refused = λ z. cleared_row;
            work_same = first.lent.work_same;
          }

      go : {answer : Result (Unit {0}) Refusal} {class_there : List ℕ} → Failed t list class_there answer → answer ≡ Err refusal → Verdict t list class work (Err refusal) class_after work_mid
      go (none_fails p n) q = never (cc)
      go (clash_first {at = at} i n f) q = subst (λ (r : Refusal). Verdict t list class work (Err r) class_after work_mid) (let same : Refusal.Clash at ≡ refusal = cc in same) (clash_at_place i n f)
      go (cycle_first {at = at} i n f) q = subst (λ (r : Refusal). Verdict t list class work (Err r) class_after work_mid) (let same : Refusal.Cycle at ≡ refusal = cc in same) (cycle_at_place i n f)

  pub accepted_verdict : {done : Unit {0}} → failure ≡ Ok done → {counted : ℕ} → counted ≡ joins (graph_of t) class_mid
      → Verdict t list class work (Ok (record { joins = counted })) class_mid work_mid
  unfolding changes_nothing
  accepted_verdict is {counted} e =
      let whole : take (length (pairs_of list)) (pairs_of list) ≡ pairs_of list = take-length (pairs_of list) in
      let joined : Partitioned t list class_mid (length (pairs_of list)) = whole_joined first.failed is in
      record {
        answered = accepted_answered passes (subst (λ (p : List Pair). Clash (graph_of t) p → ⊥) whole joined.no_clash) (subst (λ (p : List Pair). Cycle (graph_of t) p → ⊥) whole (none_cycles first.failed is));
        late = refl;
        bound = λ z.
            record {
              table = take (length t) class_mid;
              class_table = subst (λ (p : List Pair). ClassTable (graph_of t) p (take (length t) class_mid)) whole joined.class_table;
              row = sym (take-append-drop (length t) class_mid) ∙ ap (λ (rest : List ℕ). take (length t) class_mid ++ rest) first.lent.class_behind;
              joins_counted = e ∙ front_joins t class_mid;
            };
        refused = λ z. absurd (z refl);
        work_same = first.lent.work_same;
      }
