-- What a row holds that passes by a certificate: `passes_holds`, and of a whole list, `all_pass_hold`.
--
-- In order: tests and what they show; the table; rows that do not apply (`clear`, `clear_all`); the row by each certificate. Assumes nothing.
use mathlib.Core.Path.{◌≡◌, refl, sym, ap, ◌∙◌, subst}
use mathlib.Core.Bool.{Bool, true, false, not}
use mathlib.Core.Logic.{inl, ⊎_elim}
use mathlib.Core.List.{List, [], ◌∷◌, ◌++◌, Memᴰ}
use Rattle.std.specs.Prelude.{Option, None, Some}
use Prim.Native.Nat.{ℕ, ◌+◌, ◌*◌, ◌≤◌, ◌<◌}
use native.Mathlib.Omega.{arith}
use borrow.Author.Tests.{eq-eqb, ne_eqb, eqb-true, leb-true, ltb-true, not-true}
use lib.Dec.{eqb}
use lib.ListN.{length, take, drop}
use Rattle.words.specs.Limits.{most_words, most_entries}
use Rattle.words.specs.Word.{unnamed, same_kind}
use Rattle.words.specs.declared.kind.Kind.{Kind}
use Rattle.answering.specs.Answers.{Answered, NoneOf}
use Rattle.answering.proofs.Orders.{none_first, none_both}
use Rattle.graphs.specs.Graph.{Symbols, Graph, Child, Steps, WellFormed}
use Rattle.graphs.specs.Partition.{Pair, pairs_of, Sides, Clash, Cycle, ClassTable, joins}
use Rattle.graphs.specs.Log.{◌and◌, counts, Join, Replayed, false_at, ends, replay, all_below, closed, ranked, clashes, Down, cycles, loops}
use Rattle.graphs.proofs.Classes.{never}
use Rattle.graphs.proofs.Replay.{both_true, all_below_lem}
use Rattle.graphs.proofs.Theorems.{log_class_table, log_no_clash, log_no_cycle, log_clash, log_cycle, ranks_no_loop, ways_loop}
use Rattle.table.specs.Table.{kind_at, content_at, node_kind, graph_of}
use Rattle.table.specs.Layout.{item, break_from}
use Rattle.table.specs.Faults.{Job, bad_word, bad_pointer, Repeats, odd, bad_sides, pair_at, Row, SIZE, ROOM, NAME, LOOP, LIST, ADDRESS, number, Fault, size_fault, room_fault, name_fault, loop_fault, list_fault, address_fault, size_rows, shape_rows, list_rows, pair_rows, match_order}
use Rattle.table.specs.Readable.{Readable}
use Rattle.table.proofs.Children.{node_kind_lem}
use Rattle.table.proofs.Readable.{inside_kind}
use Rattle.checker.proofs.Stages.{readable_none}
use Rattle.matcher.specs.Match.{Passes}
use Rattle.matcher.proofs.Verdicts.{ready, list_so_far, accepted_answered, clash_answered, cycle_answered}
use Rattle.sheet.specs.Sheet.{Example, job_with, RowHolds}
use Rattle.sheet.proofs.Certified.{is_none, repeats_at, good_table, good_list, RowSettled, Certificate, loop, settles, clash, cycle, ends_in, settled, same_row, answers, nothing_made, graph_in, pairs_in, makes, settled_before, passes, all_pass}

-- ---- tests and what they show

fails : {b : Bool} → not b ≡ true → b ≡ true → ⊥
fails {b} f e = let g : b ≡ false = not-true b f in never (cc)

is_none_lem : (o : Option ℕ) → is_none o ≡ true → o ≡ None
unfolding is_none
is_none_lem None e = refl
is_none_lem (Some a) e = never (cc)

same_row_lem : (xs ys : List ℕ) → same_row xs ys ≡ true → xs ≡ ys
unfolding same_row
same_row_lem [] [] e = refl
same_row_lem [] (y ∷ ys) e = never (cc)
same_row_lem (x ∷ xs) [] e = never (cc)
same_row_lem (x ∷ xs) (y ∷ ys) e =
    let first : x ≡ y = eqb-true x y (both_true e).0 in
    let rest : xs ≡ ys = same_row_lem xs ys (both_true e).1 in
    λ i. first i ∷ rest i

ends_in_lem : (r : Replayed) (test : List ℕ → Bool) → ends_in r test ≡ true → (row : List ℕ) × (r ≡ ends row) × (test row ≡ true)
unfolding ends_in
ends_in_lem (false_at k) test e = never (cc)
ends_in_lem (ends row) test e = (row, refl, e)

-- ---- the table

-- what a table has that passes its test
record Sent (t : List ℕ) : Type 0 where
  pub readable : Readable t
  pub names : (a : ℕ) → Repeats t a → ⊥

repeats_shown : (t : List ℕ) (a : ℕ) (r : Repeats t a) → repeats_at t a r.stood.earlier ≡ true
unfolding repeats_at ◌and◌
repeats_shown t a r =
    let b : ℕ = r.stood.earlier in
    let named : Bool = not (eqb (content_at t a) unnamed) in
    ap (λ (k : Kind). same_kind k Kind.Variable and same_kind (kind_at t b) Kind.Variable and eqb (content_at t b) (content_at t a) and named) r.stood.later
    ∙ ap (λ (k : Kind). same_kind k Kind.Variable and eqb (content_at t b) (content_at t a) and named) r.stood.variable_there
    ∙ ap (λ (c : Bool). c and named) (eq-eqb (content_at t b) (content_at t a) r.stood.same_label)
    ∙ ap not (ne_eqb (content_at t a) unnamed r.other_label)

good_sent : (t : List ℕ) → good_table t ≡ true → Sent t
unfolding good_table
good_sent t e =
    let size : counts (length t) most_words ≡ true = (both_true e).0 in
    let words : all_below (λ a. not (bad_word t a)) (length t) ≡ true = (both_true (both_true e).1).0 in
    let whole : is_none (break_from item 1 (drop 1 t)) ≡ true = (both_true (both_true (both_true e).1).1).0 in
    let pointers : all_below (λ a. not (bad_pointer t a)) (length t) ≡ true = (both_true (both_true (both_true (both_true e).1).1).1).0 in
    let names : all_below (λ a. all_below (λ b. not (repeats_at t a b)) a) (length t) ≡ true = (both_true (both_true (both_true (both_true e).1).1).1).1 in
    record {
      readable =
          record {
            some_word = ltb-true 0 (length t) (both_true size).0;
            small = leb-true (length t) most_words (both_true size).1;
            words = λ a h. fails (all_below_lem (λ b. not (bad_word t b)) (length t) words a h);
            whole = is_none_lem (break_from item 1 (drop 1 t)) whole;
            pointers = λ a h. fails (all_below_lem (λ b. not (bad_pointer t b)) (length t) pointers a h);
          };
      names = λ a r.
          fails
          (all_below_lem (λ b. not (repeats_at t a b)) a
          (all_below_lem (λ b. all_below (λ c. not (repeats_at t b c)) b) (length t) names a (inside_kind t a node_kind refl (ap node_kind r.stood.later)))
          r.stood.earlier r.stood.before)
          (repeats_shown t a r);
    }

-- ---- rows that do not apply

good_list_lem : (t list : List ℕ) → good_list t list ≡ true
    → (odd list ≡ false) × (length list ≤ most_entries) × ((k : ℕ) → k < length (pairs_of list) → bad_sides t (pair_at (pairs_of list) k) ≡ true → ⊥)
unfolding good_list
good_list_lem t list e = (
  not-true (odd list) (both_true e).0,
  leb-true (length list) most_entries (both_true (both_true e).1).0,
  λ k h. fails (all_below_lem (λ j. not (bad_sides t (pair_at (pairs_of list) j))) (length (pairs_of list)) (both_true (both_true e).1).1 k h),
)

-- the rows 1 to 6
abbrev before_loop : List Row
before_loop = size_rows ++ shape_rows ++ (NAME ∷ [])

module _ (e : Example) (class_room work_room : ℕ) (class_enough : length e.table ≤ class_room) (work_enough : 4 * length e.table ≤ work_room) (good : Sent e.table) where
  -- none of the rows 1 to 6 applies ..
  clear : NoneOf (Fault (job_with e class_room work_room)) before_loop
  clear = none_both (Fault (job_with e class_room work_room)) (size_rows ++ shape_rows) (NAME ∷ []) (none_both (Fault (job_with e class_room work_room)) size_rows shape_rows (size, (room, tt)) (readable_none good.readable)) (name, tt)
    where
      size : (p : ℕ) → Fault (job_with e class_room work_room) SIZE p → ⊥
      size p (size_fault x) = ⊎_elim (λ z. omega (arith, good.readable.some_word)) (λ z. omega (arith, good.readable.small)) x

      room : (p : ℕ) → Fault (job_with e class_room work_room) ROOM p → ⊥
      room p (room_fault x) = ⊎_elim (λ z. omega arith) (λ z. omega arith) x

      name : (p : ℕ) → Fault (job_with e class_room work_room) NAME p → ⊥
      name p (name_fault l) = good.names p l.has

  -- .. nor, with no loop and a list that passes its test, those to 9
  clear_all : ((x : ℕ) → Steps (Child (graph_in e)) x x → ⊥) → good_list e.table e.list ≡ true → Passes (job_with e class_room work_room)
  clear_all no_loop list = none_both (Fault (job_with e class_room work_room)) before_loop (LOOP ∷ list_rows) clear (loops_none, (lists_none, (sides_none, tt)))
    where
      loops_none : (p : ℕ) → Fault (job_with e class_room work_room) LOOP p → ⊥
      loops_none p (loop_fault x s) = no_loop x s

      lists_none : (p : ℕ) → Fault (job_with e class_room work_room) LIST p → ⊥
      lists_none p (list_fault x) =
          let even : odd e.list ≡ false = (good_list_lem e.table e.list list).0 in
          ⊎_elim (λ o. let v : odd e.list ≡ true = o in never (cc)) (λ l. omega (arith, (good_list_lem e.table e.list list).1)) x

      sides_none : (p : ℕ) → Fault (job_with e class_room work_room) ADDRESS p → ⊥
      sides_none p (address_fault {i} l) = (good_list_lem e.table e.list list).2 i l.has.0 l.has.1

-- ---- the answer, place, entries and joins

as_said : (e : Example) (job : Job) (a p : ℕ) → answers e a p ≡ true → Answered number (Fault job) match_order a p → Answered number (Fault job) match_order e.answer e.place
unfolding answers
as_said e job a p t answered =
    subst (λ (b : ℕ). Answered number (Fault job) match_order b e.place) (sym (eqb-true e.answer a (both_true t).0))
    (subst (λ (q : ℕ). Answered number (Fault job) match_order a q) (sym (eqb-true e.place p (both_true t).1)) answered)

answer_said : (e : Example) (a p : ℕ) → answers e a p ≡ true → e.answer ≡ a
unfolding answers
answer_said e a p t = eqb-true e.answer a (both_true t).0

none_made : (e : Example) → nothing_made e ≡ true → (e.entries ≡ []) × (e.joins ≡ 0)
unfolding nothing_made
none_made e t = (same_row_lem e.entries [] (both_true t).0, eqb-true e.joins 0 (both_true t).1)

-- ---- a loop

loop_answered : (job : Job) → NoneOf (Fault job) before_loop → (x : ℕ) → Steps (Child (graph_of job.table)) x x → Answered number (Fault job) match_order 7 0
unfolding number
loop_answered job free x s = none_first number (Fault job) before_loop (LOOP ∷ (list_rows ++ pair_rows)) 7 0 free (inl (refl, loop_fault x s))

-- ---- a settled list

-- what a settled list has
record Settles {S : Symbols} (G : Graph S) (pairs : List Pair) (s : RowSettled) (test : List ℕ → Bool) : Type 0 where
  pub row : List ℕ
  pub replayed : replay G pairs s.log ≡ ends row
  pub shut : closed G pairs row ≡ true
  pub falls : ranked G row s.ranks ≡ true
  pub tested : test row ≡ true

settled_shown : {S : Symbols} (G : Graph S) (pairs : List Pair) (s : RowSettled) (test : List ℕ → Bool) → settled G pairs s test ≡ true → Settles G pairs s test
unfolding settled
settled_shown G pairs s test t =
    let found : (row : List ℕ) × (replay G pairs s.log ≡ ends row) × ((closed G pairs row and ranked G row s.ranks and test row) ≡ true) =
    ends_in_lem (replay G pairs s.log) (λ row. closed G pairs row and ranked G row s.ranks and test row) t in
    record {
      row = found.0;
      replayed = found.1;
      shut = (both_true found.2).0;
      falls = (both_true (both_true found.2).1).0;
      tested = (both_true (both_true found.2).1).1;
    }

-- ranks that fall from class to class fall from node to child
no_loop_in : (e : Example) (row ranks : List ℕ) → ranked (graph_in e) row ranks ≡ true → (x : ℕ) → Steps (Child (graph_in e)) x x → ⊥
no_loop_in e = ranks_no_loop (λ x n. inside_kind e.table x node_kind refl (node_kind_lem e.table x n))

module _ (e : Example) (sent : Sent e.table) (list : good_list e.table e.list ≡ true) (no_loop : (x : ℕ) → Steps (Child (graph_in e)) x x → ⊥) where
  all_clear : (class_room work_room : ℕ) → length e.table ≤ class_room → 4 * length e.table ≤ work_room → Passes (job_with e class_room work_room)
  all_clear c w class_enough work_enough = clear_all e c w class_enough work_enough sent no_loop list

  least : Passes (job_with e (length e.table) (4 * length e.table))
  least = all_clear (length e.table) (4 * length e.table) (omega arith) (omega arith)

  formed : WellFormed (graph_in e)
  formed = (ready least).passed.well_formed

  sides : Sides (graph_in e) (pairs_in e)
  sides = (ready least).sides

  sides_to : (k : ℕ) → Sides (graph_in e) (take k (pairs_in e))
  sides_to k p m = sides p (list_so_far least k p m)

  settles_no_clash : {pairs : List Pair} {s : RowSettled} {test : List ℕ → Bool} → Sides (graph_in e) pairs → Settles (graph_in e) pairs s test → Clash (graph_in e) pairs → ⊥
  settles_no_clash {pairs} {s} on found = log_no_clash formed on s.log found.replayed found.shut

  settles_no_cycle : {pairs : List Pair} {s : RowSettled} {test : List ℕ → Bool} → Sides (graph_in e) pairs → Settles (graph_in e) pairs s test → Cycle (graph_in e) pairs → ⊥
  settles_no_cycle {pairs} {s} on found = log_no_cycle formed on s.log found.replayed found.shut s.ranks found.falls

  settles_holds : (s : RowSettled) → answers e 0 0 ≡ true → Settles (graph_in e) (pairs_in e) s (makes e) → RowHolds e
  unfolding makes
  settles_holds s said found =
      let rows : found.row ≡ e.entries = same_row_lem found.row e.entries (both_true found.tested).0 in
      record {
        answered = λ c w class_enough work_enough.
            as_said e (job_with e c w) 0 0 said
            (accepted_answered (all_clear c w class_enough work_enough) (settles_no_clash sides found) (settles_no_cycle sides found));
        if_accepted = λ z. (
          subst (ClassTable (graph_in e) (pairs_in e)) rows (log_class_table formed sides s.log found.replayed found.shut),
          ap (joins (graph_in e)) (sym rows) ∙ eqb-true (joins (graph_in e) found.row) e.joins (both_true found.tested).1,
        );
        if_refused = λ z. absurd (z (answer_said e 0 0 said));
      }

-- ---- a refused list

-- A refused row holds if its answer is the table of numbers' and it has neither entries nor joins.
refused_holds : (e : Example) (a p : ℕ) → 0 < a → answers e a p ≡ true → nothing_made e ≡ true
    → ((class_room work_room : ℕ) → length e.table ≤ class_room → 4 * length e.table ≤ work_room → Answered number (Fault (job_with e class_room work_room)) match_order a p)
    → RowHolds e
refused_holds e a p positive said made answered =
    record {
      answered = λ c w class_enough work_enough. as_said e (job_with e c w) a p said (answered c w class_enough work_enough);
      if_accepted = λ z. absurd (omega (arith, answer_said e a p said));
      if_refused = λ z. none_made e made;
    }

-- what a list has that is settled before a place
record Before (e : Example) (i : ℕ) (s : RowSettled) : Type 0 where
  pub sent : Sent e.table
  pub list : good_list e.table e.list ≡ true
  pub made : nothing_made e ≡ true
  pub within : i < length (pairs_in e)
  pub found : Settles (graph_in e) (take i (pairs_in e)) s (λ row. true)

before_shown : (e : Example) (i : ℕ) (s : RowSettled) → settled_before e i s ≡ true → Before e i s
unfolding settled_before
before_shown e i s t =
    record {
      sent = good_sent e.table (both_true t).0;
      list = (both_true (both_true t).1).0;
      made = (both_true (both_true (both_true t).1).1).0;
      within = ltb-true i (length (pairs_in e)) (both_true (both_true (both_true (both_true t).1).1).1).0;
      found = settled_shown (graph_in e) (take i (pairs_in e)) s (λ row. true) (both_true (both_true (both_true (both_true t).1).1).1).1;
    }

module _ (e : Example) (i : ℕ) (s : RowSettled) (b : Before e i s) (log : List Join) where
  no_loop_before : (x : ℕ) → Steps (Child (graph_in e)) x x → ⊥
  no_loop_before = no_loop_in e b.found.row s.ranks b.found.falls

  sides_there : (k : ℕ) → Sides (graph_in e) (take k (pairs_in e))
  sides_there = sides_to e b.sent b.list no_loop_before

  none_before : (Clash (graph_in e) (take i (pairs_in e)) → ⊥) × (Cycle (graph_in e) (take i (pairs_in e)) → ⊥)
  none_before = (
    settles_no_clash e b.sent b.list no_loop_before (sides_there i) b.found,
    settles_no_cycle e b.sent b.list no_loop_before (sides_there i) b.found,
  )

  clash_holds : (x y : ℕ) → answers e 10 (i + 1) ≡ true
      → ends_in (replay (graph_in e) (take (i + 1) (pairs_in e)) log) (λ row. clashes (graph_in e) row x y) ≡ true → RowHolds e
  clash_holds x y said met =
      let end : (row : List ℕ) × (replay (graph_in e) (take (i + 1) (pairs_in e)) log ≡ ends row) × (clashes (graph_in e) row x y ≡ true) =
      ends_in_lem (replay (graph_in e) (take (i + 1) (pairs_in e)) log) (λ row. clashes (graph_in e) row x y) met in
      refused_holds e 10 (i + 1) (omega arith) said b.made
      (λ c w class_enough work_enough.
      clash_answered (all_clear e b.sent b.list no_loop_before c w class_enough work_enough) i
      (record {
        within = b.within;
        clash = log_clash (formed e b.sent b.list no_loop_before) (sides_there (i + 1)) log end.1 x y end.2;
        no_clash_before = none_before.0;
        no_cycle_before = none_before.1;
      }))

  cycle_holds : (ways : List Down) → answers e 11 (i + 1) ≡ true
      → ends_in (replay (graph_in e) (take (i + 1) (pairs_in e)) log) (λ row. closed (graph_in e) (take (i + 1) (pairs_in e)) row and cycles (graph_in e) row ways) ≡ true → RowHolds e
  cycle_holds ways said met =
      let end : (row : List ℕ) × (replay (graph_in e) (take (i + 1) (pairs_in e)) log ≡ ends row) × ((closed (graph_in e) (take (i + 1) (pairs_in e)) row and cycles (graph_in e) row ways) ≡ true) =
      ends_in_lem (replay (graph_in e) (take (i + 1) (pairs_in e)) log) (λ row. closed (graph_in e) (take (i + 1) (pairs_in e)) row and cycles (graph_in e) row ways) met in
      refused_holds e 11 (i + 1) (omega arith) said b.made
      (λ c w class_enough work_enough.
      cycle_answered (all_clear e b.sent b.list no_loop_before c w class_enough work_enough) i
      (record {
        within = b.within;
        cycle = log_cycle (formed e b.sent b.list no_loop_before) (sides_there (i + 1)) log end.1 ways (both_true end.2).1;
        no_clash = log_no_clash (formed e b.sent b.list no_loop_before) (sides_there (i + 1)) log end.1 (both_true end.2).0;
        no_clash_before = none_before.0;
        no_cycle_before = none_before.1;
      }))

-- ---- the row by its certificate

pub passes_holds : (e : Example) (c : Certificate) → passes e c ≡ true → RowHolds e
unfolding passes
passes_holds e (loop ways) t =
    let sent : Sent e.table = good_sent e.table (both_true (both_true t).1).0 in
    let rest : (nothing_made e ≡ true) × (loops (graph_in e) ways ≡ true) = both_true (both_true (both_true t).1).1 in
    let found : (x : ℕ) × Steps (Child (graph_in e)) x x = ways_loop ways rest.1 in
    refused_holds e 7 0 (omega arith) (both_true t).0 rest.0
    (λ c w class_enough work_enough.
    loop_answered (job_with e c w) (clear e c w class_enough work_enough sent) found.0 found.1)
passes_holds e (settles s) t =
    let sent : Sent e.table = good_sent e.table (both_true (both_true t).1).0 in
    let rest : (good_list e.table e.list ≡ true) × (settled (graph_in e) (pairs_in e) s (makes e) ≡ true) = both_true (both_true (both_true t).1).1 in
    let found : Settles (graph_in e) (pairs_in e) s (makes e) = settled_shown (graph_in e) (pairs_in e) s (makes e) rest.1 in
    settles_holds e sent rest.0 (no_loop_in e found.row s.ranks found.falls) s (both_true t).0 found
passes_holds e (clash i before log x y) t =
    clash_holds e i before (before_shown e i before (both_true (both_true t).1).0) log x y (both_true t).0 (both_true (both_true t).1).1
passes_holds e (cycle i before log ways) t =
    cycle_holds e i before (before_shown e i before (both_true (both_true t).1).0) log ways (both_true t).0 (both_true (both_true t).1).1

-- ---- the whole list

pub all_pass_hold : (es : List Example) (cs : List Certificate) → all_pass es cs ≡ true → (e : Example) → Memᴰ e es → RowHolds e
unfolding all_pass
all_pass_hold es [] t e (Memᴰ.head {x = f} {xs = rest} q) = never (cc)
all_pass_hold es [] t e (Memᴰ.tail {x = f} {xs = rest} m) = never (cc)
all_pass_hold es (c ∷ cs) t e (Memᴰ.head {x = f} {xs = rest} q) = subst RowHolds (sym q) (passes_holds f c (both_true t).0)
all_pass_hold es (c ∷ cs) t e (Memᴰ.tail {x = f} {xs = rest} m) = all_pass_hold rest cs (both_true t).1 e m
