-- The wrong matchers of document 01, "When a contract is strong enough": none of them meets the contract of a match.
--
-- In order: what a matcher gives at a row of the sheet (`at_row`); one that refuses every list; one that returns one fixed table;
-- one that clears the buffers and accepts; one that joins all at pair 1 and lets later pairs pass; one that makes up joins.
-- Each is taken as widely as the words allow: what is assumed of the matcher is only what makes it wrong, and only of what can
-- be lent to it. The sentences quoted are document 01's. Assumes nothing.
use mathlib.Core.Path.{◌≡◌, refl, sym, ap, ◌∙◌, subst}
use mathlib.Core.Bool.{Bool, true}
use mathlib.Core.List.{List, [], ◌∷◌, ◌++◌, Memᴰ}
use Prim.Native.Nat.{ℕ, ◌*◌, ◌≤◌, ◌<◌}
use native.Mathlib.Omega.{arith}
use borrow.Author.Tests.{ltb-true}
use lib.Dec.{ltb}
use lib.ListN.{length, get_or, take, replicate, length-replicate, get_or-replicate}
use lib.Seq.{get_or-take}
use Rattle.rows.specs.Placed.{zeroed}
use Rattle.rows.proofs.Laws.{cleared_zero}
use Rattle.words.specs.Head.{symbol_with}
use Rattle.words.specs.Word.{kind_of}
use Rattle.answering.specs.Answers.{Answered}
use Rattle.answering.proofs.Orders.{passed_none, none_parts}
use Rattle.graphs.specs.Partition.{pairs_of, ClassTable, joins}
use Rattle.graphs.specs.Term.{Term, Terms, var, app, apply, apply_all, each, grown, tree, below, Unifies, answer}
use Rattle.graphs.specs.Log.{◌and◌, all_below}
use Rattle.graphs.proofs.Classes.{never}
use Rattle.graphs.proofs.Replay.{both_true, all_below_lem}
use Rattle.graphs.proofs.Theorems.{class_table_only}
use Rattle.table.specs.Table.{TableSymbols, graph_of, head_of}
use Rattle.table.specs.Faults.{Job, number, Fault, check_order, list_rows, pair_rows, match_order}
use Rattle.matcher.specs.Match.{Matched, number_of, place_of, joins_of, job_of, Passes}
use Rattle.matcher.specs.Demands.{Met}
use Rattle.matcher.proofs.Demands.{accepted_exactly, answer_makes_equal}
use Rattle.sheet.specs.Sheet.{Example, example_c, examples}
use Rattle.sheet.specs.Matcher.{Matcher, Below, Lendable, MeetsContract, Gives}
use Rattle.sheet.proofs.Theorems.{sheet_holds, row_at, is_row, sheet_matched}

-- ---- what a matcher gives at a row of the sheet

unfoldable all_under : ℕ → List ℕ → Bool
all_under bound row = all_below (λ i. ltb (get_or row i 0) bound) (length row)

unfoldable fit : List Example → Bool
fit [] = true
fit (e ∷ es) = (all_under 4294967296 e.table and all_under 65536 e.list) and fit es

all_under_lem : (bound : ℕ) (row : List ℕ) → all_under bound row ≡ true → Below bound row
unfolding all_under
all_under_lem bound row t i h = ltb-true (get_or row i 0) bound (all_below_lem (λ j. ltb (get_or row j 0) bound) (length row) t i h)

zeros_under : (bound n : ℕ) → 0 < bound → Below bound (replicate n 0)
zeros_under bound n positive i h = omega (arith, get_or-replicate {A = ℕ} n i 0 0 (omega (arith, length-replicate {A = ℕ} n 0)))

-- the buffers of a row, all zeros and no longer than they must be
abbrev class_of : Example → List ℕ
class_of e = replicate (length e.table) 0

abbrev work_of : Example → List ℕ
work_of e = replicate (4 * length e.table) 0

fit_lent : (e : Example) (es : List Example) → fit es ≡ true → Memᴰ e es → Lendable e.table e.list (class_of e) (work_of e)
unfolding fit
fit_lent e es t (Memᴰ.head {x = f} {xs = rest} q) =
    subst (λ (g : Example). Lendable g.table g.list (class_of g) (work_of g)) (sym q)
    (record {
      words = all_under_lem 4294967296 f.table (both_true (both_true t).0).0;
      sides = all_under_lem 65536 f.list (both_true (both_true t).0).1;
      class_entries = zeros_under 65536 (length f.table) (omega arith);
      work_entries = zeros_under 65536 (4 * length f.table) (omega arith);
    })
fit_lent e es t (Memᴰ.tail {x = f} {xs = rest} m) = fit_lent e rest (both_true t).1 m

-- every row of the sheet can be lent
row_lent : (e : Example) → Memᴰ e examples → Lendable e.table e.list (class_of e) (work_of e)
unfolding fit all_under all_below ◌and◌
row_lent e m = fit_lent e examples refl m

abbrev run : Matcher → Example → Matched × List ℕ × List ℕ
run m e = m e.table e.list (class_of e) (work_of e)

at_row : (m : Matcher) → MeetsContract m → (e : Example) → Memᴰ e examples → Gives e (run m e).0 (run m e).1
at_row m meets e row =
    sheet_matched e row (omega (arith, length-replicate {A = ℕ} (length e.table) 0)) (omega (arith, length-replicate {A = ℕ} (4 * length e.table) 0))
    (meets e.table e.list (class_of e) (work_of e) (row_lent e row))

entry_at : {e : Example} {r : Matched} {class_after : List ℕ} → Gives e r class_after → e.answer ≡ 0 → (x : ℕ) → x < length e.table → get_or class_after x 0 ≡ get_or e.entries x 0
entry_at {e} {r} {class_after} g z x h = sym (get_or-take (length e.table) class_after x 0 h) ∙ ap (λ (row : List ℕ). get_or row x 0) (g.the_entries z)

-- the rows that show it
abbrev p1 : Example
p1 = row_at 0

abbrev p4 : Example
p4 = row_at 3

abbrev p5 : Example
p5 = row_at 4

abbrev p7 : Example
p7 = row_at 6

is_p1 : Memᴰ p1 examples
is_p1 = is_row 0 (omega arith)

is_p4 : Memᴰ p4 examples
is_p4 = is_row 3 (omega arith)

is_p5 : Memᴰ p5 examples
is_p5 = is_row 4 (omega arith)

is_p7 : Memᴰ p7 examples
is_p7 = is_row 6 (omega arith)

-- ---- "a matcher that refuses every list (demand 3 shuts it out, by any pair with a unifier)"

-- It is enough that it refuses one list, of a job that passes all checks, whose pairs some replacement makes equal.
pub refuses_a_met_list : (m : Matcher) {t list class work : List ℕ} → Lendable t list class work → Passes (job_of t list class work) → Met (graph_of t) (pairs_of list)
    → (number_of (m t list class work).0 ≡ 0 → ⊥) → MeetsContract m → ⊥
refuses_a_met_list m {t} {list} {class} {work} lent passes met refuses meets = refuses ((accepted_exactly (meets t list class work lent) passes).1 met)

pub refuses_every_list : (m : Matcher) → ((t list class work : List ℕ) → Lendable t list class work → number_of (m t list class work).0 ≡ 0 → ⊥) → MeetsContract m → ⊥
refuses_every_list m refuses meets = refuses p4.table p4.list (class_of p4) (work_of p4) (row_lent p4 is_p4) (at_row m meets p4 is_p4).the_answer

-- ---- "one that returns one fixed table (demand 2, P1 against P4)"

pub one_fixed_table : (m : Matcher) (fixed : ℕ → ℕ)
    → ((t list class work : List ℕ) → Lendable t list class work → number_of (m t list class work).0 ≡ 0 → (x : ℕ) → x < length t → get_or (m t list class work).1 x 0 ≡ fixed x)
    → MeetsContract m
    → ⊥
one_fixed_table m fixed returns meets =
    let one : Gives p1 (run m p1).0 (run m p1).1 = at_row m meets p1 is_p1 in
    let four : Gives p4 (run m p4).0 (run m p4).1 = at_row m meets p4 is_p4 in
    let zero_there : get_or (run m p1).1 2 0 ≡ 0 = entry_at one refl 2 (omega arith) in
    let two_there : get_or (run m p4).1 2 0 ≡ 2 = entry_at four refl 2 (omega arith) in
    let at_one : get_or (run m p1).1 2 0 ≡ fixed 2 = returns p1.table p1.list (class_of p1) (work_of p1) (row_lent p1 is_p1) one.the_answer 2 (omega arith) in
    let at_four : get_or (run m p4).1 2 0 ≡ fixed 2 = returns p4.table p4.list (class_of p4) (work_of p4) (row_lent p4 is_p4) four.the_answer 2 (omega arith) in
    omega arith

-- Nor may it return one fixed table for each table of words, whatever the list: P4 against P7.
pub one_table_for_all_lists : (m : Matcher) (fixed : List ℕ → ℕ → ℕ)
    → ((t list class work : List ℕ) → Lendable t list class work → number_of (m t list class work).0 ≡ 0 → (x : ℕ) → x < length t → get_or (m t list class work).1 x 0 ≡ fixed t x)
    → MeetsContract m
    → ⊥
one_table_for_all_lists m fixed returns meets =
    let four : Gives p4 (run m p4).0 (run m p4).1 = at_row m meets p4 is_p4 in
    let seven : Gives p7 (run m p7).0 (run m p7).1 = at_row m meets p7 is_p7 in
    let one_there : get_or (run m p4).1 3 0 ≡ 1 = entry_at four refl 3 (omega arith) in
    let three_there : get_or (run m p7).1 3 0 ≡ 3 = entry_at seven refl 3 (omega arith) in
    let at_four : get_or (run m p4).1 3 0 ≡ fixed example_c 3 = returns p4.table p4.list (class_of p4) (work_of p4) (row_lent p4 is_p4) four.the_answer 3 (omega arith) in
    let at_seven : get_or (run m p7).1 3 0 ≡ fixed example_c 3 = returns p7.table p7.list (class_of p7) (work_of p7) (row_lent p7 is_p7) seven.the_answer 3 (omega arith) in
    omega arith

-- ---- "one that clears the buffers and accepts (demand 2, P4, and demand 3, since the sides stay unequal)"

-- Whatever else it does, where it accepts it leaves the class entries in use at 0.
pub clears_and_accepts : (m : Matcher)
    → ((t list class work : List ℕ) → Lendable t list class work → number_of (m t list class work).0 ≡ 0 → (m t list class work).1 ≡ zeroed (length t) class)
    → MeetsContract m
    → ⊥
clears_and_accepts m clears meets =
    let four : Gives p4 (run m p4).0 (run m p4).1 = at_row m meets p4 is_p4 in
    let one_there : get_or (run m p4).1 1 0 ≡ 1 = entry_at four refl 1 (omega arith) in
    let cleared_there : get_or (run m p4).1 1 0 ≡ 0 =
    ap (λ (row : List ℕ). get_or row 1 0) (clears p4.table p4.list (class_of p4) (work_of p4) (row_lent p4 is_p4) four.the_answer) ∙ cleared_zero (class_of p4) 4 1 (omega arith) in
    omega arith

-- By demand 3 as well: an accepted list's answer makes both sides of every pair equal, and under cleared entries 3 and 1 differ.
cleared_unequal : Unifies (graph_of example_c) (pairs_of (3 ∷ 1 ∷ [])) (answer (graph_of example_c) (replicate 4 0)) → ⊥
unfolding pairs_of answer below tree grown each apply apply_all head_of kind_of
cleared_unequal equal =
    let sides : ◌≡◌ {A = Term TableSymbols} (var 0) (app (symbol_with (record { 0 = 1 }) 0) Terms.none) = equal (record { left = 3; right = 1 }) (Memᴰ.head refl) in
    never (cc)

accepted_passes : {job : Job} → Answered number (Fault job) match_order 0 0 → Passes job
unfolding number
accepted_passes {job} answered = (none_parts (Fault job) (check_order ++ list_rows) pair_rows (passed_none number (Fault job) match_order 0 0 refl refl answered).0).0

pub clears_and_accepts_unequal : (m : Matcher)
    → ((t list class work : List ℕ) → Lendable t list class work → number_of (m t list class work).0 ≡ 0 → (m t list class work).1 ≡ zeroed (length t) class)
    → MeetsContract m
    → ⊥
clears_and_accepts_unequal m clears meets =
    let four : Gives p4 (run m p4).0 (run m p4).1 = at_row m meets p4 is_p4 in
    let passes : Passes (job_of p4.table p4.list (class_of p4) (work_of p4)) = accepted_passes ((sheet_holds p4 is_p4).answered 4 16 (omega arith) (omega arith)) in
    cleared_unequal
    (subst (λ (row : List ℕ). Unifies (graph_of example_c) (pairs_of (3 ∷ 1 ∷ [])) (answer (graph_of example_c) row))
    (ap (take 4) (clears p4.table p4.list (class_of p4) (work_of p4) (row_lent p4 is_p4) four.the_answer))
    (answer_makes_equal (meets p4.table p4.list (class_of p4) (work_of p4) (row_lent p4 is_p4)) passes four.the_answer))

-- ---- "one that joins all at pair 1 and lets later pairs pass (demand 2 fixes the place, P5)"

-- It never reports a clash or a cycle at a later pair than the first.
pub joins_all_at_pair_1 : (m : Matcher) → ((t list class work : List ℕ) → Lendable t list class work → 10 ≤ number_of (m t list class work).0 → place_of (m t list class work).0 ≤ 1) → MeetsContract m → ⊥
joins_all_at_pair_1 m at_first meets =
    let five : Gives p5 (run m p5).0 (run m p5).1 = at_row m meets p5 is_p5 in
    let number_there_lem : number_of (run m p5).0 ≡ 10 = five.the_answer in
    let place_there : place_of (run m p5).0 ≡ 2 = five.the_place in
    let first : place_of (run m p5).0 ≤ 1 = at_first p5.table p5.list (class_of p5) (work_of p5) (row_lent p5 is_p5) (omega arith) in
    omega arith

-- It accepts whatever follows a first pair that it accepts.
pub later_pairs_pass : (m : Matcher)
    → ((t : List ℕ) (left right : ℕ) (rest class work : List ℕ) → Lendable t (left ∷ right ∷ rest) class work
    → number_of (m t (left ∷ right ∷ []) class work).0 ≡ 0 → number_of (m t (left ∷ right ∷ rest) class work).0 ≡ 0)
    → MeetsContract m
    → ⊥
later_pairs_pass m later meets =
    let four : Gives p4 (run m p4).0 (run m p4).1 = at_row m meets p4 is_p4 in
    let five : Gives p5 (run m p5).0 (run m p5).1 = at_row m meets p5 is_p5 in
    let number_there_lem : number_of (run m p5).0 ≡ 10 = five.the_answer in
    let passed : number_of (run m p5).0 ≡ 0 = later example_c 3 1 (3 ∷ 2 ∷ []) (class_of p5) (work_of p5) (row_lent p5 is_p5) four.the_answer in
    omega arith

-- ---- "one that makes up joins (nodes less classes)"

-- Where it accepts, joins that are not the number of nodes less the number of classes are not allowed.
pub makes_up_joins : (m : Matcher) {t list class work : List ℕ} → Lendable t list class work → {table : List ℕ} → ClassTable (graph_of t) (pairs_of list) table
    → number_of (m t list class work).0 ≡ 0 → (joins_of (m t list class work).0 ≡ joins (graph_of t) table → ⊥) → MeetsContract m → ⊥
makes_up_joins m {t} {list} {class} {work} lent c z other meets =
    other (((meets t list class work lent).bound z).joins_counted ∙ ap (joins (graph_of t)) (class_table_only ((meets t list class work lent).bound z).class_table c))

-- Nor may they be made up from the number of pairs: P1 against P4.
pub joins_by_pairs : (m : Matcher) (made_up : ℕ → ℕ)
    → ((t list class work : List ℕ) → Lendable t list class work → number_of (m t list class work).0 ≡ 0 → joins_of (m t list class work).0 ≡ made_up (length list))
    → MeetsContract m
    → ⊥
joins_by_pairs m made_up says meets =
    let one : Gives p1 (run m p1).0 (run m p1).1 = at_row m meets p1 is_p1 in
    let four : Gives p4 (run m p4).0 (run m p4).1 = at_row m meets p4 is_p4 in
    let five_there : joins_of (run m p1).0 ≡ 5 = one.the_joins in
    let one_there : joins_of (run m p4).0 ≡ 1 = four.the_joins in
    let at_one : joins_of (run m p1).0 ≡ made_up 2 = says p1.table p1.list (class_of p1) (work_of p1) (row_lent p1 is_p1) one.the_answer in
    let at_four : joins_of (run m p4).0 ≡ made_up 2 = says p4.table p4.list (class_of p4) (work_of p4) (row_lent p4 is_p4) four.the_answer in
    omega arith
