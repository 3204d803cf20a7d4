-- The sheet holds: every row of it says what the definitions give (`sheet_holds`), and so what every match gives that meets the
-- contract (`sheet_matched`); and its rows by their places (`is_row`).
--
-- One computed test of the whole list (`tested`), by a certificate for each row, and one law that turns it into the statement at
-- each row (`all_pass_hold`). Assumes nothing.
use mathlib.Core.Path.{◌≡◌, refl, sym, ap, ◌∙◌}
use mathlib.Core.Bool.{true, decide}
use mathlib.Core.List.{List, [], ◌∷◌, Memᴰ}
use Prim.Native.Nat.{ℕ, zero, suc, ◌*◌, ◌≤◌, ◌<◌}
use native.Mathlib.Decide.{ℕ_discrete}
use native.Mathlib.Omega.{arith}
use lib.ListN.{length, get_or, take, drop}
use lib.Seq.{take_at}
use Rattle.words.specs.Word.{kind_of}
use Rattle.answering.proofs.Orders.{answered_only}
use Rattle.graphs.specs.Partition.{pairs_of, is_node, bit, count, nodes, classes, joins, key_of, key, apart_from, apart}
use Rattle.graphs.specs.Log.{◌and◌, ◌or◌, Join, given, children, children_beside, children_of, grounded, is_true, renamed, merged, if_true, replay_from, replay, all_below, holds_pairs, same_names, agrees_with, agrees, closed, ranks_fall, ranks_fall_at, ranked, differ_from, differ, clashes, Down, is_among, is_below, leads, cycles, leads_down, loops}
use Rattle.graphs.proofs.Theorems.{class_table_only}
use Rattle.table.specs.Table.{graph_of, choose, symbol_decide, named, named_from, head_of}
use Rattle.table.specs.Layout.{can_stand, after, at_end, break_from}
use Rattle.table.specs.Faults.{bad_kind, bad_word, bad_target, odd, number, Fault, match_order}
use Rattle.table.proofs.OneAnswer.{fault_once}
use Rattle.matcher.specs.Match.{Matched, number_of, place_of, joins_of, AcceptedWith, job_of, MatchOf}
use Rattle.matcher.proofs.OneMatch.{refused_joins}
use Rattle.sheet.specs.Sheet.{Example, refused, examples, RowHolds}
use Rattle.sheet.specs.Matcher.{Gives}
use Rattle.sheet.proofs.Certified.{is_none, repeats_at, good_table, good_list, RowSettled, Certificate, loop, settles, clash, cycle, ends_in, settled, same_row, answers, nothing_made, makes, settled_before, passes, all_pass}
use Rattle.sheet.proofs.Laws.{all_pass_hold}

-- ---- certificates

-- the join of a pair's sides, and of two functions' children at a place, both counted from 1
by_pair : ℕ → ℕ → ℕ → Join
by_pair k left right = record { left = left; right = right; ground = given k }

by_place : ℕ → ℕ → ℕ → ℕ → ℕ → Join
by_place f g place left right = record { left = left; right = right; ground = children f g place }

down : ℕ → ℕ → Down
down parent child = record { parent = parent; child = child }

with_ranks : List ℕ → List Join → RowSettled
with_ranks ranks log = record { log = log; ranks = ranks }

-- in the order of the sheet
certificates : List Certificate
certificates =
    settles (with_ranks (0 ∷ 2 ∷ 0 ∷ 0 ∷ 0 ∷ 0 ∷ 1 ∷ []) (by_pair 1 1 9 ∷ by_place 1 9 1 3 11 ∷ by_place 1 9 2 4 14 ∷ by_place 1 9 3 6 4 ∷ by_place 6 14 1 3 16 ∷ []))
    ∷ cycle 0 (with_ranks (0 ∷ 1 ∷ []) []) (by_pair 1 1 3 ∷ []) (down 1 3 ∷ [])
    ∷ settles (with_ranks (0 ∷ 1 ∷ []) [])
    ∷ settles (with_ranks [] (by_pair 1 3 1 ∷ []))
    ∷ clash 1 (with_ranks [] (by_pair 1 3 1 ∷ [])) (by_pair 1 3 1 ∷ by_pair 2 3 2 ∷ []) 1 2
    ∷ clash 0 (with_ranks [] []) (by_pair 1 1 2 ∷ []) 1 2
    ∷ settles (with_ranks [] [])
    ∷ clash 0 (with_ranks (0 ∷ 1 ∷ 0 ∷ 0 ∷ 0 ∷ 2 ∷ []) []) (by_pair 1 1 5 ∷ by_place 1 5 2 4 8 ∷ []) 4 8
    ∷ clash 0 (with_ranks (0 ∷ 1 ∷ 0 ∷ 0 ∷ 1 ∷ []) []) (by_pair 1 1 4 ∷ []) 1 4
    ∷ loop (down 1 1 ∷ [])
    ∷ settles (with_ranks (0 ∷ 2 ∷ 0 ∷ 0 ∷ 0 ∷ 0 ∷ 0 ∷ 0 ∷ 0 ∷ 0 ∷ 0 ∷ 0 ∷ 0 ∷ 1 ∷ []) (by_pair 1 1 7 ∷ by_place 1 7 1 3 9 ∷ by_place 1 7 2 4 13 ∷ by_place 1 7 3 5 11 ∷ by_place 1 7 4 3 11 ∷ []))
    ∷ settles (with_ranks [] (by_pair 1 1 3 ∷ by_pair 2 2 4 ∷ []))
    ∷ []

-- ---- the sheet

tested : all_pass examples certificates ≡ true
unfolding certificates by_pair by_place down with_ranks decide ℕ_discrete kind_of is_node bit count nodes classes joins ◌and◌ ◌or◌ children_beside children_of grounded is_true key_of key renamed merged apart_from apart if_true replay_from replay all_below holds_pairs same_names agrees_with agrees closed ranks_fall ranks_fall_at ranked differ_from differ clashes is_among is_below leads cycles leads_down loops choose symbol_decide named named_from head_of can_stand after at_end break_from bad_kind bad_word bad_target pairs_of odd is_none repeats_at good_table good_list ends_in settled same_row answers nothing_made makes settled_before passes all_pass
tested = refl

-- Each row of the sheet says what the definitions give.
pub sheet_holds : (e : Example) → Memᴰ e examples → RowHolds e
sheet_holds = all_pass_hold examples certificates tested

-- the row at a place, from 0, and that it is one
abbrev pub row_at : ℕ → Example
row_at k = get_or examples k (refused [] [] 0 0)

there : (es : List Example) (k : ℕ) (d : Example) → k < length es → Memᴰ (get_or es k d) es
there [] k d h = absurd (omega arith)
there (e ∷ es) zero d h = Memᴰ.head refl
there (e ∷ es) (suc k) d h = Memᴰ.tail (there es k d (omega arith))

pub is_row : (k : ℕ) → k < 12 → Memᴰ (row_at k) examples
is_row k h = there examples k (refused [] [] 0 0) h

-- ---- what a match gives

module _ {e : Example} (h : RowHolds e) {class work : List ℕ} (class_enough : length e.table ≤ length class) (work_enough : 4 * length e.table ≤ length work) {r : Matched} {class_after work_after : List ℕ} (m : MatchOf e.table e.list class work r class_after work_after) where
  same_numbers : (number_of r ≡ e.answer) × (place_of r ≡ e.place)
  same_numbers =
      answered_only number (Fault (job_of e.table e.list class work)) (fault_once (job_of e.table e.list class work)) match_order (number_of r) (place_of r) e.answer e.place
      m.answered
      (h.answered (length class) (length work) class_enough work_enough)

  bound_of : e.answer ≡ 0 → AcceptedWith e.table e.list class class_after (joins_of r)
  bound_of z = m.bound (same_numbers.0 ∙ z)

  same_table : (z : e.answer ≡ 0) → (bound_of z).table ≡ e.entries
  same_table z = class_table_only (bound_of z).class_table (h.if_accepted z).0

  same_joins : Dec (e.answer ≡ 0) → joins_of r ≡ e.joins
  same_joins (yes z) = (bound_of z).joins_counted ∙ ap (joins (graph_of e.table)) (same_table z) ∙ (h.if_accepted z).1
  same_joins (no z) = refused_joins r (λ q. z (sym same_numbers.0 ∙ q)) ∙ sym (h.if_refused z).1

  row_gives : Gives e r class_after
  row_gives =
      record {
        the_answer = same_numbers.0;
        the_place = same_numbers.1;
        the_joins = same_joins (ℕ_discrete e.answer 0);
        the_entries = λ z.
            ap (take (length e.table)) (bound_of z).row
            ∙ take_at (bound_of z).table (drop (length e.table) class) (length e.table) (bound_of z).class_table.long
            ∙ same_table z;
      }

-- Every match that meets the contract gives what the row says, whatever the buffers held.
pub sheet_matched : (e : Example) → Memᴰ e examples → {class work : List ℕ} → length e.table ≤ length class → 4 * length e.table ≤ length work
    → {r : Matched} {class_after work_after : List ℕ} → MatchOf e.table e.list class work r class_after work_after → Gives e r class_after
sheet_matched e row class_enough work_enough m = row_gives (sheet_holds e row) class_enough work_enough m
