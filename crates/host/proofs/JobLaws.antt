-- A job that the host call found. In order: the match's answer as the host call's (`host_lent`); the rows that are lent for it
-- (`rows_fit`, `lent_fronts`). Assumes nothing.
use mathlib.Core.Path.{◌≡◌, refl, sym, ap, ◌∙◌, subst}
use mathlib.Core.Bool.{true, false, not}
use mathlib.Core.Logic.{◌⊎◌, inr, ⊎_elim}
use mathlib.Core.List.{List, ◌++◌, append-nil}
use Prim.Native.Nat.{ℕ, ◌*◌, ◌≤◌, ◌<◌, min}
use native.Mathlib.Nat.{min-eq_left, min-eq_right}
use native.Mathlib.Decide.{dec_le}
use native.Mathlib.Omega.{arith}
use borrow.Author.Tests.{not-true}
use lib.ListN.{length, take, drop, replicate, drop_of_length-le}
use lib.Seq.{take_all, length-take-le}
use Rattle.rows.specs.Placed.{placed}
use Rattle.words.specs.Limits.{most_words, most_entries}
use Rattle.answering.specs.Answers.{Answered, NoneOf}
use Rattle.answering.specs.Buffers.{changes_nothing}
use Rattle.answering.proofs.Orders.{answered_tested, passed_none, none_first, rest_answers, none_parts}
use Rattle.answering.proofs.BufferLaws.{later_rows, left-zeroed}
use Rattle.graphs.specs.Partition.{pairs_of, ClassTable, joins}
use Rattle.table.specs.Table.{graph_of}
use Rattle.table.specs.Faults.{sent, Row as MatchRow, SIZE, ROOM, Fault, size_fault, room_fault, list_fault, number as match_number, size_rows, table_rows, list_rows, pair_rows, check_order, match_order}
use Rattle.matcher.specs.Match.{Matched, number_of, place_of, joins_of, MatchOf}
use Rattle.matcher.proofs.OneMatch.{refused_joins}
use Rattle.jobfile.specs.File.{pairs_in, body_in}
use Rattle.jobfile.proofs.NumberLaws.{length-row_in}
use Rattle.jobfile.specs.Jobs.{JobTaken, JobWith, entry_of, words_of, table_of, list_of}
use Rattle.host.specs.Host.{called_job, host_number, HostFault, early_order, late_order, report_of, writes_nothing, HostOf}
use Rattle.host.specs.Steps.Choice.{Matchable}
use Rattle.host.specs.Steps.Rows.{list_room, RowsFit, RowsOfJob}
use Rattle.host.proofs.ReportLaws.{room_reported}
use Rattle.host.proofs.ChoiceLaws.{from_match, none_early}
use Rattle.host.proofs.CutLaws.{long_lists}

-- ---- the match's answer

-- the rows from 3 on
abbrev late_rows : List MatchRow
late_rows = table_rows ++ list_rows ++ pair_rows

-- A job of a size that is allowed has room for it.
pub sizes_pass : (bytes : List ℕ) (job : ℕ) → ((words_of bytes job ≡ 0) ⊎ (most_words < words_of bytes job) → ⊥) → NoneOf (Fault (called_job bytes job)) size_rows
sizes_pass bytes job allowed = (no_size, (no_room, tt))
  where
    size : length (table_of bytes job) ≡ words_of bytes job
    size = length-row_in 4 (words_of bytes job) (body_in bytes (entry_of job))

    no_size : (p : ℕ) → Fault (called_job bytes job) SIZE p → ⊥
    no_size p (size_fault x) = allowed (subst (λ (n : ℕ). (n ≡ 0) ⊎ (most_words < n)) size x)

    no_room : (p : ℕ) → Fault (called_job bytes job) ROOM p → ⊥
    no_room p (room_fault x) = ⊎_elim (λ e. omega (arith, size)) (λ e. omega (arith, size)) x

module _ {bytes : List ℕ} {job : ℕ} {table list class work room : List ℕ} (lent : RowsOfJob bytes job table list class work room) where
  cut_list : List ℕ
  cut_list = take (length list) (list_of bytes job)

  size : length (table_of bytes job) ≡ words_of bytes job
  size = length-row_in 4 (words_of bytes job) (body_in bytes (entry_of job))

  list_size : length (list_of bytes job) ≡ 2 * pairs_in bytes (entry_of job)
  list_size = length-row_in 2 (2 * pairs_in bytes (entry_of job)) (drop (4 * words_of bytes job) (body_in bytes (entry_of job)))

  whole_list : 2 * pairs_in bytes (entry_of job) ≤ list_room → cut_list ≡ list_of bytes job
  unfolding cut_list
  whole_list h = take_all (length list) (list_of bytes job) (omega (arith, lent.cut, min-eq_left h, list_size))

  over : list_room ≤ 2 * pairs_in bytes (entry_of job) → most_entries < length cut_list
  unfolding cut_list
  over h =
      let all : length list ≡ list_room = lent.cut ∙ min-eq_right h in
      let e : length (take (length list) (list_of bytes job)) ≡ length list = length-take-le (length list) (list_of bytes job) (omega (arith, list_size)) in
      omega arith

  too : list_room ≤ 2 * pairs_in bytes (entry_of job) → most_entries < length (list_of bytes job)
  too h = omega (arith, list_size)

  of_cut : (a p : ℕ) → Answered match_number (Fault (sent (table_of bytes job) cut_list (length class) (length work))) match_order a p
      → Answered match_number (Fault (sent (table_of bytes job) cut_list (words_of bytes job) (4 * words_of bytes job))) match_order a p
  of_cut a p x =
      subst (λ (w : ℕ). Answered match_number (Fault (sent (table_of bytes job) cut_list (words_of bytes job) w)) match_order a p) lent.works
      (subst (λ (c : ℕ). Answered match_number (Fault (sent (table_of bytes job) cut_list c (length work))) match_order a p) lent.classes x)

  of_whole : Dec (2 * pairs_in bytes (entry_of job) ≤ list_room) → (a p : ℕ) → Answered match_number (Fault (sent (table_of bytes job) cut_list (words_of bytes job) (4 * words_of bytes job))) match_order a p
      → Answered match_number (Fault (called_job bytes job)) match_order a p
  of_whole (yes h) a p x =
      subst (λ (l : List ℕ). Answered match_number (Fault (sent (table_of bytes job) l (words_of bytes job) (4 * words_of bytes job))) match_order a p) (whole_list h) x
  of_whole (no h) a p x =
      long_lists (table_of bytes job) cut_list (list_of bytes job) (words_of bytes job) (4 * words_of bytes job) (over (omega arith)) (too (omega arith)) a p x

  -- an accepted list was not cut
  accepted_whole : Dec (2 * pairs_in bytes (entry_of job) ≤ list_room) → (p : ℕ) → Answered match_number (Fault (called_job bytes job)) match_order 0 p → cut_list ≡ list_of bytes job
  unfolding match_number
  accepted_whole (yes h) p x = whole_list h
  accepted_whole (no h) p x =
      absurd ((none_parts (Fault (called_job bytes job)) check_order (list_rows ++ pair_rows) (passed_none match_number (Fault (called_job bytes job)) match_order 0 p refl refl x).0).1.0 0 (list_fault (inr (too (omega arith)))))

  late : (a p : ℕ) → Answered match_number (Fault (called_job bytes job)) match_order a p → Answered match_number (Fault (called_job bytes job)) late_rows a p
  late a p =
      rest_answers match_number (Fault (called_job bytes job)) size_rows late_rows a p
      (sizes_pass bytes job (⊎_elim (λ e. omega (arith, e, lent.some_word)) (λ e. omega (arith, e, lent.few_words))))

  host_answered : (a p : ℕ) → Answered match_number (Fault (called_job bytes job)) match_order a p → Answered host_number (HostFault bytes job room) (early_order ++ late_order) a p
  host_answered a p x =
      none_first host_number (HostFault bytes job room) early_order late_order a p
      (none_early bytes job room lent.copied.there.good lent.copied.there.some_job lent.copied.there.inside lent.some_word lent.few_words lent.enough)
      (from_match bytes job room late_rows a p refl (late a p x))

  -- the class entries are as many as the buffer lent for them
  behind : (front : List ℕ) → front ++ drop (length (table_of bytes job)) class ≡ front
  behind front =
      let all : length class ≤ length (table_of bytes job) = omega (arith, size, lent.classes) in
      ap (λ (l : List ℕ). front ++ l) (drop_of_length-le class all) ∙ append-nil front

  host_matched : {answer : Matched} {class_after work_after after : List ℕ} {r : ℕ}
      → MatchOf (table_of bytes job) (take (length list) (list_of bytes job)) class work answer class_after work_after → r ≡ number_of answer
      → after ≡ placed 0 (report_of (number_of answer) (place_of answer) (joins_of answer) class_after) room → HostOf bytes job room r after
  unfolding cut_list match_number changes_nothing writes_nothing
  host_matched {answer} {class_after} {work_after} {after} {r} m e stored =
      let a : ℕ = number_of answer in
      let p : ℕ = place_of answer in
      let d : Dec (2 * pairs_in bytes (entry_of job) ≤ list_room) = dec_le (2 * pairs_in bytes (entry_of job)) list_room in
      let answered : Answered match_number (Fault (called_job bytes job)) match_order a p = of_whole d a p (of_cut a p m.answered) in
      let quiet : changes_nothing a ≡ false = later_rows match_number (Fault (called_job bytes job)) late_rows a p refl (late a p answered) in
      let written : not (writes_nothing a) ≡ true =
      answered_tested match_number (Fault (called_job bytes job)) (λ b. not (writes_nothing b)) late_rows a p refl (λ z. ap (λ (b : ℕ). not (writes_nothing b)) z) (late a p answered) in
      subst (λ (q : ℕ). HostOf bytes job room q after) (sym e)
      (record {
        place = p;
        joined = joins_of answer;
        classes = class_after;
        answered = host_answered a p answered;
        bound = λ z.
            let b = m.bound z in
            let row : b.table ≡ class_after = sym (b.row ∙ behind b.table) in
            let whole : cut_list ≡ list_of bytes job = accepted_whole d p (subst (λ (q : ℕ). Answered match_number (Fault (called_job bytes job)) match_order q p) z answered) in
            record {
              class_table =
                  subst (λ (l : List ℕ). ClassTable (graph_of (table_of bytes job)) (pairs_of (list_of bytes job)) l) row
                  (subst (λ (l : List ℕ). ClassTable (graph_of (table_of bytes job)) (pairs_of l) b.table) whole b.class_table);
              joins_counted = b.joins_counted ∙ ap (joins (graph_of (table_of bytes job))) row;
            };
        refused = λ z. (
          refused_joins answer z,
          m.refused z
              ∙ left-zeroed a (length (table_of bytes job)) class quiet
              ∙ behind (replicate (length (table_of bytes job)) 0)
              ∙ ap (λ (n : ℕ). replicate n 0) size,
        );
        room_left = room_reported a (report_of a p (joins_of answer) class_after) room (not-true (writes_nothing a) written) stored;
      })

  -- the same, as the stages say it
  pub host_lent : {t l : List ℕ} {answer : Matched} {class_after work_after after : List ℕ} {r : ℕ} → JobTaken bytes job list t l
      → MatchOf t l class work answer class_after work_after
      → (r ≡ number_of answer) × (after ≡ placed 0 (report_of (number_of answer) (place_of answer) (joins_of answer) class_after) room) → HostOf bytes job room r after
  host_lent {t} {l} {answer} {class_after} {work_after} copied m (e, stored) =
      host_matched
      (subst (λ (u : List ℕ). MatchOf (table_of bytes job) u class work answer class_after work_after) copied.1
      (subst (λ (u : List ℕ). MatchOf u l class work answer class_after work_after) copied.0 m))
      e
      stored

-- ---- the rows that are lent

-- rows of one size, and a work row of four times that, have room for a table of no more words
pub rows_fit : {n size list work : ℕ} → list ≡ list_room → n ≤ size → work ≡ 4 * size → RowsFit n size list size work
rows_fit lists fits works = (fits, lists, fits, omega arith)

-- the fronts of rows with room for it are just as long as it wants them, whatever the rows' own lengths
pub lent_fronts : {bytes : List ℕ} {job n p entries : ℕ} (table list class work : List ℕ) {room : List ℕ} → JobWith bytes job n p → Matchable n (length room) → RowsFit n (length table) (length list) (length class) (length work)
    → entries ≡ min (2 * p) (length list) → RowsOfJob bytes job (take n table) (take entries list) (take n class) (take (4 * n) work) room
lent_fronts {p = p} {entries} table list class work found o (tables, lists, classes, works) e =
    let long : length (take entries list) ≡ entries = length-take-le entries list (omega (arith, e)) in
    record {
      copied =
          record {
            there = found.there;
            words = length-take-le _ table tables ∙ found.words;
            pairs = omega (arith, e, long, found.pairs);
          };
      cut = long ∙ e ∙ ap (min (2 * p)) lists ∙ ap (λ (q : ℕ). min (2 * q) list_room) found.pairs;
      classes = length-take-le _ class classes ∙ found.words;
      works = length-take-le _ work works ∙ ap (λ (m : ℕ). 4 * m) found.words;
      some_word = omega (arith, o.some_word, found.words);
      few_words = omega (arith, o.few_words, found.words);
      enough = omega (arith, o.enough, found.words);
    }
