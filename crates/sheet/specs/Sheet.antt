-- Document 01's "Sheet of examples", P1 to P10, as one list of rows, with example 1 of document 000 and one of unnamed variables
-- behind them; and the one statement that each row makes. The sentences quoted are document 01's. Assumes nothing.
use Rattle.std.specs.Prelude.{◌≡◌, List, [], ◌∷◌, ℕ, ◌*◌, ◌≤◌, length}
use Rattle.words.specs.Word.{word_of, tag_number}
use Rattle.words.specs.declared.kind.Kind.{Kind}
use Rattle.graphs.specs.Partition.{pairs_of, ClassTable, joins as joins_of}
use Rattle.table.specs.Table.{graph_of}
use Rattle.answering.specs.Answers.{Answered}
use Rattle.table.specs.Faults.{Job, sent, Fault, number, match_order}

-- ---- words

-- "A word is tag x 65,536 + content". A table is written below as document 01 writes it.
abbrev pub variable : ℕ → ℕ
variable label = word_of (tag_number Kind.Variable) label

abbrev pub constant : ℕ → ℕ
constant label = word_of (tag_number Kind.Constant) label

abbrev pub function : ℕ → ℕ
function label = word_of (tag_number Kind.Function) label

abbrev pub pointer : ℕ → ℕ
pointer address = word_of (tag_number Kind.Pointer) address

abbrev pub count : ℕ → ℕ
count k = word_of (tag_number Kind.Count) k

-- ---- tables

-- "Word 0 is the number 0": the items stand behind it.
abbrev pub table_with : List ℕ → List ℕ
table_with items = 0 ∷ items

-- "Example A, addresses 1 to 16 (n = 17): function 1, count 3, variable 1, variable 2, pointer 6; function 2, count 1, pointer 3;
-- function 1, count 3, constant 3, pointer 14, pointer 4; function 2, count 1, variable 3."
abbrev pub example_a : List ℕ
example_a =
    table_with
    (function 1 ∷ count 3 ∷ variable 1 ∷ variable 2 ∷ pointer 6
    ∷ function 2 ∷ count 1 ∷ pointer 3
    ∷ function 1 ∷ count 3 ∷ constant 3 ∷ pointer 14 ∷ pointer 4
    ∷ function 2 ∷ count 1 ∷ variable 3 ∷ [])

-- "Example B (n = 4): function 1, count 1, variable 1."
abbrev pub example_b : List ℕ
example_b = table_with (function 1 ∷ count 1 ∷ variable 1 ∷ [])

-- "Example C (n = 4): constant 1, constant 2, variable 1."
abbrev pub example_c : List ℕ
example_c = table_with (constant 1 ∷ constant 2 ∷ variable 1 ∷ [])

-- Document 000, Fig. 4 (b), addresses 1 to 15, with numbers for its labels: f is 1, g is 2, a is 3; X1, X2, Y1, Y2 are 1 to 4.
abbrev pub figure4b : List ℕ
figure4b =
    table_with
    (function 1 ∷ count 4 ∷ variable 1 ∷ variable 2 ∷ constant 3 ∷ pointer 3
    ∷ function 1 ∷ count 4 ∷ constant 3 ∷ pointer 13 ∷ variable 4 ∷ pointer 11
    ∷ function 2 ∷ count 1 ∷ variable 3 ∷ [])

-- Addresses 1 to 4 (n = 5): variable 0, variable 0, constant 1, constant 2.
abbrev pub two_unnamed : List ℕ
two_unnamed = table_with (variable 0 ∷ variable 0 ∷ constant 1 ∷ constant 2 ∷ [])

-- ---- rows

-- A row of the sheet: what is sent, and what comes back.
pub record Example : Type 0 where
  pub table : List ℕ
  pub list : List ℕ
  pub answer : ℕ
  pub place : ℕ
  pub joins : ℕ
  pub entries : List ℕ

abbrev pub accepted : List ℕ → List ℕ → List ℕ → ℕ → Example
accepted table list entries joins = record { table = table; list = list; answer = 0; place = 0; joins = joins; entries = entries }

-- "Joins is 0 on refusal." A refused row has no class entries.
abbrev pub refused : List ℕ → List ℕ → ℕ → ℕ → Example
refused table list answer place = record { table = table; list = list; answer = answer; place = place; joins = 0; entries = [] }

abbrev pub examples : List Example
examples =
    -- "P1. A, (1,9): class entries 0 1 0 11 6 0 6 0 0 1 0 11 0 0 6 0 11; joins 5."
    accepted example_a (1 ∷ 9 ∷ []) (0 ∷ 1 ∷ 0 ∷ 11 ∷ 6 ∷ 0 ∷ 6 ∷ 0 ∷ 0 ∷ 1 ∷ 0 ∷ 11 ∷ 0 ∷ 0 ∷ 6 ∷ 0 ∷ 11 ∷ []) 5
    -- "P2. B, (1,3): 11, place 1."
    ∷ refused example_b (1 ∷ 3 ∷ []) 11 1
    -- "P3. B, (3,3): 0 1 0 3, joins 0."
    ∷ accepted example_b (3 ∷ 3 ∷ []) (0 ∷ 1 ∷ 0 ∷ 3 ∷ []) 0
    -- "P4. C, (3,1): 0 1 2 1, joins 1."
    ∷ accepted example_c (3 ∷ 1 ∷ []) (0 ∷ 1 ∷ 2 ∷ 1 ∷ []) 1
    -- "P5. C, (3,1),(3,2): 10, place 2."
    ∷ refused example_c (3 ∷ 1 ∷ 3 ∷ 2 ∷ []) 10 2
    -- "P6. C, (1,2): 10, place 1."
    ∷ refused example_c (1 ∷ 2 ∷ []) 10 1
    -- "P7. C, no pairs: 0 1 2 3, joins 0."
    ∷ accepted example_c [] (0 ∷ 1 ∷ 2 ∷ 3 ∷ []) 0
    -- "P8. Function 1, count 2, variable 1, constant 1; function 1, count 2, pointer 1, constant 2; pair (1,5): both faults in one
    -- pair, 10, place 1."
    ∷ refused (table_with (function 1 ∷ count 2 ∷ variable 1 ∷ constant 1 ∷ function 1 ∷ count 2 ∷ pointer 1 ∷ constant 2 ∷ [])) (1 ∷ 5 ∷ []) 10 1
    -- "P9. Function 5, count 1, variable 1; function 5, count 2, variable 2, variable 3; pair (1,4): 10, place 1."
    ∷ refused (table_with (function 5 ∷ count 1 ∷ variable 1 ∷ function 5 ∷ count 2 ∷ variable 2 ∷ variable 3 ∷ [])) (1 ∷ 4 ∷ []) 10 1
    -- "P10. Function 1, count 1, pointer 1: 7, place 0."
    ∷ refused (table_with (function 1 ∷ count 1 ∷ pointer 1 ∷ [])) [] 7 0
    -- Document 000's example 1, Fig. 4 (b), pair (1,7): class entries 0 1 0 5 13 5 0 1 0 5 0 5 0 13 0 15, joins 5.
    ∷ accepted figure4b (1 ∷ 7 ∷ []) (0 ∷ 1 ∷ 0 ∷ 5 ∷ 13 ∷ 5 ∷ 0 ∷ 1 ∷ 0 ∷ 5 ∷ 0 ∷ 5 ∷ 0 ∷ 13 ∷ 0 ∷ 15 ∷ []) 5
    -- Document 02, E1: "such words may repeat", and "every one is a different variable": two of label 0, one for each constant.
    ∷ accepted two_unnamed (1 ∷ 3 ∷ 2 ∷ 4 ∷ []) (0 ∷ 3 ∷ 4 ∷ 3 ∷ 4 ∷ []) 2
    ∷ []

-- ---- the statement

-- A row's job, with `class_room` class entries and `work_room` work entries.
abbrev pub job_with : Example → ℕ → ℕ → Job
job_with e class_room work_room = sent e.table e.list class_room work_room

-- What a row says. Document 01's table of numbers gives the answer and the place, whatever room there is, so long as there is
-- enough; an accepted list has the row's entries for its class table, and they make the row's joins; a refusal has neither.
pub record RowHolds (e : Example) : Type 0 where
  pub answered : (class_room work_room : ℕ) → length e.table ≤ class_room → 4 * length e.table ≤ work_room
      → Answered number (Fault (job_with e class_room work_room)) match_order e.answer e.place
  pub if_accepted : e.answer ≡ 0 → ClassTable (graph_of e.table) (pairs_of e.list) e.entries × (joins_of (graph_of e.table) e.entries ≡ e.joins)
  pub if_refused : (e.answer ≡ 0 → ⊥) → (e.entries ≡ []) × (e.joins ≡ 0)
