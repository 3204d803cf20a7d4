-- Certificates for the rows of a sheet, and the test of a row by its certificate. All of it computes.
--
-- In order: the test of a table; the test of a list; certificates; the test of a row. What a row holds that passes is in Laws.
-- Assumes nothing.
use mathlib.Core.Bool.{Bool, true, false, not}
use mathlib.Core.List.{List, [], ◌∷◌}
use Rattle.std.specs.Prelude.{Option, None, Some}
use Prim.Native.Nat.{ℕ, ◌+◌}
use lib.Dec.{eqb, leb, ltb}
use lib.ListN.{length, take, drop}
use Rattle.words.specs.Limits.{most_words, most_entries}
use Rattle.words.specs.Word.{unnamed, same_kind}
use Rattle.words.specs.declared.kind.Kind.{Kind}
use Rattle.graphs.specs.Graph.{Symbols, Graph}
use Rattle.graphs.specs.Partition.{Pair, pairs_of, joins}
use Rattle.graphs.specs.Log.{◌and◌, Join, counts, Replayed, false_at, ends, replay, all_below, closed, ranked, clashes, Down, cycles, loops}
use Rattle.table.specs.Table.{TableSymbols, kind_at, content_at, graph_of}
use Rattle.table.specs.Layout.{item, break_from}
use Rattle.table.specs.Faults.{bad_word, bad_pointer, odd, bad_sides, pair_at}
use Rattle.sheet.specs.Sheet.{Example}

-- ---- the test of a table

unfoldable pub is_none : Option ℕ → Bool
is_none None = true
is_none (Some a) = false

unfoldable pub repeats_at : List ℕ → ℕ → ℕ → Bool
repeats_at t a b =
    same_kind (kind_at t a) Kind.Variable and same_kind (kind_at t b) Kind.Variable and eqb (content_at t b) (content_at t a) and not (eqb (content_at t a) unnamed)

-- the rows 1 and 3 to 6 do not apply to the table
unfoldable pub good_table : List ℕ → Bool
good_table t =
    counts (length t) most_words
    and all_below (λ a. not (bad_word t a)) (length t)
    and is_none (break_from item 1 (drop 1 t))
    and all_below (λ a. not (bad_pointer t a)) (length t)
    and all_below (λ a. all_below (λ b. not (repeats_at t a b)) a) (length t)

-- ---- the test of a list

-- the rows 8 and 9 do not apply to the list
unfoldable pub good_list : List ℕ → List ℕ → Bool
good_list t list =
    not (odd list) and leb (length list) most_entries and all_below (λ k. not (bad_sides t (pair_at (pairs_of list) k))) (length (pairs_of list))

-- ---- certificates

-- A log, and ranks for the row that it ends in.
pub record RowSettled : Type 0 where
  pub log : List Join
  pub ranks : List ℕ

-- Places of pairs are counted from 0.
pub data Certificate : Type 0 where
  -- ways down from a node back to it
  loop : List Down → Certificate
  -- the whole list settled
  settles : RowSettled → Certificate
  -- the pairs before a place settled; a log of the pairs up to it; two nodes that it joins
  clash : ℕ → RowSettled → List Join → ℕ → ℕ → Certificate
  -- the pairs before a place settled; a log of the pairs up to it; ways down from a class back to it
  cycle : ℕ → RowSettled → List Join → List Down → Certificate

unfoldable pub ends_in : Replayed → (List ℕ → Bool) → Bool
ends_in (false_at k) test = false
ends_in (ends row) test = test row

-- the log ends in a closed row, with ranks that fall from class to class
unfoldable pub settled : {S : Symbols} → Graph S → List Pair → RowSettled → (List ℕ → Bool) → Bool
settled G pairs s test = ends_in (replay G pairs s.log) (λ row. closed G pairs row and ranked G row s.ranks and test row)

-- ---- the test of a row

unfoldable pub same_row : List ℕ → List ℕ → Bool
same_row [] [] = true
same_row [] (y ∷ ys) = false
same_row (x ∷ xs) [] = false
same_row (x ∷ xs) (y ∷ ys) = eqb x y and same_row xs ys

unfoldable pub answers : Example → ℕ → ℕ → Bool
answers e answer place = eqb e.answer answer and eqb e.place place

unfoldable pub nothing_made : Example → Bool
nothing_made e = same_row e.entries [] and eqb e.joins 0

abbrev pub graph_in : Example → Graph TableSymbols
graph_in e = graph_of e.table

abbrev pub pairs_in : Example → List Pair
pairs_in e = pairs_of e.list

unfoldable pub makes : Example → List ℕ → Bool
makes e row = same_row row e.entries and eqb (joins (graph_in e) row) e.joins

-- the pairs before a place are settled, and nothing else is wrong
unfoldable pub settled_before : Example → ℕ → RowSettled → Bool
settled_before e i s =
    good_table e.table and good_list e.table e.list and nothing_made e and ltb i (length (pairs_in e)) and settled (graph_in e) (take i (pairs_in e)) s (λ row. true)

unfoldable pub passes : Example → Certificate → Bool
passes e (loop ways) = answers e 7 0 and good_table e.table and nothing_made e and loops (graph_in e) ways
passes e (settles s) = answers e 0 0 and good_table e.table and good_list e.table e.list and settled (graph_in e) (pairs_in e) s (makes e)
passes e (clash i before log x y) =
    answers e 10 (i + 1) and settled_before e i before and ends_in (replay (graph_in e) (take (i + 1) (pairs_in e)) log) (λ row. clashes (graph_in e) row x y)
passes e (cycle i before log ways) =
    answers e 11 (i + 1) and settled_before e i before
    and ends_in (replay (graph_in e) (take (i + 1) (pairs_in e)) log) (λ row. closed (graph_in e) (take (i + 1) (pairs_in e)) row and cycles (graph_in e) row ways)

-- each row passes by the certificate at its place
unfoldable pub all_pass : List Example → List Certificate → Bool
all_pass [] [] = true
all_pass [] (c ∷ cs) = false
all_pass (e ∷ es) [] = false
all_pass (e ∷ es) (c ∷ cs) = passes e c and all_pass es cs
