-- What a check gives: what those go by that come after it, and the leaves through which they read. Assumes nothing.
use Rattle.std.specs.Prelude.{◌≡◌, true, None, List, ℕ, ◌≤◌, ◌<◌, length, drop}
use Rattle.words.specs.Limits.{most_words}
use Rattle.graphs.specs.Graph.{WellFormed}
use Rattle.table.specs.Table.{graph_of}
use Rattle.table.specs.Layout.{item, break_from}
use Rattle.table.specs.Faults.{bad_word, bad_pointer}

-- A table that can be read: none of the rows 1, 3, 4 and 5 applies to it.
pub record Readable (t : List ℕ) : Type 0 where
  pub some_word : 0 < length t
  pub small : length t ≤ most_words
  pub words : (a : ℕ) → a < length t → bad_word t a ≡ true → ⊥
  pub whole : break_from item 1 (drop 1 t) ≡ None
  pub pointers : (a : ℕ) → a < length t → bad_pointer t a ≡ true → ⊥

-- A table that passed its check: it can be read, and its graph is well_formed; no node reaches itself.
pub record PassedCheck (t : List ℕ) : Type 0 where
  pub readable : Readable t
  pub well_formed : WellFormed (graph_of t)
