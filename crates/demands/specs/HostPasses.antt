-- A job of a file that passes all checks. The sentence quoted is the third demand's. Assumes nothing.
use Rattle.std.specs.Prelude.{List, ◌++◌, map, ℕ}
use Rattle.answering.specs.Answers.{NoneOf}
use Rattle.table.specs.Faults.{table_rows, list_rows}
use Rattle.host.specs.Host.{of_match, HostFault, early_order}

-- "For a table, list and buffers that pass all checks": of the rows of the host call none applies but, it may be, 10 and 11.
abbrev pub HostPasses : List ℕ → ℕ → List ℕ → Type 0
HostPasses bytes job room = NoneOf (HostFault bytes job room) (early_order ++ map of_match (table_rows ++ list_rows))
