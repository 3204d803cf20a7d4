-- What the stages of a match promise each other. For this crate alone. Assumes nothing.
use Rattle.std.specs.Prelude.{◌≡◌, Bool, true, false, ◌⊎◌, List, ℕ, ◌*◌, ◌≤◌, ◌<◌, length}
use Rattle.words.specs.Limits.{most_entries}
use Rattle.graphs.specs.Graph.{Symbols, Graph}
use Rattle.graphs.specs.Partition.{Pair, pairs_of, Sides, Cycle}
use Rattle.table.specs.Table.{graph_of}
use Rattle.table.specs.Faults.{Job, odd}
use Rattle.table.specs.Readable.{PassedCheck}

-- "odd number of entries, or over 512", or neither
abbrev pub BadList : Bool → List ℕ → Type 0
BadList true list = (odd list ≡ true) ⊎ (most_entries < length list)
BadList false list = (odd list ≡ false) × (length list ≤ most_entries)

-- some class reaches itself, or none does
abbrev pub Cycles : {S : Symbols} → Bool → Graph S → List Pair → Type 0
Cycles true G pairs = Cycle G pairs
Cycles false G pairs = Cycle G pairs → ⊥

-- What a job has that passes all checks.
pub record PassedAll (job : Job) : Type 0 where
  pub passed : PassedCheck job.table
  pub class_enough : length job.table ≤ job.class_room
  pub work_enough : 4 * length job.table ≤ job.work_room
  pub even : odd job.list ≡ false
  pub few : length job.list ≤ most_entries
  pub sides : Sides (graph_of job.table) (pairs_of job.list)
