-- Which labels two variables of a table may share. Assumes nothing.
use Rattle.std.specs.Prelude.{◌≡◌, List, ℕ}
use Rattle.words.specs.Word.{unnamed}
use Rattle.table.specs.Table.{content_at}
use Rattle.table.specs.Faults.{StoodEarlier}

-- Every variable whose label stood earlier has label 0.
abbrev pub OnlyUnnamedRepeat : List ℕ → Type 0
OnlyUnnamedRepeat t = (a : ℕ) → StoodEarlier t a → content_at t a ≡ unnamed

-- No variable whose label stood earlier has label 0: no two variables have it.
abbrev pub UnnamedOnce : List ℕ → Type 0
UnnamedOnce t = (a : ℕ) → StoodEarlier t a → content_at t a ≡ unnamed → ⊥
