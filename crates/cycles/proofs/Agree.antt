-- The contract of the search leaves nothing open: two answers that it allows for the same rows are equal, and so are the two
-- work rows. Assumes nothing.
use mathlib.Core.Path.{◌≡◌, refl}
use mathlib.Core.Bool.{Bool, true, false}
use mathlib.Core.List.{List}
use Prim.Native.Nat.{ℕ}
use Rattle.rows.proofs.Laws.{equations_agree}
use Rattle.cycles.specs.Digraph.{Digraph, Returns, Searched}

-- no digraph both has a vertex that reaches itself and has none
pub returns_agree : (D : Digraph) (a b : Bool) → Returns a D → Returns b D → a ≡ b
returns_agree D true true p q = refl
returns_agree D true false p q = absurd (q p.0 p.1)
returns_agree D false true p q = absurd (p q.0 q.1)
returns_agree D false false p q = refl

pub searched_agree : {t row before after after' : List ℕ} {a b : Bool} → Searched t row before a after → Searched t row before b after'
    → (a ≡ b) × (after ≡ after')
searched_agree {a = a} {b = b} p q = (returns_agree _ a b p.truth q.truth, equations_agree p.cleared q.cleared)
