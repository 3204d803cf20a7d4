-- `classes::meet::meet` meets its contract: the pair moves on to its roots, and these meet.
-- Assumes nothing.
use mathlib.Core.Path.{sym, ◌∙◌}
use Rattle.std.proofs.lemmas.Bool.{eqb-true, eqb-false}
use Rattle.classes.specs.Steps.Meeting.{went_on}
use Rattle.classes.proofs.Links.{shorter_forest}
use Rattle.classes.proofs.Moves.{turned_after}
use Rattle.classes.proofs.Shortened.{roots_state, two_roots, roots_nodes, roots_moved, same_root_moved}
use Rattle.classes.proofs.meet.meet.Goals as goal

pub root-a-requires : goal.root-a-requires
root-a-requires c = (c.requires.1.forest, c.requires.0.well_formed.inside _ c.requires.2)

pub root-b-requires : goal.root-b-requires
root-b-requires c = (shorter_forest c.requires.1.forest c.root-a.ensures.shorter, c.requires.0.well_formed.inside _ c.requires.3)

pub returns-then-eq : goal.returns-then-eq
returns-then-eq c = λ owed. went_on (same_root_moved c.requires.0 c.requires.1 c.root-a.ensures c.root-b.ensures c.requires.2 c.requires.3 (eqb-true _ _ (sym c.eq.ensures ∙ c.if-eq.true)) owed)

pub meet_roots-requires : goal.meet_roots-requires
meet_roots-requires c = (
  c.requires.0,
  roots_state c.requires.0 c.requires.1 c.root-a.ensures c.root-b.ensures c.requires.2 c.requires.3,
  two_roots (roots_nodes c.requires.0 c.requires.1 c.root-a.ensures c.root-b.ensures c.requires.2 c.requires.3) (eqb-false _ _ (sym c.eq.ensures ∙ c.if-eq.false)),
)

pub returns : goal.returns
returns c = λ owed. turned_after (roots_moved c.requires.0 c.requires.1 c.root-a.ensures c.root-b.ensures c.requires.2 c.requires.3 owed) (c.meet_roots.ensures owed)
