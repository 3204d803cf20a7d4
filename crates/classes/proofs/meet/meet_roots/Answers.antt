-- `classes::meet::meet_roots` meets its contract: the roots meet in the naming order.
-- Assumes nothing.
use Rattle.classes.proofs.InOrder.{left_first, right_first, meets_turned, ordered_as, meets_as}
use Rattle.classes.proofs.meet.meet_roots.Goals as goal
use Rattle.classes.proofs.meet.meet_roots.Goals.{then-key, else-key}

pub key-requires : goal.key-requires
key-requires c = (c.requires.0.readable, c.requires.0.well_formed.inside _ c.requires.2.left_node)

pub key-requires-2 : goal.key-requires-2
key-requires-2 c = (c.requires.0.readable, c.requires.0.well_formed.inside _ c.requires.2.right_node)

pub meet_ordered-requires : goal.meet_ordered-requires
meet_ordered-requires c = (
  c.requires.0,
  c.requires.1,
  elim c.if-key.branch [
    | then-key w ↦ ordered_as (assumption) (left_first c.requires.0 c.requires.2 c.key.ensures c.key-2.ensures w.if-key.true)
    | else-key w ↦ ordered_as (assumption) (right_first c.requires.0 c.requires.2 c.key.ensures c.key-2.ensures w.if-key.false)
  ],
)

pub returns : goal.returns
returns c =
    elim c.if-key.branch [
      | then-key w ↦ meets_as (assumption) c.meet_ordered.ensures
      | else-key w ↦ meets_turned c.requires.1 (meets_as (assumption) c.meet_ordered.ensures)
    ]
