-- `classes::meet::meet_ordered` meets its contract: what the heads say is what the step does.
-- Assumes nothing.
use native.Mathlib.Omega.{arith}
use Rattle.classes.specs.Steps.Meeting.{went_on, clashed}
use Rattle.classes.proofs.Heads.{said_at}
use Rattle.classes.proofs.Linked.{room_to_wait, joined_moved, pushed_at, clash_stopped}
use Rattle.classes.proofs.meet.meet_ordered.Goals as goal

pub head-requires : goal.head-requires
head-requires c = (c.requires.0.readable, c.requires.0.well_formed.inside _ c.requires.2.name_node)

pub head-requires-2 : goal.head-requires-2
head-requires-2 c = (c.requires.0.readable, c.requires.0.well_formed.inside _ c.requires.2.later_node)

pub push-requires : goal.push-requires
push-requires c = let w : _ = room_to_wait c.requires.0 c.requires.1 c.requires.2 in
    (omega (arith, w, c.requires.1.work_room), omega (arith, w, c.requires.0.readable.small))

pub returns-in-Joined : goal.returns-in-Joined
returns-in-Joined c = λ owed. went_on (joined_moved c.requires.0 c.requires.1 c.requires.2
    (said_at c.requires.0.readable _ _ c.requires.2.name_node c.requires.2.later_node c.head.ensures c.head-2.ensures c.meet.ensures c.in-Joined.is) owed)

pub returns-in-JoinedGoDown : goal.returns-in-JoinedGoDown
returns-in-JoinedGoDown c = λ owed. went_on (pushed_at c.requires.0 c.requires.1 c.requires.2
    (said_at c.requires.0.readable _ _ c.requires.2.name_node c.requires.2.later_node c.head.ensures c.head-2.ensures c.meet.ensures
    c.in-JoinedGoDown.is)
    c.push.ensures owed)

pub returns-in-Clash : goal.returns-in-Clash
returns-in-Clash c = λ owed. clashed (clash_stopped c.requires.0 c.requires.1 c.requires.2
    (said_at c.requires.0.readable _ _ c.requires.2.name_node c.requires.2.later_node c.head.ensures c.head-2.ensures c.meet.ensures c.in-Clash.is) owed)
