-- `classes::joining::join` meets its contract.
-- Assumes nothing.
use native.Mathlib.Omega.{arith}
use Rattle.rows.proofs.Laws.{filled_front}
use Rattle.classes.proofs.Outcomes.{starting_state, clash_joined, all_joined_flat, flattens}
use Rattle.classes.proofs.joining.join.Goals as goal

pub join_each-joined-requires : goal.join_each-joined-requires
join_each-joined-requires c = (c.requires.1.passed, starting_state c.requires, c.requires.1.sides, c.requires.1.numbered)

pub flatten-requires : goal.flatten-requires
flatten-requires c = (flattens c.join_each-joined.ensures c.in-Ok.is, c.requires.1.passed.readable.small)

pub returns-in-Ok : goal.returns-in-Ok
returns-in-Ok c = all_joined_flat c.join_each-joined.ensures c.in-Ok.is c.flatten.ensures
    (filled_front _ _ _ (omega (arith, c.requires.1.work_enough, c.join_each-joined.auto.work)) (c.fill.ensures.after (λ y e. e)))

pub returns-in-Err : goal.returns-in-Err
returns-in-Err c = clash_joined c.join_each-joined.ensures c.in-Err.is
    (filled_front _ _ _ (omega (arith, c.requires.1.class_room, c.join_each-joined.auto.class)) (c.fill-in-Err.ensures.after (λ y e. e)))
    (filled_front _ _ _ (omega (arith, c.requires.1.work_enough, c.join_each-joined.auto.work)) (c.fill.ensures.after (λ y e. e)))
