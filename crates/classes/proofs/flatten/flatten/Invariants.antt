-- `classes::flatten::flatten` meets its contract. The loop's invariant is `Flat`: the entries passed so far are roots. Assumes
-- nothing.
use Rattle.classes.proofs.Flat.{Flat}
use Rattle.classes.proofs.flatten.flatten.Given as goal

abbrev pub invariant-loop-x : goal.invariant-loop-x
invariant-loop-x l = Flat l.table l.initial.class l.class l.x
