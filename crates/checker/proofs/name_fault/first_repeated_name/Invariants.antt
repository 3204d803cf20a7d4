-- `checker::name_fault::first_repeated_name` meets its contract. The loop's invariant:
-- no address passed repeats a name, and the work row holds the chains of the variables passed. Assumes nothing.
use Rattle.checker.proofs.NameLaws.{NoneYet}
use Rattle.checker.proofs.name_fault.first_repeated_name.Given as goal

abbrev pub invariant-loop-at : goal.invariant-loop-at
invariant-loop-at l = NoneYet l.table l.initial.work l.work l.at
