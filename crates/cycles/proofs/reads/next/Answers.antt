-- `cycles::reads::next` meets its contract: it reads the class row at the child. Assumes nothing.
use native.Mathlib.Omega.{arith}
use Rattle.table.proofs.Readable.{argument_inside, child_inside, degree_small}
use Rattle.cycles.proofs.reads.next.Goals as goal

pub overflow_cast-x : goal.overflow_cast-x
overflow_cast-x c = omega (arith, argument_inside c.requires.0.readable c.args.x c.args.i c.requires.1, c.requires.0.readable.small)

pub overflow_cast-i : goal.overflow_cast-i
overflow_cast-i c = omega (arith, degree_small c.requires.0.readable c.args.x, c.requires.1)

pub bounds-class-child : goal.bounds-class-child
bounds-class-child c = omega (arith, c.child-child.ensures, child_inside c.requires.0.readable c.args.x c.args.i c.requires.1, c.requires.0.row_room)
