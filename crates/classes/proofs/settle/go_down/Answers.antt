-- `classes::settle::go_down` meets its contract. The loop's invariant: the children before place i have met, and those from i on are
-- still to meet. Assumes nothing.
use mathlib.Core.Path.{sym, subst}
use native.Mathlib.Omega.{arith}
use Rattle.graphs.specs.Graph.{Node, symbol_node}
use Rattle.table.specs.Table.{graph_of}
use Rattle.classes.proofs.Symbols.{one_symbol_degree, child_node}
use Rattle.classes.proofs.Moves.{err_turned}
use Rattle.classes.proofs.Down.{going_starts, going_state, going_on, going_stops, going_ends}
use Rattle.classes.proofs.settle.go_down.Goals as goal

pub degree-i-end-requires : goal.degree-i-end-requires
degree-i-end-requires c = (c.requires.0.readable, c.requires.0.well_formed.inside _ (symbol_node c.requires.2.left_head))

pub loop-i-init : goal.loop-i-init
loop-i-init c = going_starts _ _ _ c.requires.1

pub child-left-requires : goal.child-left-requires
child-left-requires c = (c.requires.0.readable, omega (arith, c.degree-i-end.ensures))

pub child-right-requires : goal.child-right-requires
child-right-requires c = (c.requires.0.readable, omega (arith, c.degree-i-end.ensures, one_symbol_degree _ c.requires.0.well_formed c.requires.2))

pub meet-requires : goal.meet-requires
meet-requires c = (
  c.requires.0,
  going_state c.loop-i.invariant,
  subst (Node (graph_of c.args.table.now)) (sym c.child-left.ensures) (child_node _ c.requires.0.well_formed _ _ (omega (arith, c.degree-i-end.ensures))),
  subst (Node (graph_of c.args.table.now)) (sym c.child-right.ensures)
      (child_node _ c.requires.0.well_formed _ _ (omega (arith, c.degree-i-end.ensures, one_symbol_degree _ c.requires.0.well_formed c.requires.2))),
)

pub returns-in_err-waits : goal.returns-in_err-waits
returns-in_err-waits c = λ owed. err_turned _ c.from_residual.ensures.0 (going_stops c.loop-i.invariant (omega (arith, c.degree-i-end.ensures)) c.child-left.ensures c.child-right.ensures c.meet.ensures c.in_err-waits.was owed)

pub loop-i-preserved : goal.loop-i-preserved
loop-i-preserved c = going_on c.loop-i.invariant (omega (arith, c.degree-i-end.ensures)) c.child-left.ensures c.child-right.ensures c.meet.ensures c.in_ok-waits.was

pub returns : goal.returns
returns c = going_ends c.loop-i.invariant (omega (arith, c.degree-i-end.ensures))
