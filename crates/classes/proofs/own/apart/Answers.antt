-- `classes::own::apart` meets its contract. The loop's invariant is `Built`: the row is made from the front. Assumes nothing.
use mathlib.Core.Path.{refl, sym, ap, ◌∙◌}
use mathlib.Core.Bool.{Bool, cond}
use Rattle.rows.proofs.Laws.{built_none}
use Rattle.classes.proofs.OwnClasses.{apart_long, apart_more}
use Rattle.classes.proofs.own.apart.Goals as goal
use Rattle.classes.proofs.own.apart.Goals.{then-is_node_word, else-is_node_word}

pub loop-x-init : goal.loop-x-init
loop-x-init c = built_none (apart_long c.args.table.now) c.requires.0

pub loop-x-preserved : goal.loop-x-preserved
loop-x-preserved c =
    elim c.if-is_node_word.branch [
      | then-is_node_word w ↦ apart_more c.args.table.now c.loop-x.invariant c.loop-x-test.true c.is_node_word.ensures (w.class-is ∙ sym (ap (λ (b : Bool). cond b c.loop-x.x 0) w.if-is_node_word.true)) refl
      | else-is_node_word w ↦ apart_more c.args.table.now c.loop-x.invariant c.loop-x-test.true c.is_node_word.ensures (w.class-is ∙ sym (ap (λ (b : Bool). cond b c.loop-x.x 0) w.if-is_node_word.false)) refl
    ]
