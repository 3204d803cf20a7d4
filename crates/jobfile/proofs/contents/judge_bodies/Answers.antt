-- `jobfile::contents::judge_bodies` meets its contract.
-- Assumes nothing.
use mathlib.Core.Path.{sym, ◌∙◌}
use native.Mathlib.Omega.{arith}
use Rattle.jobfile.proofs.ReaderLaws.{walked_none, walked_more, bodies_wrong, bodies_past, bodies_follow}
use Rattle.jobfile.proofs.contents.judge_bodies.Goals as goal

pub loop-k-init : goal.loop-k-init
loop-k-init c = walked_none c.requires

pub returns-then-number-start : goal.returns-then-number-start
returns-then-number-start c = bodies_wrong c.loop-k.invariant (omega arith) (λ e. c.if-number-start.true (c.number.ensures.0 ∙ e))

pub returns-then-file-end : goal.returns-then-file-end
returns-then-file-end c = bodies_past c.loop-k.invariant (omega arith) c.body_size.ensures.0 c.if-file-end.true

pub loop-k-preserved : goal.loop-k-preserved
loop-k-preserved c = walked_more c.loop-k.invariant (omega arith) (sym c.number.ensures.0 ∙ c.if-number-start.false) c.body_size.ensures.0 c.if-file-end.false

pub returns-then-start-file : goal.returns-then-start-file
returns-then-start-file c = bodies_follow c.loop-k.invariant c.requires.counted (omega arith) c.if-start-file.true
