-- `checker::name_fault::stood_earlier` meets its contract. The loop's invariant: each earlier variable of the label
-- is in what is left of the chain. Links fall, so the measure is the address that the walk has come to. Assumes nothing.
use mathlib.Core.Path.{refl, sym, ◌∙◌}
use borrow.Author.Tests.{eqb-false}
use Rattle.checker.proofs.ChainLaws.{walk_goes_on}
use Rattle.checker.proofs.name_fault.stood_earlier.Goals as goal

pub loop-earlier-preserved : goal.loop-earlier-preserved
loop-earlier-preserved c = walk_goes_on c.requires.0.chains c.loop-earlier.invariant c.loop-earlier-test.true
    (λ e. eqb-false _ _ (sym c.eq.ensures ∙ c.if-eq.false) (c.label_at.ensures ∙ e)) refl
