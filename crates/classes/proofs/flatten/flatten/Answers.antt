-- `classes::flatten::flatten` meets its contract. The loop's invariant is `Flat`: the entries passed so far are roots. Assumes
-- nothing.
use borrow.Author.Rules.{rules}
use Rattle.classes.proofs.Flat.{flat_none, flat_forest, flat_more, flat_all}
use Rattle.classes.proofs.flatten.flatten.Goals as goal

pub loop-x-init : goal.loop-x-init
loop-x-init c = flat_none c.requires.0

pub lead_to_root-requires : goal.lead_to_root-requires
lead_to_root-requires c = (flat_forest c.loop-x.invariant, search rules)

pub loop-x-preserved : goal.loop-x-preserved
loop-x-preserved c = flat_more c.loop-x.invariant (search rules) c.lead_to_root.ensures

pub returns : goal.returns
returns c = flat_all c.loop-x.invariant c.loop-x-test.false
