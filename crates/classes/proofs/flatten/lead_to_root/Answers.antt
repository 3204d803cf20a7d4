-- `classes::flatten::lead_to_root` meets its contract: the entry was a root, or is the root that was found.
-- Assumes nothing.
use borrow.Author.Rules.{rules}
use Rattle.classes.proofs.Flat.{led_already, led_now}
use Rattle.classes.proofs.flatten.lead_to_root.Goals as goal

pub returns-then-ne : goal.returns-then-ne
returns-then-ne c = led_now c.requires.0 c.requires.1 c.root-name.ensures

pub returns-else-ne : goal.returns-else-ne
returns-else-ne c = led_already c.up-above.ensures c.up-higher.ensures (search rules)
