-- `cycles::path::pass_over` meets its contract: what a search of the library's finds among the edges. Assumes nothing.
use Rattle.std.proofs.Common.{rules, true, false}
use Rattle.std.proofs.lemmas.Iterator.{first_from_Range}
use Rattle.cycles.proofs.Passing.{passed, open_there}
use Rattle.cycles.proofs.path.pass_over.Goals as goal

pub returns : goal.returns
returns c =
    passed c.requires.0 c.requires.1 c.args.x c.edge_count-count.ensures c.requires.3 _
    (first_from_Range _ _ _ _ _ _ c.find.ensures.ran
    (λ k q called. search (rules, open_there c.args.table.now c.args.class.now c.args.work.now c.args.x k true))
    (λ k q called. search (rules, open_there c.args.table.now c.args.class.now c.args.work.now c.args.x k false)))
