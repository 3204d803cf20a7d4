-- `shape::word_fault::is_bad_word` meets its contract, by the two laws of a word at 0 and of a later one. Assumes nothing.
use Rattle.shape.proofs.WordLaws.{first_word, later_word}
use Rattle.shape.proofs.word_fault.is_bad_word.Goals as goal

pub returns-then-at-eq0 : goal.returns-then-at-eq0
returns-then-at-eq0 c = first_word c.args.table.now c.args.at c.if-at-eq0.true

pub returns : goal.returns
returns c = later_word c.args.table.now c.args.at
    c.if-at-eq0.false c.kind.ensures c.content.ensures c.is_bad_kind.ensures
