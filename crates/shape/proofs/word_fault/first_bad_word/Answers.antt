-- `shape::word_fault::first_bad_word` meets its contract, by the law of a search below n. Assumes nothing.
use Rattle.std.proofs.Common.{rules, tests}
use Rattle.std.proofs.lemmas.Iterator.{first_from_Range}
use Rattle.shape.proofs.Search.{found_in_range}
use Rattle.shape.proofs.word_fault.first_bad_word.Goals as goal

pub returns : goal.returns
returns c = found_in_range _ _ _ (first_from_Range _ _ _ _ _ _ c.find.ensures.ran (λ x q k. search (rules, tests)) (λ x q k. search (rules, tests)))
