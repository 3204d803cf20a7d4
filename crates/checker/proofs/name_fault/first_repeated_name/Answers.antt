-- `checker::name_fault::first_repeated_name` meets its contract: the chains begin in a row that has room for them. Assumes nothing.
use Rattle.table.proofs.Readable.{word_0}
use Rattle.checker.proofs.name_fault.first_repeated_name.Goals as goal

pub begin_chains-requires : goal.begin_chains-requires
begin_chains-requires c = (c.requires.0.small, c.requires.1, word_0 c.requires.0)
