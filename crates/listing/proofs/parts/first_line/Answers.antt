-- `listing::parts::first_line` meets its contract. Assumes nothing.
use Rattle.listing.proofs.PartLaws.{header_first, refusal_first}
use Rattle.listing.proofs.parts.first_line.Goals as goal

pub returns-in-Ok : goal.returns-in-Ok
returns-in-Ok c = record { counts = c.header_line.ensures.counts; text_in = header_first c.in-Ok.ensures c.header_line.ensures.line_in }

pub returns-in-Err : goal.returns-in-Err
returns-in-Err c = record { counts = c.file_line.ensures.counts; text_in = refusal_first _ c.in-Err.ensures c.file_line.ensures.line_in }
