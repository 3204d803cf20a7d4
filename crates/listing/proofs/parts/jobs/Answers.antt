-- `listing::parts::jobs` meets its contract. Assumes nothing.
use Rattle.listing.proofs.PartLaws.{jobs_told}
use Rattle.listing.proofs.parts.jobs.Goals as goal

pub returns : goal.returns
returns c = jobs_told _ c.read.ensures
