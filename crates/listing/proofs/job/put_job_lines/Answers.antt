-- `listing::job::put_job_lines` meets its contract: the rows have room for all words or pairs of a file. Assumes nothing.
use mathlib.Core.Path.{sym, refl}
use native.Mathlib.Omega.{arith}
use lib.Seq.{length-take-le}
use Rattle.listing.proofs.JobLaws.{job_fits, rows_for_job}
use borrow.Author.Rules.{rules}
use Rattle.listing.proofs.job.put_job_lines.Goals as goal

pub slice_bounds-table-end : goal.slice_bounds-table-end
slice_bounds-table-end c = omega (arith, (job_fits c.args.job.is_there.there).0, c.args.job.is_there.words)

pub slice_bounds-match_job-end : goal.slice_bounds-match_job-end
slice_bounds-match_job-end c = sym (length-take-le _ _ (omega (arith, (job_fits c.args.job.is_there.there).0, c.args.job.is_there.words)))

pub slice_bounds-list-end : goal.slice_bounds-list-end
slice_bounds-list-end c = omega (arith, (job_fits c.args.job.is_there.there).1, c.args.job.is_there.pairs)

pub slice_bounds-match_job-end-2 : goal.slice_bounds-match_job-end-2
slice_bounds-match_job-end-2 c = sym (length-take-le _ _ (omega (arith, (job_fits c.args.job.is_there.there).1, c.args.job.is_there.pairs)))

pub match_job-requires : goal.match_job-requires
match_job-requires c = rows_for_job _ _ c.args.job.is_there.there c.args.job.is_there.words c.args.job.is_there.pairs refl (omega (arith, (job_fits c.args.job.is_there.there).0, c.args.job.is_there.words)) (omega (arith, (job_fits c.args.job.is_there.there).1, c.args.job.is_there.pairs)) (search rules) (search rules)
