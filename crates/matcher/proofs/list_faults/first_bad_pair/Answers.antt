-- `matcher::list_faults::first_bad_pair` meets its contract. Assumes nothing.
use mathlib.Core.Path.{◌≡◌, subst}
use mathlib.Core.Bool.{Bool, true, false}
use Prim.Native.Nat.{ℕ}
use borrow.Author.Rules.{rules}
use Rattle.std.proofs.Common.{tests}
use Rattle.std.proofs.lemmas.Iterator.{first_from_Range}
use Rattle.graphs.specs.Partition.{pairs_of}
use Rattle.table.specs.Faults.{pair_at, bad_sides}
use Rattle.answering.specs.Answers.{Found}
use Rattle.shape.proofs.Search.{found_in_range}
use Rattle.matcher.proofs.ListLaws.{half_entries}
use Rattle.matcher.proofs.list_faults.first_bad_pair.Goals as goal

pub returns : goal.returns
returns c =
    let bad : ℕ → Bool = λ k. bad_sides c.args.table.now (pair_at (pairs_of c.args.list.now) k) in
    subst (λ (n : ℕ). Found bad n c.find.result) (half_entries c.args.list.now)
    (found_in_range bad _ _
    (first_from_Range _ _ _ _ (λ k. bad k ≡ true) (λ k. bad k ≡ false) c.find.ensures.ran (λ x q k. search (rules, tests)) (λ x q k. (search (rules, tests), search (rules, tests)))))
