-- `matcher::list_faults::is_bad_list` meets its contract: an odd list by its remainder. Assumes nothing.
use mathlib.Core.Path.{sym, ◌∙◌}
use mathlib.Core.Logic.{inl, inr}
use native.Mathlib.Omega.{arith}
use Rattle.std.proofs.lemmas.Bool.{eq-eqb, ltb-true, ltb-false, false≢true}
use Rattle.matcher.proofs.ListLaws.{odd_entries, even_entries, bad_list}
use Rattle.matcher.proofs.list_faults.is_bad_list.Goals as goal

pub returns-then-list-eq1 : goal.returns-then-list-eq1
returns-then-list-eq1 c = bad_list _ _ (λ t. inl (odd_entries c.args.list.now (omega (arith, c.if-list-eq1.true)))) (λ f. absurd (false≢true (sym f ∙ eq-eqb _ _ c.if-list-eq1.true)))

pub returns-else-list-eq1 : goal.returns-else-list-eq1
returns-else-list-eq1 c = bad_list _ _ (λ t. inr (let over = ltb-true _ _ t in omega arith)) (λ f. (even_entries c.args.list.now (λ odd. omega (arith, c.if-list-eq1.false)), let few = ltb-false _ _ f in omega arith))
