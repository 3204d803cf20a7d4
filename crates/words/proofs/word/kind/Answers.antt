-- `words::word::kind` meets its contract. Each arm knows the quotient, of which the kind is computed; the last knows that it is none
-- of the five tags.
-- Assumes nothing.
use native.Mathlib.Omega.{arith}
use Rattle.words.proofs.WordLaws.{kind_by_top, no_kind_by_top}
use Rattle.words.proofs.word.kind.Goals as goal

pub returns-in-16 : goal.returns-in-16
returns-in-16 c = kind_by_top c.args.word 16 (omega arith)

pub returns-in-18 : goal.returns-in-18
returns-in-18 c = kind_by_top c.args.word 18 (omega arith)

pub returns-in-19 : goal.returns-in-19
returns-in-19 c = kind_by_top c.args.word 19 (omega arith)

pub returns-in-20 : goal.returns-in-20
returns-in-20 c = kind_by_top c.args.word 20 (omega arith)

pub returns-in-24 : goal.returns-in-24
returns-in-24 c = kind_by_top c.args.word 24 (omega arith)

pub returns-in_default : goal.returns-in_default
returns-in_default c = no_kind_by_top c.args.word (λ e. omega arith) (λ e. omega arith) (λ e. omega arith) (λ e. omega arith) (λ e. omega arith)
