-- Tables that differ in the labels of their variables alone. Assumes nothing.
use Rattle.std.specs.Prelude.{◌≡◌, List, ℕ, length}
use Rattle.words.specs.declared.kind.Kind.TheVariants.{Variable}
use Rattle.table.specs.Table.{kind_at, content_at}

-- Document 02, E1: "variables are told apart by address", so that two such tables are to have the same answers.
pub record Relabelled (t u : List ℕ) : Type 0 where
  pub same_length : length t ≡ length u
  pub same_kinds : (a : ℕ) → kind_at t a ≡ kind_at u a
  pub same_contents : (a : ℕ) → (kind_at t a ≡ Variable → ⊥) → content_at t a ≡ content_at u a
