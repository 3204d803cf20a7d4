-- How an answer is picked from an ordered list of rows, whatever the rows are about: a match, the reader, the writer and the
-- host call each have an order of their own. Assumes nothing.
use Rattle.std.specs.Prelude.{◌≡◌, Bool, true, false, ◌⊎◌, List, [], ◌∷◌, ℕ, ◌≤◌, ◌<◌, Option, Some, None}

-- "lowest such": a number with a property, and none below it has it
pub record Lowest (P : ℕ → Type 0) (k : ℕ) : Type 0 where
  pub has : P k
  pub none_below : (j : ℕ) → j < k → P j → ⊥

-- What a search below n finds: the first number that passes the test, or n.
pub record First (test : ℕ → Bool) (n found : ℕ) : Type 0 where
  pub within : found ≤ n
  pub before : (j : ℕ) → j < found → test j ≡ false
  pub passes : found < n → test found ≡ true

-- The same, where nothing is found if no number passes.
abbrev pub Found : (ℕ → Bool) → ℕ → Option ℕ → Type 0
Found test n (Some k) = (k < n) × (test k ≡ true) × ((j : ℕ) → j < k → test j ≡ false)
Found test n None = (j : ℕ) → j < n → test j ≡ false

-- "The lowest number that applies is given": the first row of the order that applies gives its number, at the place where it
-- applies; if no row applies, the answer is 0 at place 0.
abbrev pub Answered : {Row : Type 0} → (Row → ℕ) → (Row → ℕ → Type 0) → List Row → ℕ → ℕ → Type 0
Answered number Applies [] answer place = (answer ≡ 0) × (place ≡ 0)
Answered number Applies (row ∷ rows) answer place =
    ((answer ≡ number row) × Applies row place) ⊎ (((p : ℕ) → Applies row p → ⊥) × Answered number Applies rows answer place)

-- None of these rows applies, at any place.
abbrev pub NoneOf : {Row : Type 0} → (Row → ℕ → Type 0) → List Row → Type 0
NoneOf Applies [] = Unit {0}
NoneOf Applies (row ∷ rows) = ((p : ℕ) → Applies row p → ⊥) × NoneOf Applies rows
