-- Ordered rows.
--
-- In order: one answer at one place (`answered_only`); a test that every row passes (`each`), and what it says of an answer
-- (`answered_tested`, `passed_none`); the row that gives a number (`given_by`); an order put together from two and taken apart
-- (`refused_first`, `none_first`, `none_parts`, `answered_parts`, `first_answers`); rows that apply alike (`answered_alike`); rows
-- carried over to other rows (`carried`). Assumes nothing.
use mathlib.Core.Path.{◌≡◌, refl, sym, ap, ◌∙◌}
use mathlib.Core.Bool.{Bool, true, false, ◌&&◌, not, true≢false}
use mathlib.Core.Logic.{◌⊎◌, inl, inr, ⊎_elim}
use mathlib.Core.List.{List, [], ◌∷◌, ◌++◌, map}
use Prim.Native.Nat.{ℕ}
use native.Mathlib.Omega.{arith}
use borrow.Author.Tests.{eq-eqb, ltb-true}
use lib.Dec.{eqb, ltb}
use Rattle.answering.specs.Answers.{Answered, NoneOf}

-- ---- tests

-- Every row of a list passes a test. It computes, so of a list that is written out it is shown by `refl`.
abbrev pub each : {Row : Type 0} → (Row → Bool) → List Row → Bool
each test [] = true
each test (row ∷ rows) = test row && each test rows

-- no row has number 0
abbrev pub Positive : {Row : Type 0} → (Row → ℕ) → List Row → Type 0
Positive number rows = each (λ row. ltb 0 (number row)) rows ≡ true

both : (a b : Bool) → (a && b) ≡ true → (a ≡ true) × (b ≡ true)
both true b e = (refl, e)
both false b e = absurd (true≢false (sym e))

module _ {Row : Type 0} (test : Row → Bool) (row : Row) (rows : List Row) (t : each test (row ∷ rows) ≡ true) where
  first_passes : test row ≡ true
  first_passes = (both (test row) (each test rows) t).0

  rest_passes : each test rows ≡ true
  rest_passes = (both (test row) (each test rows) t).1

not_other : (a n : ℕ) → a ≡ n → not (eqb a n) ≡ true → ⊥
not_other a n e t = true≢false (sym t ∙ ap not (eq-eqb a n e))

module _ {Row : Type 0} (number : Row → ℕ) (Applies : Row → ℕ → Type 0) where
  -- Two answers that an ordered list of rows allows are equal, where no row applies at two places.
  pub answered_only : ((row : Row) (p q : ℕ) → Applies row p → Applies row q → p ≡ q) → (rows : List Row) (a p b q : ℕ) → Answered number Applies rows a p
      → Answered number Applies rows b q → (a ≡ b) × (p ≡ q)
  answered_only once [] a p b q (x, y) (v, w) = (x ∙ sym v, y ∙ sym w)
  answered_only once (row ∷ rows) a p b q (inl (x, y)) (inl (v, w)) = (x ∙ sym v, once row p q y w)
  answered_only once (row ∷ rows) a p b q (inl (x, y)) (inr (none_applies, rest)) = absurd (none_applies p y)
  answered_only once (row ∷ rows) a p b q (inr (none_applies, rest)) (inl (v, w)) = absurd (none_applies q w)
  answered_only once (row ∷ rows) a p b q (inr (n, l)) (inr (m, r)) = answered_only once rows a p b q l r

  -- ---- what a test says of an answer

  -- A number that is answered passes the test that the rows' numbers pass, and 0 if it is 0.
  pub answered_tested : (test : ℕ → Bool) (rows : List Row) (a p : ℕ) → each (λ row. test (number row)) rows ≡ true → (a ≡ 0 → test a ≡ true)
      → Answered number Applies rows a p → test a ≡ true
  answered_tested test [] a p t zero_passes (z, y) = zero_passes z
  answered_tested test (row ∷ rows) a p t zero_passes (inl (e, x)) = ap test e ∙ first_passes (λ r. test (number r)) row rows t
  answered_tested test (row ∷ rows) a p t zero_passes (inr (none_applies, later)) =
      answered_tested test rows a p (rest_passes (λ r. test (number r)) row rows t) zero_passes later

  not_zero : (row : Row) (rows : List Row) {a : ℕ} → Positive number (row ∷ rows) → a ≡ number row → a ≡ 0 → ⊥
  not_zero row rows t e z = omega (arith, e, z, ltb-true 0 (number row) (first_passes (λ r. ltb 0 (number r)) row rows t))

  -- An order that answers 0 has no row that applies, and place 0.
  pub passed_none : (rows : List Row) (a p : ℕ) → Positive number rows → a ≡ 0 → Answered number Applies rows a p → NoneOf Applies rows × (p ≡ 0)
  passed_none [] a p t z (x, y) = (tt, y)
  passed_none (row ∷ rows) a p t z (inl (e, x)) = absurd (not_zero row rows t e z)
  passed_none (row ∷ rows) a p t z (inr (none_applies, later)) =
      let rest = passed_none rows a p (rest_passes (λ r. ltb 0 (number r)) row rows t) z later in ((none_applies, rest.0), rest.1)

  -- A number that one row alone has is given by that row.
  module _ (row : Row) (rest : List Row) (a p : ℕ) (positive : ltb 0 (number row) ≡ true) (e : a ≡ number row) where
    pub given_by : (before : List Row) → each (λ r. not (eqb (number r) (number row))) (before ++ rest) ≡ true → Answered number Applies (before ++ (row ∷ rest)) a p → Applies row p
    given_by [] t (inl (q, x)) = x
    given_by [] t (inr (none_applies, later)) =
        absurd
        (not_other a (number row) e
        (answered_tested (λ n. not (eqb n (number row))) rest a p t (λ z. absurd (omega (arith, z, e, ltb-true 0 (number row) positive))) later))
    given_by (r ∷ before) t (inl (q, x)) = absurd (not_other (number r) (number row) (sym q ∙ e) (first_passes (λ s. not (eqb (number s) (number row))) r (before ++ rest) t))
    given_by (r ∷ before) t (inr (none_applies, later)) = given_by before (rest_passes (λ s. not (eqb (number s) (number row))) r (before ++ rest) t) later

  -- ---- two parts

  -- What the first part refuses stands, and where none of its rows applies the second part answers.
  pub refused_first : (rows rest : List Row) (a p : ℕ) → (a ≡ 0 → ⊥) → Answered number Applies rows a p → Answered number Applies (rows ++ rest) a p
  refused_first [] rest a p refused (x, y) = absurd (refused x)
  refused_first (row ∷ rows) rest a p refused (inl x) = inl x
  refused_first (row ∷ rows) rest a p refused (inr (none_applies, later)) = inr (none_applies, refused_first rows rest a p refused later)

  pub none_first : (rows rest : List Row) (a p : ℕ) → NoneOf Applies rows → Answered number Applies rest a p → Answered number Applies (rows ++ rest) a p
  none_first [] rest a p none later = later
  none_first (row ∷ rows) rest a p none later = inr (none.0, none_first rows rest a p none.1 later)

  -- .. and the other way: either the first part refuses, or none of its rows applies and the second part answers.
  pub answered_parts : (rows rest : List Row) (a p : ℕ) → Positive number rows → Answered number Applies (rows ++ rest) a p
      → ((a ≡ 0 → ⊥) × Answered number Applies rows a p) ⊎ (NoneOf Applies rows × Answered number Applies rest a p)
  answered_parts [] rest a p t x = inr (tt, x)
  answered_parts (row ∷ rows) rest a p t (inl (e, x)) = inl (not_zero row rows t e, inl (e, x))
  answered_parts (row ∷ rows) rest a p t (inr (none_applies, later)) = go (answered_parts rows rest a p (rest_passes (λ r. ltb 0 (number r)) row rows t) later)
    where
      go : ((a ≡ 0 → ⊥) × Answered number Applies rows a p) ⊎ (NoneOf Applies rows × Answered number Applies rest a p)
          → ((a ≡ 0 → ⊥) × Answered number Applies (row ∷ rows) a p) ⊎ (NoneOf Applies (row ∷ rows) × Answered number Applies rest a p)
      go (inl (refused, x)) = inl (refused, inr (none_applies, x))
      go (inr (none, x)) = inr ((none_applies, none), x)

  -- Where some row of the first part applies, that part answers, with a number that passes the test that its rows' numbers pass.
  pub first_answers : (test : ℕ → Bool) (rows rest : List Row) (a p : ℕ) → Positive number rows → each (λ row. test (number row)) rows ≡ true
      → (NoneOf Applies rows → ⊥) → Answered number Applies (rows ++ rest) a p → (a ≡ 0 → ⊥) × (test a ≡ true)
  first_answers test rows rest a p t passes some_applies x =
      ⊎_elim (λ y. (y.0, answered_tested test rows a p passes (λ z. absurd (y.0 z)) y.1)) (λ y. absurd (some_applies y.0)) (answered_parts rows rest a p t x)

  pub rest_answers : (rows rest : List Row) (a p : ℕ) → NoneOf Applies rows → Answered number Applies (rows ++ rest) a p → Answered number Applies rest a p
  rest_answers [] rest a p none x = x
  rest_answers (row ∷ rows) rest a p none (inl (e, x)) = absurd (none.0 p x)
  rest_answers (row ∷ rows) rest a p none (inr (none_applies, later)) = rest_answers rows rest a p none.1 later

-- Rows that apply alike answer alike.
pub answered_alike : {Row : Type 0} (number : Row → ℕ) {Applies Alike : Row → ℕ → Type 0} → ((row : Row) (p : ℕ) → Applies row p → Alike row p)
    → ((row : Row) (p : ℕ) → Alike row p → Applies row p) → (rows : List Row) (a p : ℕ) → Answered number Applies rows a p → Answered number Alike rows a p
answered_alike number forth back [] a p x = x
answered_alike number forth back (row ∷ rows) a p (inl (e, x)) = inl (e, forth row p x)
answered_alike number forth back (row ∷ rows) a p (inr (none_applies, later)) =
    inr (λ q x. none_applies q (back row q x), answered_alike number forth back rows a p later)

module _ {Row : Type 0} (Applies : Row → ℕ → Type 0) where
  pub none_both : (rows rest : List Row) → NoneOf Applies rows → NoneOf Applies rest → NoneOf Applies (rows ++ rest)
  none_both [] rest none later = later
  none_both (row ∷ rows) rest none later = (none.0, none_both rows rest none.1 later)

  pub none_parts : (rows rest : List Row) → NoneOf Applies (rows ++ rest) → NoneOf Applies rows × NoneOf Applies rest
  none_parts [] rest none = (tt, none)
  none_parts (row ∷ rows) rest none = let parts = none_parts rows rest none.1 in ((none.0, parts.0), parts.1)

-- ---- rows carried over

-- Rows that keep their number and apply where they did, as far as a test says.
module _ {Row Other : Type 0} (number : Row → ℕ) (Applies : Row → ℕ → Type 0) (number_there : Other → ℕ) (AppliesThere : Other → ℕ → Type 0) (over : Row → Other)
    (test : Row → Bool) (same : (row : Row) → number_there (over row) ≡ number row)
    (forth : (row : Row) (p : ℕ) → test row ≡ true → Applies row p → AppliesThere (over row) p)
    (back : (row : Row) (p : ℕ) → test row ≡ true → AppliesThere (over row) p → Applies row p) where
  pub carried : (rows : List Row) (a p : ℕ) → each test rows ≡ true → Answered number Applies rows a p → Answered number_there AppliesThere (map over rows) a p
  carried [] a p t x = x
  carried (row ∷ rows) a p t (inl (e, x)) = inl (e ∙ sym (same row), forth row p (first_passes test row rows t) x)
  carried (row ∷ rows) a p t (inr (none_applies, later)) =
      inr (λ q x. none_applies q (back row q (first_passes test row rows t) x), carried rows a p (rest_passes test row rows t) later)

  pub carried_back : (rows : List Row) (a p : ℕ) → each test rows ≡ true → Answered number_there AppliesThere (map over rows) a p → Answered number Applies rows a p
  carried_back [] a p t x = x
  carried_back (row ∷ rows) a p t (inl (e, x)) = inl (e ∙ same row, back row p (first_passes test row rows t) x)
  carried_back (row ∷ rows) a p t (inr (none_applies, later)) =
      inr (λ q x. none_applies q (forth row q (first_passes test row rows t) x), carried_back rows a p (rest_passes test row rows t) later)

  pub none_carried : (rows : List Row) → each test rows ≡ true → NoneOf AppliesThere (map over rows) → NoneOf Applies rows
  none_carried [] t none = tt
  none_carried (row ∷ rows) t none =
      (λ q x. none.0 q (forth row q (first_passes test row rows t) x), none_carried rows (rest_passes test row rows t) none.1)
