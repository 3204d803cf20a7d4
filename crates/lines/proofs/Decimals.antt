-- The digits of a number. In order:
--     by the size of the number      decimal_small, decimal_more; the library's: same_digits; how many: decimal_one, decimal_longer, decimal_short
--     read back                      numbers_end, decimal_read; that digits tell their number is `decimal_tells` of LineLaws
-- Assumes nothing.
use mathlib.Core.Path.{◌≡◌, refl, sym, ap, ◌∙◌}
use mathlib.Core.Bool.{Bool, cond}
use mathlib.Core.Logic.{◌⊎◌, inl, inr, ⊎_elim}
use mathlib.Core.List.{List, [], ◌∷◌, ◌++◌, append_assoc}
use Prim.Native.Nat.{ℕ, zero, suc, ◌+◌, ◌-◌, ◌*◌, ◌/◌, ◌%◌, ◌^◌, ◌≤◌, ◌<◌}
use native.Mathlib.Decide.{dec_lt}
use native.Mathlib.Nat.{pow-zero, pow-suc}
use native.Mathlib.Omega.{arith}
use lib.ListN.{length, length-append}
use borrow.Author.Tests.{lt-ltb, le-ltb}
use Rattle.std.specs.Fmt.{decimal as written}
use Rattle.std.proofs.lemmas.Fmt.{decimal_by_steps}
use Rattle.lines.specs.Decimal.{digits, decimal, numbers_from}

-- ---- by the size of the number

-- one digit, or more
one_or_more : (x : ℕ) → (x < 10) ⊎ (10 ≤ x)
one_or_more x = go (dec_lt x 10)
  where
    go : Dec (x < 10) → (x < 10) ⊎ (10 ≤ x)
    go (yes h) = inl h
    go (no h) = inr (omega (arith, h))

digits_small : (most x : ℕ) → x < 10 → digits (suc most) x ≡ (48 + x) ∷ []
unfolding digits
digits_small most x h = ap (λ (b : Bool). cond b ((48 + x) ∷ []) (digits most (x / 10) ++ ((48 + x % 10) ∷ []))) (lt-ltb x 10 h)

digits_more : (most x : ℕ) → 10 ≤ x → digits (suc most) x ≡ digits most (x / 10) ++ ((48 + x % 10) ∷ [])
unfolding digits
digits_more most x h = ap (λ (b : Bool). cond b ((48 + x) ∷ []) (digits most (x / 10) ++ ((48 + x % 10) ∷ []))) (le-ltb x 10 h)

-- a bound that the number is below is as good as any other
digits_enough : (k m x : ℕ) → x < k → x < m → digits k x ≡ digits m x
digits_enough zero m x h g = absurd (omega arith)
digits_enough (suc k) zero x h g = absurd (omega arith)
digits_enough (suc k) (suc m) x h g =
    ⊎_elim
    (λ (small : x < 10). digits_small k x small ∙ sym (digits_small m x small))
    (λ (large : 10 ≤ x).
    digits_more k x large
    ∙ ap (λ (l : List ℕ). l ++ ((48 + x % 10) ∷ [])) (digits_enough k m (x / 10) (omega arith) (omega arith))
    ∙ sym (digits_more m x large))
    (one_or_more x)

pub decimal_small : (x : ℕ) → x < 10 → decimal x ≡ (48 + x) ∷ []
unfolding decimal
decimal_small x h = digits_small x x h

pub decimal_more : (x : ℕ) → 10 ≤ x → decimal x ≡ decimal (x / 10) ++ ((48 + x % 10) ∷ [])
unfolding decimal
decimal_more x h = digits_more x x h ∙ ap (λ (l : List ℕ). l ++ ((48 + x % 10) ∷ [])) (digits_enough x (suc (x / 10)) (x / 10) (omega arith) (omega arith))

-- what the library writes of a number are these digits
pub same_digits : (x : ℕ) → x < 2 ^ 64 → written x ≡ decimal x
same_digits x h =
    decimal_by_steps (λ (n : ℕ) (bytes : List ℕ). bytes ≡ decimal n) (λ n small. sym (decimal_small n small))
    (λ n bytes large same. ap (λ (l : List ℕ). l ++ ((48 + n % 10) ∷ [])) same ∙ sym (decimal_more n large)) x h

-- how many digits there are
pub decimal_one : (x : ℕ) → x < 10 → length (decimal x) ≡ 1
decimal_one x h = ap length (decimal_small x h)

pub decimal_longer : (x : ℕ) → 10 ≤ x → length (decimal x) ≡ length (decimal (x / 10)) + 1
decimal_longer x h = ap length (decimal_more x h) ∙ length-append (decimal (x / 10)) ((48 + x % 10) ∷ [])

decimal-length : (k x : ℕ) → x < 10 ^ suc k → length (decimal x) ≤ suc k
decimal-length zero x h = omega (arith, decimal_one x (omega (arith, pow-suc 10 0, pow-zero 10)))
decimal-length (suc k) x h =
    ⊎_elim
    (λ (small : x < 10). omega (arith, decimal_one x small))
    (λ (large : 10 ≤ x).
    omega (arith, decimal_longer x large, decimal-length k (x / 10) (omega (arith, pow-suc 10 (suc k)))))
    (one_or_more x)

-- a number of 16 bits has at most 5 digits
pub decimal_short : (x : ℕ) → x < 65536 → length (decimal x) ≤ 5
decimal_short x h = let e : 10 ^ 5 ≡ 100000 = refl in decimal-length 4 x (omega (arith, e))

-- ---- read back

numbers_digit : (n d : ℕ) (rest : List ℕ) → 48 ≤ d → numbers_from n (d ∷ rest) ≡ numbers_from (10 * n + (d - 48)) rest
unfolding numbers_from
numbers_digit n d rest h = ap (λ (b : Bool). cond b (n ∷ numbers_from 0 rest) (numbers_from (10 * n + (d - 48)) rest)) (le-ltb d 48 h)

pub numbers_end : (n b : ℕ) (rest : List ℕ) → b < 48 → numbers_from n (b ∷ rest) ≡ n ∷ numbers_from 0 rest
unfolding numbers_from
numbers_end n b rest h = ap (λ (t : Bool). cond t (n ∷ numbers_from 0 rest) (numbers_from (10 * n + (b - 48)) rest)) (lt-ltb b 48 h)

digits_read : (k x : ℕ) (rest : List ℕ) → x < k → numbers_from 0 (digits k x ++ rest) ≡ numbers_from x rest
digits_read zero x rest h = absurd (omega arith)
digits_read (suc k) x rest h =
    ⊎_elim
    (λ (small : x < 10).
    let whole : 10 * 0 + (48 + x - 48) ≡ x = omega arith in
    ap (λ (l : List ℕ). numbers_from 0 (l ++ rest)) (digits_small k x small)
    ∙ numbers_digit 0 (48 + x) rest (omega arith)
    ∙ ap (λ (n : ℕ). numbers_from n rest) whole)
    (λ (large : 10 ≤ x).
    let whole : 10 * (x / 10) + (48 + x % 10 - 48) ≡ x = omega arith in
    ap (λ (l : List ℕ). numbers_from 0 (l ++ rest)) (digits_more k x large)
    ∙ ap (numbers_from 0) (append_assoc (digits k (x / 10)) ((48 + x % 10) ∷ []) rest)
    ∙ digits_read k (x / 10) ((48 + x % 10) ∷ rest) (omega arith)
    ∙ numbers_digit (x / 10) (48 + x % 10) rest (omega arith)
    ∙ ap (λ (n : ℕ). numbers_from n rest) whole)
    (one_or_more x)

-- the digits of a number make that number
pub decimal_read : (x : ℕ) (rest : List ℕ) → numbers_from 0 (decimal x ++ rest) ≡ numbers_from x rest
unfolding decimal
decimal_read x rest = digits_read (suc x) x rest (omega arith)
