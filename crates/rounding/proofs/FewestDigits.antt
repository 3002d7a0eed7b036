-- What the number of worked digits means, and how it goes on from digit to digit.
use Prim.Native.Nat.{ℕ, zero, suc, ◌+◌, ◌*◌, ◌%◌, ◌^◌, ◌≤◌, ◌<◌, ◌∣◌, zero-le, suc-le-suc}
use mathlib.Core.Path.{◌≡◌, refl, sym, ap, ◌∙◌, subst}
use mathlib.Core.List.{List, [], ◌∷◌, map}
use mathlib.Core.Bool.{Bool, cond}
use native.Mathlib.Nat.{pow-suc, mul_assoc, one-mul, mul-add-mod_self_right, mod-eq_of_lt, mod-eq-zero_of_dvd, dvd_of_mod-eq-zero, not-suc-le-zero}
use native.Mathlib.Omega.{arith}
use native.Mathlib.Decide.{dec_dvd}
use borrow.Author.Tests.{eq-eqb, ne_eqb}
use Rattle.rounding.specs.Rounding.{S, fewest_digits}

-- ---- divisions and their digits: one proof computes them all from the definition

pub record Row : Type 0 where
  pub x : ℕ
  pub w : ℕ
  pub digits : ℕ

pub row : ℕ → ℕ → ℕ → Row
row x w k = record { x = x; w = w; digits = k }

pub rows : List Row
rows =
    row 0 1 0
    ∷ row 0 (S * S) 0
    ∷ row 1 1 0  -- the whole part is no digit
    ∷ row (S * S) (S * S) 0
    ∷ row 1 8 3  -- 0.125
    ∷ row 1 10 1  -- 0.1
    ∷ row 3 30 1  -- and not in lowest terms
    ∷ row 1 3 9  -- a remainder is left
    ∷ row 1 80 4  -- 0.0125
    ∷ row 101 1000 3  -- 0.101
    ∷ row 1 S 9  -- 0.000000001
    ∷ row 1 512 9  -- 0.001953125
    ∷ row 123456789 S 9
    ∷ row 1 1024 9  -- a tenth digit is left
    ∷ row 1 (S * S) 9  -- nine zeros, and a remainder
    ∷ []

pub examples : map (λ (r : Row). fewest_digits 9 r.x r.w) rows ≡ map (λ (r : Row). r.digits) rows
unfolding rows row fewest_digits
examples = refl

-- ---- what it means

-- no digit where w divides x, and one more than of ten times x where it does not
pub stops : (n x w : ℕ) → w ∣ x → fewest_digits n x w ≡ 0
unfolding fewest_digits
stops zero x w h = refl
stops (suc n) x w h = ap (λ (b : Bool). cond b 0 (suc (fewest_digits n (10 * x) w))) (eq-eqb _ _ (mod-eq-zero_of_dvd w h))

pub no_more : (x w : ℕ) → fewest_digits 0 x w ≡ 0
unfolding fewest_digits
no_more x w = refl

pub goes_on : (n x w : ℕ) → (w ∣ x → ⊥) → fewest_digits (suc n) x w ≡ suc (fewest_digits n (10 * x) w)
unfolding fewest_digits
goes_on n x w h =
    ap (λ (b : Bool). cond b 0 (suc (fewest_digits n (10 * x) w))) (ne_eqb _ _ (λ z. h (dvd_of_mod-eq-zero w z)))

by-digit : (P : ℕ → Type 0) (n x w : ℕ) → (w ∣ x → P 0) → ((w ∣ x → ⊥) → P (suc (fewest_digits n (10 * x) w))) → P (fewest_digits (suc n) x w)
by-digit P n x w a b = go (dec_dvd w x)
  where
    go : Dec (w ∣ x) → P (fewest_digits (suc n) x w)
    go (yes h) = subst P (sym (stops (suc n) x w h)) (a h)
    go (no h) = subst P (sym (goes_on n x w h)) (b h)

shifted : (k x : ℕ) → 10 ^ suc k * x ≡ 10 ^ k * (10 * x)
shifted k x = ap (λ a. a * x) (pow-suc 10 k) ∙ mul_assoc (10 ^ k) 10 x

pub at_most : (n x w : ℕ) → fewest_digits n x w ≤ n
unfolding fewest_digits
at_most zero x w = zero-le
at_most (suc n) x w = by-digit (λ k. k ≤ suc n) n x w (λ h. zero-le) (λ h. suc-le-suc (at_most n (10 * x) w))

-- below n, w divides 10 ^ k * x for that k
pub divides : (n x w : ℕ) → fewest_digits n x w < n → w ∣ 10 ^ fewest_digits n x w * x
unfolding fewest_digits
divides zero x w = λ h. absurd (not-suc-le-zero h)
divides (suc n) x w =
    by-digit (λ k. k < suc n → w ∣ 10 ^ k * x) n x w
    (λ d h. subst (λ a. w ∣ a) (sym (one-mul x)) d)
    (λ d h. subst (λ a. w ∣ a) (sym (shifted (fewest_digits n (10 * x) w) x)) (divides n (10 * x) w (omega (arith, h))))

-- and for none below it
pub none_below : (n x w k : ℕ) → k < fewest_digits n x w → w ∣ 10 ^ k * x → ⊥
unfolding fewest_digits
none_below zero x w k = λ h. absurd (not-suc-le-zero h)
none_below (suc n) x w zero =
    by-digit (λ m. 0 < m → w ∣ 10 ^ 0 * x → ⊥) n x w
    (λ d h. absurd (not-suc-le-zero h))
    (λ d h e. d (subst (λ a. w ∣ a) (one-mul x) e))
none_below (suc n) x w (suc k) =
    by-digit (λ m. suc k < m → w ∣ 10 ^ suc k * x → ⊥) n x w
    (λ d h. absurd (not-suc-le-zero h))
    (λ d h e. none_below n (10 * x) w k (omega (arith, h)) (subst (λ a. w ∣ a) (shifted k x) e))

-- ---- from digit to digit

-- as many as of the remainder
pub of-remainder : (n x q r w : ℕ) → x ≡ q * w + r → fewest_digits n x w ≡ fewest_digits n r w
unfolding fewest_digits
of-remainder zero x q r w h = refl
of-remainder (suc n) x q r w h =
    let same : x % w ≡ r % w = ap (λ a. a % w) h ∙ mul-add-mod_self_right q w r in
    let next = of-remainder n (10 * x) (10 * q) (10 * r) w (omega (arith, h, mul_assoc 10 q w)) in
    simp (same, next)

-- a digit worked is one less to work
pub one_less : (n r d r' w : ℕ) → 0 < r → r < w → 10 * r ≡ d * w + r' → fewest_digits (suc n) r w ≡ suc (fewest_digits n r' w)
one_less n r d r' w pos below e =
    goes_on n r w (λ h. let z = mod-eq-zero_of_dvd w h in let y = mod-eq_of_lt below in absurd (omega arith))
    ∙ ap suc (of-remainder n (10 * r) d r' w e)
