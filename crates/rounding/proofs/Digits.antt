-- Long division by decimal digits: after k digits, 10 ^ k * x is quotient * w + remainder.
use Prim.Native.Nat.{ℕ, zero, suc, ◌+◌, ◌-◌, ◌*◌, ◌/◌, ◌%◌, ◌^◌, ◌≤◌, ◌<◌, ◌∣◌}
use mathlib.Core.Path.{◌≡◌, sym, ap, ◌∙◌, subst}
use native.Mathlib.Nat.{add-zero, add-suc, add-sub_of_le, mul-one, add-mul, mul_assoc, mul_comm, mul_right_comm, mul-le-mul_left, le_trans, le_of_eq, le-add_right, le_of_mul-le-mul_right, pow-le-pow_right, pow-suc, div-mul-le_self, lt-div-mul-add, div-eq_of_eq-mul_left, dvd-zero, dvd-mul_left}
use native.Mathlib.Numerals.{add-one}
use native.Mathlib.Omega.{arith}
use lib.Arith.{digits_div, digits_mod}
use lib.Dec.{lit<}
use Rattle.rounding.specs.Rounding.{S, fewest_digits}
use Rattle.rounding.proofs.FewestDigits.{stops, no_more, one_less}

abbrev pub Worked : ℕ → ℕ → ℕ → ℕ → ℕ → Type 0
Worked x w k q r = 10 ^ k * x ≡ q * w + r

-- between two digits: k are worked, the remainder r is not 0, u is the unit of the last digit, and the digits of r are left
abbrev pub Between : ℕ → ℕ → ℕ → ℕ → ℕ → ℕ → Type 0
Between x w q r u k =
    (k ≤ 9) × (0 < r) × (r < w) × (u ≡ 10 ^ (9 - k)) × Worked x w k q r × (fewest_digits 9 x w ≡ k + fewest_digits (9 - k) r w)

one-digit : (x w k q r d r' : ℕ) → 10 * r ≡ d * w + r' → Worked x w k q r → Worked x w (k + 1) (10 * q + d) r'
one-digit x w k q r d r' e h =
    ap (λ n. 10 ^ n * x) (add-one k) ∙ ap (λ n. n * x) (pow-suc 10 k)
    ∙ omega (arith, h, e, mul_assoc 10 (10 ^ k) x, mul_comm (10 ^ k) 10, add-mul (10 * q) d w, mul_assoc 10 q w)

powers : (k m : ℕ) → 10 ^ (k + m) ≡ 10 ^ k * 10 ^ m
powers k zero = ap (λ n. 10 ^ n) (add-zero k) ∙ sym (mul-one (10 ^ k))
powers k (suc m) =
    ap (λ n. 10 ^ n) (add-suc k m) ∙ pow-suc 10 (k + m) ∙ ap (λ n. n * 10) (powers k m)
    ∙ mul_assoc (10 ^ k) (10 ^ m) 10 ∙ ap (λ n. 10 ^ k * n) (sym (pow-suc 10 m))

pub whole-and-rest : (x w q r : ℕ) → r < w → S * x ≡ q * w + r → (q ≡ S * x / w) × (r ≡ S * x % w)
whole-and-rest x w q r h e = (sym (ap (λ n. n / w) e ∙ digits_div q h), sym (ap (λ n. n % w) e ∙ digits_mod q h))

-- no digit where x is a multiple of w
pub multiple : (x w a : ℕ) → 0 < w → x ≡ a * w → (S * a ≡ S * x / w) × (0 ≡ S * x % w) × (0 ≡ fewest_digits 9 x w)
multiple x w a pos e =
    let halves = whole-and-rest x w (S * a) 0 pos (omega (arith, e, mul_assoc S a w)) in
    (halves.0, halves.1, sym (stops 9 x w (subst (λ n. w ∣ n) (sym e) (dvd-mul_left w a))))

-- nine digits, with a remainder
pub nine : (x w q r u k : ℕ) → Between x w q r u k → 9 ≤ k → (q ≡ S * x / w) × (r ≡ S * x % w) × (k ≡ fewest_digits 9 x w)
nine x w q r u k b h =
    let all : k ≡ 9 = omega arith in
    let halves = whole-and-rest x w q r b.2 (subst (λ n. Worked x w n q r) all b.4) in
    let none : fewest_digits (9 - k) r w ≡ 0 = ap (λ n. fewest_digits (9 - n) r w) all ∙ no_more r w in
    (halves.0, halves.1, omega (arith, b.5, none))

module _ (x w : ℕ) (pos : 0 < w) (le : x ≤ w) where
  -- a quotient of k digits is at most 10 ^ k
  few : (k q r : ℕ) → Worked x w k q r → q ≤ 10 ^ k
  few k q r h = le_of_mul-le-mul_right (le_trans (le_trans (le-add_right (q * w) r) (le_of_eq (sym h))) (mul-le-mul_left (10 ^ k) le)) pos

  in_range : (k q r : ℕ) → k ≤ 9 → Worked x w k q r → q ≤ S
  in_range k q r h e = le_trans (few k q r e) (pow-le-pow_right (lit< tt) h)

  -- where no remainder is left after k digits, the others are zeros
  filled_in : (k q u : ℕ) → k ≤ 9 → u ≡ 10 ^ (9 - k) → Worked x w k q 0 → S * x ≡ q * u * w
  filled_in k q u h e worked =
      let all : 10 ^ k * u ≡ S = ap (λ n. 10 ^ k * n) e ∙ sym (powers k (9 - k)) ∙ ap (λ n. 10 ^ n) (add-sub_of_le h) in
      let product = ap (λ n. n * u) (worked ∙ add-zero (q * w)) in
      omega (arith, ap (λ n. n * x) all, mul_right_comm (10 ^ k) u x, product, mul_right_comm q w u)

-- one digit more, d
module _ (x w q r u k d : ℕ) where
  pub record Turn : Type 0 where
    pub small : d * w ≤ 10 * r
    pub below : 10 * r - d * w < w
    pub fits : 10 * q + d ≤ S
    pub unit : u / 10 ≡ 10 ^ (9 - (k + 1))
    pub worked : Worked x w (k + 1) (10 * q + d) (10 * r - d * w)
    pub left : fewest_digits 9 x w ≡ k + 1 + fewest_digits (9 - (k + 1)) (10 * r - d * w) w

  pub turn : 0 < w → x ≤ w → k < 9 → Between x w q r u k → d ≡ 10 * r / w → Turn
  turn pos le more b h =
      let product = ap (λ n. n * w) h in
      let part : 10 * r ≡ d * w + (10 * r - d * w) = omega (arith, product, div-mul-le_self (10 * r) w) in
      let next = one-digit x w k q r d (10 * r - d * w) part b.4 in
      let fewer : 9 - k ≡ suc (9 - (k + 1)) = omega arith in
      let count = one_less (9 - (k + 1)) r d (10 * r - d * w) w b.1 b.2 part in
      record {
        small = omega (arith, part);
        below = omega (arith, product, lt-div-mul-add {a = 10 * r} pos);
        fits = in_range x w pos le (k + 1) (10 * q + d) (10 * r - d * w) (omega arith) next;
        unit = div-eq_of_eq-mul_left (lit< tt) (b.3 ∙ ap (λ m. 10 ^ m) fewer ∙ pow-suc 10 (9 - (k + 1)));
        worked = next;
        left = omega (arith, b.5, ap (λ m. fewest_digits m r w) fewer, count);
      }

  -- it left no remainder
  pub record Last : Type 0 where
    pub fits : (10 * q + d) * (u / 10) ≤ S
    pub quotient : (10 * q + d) * (u / 10) ≡ S * x / w
    pub remainder : 0 ≡ S * x % w
    pub digits : k + 1 ≡ fewest_digits 9 x w

  pub last : 0 < w → x ≤ w → k < 9 → Turn → 10 * r - d * w ≡ 0 → Last
  last pos le more t none =
      let none_left = stops (9 - (k + 1)) 0 w (dvd-zero w) in
      let count = ap (λ n. fewest_digits (9 - (k + 1)) n w) none in
      let exact = filled_in x w pos le (k + 1) (10 * q + d) (u / 10) (omega arith) t.unit (omega (arith, t.worked, none)) in
      let halves = whole-and-rest x w ((10 * q + d) * (u / 10)) 0 pos (omega (arith, exact)) in
      record {
        fits = le_of_mul-le-mul_right (le_trans (le_of_eq (sym exact)) (mul-le-mul_left S le)) pos;
        quotient = halves.0;
        remainder = halves.1;
        digits = omega (arith, t.left, count, none_left);
      }
