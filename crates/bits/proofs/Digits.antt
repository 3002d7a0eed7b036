-- Laws of the list of a number's k lowest binary digits.
use Prim.Native.Nat.{ℕ, zero, suc, ◌+◌, ◌*◌, ◌/◌, ◌%◌, ◌^◌, ◌<◌}
use mathlib.Core.Path.{◌≡◌, refl, sym, ap, ap₂, ◌∙◌}
use mathlib.Core.Logic.{◌↔◌}
use mathlib.Core.List.{List, ◌∷◌}
use mathlib.Core.Bool.{Bool, true, false}
use native.Mathlib.Nat.{pow-suc}
use native.Mathlib.Omega.{arith}
use lib.ListN.{length, get_or, replicate}
use Rattle.bits.proofs.Places.{first-set}
use Rattle.bits.specs.Members.{bit_of, digits, first_of, how_many}

abbrev pub digit_of : Bool → ℕ
digit_of true = 1
digit_of false = 0

bit-digit : (d : ℕ) → d < 2 → d ≡ digit_of (bit_of d)
bit-digit zero h = refl
bit-digit (suc zero) h = refl
bit-digit (suc (suc d)) h = absurd (omega arith)

pub lowest-digit : (n : ℕ) → n % 2 ≡ digit_of (bit_of (n % 2))
lowest-digit n = bit-digit (n % 2) (omega arith)

-- the lowest digit and the others
split : (k n q d : ℕ) → n ≡ q * 2 + d → d < 2 → digits (suc k) n ≡ bit_of d ∷ digits k q
unfolding digits
split k n q d e h =
    let low : n % 2 ≡ d = omega arith in
    let high : n / 2 ≡ q = omega arith in
    ap₂ (λ (x y : ℕ). bit_of x ∷ digits k y) low high

pub digits_step : (k n q : ℕ) (b : Bool) → n ≡ q * 2 + digit_of b → digits (suc k) n ≡ b ∷ digits k q
digits_step k n q true e = split k n q 1 e (omega arith)
digits_step k n q false e = split k n q 0 e (omega arith)

pub length_digits : (k n : ℕ) → length (digits k n) ≡ k
unfolding digits
length_digits zero n = refl
length_digits (suc k) n = ap suc (length_digits k (n / 2))

pub digits-zero : (k : ℕ) → digits k 0 ≡ replicate k false
unfolding digits
digits-zero zero = refl
digits-zero (suc k) = ap (λ (bs : List Bool). false ∷ bs) (digits-zero k)

-- a set is known by its members
pub digits-injective : (k a b : ℕ) → a < 2 ^ k → b < 2 ^ k → digits k a ≡ digits k b → a ≡ b
unfolding digits
digits-injective zero a b ha hb e = omega arith
digits-injective (suc k) a b ha hb e =
    let bit : bit_of (a % 2) ≡ bit_of (b % 2) = cc in
    let low : a % 2 ≡ b % 2 = lowest-digit a ∙ ap digit_of bit ∙ sym (lowest-digit b) in
    let high : digits k (a / 2) ≡ digits k (b / 2) = cc in
    omega (arith, digits-injective k (a / 2) (b / 2) (omega (arith, pow-suc 2 k)) (omega (arith, pow-suc 2 k)) high)

count-cons : (b : Bool) (bs : List Bool) → how_many (b ∷ bs) ≡ digit_of b + how_many bs
count-cons true bs = omega arith
count-cons false bs = omega arith

pub count-step : (k n : ℕ) → how_many (digits (suc k) n) ≡ n % 2 + how_many (digits k (n / 2))
unfolding digits
count-step k n = omega (arith, count-cons (bit_of (n % 2)) (digits k (n / 2)), lowest-digit n)

-- the empty set is the one without a member
pub digits-empty : (k n : ℕ) → n < 2 ^ k → (how_many (digits k n) ≡ 0) ↔ (n ≡ 0)
unfolding digits
digits-empty zero n h = (λ e. omega arith, λ e. refl)
digits-empty (suc k) n h =
    let rest = digits-empty k (n / 2) (omega (arith, pow-suc 2 k)) in (
      λ e. omega (arith, count-step k n, rest.0 (omega (arith, count-step k n))),
      λ e. omega (arith, count-step k n, rest.1 (omega arith)),
    )

-- the lowest place of a set that is not empty
pub lowest_set : (k n : ℕ) → 0 < n → n < 2 ^ k → (first_of (digits k n) < k) × (get_or (digits k n) (first_of (digits k n)) false ≡ true)
lowest_set k n pos h =
    let some : how_many (digits k n) ≡ 0 → ⊥ = λ none. omega (arith, (digits-empty k n h).0 none) in
    let first = first-set (digits k n) (omega arith) in
    (omega (arith, length_digits k n), first.1)
