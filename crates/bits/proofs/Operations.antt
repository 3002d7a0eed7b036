-- The machine's operations on numbers, as operations on the lists of their k lowest digits.
use Prim.Native.Nat.{ℕ, zero, suc, ◌+◌, ◌-◌, ◌*◌, ◌/◌, ◌%◌, ◌^◌, ◌≤◌, ◌<◌, min, max}
use mathlib.Core.Path.{◌≡◌, refl, sym, ap, ap₂, ◌∙◌}
use mathlib.Core.List.{List, ◌∷◌, ◌++◌, zip_with}
use mathlib.Core.Bool.{Bool, true, false, not, ◌&&◌, ◌||◌}
use native.Mathlib.Nat.{lt_of_le_of_lt, one-mul, pow-suc, sub-zero, suc-sub-suc}
use native.Mathlib.Omega.{arith}
use lib.ListN.{set, get_or, replicate}
use lib.Dec.{eqb}
use lib.Pow.{shr-shr, shl_exact, pow_pos, pow_mono}
use lib.Bits.{bit_and, bit_or, and_step, or_step, and_self}
use lib.Count.{ones, ones_step, count_trailing_zeros, under}
use Rattle.bits.proofs.Digits.{digit_of, lowest-digit, digits_step, digits-zero, digits-injective, count-step}
use Rattle.bits.specs.Members.{bit_of, digits, members, first_of, how_many, both, either, difference, below}

-- an operation that works digit by digit: f on digits as numbers, g on digits as Bools
module _ (op : ℕ → ℕ → ℕ → ℕ) (f : ℕ → ℕ → ℕ) (g : Bool → Bool → Bool)
    (f11 : f 1 1 ≡ digit_of (g true true)) (f10 : f 1 0 ≡ digit_of (g true false)) (f01 : f 0 1 ≡ digit_of (g false true)) (f00 : f 0 0 ≡ digit_of (g false false))
    (by-digit : (k a b : ℕ) → b < 2 ^ suc k → op (suc k) a b ≡ op k (a / 2) (b / 2) * 2 + f (a % 2) (b % 2)) where
  table : (x y : Bool) → f (digit_of x) (digit_of y) ≡ digit_of (g x y)
  table true true = f11
  table true false = f10
  table false true = f01
  table false false = f00

  digitwise : (k a b : ℕ) → b < 2 ^ k → digits k (op k a b) ≡ zip_with g (digits k a) (digits k b)
  unfolding digits zip_with
  digitwise zero a b h = refl
  digitwise (suc k) a b h =
      let x = bit_of (a % 2) in
      let y = bit_of (b % 2) in
      let low = ap₂ f (lowest-digit a) (lowest-digit b) ∙ table x y in
      digits_step k (op (suc k) a b) (op k (a / 2) (b / 2)) (g x y) (by-digit k a b h ∙ ap (λ (d : ℕ). op k (a / 2) (b / 2) * 2 + d) low)
      ∙ ap (λ (bs : List Bool). g x y ∷ bs) (digitwise k (a / 2) (b / 2) (omega (arith, pow-suc 2 k)))

pub digits-and : (k a b : ℕ) → b < 2 ^ k → digits k (bit_and a b) ≡ both (digits k a) (digits k b)
digits-and = digitwise (λ k a b. bit_and a b) min ◌&&◌ refl refl refl refl (λ k a b h. and_step a b)

pub digits-or : (k a b : ℕ) → b < 2 ^ k → digits k (bit_or a b) ≡ either (digits k a) (digits k b)
digits-or = digitwise (λ k a b. bit_or a b) max ◌||◌ refl refl refl refl (λ k a b h. or_step a b)

-- the complement in k + 1 digits, halved
halved : (k b : ℕ) → b < 2 ^ suc k → (((2 ^ suc k - 1) - b) / 2 ≡ (2 ^ k - 1) - b / 2) × (((2 ^ suc k - 1) - b) % 2 ≡ 1 - b % 2)
halved k b h = (omega (arith, pow-suc 2 k), omega (arith, pow-suc 2 k))

pub digits-difference : (k a b : ℕ) → b < 2 ^ k → digits k (bit_and a ((2 ^ k - 1) - b)) ≡ difference (digits k a) (digits k b)
digits-difference =
    digitwise (λ k a b. bit_and a ((2 ^ k - 1) - b)) (λ d e. min d (1 - e)) (λ x y. x && not y) refl refl refl refl
    (λ k a b h. and_step a ((2 ^ suc k - 1) - b) ∙ ap₂ (λ (q d : ℕ). bit_and (a / 2) q * 2 + min (a % 2) d) (halved k b h).0 (halved k b h).1)

-- an operation with the empty set, and with the set of i alone
module _ (g : Bool → Bool → Bool) (v : Bool) (absent : (b : Bool) → g b false ≡ b) (present : (b : Bool) → g b true ≡ v) where
  with_none : (k n : ℕ) → zip_with g (digits k n) (digits k 0) ≡ digits k n
  unfolding digits zip_with
  with_none zero n = refl
  with_none (suc k) n = ap₂ (λ (b : Bool) (bs : List Bool). b ∷ bs) (absent (bit_of (n % 2))) (with_none k (n / 2))

  pub with-one : (k n i : ℕ) → zip_with g (digits k n) (digits k (2 ^ i)) ≡ set (digits k n) i v
  unfolding digits zip_with
  with-one zero n i = refl
  with-one (suc k) n zero = ap₂ (λ (b : Bool) (bs : List Bool). b ∷ bs) (present (bit_of (n % 2))) (with_none k (n / 2))
  with-one (suc k) n (suc i) =
      ap (λ (bs : List Bool). zip_with g (digits (suc k) n) bs) (digits_step k (2 ^ suc i) (2 ^ i) false (omega (arith, pow-suc 2 i)))
      ∙ ap₂ (λ (b : Bool) (bs : List Bool). b ∷ bs) (absent (bit_of (n % 2))) (with-one k (n / 2) i)

-- a 1 shifted by less than the width is the power
pub power : (i : ℕ) → i < 64 → (1 * 2 ^ i) % 2 ^ 64 ≡ 2 ^ i
power i h = shl_exact 1 i 64 (omega arith) (omega arith) ∙ one-mul (2 ^ i)

is_one : (b : Bool) → eqb (digit_of b) 1 ≡ b
is_one true = refl
is_one false = refl

-- whether place i is set, by a shift
pub digits-shifted : (k n i : ℕ) → i < k → eqb (n / 2 ^ i % 2) 1 ≡ get_or (digits k n) i false
unfolding digits
digits-shifted zero n i h = absurd (omega arith)
digits-shifted (suc k) n zero h =
    let whole : n / 1 ≡ n = omega arith in
    ap (λ (m : ℕ). eqb (m % 2) 1) whole ∙ ap (λ (d : ℕ). eqb d 1) (lowest-digit n) ∙ is_one (bit_of (n % 2))
digits-shifted (suc k) n (suc i) h =
    let more : 1 + i ≡ suc i = omega arith in
    ap (λ (m : ℕ). eqb (m % 2) 1) (sym (shr-shr n 1 i ∙ ap (λ (j : ℕ). n / 2 ^ j) more)) ∙ digits-shifted k (n / 2) i (omega arith)

under_first : (d t : ℕ) (bs : List Bool) → t ≡ first_of bs → under d t ≡ first_of (bit_of d ∷ bs)
under_first zero t bs e = ap suc e
under_first (suc d) t bs e = refl

pub digits-first : (k n : ℕ) → count_trailing_zeros k n ≡ first_of (digits k n)
unfolding digits count_trailing_zeros
digits-first zero n = refl
digits-first (suc k) n = under_first (n % 2) (count_trailing_zeros k (n / 2)) (digits k (n / 2)) (digits-first k (n / 2))

pub digits-count : (k n : ℕ) → n < 2 ^ k → ones n ≡ how_many (digits k n)
unfolding digits ones
digits-count zero n h =
    let none : n ≡ 0 = omega arith in
    ap ones none
digits-count (suc k) n h = omega (arith, ones_step n, digits-count k (n / 2) (omega (arith, pow-suc 2 k)), count-step k n)

-- n - 1 has n's digits above the lowest that is set, and not that one
cleared : (k n : ℕ) (b : Bool) → n % 2 ≡ digit_of b → 0 < n
    → (0 < n / 2 → digits k (bit_and (n / 2) (n / 2 - 1)) ≡ set (digits k (n / 2)) (first_of (digits k (n / 2))) false)
    → digits (suc k) (bit_and n (n - 1)) ≡ set (b ∷ digits k (n / 2)) (first_of (b ∷ digits k (n / 2))) false
cleared k n true odd h others =
    let high : (n - 1) / 2 ≡ n / 2 = omega arith in
    digits_step k (bit_and n (n - 1)) (n / 2) false (omega (arith, and_step n (n - 1), ap (bit_and (n / 2)) high, and_self (n / 2)))
cleared k n false even h others =
    let high : (n - 1) / 2 ≡ n / 2 - 1 = omega arith in
    digits_step k (bit_and n (n - 1)) (bit_and (n / 2) (n / 2 - 1)) false (omega (arith, and_step n (n - 1), ap (bit_and (n / 2)) high))
    ∙ ap (λ (bs : List Bool). false ∷ bs) (others (omega arith))

pub digits-cleared : (k n : ℕ) → 0 < n → digits k (bit_and n (n - 1)) ≡ set (digits k n) (first_of (digits k n)) false
unfolding digits
digits-cleared zero n h = refl
digits-cleared (suc k) n h = cleared k n (bit_of (n % 2)) (lowest-digit n) h (digits-cleared k (n / 2))

-- the n lowest digits set
pub digits-full : (k n : ℕ) → n ≤ k → digits k (2 ^ n - 1) ≡ replicate n true ++ replicate (k - n) false
digits-full k zero h = digits-zero k ∙ ap (λ (j : ℕ). replicate j false) (sym (sub-zero k))
digits-full zero (suc n) h = absurd (omega arith)
digits-full (suc k) (suc n) h =
    digits_step k (2 ^ suc n - 1) (2 ^ n - 1) true (omega (arith, pow-suc 2 n, pow_pos n))
    ∙ ap (λ (bs : List Bool). true ∷ bs) (digits-full k n (omega arith) ∙ ap (λ (j : ℕ). replicate n true ++ replicate j false) (sym (suc-sub-suc k n)))

-- to clear a place makes the number no larger
cleared-within : (k r s i : ℕ) → r < 2 ^ k → s < 2 ^ k → digits k r ≡ set (digits k s) i false → r ≤ s
unfolding digits
cleared-within zero r s i hr hs e = omega arith
cleared-within (suc k) r s zero hr hs e =
    let bit : bit_of (r % 2) ≡ false = cc in
    let high : digits k (r / 2) ≡ digits k (s / 2) = cc in
    omega (arith, lowest-digit r, ap digit_of bit, digits-injective k (r / 2) (s / 2) (omega (arith, pow-suc 2 k)) (omega (arith, pow-suc 2 k)) high)
cleared-within (suc k) r s (suc i) hr hs e =
    let bit : bit_of (r % 2) ≡ bit_of (s % 2) = cc in
    let high : digits k (r / 2) ≡ set (digits k (s / 2)) i false = cc in
    omega (arith, lowest-digit r, lowest-digit s, ap digit_of bit, cleared-within k (r / 2) (s / 2) i (omega (arith, pow-suc 2 k)) (omega (arith, pow-suc 2 k)) high)

pub cleared-fits : (r s v : ℕ) → r < 2 ^ 64 → s < 2 ^ 32 → members r ≡ set (members s) v false → r < 2 ^ 32
cleared-fits r s v hr hs e = lt_of_le_of_lt (cleared-within 64 r s v hr (omega arith) e) hs

pub full-fits : (r n : ℕ) → r < 2 ^ 64 → n ≤ 32 → members r ≡ below n → r < 2 ^ 32
full-fits r n hr h e =
    let same : r ≡ 2 ^ n - 1 = digits-injective 64 r (2 ^ n - 1) hr (omega (arith, pow_mono h, pow_pos n)) (e ∙ sym (digits-full 64 n (omega arith))) in
    omega (arith, pow_mono h, pow_pos n)

pub ruleset on_digits = (digits-and, digits-or, digits-difference, digits-first, digits-count, digits-cleared)
