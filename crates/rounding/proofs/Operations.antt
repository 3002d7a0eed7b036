-- Each operation's laws: rounded from its exact quotient, monotone in each argument, at most S; of values in order, in order.
use Prim.Native.Nat.{ℕ, ◌+◌, ◌-◌, ◌*◌, ◌/◌, ◌≤◌, ◌<◌, zero-le}
use mathlib.Core.Path.{◌≡◌, sym, ap, ◌∙◌, subst}
use native.Mathlib.Nat.{sub-le, div-le_of_le-mul, add-mul, mul_comm, mul_assoc, mul-le-mul, mul-le-mul_left, mul-le-mul_right, le_trans, le_of_eq, add-sub_of_le, add-le-add}
use native.Mathlib.Omega.{arith}
use native.Mathlib.Decide.{dec_lt}
use lib.Dec.{lit<}
use Rattle.rounding.specs.declared.Direction.{Direction}
use Rattle.rounding.specs.declared.Direction.TheVariants.{Down, Up}
use Rattle.rounding.specs.Rounding.{S, quotient, product, parallel, either, series, factor, split}
use Rattle.rounding.proofs.Laws.{Rounds, rounds, monotone, over_zero, of-multiple, down-up, complement, rearranged, up-exact, up-carry, ring}

unit : 0 < S
unit = lit< tt

-- a quotient by S of at most S * S is at most S
pub range : (d : Direction) (x : ℕ) → x ≤ S * S → quotient d x S ≤ S
range d x h = subst (λ (k : ℕ). quotient d x S ≤ k) (of-multiple d S unit) (monotone d x (S * S) unit unit (mul-le-mul_right S h))

larger : (d : Direction) {x x' : ℕ} → x ≤ x' → quotient d x S ≤ quotient d x' S
larger d {x} {x'} h = monotone d x x' unit unit (mul-le-mul_right S h)

pub division-range : (x w : ℕ) → 0 < w → x ≤ w → S * x / w ≤ S
division-range x w pos h = div-le_of_le-mul w (le_trans (mul-le-mul_left S h) (le_of_eq (mul_comm S w)))

-- the shares p and S - p of x come to all of it
pub shares : (p x : ℕ) → p ≤ S → p * x + (S - p) * x ≡ S * x
shares p x h = sym (add-mul p (S - p) x) ∙ ap (λ k. k * x) (add-sub_of_le h)

-- ---- product
pub product-rounds : (d : Direction) (p q : ℕ) → Rounds d (product d p q) (p * q) S
unfolding product
product-rounds d p q = rounds d (p * q) unit

pub product-monotone : (d : Direction) {p p' q q' : ℕ} → p ≤ p' → q ≤ q' → product d p q ≤ product d p' q'
unfolding product
product-monotone d h k = larger d (mul-le-mul h k)

pub product-order : {p p' q q' : ℕ} → p ≤ p' → q ≤ q' → product Down p q ≤ product Up p' q'
unfolding product
product-order {p} {p'} {q} {q'} h k = le_trans (product-monotone Down h k) (down-up (p' * q') S)

pub product-range : (d : Direction) (p q : ℕ) → p ≤ S → q ≤ S → product d p q ≤ S
unfolding product
product-range d p q h k = range d (p * q) (mul-le-mul h k)

-- ---- W
module _ (p q : ℕ) (hp : p ≤ S) (hq : q ≤ S) where
  pub both-within : p * q ≤ either p q
  unfolding either
  both-within = omega (arith, shares p q hp, shares q p hq, mul_comm p q)

  pub either-complement : (S - p) * (S - q) + either p q ≡ S * S
  unfolding either
  either-complement = omega (arith, shares p q hp, shares q (S - p) hq, mul_comm (S - p) q, mul_comm (S - p) (S - q))

  pub either-range : either p q ≤ S * S
  either-range = omega (arith, either-complement)

  -- W is 0 only where both values are
  pub either-zero : either p q ≡ 0 → (p ≡ 0) × (q ≡ 0)
  unfolding either
  either-zero h = (omega (arith, shares p q hp), omega (arith, shares q p hq, mul_comm p q))

pub either-monotone : {p p' q q' : ℕ} → p ≤ p' → p' ≤ S → q ≤ q' → q' ≤ S → either p q ≤ either p' q'
either-monotone {p} {p'} {q} {q'} h hp k hq =
    let fall : (S - p') * (S - q') ≤ (S - p) * (S - q) = mul-le-mul (omega arith) (omega arith) in
    omega (arith, either-complement p q (omega arith) (omega arith), either-complement p' q' hp hq)

-- ---- the factor of a series
pub factor-rounds : (d : Direction) (p q : ℕ) → Rounds d (factor d p q) (either p q) S
unfolding factor
factor-rounds d p q = rounds d (either p q) unit

pub factor-monotone : (d : Direction) {p p' q q' : ℕ} → p ≤ p' → p' ≤ S → q ≤ q' → q' ≤ S → factor d p q ≤ factor d p' q'
unfolding factor
factor-monotone d h hp k hq = larger d (either-monotone h hp k hq)

pub factor-range : (d : Direction) (p q : ℕ) → p ≤ S → q ≤ S → factor d p q ≤ S
unfolding factor
factor-range d p q hp hq = range d (either p q) (either-range p q hp hq)

pub factor-order : {p p' q q' : ℕ} → p ≤ p' → p' ≤ S → q ≤ q' → q' ≤ S → factor Down p q ≤ factor Up p' q'
unfolding factor
factor-order {p} {p'} {q} {q'} h hp k hq = le_trans (factor-monotone Down h hp k hq) (down-up (either p' q') S)

-- the factor is 0 where W is
pub factor-zero : (d : Direction) (p q : ℕ) → either p q ≡ 0 → factor d p q ≡ 0
unfolding factor
factor-zero d p q h = rw h (of-multiple d 0 unit)

-- ---- parallel: both are W / S, so the factor's laws are the parallel value's
pub parallel-is-factor : (d : Direction) (p q : ℕ) → p ≤ S → q ≤ S → parallel d p q ≡ factor d p q
unfolding parallel factor
parallel-is-factor d p q hp hq =
    let whole = either-complement p q hp hq in
    complement d S ((S - p) * (S - q)) unit (omega arith) ∙ ap (λ k. quotient d k S) (omega arith)

-- what parallel subtracts is at most S
pub broken_range : (d : Direction) (p q : ℕ) → quotient d ((S - p) * (S - q)) S ≤ S
broken_range d p q = range d ((S - p) * (S - q)) (mul-le-mul (sub-le S p) (sub-le S q))

pub parallel-rounds : (d : Direction) (p q : ℕ) → p ≤ S → q ≤ S → Rounds d (parallel d p q) (either p q) S
parallel-rounds d p q hp hq = rw (parallel-is-factor d p q hp hq) (factor-rounds d p q)

pub parallel-range : (d : Direction) (p q : ℕ) → p ≤ S → q ≤ S → parallel d p q ≤ S
parallel-range d p q hp hq = rw (parallel-is-factor d p q hp hq) (factor-range d p q hp hq)

pub parallel-order : {p p' q q' : ℕ} → p ≤ p' → p' ≤ S → q ≤ q' → q' ≤ S → parallel Down p q ≤ parallel Up p' q'
parallel-order {p} {p'} {q} {q'} h hp k hq =
    rw (parallel-is-factor Down p q (le_trans h hp) (le_trans k hq), parallel-is-factor Up p' q' hp hq) (factor-order h hp k hq)

-- ---- series
pub series-rounds : (d : Direction) (p q : ℕ) → 0 < either p q → Rounds d (series d p q) (S * (p * q)) (either p q)
unfolding series
series-rounds d p q pos = rounds d (S * (p * q)) pos

-- the value is 0 where W is
pub series-zero : (d : Direction) (p q : ℕ) → either p q ≡ 0 → series d p q ≡ 0
unfolding series
series-zero d p q h = rw h (over_zero d (S * (p * q)))

pub series-range : (d : Direction) (p q : ℕ) → p ≤ S → q ≤ S → series d p q ≤ S
unfolding series
series-range d p q hp hq = go (dec_lt 0 (either p q))
  where
    go : Dec (0 < either p q) → series d p q ≤ S
    go (yes pos) =
        subst (λ (k : ℕ). series d p q ≤ k) (of-multiple d S pos)
        (monotone d (S * (p * q)) (S * either p q) pos pos (mul-le-mul_right (either p q) (mul-le-mul_left S (both-within p q hp hq))))
    go (no none) = rw (series-zero d p q (omega arith)) zero-le

-- W by which of the two links are sound: both, the first alone, the second alone
pub either-parts : (p q : ℕ) → p ≤ S → q ≤ S → either p q ≡ p * q + (p * (S - q) + (S - p) * q)
unfolding either
either-parts p q hp hq = omega (arith, shares p q hp, shares q p hq, mul_comm p q, mul_comm p (S - q))

cross : (p q P Q p' q' P' Q' : ℕ) → p * P' ≤ p' * P → q * Q' ≤ q' * Q
    → p * q * (p' * q' + (p' * Q' + P' * q')) ≤ p' * q' * (p * q + (p * Q + P * q))
cross p q P Q p' q' P' Q' h k =
    let first = simp ring at (mul-le-mul_left (q * q') h) in
    let second = simp ring at (mul-le-mul_left (p * p') k) in
    simp ring (omega arith)

pub series-monotone : (d : Direction) {p p' q q' : ℕ} → p ≤ p' → p' ≤ S → q ≤ q' → q' ≤ S → series d p q ≤ series d p' q'
unfolding series
series-monotone d {p} {p'} {q} {q'} h hp k hq = go (dec_lt 0 (either p q))
  where
    fractions : p * q * either p' q' ≤ p' * q' * either p q
    fractions =
        rw (either-parts p q (le_trans h hp) (le_trans k hq), either-parts p' q' hp hq)
        (cross p q (S - p) (S - q) p' q' (S - p') (S - q') (mul-le-mul h (omega arith)) (mul-le-mul k (omega arith)))

    go : Dec (0 < either p q) → series d p q ≤ series d p' q'
    go (yes pos) =
        monotone d (S * (p * q)) (S * (p' * q')) pos (le_trans pos (either-monotone h hp k hq))
        (rw (mul_assoc S (p * q) (either p' q'), mul_assoc S (p' * q') (either p q)) (mul-le-mul_left S fractions))
    go (no none) = rw (series-zero d p q (omega arith)) zero-le

pub series-order : {p p' q q' : ℕ} → p ≤ p' → p' ≤ S → q ≤ q' → q' ≤ S → series Down p q ≤ series Up p' q'
unfolding series
series-order {p} {p'} {q} {q'} h hp k hq = le_trans (series-monotone Down h hp k hq) (down-up (S * (p' * q')) (either p' q'))

-- ---- split: monotone in both figures, and in the value where sound is no less than broken
pub split-rounds : (d : Direction) (p x y : ℕ) → Rounds d (split d p x y) (p * x + (S - p) * y) S
unfolding split
split-rounds d p x y = rounds d (p * x + (S - p) * y) unit

pub split-monotone : (d : Direction) (p : ℕ) {x x' y y' : ℕ} → x ≤ x' → y ≤ y' → split d p x y ≤ split d p x' y'
unfolding split
split-monotone d p h k = larger d (add-le-add (mul-le-mul_left p h) (mul-le-mul_left (S - p) k))

pub shares-range : (p x y : ℕ) → p ≤ S → x ≤ S → y ≤ S → p * x + (S - p) * y ≤ S * S
shares-range p x y hp hx hy =
    le_trans (add-le-add (mul-le-mul_left p hx) (mul-le-mul_left (S - p) hy)) (le_of_eq (shares p S hp))

pub split-range : (d : Direction) (p x y : ℕ) → p ≤ S → x ≤ S → y ≤ S → split d p x y ≤ S
unfolding split
split-range d p x y hp hx hy = range d (p * x + (S - p) * y) (shares-range p x y hp hx hy)

pub split-value : (d : Direction) {p p' x y : ℕ} → p ≤ p' → p' ≤ S → y ≤ x → split d p x y ≤ split d p' x y
unfolding split
split-value d {p} {p'} {x} {y} h hp k =
    larger d (omega (arith, rearranged h k, shares p y (le_trans h hp), shares p' y hp))

-- what the two links of a series need
pub ruleset in_series = (both-within, either-range, series-zero)

-- a quotient rounded up
pub ruleset up = (up-exact, up-carry, division-range)
