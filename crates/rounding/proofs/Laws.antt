-- What rounding down and up mean, once for both directions and any divisor.
use Prim.Native.Nat.{ℕ, ◌+◌, ◌-◌, ◌*◌, ◌/◌, ◌%◌, ◌≤◌, ◌<◌, zero-le}
use mathlib.Core.Path.{◌≡◌, sym, ap, ◌∙◌}
use mathlib.Core.Logic.{◌↔◌}
use native.Mathlib.Nat.{add_assoc, add_comm, add_left_comm, add-mul, mul-add, mul_assoc, mul_left_comm, one-mul, mul_comm, div-zero, mul_right_comm, mul-sub, mul-le-mul_left, mul-le-mul_right, le_trans, le_refl, le_antisymm, le-div_iff_mul-le, div-lt_iff_lt-mul, div-mul-le_self, lt-div-mul-add, le_of_mul-le-mul_right, lt_of_mul-lt-mul_right, div-add-mod'}
use native.Mathlib.Omega.{arith}
use native.Mathlib.Decide.{dec_lt}
use Rattle.rounding.specs.declared.Direction.{Direction}
use Rattle.rounding.specs.declared.Direction.TheVariants.{Down, Up}
use Rattle.rounding.specs.Rounding.{quotient, opposite}

-- `simp ring` proves a polynomial identity
pub ruleset ring = (mul-add, add-mul, mul_assoc, mul_comm, mul_left_comm, add_assoc, add_comm, add_left_comm)

abbrev pub Ordered : Direction → ℕ → ℕ → Type 0
Ordered Down a b = a ≤ b
Ordered Up a b = b ≤ a

-- a bounds b: from below, or from above
pub record Bounds (d : Direction) (a b : ℕ) : Type 0 where
  pub order : Ordered d a b

abbrev pub Off : Direction → ℕ → ℕ → ℕ → Type 0
Off Down e a b = b < a + e
Off Up e a b = a < b + e

-- r is x / y rounded: on its side of the exact quotient, and off by less than one
pub record Rounds (d : Direction) (r x y : ℕ) : Type 0 where
  pub bounds : Bounds d (r * y) x
  pub near : Off d y (r * y) x

pub bounds-refl : (d : Direction) (a : ℕ) → Bounds d a a
bounds-refl Down a = record { order = le_refl a }
bounds-refl Up a = record { order = le_refl a }

pub bounds-trans : (d : Direction) {a b c : ℕ} → Bounds d a b → Bounds d b c → Bounds d a c
bounds-trans Down h k = record { order = le_trans h.order k.order }
bounds-trans Up h k = record { order = le_trans k.order h.order }

pub bounds-antisymm : (d : Direction) {a b : ℕ} → Bounds d a b → Bounds d b a → a ≡ b
bounds-antisymm Down h k = le_antisymm h.order k.order
bounds-antisymm Up h k = le_antisymm k.order h.order

pub bounds-mul : (d : Direction) {a b : ℕ} (c : ℕ) → Bounds d a b → Bounds d (a * c) (b * c)
bounds-mul Down c h = record { order = mul-le-mul_right c h.order }
bounds-mul Up c h = record { order = mul-le-mul_right c h.order }

pub bounds-cancel : (d : Direction) (a b : ℕ) {c : ℕ} → 0 < c → Bounds d (a * c) (b * c) → Bounds d a b
bounds-cancel Down a b pos h = record { order = le_of_mul-le-mul_right h.order pos }
bounds-cancel Up a b pos h = record { order = le_of_mul-le-mul_right h.order pos }

one_more : (a y : ℕ) → (a + 1) * y ≡ a * y + y
one_more a y = add-mul a 1 y ∙ ap (λ k. a * y + k) (one-mul y)

-- the rounded quotient is the nearest whole number on its side
pub nearest : (d : Direction) (a x : ℕ) {y : ℕ} → 0 < y → Bounds d a (quotient d x y) ↔ Bounds d (a * y) x
unfolding quotient
nearest Down a x pos =
    (λ h. record { order = (le-div_iff_mul-le pos).0 h.order }, λ h. record { order = (le-div_iff_mul-le pos).1 h.order })
nearest Up a x {y} pos =
    let test = div-lt_iff_lt-mul {k = y} {x = x + (y - 1)} {y = a + 1} pos in (
      λ h. let k = test.0 (omega arith) in record { order = omega (arith, one_more a y) },
      λ h. let k = test.1 (omega (arith, one_more a y)) in record { order = omega arith },
    )

pub rounds : (d : Direction) (x : ℕ) {y : ℕ} → 0 < y → Rounds d (quotient d x y) x y
unfolding quotient
rounds Down x {y} pos = record { bounds = record { order = div-mul-le_self x y }; near = lt-div-mul-add pos }
rounds Up x {y} pos =
    record { bounds = (nearest Up (quotient Up x y) x pos).0 (bounds-refl Up (quotient Up x y)); near = omega (arith, div-mul-le_self (x + (y - 1)) y) }

-- a quotient that is larger as a fraction rounds to no less
keeps : (d : Direction) (x x' : ℕ) {y y' : ℕ} → 0 < y → 0 < y' → Bounds d (x * y') (x' * y) → Bounds d (quotient d x y) (quotient d x' y')
keeps d x x' {y} {y'} pos pos' h =
    (nearest d (quotient d x y) x' pos').1
    (bounds-cancel d _ _ pos (rw mul_right_comm (bounds-trans d (bounds-mul d y' (rounds d x pos).bounds) h)))

pub monotone : (d : Direction) (x x' : ℕ) {y y' : ℕ} → 0 < y → 0 < y' → x * y' ≤ x' * y → quotient d x y ≤ quotient d x' y'
monotone Down x x' pos pos' h = (keeps Down x x' pos pos' (record { order = h })).order
monotone Up x x' pos pos' h = (keeps Up x' x pos' pos (record { order = h })).order

-- nothing is counted over 0
pub over_zero : (d : Direction) (x : ℕ) → quotient d x 0 ≡ 0
unfolding quotient
over_zero Down x = div-zero x
over_zero Up x = div-zero (x + (0 - 1))

-- what is a multiple of the divisor is not rounded
pub of-multiple : (d : Direction) (a : ℕ) {y : ℕ} → 0 < y → quotient d (a * y) y ≡ a
of-multiple d a {y} pos =
    bounds-antisymm d (bounds-cancel d _ a pos (rounds d (a * y) pos).bounds) ((nearest d a (a * y) pos).1 (bounds-refl d (a * y)))

-- rounding up takes the quotient, and one more where a remainder is left
module _ (x : ℕ) {y : ℕ} (pos : 0 < y) where
  pub up-exact : x % y ≡ 0 → x / y ≡ quotient Up x y
  up-exact none = sym (ap (λ k. quotient Up k y) (omega (arith, div-add-mod' x y)) ∙ of-multiple Up (x / y) pos)

  pub up-carry : (x % y ≡ 0 → ⊥) → x / y + 1 ≡ quotient Up x y
  up-carry some =
      let u = quotient Up x y in
      let below : x / y < u = lt_of_mul-lt-mul_right y (omega (arith, div-add-mod' x y, (rounds Up x pos).bounds.order)) in
      let above = (nearest Up (x / y + 1) x pos).1 (record { order = omega (arith, one_more (x / y) y, lt-div-mul-add {a = x} pos) }) in
      omega arith

pub down-up : (x y : ℕ) → quotient Down x y ≤ quotient Up x y
down-up x y = go (dec_lt 0 y)
  where
    go : Dec (0 < y) → quotient Down x y ≤ quotient Up x y
    go (yes pos) = le_of_mul-le-mul_right (le_trans (rounds Down x pos).bounds.order (rounds Up x pos).bounds.order) pos
    go (no none) = let z : y ≡ 0 = omega arith in rw (z, over_zero Down x) zero-le

pub sub-mul : (a b y : ℕ) → (a - b) * y ≡ a * y - b * y
sub-mul a b y = mul_comm (a - b) y ∙ mul-sub y a b ∙ simp mul_comm

-- the larger share of the larger weighs more
pub rearranged : {p p' x y : ℕ} → p ≤ p' → y ≤ x → p * x + p' * y ≤ p' * x + p * y
rearranged {p} {p'} {x} {y} h k =
    omega (arith, mul-le-mul_left (p' - p) k, sub-mul p' p x, sub-mul p' p y, mul-le-mul_right x h, mul-le-mul_right y h)

-- what is subtracted is rounded the other way
pub complement : (d : Direction) (a z : ℕ) {y : ℕ} → 0 < y → z ≤ a * y → a - quotient (opposite d) z y ≡ quotient d (a * y - z) y
complement Down a z {y} pos h =
    let u = quotient Up z y in
    let v = quotient Down (a * y - z) y in
    let hu : z ≤ u * y = (rounds Up z pos).bounds.order in
    let hv : v * y ≤ a * y - z = (rounds Down (a * y - z) pos).bounds.order in
    let va : v ≤ a = le_of_mul-le-mul_right {k = y} (omega arith) pos in
    let l = (nearest Down (a - u) (a * y - z) pos).1 (record { order = omega (arith, sub-mul a u y) }) in
    let k = (nearest Up (a - v) z pos).1 (record { order = omega (arith, sub-mul a v y) }) in
    omega arith
complement Up a z {y} pos h =
    let u = quotient Down z y in
    let v = quotient Up (a * y - z) y in
    let hu : u * y ≤ z = (rounds Down z pos).bounds.order in
    let hv : a * y - z ≤ v * y = (rounds Up (a * y - z) pos).bounds.order in
    let l = (nearest Up (a - u) (a * y - z) pos).1 (record { order = omega (arith, sub-mul a u y) }) in
    let k = (nearest Down (a - v) z pos).1 (record { order = omega (arith, sub-mul a v y) }) in
    omega arith
