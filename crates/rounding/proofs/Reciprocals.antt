-- A digit by a reciprocal c of w, in parts of A: r / A * c / B, where c is at most 10 * B / (w / A + 1).
use Prim.Native.Nat.{ℕ, ◌+◌, ◌-◌, ◌*◌, ◌/◌, ◌≤◌, ◌<◌}
use mathlib.Core.Path.{◌≡◌, sym}
use native.Mathlib.Nat.{add-mul, one-mul, mul_comm, mul_assoc, mul_right_comm, mul_left_comm, mul-le-mul_left, mul-le-mul_right, le_of_mul-le-mul_right, lt_of_mul-lt-mul_right, div-mul-le_self, lt-div-mul-add, div-eq_of_lt-le}
use native.Mathlib.Omega.{arith}

module _ (A B r w c : ℕ) (posA : 0 < A) (posB : 0 < B) (below : r < w) (over : c * (w / A + 1) ≤ 10 * B) where
  -- w is less than w / A + 1 parts
  parts : w < (w / A + 1) * A
  parts = omega (arith, add-mul (w / A) 1 A, one-mul A, lt-div-mul-add {a = w} posA)

  pub product-fits : r / A * c ≤ 10 * B
  product-fits =
      let fewer : r / A < w / A + 1 = lt_of_mul-lt-mul_right A (omega (arith, div-mul-le_self r A, parts)) in
      let more : r / A * c ≤ (w / A + 1) * c = mul-le-mul_right c (omega arith) in
      omega (arith, more, over, mul_comm (w / A + 1) c)

  -- never too much
  pub not-above : r / A * c / B * w ≤ 10 * r
  not-above =
      let d = r / A * c / B in
      let H = w / A + 1 in
      let scaled : d * B * H ≤ r / A * c * H = mul-le-mul_right H (div-mul-le_self (r / A * c) B) in
      let most : r / A * (c * H) ≤ r / A * (10 * B) = mul-le-mul_left (r / A) over in
      let in_parts : d * H ≤ 10 * (r / A) =
      le_of_mul-le-mul_right {k = B}
      (omega (arith, scaled, most, mul_assoc (r / A) c H, mul_right_comm d B H, mul_left_comm (r / A) 10 B, mul_assoc 10 (r / A) B)) posB in
      let wider : d * w ≤ d * (H * A) = mul-le-mul_left d (omega (arith, parts)) in
      omega (arith, wider, mul_assoc d H A, mul-le-mul_right A in_parts, mul_assoc 10 (r / A) A, div-mul-le_self r A)

-- not too little either, where less than w is left
pub is-quotient : (t w d : ℕ) → d * w ≤ t → t - d * w < w → d ≡ t / w
is-quotient t w d h less = sym (div-eq_of_lt-le w h (omega (arith, add-mul d 1 w, one-mul w)))
