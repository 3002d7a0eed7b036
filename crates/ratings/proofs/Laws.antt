use Prim.Native.Nat.{ℕ, zero, suc, ◌≤◌}
use native.Mathlib.Nat.{div-le_of_le-mul, le_refl}
use native.Mathlib.Omega.{arith}
use Rattle.rounding.specs.Rounding.{S}
use Rattle.ratings.specs.Ratings.{T, AtMostS}

-- every entry is a chance
range : (k : ℕ) → T k ≤ S
unfolding T
range zero = le_refl S
range (suc k) = div-le_of_le-mul S (omega (arith, range k))

pub built-in-range : AtMostS T
built-in-range k h = range k
