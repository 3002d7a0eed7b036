-- Lengths of 0, 100, 200 and 51,100 metres with both joints, in units: computed from the definitions.
use Prim.Native.Nat.{ℕ}
use mathlib.Core.Path.{◌≡◌, refl}
use mathlib.Core.List.{List, [], ◌∷◌, map}
use Rattle.rounding.specs.Rounding.{quotient, product}
use Rattle.rounding.specs.declared.Direction.{Direction}
use Rattle.rounding.specs.declared.Direction.TheVariants.{Down, Up}
use Rattle.ratings.specs.Ratings.{T, with_joints}

pub worked : Direction → List ℕ
worked d = map (λ k. with_joints d (T k)) (0 ∷ 1 ∷ 2 ∷ 511 ∷ [])

pub lows : worked Down ≡ (999900002 ∷ 999600032 ∷ 999300151 ∷ 857766565 ∷ [])
unfolding worked T with_joints product quotient
lows = refl

pub highs : worked Up ≡ (999900003 ∷ 999600033 ∷ 999300153 ∷ 857766567 ∷ [])
unfolding worked T with_joints product quotient
highs = refl
