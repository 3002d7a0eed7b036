-- What the file's values stand for: some, computed from the definitions; then what holds of all.
use Prim.Native.Nat.{ℕ, ◌-◌, ◌≤◌, ◌<◌, zero-le}
use mathlib.Core.Path.{◌≡◌, refl, ap}
use mathlib.Core.List.{List, [], ◌∷◌, map}
use mathlib.Core.Bool.{Bool, true, false, ◌&&◌}
use native.Mathlib.Nat.{le_refl}
use native.Mathlib.Omega.{arith}
use lib.Dec.{leb}
use borrow.Author.Tests.{leb-true}
use Rattle.rounding.specs.Rounding.{S, quotient, product}
use Rattle.rounding.specs.declared.Direction.{Direction}
use Rattle.rounding.specs.declared.Direction.TheVariants.{Down, Up}
use Rattle.ratings.specs.Ratings.{T, AtMostS, with_joints}
use Rattle.ratings.proofs.Joints.{joints-range, joints-order}
use Rattle.tables.specs.Tables.{value_in, rating}
use Rattle.tables.proofs.Examples.{bytes, whole}
use Rattle.plan.specs.declared.Rated.{Rated}
use Rattle.plan.specs.declared.Rated.TheVariants.{Units, OfLength, Unrated}
use Rattle.plan.specs.Plans.{rated_by, rated, value_of}

-- 0, S and a value between in units; lengths of 0 and 51,100 metres; one more stands for none
pub worked : (rating : ℕ → ℕ) → Direction → List ℕ
worked rating d = map (λ w. value_of rating d (rated w)) (0 ∷ 1000000000 ∷ 999700000 ∷ 2147483648 ∷ 2147484159 ∷ 2147484160 ∷ [])

pub lows : worked T Down ≡ (0 ∷ 1000000000 ∷ 999700000 ∷ 999900002 ∷ 857766565 ∷ 0 ∷ [])
unfolding worked rated T with_joints product quotient
lows = refl

pub highs : worked T Up ≡ (0 ∷ 1000000000 ∷ 999700000 ∷ 999900003 ∷ 857766567 ∷ 0 ∷ [])
unfolding worked rated T with_joints product quotient
highs = refl

-- by a buyer's table whose last value is 800,000,001
pub buyers-lows : worked (rating (whole 800000001)) Down ≡ (0 ∷ 1000000000 ∷ 999700000 ∷ 999900002 ∷ 799920002 ∷ 0 ∷ [])
unfolding worked rated rating value_in bytes whole with_joints product quotient
buyers-lows = refl

pub buyers-highs : worked (rating (whole 800000001)) Up ≡ (0 ∷ 1000000000 ∷ 999700000 ∷ 999900003 ∷ 799920003 ∷ 0 ∷ [])
unfolding worked rated rating value_in bytes whole with_joints product quotient
buyers-highs = refl

-- what holds of each value in units up to S, of each length up to 511 and of none holds of what every value stands for
pub by-rated : (P : Rated → Type 0) → ((v : ℕ) → v ≤ S → P (Units v)) → ((k : ℕ) → k ≤ 511 → P (OfLength k)) → P Unrated → (w : ℕ) → P (rated w)
unfolding rated
by-rated P units length none w = go (leb w S) (leb 2147483648 w) (leb (w - 2147483648) 511) (leb-true w S) (leb-true (w - 2147483648) 511)
  where
    go : (s t u : Bool) → (s ≡ true → w ≤ S) → (u ≡ true → w - 2147483648 ≤ 511) → P (rated_by s (t && u) w)
    go true t u h k = units w (h refl)
    go false true true h k = length (w - 2147483648) (k refl)
    go false true false h k = none
    go false false u h k = none

-- it is a chance, low no higher than high
module _ (rating : ℕ → ℕ) where
  pub value-range : AtMostS rating → (d : Direction) (w : ℕ) → value_of rating d (rated w) ≤ S
  value-range chances d = by-rated (λ r. value_of rating d r ≤ S) (λ v h. h) (λ k h. joints-range d (rating k) (chances k h)) zero-le

  pub value-order : (w : ℕ) → value_of rating Down (rated w) ≤ value_of rating Up (rated w)
  value-order = by-rated (λ r. value_of rating Down r ≤ value_of rating Up r) (λ v h. le_refl v) (λ k h. joints-order (rating k)) (le_refl 0)

-- the hundred metres of a length
abbrev hundreds : Rated → ℕ
hundreds (Units v) = 0
hundreds (OfLength k) = k
hundreds Unrated = 0

-- they are a place of the table
pub in_table : {k : ℕ} (w : ℕ) → rated w ≡ OfLength k → k < 512
in_table {k} w e =
    let most = by-rated (λ r. hundreds r ≤ 511) (λ v h. zero-le) (λ j h. h) zero-le w in
    omega (arith, ap hundreds e)
