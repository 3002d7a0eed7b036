-- A cable with both its joints: its low and its high bound the exact chance, and each is off by less than 2 units.
use Prim.Native.Nat.{ℕ, ◌*◌, ◌≤◌}
use native.Mathlib.Omega.{arith}
use lib.Dec.{lit≤}
use Rattle.rounding.specs.Rounding.{S, product}
use Rattle.rounding.specs.declared.Direction.{Direction}
use Rattle.rounding.specs.declared.Direction.TheVariants.{Down, Up}
use Rattle.rounding.proofs.Laws.{Bounds, Off}
use Rattle.rounding.proofs.Operations.{product-rounds, product-range}
use Rattle.ratings.specs.Ratings.{J, with_joints}

-- a chance with its joints is a chance
pub joints-range : (d : Direction) (t : ℕ) → t ≤ S → with_joints d t ≤ S
unfolding with_joints
joints-range d t h = product-range d (product d t J) J (product-range d t J h (lit≤ tt)) (lit≤ tt)

-- low is no more than t × J × J / S², high no less
pub joints-bound : (d : Direction) (t : ℕ) → Bounds d (with_joints d t * (S * S)) (t * J * J)
unfolding with_joints
joints-bound Down t = record { order = omega (arith, (product-rounds Down t J).bounds.order, (product-rounds Down (product Down t J) J).bounds.order) }
joints-bound Up t = record { order = omega (arith, (product-rounds Up t J).bounds.order, (product-rounds Up (product Up t J) J).bounds.order) }

-- each is off by less than 2 units
pub joints-near : (d : Direction) (t : ℕ) → Off d (2 * (S * S)) (with_joints d t * (S * S)) (t * J * J)
unfolding with_joints
joints-near Down t = omega (arith, (product-rounds Down t J).near, (product-rounds Down (product Down t J) J).near)
joints-near Up t = omega (arith, (product-rounds Up t J).near, (product-rounds Up (product Up t J) J).near)

pub joints-order : (t : ℕ) → with_joints Down t ≤ with_joints Up t
joints-order t = omega (arith, (joints-bound Down t).order, (joints-bound Up t).order)
