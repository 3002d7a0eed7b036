use Prim.Native.Nat.{ℕ, ◌≤◌}
use mathlib.Core.Path.{◌≡◌, sym, subst}
use lib.Dec.{lit≤}
use Rattle.rounding.specs.Rounding.{S, product}
use Rattle.rounding.specs.declared.Direction.{Direction}
use Rattle.rounding.proofs.Operations.{product-range}
use Rattle.ratings.specs.Ratings.{J, with_joints}
use Rattle.ratings.proofs.with_joints.Goals as goal

pub product-requires-2 : goal.product-requires-2
product-requires-2 c =
    let a = c.args in
    (subst (λ (k : ℕ). k ≤ S) (sym c.product.ensures) (product-range a.d a.t _ c.requires (lit≤ tt)), lit≤ tt)

-- one joint, then the other
both : {x y : ℕ} (d : Direction) (t : ℕ) → x ≡ product d t J → y ≡ product d x J → y ≡ with_joints d t
unfolding with_joints
both d t one other = rw (other, one)

pub returns : goal.returns
returns c =
    let a = c.args in
    both a.d a.t c.product.ensures c.product-2.ensures
