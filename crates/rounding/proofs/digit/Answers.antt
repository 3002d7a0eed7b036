use Prim.Native.Nat.{ℕ, ◌*◌, ◌/◌, ◌^◌, ◌≤◌}
use native.Mathlib.Omega.{arith}
use lib.Dec.{lit<}
use Rattle.rounding.proofs.Reciprocals.{product-fits, not-above, is-quotient}
use Rattle.rounding.proofs.digit.Goals as goal
use Rattle.rounding.proofs.digit.Goals.{Start}

abbrev PART : ℕ
PART = 2 ^ 29

abbrev SCALE : ℕ
SCALE = 2 ^ 60

pub overflow_mul-d : goal.overflow_mul-d
overflow_mul-d c = omega (arith, product-fits PART SCALE c.args.r c.args.w c.args.reciprocal (lit< tt) (lit< tt) c.requires.0 c.requires.2)

small : (c : Start) → c.args.r / PART * c.args.reciprocal / SCALE * c.args.w ≤ 10 * c.args.r
small c = not-above PART SCALE c.args.r c.args.w c.args.reciprocal (lit< tt) (lit< tt) c.requires.0 c.requires.2

pub overflow_mul-d-2 : goal.overflow_mul-d-2
overflow_mul-d-2 c = omega (arith, small c)

pub overflow_sub-tenfold : goal.overflow_sub-tenfold
overflow_sub-tenfold c = omega (arith, small c)

pub returns-then-tenfold-d : goal.returns-then-tenfold-d
returns-then-tenfold-d c = is-quotient (10 * c.args.r) c.args.w _ (small (goal.at.returns-then-tenfold-d c).Start) (omega (arith, c.if-tenfold-d.true))
