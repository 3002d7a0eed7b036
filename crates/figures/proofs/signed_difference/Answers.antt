use Prim.Native.Nat.{◌^◌}
use mathlib.Core.Path.{◌≡◌, ap₂, ◌∙◌}
use native.Mathlib.Omega.{arith}
use lib.IntN.{pos, ◌-ℤ◌}
use mir.Syntax.{w32}
use mir.Val.{to_z}
use mir.Facts.{to_z_pos, to_z-of_z}
use Rattle.reliability.proofs.Signed.{minus-range}
use Rattle.figures.proofs.signed_difference.Goals as goal
use Rattle.figures.proofs.signed_difference.Goals.{Start}

-- both numbers are below 2 ^ 31, so they are read as they are
read : (c : Start) → (to_z w32 c.args.x ≡ pos c.args.x) × (to_z w32 c.args.y ≡ pos c.args.y)
read c = (to_z_pos w32 (omega arith), to_z_pos w32 (omega arith))

pub overflow_sub-result : goal.overflow_sub-result
overflow_sub-result c =
    let (e, f) = read c in
    rw (e, f) (record { sfits = minus-range c.args.x c.args.y (2 ^ 31) (omega arith) (omega arith) })

pub returns : goal.returns
returns c =
    to_z-of_z (overflow_sub-result c) ∙ ap₂ ◌-ℤ◌ (read c).0 (read c).1
