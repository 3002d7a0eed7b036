use Prim.Native.Nat.{◌^◌}
use mathlib.Core.Path.{◌∙◌}
use mathlib.Core.Bool.{false, not, ◌&&◌, and-true, and-false}
use lib.Pow.{pow-lt}
use Rattle.bits.proofs.Operations.{digits-difference, with-one, power}
use Rattle.bits.proofs.without.Goals as goal

pub returns : goal.returns
returns c =
    let s = c.args.s in
    let i = c.args.i in
    rw (power i c.requires) (digits-difference 64 s (2 ^ i) (pow-lt c.requires) ∙ with-one (λ b c. b && not c) false and-true and-false 64 s i)
