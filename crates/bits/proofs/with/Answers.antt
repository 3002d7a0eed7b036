use Prim.Native.Nat.{◌^◌}
use mathlib.Core.Path.{◌∙◌}
use mathlib.Core.Bool.{true, ◌||◌, or-false, or-true}
use lib.Pow.{pow-lt}
use Rattle.bits.proofs.Operations.{digits-or, with-one, power}
use Rattle.bits.proofs.with.Goals as goal

pub returns : goal.returns
returns c =
    let s = c.args.s in
    let i = c.args.i in
    rw (power i c.requires) (digits-or 64 s (2 ^ i) (pow-lt c.requires) ∙ with-one ◌||◌ true or-false or-true 64 s i)
