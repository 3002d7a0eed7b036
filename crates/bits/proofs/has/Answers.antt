use mathlib.Core.Path.{ap, ◌∙◌}
use Prim.Native.Nat.{ℕ, ◌/◌, ◌^◌}
use lib.Dec.{eqb}
use lib.Bits.{and_mask}
use Rattle.bits.proofs.Operations.{digits-shifted}
use Rattle.bits.proofs.has.Goals as goal

pub returns : goal.returns
returns c =
    let s = c.args.s in
    let i = c.args.i in
    ap (λ (d : ℕ). eqb d 1) (and_mask (s / 2 ^ i) 1) ∙ digits-shifted 64 s i c.requires
