use Prim.Native.Nat.{◌<◌}
use mathlib.Core.Path.{◌≡◌, ap, ◌∙◌}
use native.Mathlib.Omega.{arith}
use lib.Pow.{pow_pos}
use Rattle.bits.specs.Members.{below}
use Rattle.bits.proofs.Operations.{digits-full, power}
use borrow.Author.Rules.{rules}
use Rattle.bits.proofs.full.Goals as goal

pub returns-then-n-eq64 : goal.returns-then-n-eq64
returns-then-n-eq64 c =
    let e : 64 ≡ c.args.n = search rules in
    digits-full 64 64 (omega arith) ∙ ap below e

pub overflow_sub-result : goal.overflow_sub-result
overflow_sub-result c =
    let n = c.args.n in
    let h : n < 64 = search rules in
    rw (power n h) (pow_pos n)

pub returns-else-n-eq64 : goal.returns-else-n-eq64
returns-else-n-eq64 c =
    let n = c.args.n in
    let h : n < 64 = search rules in
    rw (power n h) (digits-full 64 n (omega arith))
