use mathlib.Core.Path.{sym, ◌∙◌, subst}
use Prim.Native.Nat.{ℕ, ◌≤◌}
use native.Mathlib.Omega.{arith}
use Rattle.rounding.specs.Rounding.{S}
use Rattle.tables.proofs.Theorems.{rating-range}
use Rattle.plan.proofs.Values.{in_table}
use Rattle.plan.proofs.value_of.Goals as goal

pub with_joints-requires : goal.with_joints-requires
with_joints-requires c =
    let few = in_table c.args.w (sym c.from.ensures ∙ c.in-OfLength.is) in
    subst (λ (t : ℕ). t ≤ S) (sym c.rating.ensures) (rating-range c.args.table.now c.requires c.in-OfLength.k (omega arith))
