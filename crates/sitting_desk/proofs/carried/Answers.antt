use Prim.Native.Nat.{◌-◌, min}
use mathlib.Core.Path.{refl, ap, ◌∙◌}
use native.Mathlib.Omega.{arith}
use Rattle.reliability.specs.Terminals.{tree}
use Rattle.network.specs.Places.{terminals_of}
use Rattle.loading.proofs.Stands.{stands-tree}
use Rattle.sittings.specs.Sittings.{most}
use Rattle.saved.specs.Format.{taken_in}
use Rattle.sitting_desk.specs.Carrying.{work_of, left_of}
use Rattle.sitting_desk.proofs.Carrying.{work, carries, same-work, resumed-of, few-carried}
use Rattle.sitting_desk.proofs.carried.Goals as goal

pub allowance-limited-requires : goal.allowance-limited-requires
allowance-limited-requires c =
    omega (arith, c.taken-taken.ensures, (work c.args.plan.now c.args.table.now c.args.earlier.bytes.now c.requires.0).steps)

pub carry-r-requires : goal.carry-r-requires
carry-r-requires c =
    let n = c.network_of in
    let q = c.count-count in
    (n.ensures.2, omega (arith, c.allowance-limited.ensures), carries c.args.plan.now c.args.table.now c.args.earlier.bytes.now c.requires.0 c.args.row.now c.requires.1 (tree (terminals_of n.result)) q.result (stands-tree _ n.result n.ensures.0 n.ensures.3 n.ensures.2) q.ensures)

pub with_earlier-requires : goal.with_earlier-requires
with_earlier-requires c =
    let taken = c.taken-taken in
    let few = few-carried _ _ _ taken.result c.carry-r.result.figure c.carry-r.ensures.figure c.allowance-limited.ensures (omega (arith, taken.ensures, (work c.args.plan.now c.args.table.now c.args.earlier.bytes.now c.requires.0).steps)) in
    omega arith

pub returns : goal.returns
returns c =
    let a = c.args in
    let n = c.network_of in
    let q = c.count-count in
    let taken = c.taken-taken in
    resumed-of _ (work_of a.plan.now a.table.now a.earlier.bytes.now) _ (left_of a.limit a.earlier.bytes.now) taken.result (taken_in a.earlier.bytes.now) a.row.now _ c.carry-r.result _
    (same-work a.plan.now a.table.now a.earlier.bytes.now c.requires.0 a.row.now c.requires.1 (tree (terminals_of n.result)) q.result (stands-tree _ n.result n.ensures.0 n.ensures.3 n.ensures.2) q.ensures)
    (c.allowance-limited.ensures ∙ ap (λ k. min a.limit (most - k)) taken.ensures)
    taken.ensures c.carry-r.ensures c.with_earlier.ensures refl
