use mathlib.Core.Path.{◌≡◌, sym, ap, ap₂, ◌∙◌}
use mathlib.Core.Bool.{true, false}
use native.Mathlib.Omega.{arith}
use borrow.Author.Tests.{eqb-true, eqb-false}
use Rattle.reliability.specs.Rule.{tree}
use Rattle.loading.proofs.Stands.{stands-tree}
use Rattle.tables.specs.Tables.{rating}
use Rattle.plan.specs.Plans.{plan_of}
use Rattle.sittings.specs.Sittings.{traced}
use Rattle.sittings.specs.Entries.{opens_in}
use Rattle.saved.specs.Format.{state_in, opens_of, well_formed}
use Rattle.saved.proofs.Laws.{formed-size, begun-else, begun-means}
use Rattle.saved_verdict.proofs.Laws.{not-formed, by-traces, complete-passes}
use Rattle.saved_verdict.proofs.saved_verdict.Goals as goal
use Rattle.saved_verdict.proofs.saved_verdict.Goals.{After-traces, Else-is_complete, Else-not-is_well_formed}

pub returns-then-not-is_well_formed : goal.returns-then-not-is_well_formed
returns-then-not-is_well_formed c =
    let a = c.args in
    not-formed (tree (plan_of (rating a.table.now) a.plan.now)) a.saved.now (sym c.is_well_formed.ensures ∙ c.if-not-is_well_formed.true)

formed : (c : Else-not-is_well_formed) → well_formed c.args.saved.now ≡ true
formed c = sym c.is_well_formed.ensures ∙ c.if-not-is_well_formed.false

pub invariant_of-work : goal.invariant_of-work
invariant_of-work c = record { sized = formed-size _ (formed c) }

pub returns-then-is_complete : goal.returns-then-is_complete
returns-then-is_complete c =
    let a = c.args in
    complete-passes (tree (plan_of (rating a.table.now) a.plan.now)) a.saved.now (formed (goal.at.returns-then-is_complete c).Else-not-is_well_formed) (eqb-true (state_in a.saved.now) 1 (sym c.is_complete.ensures ∙ c.if-is_complete.true))

begun : (c : Else-is_complete) → state_in c.args.saved.now ≡ 0
begun c =
    let a = c.args in
    begun-else a.saved.now (formed (goal.at.Else-is_complete c).Else-not-is_well_formed) (eqb-false (state_in a.saved.now) 1 (sym c.is_complete.ensures ∙ c.if-is_complete.false))

pub row-row-requires : goal.row-row-requires
row-row-requires c = (formed (goal.at.row-row-requires c).Else-not-is_well_formed, begun (goal.at.row-row-requires c).Else-is_complete)

pub traces-requires : goal.traces-requires
traces-requires c =
    let few = (begun-means _ (formed (goal.at.traces-requires c).Else-not-is_well_formed) (begun (goal.at.traces-requires c).Else-is_complete)).few in
    (c.network_of.ensures.2, omega (arith, c.count.ensures))

-- what is traced is the plan's work and the open splits of the bytes
traced-is : (c : After-traces) → let a = c.args in
    c.traces.result ≡ traced (tree (plan_of (rating a.table.now) a.plan.now)) (opens_of a.saved.now)
traced-is c =
    let n = c.network_of in
    c.traces.ensures ∙ ap₂ traced (stands-tree _ n.result n.ensures.0 n.ensures.3 n.ensures.2) (ap (opens_in c.row-row.result 0) c.count.ensures ∙ c.row-row.ensures)

pub returns-then-traces : goal.returns-then-traces
returns-then-traces c =
    let a = c.args in
    by-traces (tree (plan_of (rating a.table.now) a.plan.now)) a.saved.now (formed (goal.at.returns-then-traces c).Else-not-is_well_formed) true (sym (traced-is (goal.at.returns-then-traces c).After-traces) ∙ c.if-traces.true)

pub returns-else-traces : goal.returns-else-traces
returns-else-traces c =
    let a = c.args in
    by-traces (tree (plan_of (rating a.table.now) a.plan.now)) a.saved.now (formed (goal.at.returns-else-traces c).Else-not-is_well_formed) false (sym (traced-is (goal.at.returns-else-traces c).After-traces) ∙ c.if-traces.false)
