use native.Mathlib.Nat.{not-suc-le-zero}
use native.Mathlib.Omega.{arith}
use borrow.Author.Rules.{rules}
use Rattle.forests.proofs.Tables.{more_of}
use Rattle.forests.proofs.Links.cuts.Invariants.{IsCut}
use Rattle.forests.proofs.Links.cuts.Goals as goal

pub loop-f-init : goal.loop-f-init
loop-f-init c = (search rules, λ g l. absurd (not-suc-le-zero l))

pub cut-requires : goal.cut-requires
cut-requires c = (c.requires, omega (arith, c.requires.most))

pub loop-f-preserved : goal.loop-f-preserved
loop-f-preserved c =
    let a = c.args in
    let l = c.loop-f in
    (search rules, more_of (IsCut a.self a.marks) l.all l.f c.cut.result (omega (arith, c.requires.most)) l.invariant.1 c.cut.ensures)

pub returns : goal.returns
returns c = λ g m. c.loop-f.invariant.1 g (omega arith)
