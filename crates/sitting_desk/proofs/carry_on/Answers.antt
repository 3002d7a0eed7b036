use mathlib.Core.Path.{ap, ◌∙◌}
use native.Mathlib.Omega.{arith}
use Rattle.reliability.specs.declared.Figure.{Figure}
use Rattle.answers.specs.Answers.{with_figure}
use Rattle.sittings.specs.Sittings.{sitting}
use Rattle.saved.specs.Format.{taken_in, over}
use Rattle.sitting_desk.specs.Carrying.{work_of, left_of}
use Rattle.sitting_desk.proofs.Carrying.{formed, few-aside, resumed-bytes}
use borrow.Author.Rules.{rules}
use Rattle.sitting_desk.proofs.carry_on.Goals as goal

pub row-row-requires : goal.row-row-requires
row-row-requires c =
    (formed c.args.plan.now c.args.table.now c.args.earlier.bytes.now c.requires.0, c.requires.0.begun)

pub set_aside-requires : goal.set_aside-requires
set_aside-requires c =
    let u = work_of c.args.plan.now c.args.table.now c.args.earlier.bytes.now in
    let l = left_of c.args.limit c.args.earlier.bytes.now in
    (omega (arith, c.carried-r.ensures.count, few-aside c.args.plan.now c.args.table.now c.args.earlier.bytes.now c.requires.0 l), c.requires.2)

pub returns : goal.returns
unfolding sitting
returns c =
    let a = c.args in
    let u = work_of a.plan.now a.table.now a.earlier.bytes.now in
    let l = left_of a.limit a.earlier.bytes.now in
    record { answer_after = c.put_answer.ensures ∙ ap (λ (f : Figure). with_figure f a.answer.now) c.carried-r.ensures.figure; work_after = c.set_aside.ensures ∙ ap (λ b. over b a.work.now) (resumed-bytes u l (taken_in a.earlier.bytes.now) _ _ c.carried-r.result c.carried-r.ensures (search rules) (few-aside a.plan.now a.table.now a.earlier.bytes.now c.requires.0 l)) }
