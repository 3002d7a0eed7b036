use mathlib.Core.Path.{sym, ap, ◌∙◌}
use mathlib.Core.Bool.{cond}
use Rattle.sittings.specs.Sittings.{complete}
use Rattle.saved.specs.Format.{saved_bytes, begun_bytes, over}
use Rattle.sitting_desk.proofs.set_aside.Goals as goal

pub returns-then-f : goal.returns-then-f
returns-then-f c =
    let a = c.args in
    c.put_complete.ensures ∙ ap (λ t. over (cond t (saved_bytes (complete a.r.figure)) (begun_bytes a.row.now a.r.aside a.r.figure.steps)) a.work.now) (sym c.if-f.true)

pub returns-else-f : goal.returns-else-f
returns-else-f c =
    let a = c.args in
    c.put_begun.ensures ∙ ap (λ t. over (cond t (saved_bytes (complete a.r.figure)) (begun_bytes a.row.now a.r.aside a.r.figure.steps)) a.work.now) (sym c.if-f.false)
