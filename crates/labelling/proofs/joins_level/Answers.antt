use mathlib.Core.Path.{sym, ◌∙◌}
use native.Mathlib.Omega.{arith}
use Rattle.game.specs.Forests.{has}
use Rattle.labelling.specs.Places.{places_of}
use Rattle.labelling.proofs.Laws.{placed_at, or-true, or-false}
use Rattle.labelling.proofs.joins_level.Goals as goal

pub returns-then-has : goal.returns-then-has
returns-then-has c =
    let a = c.args in
    let e = c.has.ensures ∙ sym (placed_at a.m a.ds a.f (omega arith)) in
    e ∙ or-true (has (places_of a.m a.ds) a.f) _ (sym e ∙ c.if-has.true)

pub returns-else-has : goal.returns-else-has
returns-else-has c =
    let a = c.args in
    let e = c.has.ensures ∙ sym (placed_at a.m a.ds a.f (omega arith)) in
    c.meets.ensures ∙ or-false (has (places_of a.m a.ds) a.f) _ (sym e ∙ c.if-has.false)
