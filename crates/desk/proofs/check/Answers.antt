use mathlib.Core.Path.{ap, ◌∙◌}
use Rattle.plan.specs.Plans.{returned}
use Rattle.desk.specs.Outcomes.{check_outcome}
use Rattle.desk.proofs.check.Goals as goal

pub returns : goal.returns
unfolding check_outcome
returns c = c.returned.ensures ∙ ap returned c.verdict_of.ensures
