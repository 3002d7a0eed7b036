-- The outcomes of the calls by the built-in table T, as they were before the calls took a buyer's. With a table of no bytes, and
-- for the figure with all nodes chosen, they are these (proofs/BuiltIn.antt).
use Rattle.std.specs.Prelude.{ℕ, List, cond, eqb, length}
use Rattle.ratings.specs.Ratings.{T}
use Rattle.reliability.specs.Rule.{figure, tree}
use Rattle.reliability.specs.Comparisons.{importance, difference}
use Rattle.plan.specs.Plans.{verdict, plan_of}
use Rattle.causes.specs.Causes.{CallVerdict}
use Rattle.causes.specs.Outcomes.{Outcome, unless}
use Rattle.refusals.specs.Refusals.{asked, work_room, planned, planned_second, placed, also}
use Rattle.answers.specs.Answers.{with_figure}
use Rattle.sittings.specs.Sittings.{begun, sitting}
use Rattle.saved.specs.Format.{state_in, taken_in, opens_of}
use Rattle.saved_verdict.specs.SavedVerdict.{saved_verdict}
use Rattle.sitting_desk.specs.Outcome.{SittingOutcome, carried_on, given_again, unless_refused}
use Rattle.desk.specs.Outcomes.{with_difference}

-- 7, 9, then 1 to 6
abbrev pub built_in_verdict : List ℕ → ℕ → ℕ → CallVerdict
built_in_verdict plan limit room = also (asked limit room) (planned (verdict plan))

unfoldable pub built_in_figure : List ℕ → ℕ → List ℕ → Outcome
built_in_figure plan limit b =
    unless (built_in_verdict plan limit (length b)) b
    (with_figure (figure (plan_of T plan) limit) b)

unfoldable pub built_in_importance : List ℕ → ℕ → ℕ → List ℕ → Outcome
built_in_importance plan place limit b =
    unless (also (built_in_verdict plan limit (length b)) (placed plan place)) b
    (with_figure (importance (plan_of T plan) place limit) b)

unfoldable pub built_in_difference : List ℕ → List ℕ → ℕ → List ℕ → Outcome
built_in_difference first second limit b =
    unless (also (built_in_verdict first limit (length b)) (planned_second (verdict second))) b
    (with_difference (difference (plan_of T first) (plan_of T second) limit) b)

-- 7, 9 of either buffer, 1 to 6, 10, 11
unfoldable pub built_in_sitting : List ℕ → ℕ → List ℕ → List ℕ → List ℕ → SittingOutcome
built_in_sitting plan limit saved answer work =
    let t = tree (plan_of T plan) in
    unless_refused (also (also (also (asked limit (length answer)) (work_room (length work))) (planned (verdict plan))) (saved_verdict t saved)) answer work
    (cond (eqb (state_in saved) 1) (given_again saved answer work) (carried_on (sitting t (begun (opens_of saved) (taken_in saved)) limit) answer work))
