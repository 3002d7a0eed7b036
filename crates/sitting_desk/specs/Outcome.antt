-- A sitting: what the call returns, and what it leaves in its two buffers.
use Rattle.std.specs.Prelude.{ℕ, List, ◌++◌, cond, eqb, length, take, drop}
use Rattle.reliability.specs.Rule.{tree}
use Rattle.tables.specs.Tables.{rating}
use Rattle.plan.specs.Plans.{plan_of}
use Rattle.causes.specs.Causes.{CallVerdict}
use Rattle.std.specs.Prelude.{Ok, Err}
use Rattle.causes.specs.Causes.{call_returned}
use Rattle.refusals.specs.Refusals.{also, sitting_verdict}
use Rattle.answers.specs.Answers.{with_figure}
use Rattle.sittings.specs.Sittings.{Sitting, begun, sitting}
use Rattle.saved.specs.Format.{state_in, taken_in, opens_of, saved_bytes, over}
use Rattle.saved_verdict.specs.SavedVerdict.{saved_verdict}

-- what a sitting returns, and the two buffers at its end
pub record SittingOutcome : Type 0 where
  pub returned : ℕ
  pub answer : List ℕ
  pub work : List ℕ

-- each sitting fills the answer and writes saved work; bytes behind it stay
abbrev pub carried_on : Sitting → List ℕ → List ℕ → SittingOutcome
carried_on s answer work = record { returned = 0; answer = with_figure s.answer answer; work = over (saved_bytes s.saved) work }

-- complete saved work is followed by the answer's 16 bytes: it is answered from them and written again
abbrev pub given_again : List ℕ → List ℕ → List ℕ → SittingOutcome
given_again saved answer work = record { returned = 0; answer = take 16 (drop 8 saved) ++ drop 16 answer; work = over saved work }

-- accepted, or refused with all bytes as they were
abbrev pub unless_refused : CallVerdict → List ℕ → List ℕ → SittingOutcome → SittingOutcome
unless_refused (Ok tt) answer work o = o
unless_refused (Err c) answer work o = record { returned = call_returned (Err c); answer = answer; work = work }

-- 10 then 11 after the plan's own refusals
abbrev pub verdict_of : List ℕ → List ℕ → ℕ → List ℕ → ℕ → ℕ → CallVerdict
verdict_of plan table limit saved room space = also (sitting_verdict plan table limit room space) (saved_verdict (tree (plan_of (rating table) plan)) saved)

-- the sitting of begun work: its open splits and the steps so far
abbrev pub sitting_of : List ℕ → List ℕ → ℕ → List ℕ → Sitting
sitting_of plan table limit saved = sitting (tree (plan_of (rating table) plan)) (begun (opens_of saved) (taken_in saved)) limit

-- an accepted sitting, by the state of its saved work
abbrev pub accepted_outcome : List ℕ → List ℕ → ℕ → List ℕ → List ℕ → List ℕ → SittingOutcome
accepted_outcome plan table limit saved answer work =
    cond (eqb (state_in saved) 1) (given_again saved answer work) (carried_on (sitting_of plan table limit saved) answer work)

-- of a plan, the buyer's table, the limit, the saved work and the two buffers
unfoldable pub sitting_outcome : List ℕ → List ℕ → ℕ → List ℕ → List ℕ → List ℕ → SittingOutcome
sitting_outcome plan table limit saved answer work =
    unless_refused (verdict_of plan table limit saved (length answer) (length work)) answer work (accepted_outcome plan table limit saved answer work)
