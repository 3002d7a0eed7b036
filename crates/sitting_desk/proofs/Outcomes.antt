-- A sitting's outcome: refused, complete or carried on.
use Prim.Native.Nat.{ℕ, ◌≤◌}
use mathlib.Core.Path.{◌≡◌, ap, ◌∙◌}
use mathlib.Core.List.{List}
use mathlib.Core.Bool.{Bool, true, false, cond}
use lib.Dec.{eqb}
use lib.ListN.{length}
use Rattle.reliability.specs.Rule.{tree}
use Rattle.tables.specs.Tables.{rating, AcceptedTable}
use Rattle.plan.specs.Plans.{WellFormed, plan_of}
use Rattle.causes.specs.declared.CallCause.{CallCause}
use Rattle.causes.specs.Causes.{CallVerdict}
use Rattle.std.specs.Prelude.{Ok, Err}
use Rattle.causes.specs.Causes.{call_returned}
use Rattle.refusals.specs.Refusals.{sitting_verdict}
use Rattle.refusals.proofs.Calls.{also-means, sitting-means}
use Rattle.saved.specs.Format.{state_in}
use Rattle.saved_verdict.specs.SavedVerdict.{saved_verdict}
use Rattle.sitting_desk.specs.Outcome.{SittingOutcome, carried_on, given_again, unless_refused, verdict_of, sitting_of, accepted_outcome, sitting_outcome}

-- what is accepted: the limit, the buffers, the table, the plan and the saved work
pub record AcceptedCall (plan table : List ℕ) (limit : ℕ) (saved : List ℕ) (room space : ℕ) : Type 0 where
  pub limited : limit ≤ 1000000
  pub answer : 16 ≤ room
  pub work : 776 ≤ space
  pub tabled : AcceptedTable table
  pub well : WellFormed plan
  pub saves : saved_verdict (tree (plan_of (rating table) plan)) saved ≡ Ok tt

module _ (plan table : List ℕ) (limit : ℕ) (saved : List ℕ) where
  pub accepted-call : (room space : ℕ) → verdict_of plan table limit saved room space ≡ Ok tt → AcceptedCall plan table limit saved room space
  accepted-call room space e =
      let (s, t) = (also-means (sitting_verdict plan table limit room space) (saved_verdict (tree (plan_of (rating table) plan)) saved)).0 e in
      let h = (sitting-means plan table limit room space).0 s in
      record { limited = h.0; answer = h.1; work = h.2; tabled = h.3; well = h.4; saves = t }

  pub call-accepted : (room space : ℕ) → AcceptedCall plan table limit saved room space → verdict_of plan table limit saved room space ≡ Ok tt
  call-accepted room space h =
      (also-means (sitting_verdict plan table limit room space) (saved_verdict (tree (plan_of (rating table) plan)) saved)).1
      ((sitting-means plan table limit room space).1 (h.limited, h.answer, h.work, h.tabled, h.well), h.saves)

  module _ (answer work : List ℕ) where
    abbrev v : CallVerdict
    v = verdict_of plan table limit saved (length answer) (length work)

    abbrev o : SittingOutcome
    o = sitting_outcome plan table limit saved answer work

    -- a refused call returns the verdict's number and leaves both buffers
    pub refused : (c : CallCause) → v ≡ Err c → o ≡ record { returned = call_returned (Err c); answer = answer; work = work }
    unfolding sitting_outcome
    refused c e = ap (λ u. unless_refused u answer work (accepted_outcome plan table limit saved answer work)) e

    accepted-by : (t : Bool) → v ≡ Ok tt → eqb (state_in saved) 1 ≡ t → o ≡ cond t (given_again saved answer work) (carried_on (sitting_of plan table limit saved) answer work)
    unfolding sitting_outcome
    accepted-by t e f =
        ap (λ u. unless_refused u answer work (accepted_outcome plan table limit saved answer work)) e
        ∙ ap (λ s. cond s (given_again saved answer work) (carried_on (sitting_of plan table limit saved) answer work)) f

    pub completed : v ≡ Ok tt → eqb (state_in saved) 1 ≡ true → o ≡ given_again saved answer work
    completed = accepted-by true

    pub carried : v ≡ Ok tt → eqb (state_in saved) 1 ≡ false → o ≡ carried_on (sitting_of plan table limit saved) answer work
    carried = accepted-by false
