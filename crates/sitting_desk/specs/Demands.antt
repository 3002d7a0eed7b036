-- The words in which the demands speak of a sitting.
use Rattle.std.specs.Prelude.{ℕ, ◌+◌, ◌*◌, ◌≤◌, max, ◌≡◌, List, length, drop}
use Rattle.reliability.specs.Rule.{tree}
use Rattle.tables.specs.Tables.{rating}
use Rattle.plan.specs.Plans.{size_m, plan_of}
use Rattle.std.specs.Prelude.{Ok}
use Rattle.saved.specs.Format.{over}
use Rattle.saved_verdict.specs.SavedVerdict.{saved_verdict}
use Rattle.sitting_desk.specs.Outcome.{SittingOutcome}
use Rattle.sitting_desk.specs.Chains.{handed}

-- a full answer: 0 is returned, sixteen bytes of the answer and the saved work are written, all other bytes are as they were
pub record Full (o : SittingOutcome) (answer work : List ℕ) : Type 0 where
  pub zero : o.returned ≡ 0
  pub later : drop 16 o.answer ≡ drop 16 answer
  pub size : length o.answer ≡ length answer
  pub written : o.work ≡ over (handed o.work) work
  pub behind : drop (length (handed o.work)) o.work ≡ drop (length (handed o.work)) work
  pub work_size : length o.work ≡ length work
  pub few : length (handed o.work) ≤ 776

-- a numbered refusal, both buffers untouched
pub record Refusal (o : SittingOutcome) (answer work : List ℕ) : Type 0 where
  pub numbered : 1 ≤ o.returned
  pub answered : o.answer ≡ answer
  pub worked : o.work ≡ work

-- saved work that fits: at most 12 bytes for each link behind the sizes, or 24 where complete, and accepted again by the same plan under the same table
pub record Keeps (plan table saved : List ℕ) : Type 0 where
  pub size : length saved ≤ max 24 (8 + 12 * size_m plan)
  pub enough : length saved ≤ 776
  pub again : saved_verdict (tree (plan_of (rating table) plan)) saved ≡ Ok tt
