-- How many sets of i links connect all nodes: what the call returns, and what it leaves in the row.
use Rattle.std.specs.Prelude.{ℕ, suc, ◌+◌, ◌≤◌, ◌<◌, ◌≡◌, List, ◌++◌, cond, ltb, length, drop, get_or}
use Rattle.ratings.specs.Ratings.{T}
use Rattle.plan.specs.Plans.{size_m, verdict, plan_of}
use Rattle.causes.specs.declared.CallCause.TheVariants.{ManyLinks, RowSize}
use Rattle.causes.specs.Causes.{CallVerdict}
use Rattle.std.specs.Prelude.{Ok, Err}
use Rattle.causes.specs.Outcomes.{Outcome, unless}
use Rattle.refusals.specs.Refusals.{also, planned}
use Rattle.sets.specs.Sets.{connecting_sets, connecting_row}

-- more than 24 links
unfoldable pub few : List ℕ → CallVerdict
few plan = cond (ltb 24 (size_m plan)) (Err ManyLinks) (Ok tt)

-- a row shorter than m + 1 numbers
unfoldable pub row_room : List ℕ → ℕ → CallVerdict
row_room plan room = cond (ltb room (size_m plan + 1)) (Err RowSize) (Ok tt)

-- the plan's causes, then these
abbrev pub counts_verdict : List ℕ → ℕ → CallVerdict
counts_verdict plan room = also (planned (verdict plan)) (also (few plan) (row_room plan room))

-- entry i at place i up to m, the rest of the row as it was
abbrev pub filled : List ℕ → List ℕ → List ℕ
filled plan row = connecting_row (plan_of T plan) ++ drop (suc (size_m plan)) row

-- of a plan and the row
unfoldable pub counts_outcome : List ℕ → List ℕ → Outcome
counts_outcome plan row = unless (counts_verdict plan (length row)) row (filled plan row)

-- a full answer: 0 is returned, entry i stands at place i up to m, and the places behind m and the row's length are as they were
pub record Counted (plan row : List ℕ) (o : Outcome) : Type 0 where
  pub zero : o.returned ≡ 0
  pub entries : (i : ℕ) → i ≤ size_m plan → get_or o.buffer i 0 ≡ connecting_sets (plan_of T plan) i
  pub behind : (i : ℕ) → size_m plan < i → get_or o.buffer i 0 ≡ get_or row i 0
  pub size : length o.buffer ≡ length row
