-- Several sittings of a plan under one table, each handed what the one before it wrote.
use Rattle.std.specs.Prelude.{ℕ, ◌+◌, ◌*◌, ◌≤◌, ◌≡◌, List, [], ◌∷◌, cond, eqb, length, take}
use Rattle.tables.specs.Tables.{rating}
use Rattle.plan.specs.Plans.{plan_of}
use Rattle.sittings.specs.Sittings.{Saved, nothing, Choosing, saved_by}
use Rattle.saved.specs.Format.{count_in, state_in}
use Rattle.sitting_desk.specs.Outcome.{SittingOutcome, sitting_outcome}

-- a sitting's limit, and the buffers lent to it as they were
pub record Lent : Type 0 where
  pub limit : ℕ
  pub answer : List ℕ
  pub work : List ℕ

-- a limit that is accepted, and room for the answer and the saved work
pub record Allowed (x : Lent) : Type 0 where
  pub limit : x.limit ≤ 1000000
  pub room : 16 ≤ length x.answer
  pub space : 776 ≤ length x.work

abbrev pub AllAllowed : List Lent → Type 0
AllAllowed [] = Unit {0}
AllAllowed (x ∷ xs) = Allowed x × AllAllowed xs

-- the saved work in a buffer: 24 bytes where complete, else the sizes and 12 for each open split
unfoldable pub handed : List ℕ → List ℕ
handed work = take (cond (eqb (state_in work) 1) 24 (8 + 12 * count_in work)) work

abbrev pub sat : List ℕ → List ℕ → List ℕ → Lent → SittingOutcome
sat plan table saved x = sitting_outcome plan table x.limit saved x.answer x.work

-- what is handed on after several sittings
unfoldable pub handed_on : List ℕ → List ℕ → List ℕ → List Lent → List ℕ
handed_on plan table saved [] = saved
handed_on plan table saved (x ∷ xs) = handed_on plan table (handed (sat plan table saved x).work) xs

abbrev pub limits : List Lent → List ℕ
limits [] = []
limits (x ∷ xs) = x.limit ∷ limits xs

-- saved work that came from the plan's earlier sittings under this table, with its links' values of now, each by document 01's choice of the link to split on or by the rule's
pub record Earlier (plan table : List ℕ) (s : Saved) : Type 0 where
  pub sittings : List (Choosing × ℕ)
  pub same : s ≡ saved_by (plan_of (rating table) plan) nothing sittings
