-- A plan worked through several sittings: the demands on a figure hold of the last answer.
use Prim.Native.Nat.{ℕ, ◌+◌, ◌≤◌, min}
use mathlib.Core.Path.{◌≡◌, sym, ap, ◌∙◌, subst}
use mathlib.Core.List.{List}
use native.Mathlib.Omega.{arith}
use lib.ListN.{length}
use Rattle.rounding.specs.Rounding.{S}
use Rattle.reliability.specs.Exact.{altogether}
use Rattle.reliability.specs.Rule.{figure, needed}
use Rattle.tables.specs.Tables.{rating, AcceptedTable}
use Rattle.plan.specs.Plans.{WellFormed, plan_of}
use Rattle.causes.specs.Outcomes.{Outcome}
use Rattle.causes.proofs.Outcomes.{answers}
use Rattle.refusals.specs.Refusals.{figure_verdict}
use Rattle.answers.specs.Answers.{with_figure, low_in, high_in, steps_in, finished_in}
use Rattle.sittings.specs.Sittings.{nothing}
use Rattle.saved.proofs.Laws.{zeros, zeros-nothing}
use Rattle.sitting_desk.specs.Outcome.{SittingOutcome}
use Rattle.sitting_desk.specs.Chains.{Lent, Allowed, AllAllowed, sat, handed_on, limits}
use Rattle.sitting_desk.proofs.Demands as sittings
use Rattle.refusals.proofs.Calls.{figure-means}
use Rattle.desk.specs.Outcomes.{figure_outcome, all_nodes, all_figure_outcome}
use Rattle.desk.specs.Answers.{Encloses, Narrow, Marked, LiesWithin}
use Rattle.desk.proofs.Demands.{figure-range, figure-nesting, figure-width}
use Rattle.desk.proofs.AllNodes.{figure-of-all, all-encloses, all-steps, all-marked}

module _ (plan table : List ℕ) (fine : AcceptedTable table) (well : WellFormed plan) where
  -- the figure of all nodes under an accepted limit
  module _ (limit : ℕ) (b : List ℕ) (few : limit ≤ 1000000) (room : 16 ≤ length b) where
    told : (0 ≡ (all_figure_outcome plan table limit b).returned) × (with_figure (figure (plan_of (rating table) plan) limit) b ≡ (all_figure_outcome plan table limit b).buffer)
    unfolding all_figure_outcome
    told = answers (figure_verdict plan table limit (length b)) b (with_figure (figure (plan_of (rating table) plan) limit) b) ((figure-means plan table limit (length b)).1 (few, room, fine, well))

    answered : (figure_outcome plan table (all_nodes plan) limit b).returned ≡ 0
    answered = ap (λ (o : Outcome). o.returned) (figure-of-all plan table limit b) ∙ sym told.0

    filled : with_figure (figure (plan_of (rating table) plan) limit) b ≡ (figure_outcome plan table (all_nodes plan) limit b).buffer
    filled = told.1 ∙ sym (ap (λ (o : Outcome). o.buffer) (figure-of-all plan table limit b))

  -- a first sitting is handed eight zero bytes and answers as the figure does under its limit
  pub first-as-figure : (x : Lent) → Allowed x → ((sat plan table zeros x).returned ≡ 0) × ((sat plan table zeros x).answer ≡ (figure_outcome plan table (all_nodes plan) x.limit x.answer).buffer)
  first-as-figure x a =
      let (zero, same) = sittings.first-sitting plan table fine well x a in
      (zero, same ∙ filled x.limit x.answer a.limit a.room)

  -- several sittings, and one more
  module _ (xs : List Lent) (before : AllAllowed xs) (x : Lent) (a : Allowed x) where
    abbrev last : SittingOutcome
    last = sat plan table (handed_on plan table zeros xs) x

    abbrev after : List ℕ
    after = last.answer

    -- their total, or 1,000,000 if that is less
    abbrev total : ℕ
    total = min (altogether (limits xs) + x.limit) 1000000

    few : total ≤ 1000000
    few = omega arith

    zero : (figure_outcome plan table (all_nodes plan) total x.answer).returned ≡ 0
    zero = answered total x.answer few a.room

    -- a user who works a plan through several sittings gets the answer of one sitting whose limit is their total, or 1,000,000 if that is less
    pub sittings-as-figure : (last.returned ≡ 0) × (after ≡ (figure_outcome plan table (all_nodes plan) total x.answer).buffer)
    sittings-as-figure =
        let e = sittings.sittings-add-up plan table fine well nothing (sittings.first plan table fine well) xs before x a in
        (subst (λ b. (sat plan table (handed_on plan table b xs) x).returned ≡ 0) zeros-nothing e.0, sittings.sittings-figure plan table fine well xs before x a ∙ filled total x.answer few a.room)

    of-figure : (P : List ℕ → Type 0) → P (figure_outcome plan table (all_nodes plan) total x.answer).buffer → P after
    of-figure P = subst P (sym sittings-as-figure.1)

    -- demand 2: low × S^(m+2L) ≤ S × N ≤ high × S^(m+2L), also when steps run out
    pub sitting-encloses : Encloses plan table after
    sitting-encloses = of-figure (Encloses plan table) (all-encloses plan table total x.answer zero)

    -- demand 3: the step count equals the smaller of the splits needed and the total
    pub sitting-steps : steps_in after ≡ min (needed (plan_of (rating table) plan)) total
    sitting-steps = of-figure (λ b. steps_in b ≡ min (needed (plan_of (rating table) plan)) total) (all-steps plan table total x.answer zero)

    -- demand 3: marked unfinished exactly when the plan needs more splits, by the written rule, than the total
    pub sitting-marked : Marked (finished_in after) (needed (plan_of (rating table) plan)) total
    sitting-marked = of-figure (λ b. Marked (finished_in b) (needed (plan_of (rating table) plan)) total) (all-marked plan table total x.answer zero)

    -- demand 3: a finished pair is at most 2m + 4n + 4L wide, however many splits and sittings it took
    pub sitting-width : Narrow plan after
    sitting-width = of-figure (Narrow plan) (figure-width plan table (all_nodes plan) total x.answer zero)

    pub sitting-range : (low_in after ≤ high_in after) × (high_in after ≤ S)
    sitting-range = of-figure (λ b. (low_in b ≤ high_in b) × (high_in b ≤ S)) (figure-range plan table (all_nodes plan) total x.answer zero)

  -- demand 3: with a larger total the pair lies within the smaller total's, however either was cut into sittings
  module _ (xs : List Lent) (before : AllAllowed xs) (x : Lent) (a : Allowed x) (ys : List Lent) (before' : AllAllowed ys) (y : Lent) (a' : Allowed y) where
    pub sitting-nesting : total xs before x a ≤ total ys before' y a' → LiesWithin (after ys before' y a') (after xs before x a)
    sitting-nesting h =
        of-figure ys before' y a' (λ c. LiesWithin c (after xs before x a))
        (of-figure xs before x a (λ b. LiesWithin (figure_outcome plan table (all_nodes plan) (total ys before' y a') y.answer).buffer b)
        (figure-nesting plan table (all_nodes plan) (total xs before x a) (total ys before' y a') x.answer y.answer (zero xs before x a) (zero ys before' y a') h))
