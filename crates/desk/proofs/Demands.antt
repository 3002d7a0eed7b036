-- The three demands on a figure, over what the call returns and the numbers that it leaves in the answer buffer.
use Prim.Native.Nat.{ℕ, ◌+◌, ◌^◌, ◌≤◌, ◌<◌, min}
use mathlib.Core.Path.{◌≡◌, ap, ◌∙◌, subst}
use mathlib.Core.List.{List, map}
use mathlib.Core.Logic.Iff
use mathlib.Core.Logic.{◌⊎◌, ◌↔◌}
use mathlib.Core.Bool.{true, false, cond}
use native.Mathlib.Omega.{arith}
use lib.ListN.{length}
use Rattle.rounding.specs.Rounding.{S}
use Rattle.bits.specs.Members.{members, how_many}
use Rattle.reliability.specs.declared.Figure.{Figure}
use Rattle.reliability.specs.Networks.{ends, connected}
use Rattle.reliability.specs.Rule.{bounded}
use Rattle.reliability.specs.Terminals.{Terminals, Chosen, figure, needed}
use Rattle.reliability.proofs.TerminalTheorems as rule
use Rattle.search.specs.Searches.{nodes_in}
use Rattle.search.proofs.Sets.{has-below, mem-has, nodes-ascending, from-node}
use Rattle.search.proofs.Marks.{length-places}
use Rattle.tables.specs.Tables.{rating, AcceptedTable}
use Rattle.tables.proofs.Theorems.{rating-range}
use Rattle.plan.specs.Plans.{size_n, WellFormed, verdict, plan_of}
use Rattle.plan.proofs.Verdicts.{accepted-means, zero-means}
use Rattle.plan.proofs.Weights.{plan-enclosed, plan-lengths}
use Rattle.causes.specs.Causes.{CallVerdict}
use Rattle.std.specs.Prelude.{Ok}
use Rattle.causes.specs.Causes.{call_returned}
use Rattle.causes.specs.Outcomes.{Outcome, Refusal}
use Rattle.causes.proofs.Outcomes.{returned-of, zero_of}
use Rattle.refusals.specs.Refusals.{chosen_verdict}
use Rattle.refusals.proofs.Calls.{chosen-accepts}
use Rattle.answers.specs.Answers.{with_figure, low_in, high_in, steps_in, finished_in, Holds}
use Rattle.desk.specs.Outcomes.{check_outcome, chosen_by, figure_outcome}
use Rattle.desk.specs.Answers.{EnclosesAmong, Narrow, LiesWithin, Marked, Full}
use Rattle.desk.proofs.Answers.{full-or-refused, valid-of, read_back, encloses-read, width_read, marked}

-- demand 1: check accepts a plan that meets none of the causes 1 to 6, and no other
pub check-accepted : (plan : List ℕ) → check_outcome plan ≡ 0 ↔ WellFormed plan
unfolding check_outcome
check-accepted plan = Iff.trans (zero-means (verdict plan)) (accepted-means plan)

-- the nodes that an accepted choice names are the plan's, each named once
pub choice-valid : (plan table : List ℕ) (choice : ℕ) → AcceptedTable table → WellFormed plan → choice < 2 ^ size_n plan → Chosen (chosen_by choice (plan_of (rating table) plan))
choice-valid plan table choice fine well few = record {
  valid = valid-of plan table fine well;
  ascending = nodes-ascending choice;
  nodes = λ v m. let below = has-below choice (size_n plan) v few (mem-has choice v m) in from-node 0 (size_n plan) v (omega arith) (omega arith);
}

module _ (plan table : List ℕ) (choice limit : ℕ) (b : List ℕ) where
  abbrev o : Outcome
  o = figure_outcome plan table choice limit b

  abbrev v : CallVerdict
  v = chosen_verdict plan table choice limit (length b)

  abbrev g : Terminals
  g = chosen_by choice (plan_of (rating table) plan)

  abbrev f : Figure
  f = figure g limit

  -- demand 1: either a full answer or a numbered refusal with the buffer untouched
  pub figure-full-or-refused : Full o b (with_figure f b) ⊎ Refusal o b
  unfolding figure_outcome
  figure-full-or-refused = full-or-refused f b v (λ e. ((chosen-accepts plan table choice limit (length b)).0 e).1)

  -- demand 1: the number is that of the first cause in the table's order, 0 if there is none
  pub figure-returned : o.returned ≡ call_returned v
  unfolding figure_outcome
  figure-returned = returned-of v b (with_figure f b)

  -- demand 1: 0 exactly when the verdict is accepted
  pub figure-zero : o.returned ≡ 0 ↔ v ≡ Ok tt
  figure-zero = zero_of v figure-returned

  -- demand 1: a call that meets none of its rows is accepted, and no other
  pub figure-accepted : o.returned ≡ 0 ↔ (limit ≤ 1000000) × (16 ≤ length b) × AcceptedTable table × WellFormed plan × (0 < choice) × (choice < 2 ^ size_n plan)
  figure-accepted = Iff.trans figure-zero (chosen-accepts plan table choice limit (length b))

  -- a call that returned 0, and the buffer that it left
  module _ (zero : o.returned ≡ 0) where
    abbrev after : List ℕ
    after = o.buffer

    fine : AcceptedTable table
    fine = (figure-accepted.0 zero).2

    well : WellFormed plan
    well = (figure-accepted.0 zero).3

    valid : Chosen g
    valid = choice-valid plan table choice fine well (figure-accepted.0 zero).5

    range : (f.low ≤ f.high) × (f.high ≤ S)
    range = (rule.low-high g valid limit, rule.high-range g valid limit)

    -- demand 3: its low and its high equal those that the written rule gives under that limit
    pub figure-numbers : Holds after f
    figure-numbers =
        read_back f b figure-full-or-refused zero (omega (arith, range, (figure-accepted.0 zero).0, rule.steps-taken g limit))

    -- demand 2: low × S^(m+2L) ≤ S × N ≤ high × S^(m+2L), also when steps run out; N is that of the chosen nodes
    pub figure-encloses : EnclosesAmong (nodes_in choice) plan table after
    figure-encloses = encloses-read plan table after f figure-numbers (nodes_in choice) fine (rule.enclosure g valid limit (plan-enclosed plan (rating table) (rating-range table fine)))

    -- from 0 to S, low no higher than high
    pub figure-range : (low_in after ≤ high_in after) × (high_in after ≤ S)
    figure-range = omega (arith, figure-numbers, range)

    -- demand 3: its step count equals the smaller of the splits needed and the limit
    pub figure-steps : steps_in after ≡ min (needed g) limit
    figure-steps = figure-numbers.steps ∙ rule.steps-taken g limit

    -- demand 3: marked unfinished exactly when the plan needs more splits, by the written rule, than its limit
    pub figure-marked : Marked (finished_in after) (needed g) limit
    figure-marked = marked (needed g) limit (figure-numbers.finished ∙ ap (λ t. cond t 1 0) (rule.finished-when g limit))

    -- demand 3: a finished pair is at most 2m + 4n + 4L wide, however many splits it took
    pub figure-width : Narrow plan after
    figure-width = width_read plan table after f figure-numbers (rule.width g valid limit (plan-enclosed plan (rating table) (rating-range table fine)))

    -- so no plan's 0 to S is finished
    pub figure-narrow : finished_in after ≡ 1 → high_in after ≤ low_in after + 512
    figure-narrow done = omega (arith, figure-width done, well.nodes, well.links, plan-lengths plan)

    -- one chosen node: S, S, no step, finished, whatever the links
    pub figure-of-one : how_many (members choice) ≡ 1 → Holds after (bounded (λ d. S) 0 true)
    figure-of-one one = subst (Holds after) (rule.one-chosen g valid limit (omega (arith, length-places choice))) figure-numbers

    -- chosen nodes in different pieces: 0, 0, no step, finished
    pub figure-apart : connected (nodes_in choice) (map ends (plan_of (rating table) plan).links) ≡ false → Holds after (bounded (λ d. 0) 0 true)
    figure-apart pieces = subst (Holds after) (rule.apart g valid limit pieces) figure-numbers

-- demand 3: whichever two accepted limits, the second no smaller than the first, the second pair lies within the first
pub figure-nesting : (plan table : List ℕ) (choice limit larger : ℕ) (b c : List ℕ) → (figure_outcome plan table choice limit b).returned ≡ 0 → (figure_outcome plan table choice larger c).returned ≡ 0
    → limit ≤ larger → LiesWithin (figure_outcome plan table choice larger c).buffer (figure_outcome plan table choice limit b).buffer
figure-nesting plan table choice limit larger b c p q h =
    omega (
      arith,
      figure-numbers plan table choice limit b p,
      figure-numbers plan table choice larger c q,
      rule.nesting (chosen_by choice (plan_of (rating table) plan)) (valid plan table choice limit b p) limit larger h,
    )
