-- The demands on an importance, over what the call returns and the numbers that it leaves in the answer buffer.
use Prim.Native.Nat.{ℕ, ◌+◌, ◌-◌, ◌*◌, ◌^◌, ◌≤◌, ◌<◌, min, max}
use mathlib.Core.Path.{◌≡◌, ap, ◌∙◌}
use mathlib.Core.List.{List}
use mathlib.Core.Logic.Iff
use mathlib.Core.Logic.{◌⊎◌, ◌↔◌}
use mathlib.Core.Bool.{cond}
use native.Mathlib.Omega.{arith}
use lib.Dec.{eqb}
use lib.ListN.{length}
use Rattle.rounding.specs.Rounding.{S}
use Rattle.reliability.specs.declared.Figure.{Figure}
use Rattle.reliability.specs.Networks.{Network, Valid}
use Rattle.reliability.specs.Rule.{needed}
use Rattle.reliability.specs.Comparisons.{sound_at, sound_count, broken_at, importance, exact_importance}
use Rattle.reliability.proofs.Comparisons as rule
use Rattle.reader.specs.Layout.{size_n, size_m, first_end, second_end}
use Rattle.ratings.specs.Ratings.{AtMostS}
use Rattle.tables.specs.Tables.{rating, AcceptedTable}
use Rattle.tables.proofs.Theorems.{rating-range}
use Rattle.plan.specs.Plans.{WellFormed, plan_of}
use Rattle.plan.specs.Weights.{weights_of, other_lengths}
use Rattle.plan.proofs.Accepted.{plan-links, plan-nodes, plan-ends}
use Rattle.plan.proofs.Weights.{plan-enclosed, others-units, others-total}
use Rattle.causes.specs.Causes.{CallVerdict}
use Rattle.std.specs.Prelude.{Ok}
use Rattle.causes.specs.Causes.{call_returned}
use Rattle.causes.specs.Outcomes.{Outcome, Refusal}
use Rattle.causes.proofs.Outcomes.{returned-of, zero_of}
use Rattle.refusals.specs.Refusals.{placed, figure_verdict, importance_verdict}
use Rattle.refusals.proofs.Calls.{figure-means, also-means, placed-means}
use Rattle.answers.specs.Answers.{with_figure, low_in, high_in, steps_in, finished_in, Holds}
use Rattle.desk.specs.Outcomes.{importance_outcome}
use Rattle.desk.specs.Answers.{LiesWithin, Marked, Full}
use Rattle.desk.proofs.Answers.{full-or-refused, valid-of, read_back, marked, both-finished, mark-true}

module _ (plan table : List ℕ) (place limit : ℕ) (b : List ℕ) where
  abbrev o : Outcome
  o = importance_outcome plan table place limit b

  abbrev v : CallVerdict
  v = importance_verdict plan table place limit (length b)

  abbrev g : Network
  g = plan_of (rating table) plan

  abbrev f : Figure
  f = importance g place limit

  -- the causes of a figure, then the place
  means : v ≡ Ok tt ↔ (limit ≤ 1000000) × (16 ≤ length b) × AcceptedTable table × WellFormed plan × (place < size_m plan)
  means =
      let w = figure-means plan table limit (length b) in
      let p = placed-means plan place in
      let e = also-means (figure_verdict plan table limit (length b)) (placed plan place) in
      (λ h. let c = w.0 (e.0 h).0 in (c.0, c.1, c.2, c.3, p.0 (e.0 h).1), λ h. e.1 (w.1 (h.0, h.1, h.2, h.3), p.1 h.4))

  -- demand 1: either a full answer or a numbered refusal with the buffer untouched
  pub importance-full-or-refused : Full o b (with_figure f b) ⊎ Refusal o b
  unfolding importance_outcome
  importance-full-or-refused = full-or-refused f b v (λ e. (means.0 e).1)

  -- demand 1: the number is that of the first cause in the table's order, 0 if there is none
  pub importance-returned : o.returned ≡ call_returned v
  unfolding importance_outcome
  importance-returned = returned-of v b (with_figure f b)

  -- demand 1: 0 exactly when the verdict is accepted
  pub importance-zero : o.returned ≡ 0 ↔ v ≡ Ok tt
  importance-zero = zero_of v importance-returned

  -- demand 1: a call that meets none of its rows is accepted, and no other
  pub importance-accepted : o.returned ≡ 0 ↔ (limit ≤ 1000000) × (16 ≤ length b) × AcceptedTable table × WellFormed plan × (place < size_m plan)
  importance-accepted = Iff.trans importance-zero means

  -- a call that returned 0, and the buffer that it left
  module _ (zero : o.returned ≡ 0) where
    abbrev after : List ℕ
    after = o.buffer

    abbrev fewer : ℕ
    fewer = size_m plan - 1

    abbrev sound : Network
    sound = sound_at place g

    abbrev broken : Network
    broken = broken_at place g

    -- the other links given by length
    abbrev L : ℕ
    L = other_lengths plan place

    abbrev exactly : ℕ
    exactly = exact_importance g (weights_of (rating table) plan) place

    fine : AcceptedTable table
    fine = (importance-accepted.0 zero).2

    chances : AtMostS (rating table)
    chances = rating-range table fine

    valid : Valid g
    valid = valid-of plan table fine (importance-accepted.0 zero).3

    present : place < length g.links
    present = omega (arith, (importance-accepted.0 zero).4, plan-links (rating table) plan)

    range : (f.low ≤ f.high) × (f.high ≤ S)
    range = rule.importance-range g valid place present limit

    -- demand 3, likewise: its low and its high equal those that the written rule gives under that limit
    pub importance-numbers : Holds after f
    importance-numbers =
        read_back f b importance-full-or-refused zero (omega (arith, range, (importance-accepted.0 zero).0, rule.importance-steps g valid place present limit))

    -- demand 2: low × S^(m−1+2L) ≤ S × (sound − broken) ≤ high × S^(m−1+2L)
    pub importance-encloses : (low_in after * S ^ (fewer + 2 * L) ≤ S * exactly) × (S * exactly ≤ high_in after * S ^ (fewer + 2 * L))
    importance-encloses =
        rw (importance-numbers.low, importance-numbers.high, ← others-total plan place (rating table) chances (importance-accepted.0 zero).4) (rule.importance-enclosure g valid place present limit (plan-enclosed plan (rating table) chances))

    -- from 0 to S, low no higher than high
    pub importance-range : (low_in after ≤ high_in after) × (high_in after ≤ S)
    importance-range = omega (arith, importance-numbers, range)

    -- demand 3, likewise: each of the two evaluations gets the whole limit; steps add
    pub importance-steps : steps_in after ≡ min (needed sound) limit + min (needed broken) limit
    importance-steps = importance-numbers.steps ∙ rule.importance-steps g valid place present limit

    -- demand 3, likewise: finished if both evaluations are
    pub importance-marked : Marked (finished_in after) (max (needed sound) (needed broken)) limit
    importance-marked =
        let both = rule.importance-finished g valid place present limit ∙ both-finished (needed sound) (needed broken) limit in
        marked (max (needed sound) (needed broken)) limit (importance-numbers.finished ∙ ap (λ t. cond t 1 0) both)

    -- the nodes with the link sound: n - 1, and n where its ends are the same
    abbrev kept : ℕ
    kept = cond (eqb (first_end plan place) (second_end plan place)) (size_n plan) (size_n plan - 1)

    -- demand 3, likewise: a finished pair is no wider than its two evaluations' bounds together, each of m - 1 links, L of them given by length
    pub importance-width : finished_in after ≡ 1
        → high_in after ≤ low_in after + ((2 * fewer + 4 * kept + 4 * L) + (2 * fewer + 4 * size_n plan + 4 * L))
    importance-width done =
        let w = rule.importance-width g valid place present limit (plan-enclosed plan (rating table) chances) (mark-true f.finished importance-numbers.finished done) in
        let ends = plan-ends (rating table) plan place (importance-accepted.0 zero).4 in
        let count : sound_count g place ≡ kept = rw (ends.0, ends.1, plan-nodes (rating table) plan) in
        omega (arith, importance-numbers, plan-links (rating table) plan, plan-nodes (rating table) plan, others-units plan place)

-- demand 3, likewise: with a larger limit and all else alike the second pair lies within the first
pub importance-nesting : (plan table : List ℕ) (place limit larger : ℕ) (b c : List ℕ) → (importance_outcome plan table place limit b).returned ≡ 0 → (importance_outcome plan table place larger c).returned ≡ 0
    → limit ≤ larger → LiesWithin (importance_outcome plan table place larger c).buffer (importance_outcome plan table place limit b).buffer
importance-nesting plan table place limit larger b c p q h =
    let nested = rule.importance-nesting (plan_of (rating table) plan) (valid plan table place limit b p) place (present plan table place limit b p) limit larger h in
    omega (arith, importance-numbers plan table place limit b p, importance-numbers plan table place larger c q)
