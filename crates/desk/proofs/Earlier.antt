-- Work carried on from earlier sittings of the plan, each by document 01's choice of the link to split on or by the rule's: what is claimed of the answer.
use Prim.Native.Nat.{ℕ, ◌+◌, ◌≤◌, min}
use mathlib.Core.Path.{◌≡◌, sym, ap, ◌∙◌, subst}
use mathlib.Core.List.{List}
use mathlib.Core.Bool.{cond}
use native.Mathlib.Omega.{arith}
use Rattle.rounding.specs.Rounding.{S}
use Rattle.reliability.specs.declared.Figure.{Figure}
use Rattle.reliability.specs.Networks.{Network, Valid}
use Rattle.reliability.specs.Rule.{splits, tree}
use Rattle.tables.specs.Tables.{rating, AcceptedTable}
use Rattle.tables.proofs.Theorems.{rating-range}
use Rattle.plan.specs.Plans.{WellFormed, plan_of}
use Rattle.plan.proofs.Weights.{plan-enclosed}
use Rattle.answers.specs.Answers.{low_in, high_in, steps_in, finished_in, Holds}
use Rattle.answers.proofs.Laws.{written}
use Rattle.sittings.specs.Sittings.{Open, resumed, Saved, begun, most, sitting}
use Rattle.sittings.proofs.GoodSaved.{GoodSaved, sitting-few, sitting-range, sitting-low-high, sitting-enclosure, sitting-width, sitting-nesting}
use Rattle.sittings.proofs.Totals as totals
use Rattle.saved.specs.Format.{saved_bytes}
use Rattle.sitting_desk.specs.Outcome.{SittingOutcome}
use Rattle.sitting_desk.specs.Chains.{Lent, Allowed, sat, Earlier}
use Rattle.sitting_desk.proofs.Demands.{good, earlier-carried}
use Rattle.desk.specs.Answers.{Encloses, Narrow, Marked, LiesWithin}
use Rattle.desk.proofs.Answers.{valid-of, encloses-read, width_read, marked}

module _ (plan table : List ℕ) (fine : AcceptedTable table) (well : WellFormed plan) (s : Saved) (e : Earlier plan table s) where
  abbrev g : Network
  g = plan_of (rating table) plan

  valid : Valid g
  valid = valid-of plan table fine well

  good-work : GoodSaved g s
  good-work = good plan table fine well s e

  module _ (x : Lent) (a : Allowed x) where
    abbrev last : SittingOutcome
    last = sat plan table (saved_bytes s) x

    abbrev after : List ℕ
    after = last.answer

    abbrev f : Figure
    f = (sitting (tree g) s x.limit).answer

    -- it is accepted
    pub carried-returned : last.returned ≡ 0
    carried-returned = ap (λ (o : SittingOutcome). o.returned) (earlier-carried plan table fine well s e x a)

    range : (f.low ≤ f.high) × (f.high ≤ S)
    range = (sitting-low-high g valid s good-work x.limit, sitting-range g valid s good-work x.limit)

    numbers : Holds after f
    numbers =
        subst (λ (o : SittingOutcome). Holds o.answer f) (sym (earlier-carried plan table fine well s e x a))
        (written f x.answer (omega (arith, range, sitting-few g valid s good-work x.limit)))

    -- demand 2: low × S^(m+2L) ≤ S × N ≤ high × S^(m+2L), also when steps run out
    pub carried-encloses : Encloses plan table after
    carried-encloses = encloses-read plan table after f numbers g.nodes fine (sitting-enclosure g valid s good-work x.limit (plan-enclosed plan (rating table) (rating-range table fine)))

    pub carried-range : (low_in after ≤ high_in after) × (high_in after ≤ S)
    carried-range = omega (arith, numbers, range)

    -- demand 3: a finished pair is at most 2m + 4n + 4L wide
    pub carried-width : Narrow plan after
    carried-width = width_read plan table after f numbers (sitting-width g valid s good-work x.limit (plan-enclosed plan (rating table) (rating-range table fine)))

    -- of begun work, with its steps so far and the splits still to take
    module _ (os : List Open) (taken : ℕ) (is : s ≡ begun os taken) where
      abbrev wanted : ℕ
      wanted = taken + splits (resumed (tree g) os)

      begun-few : taken ≤ most
      begun-few = (subst (GoodSaved g) is good-work).1

      -- the least of the steps so far and the splits still to take, of those steps and the limit, and of 1,000,000
      pub carried-steps : steps_in after ≡ min wanted (min (taken + x.limit) 1000000)
      carried-steps = numbers.steps ∙ ap (λ (r : Saved). (sitting (tree g) r x.limit).answer.steps) is ∙ totals.carried-steps (tree g) os taken x.limit begun-few

      -- unfinished exactly when the steps so far and the splits still to take come to more than those steps and the limit together, or to more than 1,000,000
      pub carried-marked : Marked (finished_in after) wanted (min (taken + x.limit) 1000000)
      carried-marked = marked wanted (min (taken + x.limit) 1000000) (numbers.finished ∙ ap (λ t. cond t 1 0) (ap (λ (r : Saved). (sitting (tree g) r x.limit).answer.finished) is ∙ totals.carried-finished (tree g) os taken x.limit begun-few))

  -- demand 3: with a larger limit the pair lies within the smaller limit's, from the same saved work
  pub carried-nesting : (x : Lent) (a : Allowed x) (y : Lent) (b : Allowed y) → x.limit ≤ y.limit → LiesWithin (after y b) (after x a)
  carried-nesting x a y b h = omega (arith, numbers x a, numbers y b, sitting-nesting g valid s good-work x.limit y.limit h)
