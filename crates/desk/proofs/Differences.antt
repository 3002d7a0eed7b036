-- The demands on a difference, over what the call returns and the numbers that it leaves in the answer buffer.
use Prim.Native.Nat.{ℕ, ◌+◌, ◌*◌, ◌^◌, ◌≤◌, ◌<◌, min, max}
use mathlib.Core.Path.{◌≡◌, ap, ◌∙◌, subst}
use mathlib.Core.List.{List}
use mathlib.Core.Logic.Iff
use mathlib.Core.Logic.{◌⊎◌, ◌↔◌}
use mathlib.Core.Bool.{cond}
use native.Mathlib.Omega.{arith}
use lib.IntN.{ℤ, pos, neg_ℤ, ◌+ℤ◌, ◌*ℤ◌}
use lib.ListN.{length}
use lib.Signed.{◌≤ℤ◌, mag}
use Rattle.rounding.specs.Rounding.{S}
use Rattle.reliability.specs.declared.Figure.{Figure}
use Rattle.reliability.specs.declared.Difference.{Difference}
use Rattle.reliability.specs.Networks.{Network, Valid}
use Rattle.reliability.specs.Rule.{figure, needed}
use Rattle.reliability.specs.Comparisons.{difference, exact_difference}
use Rattle.reliability.proofs.Signed.{minus-range}
use Rattle.reliability.proofs.Theorems.{high-range, low-high}
use Rattle.reliability.proofs.Comparisons as rule
use Rattle.ratings.specs.Ratings.{AtMostS}
use Rattle.tables.specs.Tables.{rating, AcceptedTable}
use Rattle.tables.proofs.Theorems.{rating-range}
use Rattle.plan.specs.Plans.{WellFormed, size_n, size_m, verdict, plan_of}
use Rattle.plan.proofs.Verdicts.{accepted-means}
use Rattle.plan.specs.Weights.{exact_among, exact_of, lengths}
use Rattle.plan.proofs.Accepted.{plan-links, plan-nodes}
use Rattle.plan.proofs.Weights.{plan-enclosed, plan-units, plan-total}
use Rattle.causes.specs.Causes.{CallVerdict}
use Rattle.std.specs.Prelude.{Ok}
use Rattle.causes.specs.Causes.{call_returned}
use Rattle.causes.specs.Outcomes.{Outcome, Refusal}
use Rattle.causes.proofs.Outcomes.{returned-of, zero_of}
use Rattle.refusals.specs.Refusals.{planned_second, figure_verdict, difference_verdict}
use Rattle.refusals.proofs.Calls.{figure-means, also-means, second-means}
use Rattle.desk.specs.Outcomes.{twos, with_difference, difference_outcome}
use Rattle.answers.specs.Answers.{low_in, high_in, steps_in, finished_in}
use Rattle.desk.specs.Answers.{signed, HoldsSigned, LiesWithinSigned, Marked, Full}
use Rattle.desk.proofs.Answers.{full-or-refused, valid-of, read_back, signed_back, twos-range, marked, both-finished, mark-true}

module _ (first second table : List ℕ) (limit : ℕ) (b : List ℕ) where
  abbrev o : Outcome
  o = difference_outcome first second table limit b

  abbrev v : CallVerdict
  v = difference_verdict first second table limit (length b)

  abbrev g : Network
  g = plan_of (rating table) first

  abbrev h : Network
  h = plan_of (rating table) second

  abbrev d : Difference
  d = difference g h limit

  -- the four numbers as they are written
  abbrev bits : Figure
  bits = record { low = twos d.low; high = twos d.high; steps = d.steps; finished = d.finished }

  -- the causes of a figure, then plan B's
  means : v ≡ Ok tt ↔ (limit ≤ 1000000) × (16 ≤ length b) × AcceptedTable table × WellFormed first × WellFormed second
  means =
      let p = figure-means first table limit (length b) in
      let q = Iff.trans (second-means (verdict second)) (accepted-means second) in
      let e = also-means (figure_verdict first table limit (length b)) (planned_second (verdict second)) in
      (λ h. let c = p.0 (e.0 h).0 in (c.0, c.1, c.2, c.3, q.0 (e.0 h).1), λ h. e.1 (p.1 (h.0, h.1, h.2, h.3), q.1 h.4))

  -- demand 1: either a full answer or a numbered refusal with the buffer untouched
  pub difference-full-or-refused : Full o b (with_difference d b) ⊎ Refusal o b
  unfolding difference_outcome
  difference-full-or-refused = full-or-refused bits b v (λ e. (means.0 e).1)

  -- demand 1: the number is that of the first cause in the table's order, plan B's plus 20, 0 if there is none
  pub difference-returned : o.returned ≡ call_returned v
  unfolding difference_outcome
  difference-returned = returned-of v b (with_difference d b)

  -- demand 1: 0 exactly when the verdict is accepted
  pub difference-zero : o.returned ≡ 0 ↔ v ≡ Ok tt
  difference-zero = zero_of v difference-returned

  -- demand 1: a call that meets none of its rows is accepted, and no other
  pub difference-accepted : o.returned ≡ 0 ↔ (limit ≤ 1000000) × (16 ≤ length b) × AcceptedTable table × WellFormed first × WellFormed second
  difference-accepted = Iff.trans difference-zero means

  -- a call that returned 0, and the buffer that it left
  module _ (zero : o.returned ≡ 0) where
    abbrev after : List ℕ
    after = o.buffer

    abbrev low : ℤ
    low = signed (low_in after)

    abbrev high : ℤ
    high = signed (high_in after)

    -- the exact reliabilities: N over D of the first plan, M over E of the second
    abbrev N : ℕ
    N = exact_of (rating table) first

    abbrev D : ℕ
    D = S ^ (size_m first + 2 * lengths first)

    abbrev M : ℕ
    M = exact_of (rating table) second

    abbrev E : ℕ
    E = S ^ (size_m second + 2 * lengths second)

    abbrev exactly : ℤ
    exactly = exact_difference N D M E

    fine : AcceptedTable table
    fine = (difference-accepted.0 zero).2

    chances : AtMostS (rating table)
    chances = rating-range table fine

    gv : Valid g
    gv = valid-of first table fine (difference-accepted.0 zero).3

    hv : Valid h
    hv = valid-of second table fine (difference-accepted.0 zero).4

    small : (mag d.low < 2 ^ 31) × (mag d.high < 2 ^ 31)
    small =
        let x = low-high g gv limit in
        let y = low-high h hv limit in
        let p = high-range g gv limit in
        let q = high-range h hv limit in (
          minus-range (figure g limit).low (figure h limit).high (2 ^ 31) (omega arith) (omega arith),
          minus-range (figure g limit).high (figure h limit).low (2 ^ 31) (omega arith) (omega arith),
        )

    -- demand 3, likewise: its low and its high equal those that the written rule gives under that limit
    pub difference-numbers : HoldsSigned after d
    difference-numbers =
        let most = (difference-accepted.0 zero).0 in
        let taken = rule.difference-steps g h gv hv limit in
        let n = read_back bits b difference-full-or-refused zero (twos-range d.low small.0, twos-range d.high small.1, omega arith) in
        record { low = ap signed n.low ∙ signed_back d.low small.0; high = ap signed n.high ∙ signed_back d.high small.1; steps = n.steps; finished = n.finished }

    -- demand 2: low × D × E ≤ S × (N × E − M × D) ≤ high × D × E
    pub difference-encloses : ((low *ℤ pos (D * E)) ≤ℤ (pos S *ℤ exactly)) × ((pos S *ℤ exactly) ≤ℤ (high *ℤ pos (D * E)))
    unfolding exact_among
    difference-encloses =
        rw (difference-numbers.low, difference-numbers.high, ← plan-total first (rating table) chances, ← plan-total second (rating table) chances) (rule.difference-enclosure g h gv hv limit (plan-enclosed first (rating table) chances) (plan-enclosed second (rating table) chances))

    -- from −S to S, low no higher than high
    pub difference-range : (neg_ℤ (pos S) ≤ℤ low) × (low ≤ℤ high) × (high ≤ℤ pos S)
    difference-range = rw (difference-numbers.low, difference-numbers.high) (rule.difference-range g h gv hv limit)

    -- demand 3, likewise: each of the two evaluations gets the whole limit; steps add
    pub difference-steps : steps_in after ≡ min (needed g) limit + min (needed h) limit
    difference-steps = difference-numbers.steps ∙ rule.difference-steps g h gv hv limit

    -- demand 3, likewise: finished if both evaluations are
    pub difference-marked : Marked (finished_in after) (max (needed g) (needed h)) limit
    difference-marked =
        let both = rule.difference-finished g h gv hv limit ∙ both-finished (needed g) (needed h) limit in
        marked (max (needed g) (needed h)) limit (difference-numbers.finished ∙ ap (λ t. cond t 1 0) both)

    -- demand 3, likewise: a finished pair is no wider than its two evaluations' bounds together
    pub difference-width : finished_in after ≡ 1 → high ≤ℤ (low +ℤ pos ((2 * size_m first + 4 * size_n first + 4 * lengths first) + (2 * size_m second + 4 * size_n second + 4 * lengths second)))
    difference-width done =
        let wide = rule.difference-width g h gv hv limit (plan-enclosed first (rating table) chances) (plan-enclosed second (rating table) chances) (mark-true d.finished difference-numbers.finished done) in
        rw (difference-numbers.low, difference-numbers.high)
        (subst (λ (k : ℕ). d.high ≤ℤ (d.low +ℤ pos k)) (omega (arith, plan-links (rating table) first, plan-nodes (rating table) first, plan-links (rating table) second, plan-nodes (rating table) second, plan-units first, plan-units second)) wide)

-- demand 3, likewise: with a larger limit and all else alike the second pair lies within the first
pub difference-nesting : (first second table : List ℕ) (limit larger : ℕ) (b c : List ℕ) → (difference_outcome first second table limit b).returned ≡ 0 → (difference_outcome first second table larger c).returned ≡ 0
    → limit ≤ larger → LiesWithinSigned (difference_outcome first second table larger c).buffer (difference_outcome first second table limit b).buffer
difference-nesting first second table limit larger b c p q l =
    let x = difference-numbers first second table limit b p in
    let y = difference-numbers first second table larger c q in
    let nested = rule.difference-nesting (plan_of (rating table) first) (plan_of (rating table) second) (gv first second table limit b p) (hv first second table limit b p) limit larger l in
    record { low = rw (x.low, y.low) nested.0; high = rw (x.high, y.high) nested.1 }
