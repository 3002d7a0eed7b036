use Prim.Native.Nat.{◌<◌}
use mathlib.Core.Path.{◌≡◌, refl, sym, ◌∙◌}
use native.Mathlib.Omega.{arith}
use lib.ListN.{get_or}
use borrow.Author.Rules.{rules}
use Rattle.search.proofs.Marks.{lowest-of, next-in, next-below, taken, rest-count, rest-within}
use Rattle.search.proofs.Pairs.{Turn, pair-hits, pair-misses, pair_ends}
use Rattle.search.proofs.first_pair.Goals as goal
use Rattle.search.proofs.first_pair.Goals.{In-Some, After-meet-partners}

pub loop-i-init : goal.loop-i-init
loop-i-init c = let e : c.of-left.result.0 ≡ c.args.alive = search rules in rw e (refl, λ k f. f)

-- its ends are nodes
inside : (c : In-Some) → (get_or c.args.a.now c.in-Some.i 0 < 32) × (get_or c.args.b.now c.in-Some.i 0 < 32)
inside c = c.requires.0 c.in-Some.i (c.loop-i.invariant.1 c.in-Some.i (next-in _ _ _ c.in-Some.ensures.steps))

pub bounds-a-i : goal.bounds-a-i
bounds-a-i c = next-below _ _ _ c.in-Some.ensures.steps

pub overflow_cast-a : goal.overflow_cast-a
overflow_cast-a c = record { fits = omega (arith, inside (goal.at.overflow_cast-a c).In-Some) }

pub offset_bounds-at-a : goal.offset_bounds-at-a
offset_bounds-at-a c = record { fits = omega (arith, inside (goal.at.offset_bounds-at-a c).In-Some) }

pub bounds-at-a : goal.bounds-at-a
bounds-at-a c = (inside (goal.at.bounds-at-a c).In-Some).0

pub bounds-b-i : goal.bounds-b-i
bounds-b-i c = next-below _ _ _ c.in-Some.ensures.steps

pub overflow_cast-b : goal.overflow_cast-b
overflow_cast-b c = record { fits = omega (arith, inside (goal.at.overflow_cast-b c).In-Some) }

pub offset_bounds-at-b : goal.offset_bounds-at-b
offset_bounds-at-b c = record { fits = omega (arith, inside (goal.at.offset_bounds-at-b c).In-Some) }

pub bounds-at-b : goal.bounds-at-b
bounds-at-b c = (inside (goal.at.bounds-at-b c).In-Some).1

turn : (c : After-meet-partners) → let a = c.args in
    Turn a.at.now a.a.now a.b.now a.alive c.loop-i.left.0 c.in-Some.i c.next.new.self.0 c.meet.result c.meet-partners.result
turn c =
    let ends = inside (goal.at.After-meet-partners c).In-Some in
    let (low, rest) = taken _ _ _ c.in-Some.ensures.steps in
    record {
      incidence = c.requires.1;
      a_below = ends.0;
      b_below = ends.1;
      within = rest-within _ _ low _ rest _ c.loop-i.invariant.1;
      lowest = low;
      rest = rest;
      meet = c.meet.ensures;
      partners = c.meet-partners.ensures;
    }

pub returns-then-partners-ne0 : goal.returns-then-partners-ne0
returns-then-partners-ne0 c =
    let first = lowest-of c.meet-partners.result c.lowest.result (search rules) (search rules) c.lowest.ensures in
    sym (c.loop-i.invariant.0 ∙ pair-hits _ _ _ _ _ _ _ _ _ (turn (goal.at.returns-then-partners-ne0 c).After-meet-partners) c.lowest.result first)

pub loop-i-smaller : goal.loop-i-smaller
loop-i-smaller c = let (low, rest) = taken _ _ _ c.in-Some.ensures.steps in omega (arith, rest-count _ _ low _ rest)

pub loop-i-preserved : goal.loop-i-preserved
loop-i-preserved c =
    let t = turn (goal.at.loop-i-preserved c).After-meet-partners in
    (c.loop-i.invariant.0 ∙ pair-misses _ _ _ _ _ _ _ _ _ t (search rules), t.within)

pub returns : goal.returns
returns c = sym (c.loop-i.invariant.0 ∙ pair_ends _ c.loop-i.left.0 c.in_default.ensures.steps.0)
