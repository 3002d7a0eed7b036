use Prim.Native.Nat.{ℕ, ◌<◌, ◌+◌}
use mathlib.Core.Path.{◌≡◌, refl, sym, ap, ◌∙◌}
use native.Mathlib.Omega.{arith}
use lib.ListN.{get_or}
use borrow.Author.Rules.{rules}
use Rattle.search.specs.Searches.{places_in, Inside, count_sum}
use Rattle.search.proofs.Marks.{next-in, next-below, taken, rest-within}
use Rattle.search.proofs.Largest.{so_far, so-far-starts, so_far_more, so-far-on, so-far-ends}
use Rattle.search.proofs.largest_sum.Goals as goal
use Rattle.search.proofs.largest_sum.Goals.{In-Some}

pub loop-k-init : goal.loop-k-init
loop-k-init c =
    let s = c.args in
    let sum = count_sum s.counts.now s.a.now s.b.now in
    let e : c.into_iter-k-iterator.result.0 ≡ s.alive = search rules in
    rw e (so-far-starts sum s.alive (search rules) ∙ ap (λ (k : ℕ). so_far sum k 0 (places_in s.alive)) (sym c.lowest-best.ensures), λ k f. f)

left : (c : In-Some) → Inside c.next.new.self.0 c.args.alive
left c = let (low, rest) = taken _ _ _ c.in-Some.ensures.steps in rest-within _ _ low _ rest _ c.loop-k.invariant.1

-- ---- a turn: the first of what is left is better, or the best stays
pub loop-k-preserved-then-most-sum : goal.loop-k-preserved-then-most-sum
loop-k-preserved-then-most-sum c =
    let s = c.args in
    let l = c.loop-k in
    let sum = count_sum s.counts.now s.a.now s.b.now in
    let added : c.from.result + c.from-in-loop-k.result ≡ sum c.in-Some.k = search rules in (
      l.invariant.0 ∙ ap (so_far sum l.best l.most) c.in-Some.ensures.steps
          ∙ so_far_more sum l.best l.most c.in-Some.k (places_in c.next.new.self.0) (omega (arith, added, c.if-most-sum.true)) refl added,
      left (goal.at.loop-k-preserved-then-most-sum c).In-Some,
    )

pub loop-k-preserved : goal.loop-k-preserved
loop-k-preserved c =
    let s = c.args in
    let l = c.loop-k in
    let sum = count_sum s.counts.now s.a.now s.b.now in
    let added : c.from.result + c.from-in-loop-k.result ≡ sum c.in-Some.k = search rules in (
      l.invariant.0 ∙ ap (so_far sum l.best l.most) c.in-Some.ensures.steps
          ∙ so-far-on sum l.best l.most c.in-Some.k (places_in c.next.new.self.0) (omega (arith, added, c.if-most-sum.false)) refl refl,
      left (goal.at.loop-k-preserved c).In-Some,
    )

pub returns : goal.returns
returns c = let l = c.loop-k in sym (l.invariant.0 ∙ so-far-ends _ l.best l.most (places_in l.k-iterator.0) c.in-None.ensures.steps.0)

-- its ends are nodes
inside : (c : In-Some) → (get_or c.args.a.now c.in-Some.k 0 < 32) × (get_or c.args.b.now c.in-Some.k 0 < 32)
inside c = c.requires c.in-Some.k (c.loop-k.invariant.1 c.in-Some.k (next-in _ _ _ c.in-Some.ensures.steps))

pub bounds-a-k : goal.bounds-a-k
bounds-a-k c = next-below _ _ _ c.in-Some.ensures.steps

pub overflow_cast-x : goal.overflow_cast-x
overflow_cast-x c = record { fits = omega (arith, inside (goal.at.overflow_cast-x c).In-Some) }

pub bounds-counts-a : goal.bounds-counts-a
bounds-counts-a c = (inside (goal.at.bounds-counts-a c).In-Some).0

pub bounds-b-k : goal.bounds-b-k
bounds-b-k c = next-below _ _ _ c.in-Some.ensures.steps

pub overflow_cast-y : goal.overflow_cast-y
overflow_cast-y c = record { fits = omega (arith, inside (goal.at.overflow_cast-y c).In-Some) }

pub bounds-counts-b : goal.bounds-counts-b
bounds-counts-b c = (inside (goal.at.bounds-counts-b c).In-Some).1
