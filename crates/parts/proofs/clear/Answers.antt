use mathlib.Core.Path.{◌≡◌}
use Prim.Native.Nat.{◌<◌}
use native.Mathlib.Omega.{arith}
use borrow.Author.Rules.{rules}
use Rattle.search.proofs.Sets.{has-below}
use Rattle.search.proofs.Marks.{next-in, taken}
use Rattle.parts.proofs.Clearing.{clearing-starts, clearing-turn, clearing-ends}
use Rattle.parts.proofs.clear.Goals as goal
use Rattle.parts.proofs.clear.Goals.{In-Some}

pub loop-v-init : goal.loop-v-init
loop-v-init c =
    let e : c.into_iter-v-iterator.result.0 ≡ c.args.nodes = search rules in
    rw e (clearing-starts _ _ _ (search rules))

below : (c : In-Some) → c.in-Some.v < 32
below c = has-below c.args.nodes 32 _ c.requires (c.loop-v.invariant.inside _ (next-in _ _ _ c.in-Some.ensures.steps))

pub offset_bounds-at-v : goal.offset_bounds-at-v
offset_bounds-at-v c = record { fits = omega (arith, below (goal.at.offset_bounds-at-v c).In-Some) }

pub bounds-at-v : goal.bounds-at-v
bounds-at-v c = below (goal.at.bounds-at-v c).In-Some

pub offset_bounds-at-v-in-loop-v : goal.offset_bounds-at-v-in-loop-v
offset_bounds-at-v-in-loop-v c = record { fits = omega (arith, below (goal.at.offset_bounds-at-v-in-loop-v c).In-Some) }

pub bounds-at-v-in-loop-v : goal.bounds-at-v-in-loop-v
bounds-at-v-in-loop-v c = omega (arith, below (goal.at.bounds-at-v-in-loop-v c).In-Some)

pub loop-v-preserved : goal.loop-v-preserved
loop-v-preserved c =
    let l = c.loop-v in
    let (low, rest) = taken _ _ c.next.new.self.0 c.in-Some.ensures.steps in
    clearing-turn _ _ _ l.v-iterator.0 l.left l.at l.invariant _ low (below (goal.at.loop-v-preserved c).In-Some) c.next.new.self.0 rest _ c.difference-left.ensures

pub returns : goal.returns
returns c =
    let l = c.loop-v in
    let t = l.v-iterator.0 in
    let e = clearing-ends _ _ _ t l.left l.at (search rules) l.invariant c.in-None.ensures.steps.0 in
    record { remaining = e.0; cleared = e.1 }
