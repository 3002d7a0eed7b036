use Prim.Native.Nat.{◌<◌}
use mathlib.Core.Path.{◌≡◌, sym, ap, ◌∙◌}
use mathlib.Core.Bool.{Bool, cond}
use native.Mathlib.Omega.{arith}
use lib.ListN.{get_or, get_or-replicate}
use borrow.Author.Rules.{rules}
use Rattle.bits.specs.Members.{members, how_many}
use Rattle.search.specs.Searches.{count_at}
use Rattle.search.proofs.Sets.{has-below}
use Rattle.search.proofs.Marks.{next-in, taken, none-in, rest-within}
use Rattle.search.proofs.Largest.{places-most, all-counted, count_turn}
use Rattle.search.proofs.counts.Goals as goal
use Rattle.search.proofs.counts.Goals.{In-Some}

pub loop-v-init : goal.loop-v-init
loop-v-init c =
    let s = c.args in
    let e : c.into_iter-v-iterator.result.0 ≡ s.nodes = search rules in
    rw e (λ v h k. get_or-replicate 32 v 0 0 h ∙ ap (λ (b : Bool). cond b (how_many (members (get_or s.at.now v 0))) 0) (sym k), search rules, λ v f. f)

below : (c : In-Some) → c.in-Some.v < 32
below c = has-below c.args.nodes 32 c.in-Some.v c.requires (c.loop-v.invariant.2 _ (next-in _ _ _ c.in-Some.ensures.steps))

pub loop-v-preserved : goal.loop-v-preserved
loop-v-preserved c =
    let t = c.loop-v.v-iterator.0 in
    let k = c.in-Some.v in
    let at = c.args.at.now in
    let (low, rest) = taken t k c.next.new.self.0 c.in-Some.ensures.steps in (
      λ v h g. count_turn c.loop-v.counts (count_at c.args.nodes at) t k low _ rest v
          (omega (arith, below (goal.at.loop-v-preserved c).In-Some, c.loop-v.invariant.1)) (c.count.ensures ∙ ap (λ (b : Bool). cond b (how_many (members (get_or at k 0))) 0) (sym (c.loop-v.invariant.2 _ (next-in _ _ _ c.in-Some.ensures.steps)))) (c.loop-v.invariant.0 v h) g,
      search (rules, c.loop-v.invariant.1),
      rest-within t k low _ rest c.args.nodes c.loop-v.invariant.2,
    )

pub returns : goal.returns
returns c =
    let l = c.loop-v in
    all-counted _ c.args.at.now l.counts l.invariant.1 (λ v h. l.invariant.0 v h (none-in l.v-iterator.0 c.in-None.ensures.steps.0 v))

pub offset_bounds-at-v : goal.offset_bounds-at-v
offset_bounds-at-v c = record { fits = omega (arith, below (goal.at.offset_bounds-at-v c).In-Some) }

pub bounds-at-v : goal.bounds-at-v
bounds-at-v c = below (goal.at.bounds-at-v c).In-Some

pub overflow_cast-counts : goal.overflow_cast-counts
overflow_cast-counts c = record { fits = omega (arith, c.count.ensures, places-most (get_or c.args.at.now c.in-Some.v 0)) }

pub bounds-counts-v : goal.bounds-counts-v
bounds-counts-v c = below (goal.at.bounds-counts-v c).In-Some
