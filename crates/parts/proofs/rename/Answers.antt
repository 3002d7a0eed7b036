use mathlib.Core.Path.{◌≡◌, sym, ◌∙◌}
use native.Mathlib.Omega.{arith}
use lib.ListN.{get_or, length-set}
use borrow.Author.Rules.{rules}
use Rattle.bits.specs.Members.{members}
use Rattle.reliability.specs.Rule.{rename}
use Rattle.search.proofs.Marks.{next-below, taken, none-taken}
use Rattle.parts.proofs.Changes.{changed-lowest, changed-none}
use Rattle.parts.proofs.rename.Goals as goal
use Rattle.parts.proofs.rename.Goals.{then-x-gone, else-x-gone}

pub bounds-ends-k : goal.bounds-ends-k
bounds-ends-k c = omega (arith, next-below _ _ _ c.in-Some.ensures.steps, c.loop-k.invariant.1)

pub bounds-ends-k-in-loop-k : goal.bounds-ends-k-in-loop-k
bounds-ends-k-in-loop-k c = omega (arith, next-below _ _ _ c.in-Some.ensures.steps, c.loop-k.invariant.1)

pub loop-k-preserved : goal.loop-k-preserved
loop-k-preserved c =
    let h = c.loop-k in
    let k = c.in-Some.k in
    let f = rename c.args.keep c.args.gone in
    let new : c.if-x-gone.ends ≡ f (get_or h.ends k 0) = elim c.if-x-gone.branch [ then-x-gone w ↦ search rules | else-x-gone w ↦ search rules ] in
    let (low, rest) = taken h.k-iterator.0 k c.next.new.self.0 c.in-Some.ensures.steps in
    (changed-lowest f h.k-iterator.0 k c.next.new.self.0 h.ends c.if-x-gone.ends low rest new ∙ h.invariant.0, length-set h.ends k _ ∙ h.invariant.1)

pub returns : goal.returns
returns c =
    let h = c.loop-k in
    sym (changed-none (rename c.args.keep c.args.gone) (members h.k-iterator.0) h.ends (none-taken h.k-iterator.0 c.in-None.ensures.steps.0)) ∙ h.invariant.0
