use Prim.Native.Nat.{◌-◌}
use mathlib.Core.Path.{◌≡◌, sym, ap, ◌∙◌}
use native.Mathlib.Omega.{arith}
use lib.ListN.{get_or}
use Rattle.search.proofs.Sets.{has as in-set}
use Rattle.forests.proofs.Laws.{through, labels-start, labels_in, labels-out, labels-end}
use Rattle.forests.proofs.Links.labels.Goals as goal

pub loop-i-init : goal.loop-i-init
loop-i-init c = let a = c.args in c.own_labels-labels.ensures ∙ labels-start (in-set a.s) a.self.a a.self.b a.self.m

pub bounds-labels-from : goal.bounds-labels-from
bounds-labels-from c = omega (arith, (c.requires.ended (c.loop-i.i - 1) (omega arith)).0, c.from.ensures)

pub bounds-labels-from-then-has : goal.bounds-labels-from-then-has
bounds-labels-from-then-has c = omega (arith, (c.requires.ended (c.loop-i.i - 1) (omega arith)).1, c.from-then-has.ensures)

pub loop-i-preserved-then-has : goal.loop-i-preserved-then-has
loop-i-preserved-then-has c =
    let a = c.args in
    let i = c.loop-i.i in
    let ends = c.requires.ended (i - 1) (omega arith) in
    c.all_merged-labels.ensures
    ∙ labels_in (in-set a.s) a.self.a a.self.b a.self.m i (omega arith) (omega arith) c.loop-i.labels _ _ (sym c.has.ensures ∙ c.if-has.true)
    ends.0 ends.1 c.loop-i.invariant (ap (λ v. get_or c.loop-i.labels v 0) c.from.ensures) (ap (λ v. get_or c.loop-i.labels v 0) c.from-then-has.ensures)

pub loop-i-preserved : goal.loop-i-preserved
loop-i-preserved c =
    let a = c.args in
    c.loop-i.invariant ∙ labels-out (in-set a.s) a.self.a a.self.b a.self.m c.loop-i.i (omega arith) (omega arith) (sym c.has.ensures ∙ c.if-has.false)

pub returns : goal.returns
returns c =
    let a = c.args in
    let p = in-set a.s in
    let z : c.loop-i.i ≡ 0 = omega arith in
    c.loop-i.invariant ∙ ap (through p a.self.a a.self.b a.self.m) z ∙ labels-end p a.self.a a.self.b a.self.m
