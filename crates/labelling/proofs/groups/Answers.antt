use Prim.Native.Nat.{ℕ, ◌+◌}
use mathlib.Core.Path.{◌≡◌, refl, ap, subst, ◌∙◌, sym}
use mathlib.Core.Bool.{Bool, cond}
use native.Mathlib.Omega.{arith}
use mir.Val.{bool_byte}
use lib.Dec.{eqb}
use lib.ListN.{get_or, replicate}
use borrow.Author.Rules.{rules}
use borrow.Author.Tests.{eq-eqb, ne_eqb}
use Rattle.game.specs.Forests.{count}
use Rattle.labelling.specs.Places.{Grouped}
use Rattle.labelling.proofs.Counts.{count-more, byte-more, tally-most, zeros, groups-start, groups-more}
use Rattle.labelling.proofs.groups.Goals as goal
use Rattle.labelling.proofs.groups.Goals.{After-from, then-w-v, else-w-v}

pub loop-v-init : goal.loop-v-init
unfolding count
loop-v-init c = (search rules, refl, search rules, groups-start c.args.labels c.requires.1 (replicate 32 0) (zeros c.args.labels c.requires.1 32))

pub bounds-groups-w : goal.bounds-groups-w
bounds-groups-w c = omega (arith, (c.requires.1 c.loop-v.v (omega (arith, c.requires.0))).0, c.requires.0, c.from-w.ensures)

-- the label of v is v itself, or another node
group : (c : After-from) → let v = c.loop-v.v in let w = get_or c.args.labels v 0 in c.if-w-v.groups ≡ cond (eqb w v) c.loop-v.c (get_or c.loop-v.groups w 0)
group c =
    let v = c.loop-v.v in
    let w = get_or c.args.labels v 0 in
    let e = c.from-w.ensures in
    elim c.if-w-v.branch [
      | then-w-v t ↦ rw (eq-eqb w v (sym e ∙ t.if-w-v.true)) t.groups-is
      | else-w-v t ↦ rw (ne_eqb w v (λ z. t.if-w-v.false (e ∙ z))) (t.groups-is ∙ ap (λ k. get_or c.loop-v.groups k 0) e)
    ]

pub loop-v-preserved : goal.loop-v-preserved
loop-v-preserved c =
    let a = c.args in
    let l = c.loop-v in
    let p : ℕ → Bool = λ u. eqb (get_or a.labels u 0) u in
    let more = byte-more (p l.v) l.c c.from.result (c.from.ensures ∙ ap (λ k. bool_byte (eqb k l.v)) c.from-w.ensures) in (
      search rules,
      omega (arith, count-more p l.v l.c (l.c + c.from.result) l.invariant.1 more),
      omega (arith, tally-most (p l.v) l.c (l.c + c.from.result) l.v more l.invariant.2),
      groups-more a.labels c.requires.1 l.groups l.v l.c c.if-w-v.groups (omega (arith, c.requires.0)) l.invariant.0 l.invariant.1 l.invariant.3 (group (goal.at.loop-v-preserved c).After-from),
    )

pub returns : goal.returns
returns c =
    let l = c.loop-v in
    let a = c.args in
    let e : l.v ≡ a.n = omega arith in
    subst (λ (n : ℕ). Grouped a.labels n l.groups) e l.invariant.3
