use Prim.Native.Nat.{ℕ, ◌+◌, ◌≤◌}
use mathlib.Core.Path.{sym, subst, ◌∙◌}
use native.Mathlib.Nat.{sub-zero}
use native.Mathlib.Omega.{arith}
use lib.ListN.{length}
use lib.Seq.{sets}
use Rattle.plan.proofs.Verdicts.{accepted-means}
use Rattle.listing.specs.Listings.{line_of, link_lines}
use Rattle.lines.specs.Lines.{Puts}
use Rattle.lines.proofs.Texts.{Remaining, begun, room, goes_on, done}
use Rattle.listing.proofs.Lengths.{links-next, links-none}
use Rattle.listing.proofs.put_links.Goals as goal

pub sizes_of-requires : goal.sizes_of-requires
sizes_of-requires c = let w = (accepted-means c.args.plan.now).0 c.requires.0 in omega (arith, w.whole)

pub loop-i-init : goal.loop-i-init
loop-i-init c = let a = c.args in let m = c.from-m.result in (
  c.from-m.ensures ∙ c.sizes_of.ensures.1,
  subst (λ (k : ℕ). Remaining a.text.now a.at (link_lines a.plan.now 0 k) (sets a.text.now a.at (link_lines a.plan.now 0 m)) (a.at + length (link_lines a.plan.now 0 m)) (length a.text.now)) (sym (sub-zero m))
      (begun a.text.now a.at (link_lines a.plan.now 0 m)),
)

pub loop-i-preserved : goal.loop-i-preserved
loop-i-preserved c =
    let p = c.put_link-next in
    let a = c.args in
    let (e, r) = c.loop-i.invariant in
    let i = c.loop-i.i in
    (e, goes_on _ _ _ _ _ _ r (line_of a.plan.now i) _ (links-next a.plan.now _ i (omega arith)) p.new.text p.result p.ensures)

pub put_link-next-requires : goal.put_link-next-requires
put_link-next-requires c =
    let a = c.args in
    let k = c.requires in
    let (e, r) = c.loop-i.invariant in
    let i = c.loop-i.i in
    (k.0, omega (arith, e), room _ _ _ _ _ _ r (line_of a.plan.now i) _ (links-next a.plan.now _ i (omega arith)) (subst (λ (j : ℕ). a.at + length (link_lines a.plan.now 0 j) ≤ length a.text.now) (sym e) k.1))

pub shape_of-text : goal.shape_of-text
shape_of-text c = c.loop-i.invariant.1.kept

pub returns : goal.returns
returns c =
    let a = c.args in
    let (e, r) = c.loop-i.invariant in
    subst (λ (k : ℕ). Puts a.text.now a.at (link_lines a.plan.now 0 k) c.loop-i.text c.loop-i.next) e (done _ _ _ _ _ _ r (links-none a.plan.now _ c.loop-i.i (omega arith)))
