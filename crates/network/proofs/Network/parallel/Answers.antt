use Prim.Native.Nat.{◌<◌}
use mathlib.Core.Path.{◌≡◌, refl, sym, ◌∙◌}
use Rattle.rounding.specs.declared.Direction.TheVariants.{Down, Up}
use native.Mathlib.Omega.{arith}
use Rattle.std.specs.Prelude.{Some}
use Rattle.search.specs.Searches.{places_in, beside, pair_in}
use Rattle.network.specs.Places.{Used}
use Rattle.network.proofs.Picks.{values-within}
use Rattle.network.proofs.Ends.{bounded}
use Rattle.network.proofs.Kept.{ends-below}
use Rattle.network.proofs.Joining.{all-joined, both_used, joined-on, joined-fewer}
use borrow.Author.Rules.{rules}
use Rattle.network.proofs.Network.parallel.Goals as goal
use Rattle.network.proofs.Network.parallel.Goals.{In-Some}

pub loop-i-init : goal.loop-i-init
loop-i-init c = record { sized = search rules; holds = c.requires.0; loopless = c.requires.1; same = refl; chosen = refl }

pub first_pair-requires : goal.first_pair-requires
first_pair-requires c =
    let h = c.loop-i in
    (bounded h.self h.invariant.sized h.invariant.holds.valid, h.invariant.holds.tallies)

found : (k : In-Some) → let n = k.loop-i.self in pair_in (beside n.a n.b) (places_in n.alive) ≡ Some (k.in-Some.i, k.in-Some.j)
found k = sym k.first_pair.ensures ∙ k.in-Some.is

both : (k : In-Some) → Used k.loop-i.self k.in-Some.i × Used k.loop-i.self k.in-Some.j
both k = let h = k.loop-i in both_used h.self h.invariant.sized h.invariant.loopless _ _ (found k)

below : (k : In-Some) → (k.in-Some.i < 64) × (k.in-Some.j < 64)
below k = ((both k).0.below, (both k).1.below)

pub join-requires : goal.join-requires
join-requires c =
    let u = both (goal.at.join-requires c).In-Some in
    let h = c.loop-i in
    let w = values-within h.self h.invariant.sized h.invariant.holds.valid _ _ u.0 u.1 Down in
    (omega (arith, below (goal.at.join-requires c).In-Some), omega (arith, below (goal.at.join-requires c).In-Some), omega (arith, w), omega (arith, w))

pub join-requires-in-Some : goal.join-requires-in-Some
join-requires-in-Some c =
    let u = both (goal.at.join-requires-in-Some c).In-Some in
    let h = c.loop-i in
    let w = values-within h.self h.invariant.sized h.invariant.holds.valid _ _ u.0 u.1 Up in
    (omega (arith, below (goal.at.join-requires-in-Some c).In-Some), omega (arith, below (goal.at.join-requires-in-Some c).In-Some), omega (arith, w), omega (arith, w))

pub bounds-self-j : goal.bounds-self-j
bounds-self-j c = omega (arith, below (goal.at.bounds-self-j c).In-Some)

pub bounds-self-j-in-Some : goal.bounds-self-j-in-Some
bounds-self-j-in-Some c = omega (arith, below (goal.at.bounds-self-j-in-Some c).In-Some)

pub unlink-requires : goal.unlink-requires
unlink-requires c =
    let h = c.loop-i in
    let u = both (goal.at.unlink-requires c).In-Some in
    let e = ends-below h.self h.invariant.sized h.invariant.holds _ u.1 in
    (omega (arith, e), omega (arith, e), omega (arith, below (goal.at.unlink-requires c).In-Some))

pub loop-i-smaller : goal.loop-i-smaller
loop-i-smaller c =
    let u = c.unlink in
    let e = u.ensures in
    let high = c.join-in-Some in
    let low = c.join in
    joined-fewer c.args.self c.loop-i.self c.loop-i.invariant _ _ (found (goal.at.loop-i-smaller c).In-Some) u.result e.out.half u.new.at low.new.values high.new.values
    e.left e.out.first e.out.second low.ensures high.ensures

pub loop-i-preserved : goal.loop-i-preserved
loop-i-preserved c =
    let u = c.unlink in
    let e = u.ensures in
    let high = c.join-in-Some in
    let low = c.join in
    joined-on c.args.self c.loop-i.self c.loop-i.invariant _ _ (found (goal.at.loop-i-preserved c).In-Some) u.result e.out.half u.new.at low.new.values high.new.values
    e.left e.out.first e.out.second low.ensures high.ensures

pub returns : goal.returns
returns c = all-joined _ _ c.loop-i.invariant (sym c.first_pair.ensures ∙ c.in_default.is)
