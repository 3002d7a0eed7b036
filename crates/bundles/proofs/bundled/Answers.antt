use Prim.Native.Nat.{◌<◌}
use native.Mathlib.Nat.{le_refl}
use mathlib.Core.Path.{◌≡◌, refl, sym, ap, ◌∙◌}
use native.Mathlib.Omega.{arith}
use lib.ListN.{set}
use Rattle.std.specs.Prelude.{Some}
use Rattle.search.specs.Searches.{places_in, beside, pair_in}
use Rattle.network.specs.Places.{Used}
use Rattle.network.proofs.Ends.{bounded}
use Rattle.network.proofs.Kept.{ends-below}
use Rattle.network.proofs.Joining.{both_used}
use Rattle.bundles.proofs.Bundling.{all-bundled, pair_small, bundled-on, bundled-fewer}
use borrow.Author.Rules.{rules}
use Rattle.bundles.proofs.bundled.Goals as goal
use Rattle.bundles.proofs.bundled.Goals.{In-Some}

pub loop-i-init : goal.loop-i-init
loop-i-init c = record { sized = search rules; holds = c.requires.0; loopless = c.requires.1; room = c.requires.2; nodes = refl; chosen = refl; worth = λ x. refl; most = λ x. refl; fewer = le_refl _ }

pub first_pair-requires : goal.first_pair-requires
first_pair-requires c =
    let h = c.loop-i in
    (bounded h.net h.invariant.sized h.invariant.holds.valid, h.invariant.holds.tallies)

found : (k : In-Some) → let n = k.loop-i.net in pair_in (beside n.a n.b) (places_in n.alive) ≡ Some (k.in-Some.i, k.in-Some.j)
found k = sym k.first_pair.ensures ∙ k.in-Some.is

both : (k : In-Some) → Used k.loop-i.net k.in-Some.i × Used k.loop-i.net k.in-Some.j
both k = let h = k.loop-i in both_used h.net h.invariant.sized h.invariant.loopless _ _ (found k)

below : (k : In-Some) → (k.in-Some.i < 64) × (k.in-Some.j < 64)
below k = ((both k).0.below, (both k).1.below)

pub offset_bounds-net-i : goal.offset_bounds-net-i
offset_bounds-net-i c = record { fits = omega (arith, below c) }

pub bounds-net-i : goal.bounds-net-i
bounds-net-i c = omega (arith, below c)

pub offset_bounds-net-j : goal.offset_bounds-net-j
offset_bounds-net-j c = record { fits = omega (arith, below (goal.at.offset_bounds-net-j c).In-Some) }

pub bounds-net-j : goal.bounds-net-j
bounds-net-j c = omega (arith, below (goal.at.bounds-net-j c).In-Some)

pub overflow_add-both : goal.overflow_add-both
overflow_add-both c =
    let h = c.loop-i in
    record { fits = omega (arith, pair_small _ h.net h.invariant _ _ (found (goal.at.overflow_add-both c).In-Some)) }

pub offset_bounds-net-i-in-Some : goal.offset_bounds-net-i-in-Some
offset_bounds-net-i-in-Some c = record { fits = omega (arith, below (goal.at.offset_bounds-net-i-in-Some c).In-Some) }

pub bounds-net-i-in-Some : goal.bounds-net-i-in-Some
bounds-net-i-in-Some c = omega (arith, below (goal.at.bounds-net-i-in-Some c).In-Some)

pub offset_bounds-net-i-in-Some-2 : goal.offset_bounds-net-i-in-Some-2
offset_bounds-net-i-in-Some-2 c = record { fits = omega (arith, below (goal.at.offset_bounds-net-i-in-Some-2 c).In-Some) }

pub bounds-net-i-in-Some-2 : goal.bounds-net-i-in-Some-2
bounds-net-i-in-Some-2 c = omega (arith, below (goal.at.bounds-net-i-in-Some-2 c).In-Some)

pub bounds-net-j-in-Some : goal.bounds-net-j-in-Some
bounds-net-j-in-Some c = omega (arith, below (goal.at.bounds-net-j-in-Some c).In-Some)

pub bounds-net-j-in-Some-2 : goal.bounds-net-j-in-Some-2
bounds-net-j-in-Some-2 c = omega (arith, below (goal.at.bounds-net-j-in-Some-2 c).In-Some)

pub take_out-requires : goal.take_out-requires
take_out-requires c =
    let h = c.loop-i in
    let u = (both (goal.at.take_out-requires c).In-Some).1 in
    (omega (arith, ends-below h.net h.invariant.sized h.invariant.holds _ u), omega (arith, below (goal.at.take_out-requires c).In-Some))

pub take_out-requires-in-Some : goal.take_out-requires-in-Some
take_out-requires-in-Some c =
    let h = c.loop-i in
    let u = (both (goal.at.take_out-requires-in-Some c).In-Some).1 in
    (omega (arith, ends-below h.net h.invariant.sized h.invariant.holds _ u), omega (arith, below (goal.at.take_out-requires-in-Some c).In-Some))

pub without-requires : goal.without-requires
without-requires c = omega (arith, below (goal.at.without-requires c).In-Some)

pub loop-i-smaller : goal.loop-i-smaller
loop-i-smaller c =
    let two = c.take_out-in-Some in
    let one = c.take_out in
    let h = c.loop-i in
    bundled-fewer c.args.net h.net h.invariant _ _ (found (goal.at.loop-i-smaller c).In-Some) c.without.result one.new.at two.new.at _ _ c.without.ensures one.ensures two.ensures (ap (set h.net.low _) (omega arith)) (ap (set h.net.high _) (omega arith))

pub loop-i-preserved : goal.loop-i-preserved
loop-i-preserved c =
    let two = c.take_out-in-Some in
    let one = c.take_out in
    let h = c.loop-i in
    bundled-on c.args.net h.net h.invariant _ _ (found (goal.at.loop-i-preserved c).In-Some) c.without.result one.new.at two.new.at _ _ c.without.ensures one.ensures two.ensures (ap (set h.net.low _) (omega arith)) (ap (set h.net.high _) (omega arith))

pub returns : goal.returns
returns c = all-bundled _ _ c.loop-i.invariant (sym c.first_pair.ensures ∙ c.in_default.is)
