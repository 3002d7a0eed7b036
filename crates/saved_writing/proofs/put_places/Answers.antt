use mathlib.Core.Path.{◌≡◌, ap, ◌∙◌}
use native.Mathlib.Omega.{arith}
use Rattle.saved_writing.proofs.Writing.{places_put, places-none, places-more}
use Rattle.saved_writing.proofs.put_places.Goals as goal

pub loop-i-init : goal.loop-i-init
loop-i-init c = places-none c.args.work.now c.args.row.now

pub loop-i-preserved : goal.loop-i-preserved
loop-i-preserved c =
    places-more c.args.work.now c.args.row.now _ _ c.loop-i.i (omega arith) c.loop-i.invariant c.put.ensures

pub returns : goal.returns
returns c =
    let done : c.loop-i.i ≡ c.args.c = omega arith in
    c.loop-i.invariant ∙ ap (places_put c.args.work.now c.args.row.now) done
