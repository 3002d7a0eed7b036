use Prim.Native.Nat.{◌-◌}
use mathlib.Core.Path.{ap, ◌∙◌}
use Rattle.bits.specs.Members.{members, how_many, both}
use Rattle.steps.proofs.Places.{rank-count}
use Rattle.steps.proofs.place.Goals as goal

pub returns : goal.returns
returns c =
    let a = c.args in
    c.count.ensures ∙ ap how_many (c.meet.ensures ∙ ap (both (members a.alive)) c.full.ensures) ∙ rank-count (members a.alive) a.i (64 - a.i)
