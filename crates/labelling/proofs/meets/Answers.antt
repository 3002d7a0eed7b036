use Prim.Native.Nat.{ℕ}
use mathlib.Core.Path.{◌≡◌, refl, ap, ◌∙◌}
use mathlib.Core.Bool.{◌&&◌}
use native.Mathlib.Omega.{arith}
use lib.Dec.{ltb}
use Rattle.bits.specs.Members.{members, first_of}
use Rattle.game.specs.Forests.{has}
use Rattle.labelling.specs.Places.{places_of}
use Rattle.labelling.proofs.Laws.{some-law, is_below, meet-same}
use Rattle.labelling.proofs.meets.Goals as goal

same_limit : (d n m : ℕ) → n ≡ m → ltb d n ≡ ltb d m
same_limit d n m e = ap (ltb d) e

pub returns : goal.returns
returns c =
    let a = c.args in
    let r = c.meet.result in
    let d = first_of (members r) in
    c.is_some.ensures
    ∙ is_below d _ c.first.result c.first.ensures
    ∙ same_limit d _ a.m (omega arith)
    ∙ some-law r d a.m (λ d. has (places_of a.m a.s) d && has (places_of a.m a.t) d) (meet-same r a.s a.t a.m c.meet.ensures) refl c.requires
