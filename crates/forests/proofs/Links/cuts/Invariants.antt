use Prim.Native.Nat.{ℕ, ◌<◌}
use mathlib.Core.Path.{◌≡◌}
use mathlib.Core.List.{List}
use lib.ListN.{length, get_or}
use Rattle.game.specs.Forests.{cut}
use Rattle.forests.specs.declared.Links.{Links}
use Rattle.labelling.specs.Places.{places_of}
use Rattle.forests.specs.Links.{links_of}
use Rattle.forests.proofs.Links.cuts.Given as goal

abbrev pub IsCut : Links → List ℕ → ℕ → ℕ → Type 0
IsCut l marks g c = places_of l.m c ≡ cut (links_of l) marks g

abbrev pub invariant-loop-f : goal.invariant-loop-f
invariant-loop-f l = (length l.all ≡ 64) × ((g : ℕ) → g < l.f → IsCut l.self l.marks g (get_or l.all g 0))
