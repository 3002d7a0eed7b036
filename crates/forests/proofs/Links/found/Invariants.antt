use Prim.Native.Nat.{◌-◌}
use mathlib.Core.Path.{◌≡◌}
use Rattle.game.specs.Forests.{grow, found}
use Rattle.forests.specs.Links.{links_of}
use Rattle.forests.proofs.Links.found.Given as goal

abbrev pub invariant-loop : goal.invariant-loop
invariant-loop l = grow (links_of l.self) (l.end - l.counter) l.marks ≡ found (links_of l.self)
