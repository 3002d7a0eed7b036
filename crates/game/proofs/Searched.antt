-- The same games by the search.
use Prim.Native.Nat.{ℕ, ◌+◌, ◌*◌}
use mathlib.Core.Path.{◌≡◌, refl}
use mathlib.Core.List.{List, [], ◌∷◌, map}
use mathlib.Core.Bool.{Bool}
use lib.Dec.{leb}
use lib.ListN.{length, replicate}
use Rattle.reliability.specs.Networks.{Ends, label, merge}
use Rattle.game.specs.Game.{some_below, among}
use Rattle.game.specs.Forests.{table, first, climb, grow, found, count, placed, group}
use Rattle.game.proofs.Ahead.{Row, rows, outcomes, ◌–◌}

-- whether the keeper wins if the cutter opens and if he does
abbrev searched : List ℕ → List Ends → Bool × Bool
searched vs es = let k = placed es (found es) in (leb (2 * length vs) (k + 2), leb (2 * length vs) (k + 3))

searched-rows : map (λ (w : Row). searched w.nodes w.links) rows ≡ outcomes
unfolding label merge among table first climb grow count some_below
searched-rows = refl

-- a complete network on four nodes: two trees of three links
complete : (found (0 – 1 ∷ 0 – 2 ∷ 0 – 3 ∷ 1 – 2 ∷ 1 – 3 ∷ 2 – 3 ∷ [])).marks ≡ 1 ∷ 2 ∷ 1 ∷ 2 ∷ 2 ∷ 1 ∷ replicate 58 0
unfolding label merge among table first climb grow count some_below
complete = refl

-- three nodes with a link to spare and one link to a fourth: two groups, with one link between them
pendant : let es = 0 – 1 ∷ 0 – 1 ∷ 1 – 2 ∷ 1 – 2 ∷ 2 – 0 ∷ 2 – 3 ∷ [] in map (group es (found es)) (0 ∷ 1 ∷ 2 ∷ 3 ∷ []) ≡ 0 ∷ 0 ∷ 0 ∷ 1 ∷ []
unfolding label merge among table first climb grow count some_below
pendant = refl
