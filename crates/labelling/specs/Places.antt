-- Sets of places, labels and groups, as the definitions have them.
use Rattle.std.specs.Prelude.{ℕ, ◌≤◌, ◌<◌, ◌≡◌, List, Bool, false, eqb, get_or}
use Rattle.bits.specs.Members.{members}
use Rattle.game.specs.Forests.{table, count}

-- the places below m of a set
abbrev pub places_of : ℕ → ℕ → List Bool
places_of m s = table m (λ i. get_or (members s) i false)

-- labels: of a node, itself or a lower one, which is its own
abbrev pub Labelling : List ℕ → Type 0
Labelling ls = (v : ℕ) → v < 32 → (get_or ls v 0 ≤ v) × (get_or ls (get_or ls v 0) 0 ≡ get_or ls v 0)

-- gs has the groups of the nodes below n: how many labels lie below a node's own
pub record Grouped (ls : List ℕ) (n : ℕ) (gs : List ℕ) : Type 0 where
  pub numbers : (v : ℕ) → v < n → get_or gs v 0 ≡ count (get_or ls v 0) (λ u. eqb (get_or ls u 0) u)
  pub others : (v : ℕ) → n ≤ v → get_or gs v 0 ≡ 0
