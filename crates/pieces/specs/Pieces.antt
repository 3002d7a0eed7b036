-- A set of nodes that links do not leave, and the piece of a node in it.
use Rattle.std.specs.Prelude.{ℕ, ◌≡◌, List, true, false, ◌&&◌, get_or}
use Rattle.bits.specs.Members.{members}
use Rattle.reliability.specs.Networks.{Ends, together}

-- no link in use leads out of the set s
abbrev pub Closed : ℕ → ℕ → List ℕ → List ℕ → Type 0
Closed s alive as₁ bs = (p : ℕ) → get_or (members alive) p false ≡ true → get_or (members s) (get_or as₁ p 0) false ≡ get_or (members s) (get_or bs p 0) false

-- r has those of the nodes of s that are in one piece with v
abbrev pub PieceOf : ℕ → ℕ → List Ends → ℕ → Type 0
PieceOf r s t v = (u : ℕ) → get_or (members r) u false ≡ (get_or (members s) u false && together t u v)
