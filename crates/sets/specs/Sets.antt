-- How many sets of i links connect a network (document 02, Eight).
use Rattle.std.specs.Prelude.{ℕ, zero, suc, ◌+◌, List, [], ◌∷◌, ◌++◌, map, Bool, cond, length}
use Rattle.reliability.specs.Networks.{Network, ends, connected}
use Rattle.search.specs.Searches.{from}

-- the sets of i of the links es
unfoldable pub sets : {A : Type 0} → ℕ → List A → List (List A)
sets zero es = [] ∷ []
sets (suc i) [] = []
sets (suc i) (e ∷ es) = map (λ s. e ∷ s) (sets i es) ++ sets (suc i) es

-- how many of a list pass a test
unfoldable pub how_many : {A : Type 0} → (A → Bool) → List A → ℕ
how_many p [] = 0
how_many p (x ∷ xs) = cond (p x) 1 0 + how_many p xs

-- how many sets of i links connect all nodes: loops are links, and values play no part
abbrev pub connecting_sets : Network → ℕ → ℕ
connecting_sets g i = how_many (connected g.nodes) (sets i (map ends g.links))

-- that number for each i from 0 to m
abbrev pub connecting_row : Network → List ℕ
connecting_row g = map (connecting_sets g) (from 0 (suc (length g.links)))
