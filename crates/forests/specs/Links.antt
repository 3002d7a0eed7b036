-- Links by place, sets of places and labels, as the definitions have them.
use Rattle.std.specs.Prelude.{ℕ, zero, suc, ◌≤◌, ◌<◌, ◌≡◌, List, [], ◌∷◌, map, false, get_or}
use Rattle.bits.specs.Members.{members}
use Rattle.search.specs.Searches.{from}
use Rattle.reliability.specs.Networks.{Ends, label}
use Rattle.game.specs.Game.{among}
use Rattle.game.specs.Forests.{takes, cut, Search as Search', place, closed, Found as Found'}
use Rattle.labelling.specs.Places.{places_of}
use Rattle.forests.specs.declared.Links.{Links}
use Rattle.forests.specs.declared.Found.{Found}
use Rattle.forests.specs.declared.Search.{Search}
use Rattle.forests.specs.declared.Search.TheVariants.{Place, Closed}

-- the links at the places i to i + k − 1
unfoldable pub links_from : List ℕ → List ℕ → ℕ → ℕ → List Ends
links_from as₁ bs i zero = []
links_from as₁ bs i (suc k) = record { a = get_or as₁ i 0; b = get_or bs i 0 } ∷ links_from as₁ bs (suc i) k

abbrev pub links_of : Links → List Ends
links_of l = links_from l.a l.b 0 l.m

-- the links at the places of a set
abbrev pub amongst : ℕ → List Ends → List Ends
amongst s = among (λ i. get_or (members s) i false)

-- the labels of the nodes 0 to 31
abbrev pub labels_of : List Ends → List ℕ
labels_of t = map (label t) (from 0 32)

-- at most 64 links, whose ends are below 32
pub record Fit (l : Links) : Type 0 where
  pub most : l.m ≤ 64
  pub ended : (i : ℕ) → i < l.m → (get_or l.a i 0 < 32) × (get_or l.b i 0 < 32)

-- cs has the cut of each link
abbrev pub Cuts : Links → List ℕ → List ℕ → Type 0
Cuts l marks cs = (f : ℕ) → f < l.m → places_of l.m (get_or cs f 0) ≡ cut (links_of l) marks f

-- what the two forests can take
abbrev pub Takes : Links → List ℕ → ℕ → ℕ → Type 0
Takes l marks one two = (places_of l.m one ≡ takes (links_of l) marks 1) × (places_of l.m two ≡ takes (links_of l) marks 2)

abbrev pub search_of : ℕ → Search → Search'
search_of m (Place d k l) = place d k l
search_of m (Closed s) = closed (places_of m s)

abbrev pub found_of : ℕ → Found → Found'
found_of m r = record { marks = r.marks; inside = places_of m r.inside }
