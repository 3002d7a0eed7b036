-- Sets of places as lists, the links at their places, and what the searches find.
use Rattle.std.specs.Prelude.{ℕ, zero, suc, ◌+◌, ◌<◌, ◌≡◌, List, [], ◌∷◌, map, Bool, true, false, cond, not, ◌&&◌, ◌||◌, eqb, get_or, Option, Some, None}
use Rattle.bits.specs.Members.{members, how_many}
use Rattle.reliability.specs.Networks.{Ends}
unfoldable pub use Rattle.reliability.specs.Networks.{filter}
unfoldable pub use Rattle.reliability.specs.Rule.{largest}

-- what stands at the places that are set
unfoldable pub pick : {A : Type 0} → List Bool → List A → List A
pick [] xs = []
pick (b ∷ bs) [] = []
pick (true ∷ bs) (x ∷ xs) = x ∷ pick bs xs
pick (false ∷ bs) (x ∷ xs) = pick bs xs

-- the numbers from i on, k of them
unfoldable pub from : ℕ → ℕ → List ℕ
from i zero = []
from i (suc k) = i ∷ from (suc i) k

-- the places of a set
abbrev pub places_in : ℕ → List ℕ
places_in s = pick (members s) (from 0 64)

-- the nodes of a set
abbrev pub nodes_in : ℕ → List ℕ
nodes_in = places_in

-- what is in the set s is in the set t
abbrev pub Inside : ℕ → ℕ → Type 0
Inside s t = (p : ℕ) → get_or (members s) p false ≡ true → get_or (members t) p false ≡ true

-- ---- the links at their places

-- the places in use at which a test of the two ends holds
unfoldable pub marked : (ℕ → ℕ → Bool) → List Bool → List ℕ → List ℕ → List Bool
marked t [] as₁ bs = []
marked t (u ∷ us) [] bs = []
marked t (u ∷ us) (a ∷ as₁) [] = []
marked t (u ∷ us) (a ∷ as₁) (b ∷ bs) = (u && t a b) ∷ marked t us as₁ bs

abbrev pub touching : ℕ → ℕ → ℕ → Bool
touching v a b = eqb a v || eqb b v

-- at has the places of the links at each node
abbrev pub Incidence : List ℕ → ℕ → List ℕ → List ℕ → Type 0
Incidence at alive as₁ bs = (v : ℕ) → v < 32 → members (get_or at v 0) ≡ marked (touching v) (members alive) as₁ bs

-- the ends of the links in use are below 32
abbrev pub Bounded : ℕ → List ℕ → List ℕ → Type 0
Bounded alive as₁ bs = (p : ℕ) → get_or (members alive) p false ≡ true → (get_or as₁ p 0 < 32) × (get_or bs p 0 < 32)

-- they are in the set s
abbrev pub Ended : ℕ → ℕ → List ℕ → List ℕ → Type 0
Ended s alive as₁ bs = (p : ℕ) → get_or (members alive) p false ≡ true → (get_or (members s) (get_or as₁ p 0) false ≡ true) × (get_or (members s) (get_or bs p 0) false ≡ true)

-- the ends by place
unfoldable pub ends_by_place : List ℕ → List ℕ → List Ends
ends_by_place (a ∷ as₁) (b ∷ bs) = record { a = a; b = b } ∷ ends_by_place as₁ bs
ends_by_place [] bs = []
ends_by_place (a ∷ as₁) [] = []

-- the ends of the links in use
abbrev pub ends_in : ℕ → List ℕ → List ℕ → List Ends
ends_in alive as₁ bs = pick (members alive) (ends_by_place as₁ bs)

-- ---- what the searches find

-- the first of a list
abbrev pub found : List ℕ → Option ℕ
found [] = None
found (k ∷ ks) = Some k

-- the places in use whose link joins a node to itself
abbrev pub loops : ℕ → List ℕ → List ℕ → List ℕ
loops alive as₁ bs = filter (λ k. eqb (get_or as₁ k 0) (get_or bs k 0)) (places_in alive)

-- the link at j touches both ends of the link at i
abbrev pub beside : List ℕ → List ℕ → ℕ → ℕ → Bool
beside as₁ bs i j = touching (get_or as₁ i 0) (get_or as₁ j 0) (get_or bs j 0) && touching (get_or bs i 0) (get_or as₁ j 0) (get_or bs j 0)

-- the first place with a partner behind it, and its earliest partner
unfoldable pub pair_in : (ℕ → ℕ → Bool) → List ℕ → Option (ℕ × ℕ)
pair_in t [] = None
pair_in t (i ∷ is) = elim (filter (t i) is) [ [] ↦ pair_in t is | j ∷ js ↦ Some (i, j) ]

-- the nodes of a set at which there are d links
abbrev pub with_links : ℕ → List ℕ → ℕ → List ℕ
with_links d at nodes = filter (λ v. eqb (how_many (members (get_or at v 0))) d) (nodes_in nodes)

-- the neighbour of v across the link at place k
abbrev pub across_at : List ℕ → List ℕ → ℕ → ℕ → ℕ
across_at as₁ bs v k = cond (eqb (get_or as₁ k 0) v) (get_or bs k 0) (get_or as₁ k 0)

-- v is not chosen, or both its neighbours across the links at the first two places of s are
abbrev pub between_at : ℕ → List ℕ → List ℕ → ℕ → ℕ → Bool
between_at chosen as₁ bs v s =
    let among : ℕ → Bool = λ u. get_or (members chosen) u false in
    not (among v) || (among (across_at as₁ bs v (get_or (places_in s) 0 0)) && among (across_at as₁ bs v (get_or (places_in s) 1 0)))

-- the nodes of a set at which there are two links that can become one
abbrev pub in_line : ℕ → List ℕ → List ℕ → List ℕ → ℕ → List ℕ
in_line chosen at as₁ bs nodes = filter (λ v. eqb (how_many (members (get_or at v 0))) 2 && between_at chosen as₁ bs v (get_or at v 0)) (nodes_in nodes)

-- the number of links at v where v is in a set of nodes, else 0
abbrev pub count_at : ℕ → List ℕ → ℕ → ℕ
count_at nodes at v = cond (get_or (members nodes) v false) (how_many (members (get_or at v 0))) 0

-- this number for each v from 0 to 31
abbrev pub counts_of : ℕ → List ℕ → List ℕ
counts_of nodes at = map (count_at nodes at) (from 0 32)

-- the counts of the two ends of the link at k, together
abbrev pub count_sum : List ℕ → List ℕ → List ℕ → ℕ → ℕ
count_sum counts as₁ bs k = get_or counts (get_or as₁ k 0) 0 + get_or counts (get_or bs k 0) 0

-- the first of a list whose sum is the largest: 64 where there is none
abbrev pub largest_in : (ℕ → ℕ) → List ℕ → ℕ
largest_in sum ks = get_or (filter (λ k. eqb (sum k) (largest sum ks)) ks) 0 64
