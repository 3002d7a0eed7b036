-- A network by value as a network of the definitions: the links at the places in use, in ascending order.
use Rattle.std.specs.Prelude.{ℕ, zero, suc, ◌-◌, ◌^◌, ◌<◌, ◌≡◌, List, [], ◌∷◌, ◌++◌, Bool, true, false, length, get_or, set, replicate}
use Rattle.bits.specs.Members.{members, how_many}
use Rattle.reliability.specs.declared.Link.{Link}
use Rattle.reliability.specs.declared.Step.{Step}
use Rattle.reliability.specs.declared.Step.TheVariants.{OneNode, Disconnected, Loop, Parallel, End, Series, Split}
use Rattle.reliability.specs.Networks.{Network as Graph, Valid, link_at}
use Rattle.reliability.specs.Terminals.{Terminals, among, next}
use Rattle.search.specs.Searches.{pick, nodes_in, Inside, Incidence}
use Rattle.network.specs.declared.Network.{Network}

-- how many of the places below p are set
unfoldable pub rank : ℕ → List Bool → ℕ
rank zero bs = zero
rank (suc p) [] = zero
rank (suc p) (true ∷ bs) = suc (rank p bs)
rank (suc p) (false ∷ bs) = rank p bs

-- the links of four arrays, by place
unfoldable pub rows : List ℕ → List ℕ → List ℕ → List ℕ → List Link
rows (a ∷ as₁) (b ∷ bs) (l ∷ ls) (h ∷ hs) = record { a = a; b = b; low = l; high = h } ∷ rows as₁ bs ls hs
rows [] bs ls hs = []
rows (a ∷ as₁) [] ls hs = []
rows (a ∷ as₁) (b ∷ bs) [] hs = []
rows (a ∷ as₁) (b ∷ bs) (l ∷ ls) [] = []

-- the link of place i
abbrev pub row_of : List ℕ → List ℕ → List ℕ → List ℕ → ℕ → Link
row_of as₁ bs ls hs i = record { a = get_or as₁ i 0; b = get_or bs i 0; low = get_or ls i 0; high = get_or hs i 0 }

abbrev pub links_of : Network → List Link
links_of n = pick (members n.alive) (rows n.a n.b n.low n.high)

abbrev pub nodes_of : Network → List ℕ
nodes_of n = nodes_in n.nodes

abbrev pub chosen_of : Network → List ℕ
chosen_of n = nodes_in n.chosen

-- the network that n stands for
abbrev pub network_of : Network → Graph
network_of n = record { nodes = nodes_of n; links = links_of n }

-- with its chosen nodes
abbrev pub terminals_of : Network → Terminals
terminals_of n = among (chosen_of n) (network_of n)

-- a place in use
pub record Used (n : Network) (p : ℕ) : Type 0 where
  pub below : p < 64
  pub used : get_or (members n.alive) p false ≡ true

-- r's places in use are those of n without p
abbrev pub WithoutPlace : Network → ℕ → Network → Type 0
WithoutPlace n p r = members r.alive ≡ set (members n.alive) p false

-- the place of a link among the links then left
abbrev pub index_of : Network → ℕ → ℕ
index_of n p = rank p (members n.alive)

-- the link at a place
abbrev pub link_of : Network → ℕ → Link
link_of n p = link_at (network_of n) (index_of n p)

-- what holds of every network that is a value: its arrays are full, and it has at most 32 nodes
pub record Sized (n : Network) : Type 0 where
  pub nodes : n.nodes < 2 ^ 32
  pub chosen : n.chosen < 2 ^ 32
  pub at_length : length n.at ≡ 32
  pub a_length : length n.a ≡ 64
  pub b_length : length n.b ≡ 64
  pub low_length : length n.low ≡ 64
  pub high_length : length n.high ≡ 64

-- what holds of a network by value at all times: its chosen nodes are nodes, and the links at each node are those that are counted
-- anew (their number is the node's tally: tally-counted in proofs/Rules.antt)
pub record Invariant (n : Network) : Type 0 where
  pub valid : Valid (network_of n)
  pub inside : Inside n.chosen n.nodes
  pub tallies : Incidence n.at n.alive n.a n.b

-- the tally of node v
abbrev pub tally : Network → ℕ → ℕ
tally n v = how_many (members (get_or n.at v 0))

-- a network that is being built: its k links stand at the places 0 to k − 1
unfoldable pub Built : Network → ℕ → Type 0
Built n k = members n.alive ≡ replicate k true ++ replicate (64 - k) false

-- a step by places in use, and its places among the links then left
unfoldable pub ranked : Network → Step → Step
ranked n OneNode = OneNode
ranked n Disconnected = Disconnected
ranked n (Loop i) = Loop (index_of n i)
ranked n (Parallel i j) = Parallel (index_of n i) (index_of n j)
ranked n (End v i) = End v (index_of n i)
ranked n (Series v i j) = Series v (index_of n i) (index_of n j)
ranked n (Split i) = Split (index_of n i)

-- the places of a step are in use, and its node is one
abbrev pub Placed : Network → Step → Type 0
Placed n OneNode = Unit {0}
Placed n Disconnected = Unit {0}
Placed n (Loop i) = Used n i
Placed n (Parallel i j) = Used n i × Used n j
Placed n (End v i) = (v < 32) × Used n i
Placed n (Series v i j) = (v < 32) × Used n i × Used n j
Placed n (Split i) = Used n i

-- s is the step that fits, by places in use
pub record Fitting (n : Network) (s : Step) : Type 0 where
  pub by_rule : ranked n s ≡ next (terminals_of n)
  pub placed : Placed n s
