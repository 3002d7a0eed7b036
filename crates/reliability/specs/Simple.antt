-- Networks without loops, pairs and links astray, and steps 1, 3 and 4 as often as they fit.
use Rattle.std.specs.Prelude.{ℕ, zero, suc, ◌≡◌, List, [], ◌∷◌, ◌++◌, map, Bool, true, false, length}
use Rattle.std.proofs.Math.Option.{some, none}
use Rattle.reliability.specs.declared.Link.{Link}
use Rattle.reliability.specs.Networks.{Network, link_at, ends, connected}
use Rattle.reliability.specs.Rule.{is_loop, first_at, first_pair, joined, in_parallel}
use Rattle.reliability.specs.Terminals.{Terminals, Chosen, among, astray}

-- no link joins a node to itself
abbrev pub Loopless : Network → Type 0
Loopless g = first_at is_loop g.links ≡ none

-- no two links have the same two ends
abbrev pub Pairless : Network → Type 0
Pairless g = first_pair g.links ≡ none

-- the chosen nodes and the first ends of all links
abbrev pub anchors : Terminals → List ℕ
anchors g = g.chosen ++ map (λ (e : Link). e.a) g.network.links

-- the links connect them: the chosen nodes are in one piece, and no link is in another
abbrev pub Connected : Terminals → Type 0
Connected g = connected (anchors g) (map ends g.network.links) ≡ true

-- a valid connected network without loops
pub record Plain (g : Terminals) : Type 0 where
  pub valid : Chosen g
  pub loopless : Loopless g.network
  pub connected : Connected g

-- and without pairs
pub record Simple (g : Terminals) : Type 0 where
  pub plain : Plain g
  pub pairless : Pairless g.network

-- links i and j as one
abbrev pub side_by_side : ℕ → ℕ → Network → Network
side_by_side i j g = joined i j (in_parallel (link_at g i) (link_at g j)) g

-- step 4, k times at most: the first link with a partner and its earliest partner become one
unfoldable pub joined_pairs : ℕ → Network → Network
joined_pairs zero g = g
joined_pairs (suc k) g = elim (first_pair g.links) [ some ij ↦ joined_pairs k (side_by_side ij.0 ij.1 g) | none ↦ g ]

-- as often as it fits: each time there is a link less
abbrev pub unpaired : Network → Network
unpaired g = joined_pairs (length g.links) g

-- the links at which a test does not hold
unfoldable pub dropping : (Link → Bool) → List Link → List Link
dropping p [] = []
dropping p (e ∷ es) = elim (p e) [ true ↦ dropping p es | false ↦ e ∷ dropping p es ]

-- step 1 as often as it fits
abbrev pub without_loops : Network → Network
without_loops g = record { nodes = g.nodes; links = dropping is_loop g.links }

-- step 3 as often as it fits: the pieces without any chosen node are dropped
abbrev pub trimmed : Terminals → Terminals
trimmed g = among g.chosen (record { nodes = g.network.nodes; links = dropping (astray g) g.network.links })
