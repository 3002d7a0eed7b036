-- Networks whose links stand for several side by side: a link's low value says for how many.
use Rattle.std.specs.Prelude.{ℕ, ◌+◌, [], map}
use Rattle.polynomials.specs.Rows.{some}
use Rattle.reliability.specs.declared.Link.{Link}
use Rattle.reliability.specs.Networks.{Network, linked, ends}
use Rattle.reliability.specs.Exact.{Weighted, sum, total}

-- a link that stands for itself alone
abbrev pub single : Link → Link
single e = linked e.a e.b (λ d. 1)

-- the network with each link for itself alone
abbrev pub singles : Network → Network
singles g = record { nodes = g.nodes; links = map single g.links }

-- two links side by side as one, for all that either stood for
abbrev pub in_bundle : Link → Link → Link
in_bundle e f = linked e.a e.b (λ d. e.low + f.low)

-- a link by the sets of what it stands for: some of it, or nothing
abbrev pub bundle : ℕ → Link → Weighted
bundle x e = record { joins = ends e; sound = some x e.low; broken = 1 }

-- the sets that connect all nodes, by their sizes: the sum over each set of x to the power of its size
unfoldable pub worth : ℕ → Network → ℕ
worth x g = sum g.nodes (map (bundle x) g.links) []

-- all sets
unfoldable pub most : ℕ → Network → ℕ
most x g = total (map (bundle x) g.links)
