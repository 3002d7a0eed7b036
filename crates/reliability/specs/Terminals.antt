-- Only the chosen nodes have to be connected (document 02, Seven): networks with chosen nodes, and the rule of work for them.
use Rattle.std.specs.Prelude.{ℕ, min, max, Bool, true, false, ◌&&◌, ◌||◌, not, eqb, leb, length}
use mathlib.Core.List.{List, [], ◌∷◌, map, Memᴰ}
use Rattle.std.proofs.Math.Option
use Rattle.std.proofs.Math.Option.{Option, none}
use Rattle.rounding.specs.Rounding.{S, product, factor}
use Rattle.rounding.specs.declared.Direction.{Direction}
use Rattle.reliability.specs.declared.Link.{Link}
use Rattle.reliability.specs.declared.Figure.{Figure}
use Rattle.reliability.specs.declared.Step.{Step}
use Rattle.reliability.specs.declared.Step.TheVariants.{OneNode, Disconnected, Loop, Parallel, End, Series, Split}
use Rattle.reliability.specs.Networks.{Network, Ascending, Valid, value, linked, link_at, ends, connected}
use Rattle.reliability.specs.Rule.{is_loop, first_at, first_pair, lowest, end_of, when, ◌otherwise◌, chosen as splitPlace, without, deleted, removed, joined, in_parallel, across, in_series, contracted, Remainder, settled, rest, scaled, branches, Tree, tree_of, run, splits}

-- a network with its chosen nodes, in ascending order
pub record Terminals : Type 0 where
  pub network : Network
  pub chosen : List ℕ

-- the nodes cs of a network chosen
abbrev pub among : List ℕ → Network → Terminals
among cs g = record { network = g; chosen = cs }

-- all nodes chosen
abbrev pub everywhere : Network → Terminals
everywhere g = among g.nodes g

-- the chosen nodes are nodes, each named once
pub record Chosen (g : Terminals) : Type 0 where
  pub valid : Valid g.network
  pub ascending : Ascending g.chosen
  pub nodes : (v : ℕ) → Memᴰ v g.chosen → Memᴰ v g.network.nodes

-- ---- the chosen nodes as they change

-- whether v is one of a list
unfoldable pub has : ℕ → List ℕ → Bool
has v [] = false
has v (u ∷ us) = eqb u v || has v us

-- v in its place among ascending numbers, once
unfoldable pub insert : ℕ → List ℕ → List ℕ
insert v [] = v ∷ []
insert v (u ∷ us) = elim (eqb u v) [ true ↦ u ∷ us | false ↦ elim (leb u v) [ true ↦ u ∷ insert v us | false ↦ v ∷ u ∷ us ] ]

-- node v goes into node w, which is chosen if either was
unfoldable pub into : ℕ → ℕ → List ℕ → List ℕ
into w v cs = elim (has v cs) [ true ↦ insert w (without v cs) | false ↦ cs ]

-- ---- which step fits

-- a link in a piece without any chosen node: its first end is not connected with them
abbrev pub astray : Terminals → Link → Bool
astray g e = not (connected (e.a ∷ g.chosen) (map ends g.network.links))

-- node v is not chosen, or both its neighbours, across the links at places i and j, are
abbrev pub between : Terminals → ℕ → ℕ → ℕ → Bool
between g v i j = not (has v g.chosen) || (has (across v (link_at g.network i)) g.chosen && has (across v (link_at g.network j)) g.chosen)

-- a node with two links that can become one
abbrev pub series_in : Terminals → ℕ → List ℕ → Option Step
series_in g v [] = none
series_in g v (i ∷ []) = none
series_in g v (i ∷ (j ∷ [])) = when (between g v i j) (Series v i j)
series_in g v (i ∷ (j ∷ (k ∷ r))) = none

-- the first of steps 1 to 7 that fits, where step 7 splits on the link at place i. The links of pieces without any chosen node go as
-- loops do, one at a time: that takes no split, and it is the same as dropping them all at once (pieces-at-once in proofs/Trimmed.antt).
-- An unchosen node without a link fits no step and is left alone: without it the work is the same (unlinked-tree in proofs/Unlinked.antt).
unfoldable pub next_at : ℕ → Terminals → Step
next_at i g =
    let es = g.network.links in
    let vs = g.network.nodes in
    Option.map Loop (first_at is_loop es)  -- 1: a loop, the first
    otherwise when (leb (length g.chosen) 1) OneNode  -- 2: one chosen node left
    otherwise when (not (connected g.chosen (map ends es))) Disconnected  -- 3: chosen nodes in different pieces
    otherwise Option.map Loop (first_at (astray g) es)  -- 3: a link in a piece without any, the first
    otherwise Option.map (λ ij. Parallel ij.0 ij.1) (first_pair es)  -- 4: parallel
    otherwise lowest end_of es vs  -- 5: end
    otherwise lowest (series_in g) es vs  -- 6: series
    otherwise Split i  -- 7: split

-- the link that the rule splits on
abbrev pub split_at : Terminals → ℕ
split_at g = splitPlace g.network

abbrev pub next : Terminals → Step
next g = next_at (split_at g) g

-- ---- what a step leaves

-- two links at v as one that joins its neighbours: as in document 01 where v is chosen, of value p × q / S where it is not
abbrev pub in_line : Bool → ℕ → Link → Link → Link
in_line true v e f = in_series v e f
in_line false v e f = linked (across v e) (across v f) (λ d. product d (value d e) (value d f))

-- node v and its one link, at place i, go; where v is chosen its neighbour becomes chosen
abbrev pub end_left : ℕ → ℕ → Terminals → Terminals
end_left v i g = among (into (across v (link_at g.network i)) v g.chosen) (removed v (deleted i g.network))

-- node v goes, and its two links, at places i and j, become one
abbrev pub series_left : ℕ → ℕ → ℕ → Terminals → Terminals
series_left v i j g =
    let n = g.network in
    among (without v g.chosen) (removed v (joined i j (in_line (has v g.chosen) v (link_at n i) (link_at n j)) n))

-- the link at place i is sound: a merged node is chosen if either was
abbrev pub sound_left : ℕ → Terminals → Terminals
sound_left i g =
    let e = link_at g.network i in
    among (into (min e.a e.b) (max e.a e.b) g.chosen) (contracted e (deleted i g.network))

-- the link at place i goes: it is a loop, astray or broken
abbrev pub broken_left : ℕ → Terminals → Terminals
broken_left i g = among g.chosen (deleted i g.network)

-- what is left is multiplied where the node that goes is chosen, and goes without a factor where it is not
abbrev pub factored : Bool → (Direction → ℕ) → Terminals → Remainder Terminals
factored true k h = scaled k h
factored false k h = rest h

-- what each step leaves
unfoldable pub leaves : Terminals → Step → Remainder Terminals
leaves g OneNode = settled S
leaves g Disconnected = settled 0
leaves g (Loop i) = rest (broken_left i g)
leaves g (Parallel i j) =
    let n = g.network in
    rest (among g.chosen (joined i j (in_parallel (link_at n i) (link_at n j)) n))
leaves g (End v i) = factored (has v g.chosen) (λ d. value d (link_at g.network i)) (end_left v i g)
leaves g (Series v i j) =
    let e = link_at g.network i in
    let f = link_at g.network j in
    factored (has v g.chosen) (λ d. factor d (value d e) (value d f)) (series_left v i j g)
leaves g (Split i) = branches (link_at g.network i) (sound_left i g) (broken_left i g)

-- what the step that fits leaves, where step 7 splits on the link at place i
abbrev pub step_at : ℕ → Terminals → Remainder Terminals
step_at i g = leaves g (next_at i g)

-- ---- the work, the figure under a limit, and the splits needed with none

abbrev pub tree : Terminals → Tree
tree g = tree_of step_at split_at (length g.network.links) g

abbrev pub figure : Terminals → ℕ → Figure
figure g limit = run (tree g) limit

abbrev pub needed : Terminals → ℕ
needed g = splits (tree g)
