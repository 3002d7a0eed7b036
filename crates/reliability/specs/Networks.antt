-- Networks, what it means that links connect nodes, and the pieces in which links leave them.
use Rattle.std.specs.Prelude.{ℕ, min, max, ◌≤◌, ◌<◌, Bool, true, false, cond, not, ◌&&◌, eqb, length, get_or}
use mathlib.Core.List.{List, [], ◌∷◌, map, Memᴰ}
use Rattle.rounding.specs.Rounding.{S}
use Rattle.rounding.specs.declared.Direction.{Direction}
use Rattle.rounding.specs.declared.Direction.TheVariants.{Down, Up}
use Rattle.reliability.specs.declared.Link.{Link}

-- a network: its nodes in ascending order, its links in list order
pub record Network : Type 0 where
  pub nodes : List ℕ
  pub links : List Link

-- the value that a direction is worked from: low figures from the low values, high figures from the high ones
abbrev pub value : Direction → Link → ℕ
value Down e = e.low
value Up e = e.high

-- the link between a and b with a value for each direction
abbrev pub linked : ℕ → ℕ → (Direction → ℕ) → Link
linked a b v = record { a = a; b = b; low = v Down; high = v Up }

-- the link at place i
abbrev pub link_at : Network → ℕ → Link
link_at g i = get_or g.links i (linked 0 0 (λ d. 0))

-- the two ends of a link
pub record Ends : Type 0 where
  pub a : ℕ
  pub b : ℕ

abbrev pub ends : Link → Ends
ends e = record { a = e.a; b = e.b }

-- ---- valid networks

-- each number is below all that follow it
unfoldable pub Ascending : List ℕ → Type 0
Ascending [] = Unit {0}
Ascending (v ∷ vs) = ((u : ℕ) → Memᴰ u vs → v < u) × Ascending vs

-- a link whose ends are among the nodes and whose values are in order and at most S
pub record Proper (vs : List ℕ) (e : Link) : Type 0 where
  pub a_node : Memᴰ e.a vs
  pub b_node : Memᴰ e.b vs
  pub range : (d : Direction) → value d e ≤ S
  pub order : e.low ≤ e.high

pub record Valid (g : Network) : Type 0 where
  pub ascending : Ascending g.nodes
  pub proper : (e : Link) → Memᴰ e g.links → Proper g.nodes e

-- ---- connection

-- z, or the smaller of x and y where z is the larger
unfoldable pub merge : ℕ → ℕ → ℕ → ℕ
merge x y z = cond (eqb z (max x y)) (min x y) z

-- the lowest node that a node is connected to through the links t: every node is its own label, and a link merges two labels
unfoldable pub label : List Ends → ℕ → ℕ
label [] = λ v. v
label (e ∷ t) = let f = label t in let x = f e.a in let y = f e.b in λ v. merge x y (f v)

unfoldable pub every : {A : Type 0} → (A → Bool) → List A → Bool
every p [] = true
every p (x ∷ xs) = p x && every p xs

-- of a list of numbers those at which a test holds
unfoldable pub filter : (ℕ → Bool) → List ℕ → List ℕ
filter p [] = []
filter p (k ∷ ks) = elim (p k) [ true ↦ k ∷ filter p ks | false ↦ filter p ks ]

-- the links t connect the nodes: all have one label
unfoldable pub connected : List ℕ → List Ends → Bool
connected [] t = true
connected (v ∷ vs) t = let f = label t in every (λ u. eqb (f u) (f v)) vs

-- a path of links of t from one node to another: here, or along a link of t, either way, and on from there;
-- the links t connect the nodes where such a path leads from each to each (connected-means in proofs/Connection.antt)
pub data Path (t : List Ends) : ℕ → ℕ → Type 0 where
  here : {v : ℕ} → Path t v v
  forth : {e : Ends} {v : ℕ} → Memᴰ e t → Path t e.b v → Path t e.a v
  back : {e : Ends} {v : ℕ} → Memᴰ e t → Path t e.a v → Path t e.b v

-- ---- pieces

-- two nodes are in one piece of the links t: they have one label, so a path joins them (together-means in proofs/Pieces.antt)
abbrev pub together : List Ends → ℕ → ℕ → Bool
together t u v = eqb (label t u) (label t v)

-- of each piece the node that stands last: no later node is in its piece
unfoldable pub last_of_each : List ℕ → List Ends → List ℕ
last_of_each [] t = []
last_of_each (v ∷ vs) t = elim (every (λ u. not (together t u v)) vs) [ true ↦ v ∷ last_of_each vs t | false ↦ last_of_each vs t ]

-- how many pieces the links t leave the nodes in; one means that they connect the nodes (one_piece in proofs/Pieces.antt)
abbrev pub pieces : List ℕ → List Ends → ℕ
pieces vs t = length (last_of_each vs t)

-- those of a network: a loop joins nothing, and a link counts whatever its value (loops-join-nothing, values-play-no-part there)
abbrev pub pieces_of : Network → ℕ
pieces_of g = pieces g.nodes (map ends g.links)

-- no path of links of t joins two of the nodes
unfoldable pub Apart : List Ends → List ℕ → Type 0
Apart t [] = Unit {0}
Apart t (r ∷ rs) = ((s : ℕ) → Memᴰ s rs → Path t r s → ⊥) × Apart t rs

-- rs has one node of each piece of the nodes vs, so it has as many as there are pieces (pieces-count in proofs/Pieces.antt)
pub record OneOfEach (vs : List ℕ) (t : List Ends) (rs : List ℕ) : Type 0 where
  pub inside : (r : ℕ) → Memᴰ r rs → Memᴰ r vs
  pub each : (v : ℕ) → Memᴰ v vs → (r : ℕ) × Memᴰ r rs × Path t v r
  pub apart : Apart t rs
