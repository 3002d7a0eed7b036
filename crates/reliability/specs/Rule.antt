-- The rule of work, steps 1 to 7.
use Rattle.std.specs.Prelude.{ℕ, zero, suc, ◌+◌, ◌-◌, ◌*◌, min, max, List, [], ◌∷◌, map, Bool, true, false, cond, ◌&&◌, ◌||◌, not, eqb, leb, length, set}
use Rattle.std.proofs.Math.Option
use Rattle.std.proofs.Math.Option.{Option, some, none}
use Rattle.rounding.specs.Rounding.{S, product, parallel, series, factor, split}
use Rattle.rounding.specs.declared.Direction.{Direction}
use Rattle.rounding.specs.declared.Direction.TheVariants.{Down, Up}
use Rattle.reliability.specs.declared.Link.{Link}
use Rattle.reliability.specs.declared.Figure.{Figure}
use Rattle.reliability.specs.declared.Step.{Step}
use Rattle.reliability.specs.declared.Step.TheVariants.{OneNode, Disconnected, Loop, Parallel, End, Series, Split}
use Rattle.reliability.specs.Networks.{Network, value, linked, link_at, pieces_of}

-- ---- searches

abbrev pub is_loop : Link → Bool
is_loop e = eqb e.a e.b

abbrev pub touches : ℕ → Link → Bool
touches v e = eqb e.a v || eqb e.b v

-- the same two ends, either way round
abbrev pub alike : Link → Link → Bool
alike e f = (eqb e.a f.a && eqb e.b f.b) || (eqb e.a f.b && eqb e.b f.a)

-- the first place at which a test holds
unfoldable pub first_at : (Link → Bool) → List Link → Option ℕ
first_at p [] = none
first_at p (e ∷ es) = elim (p e) [ true ↦ some zero | false ↦ Option.map suc (first_at p es) ]

-- all places at which a test holds, in order
unfoldable pub places : (Link → Bool) → List Link → List ℕ
places p [] = []
places p (e ∷ es) = elim (p e) [ true ↦ zero ∷ map suc (places p es) | false ↦ map suc (places p es) ]

abbrev pub sucs : ℕ × ℕ → ℕ × ℕ
sucs ij = (suc ij.0, suc ij.1)

-- the first link in list order with a partner on the same two ends, and its earliest partner
unfoldable pub first_pair : List Link → Option (ℕ × ℕ)
first_pair [] = none
first_pair (e ∷ es) = elim (first_at (alike e) es) [ some j ↦ some (zero, suc j) | none ↦ Option.map sucs (first_pair es) ]

-- a node with one link, given the places of its links
abbrev pub end_of : ℕ → List ℕ → Option Step
end_of v [] = none
end_of v (i ∷ []) = some (End v i)
end_of v (i ∷ (j ∷ r)) = none

-- a node with two links
abbrev pub series_of : ℕ → List ℕ → Option Step
series_of v [] = none
series_of v (i ∷ []) = none
series_of v (i ∷ (j ∷ [])) = some (Series v i j)
series_of v (i ∷ (j ∷ (k ∷ r))) = none

-- the lowest node that a rule fits
unfoldable pub lowest : (ℕ → List ℕ → Option Step) → List Link → List ℕ → Option Step
lowest rule es [] = none
lowest rule es (v ∷ vs) = elim (rule v (places (touches v) es)) [ some s ↦ some s | none ↦ lowest rule es vs ]

-- ---- which step fits

abbrev pub when : Bool → Step → Option Step
when true s = some s
when false s = none

infixr 20 ◌otherwise◌
abbrev pub ◌otherwise◌ : Option Step → Step → Step
◌otherwise◌ (some s) t = s
◌otherwise◌ none t = t

-- the first of steps 1 to 7 that fits, where step 7 splits on the link at place i
unfoldable pub next_at : ℕ → Network → Step
next_at i g =
    Option.map Loop (first_at is_loop g.links)  -- 1: a loop, the first
    otherwise when (leb (length g.nodes) 1) OneNode  -- 2: one node left
    otherwise when (not (eqb (pieces_of g) 1)) Disconnected  -- 3: not connected, in more pieces than one
    otherwise Option.map (λ ij. Parallel ij.0 ij.1) (first_pair g.links)  -- 4: parallel
    otherwise lowest end_of g.links g.nodes  -- 5: end
    otherwise lowest series_of g.links g.nodes  -- 6: series
    otherwise Split i  -- 7: split

-- ---- which link step 7 splits on

-- the number of links at a node
unfoldable pub degree : List Link → ℕ → ℕ
degree es v = length (places (touches v) es)

-- the link counts of a link's two ends, together
abbrev pub degree_sum : List Link → Link → ℕ
degree_sum es e = degree es e.a + degree es e.b

-- the largest sum in a list
unfoldable pub largest : {A : Type 0} → (A → ℕ) → List A → ℕ
largest sum [] = 0
largest sum (x ∷ xs) = max (sum x) (largest sum xs)

-- the link whose two ends' link counts have the largest sum; the earliest such link wins
unfoldable pub largest_sum : Network → ℕ
largest_sum g =
    let sum = degree_sum g.links in
    elim (first_at (λ e. eqb (sum e) (largest sum g.links)) g.links) [ some i ↦ i | none ↦ 0 ]

-- document 01's choice, by which older work was set aside: the first link
abbrev pub first_link : Network → ℕ
first_link g = 0

-- the rule's choice
abbrev pub chosen : Network → ℕ
chosen g = largest_sum g

abbrev pub next : Network → Step
next g = next_at (chosen g) g

-- ---- what a step leaves

unfoldable pub delete_at : {A : Type 0} → ℕ → List A → List A
delete_at i [] = []
delete_at zero (x ∷ xs) = xs
delete_at (suc i) (x ∷ xs) = x ∷ delete_at i xs

unfoldable pub without : ℕ → List ℕ → List ℕ
without v [] = []
without v (u ∷ vs) = elim (eqb u v) [ true ↦ without v vs | false ↦ u ∷ without v vs ]

-- link i goes
abbrev pub deleted : ℕ → Network → Network
deleted i g = record { nodes = g.nodes; links = delete_at i g.links }

-- node v goes
abbrev pub removed : ℕ → Network → Network
removed v g = record { nodes = without v g.nodes; links = g.links }

-- link e takes the place of link i, and link j goes
abbrev pub joined : ℕ → ℕ → Link → Network → Network
joined i j e g = record { nodes = g.nodes; links = delete_at j (set g.links i e) }

-- two links side by side as one
abbrev pub in_parallel : Link → Link → Link
in_parallel e f = linked e.a e.b (λ d. parallel d (value d e) (value d f))

-- the neighbour of v across a link
abbrev pub across : ℕ → Link → ℕ
across v e = cond (eqb e.a v) e.b e.a

-- two links at v as one that joins its neighbours
abbrev pub in_series : ℕ → Link → Link → Link
in_series v e f = linked (across v e) (across v f) (λ d. series d (value d e) (value d f))

abbrev pub rename : ℕ → ℕ → ℕ → ℕ
rename keep gone v = cond (eqb v gone) keep v

abbrev pub renamed : ℕ → ℕ → Link → Link
renamed keep gone e = linked (rename keep gone e.a) (rename keep gone e.b) (λ d. value d e)

-- contraction: the larger end of the link is renamed to the smaller
abbrev pub contracted : Link → Network → Network
contracted e g =
    let keep = min e.a e.b in
    let gone = max e.a e.b in
    record { nodes = without gone g.nodes; links = map (renamed keep gone) g.links }

-- what is left to work: nothing, one network, one whose figure is multiplied by a factor, or two
pub data Remainder (N : Type 0) : Type 0 where
  settled : ℕ → Remainder N
  rest : N → Remainder N
  scaled : (Direction → ℕ) → N → Remainder N
  branches : Link → N → N → Remainder N

-- what each step leaves
unfoldable pub leaves : Network → Step → Remainder Network
leaves g OneNode = settled S
leaves g Disconnected = settled 0
leaves g (Loop i) = rest (deleted i g)
leaves g (Parallel i j) = rest (joined i j (in_parallel (link_at g i) (link_at g j)) g)
leaves g (End v i) = scaled (λ d. value d (link_at g i)) (removed v (deleted i g))
leaves g (Series v i j) =
    let e = link_at g i in
    let f = link_at g j in
    scaled (λ d. factor d (value d e) (value d f)) (removed v (joined i j (in_series v e f) g))
leaves g (Split i) = branches (link_at g i) (contracted (link_at g i) (deleted i g)) (deleted i g)

-- what the step that fits leaves, where step 7 splits on the link at place i
abbrev pub step_at : ℕ → Network → Remainder Network
step_at i g = leaves g (next_at i g)

-- ---- the work of a network

-- the work of a network as a tree: its figures; a factor and the work that it multiplies; a split that is still to take, at the chosen
-- place, and the work once it is taken at each place; or a split that is taken, its place, its link, and the work of its sound and its broken branch
pub data Tree : Type 0 where
  ready : (Direction → ℕ) → Tree
  multiplied : (Direction → ℕ) → Tree → Tree
  fork : ℕ → (ℕ → Tree) → Tree
  taken : ℕ → Link → Tree → Tree → Tree

-- the work of what is left, each part of it grown by `grow`, where a split is taken on the link at place i
unfoldable pub grown : {N : Type 0} → (N → Tree) → ℕ → Remainder N → Tree
grown grow i (settled k) = ready (λ d. k)
grown grow i (rest g) = grow g
grown grow i (scaled k g) = multiplied k (grow g)
grown grow i (branches e sound broken) = taken i e (grow sound) (grow broken)

abbrev pub is_split : {N : Type 0} → Remainder N → Bool
is_split (settled k) = false
is_split (rest g) = false
is_split (scaled k g) = false
is_split (branches e sound broken) = true

-- the tree of a network of m links, by what each step leaves and by the choice of the link to split on: each step leaves one link
-- less, and a network without links is settled. A network of m + 1 links has places from 0 to m, and a place past them means the last
unfoldable pub tree_of : {N : Type 0} → (ℕ → N → Remainder N) → (N → ℕ) → ℕ → N → Tree
tree_of step choose zero g = grown (λ h. ready (λ d. 0)) (choose g) (step (choose g) g)
tree_of step choose (suc m) g =
    let work : ℕ → Tree = λ i. grown (tree_of step choose m) i (step i g) in
    cond (is_split (step (choose g) g)) (fork (choose g) (λ i. work (min i m))) (work (choose g))

-- the work of a network by a choice of the link to split on
abbrev pub tree_by : (Network → ℕ) → Network → Tree
tree_by choose g = tree_of step_at choose (length g.links) g

abbrev pub tree : Network → Tree
tree g = tree_by chosen g

-- ---- the figure under a limit

-- a low and a high figure, one for each direction
abbrev pub bounded : (Direction → ℕ) → ℕ → Bool → Figure
bounded b steps finished = record { low = b Down; high = b Up; steps = steps; finished = finished }

abbrev pub side : Direction → Figure → ℕ
side Down f = f.low
side Up f = f.high

-- the figure of the rest, multiplied by a factor over S
abbrev pub times : (Direction → ℕ) → Figure → Figure
times k f = bounded (λ d. product d (k d) (side d f)) f.steps f.finished

-- the figure of a split on link e, from the figures of the sound and the broken branch
abbrev pub mixed : Link → Figure → Figure → Figure
mixed e s t = bounded (λ d. split d (value d e) (side d s) (side d t)) (s.steps + t.steps) (s.finished && t.finished)

-- n steps more
abbrev pub more : ℕ → Figure → Figure
more n f = record { low = f.low; high = f.high; steps = n + f.steps; finished = f.finished }

-- one step more
abbrev pub stepped : Figure → Figure
stepped f = record { low = f.low; high = f.high; steps = suc f.steps; finished = f.finished }

-- no step is left for a split
abbrev pub unfinished : Figure
unfinished = record { low = 0; high = S; steps = 0; finished = false }

-- sound first, the broken branch with what sound leaves
abbrev pub in_turn : Link → (ℕ → Figure) → (ℕ → Figure) → ℕ → Figure
in_turn e sound broken limit = let s = sound limit in mixed e s (broken (limit - s.steps))

-- a split takes one step, and none once it is taken
unfoldable pub run : Tree → ℕ → Figure
run (ready k) limit = bounded k 0 true
run (multiplied k t) limit = times k (run t limit)
run (fork i work) zero = unfinished
run (fork i work) (suc limit) = stepped (run (work i) limit)
run (taken i e sound broken) limit = in_turn e (run sound) (run broken) limit

abbrev pub figure : Network → ℕ → Figure
figure g limit = run (tree g) limit

-- ---- the splits needed with no limit

unfoldable pub splits : Tree → ℕ
splits (ready k) = 0
splits (multiplied k t) = splits t
splits (fork i work) = suc (splits (work i))
splits (taken i e sound broken) = splits sound + splits broken

abbrev pub needed : Network → ℕ
needed g = splits (tree g)

-- the units by which each figure of a finished pair may be off, for m links and n nodes, beside what its links' values are off themselves: where they are exact, a finished pair is at most 2m + 4n wide
abbrev pub budget : ℕ → ℕ → ℕ
budget m n = m + 2 * n
