-- How the certificate is found: two forests, grown one link at a time.
use Rattle.std.specs.Prelude.{ℕ, zero, suc, ◌*◌, ◌+◌, ◌≡◌, List, [], ◌∷◌, Bool, true, false, ◌&&◌, ◌||◌, not, eqb, leb, length, get_or, set, replicate}
use Rattle.std.proofs.Math.Option.{Option, some, none}
use Rattle.reliability.specs.Networks.{Ends, label}
use Rattle.game.specs.Game.{cutter, keeper, at, among, marked, some_below, keeper_wins, TwoTrees, Grouping}

-- the links t join the ends of e
abbrev pub joins : List Ends → Ends → Bool
joins t e = let f = label t in eqb (f e.a) (f e.b)

-- a set of places without one
abbrev pub without : (ℕ → Bool) → ℕ → ℕ → Bool
without p f i = p i && not (eqb i f)

-- a set of the places below n as a list
unfoldable pub table : ℕ → (ℕ → Bool) → List Bool
table zero p = []
table (suc n) p = p 0 ∷ table n (λ i. p (suc i))

abbrev pub has : List Bool → ℕ → Bool
has ds i = get_or ds i false

-- the lowest place below n at which a test holds
abbrev pub or_else : Option ℕ → Bool → ℕ → Option ℕ
or_else (some i) b n = some i
or_else none true n = some n
or_else none false n = none

unfoldable pub first : ℕ → (ℕ → Bool) → Option ℕ
first zero p = none
first (suc n) p = or_else (first n p) (p n) n

-- the links that forest k does not join: those that it can take
abbrev pub takes : List Ends → List ℕ → ℕ → List Bool
takes es ts k = let t = among (marked k ts) es in table (length es) (λ d. not (joins t (at es d)))

-- the links whose ends are not joined in the forest of link f without f: those on whose path it lies
abbrev pub cut : List Ends → List ℕ → ℕ → List Bool
cut es ts f = let t = among (without (marked (get_or ts f 0) ts) f) es in table (length es) (λ d. not (joins t (at es d)))

-- two sets of places below n meet
abbrev pub meet : ℕ → List Bool → List Bool → Bool
meet n ds cs = some_below n (λ d. has ds d && has cs d)

-- the levels: first the links in no forest, then what lies on a path of a link before it
abbrev pub start : List Ends → List ℕ → List Bool
start es ts = table (length es) (marked 0 ts)

abbrev pub next : List Ends → List ℕ → List Bool → List Bool
next es ts ds = table (length es) (λ f. has ds f || meet (length es) ds (cut es ts f))

-- a link, the forest that takes it and its level; or a set with no such link that no level enlarges
pub data Search : Type 0 where
  place : ℕ → ℕ → ℕ → Search
  closed : List Bool → Search

-- by a link of the level that forest 1 takes, one that forest 2 takes, and one that is new at the next level
abbrev pub chosen : Option ℕ → Option ℕ → Option ℕ → ℕ → List Bool → Search → Search
chosen (some d) two new l ds later = place d 1 l
chosen none (some d) new l ds later = place d 2 l
chosen none none (some f) l ds later = later
chosen none none none l ds later = closed ds

-- level by level, from the level l with the links ds on
unfoldable pub climb : List Ends → List ℕ → ℕ → ℕ → List Bool → Search
climb es ts zero l ds = closed ds
climb es ts (suc fuel) l ds =
    let m = length es in
    let up = next es ts ds in
    let later = climb es ts fuel (suc l) up in
    chosen (first m (λ d. has ds d && has (takes es ts 1) d)) (first m (λ d. has ds d && has (takes es ts 2) d)) (first m (λ f. has up f && not (has ds f))) l ds later

-- the lowest level that has a link to place
abbrev pub search : List Ends → List ℕ → Search
search es ts = climb es ts (suc (length es)) 0 (start es ts)

-- what is found at last: the marks, and the closed set
pub record Found : Type 0 where
  pub marks : List ℕ
  pub inside : List Bool

-- place one link after another, until none is left to place
unfoldable pub grow : List Ends → ℕ → List ℕ → Found
grow es zero ts = record { marks = ts; inside = table (length es) (λ i. false) }
grow es (suc fuel) ts = elim (search es ts) [ place d k l ↦ grow es fuel (set ts d k) | closed ds ↦ record { marks = ts; inside = ds } ]

-- from 64 marks, the most links that there are
abbrev pub found : List Ends → Found
found es = let m = length es in grow es (suc m * suc m) (replicate 64 0)

-- how many of the places below n a set has
unfoldable pub count : ℕ → (ℕ → Bool) → ℕ
count zero p = 0
count (suc n) p = elim (p n) [ true ↦ suc (count n p) | false ↦ count n p ]

-- the links in the two forests
abbrev pub placed : List Ends → Found → ℕ
placed es r = count (length es) (marked 1 r.marks) + count (length es) (marked 2 r.marks)

-- a node is its own label, in what the closed set connects
abbrev pub leads : List Ends → Found → ℕ → Bool
leads es r = let f = label (among (has r.inside) es) in λ u. eqb (f u) u

-- the group of a node: how many nodes below its label are their own labels
abbrev pub group : List Ends → Found → ℕ → ℕ
group es r = let f = label (among (has r.inside) es) in λ v. count (f v) (leads es r)

-- what is found in n nodes and their links decides the game, and shows why
pub record Decides (n : ℕ) (vs : List ℕ) (es : List Ends) (r : Found) : Type 0 where
  pub second : keeper_wins cutter vs es ≡ leb (2 * n) (placed es r + 2)
  pub first : keeper_wins keeper vs es ≡ leb (2 * n) (placed es r + 3)
  pub trees : keeper_wins cutter vs es ≡ true → TwoTrees vs es r.marks
  pub groups : keeper_wins cutter vs es ≡ false → Grouping vs es (count n (leads es r)) (group es r)
