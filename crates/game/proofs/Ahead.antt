-- Small games and what shows who wins them, computed from the definitions.
use Prim.Native.Nat.{ℕ, zero, suc, ◌≤◌, ◌<◌}
use mathlib.Core.Path.{◌≡◌, refl, sym}
use mathlib.Core.List.{List, [], ◌∷◌, map, Memᴰ}
use mathlib.Core.Bool.{Bool, true, false, true≢false}
use native.Mathlib.Omega.{arith}
use lib.Dec.{eqb, leb}
use lib.ListN.{length, get_or, replicate}
use Rattle.reliability.specs.Networks.{Ends, every, connected, label, merge}
use Rattle.reliability.specs.Rule.{delete_at}
use Rattle.game.specs.Game.{cutter, keeper, every_below, some_below, wins, among, marked, SpanningTree, TwoTrees, between, Grouping, Groups, Certificate}

-- ---- the parts of the definitions

every-row : every_below 3 (λ i. leb i 2) ∷ every_below 3 (λ i. leb 1 i) ∷ every_below 3 (λ i. leb i 1) ∷ every_below 0 (λ i. false) ∷ [] ≡ true ∷ false ∷ false ∷ true ∷ []
unfolding every_below
every-row = refl

some-row : some_below 3 (λ i. eqb i 0) ∷ some_below 3 (λ i. eqb i 2) ∷ some_below 3 (λ i. eqb i 3) ∷ some_below 0 (λ i. true) ∷ [] ≡ true ∷ true ∷ false ∷ false ∷ []
unfolding some_below
some-row = refl

infix 90 ◌–◌
abbrev pub ◌–◌ : ℕ → ℕ → Ends
◌–◌ x y = record { a = x; b = y }

-- the links with the mark 1, and the places past the marks
among-row : among (marked 1 (1 ∷ 2 ∷ 1 ∷ [])) (0 – 1 ∷ 1 – 2 ∷ 2 – 3 ∷ 3 – 4 ∷ []) ≡ 0 – 1 ∷ 2 – 3 ∷ []
unfolding among
among-row = refl

-- two links side by side between two groups, a link within one, a loop
between-row : between (λ v. get_or (0 ∷ 0 ∷ 1 ∷ []) v 0) (1 – 2 ∷ 2 – 1 ∷ 0 – 1 ∷ 2 – 2 ∷ []) ≡ 2
unfolding between
between-row = refl

-- ---- the winners

-- whether the keeper wins if the cutter opens and if he does: played out
abbrev played : List ℕ → List Ends → Bool × Bool
played vs es = (wins vs (length es) cutter es [], wins vs (length es) keeper es [])

pub record Row : Type 0 where
  pub nodes : List ℕ
  pub links : List Ends

abbrev pub rows : List Row
rows =
    record { nodes = 0 ∷ []; links = [] }
    ∷ record { nodes = 0 ∷ []; links = 0 – 0 ∷ [] }
    ∷ record { nodes = 0 ∷ 1 ∷ []; links = [] }
    ∷ record { nodes = 0 ∷ 1 ∷ []; links = 0 – 1 ∷ [] }
    ∷ record { nodes = 0 ∷ 1 ∷ []; links = 0 – 1 ∷ 1 – 0 ∷ [] }
    ∷ record { nodes = 0 ∷ 1 ∷ []; links = 0 – 1 ∷ 1 – 1 ∷ [] }
    ∷ record { nodes = 0 ∷ 1 ∷ 2 ∷ []; links = 0 – 1 ∷ 1 – 2 ∷ [] }
    ∷ record { nodes = 0 ∷ 1 ∷ 2 ∷ []; links = 0 – 1 ∷ 1 – 2 ∷ 2 – 0 ∷ [] }
    ∷ record { nodes = 0 ∷ 1 ∷ 2 ∷ []; links = 0 – 1 ∷ 1 – 2 ∷ 2 – 0 ∷ 0 – 1 ∷ [] }
    ∷ record { nodes = 0 ∷ 1 ∷ 2 ∷ []; links = 0 – 1 ∷ 0 – 1 ∷ 0 – 1 ∷ 1 – 2 ∷ [] }
    ∷ record { nodes = 0 ∷ 1 ∷ 2 ∷ 3 ∷ []; links = 0 – 1 ∷ 1 – 2 ∷ 2 – 3 ∷ 3 – 0 ∷ 0 – 2 ∷ [] }
    ∷ []

abbrev pub outcomes : List (Bool × Bool)
outcomes =
    (true, true) ∷ (true, true) ∷ (false, false) ∷ (false, true) ∷ (true, true) ∷ (false, true) ∷ (false, false) ∷ (false, true) ∷ (true, true) ∷ (false, true) ∷ (false, true) ∷ []

played-rows : map (λ (w : Row). played w.nodes w.links) rows ≡ outcomes
unfolding wins every_below some_below connected label merge every delete_at
played-rows = refl

-- ---- trees and groups

abbrev two : List ℕ
two = 0 ∷ 1 ∷ []

pub zeros : (n i : ℕ) → ◌≡◌ {A = ℕ} (get_or (replicate n 0) i 0) 0
zeros zero i = refl
zeros (suc n) zero = refl
zeros (suc n) (suc i) = zeros n i

tree : SpanningTree (0 ∷ 1 ∷ 2 ∷ []) (0 – 1 ∷ 1 – 2 ∷ [])
unfolding connected label merge every
tree = record { spans = refl; size = refl }

-- three links in a ring, and two of which one is a loop, are no tree
ring-no-tree : SpanningTree (0 ∷ 1 ∷ 2 ∷ []) (0 – 1 ∷ 1 – 2 ∷ 2 – 0 ∷ []) → ⊥
ring-no-tree t = let z : ◌≡◌ {A = ℕ} 4 3 = t.size in omega arith

loop-no-tree : SpanningTree (0 ∷ 1 ∷ 2 ∷ []) (0 – 1 ∷ 2 – 2 ∷ []) → ⊥
unfolding connected label merge every
loop-no-tree t = true≢false (sym t.spans)

-- two links side by side are two trees; one link is not
abbrev pair : List Ends
pair = 0 – 1 ∷ 0 – 1 ∷ []

abbrev marks : List ℕ
marks = 1 ∷ 2 ∷ replicate 62 0

pair-trees : TwoTrees two pair marks
unfolding connected label merge every among
pair-trees = record { first = record { spans = refl; size = refl }; second = record { spans = refl; size = refl }; small = small; none = none }
  where
    small : (i : ℕ) → get_or marks i 0 ≤ 2
    small zero = omega arith
    small (suc zero) = omega arith
    small (suc (suc i)) = omega (arith, zeros 62 i)

    none : (i : ℕ) → 2 ≤ i → get_or marks i 0 ≡ 0
    none zero h = absurd (omega arith)
    none (suc zero) h = absurd (omega arith)
    none (suc (suc i)) h = zeros 62 i

link-no-trees : TwoTrees two (0 – 1 ∷ []) (1 ∷ []) → ⊥
unfolding among
link-no-trees t = let z : ◌≡◌ {A = ℕ} 1 2 = t.second.size in omega arith

-- two links side by side are too many between two groups; a group has a node; no number lies past the last group
pair-no-groups : Grouping two pair 2 (λ v. v) → ⊥
unfolding between
pair-no-groups r = let z : 2 < 2 = r.few in omega arith

empty-no-group : Grouping two [] 2 (λ v. 0) → ⊥
empty-no-group r = let (v, m, e) = r.occupied 1 (omega arith) in omega arith

third-no-group : Grouping two [] 1 (λ v. v) → ⊥
third-no-group r = let z : 1 < 1 = r.within 1 (Memᴰ.tail (Memᴰ.head refl)) in omega arith

-- two nodes and one link: two groups
abbrev numbers : List ℕ
numbers = 0 ∷ 1 ∷ replicate 30 0

link-groups : Groups two (0 – 1 ∷ []) numbers
unfolding between
link-groups = record { g = 2; grouping = record { within = within; occupied = occupied; few = omega arith }; none = none }
  where
    within : (v : ℕ) → Memᴰ v two → get_or numbers v 0 < 2
    within v (Memᴰ.head e) = rw e (omega arith)
    within v (Memᴰ.tail (Memᴰ.head e)) = rw e (omega arith)
    within v (mathlib.Core.List.Memᴰ.tail (mathlib.Core.List.Memᴰ.tail x8)) = elim x8 [ ]

    occupied : (k : ℕ) → k < 2 → (v : ℕ) × Memᴰ v two × (get_or numbers v 0 ≡ k)
    occupied zero l = (0, Memᴰ.head refl, refl)
    occupied (suc zero) l = (1, Memᴰ.tail (Memᴰ.head refl), refl)
    occupied (suc (suc k)) l = absurd (omega arith)

    none : (v : ℕ) → 2 ≤ v → get_or numbers v 0 ≡ 0
    none zero l = absurd (omega arith)
    none (suc zero) l = absurd (omega arith)
    none (suc (suc v)) l = zeros 30 v

-- what is shown: two trees where the keeper wins if the cutter opens, groups where he wins only if he opens
pair-shown : Certificate two pair marks (replicate 32 0)
unfolding wins every_below some_below connected label merge every delete_at
pair-shown = record { sizes = (refl, refl); trees = λ e. (pair-trees, refl); groups = λ e. absurd (true≢false e) }

link-shown : Certificate two (0 – 1 ∷ []) (replicate 64 0) numbers
unfolding wins every_below some_below connected label merge every delete_at
link-shown = record { sizes = (refl, refl); trees = λ e. absurd (true≢false (sym e)); groups = λ e. (link-groups, refl) }

-- and no less
pair-needs-trees : (ts hs : List ℕ) → Certificate two pair ts hs → TwoTrees two pair ts × (hs ≡ replicate 32 0)
unfolding wins every_below some_below connected label merge every delete_at
pair-needs-trees ts hs c = c.trees refl

link-needs-groups : (ts hs : List ℕ) → Certificate two (0 – 1 ∷ []) ts hs → Groups two (0 – 1 ∷ []) hs × (ts ≡ replicate 64 0)
unfolding wins every_below some_below connected label merge every delete_at
link-needs-groups ts hs c = c.groups refl
