-- The plans that the paper marks P, and some more, as rows of one table: one proof computes them all from the definitions.
use Prim.Native.Nat.{ℕ, ◌*◌, ◌^◌}
use mathlib.Core.Path.{◌≡◌, refl}
use mathlib.Core.List.{List, [], ◌∷◌, map}
use mathlib.Core.Bool.{Bool, true, false, ◌&&◌}
use lib.Dec.{eqb}
use lib.ListN.{length}
use Rattle.rounding.specs.Rounding.{S, quotient, product, parallel, either, series, factor, split}
use Rattle.rounding.specs.declared.Direction.TheVariants.{Down}
use Rattle.reliability.specs.declared.Link.{Link}
use Rattle.reliability.specs.declared.Figure.{Figure}
use Rattle.reliability.specs.Networks.{Network, merge, label, every, connected, last_of_each}
use Rattle.reliability.specs.Exact.{weighted, sum}
use Rattle.reliability.proofs.Pieces.{link}
use Rattle.reliability.specs.Rule.{first_at, places, first_pair, lowest, next_at, degree, largest, largest_sum, delete_at, without, leaves, grown, tree_of, tree_by, run, first_link, chosen}

-- a row: nodes, links, limit; low, high, steps, finished; the exact figure in units
pub record Row : Type 0 where
  pub nodes : List ℕ
  pub links : List Link
  pub limit : ℕ
  pub low : ℕ
  pub high : ℕ
  pub steps : ℕ
  pub finished : Bool
  pub exactly : ℕ

unfoldable pub same : Bool → Bool → Bool
same true b = b
same false true = false
same false false = true

-- by a choice of the link to split on
pub right : (Network → ℕ) → Row → Bool
right choose r =
    let g : Network = record { nodes = r.nodes; links = r.links } in
    let f : Figure = run (tree_by choose g) r.limit in
    eqb f.low r.low && eqb f.high r.high && eqb f.steps r.steps && same f.finished r.finished
    && eqb (S * sum g.nodes (map (weighted Down) g.links) []) (r.exactly * S ^ length r.links)

pub triangle : ℕ → List Link
triangle p = link 0 1 p ∷ link 1 2 p ∷ link 0 2 p ∷ []

unfoldable pub half : ℕ
half = 500000000

-- four nodes, all joined: links 01, 02, 03, 12, 13, 23
unfoldable pub four : ℕ → ℕ → ℕ → ℕ → ℕ → ℕ → List Link
four p q r s t u = link 0 1 p ∷ link 0 2 q ∷ link 0 3 r ∷ link 1 2 s ∷ link 1 3 t ∷ link 2 3 u ∷ []

-- five nodes, all joined
pub five : ℕ → List Link
five p = link 0 1 p ∷ link 0 2 p ∷ link 0 3 p ∷ link 0 4 p ∷ link 1 2 p ∷ link 1 3 p ∷ link 1 4 p ∷ link 2 3 p ∷ link 2 4 p ∷ link 3 4 p ∷ []

pub row : List ℕ → List Link → ℕ → ℕ → ℕ → ℕ → Bool → ℕ → Row
row n l limit low high steps finished exactly =
    record { nodes = n; links = l; limit = limit; low = low; high = high; steps = steps; finished = finished; exactly = exactly }

pub rows : List Row
rows =
    row (0 ∷ []) [] 20000 S S 0 true S  -- P1
    ∷ row (0 ∷ 1 ∷ []) [] 20000 0 0 0 true 0  -- P2
    ∷ row (0 ∷ []) (link 0 0 0 ∷ []) 20000 S S 0 true S  -- P3
    ∷ row (0 ∷ 1 ∷ []) (link 0 1 900000000 ∷ link 0 1 800000000 ∷ []) 20000 980000000 980000000 0 true 980000000  -- P4
    ∷ row (0 ∷ 1 ∷ 2 ∷ []) (link 0 1 half ∷ link 1 2 half ∷ []) 20000 250000000 250000000 0 true 250000000  -- P5
    ∷ row (0 ∷ 1 ∷ 2 ∷ []) (triangle half) 20000 499999999 500000001 0 true 500000000  -- P6
    ∷ row (0 ∷ 1 ∷ 2 ∷ []) (triangle 0) 20000 0 0 0 true 0  -- P7
    ∷ row (0 ∷ 1 ∷ 2 ∷ []) (triangle S) 20000 S S 0 true S  -- P8
    ∷ row (0 ∷ 1 ∷ 2 ∷ 3 ∷ 4 ∷ []) (link 0 3 950000000 ∷ link 0 1 910000000 ∷ link 1 2 980000000 ∷ link 0 2 880000000 ∷ link 1 4 910000000 ∷ []) 20000 851905963 851905965 0 true 851905964  -- P9
    ∷ row (0 ∷ 1 ∷ 2 ∷ 3 ∷ []) (four half half half half half half) 1 593749999 593750001 1 true 593750000  -- P10, 38 of 64 states
    ∷ row (0 ∷ 1 ∷ 2 ∷ 3 ∷ []) (four half half half half half half) 0 0 S 0 false 593750000  -- P11
    ∷ row (0 ∷ 1 ∷ 2 ∷ 3 ∷ []) (four half half 0 half 0 0) 20000 0 0 1 true 0  -- zero-valued links count in step 3: one split
    ∷ row (0 ∷ 1 ∷ 2 ∷ 3 ∷ []) (four 900000000 800000000 700000000 600000000 500000000 400000000) 1 841759999 841760001 1 true 841760000
    ∷ []

-- five nodes, all joined: the limit is the splits needed, and one less
pub by-largest-sum : List Row
by-largest-sum =
    row (0 ∷ 1 ∷ 2 ∷ 3 ∷ 4 ∷ []) (five half) 5 710937498 710937502 5 true 710937500
    ∷ row (0 ∷ 1 ∷ 2 ∷ 3 ∷ 4 ∷ []) (five half) 4 660156248 753906252 4 false 710937500
    ∷ []

-- by the rule of document 01
pub by-first-link : List Row
by-first-link =
    row (0 ∷ 1 ∷ 2 ∷ 3 ∷ 4 ∷ []) (five half) 5 710937499 710937502 5 true 710937500
    ∷ row (0 ∷ 1 ∷ 2 ∷ 3 ∷ 4 ∷ []) (five half) 4 589843749 777343751 4 false 710937500
    ∷ []

-- the rows of the paper stand by either choice
pub examples : (every (right chosen) rows && every (right first_link) rows && every (right chosen) by-largest-sum && every (right first_link) by-first-link) ≡ true
unfolding right same rows by-largest-sum by-first-link row link triangle half four five tree_of grown run largest_sum largest degree leaves next_at without delete_at lowest first_pair places first_at sum last_of_each connected every label merge quotient product parallel either series factor split
examples = refl
