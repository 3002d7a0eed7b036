-- The rows of the plans that the papers mark P, and some more, computed from the definition.
use Prim.Native.Nat.{ℕ, ◌*◌, ◌^◌}
use mathlib.Core.Path.{◌≡◌, refl}
use mathlib.Core.List.{List, [], ◌∷◌, map}
use Rattle.reliability.specs.declared.Link.{Link}
use Rattle.reliability.specs.Networks.{connected, label, merge, every}
use Rattle.reliability.specs.Exact.{altogether}
use Rattle.reliability.proofs.Pieces.{link}
use Rattle.reliability.proofs.Examples.{half, four}
use Rattle.search.specs.Searches.{from}
use Rattle.sets.specs.Sets.{sets, how_many, connecting_sets, connecting_row}
use Rattle.sets.specs.Polynomial.{by_sizes}

abbrev triangle : ℕ → List Link
triangle p = link 0 1 p ∷ link 1 2 p ∷ link 0 2 p ∷ []

-- five nodes, all joined
abbrev five : ℕ → List Link
five p = link 0 1 p ∷ link 0 2 p ∷ link 0 3 p ∷ link 0 4 p ∷ link 1 2 p ∷ link 1 3 p ∷ link 1 4 p ∷ link 2 3 p ∷ link 2 4 p ∷ link 3 4 p ∷ []

-- nodes, links, and the row
pub record Example : Type 0 where
  pub nodes : List ℕ
  pub links : List Link
  pub numbers : List ℕ

pub plan : ℕ → List Link → List ℕ → Example
plan n es ks = record { nodes = from 0 n; links = es; numbers = ks }

pub plans : List Example
plans =
    plan 1 [] (1 ∷ [])  -- P1
    ∷ plan 2 [] (0 ∷ [])  -- P2
    ∷ plan 1 (link 0 0 0 ∷ []) (1 ∷ 1 ∷ [])  -- P3: a loop is a link
    ∷ plan 2 (link 0 1 900000000 ∷ link 0 1 800000000 ∷ []) (0 ∷ 2 ∷ 1 ∷ [])  -- P4
    ∷ plan 3 (link 0 1 half ∷ link 1 2 half ∷ []) (0 ∷ 0 ∷ 1 ∷ [])  -- P5
    ∷ plan 3 (triangle half) (0 ∷ 0 ∷ 3 ∷ 1 ∷ [])  -- P6
    ∷ plan 3 (triangle 0) (0 ∷ 0 ∷ 3 ∷ 1 ∷ [])  -- P7: values play no part
    ∷ plan 5 (link 0 3 950000000 ∷ link 0 1 910000000 ∷ link 1 2 980000000 ∷ link 0 2 880000000 ∷ link 1 4 910000000 ∷ []) (0 ∷ 0 ∷ 0 ∷ 0 ∷ 3 ∷ 1 ∷ [])  -- P9
    ∷ plan 4 (four half half half half half half) (0 ∷ 0 ∷ 0 ∷ 16 ∷ 15 ∷ 6 ∷ 1 ∷ [])  -- P10
    ∷ plan 2 (link 0 1 half ∷ link 1 1 half ∷ link 1 0 half ∷ []) (0 ∷ 2 ∷ 3 ∷ 1 ∷ [])  -- two side by side, and a loop
    ∷ plan 4 (link 0 1 half ∷ link 0 2 half ∷ link 1 2 half ∷ []) (0 ∷ 0 ∷ 0 ∷ 0 ∷ [])  -- a node alone
    ∷ plan 5 (five half) (0 ∷ 0 ∷ 0 ∷ 0 ∷ 125 ∷ 222 ∷ 205 ∷ 120 ∷ 45 ∷ 10 ∷ 1 ∷ [])
    ∷ []

pub examples : map (λ (r : Example). connecting_row (record { nodes = r.nodes; links = r.links })) plans ≡ map (λ (r : Example). r.numbers) plans
unfolding plans plan link half four sets how_many connected label merge every from
examples = refl

-- 38 of the 64 states of P10 connect
pub at-halves : by_sizes half half (connecting_sets (record { nodes = 0 ∷ 1 ∷ 2 ∷ 3 ∷ []; links = four half half half half half half })) 6 ≡ 38 * half ^ 6
unfolding by_sizes altogether link half four sets how_many connected label merge every from
at-halves = refl

-- the triangle where each link is sound 9 times in 10: 3 × 81 × 1 + 729
pub at-nine-tenths : by_sizes 9 1 (connecting_sets (record { nodes = 0 ∷ 1 ∷ 2 ∷ []; links = triangle half })) 3 ≡ 972
unfolding by_sizes altogether link half sets how_many connected label merge every from
at-nine-tenths = refl
