-- Tables and what the tests say of them, and ratings: computed from the definitions.
use Prim.Native.Nat.{ℕ}
use mathlib.Core.Path.{◌≡◌, refl}
use mathlib.Core.List.{List, [], ◌∷◌, ◌++◌, map}
use mathlib.Core.Bool.{true, false}
use lib.ListN.{replicate}
use Rattle.words.specs.Words.{le4}
use Rattle.ratings.specs.Ratings.{T}
use Rattle.tables.specs.Tables.{value_in, rating, sized, never_rises, well_rated}

-- no bytes, a byte less than 512 values, 512 values, a byte more
pub sizes : map (λ n. sized (replicate n 0)) (0 ∷ 2047 ∷ 2048 ∷ 2049 ∷ []) ≡ (true ∷ false ∷ true ∷ false ∷ [])
unfolding sized
sizes = refl

-- the bytes of some values; those behind them read as 0
unfoldable pub bytes : List ℕ → List ℕ
bytes [] = []
bytes (v ∷ vs) = le4 v ++ bytes vs

pub tables : List (List ℕ)
tables =
    []
    ∷ (1000000000 ∷ [])
    ∷ (1000000000 ∷ 1000000000 ∷ 999999999 ∷ 999999999 ∷ [])
    ∷ (1000000000 ∷ 999999998 ∷ 999999999 ∷ [])  -- a rise by one
    ∷ (1000000001 ∷ [])
    ∷ (999999999 ∷ [])
    ∷ []

pub tested : map (λ vs. well_rated (bytes vs)) tables ≡ (true ∷ true ∷ true ∷ false ∷ false ∷ false ∷ [])
unfolding tables bytes well_rated never_rises value_in
tested = refl

-- 512 values: S, 510 alike, and a last
unfoldable pub whole : ℕ → List ℕ
whole last = bytes (1000000000 ∷ replicate 510 900000000 ++ (last ∷ []))

pub last-tested : map (λ v. never_rises (whole v) 510 1) (900000000 ∷ 900000001 ∷ []) ≡ (true ∷ false ∷ [])
unfolding bytes whole never_rises value_in
last-tested = refl

pub built_in : map (rating []) (0 ∷ 1 ∷ 511 ∷ []) ≡ (1000000000 ∷ 999700000 ∷ 857852349 ∷ [])
unfolding rating T
built_in = refl

pub buyers : map (rating (whole 800000001)) (0 ∷ 1 ∷ 511 ∷ []) ≡ (1000000000 ∷ 900000000 ∷ 800000001 ∷ [])
unfolding bytes whole rating value_in
buyers = refl

-- the lowest byte first
pub byte-order : rating (0 ∷ 202 ∷ 154 ∷ 59 ∷ 1 ∷ 2 ∷ 3 ∷ 4 ∷ []) 1 ≡ 67305985
unfolding rating value_in
byte-order = refl
