-- Plans as bytes and what is returned of them, the edges of each cause among them: one proof computes them all from the
-- definitions.
use Prim.Native.Nat.{ℕ, ◌+◌, ◌-◌, ◌*◌, ◌^◌}
use mathlib.Core.Path.{◌≡◌, refl}
use mathlib.Core.List.{List, [], ◌∷◌}
use mathlib.Core.Bool.{Bool, true}
use lib.Dec.{eqb}
use lib.ListN.{replicate}
use Rattle.ratings.specs.Ratings.{T}
use Rattle.reliability.specs.Networks.{linked, every, filter, merge, label, connected}
use Rattle.reliability.specs.Exact.{sum}
use Rattle.reliability.specs.Rule.{delete_at}
use Rattle.tables.specs.Tables.{value_in, rating}
use Rattle.tables.proofs.Examples.{bytes, whole}
use Rattle.plan.specs.Plans.{rated, link_verdict, links_verdict, verdict, returned, link_in, plan_of}
use Rattle.plan.specs.Weights.{weight_in, exact_among, exact_of, lengths_among, lengths, other_lengths}
use Rattle.search.specs.Searches.{from}

pub record Row : Type 0 where
  pub bytes : List ℕ
  pub returns : ℕ

pub right : Row → Bool
right r = eqb (returned (verdict r.bytes)) r.returns

pub row : List ℕ → ℕ → Row
row b r = record { bytes = b; returns = r }

-- one node and a loop, its value in four bytes
pub loop : ℕ → ℕ → ℕ → ℕ → List ℕ
loop p q r s = 1 ∷ 0 ∷ 1 ∷ 0 ∷ 0 ∷ 0 ∷ p ∷ q ∷ r ∷ s ∷ []

-- two nodes, two links, both values 0
pub pair : ℕ → ℕ → ℕ → ℕ → List ℕ
pair p q r s = 2 ∷ 0 ∷ 2 ∷ 0 ∷ p ∷ q ∷ r ∷ s ∷ replicate 8 0

-- P4: links 0 to 1 of 900,000,000 and 0 to 1 of 800,000,000
unfoldable pub listed : List ℕ
listed = 2 ∷ 0 ∷ 2 ∷ 0 ∷ 0 ∷ 1 ∷ 0 ∷ 1 ∷ 0 ∷ 233 ∷ 164 ∷ 53 ∷ 0 ∷ 8 ∷ 175 ∷ 47 ∷ []

pub rows : List Row
rows =
    row [] 1
    ∷ row (1 ∷ 0 ∷ 0 ∷ []) 1
    ∷ row (0 ∷ 0 ∷ 0 ∷ 0 ∷ []) 2
    ∷ row (1 ∷ 0 ∷ 0 ∷ 0 ∷ []) 0  -- P1
    ∷ row (32 ∷ 0 ∷ 0 ∷ 0 ∷ []) 0
    ∷ row (33 ∷ 0 ∷ 0 ∷ 0 ∷ []) 2
    ∷ row (1 ∷ 1 ∷ 0 ∷ 0 ∷ []) 2  -- n is 257
    ∷ row (1 ∷ 0 ∷ 64 ∷ 0 ∷ replicate 384 0) 0
    ∷ row (1 ∷ 0 ∷ 65 ∷ 0 ∷ replicate 390 0) 3
    ∷ row (33 ∷ 0 ∷ 65 ∷ 0 ∷ []) 2  -- 2 before 3
    ∷ row (1 ∷ 0 ∷ 65 ∷ 0 ∷ []) 3  -- 3 before 4
    ∷ row (1 ∷ 0 ∷ 0 ∷ 0 ∷ 0 ∷ []) 4
    ∷ row (1 ∷ 0 ∷ 1 ∷ 0 ∷ replicate 5 0) 4
    ∷ row listed 0
    ∷ row (pair 0 1 1 1) 0
    ∷ row (pair 2 1 1 2) 5
    ∷ row (pair 1 0 0 2) (5 + 256 * 1)
    ∷ row (loop 0 0 0 0) 0  -- P3
    ∷ row (loop 0 202 154 59) 0  -- S
    ∷ row (loop 1 202 154 59) 6
    ∷ row (loop 255 255 255 127) 6
    ∷ row (loop 0 0 0 128) 0  -- a length of 0
    ∷ row (loop 255 1 0 128) 0  -- k is 511
    ∷ row (loop 0 2 0 128) 6
    ∷ row (loop 255 255 255 255) 6
    ∷ row (1 ∷ 0 ∷ 1 ∷ 0 ∷ 0 ∷ 1 ∷ 255 ∷ 255 ∷ 255 ∷ 255 ∷ []) 5  -- 5 before 6
    ∷ row (1 ∷ 0 ∷ 2 ∷ 0 ∷ 0 ∷ 0 ∷ 0 ∷ 1 ∷ 255 ∷ 255 ∷ 255 ∷ 255 ∷ 0 ∷ 0 ∷ 0 ∷ 0 ∷ []) 6  -- link 0 before link 1
    ∷ []

pub examples : every right rows ≡ true
unfolding right row loop pair listed rows every verdict links_verdict link_verdict rated
examples = refl

pub listed-links : (plan_of T listed).links ≡ (linked 0 1 (λ d. 900000000) ∷ linked 0 1 (λ d. 800000000) ∷ [])
unfolding listed from link_in rated
listed-links = refl

-- two nodes, and between them a link of one half and one of length 0: connected unless both are broken
unfoldable pub mixed : List ℕ
mixed = 2 ∷ 0 ∷ 2 ∷ 0 ∷ 0 ∷ 1 ∷ 0 ∷ 1 ∷ 0 ∷ 101 ∷ 205 ∷ 29 ∷ 0 ∷ 0 ∷ 0 ∷ 128 ∷ []

pub mixed-lengths : (lengths mixed ≡ 1) × (other_lengths mixed 0 ≡ 1) × (other_lengths mixed 1 ≡ 0)
unfolding mixed lengths_among filter delete_at from rated
mixed-lengths = (refl, refl, refl)

pub mixed-exact : exact_of T mixed ≡ 1000000000 ^ 4 - 500000000 * (1000000000 ^ 3 - 1000000000 * 999950000 ^ 2)
unfolding mixed exact_among weight_in sum connected every label merge link_in from rated T
mixed-exact = refl

-- two nodes, and between them a link of 51,100 metres by a buyer's table whose last value is 800,000,001
pub buyers-exact : exact_of (rating (whole 800000001)) (2 ∷ 0 ∷ 1 ∷ 0 ∷ 0 ∷ 1 ∷ 255 ∷ 1 ∷ 0 ∷ 128 ∷ []) ≡ 800000001 * 999950000 ^ 2
unfolding exact_among weight_in sum connected every label merge link_in from rated rating value_in bytes whole
buyers-exact = refl
