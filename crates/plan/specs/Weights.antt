-- The exact chances of a plan's links under a rating by length, and its exact reliability: over finer denominators than S where links
-- are given by length.
use Rattle.std.specs.Prelude.{ℕ, ◌-◌, ◌*◌, List, [], map, Bool, true, false, length}
use Rattle.rounding.specs.Rounding.{S}
use Rattle.ratings.specs.Ratings.{J}
use Rattle.reliability.specs.Networks.{ends, filter}
use Rattle.reliability.specs.Exact.{Weighted, sum}
use Rattle.reliability.specs.Rule.{delete_at}
use Rattle.search.specs.Searches.{from}
use Rattle.plan.specs.declared.Rated.{Rated}
use Rattle.plan.specs.declared.Rated.TheVariants.{Units, OfLength, Unrated}
use Rattle.plan.specs.Plans.{size_m, file_value, rated, link_in, plan_of}

-- a value v in units is v parts of S; a length is its rating × J × J parts of S × S × S
abbrev pub sound_parts : (rating : ℕ → ℕ) → Rated → ℕ
sound_parts rating (Units v) = v
sound_parts rating (OfLength k) = rating k * J * J
sound_parts rating Unrated = 0

abbrev pub all_parts : Rated → ℕ
all_parts (Units v) = S
all_parts (OfLength k) = S * S * S
all_parts Unrated = S

-- the weights of link i: the parts in which it is sound, and those in which it is broken
unfoldable pub weight_in : (rating : ℕ → ℕ) → List ℕ → ℕ → Weighted
weight_in rating b i =
    let r = rated (file_value b i) in
    record { joins = ends (link_in rating b i); sound = sound_parts rating r; broken = all_parts r - sound_parts rating r }

-- of the links 0 to m - 1
abbrev pub weights_of : (rating : ℕ → ℕ) → List ℕ → List Weighted
weights_of rating b = map (weight_in rating b) (from 0 (size_m b))

-- N: the exact chance that the nodes cs are connected is N over S to the power m + 2L (plan-total in proofs/Weights.antt)
unfoldable pub exact_among : List ℕ → (rating : ℕ → ℕ) → List ℕ → ℕ
exact_among cs rating b = sum cs (weights_of rating b) []

-- of all nodes: the exact reliability
abbrev pub exact_of : (rating : ℕ → ℕ) → List ℕ → ℕ
exact_of rating b = exact_among (plan_of rating b).nodes rating b

abbrev pub is_length : Rated → Bool
is_length (Units v) = false
is_length (OfLength k) = true
is_length Unrated = false

-- how many of the links at these places are given by length
unfoldable pub lengths_among : List ℕ → List ℕ → ℕ
lengths_among b is = length (filter (λ i. is_length (rated (file_value b i))) is)

-- L: of all links
abbrev pub lengths : List ℕ → ℕ
lengths b = lengths_among b (from 0 (size_m b))

-- of the links other than link i
abbrev pub other_lengths : List ℕ → ℕ → ℕ
other_lengths b i = lengths_among b (delete_at i (from 0 (size_m b)))
