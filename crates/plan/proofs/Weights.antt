-- The exact weights of a plan's links: each link's low and high value enclose them, off by less than 2 units where it is given by length.
use Prim.Native.Nat.{ℕ, zero, suc, ◌+◌, ◌-◌, ◌*◌, ◌^◌, ◌≤◌, ◌<◌, zero-le}
use mathlib.Core.Path.{◌≡◌, refl, sym, ap, ap₂, ◌∙◌}
use mathlib.Core.List.{List, [], ◌∷◌, map}
use mathlib.Core.Bool.{Bool, true, false, cond}
use native.Mathlib.Nat.{add-sub_of_le, le_refl}
use native.Mathlib.Omega.{arith}
use lib.Dec.{lit≤, lit<}
use lib.ListN.{length}
use lib.Pow.{pow-add}
use Rattle.rounding.specs.Rounding.{S}
use Rattle.rounding.specs.declared.Direction.TheVariants.{Down, Up}
use Rattle.ratings.specs.Ratings.{AtMostS, J}
use Rattle.ratings.proofs.Joints.{joints-bound, joints-near}
use Rattle.reliability.specs.Networks.{linked, filter}
use Rattle.reliability.specs.Exact.{total, Enclosed, AllEnclosed, nil, cons, altogether}
use Rattle.reliability.specs.Rule.{delete_at}
use Rattle.reliability.proofs.Lists.{map-delete, length-delete}
use Rattle.reliability.proofs.Weights.{link-enclosed}
use Rattle.search.specs.Searches.{from}
use Rattle.plan.specs.declared.Rated.{Rated}
use Rattle.plan.specs.declared.Rated.TheVariants.{Units, OfLength}
use Rattle.plan.specs.Plans.{size_m, first_end, second_end, file_value, rated, value_of, link_in, plan_of}
use Rattle.plan.specs.Weights.{sound_parts, all_parts, weight_in, weights_of, is_length, lengths_among, lengths, other_lengths}
use Rattle.plan.proofs.Values.{by-rated}
use Rattle.search.proofs.Sets.{from-size}

-- the units by which a link may be off: 2 where it is given by length
abbrev pub units_off : Rated → ℕ
units_off r = cond (is_length r) 2 0

-- of values and weights between the ends x and y
abbrev Fits : (rating : ℕ → ℕ) → ℕ → ℕ → Rated → Type 0
Fits rating x y r =
    Enclosed (units_off r) (linked x y (λ d. value_of rating d r))
    (record { joins = record { a = x; b = y }; sound = sound_parts rating r; broken = all_parts r - sound_parts rating r })

module _ (rating : ℕ → ℕ) (chances : AtMostS rating) where
  module _ (x y : ℕ) where
    in-units : (v : ℕ) → v ≤ S → Fits rating x y (Units v)
    in-units v h = link-enclosed 0 (linked x y (λ d. v)) h (le_refl v) (omega arith)

    by_length : (k : ℕ) → k ≤ 511 → Fits rating x y (OfLength k)
    by_length k h =
        let all : rating k * J * J + (S * S * S - rating k * J * J) ≡ S * S * S = add-sub_of_le (omega (arith, chances k h)) in
        record {
          joins = refl;
          some = rw all (lit< tt);
          low = rw all (omega (arith, (joints-bound Down (rating k)).order));
          low_near = rw all (omega (arith, joints-near Down (rating k)));
          high = rw all (omega (arith, (joints-bound Up (rating k)).order));
          high_near = rw all (omega (arith, joints-near Up (rating k)));
        }

    value-fits : (w : ℕ) → Fits rating x y (rated w)
    value-fits = by-rated (Fits rating x y) in-units by_length (in-units 0 (lit≤ tt))

  -- all parts of a link: S, and S × S times as many where it is given by length
  parts : (w : ℕ) → sound_parts rating (rated w) + (all_parts (rated w) - sound_parts rating (rated w)) ≡ S ^ (1 + 2 * cond (is_length (rated w)) 1 0)
  parts = by-rated (λ r. sound_parts rating r + (all_parts r - sound_parts rating r) ≡ S ^ (1 + 2 * cond (is_length r) 1 0)) (λ v h. add-sub_of_le h) (λ k h. add-sub_of_le (omega (arith, chances k h))) refl

-- one link more: one length more where it is given by length
counted : (t : Bool) (i : ℕ) (is : List ℕ) → length {A = ℕ} (elim t [ true ↦ i ∷ is | false ↦ is ]) ≡ cond t 1 0 + length is
counted true i is = omega arith
counted false i is = omega arith

bit : (t : Bool) → (cond t 1 0 ≤ 1) × (cond t 2 0 ≡ 2 * cond t 1 0)
bit true = omega arith
bit false = omega arith

module _ (b : List ℕ) where
  abbrev byLength : ℕ → Bool
  byLength i = is_length (rated (file_value b i))

  abbrev off : ℕ → ℕ
  off i = units_off (rated (file_value b i))

  one_more : (i : ℕ) (is : List ℕ) → lengths_among b (i ∷ is) ≡ cond (byLength i) 1 0 + lengths_among b is
  unfolding lengths_among filter
  one_more i is = counted (byLength i) i (filter byLength is)

  units-at : (is : List ℕ) → altogether (map off is) ≡ 2 * lengths_among b is
  unfolding altogether lengths_among filter
  units-at [] = refl
  units-at (i ∷ is) = omega (arith, units-at is, one_more i is, bit (byLength i))

  few-at : (is : List ℕ) → lengths_among b is ≤ length is
  unfolding lengths_among filter
  few-at [] = zero-le
  few-at (i ∷ is) = omega (arith, few-at is, one_more i is, bit (byLength i))

  fewer-at : (i : ℕ) (is : List ℕ) → lengths_among b (delete_at i is) ≤ lengths_among b is
  unfolding delete_at
  fewer-at i [] = le_refl (lengths_among b [])
  fewer-at zero (j ∷ is) = omega (arith, one_more j is)
  fewer-at (suc i) (j ∷ is) = omega (arith, fewer-at i is, one_more j is, one_more j (delete_at i is))

  module _ (rating : ℕ → ℕ) (chances : AtMostS rating) where
    -- the links at any places
    enclosed-at : (is : List ℕ) → AllEnclosed (map off is) (map (link_in rating b) is) (map (weight_in rating b) is)
    unfolding link_in weight_in
    enclosed-at [] = nil
    enclosed-at (i ∷ is) = cons (value-fits rating chances (first_end b i) (second_end b i) (file_value b i)) (enclosed-at is)

    -- S to the power of the links and twice the lengths
    total-at : (is : List ℕ) → total (map (weight_in rating b) is) ≡ S ^ (length is + 2 * lengths_among b is)
    unfolding total weight_in lengths_among filter
    total-at [] = refl
    total-at (i ∷ is) =
        ap₂ ◌*◌ (parts rating chances (file_value b i)) (total-at is)
        ∙ sym (pow-add S (1 + 2 * cond (byLength i) 1 0) (length is + 2 * lengths_among b is))
        ∙ ap (λ n. S ^ n) (omega (arith, one_more i is))

-- the links of a plan: its weights are enclosed, they come to S to the power m + 2L, and its links may be off by 2L units in all
module _ (b : List ℕ) where
  abbrev places : List ℕ
  places = from 0 (size_m b)

  abbrev pub unitsIn : List ℕ
  unitsIn = map (off b) places

  pub plan-units : altogether unitsIn ≡ 2 * lengths b
  plan-units = units-at b places

  -- under whatever rating is at most S
  module _ (rating : ℕ → ℕ) (chances : AtMostS rating) where
    pub plan-enclosed : AllEnclosed unitsIn (plan_of rating b).links (weights_of rating b)
    plan-enclosed = enclosed-at b rating chances places

    pub plan-total : total (weights_of rating b) ≡ S ^ (size_m b + 2 * lengths b)
    plan-total = total-at b rating chances places ∙ ap (λ m. S ^ (m + 2 * lengths b)) (from-size 0 (size_m b))

  pub plan-lengths : lengths b ≤ size_m b
  plan-lengths = omega (arith, few-at b places, from-size 0 (size_m b))

  -- without link i
  module _ (i : ℕ) where
    abbrev others : List ℕ
    others = delete_at i places

    pub others-units : altogether (delete_at i unitsIn) ≡ 2 * other_lengths b i
    others-units = ap altogether (sym (map-delete (off b) i places)) ∙ units-at b others

    pub others-few : other_lengths b i ≤ lengths b
    others-few = fewer-at b i places

    pub others-total : (rating : ℕ → ℕ) → AtMostS rating → i < size_m b → total (delete_at i (weights_of rating b)) ≡ S ^ (size_m b - 1 + 2 * other_lengths b i)
    others-total rating chances place =
        let size = from-size 0 (size_m b) in
        let fewer : length others ≡ size_m b - 1 = omega (arith, length-delete {i = i} places (omega arith)) in
        ap total (sym (map-delete (weight_in rating b) i places)) ∙ total-at b rating chances others ∙ ap (λ m. S ^ (m + 2 * other_lengths b i)) fewer
