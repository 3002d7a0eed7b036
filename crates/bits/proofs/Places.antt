-- Laws of lists of places.
use Prim.Native.Nat.{ℕ, zero, suc, ◌<◌}
use mathlib.Core.Path.{◌≡◌, refl, sym, ap}
use mathlib.Core.List.{List, [], ◌∷◌, zip_with}
use mathlib.Core.Bool.{Bool, true, false, true≢false}
use native.Mathlib.Omega.{arith}
use lib.ListN.{length, set, get_or}
use Rattle.bits.specs.Members.{first_of, how_many}

-- the first place that is set is set
pub first-set : (bs : List Bool) → 0 < how_many bs → (first_of bs < length bs) × (get_or bs (first_of bs) false ≡ true)
first-set [] h = absurd (omega arith)
first-set (true ∷ bs) h = (omega arith, refl)
first-set (false ∷ bs) h = (omega (arith, (first-set bs h).0), (first-set bs h).1)

-- to clear a place that is set takes one from the count
pub count-cleared : (bs : List Bool) (i : ℕ) → get_or bs i false ≡ true → suc (how_many (set bs i false)) ≡ how_many bs
count-cleared [] i h = absurd (true≢false (sym h))
count-cleared (true ∷ bs) zero h = refl
count-cleared (false ∷ bs) zero h = absurd (true≢false (sym h))
count-cleared (true ∷ bs) (suc i) h = ap suc (count-cleared bs i h)
count-cleared (false ∷ bs) (suc i) h = count-cleared bs i h

-- an operation on two sets, at a place
pub get_or-zip_with : (g : Bool → Bool → Bool) → g false false ≡ false → (bs cs : List Bool) → length bs ≡ length cs
    → (i : ℕ) → get_or (zip_with g bs cs) i false ≡ g (get_or bs i false) (get_or cs i false)
unfolding zip_with
get_or-zip_with g e [] [] h i = sym e
get_or-zip_with g e [] (c ∷ cs) h i = absurd (omega arith)
get_or-zip_with g e (b ∷ bs) [] h i = absurd (omega arith)
get_or-zip_with g e (b ∷ bs) (c ∷ cs) h zero = refl
get_or-zip_with g e (b ∷ bs) (c ∷ cs) h (suc i) = get_or-zip_with g e bs cs (omega arith) i
