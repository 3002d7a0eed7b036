-- The search for a pair, by places.
use Prim.Native.Nat.{ℕ, ◌<◌}
use mathlib.Core.Path.{◌≡◌, refl, sym, ap, ap₂, ◌∙◌}
use mathlib.Core.List.{List, [], ◌∷◌}
use mathlib.Core.Bool.{Bool, true, false, ◌&&◌, and-true, and-false}
use lib.ListN.{get_or, set}
use Rattle.bits.specs.Members.{members, first_of, both}
use Rattle.bits.proofs.Digits.{length_digits}
use Rattle.std.specs.Prelude.{None, Some}
use Rattle.search.specs.Searches.{places_in, Inside, touching, Incidence, filter, beside, pair_in}
use Rattle.search.proofs.Sets.{has, has-zip, at-node}
use Rattle.search.proofs.Marks.{places-listed, filter-indices, none-listed, Lowest, lowest-first, lowest-rest}

-- of the places of r, all in use, those that are at both ends
shared : (u s t r : Bool) → (r ≡ true → u ≡ true) → (((u && s) && (u && t)) && r) ≡ (r && (s && t))
shared u s t true h = rw (h refl) (and-true (s && t))
shared u s t false h = and-false ((u && s) && (u && t))

-- a turn of the search: the lowest place i of t, the rest r of t, and the partners of i in r
pub record Turn (at as₁ bs : List ℕ) (alive t i r m q : ℕ) : Type 0 where
  pub incidence : Incidence at alive as₁ bs
  pub a_below : get_or as₁ i 0 < 32
  pub b_below : get_or bs i 0 < 32
  pub within : Inside r alive
  pub lowest : Lowest t i
  pub rest : members r ≡ set (members t) (first_of (members t)) false
  pub meet : members m ≡ both (members (get_or at (get_or as₁ i 0) 0)) (members (get_or at (get_or bs i 0) 0))
  pub partners : members q ≡ both (members m) (members r)

module _ (at as₁ bs : List ℕ) (alive t i r m q : ℕ) (turn : Turn at as₁ bs alive t i r m q) where
  found_at : (j : ℕ) → has q j ≡ (has r j && beside as₁ bs i j)
  found_at j =
      let x = get_or as₁ i 0 in
      let y = get_or bs i 0 in
      let touched : (v : ℕ) → v < 32 → has (get_or at v 0) j ≡ (has alive j && touching v (get_or as₁ j 0) (get_or bs j 0)) = λ v h. at-node at as₁ bs alive turn.incidence v h j in
      let ends = has-zip ◌&&◌ refl m (get_or at x 0) (get_or at y 0) turn.meet j ∙ ap₂ ◌&&◌ (touched x turn.a_below) (touched y turn.b_below) in
      has-zip ◌&&◌ refl q m r turn.partners j ∙ ap (λ (b : Bool). b && has r j) ends
      ∙ shared (has alive j) (touching x (get_or as₁ j 0) (get_or bs j 0)) (touching y (get_or as₁ j 0) (get_or bs j 0)) (has r j) (turn.within j)

  listed : filter (beside as₁ bs i) (places_in r) ≡ places_in q
  listed =
      ap (filter (beside as₁ bs i)) (places-listed r)
      ∙ filter-indices (beside as₁ bs i) (members r) (members q) (length_digits 64 q ∙ sym (length_digits 64 r)) found_at
      ∙ sym (places-listed q)

  opened : pair_in (beside as₁ bs) (places_in t) ≡ pair_in (beside as₁ bs) (i ∷ places_in r)
  opened = ap (pair_in (beside as₁ bs)) (lowest-rest t i turn.lowest r turn.rest)

  pub pair-hits : (j : ℕ) → Lowest q j → pair_in (beside as₁ bs) (places_in t) ≡ Some (i, j)
  unfolding pair_in
  pair-hits j l = opened ∙ rw (listed ∙ lowest-first q j l, pair_in)

  pub pair-misses : q ≡ 0 → pair_in (beside as₁ bs) (places_in t) ≡ pair_in (beside as₁ bs) (places_in r)
  unfolding pair_in
  pair-misses e = opened ∙ rw (listed ∙ ap places_in e ∙ none-listed, pair_in)

pub pair_ends : (p : ℕ → ℕ → Bool) (t : ℕ) → places_in t ≡ [] → pair_in p (places_in t) ≡ None
unfolding pair_in
pair_ends p t e = ap (pair_in p) e
