-- Laws of labels and of sets by place.
use Prim.Native.Nat.{ℕ, zero, suc, ◌+◌, ◌≤◌, ◌<◌, min, max}
use mathlib.Core.Path.{◌≡◌, refl, sym, ap, ap₂, ◌∙◌}
use mathlib.Core.List.{List, [], ◌∷◌}
use mathlib.Core.Bool.{Bool, true, false, cond, ◌&&◌, ◌||◌, true≢false, not}
use native.Mathlib.Nat.{not-suc-le-zero, le_refl}
use native.Mathlib.Decide.{ℕ_discrete, dec_lt}
use native.Mathlib.Omega.{arith}
use lib.Dec.{eqb, ltb}
use lib.ListN.{length, get_or, set}
use borrow.Author.Tests.{eq-eqb, ne_eqb, lt-ltb, le-ltb}
use Rattle.bits.specs.Members.{members, first_of, both, difference}
use Rattle.search.proofs.Sets.{has as in-set, has-none, has-with, has-zip}
use Rattle.reliability.specs.Networks.{merge}
use Rattle.game.specs.Game.{some_below}
use Rattle.game.specs.Forests.{table, has, first}
use mathlib.Core.Option.{Option, some, none}
use Rattle.std.specs.Prelude.{Option as Perhaps, Some, None}
use Rattle.std.specs.Option.{is_some}
use Rattle.bits.proofs.Digits.{length_digits}
use Rattle.game.proofs.Below.{some_of, some-fails}
use Rattle.game.proofs.Levels.{has-table}
use Rattle.game.proofs.Searches.{first_some, first-none, first-before}
use Rattle.labelling.specs.Places.{places_of}

pub merge-max : (x y z : ℕ) → z ≡ max x y → merge x y z ≡ min x y
unfolding merge
merge-max x y z h = rw (eq-eqb z (max x y) h)

pub merge-other : (x y z : ℕ) → (z ≡ max x y → ⊥) → merge x y z ≡ z
unfolding merge
merge-other x y z h = rw (ne_eqb z (max x y) h)

-- ---- a set built place by place

pub table_same : (n : ℕ) (p q : ℕ → Bool) → ((i : ℕ) → i < n → p i ≡ q i) → table n p ≡ table n q
unfolding table
table_same zero p q h = refl
table_same (suc n) p q h = ap₂ {C = List Bool} (λ b r. b ∷ r) (h 0 (omega arith)) (table_same n (λ i. p (suc i)) (λ i. q (suc i)) (λ i l. h (suc i) (omega arith)))

-- s has the places below i at which a test holds
pub record Upto (q : ℕ → Bool) (s i : ℕ) : Type 0 where
  pub below : (p : ℕ) → p < i → in-set s p ≡ q p
  pub above : (p : ℕ) → i ≤ p → in-set s p ≡ false

module _ (q : ℕ → Bool) where
  pub upto-start : Upto q 0 0
  upto-start = record { below = λ p l. absurd (not-suc-le-zero l); above = λ p l. has-none p }

  pub upto-in : (s r i : ℕ) → Upto q s i → q i ≡ true → members r ≡ set (members s) i true → i < 64 → Upto q r (i + 1)
  upto-in s r i u t e l = record { below = λ p k. in-set-with p ∙ go p k (ℕ_discrete p i); above = λ p k. in-set-with p ∙ rw (ne_eqb p i (λ z. omega arith)) (u.above p (omega arith)) }
    where
      in-set-with : (p : ℕ) → in-set r p ≡ (eqb p i || in-set s p)
      in-set-with = has-with r s i e l

      go : (p : ℕ) → p < i + 1 → Dec (p ≡ i) → (eqb p i || in-set s p) ≡ q p
      go p k (yes z) = rw (eq-eqb p i z, z) (sym t)
      go p k (no n) = rw (ne_eqb p i n) (u.below p (omega arith))

  pub upto-out : (s i : ℕ) → Upto q s i → q i ≡ false → Upto q s (i + 1)
  upto-out s i u t = record { below = λ p k. go p k (ℕ_discrete p i); above = λ p k. u.above p (omega arith) }
    where
      go : (p : ℕ) → p < i + 1 → Dec (p ≡ i) → in-set s p ≡ q p
      go p k (yes z) = rw z (u.above i (le_refl i) ∙ sym t)
      go p k (no n) = u.below p (omega arith)

  pub upto_put : (s r i : ℕ) → Upto q s i → members r ≡ cond (q i) (set (members s) i true) (members s) → i < 64 → Upto q r (i + 1)
  upto_put s r i u e l = go (q i) refl e
    where
      go : (b : Bool) → q i ≡ b → members r ≡ cond b (set (members s) i true) (members s) → Upto q r (i + 1)
      go true t e = upto-in s r i u t e l
      go false t e = upto-out r i (record { below = λ p k. ap (λ (bs : List Bool). get_or bs p false) e ∙ u.below p k; above = λ p k. ap (λ (bs : List Bool). get_or bs p false) e ∙ u.above p k }) t

  pub upto-end : (s i m : ℕ) → Upto q s i → m ≤ i → places_of m s ≡ table m q
  upto-end s i m u h = table_same m (in-set s) q (λ p l. u.below p (omega arith))

-- ---- the lowest place

first-true : (bs : List Bool) → first_of bs < length bs → get_or bs (first_of bs) false ≡ true
first-true [] h = absurd (not-suc-le-zero h)
first-true (true ∷ bs) h = refl
first-true (false ∷ bs) h = first-true bs (omega arith)

first-earlier : (bs : List Bool) (p : ℕ) → p < first_of bs → get_or bs p false ≡ false
first-earlier [] p h = absurd (not-suc-le-zero h)
first-earlier (true ∷ bs) p h = absurd (not-suc-le-zero h)
first-earlier (false ∷ bs) zero h = refl
first-earlier (false ∷ bs) (suc p) h = first-earlier bs p (omega arith)

-- r has what a test holds of, below m: its lowest place is the first at which the test holds
module _ (r d m : ℕ) (q : ℕ → Bool) (same : (p : ℕ) → p < m → in-set r p ≡ q p) (low : d ≡ first_of (members r)) (most : m ≤ 64) where
  lowest-in : d < m → q d ≡ true
  lowest-in h = sym (same d h) ∙ ap (λ p. in-set r p) low ∙ first-true (members r) (omega (arith, length_digits 64 r))

  lowest-out : (p : ℕ) → p < m → p < d → q p ≡ false
  lowest-out p h k = sym (same p h) ∙ first-earlier (members r) p (omega arith)

  pub some-law : ltb d m ≡ some_below m q
  some-law = go (dec_lt d m)
    where
      go : Dec (d < m) → ltb d m ≡ some_below m q
      go (yes h) = lt-ltb d m h ∙ sym (some_of m q d h (lowest-in h))
      go (no h) = le-ltb d m (omega arith) ∙ sym (some-fails m q (λ p k. lowest-out p k (omega arith)))

  pub first-is : d < m → first m q ≡ some d
  first-is h = go (first m q) refl
    where
      go : (o : Option ℕ) → first m q ≡ o → o ≡ some d
      go none e = absurd (true≢false (sym (lowest-in h) ∙ first-none m q e d h))
      go (some i) e = lowest (dec_lt i d) (dec_lt d i) (first_some m q i e)
        where
          lowest : Dec (i < d) → Dec (d < i) → (i < m) × (q i ≡ true) → some i ≡ some d
          lowest (yes k) b s = absurd (true≢false (sym s.1 ∙ lowest-out i s.0 k))
          lowest (no k) (yes b) s = absurd (true≢false (sym (lowest-in h) ∙ first-before m q i e d b))
          lowest (no k) (no b) s = let z : i ≡ d = omega arith in ap some z

  pub first-not : m ≤ d → first m q ≡ none
  first-not h = go (first m q) refl
    where
      go : (o : Option ℕ) → first m q ≡ o → o ≡ none
      go none e = refl
      go (some i) e = let s = first_some m q i e in absurd (true≢false (sym s.1 ∙ lowest-out i s.0 (omega (arith, s.0))))

-- a lowest place that is below m, or not
module _ (x m : ℕ) (o : Perhaps ℕ) (is : o ≡ cond (ltb x m) (Some x) None) where
  pub found-below : (d : ℕ) → o ≡ Some d → (d ≡ x) × (d < m)
  found-below d e = go (dec_lt x m)
    where
      go : Dec (x < m) → (d ≡ x) × (d < m)
      go (yes h) =
          let f : Some x ≡ Some d = ap (λ t. cond t (Some x) None) (sym (lt-ltb x m h)) ∙ sym is ∙ e in
          let z : x ≡ d = cc in
          (sym z, omega (arith, z))
      go (no h) =
          let f : ◌≡◌ {A = Perhaps ℕ} None (Some d) = ap (λ t. cond t (Some x) None) (sym (le-ltb x m (omega arith))) ∙ sym is ∙ e in
          absurd cc

  pub is_below : is_some o ≡ ltb x m
  is_below = ap is_some is ∙ go (ltb x m)
    where
      go : (t : Bool) → is_some (cond t (Some x) None) ≡ t
      go true = refl
      go false = refl

  pub none_below : o ≡ None → m ≤ x
  none_below e = go (dec_lt x m)
    where
      go : Dec (x < m) → m ≤ x
      go (yes h) =
          let f : Some x ≡ None = ap (λ t. cond t (Some x) None) (sym (lt-ltb x m h)) ∙ sym is ∙ e in
          absurd cc
      go (no h) = omega arith

-- places of sets below m
pub placed_at : (m s p : ℕ) → p < m → has (places_of m s) p ≡ in-set s p
placed_at m s p h = has-table m p (in-set s) h

pub meet-same : (r s t m : ℕ) → members r ≡ both (members s) (members t) → (p : ℕ) → p < m → in-set r p ≡ has (places_of m s) p && has (places_of m t) p
meet-same r s t m e p h = has-zip ◌&&◌ refl r s t e p ∙ ap₂ ◌&&◌ (sym (placed_at m s p h)) (sym (placed_at m t p h))

pub difference-same : (r s t m : ℕ) → members r ≡ difference (members s) (members t) → (p : ℕ) → p < m → in-set r p ≡ has (places_of m s) p && not (has (places_of m t) p)
difference-same r s t m e p h = has-zip (λ b c. b && not c) refl r s t e p ∙ ap₂ (λ b c. b && not c) (sym (placed_at m s p h)) (sym (placed_at m t p h))

pub or-true : (b c : Bool) → b ≡ true → b ≡ b || c
or-true true c e = refl
or-true false c e = absurd (true≢false (sym e))

pub or-false : (b c : Bool) → b ≡ false → c ≡ b || c
or-false true c e = absurd (true≢false e)
or-false false c e = refl
