-- Links and sets of places read at a place, and the lowest place of a set.
use Prim.Native.Nat.{ℕ, zero, suc, ◌+◌, ◌<◌}
use mathlib.Core.Path.{◌≡◌, refl, sym, ap, ap₂, ◌∙◌}
use mathlib.Core.List.{List, [], ◌∷◌}
use mathlib.Core.Bool.{Bool, true, false, ◌&&◌, not, and_comm}
use native.Mathlib.Nat.{not-suc-le-zero}
use native.Mathlib.Omega.{arith}
use native.Mathlib.Decide.{ℕ_discrete}
use lib.Dec.{eqb}
use lib.ListN.{length, get_or, set}
use lib.Seq.{get_or-set_same, get_or-set_other}
use Rattle.bits.specs.Members.{members}
use Rattle.search.proofs.Sets.{has as in-set, has-without}
use Rattle.reliability.specs.Networks.{Ends, label}
use Rattle.game.specs.Game.{at, among}
use Rattle.game.specs.Forests.{joins, without, table, has}
use Rattle.game.proofs.Levels.{has-table}
use Rattle.forests.specs.declared.Links.{Links}
use Rattle.labelling.specs.Places.{places_of}
use Rattle.forests.specs.Links.{links_from, links_of, amongst, labels_of, Fit}
use Rattle.labelling.proofs.Laws.{table_same}
use Rattle.forests.proofs.Laws.{label_at}

module _ (as₁ bs : List ℕ) where
  pub length-links : (i k : ℕ) → length (links_from as₁ bs i k) ≡ k
  unfolding links_from
  length-links i zero = refl
  length-links i (suc k) = ap suc (length-links (suc i) k)

  at-links : (i k d : ℕ) → d < k → at (links_from as₁ bs i k) d ≡ record { a = get_or as₁ (i + d) 0; b = get_or bs (i + d) 0 }
  unfolding links_from
  at-links i zero d h = absurd (not-suc-le-zero h)
  at-links i (suc k) zero h = let e : i ≡ i + 0 = omega arith in λ z. record { a = get_or as₁ (e z) 0; b = get_or bs (e z) 0 }
  at-links i (suc k) (suc d) h =
      at-links (suc i) k d (omega arith)
      ∙ (let e : suc i + d ≡ i + suc d = omega arith in λ z. record { a = get_or as₁ (e z) 0; b = get_or bs (e z) 0 })

  pub link-at : (m d : ℕ) → d < m → at (links_from as₁ bs 0 m) d ≡ record { a = get_or as₁ d 0; b = get_or bs d 0 }
  link-at m d h = at-links 0 m d h ∙ (let e : 0 + d ≡ d = omega arith in λ z. record { a = get_or as₁ (e z) 0; b = get_or bs (e z) 0 })

pub among_same : (p q : ℕ → Bool) (es : List Ends) → ((i : ℕ) → i < length es → p i ≡ q i) → among p es ≡ among q es
unfolding among
among_same p q [] h = refl
among_same p q (e ∷ es) h =
    ap₂ (λ b r. elim b as (λ b. List Ends) [ true ↦ e ∷ r | false ↦ r ]) (h 0 (omega arith)) (among_same (λ i. p (suc i)) (λ i. q (suc i)) es (λ i l. h (suc i) (omega arith)))

-- the links whose ends the labels tell apart
module _ (l : Links) (fit : Fit l) where
  abbrev pub differ : List ℕ → ℕ → Bool
  differ labels d = not (eqb (get_or labels (get_or l.a d 0) 0) (get_or labels (get_or l.b d 0) 0))

  pub differ-law : (t : List Ends) (labels : List ℕ) → labels ≡ labels_of t → table l.m (differ labels) ≡ table (length (links_of l)) (λ d. not (joins t (at (links_of l) d)))
  differ-law t labels e =
      table_same l.m (differ labels) (λ d. not (joins t (at (links_of l) d))) (λ d h.
      let i = fit.ended d h in
      ap₂ (λ x y. not (eqb x y)) (one (get_or l.a d 0) i.0) (one (get_or l.b d 0) i.1)
      ∙ ap (λ (f : Ends). not (joins t f)) (sym (link-at l.a l.b l.m d h)))
      ∙ ap (λ n. table n (λ d. not (joins t (at (links_of l) d)))) (sym (length-links l.a l.b 0 l.m))
    where
      one : (v : ℕ) → v < 32 → get_or labels v 0 ≡ label t v
      one v h = ap (λ k. get_or k v 0) e ∙ label_at t v h

  in_range : (i : ℕ) → i < length (links_of l) → i < l.m
  in_range i h = omega (arith, length-links l.a l.b 0 l.m)

  -- the links of a set that is told by a test
  told : (s : ℕ) (q : ℕ → Bool) → places_of l.m s ≡ table l.m q → (i : ℕ) → i < l.m → in-set s i ≡ q i
  told s q e i h = sym (has-table l.m i (in-set s) h) ∙ ap (λ (bs : List Bool). has bs i) e ∙ has-table l.m i q h

  pub whole : (s : ℕ) (q : ℕ → Bool) → places_of l.m s ≡ table l.m q → amongst s (links_of l) ≡ among q (links_of l)
  whole s q e = among_same (in-set s) q (links_of l) (λ i h. told s q e i (in_range i h))

  -- and without one place
  pub lessened : (s r f : ℕ) (q : ℕ → Bool) → f < 64 → places_of l.m s ≡ table l.m q → members r ≡ set (members s) f false → amongst r (links_of l) ≡ among (without q f) (links_of l)
  lessened s r f q h e w =
      among_same (in-set r) (without q f) (links_of l)
      (λ i k. has-without r s f w h i ∙ and_comm (not (eqb i f)) (in-set s i) ∙ ap (λ b. b && not (eqb i f)) (told s q e i (in_range i k)))

-- one more element of an array is as asked
pub more_of : (P : ℕ → ℕ → Type 0) (l : List ℕ) (k x : ℕ) → k < length l → ((i : ℕ) → i < k → P i (get_or l i 0)) → P k x → (i : ℕ) → i < k + 1 → P i (get_or (set l k x) i 0)
more_of P l k x h old new i m = go (ℕ_discrete i k)
  where
    go : Dec (i ≡ k) → P i (get_or (set l k x) i 0)
    go (yes e) = rw e (rw (get_or-set_same l k x 0 h) new)
    go (no n) = rw (get_or-set_other l k i x 0 n) (old i (omega arith))
