-- The levels of the search, and what moving a link from one forest to the other does to them.
use Prim.Native.Nat.{ℕ, zero, suc, ◌≤◌, ◌<◌}
use mathlib.Core.Path.{◌≡◌, refl, sym, ap, ◌∙◌}
use mathlib.Core.List.{List, [], ◌∷◌, map}
use mathlib.Core.Bool.{Bool, true, false, ◌&&◌, ◌||◌, not}
use mathlib.Core.Logic.{◌⊎◌, inl, inr, ⊎_elim}
use lib.ListN.{length, get_or, set}
use lib.Seq.{get_or-set_same, get_or-set_other}
use borrow.Author.Tests.{eqb-true, eq-eqb, not-true, not-false}
use native.Mathlib.Nat.{not-suc-le-zero, le_of_suc-le-suc, le_refl}
use native.Mathlib.Omega.{arith}
use native.Mathlib.Decide.{ℕ_discrete}
use Rattle.reliability.specs.Networks.{Ends, label, merge}
use Rattle.game.specs.Game.{some_below, at, among, marked}
use Rattle.game.specs.Forests.{joins, without, table, has, first, takes, cut, meet, start, next, place, climb, search, count, group}
use Rattle.game.proofs.Ahead.{◌–◌}
use Rattle.game.proofs.Bools.{by_bool, not-both, both, both_of, either, left-of, right_of}
use Rattle.game.proofs.Joined.{joins-sound, not-joined}
use Rattle.game.proofs.Below.{some_of, some_at}
use Rattle.game.proofs.Spanned.{Spanned, Adds, span-at, span_more, span-exchange, without_in, without-of}

-- ---- small forests, computed from the definitions

-- a ring, of which forest 1 has two links
abbrev ring : List Ends
ring = 0 – 1 ∷ 1 – 2 ∷ 2 – 0 ∷ []

-- forest 1 has the first link: it takes the second, not one that it joins, and no loop
takes-row : takes (0 – 1 ∷ 1 – 2 ∷ 1 – 0 ∷ 2 – 2 ∷ []) (1 ∷ 0 ∷ 0 ∷ 0 ∷ []) 1 ≡ false ∷ true ∷ false ∷ false ∷ []
unfolding table among label merge
takes-row = refl

-- the first link is on its own path and on that of the last
cut-row : cut ring (1 ∷ 1 ∷ 0 ∷ []) 0 ≡ true ∷ false ∷ true ∷ []
unfolding table among label merge
cut-row = refl

-- the links on the path of the last are of the next level
next_row : next ring (1 ∷ 1 ∷ 0 ∷ []) (false ∷ false ∷ true ∷ []) ≡ true ∷ true ∷ true ∷ []
unfolding table among label merge some_below
next_row = refl

-- two links side by side, the first in forest 1: forest 2 takes the second
search-row : search (0 – 1 ∷ 0 – 1 ∷ []) (1 ∷ 0 ∷ []) ≡ place 1 2 0
unfolding table among label merge first climb
search-row = refl

-- three nodes, of which a closed set joins two: two groups
group-row : map (group (0 – 2 ∷ 1 – 2 ∷ []) (record { marks = 1 ∷ 0 ∷ []; inside = true ∷ false ∷ [] })) (0 ∷ 1 ∷ 2 ∷ []) ≡ 0 ∷ 1 ∷ 0 ∷ []
unfolding among label merge count
group-row = refl

-- ---- the levels

pub has-table : (n i : ℕ) (p : ℕ → Bool) → i < n → has (table n p) i ≡ p i
unfolding table
has-table zero i p l = absurd (not-suc-le-zero l)
has-table (suc n) zero p l = refl
has-table (suc n) (suc i) p l = has-table n i (λ i. p (suc i)) (le_of_suc-le-suc l)

-- the marks after a link d is given the mark k
module _ (ts : List ℕ) (d k : ℕ) where
  pub other-mark : (i : ℕ) → (i ≡ d → ⊥) → get_or (set ts d k) i 0 ≡ get_or ts i 0
  other-mark i n = get_or-set_other ts d i k 0 n

  pub set-adds : (j : ℕ) → Adds (marked j ts) (marked j (set ts d k)) d
  set-adds j i h = go (ℕ_discrete i d)
    where
      go : Dec (i ≡ d) → (marked j ts i ≡ true) ⊎ (i ≡ d)
      go (yes e) = inr e
      go (no n) = inl (rw (other-mark i n) at h)

  pub set-fewer : d < length ts → (j : ℕ) → (j ≡ k → ⊥) → (i : ℕ) → marked j (set ts d k) i ≡ true → (marked j ts i ≡ true) × (i ≡ d → ⊥)
  set-fewer l j n i h = go (ℕ_discrete i d)
    where
      go : Dec (i ≡ d) → (marked j ts i ≡ true) × (i ≡ d → ⊥)
      go (yes e) = absurd (n (sym (eqb-true _ _ h) ∙ ap (λ i. get_or (set ts d k) i 0) e ∙ get_or-set_same ts d k 0 l))
      go (no m) = (rw (other-mark i m) at h, m)

module _ (es : List Ends) (ts : List ℕ) where
  unfoldable pub level : ℕ → List Bool
  level zero = start es ts
  level (suc l) = next es ts (level l)

  -- the forest of a link, without it
  abbrev pub rest : ℕ → ℕ → Bool
  rest f = without (marked (get_or ts f 0) ts) f

  -- no link of a set can be placed
  abbrev pub NoneFits : List Bool → Type 0
  NoneFits ds = (q : ℕ) → q < length es → has ds q ≡ true → Spanned es (marked 1 ts) q × Spanned es (marked 2 ts) q

  pub start-in : (i : ℕ) → i < length es → has (start es ts) i ≡ true → get_or ts i 0 ≡ 0
  start-in i l h = eqb-true (get_or ts i 0) 0 (sym (has-table (length es) i (marked 0 ts) l) ∙ h)

  pub start_of : (i : ℕ) → i < length es → get_or ts i 0 ≡ 0 → has (start es ts) i ≡ true
  start_of i l h = has-table (length es) i (marked 0 ts) l ∙ eq-eqb (get_or ts i 0) 0 h

  pub takes-in : (k d : ℕ) → d < length es → has (takes es ts k) d ≡ true → Spanned es (marked k ts) d → ⊥
  takes-in k d l h = not-joined (among (marked k ts) es) (at es d)
      (not-true _ (sym (has-table (length es) d (λ d. not (joins (among (marked k ts) es) (at es d))) l) ∙ h))

  pub takes-not : (k d : ℕ) → d < length es → has (takes es ts k) d ≡ false → Spanned es (marked k ts) d
  takes-not k d l h = joins-sound (among (marked k ts) es) (at es d)
      (not-false _ (sym (has-table (length es) d (λ d. not (joins (among (marked k ts) es) (at es d))) l) ∙ h))

  cut-is : (f d : ℕ) → d < length es → has (cut es ts f) d ≡ not (joins (among (rest f) es) (at es d))
  cut-is f d l = has-table (length es) d (λ d. not (joins (among (rest f) es) (at es d))) l

  next-is : (ds : List Bool) (f : ℕ) → f < length es → has (next es ts ds) f ≡ has ds f || meet (length es) ds (cut es ts f)
  next-is ds f l = has-table (length es) f (λ f. has ds f || meet (length es) ds (cut es ts f)) l

  pub next-keeps : (ds : List Bool) (f : ℕ) → f < length es → has ds f ≡ true → has (next es ts ds) f ≡ true
  next-keeps ds f l h = next-is ds f l ∙ left-of (has ds f) _ h

  pub next_of : (ds : List Bool) (f q : ℕ) → f < length es → q < length es → has ds q ≡ true → (Spanned es (rest f) q → ⊥) → has (next es ts ds) f ≡ true
  next_of ds f q l k h n =
      next-is ds f l
      ∙ right_of (has ds f) _ (some_of (length es) _ q k (both_of (has ds q) _ h (cut-is f q k ∙ by_bool (λ b. not b ≡ true) (joins (among (rest f) es) (at es q)) (λ j. absurd (n (joins-sound _ _ j))) (λ j. refl))))

  pub next-in : (ds : List Bool) (f : ℕ) → f < length es → has (next es ts ds) f ≡ true
      → (has ds f ≡ true) ⊎ ((q : ℕ) × (q < length es) × (has ds q ≡ true) × (Spanned es (rest f) q → ⊥))
  next-in ds f l h = go (either (has ds f) (meet (length es) ds (cut es ts f)) (sym (next-is ds f l) ∙ h))
    where
      go : (has ds f ≡ true) ⊎ (meet (length es) ds (cut es ts f) ≡ true) → (has ds f ≡ true) ⊎ ((q : ℕ) × (q < length es) × (has ds q ≡ true) × (Spanned es (rest f) q → ⊥))
      go (inl e) = inl e
      go (inr e) =
          let (q, k, t) = some_at (length es) (λ d. has ds d && has (cut es ts f) d) e in
          let r = both (has ds q) (has (cut es ts f) q) t in
          inr (q, k, r.0, not-joined _ _ (not-true _ (sym (cut-is f q k) ∙ r.1)))

  -- each level has the links of those before it
  pub rises : (l j i : ℕ) → j ≤ l → i < length es → has (level j) i ≡ true → has (level l) i ≡ true
  unfolding level
  rises zero j i h k e = let z : j ≡ 0 = omega arith in rw z at e
  rises (suc l) j i h k e = go (ℕ_discrete j (suc l)) (λ m. rises l j i m k e)
    where
      go : Dec (j ≡ suc l) → (j ≤ l → has (level l) i ≡ true) → has (next es ts (level l)) i ≡ true
      go (yes z) r = rw z at e
      go (no n) r = next-keeps (level l) i k (r (omega arith))

-- a link d of level l + 1 goes from its forest to the forest k, and no link of level l could be placed
module _ (es : List Ends) (ts : List ℕ) (l d k : ℕ) (long : length es ≤ length ts) (inside : d < length es)
    (new : has (level es ts l) d ≡ false) (fits : Spanned es (marked k ts) d → ⊥)
    (below : (q : ℕ) → q < length es → has (level es ts l) q ≡ true → Spanned es (marked k ts) q) where
  abbrev moved : List ℕ
  moved = set ts d k

  -- what spans p in the forest c without q still does not
  uncut : (c q p : ℕ) → (q ≡ d → ⊥) → Spanned es (marked k ts) p → (Spanned es (without (marked c ts) q) p → ⊥) → Spanned es (without (marked c moved) q) p → ⊥
  uncut c q p off sp n s = go (ℕ_discrete c k)
    where
      adds : Adds (without (marked c ts) q) (without (marked c moved) q) d
      adds i w =
          let r = without_in (marked c moved) q i w in
          ⊎_elim (λ h. inl (without-of (marked c ts) q i h r.1)) (λ h. inr h) (set-adds ts d k c i r.0)

      go : Dec (c ≡ k) → ⊥
      go (yes e) =
          fits (rw e at (span-exchange es (without (marked c ts) q) (without (marked c moved) q) (marked c ts) d p adds
          (λ i l w. span-at es (marked c ts) i l (without_in (marked c ts) q i w).0) (rw e sp) s n))
      go (no m) =
          n (span_more es (without (marked c moved) q) (without (marked c ts) q) p (λ i l w.
          let r = without_in (marked c moved) q i w in
          without-of (marked c ts) q i (set-fewer ts d k (omega arith) c m i r.0).0 r.1) s)

  not-d : (j q : ℕ) → j ≤ l → q < length es → has (level es ts j) q ≡ true → q ≡ d → ⊥
  not-d j q h m e s = not-both _ (rw s at (rises es ts l j q h m e)) new

  -- the levels up to l keep their links
  kept : (j q : ℕ) → j ≤ l → q < length es → has (level es ts j) q ≡ true → has (level es moved j) q ≡ true
  unfolding level
  kept zero q h m e = start_of es moved q m (other-mark ts d k q (not-d 0 q h m e) ∙ start-in es ts q m e)
  kept (suc j) q h m e = go (next-in es ts (level es ts j) q m e) (λ p i f. kept j p (omega arith) i f)
    where
      go : (has (level es ts j) q ≡ true) ⊎ ((p : ℕ) × (p < length es) × (has (level es ts j) p ≡ true) × (Spanned es (rest es ts q) p → ⊥))
          → ((p : ℕ) → p < length es → has (level es ts j) p ≡ true → has (level es moved j) p ≡ true) → has (next es moved (level es moved j)) q ≡ true
      go (inl f) later = next-keeps es moved (level es moved j) q m (later q m f)
      go (inr r) later =
          let p = r.0 in
          let off = not-d (suc j) q h m e in
          next_of es moved (level es moved j) q p m r.1 (later p r.1 r.2)
          (λ s. uncut (get_or ts q 0) q p off (below p r.1 (rises es ts l j p (omega arith) r.1 r.2)) r.3 (rw (other-mark ts d k q off) at s))

  -- so a link of level l can be placed where d was
  pub falls : has (level es ts (suc l)) d ≡ true
      → (p : ℕ) × (p < length es) × (has (level es moved l) p ≡ true) × (Spanned es (marked (get_or ts d 0) moved) p → ⊥)
  unfolding level
  falls e = go (next-in es ts (level es ts l) d inside e)
    where
      own : get_or ts d 0 ≡ k → ⊥
      own f = fits (span-at es (marked k ts) d inside (eq-eqb _ _ f))

      go : (has (level es ts l) d ≡ true) ⊎ ((p : ℕ) × (p < length es) × (has (level es ts l) p ≡ true) × (Spanned es (rest es ts d) p → ⊥))
          → (p : ℕ) × (p < length es) × (has (level es moved l) p ≡ true) × (Spanned es (marked (get_or ts d 0) moved) p → ⊥)
      go (inl f) = not-both _ f new
      go (inr r) =
          let p = r.0 in (
            p,
            r.1,
            kept l p (le_refl l) r.1 r.2,
            λ s. r.3 (span_more es (marked (get_or ts d 0) moved) (rest es ts d) p (λ i m w.
                let f = set-fewer ts d k (omega arith) (get_or ts d 0) own i w in
                without-of (marked (get_or ts d 0) ts) d i f.0 f.1) s),
          )
