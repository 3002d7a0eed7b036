-- The links at each node, counted anew after each change.
use Prim.Native.Nat.{ℕ, ◌<◌}
use mathlib.Core.Path.{◌≡◌, refl, sym, ap, ap₂, ◌∙◌}
use mathlib.Core.List.{List}
use mathlib.Core.Bool.{Bool, true, false, cond, not, ◌&&◌, ◌||◌, or-true, or-false, and-false, true≢false}
use native.Mathlib.Omega.{arith}
use lib.Dec.{eqb}
use lib.ListN.{length, get_or, set, length-set}
use lib.Seq.{ext_get_or, get_or-set_same, get_or-set_other}
use borrow.Author.Tests.{eqb-true, eq-eqb, ne_eqb}
use Rattle.bits.specs.Members.{members}
use Rattle.bits.proofs.Digits.{length_digits}
use Rattle.reliability.specs.Rule.{rename}
use Rattle.reliability.proofs.Lists.{by_eqb}
use Rattle.search.specs.Searches.{marked, touching, Incidence}
use Rattle.search.proofs.Sets.{has, has-with, has-without, get_or-marked, length_marked, at-node}
use Rattle.parts.specs.Tallies.{Written, Merged, changed_at}
use Rattle.parts.proofs.Changes.{has-written, has-merged, length-changed, get_or-changed}

-- the links in use, with their two ends by place
pub record Ends (as₁ bs : List ℕ) : Type 0 where
  pub a_length : length as₁ ≡ 64
  pub b_length : length bs ≡ 64

-- counted place by place
pub counted : (at as₁ bs : List ℕ) (alive : ℕ) → Ends as₁ bs
    → ((v p : ℕ) → v < 32 → p < 64 → has (get_or at v 0) p ≡ (has alive p && touching v (get_or as₁ p 0) (get_or bs p 0))) → Incidence at alive as₁ bs
counted at as₁ bs alive e h v below =
    let s = get_or at v 0 in
    let l = length_digits 64 alive in
    let m = length_digits 64 s in
    ext_get_or false (members s) (marked (touching v) (members alive) as₁ bs) (omega (arith, e.a_length, e.b_length, length_marked (touching v) (members alive) as₁ bs))
    (λ p k. h v p below (omega arith) ∙ sym (get_or-marked (touching v) (members alive) as₁ bs p (omega (arith, e.a_length)) (omega (arith, e.b_length))))

-- one number of a list written
at_place : (l : List ℕ) (k x p : ℕ) → k < length l → get_or (set l k x) p 0 ≡ cond (eqb p k) x (get_or l p 0)
at_place l k x p h = by_eqb (λ t. get_or (set l k x) p 0 ≡ cond t x (get_or l p 0)) p k (λ q. rw q (get_or-set_same l k x 0 h)) (λ n. get_or-set_other l k p x 0 n)

both_ends : (as₁ bs : List ℕ) (k x y : ℕ) → k < 64 → Ends as₁ bs → Ends (set as₁ k x) (set bs k y)
both_ends as₁ bs k x y h e = record { a_length = length-set as₁ k x ∙ e.a_length; b_length = length-set bs k y ∙ e.b_length }

touching-at : (as₁ bs : List ℕ) (k x y v p : ℕ) → k < 64 → Ends as₁ bs
    → touching v (get_or (set as₁ k x) p 0) (get_or (set bs k y) p 0) ≡ touching v (cond (eqb p k) x (get_or as₁ p 0)) (cond (eqb p k) y (get_or bs p 0))
touching-at as₁ bs k x y v p h e = ap₂ (touching v) (at_place as₁ k x p (omega (arith, e.a_length))) (at_place bs k y p (omega (arith, e.b_length)))

-- the two writes past each other
others-kept : (s t b c u : Bool) → cond (t && false) b (cond (s && false) c u) ≡ u
others-kept true true b c u = refl
others-kept true false b c u = refl
others-kept false true b c u = refl
others-kept false false b c u = refl

-- an end after the renaming
one_end : (keep gone : ℕ) → (keep ≡ gone → ⊥) → (a v : ℕ) → eqb (rename keep gone a) v ≡ cond (eqb v gone) false (cond (eqb v keep) (eqb a keep || eqb a gone) (eqb a v))
one_end keep gone differ a v = by_eqb (λ t. eqb (cond t keep a) v ≡ cond (eqb v gone) false (cond (eqb v keep) (eqb a keep || t) (eqb a v))) a gone
    (λ q. by_eqb (λ t. eqb keep v ≡ cond t false (cond (eqb v keep) (eqb a keep || true) (eqb a v))) v gone
    (λ e. ne_eqb keep v (λ k. differ (k ∙ e)))
    (λ n. by_eqb (λ t. eqb keep v ≡ cond t (eqb a keep || true) (eqb a v)) v keep
    (λ e. eq-eqb keep v (sym e) ∙ sym (or-true (eqb a keep)))
    (λ m. ne_eqb keep v (λ e. m (sym e)) ∙ sym (ne_eqb a v (λ e. n (sym e ∙ q))))))
    (λ o. by_eqb (λ t. eqb a v ≡ cond t false (cond (eqb v keep) (eqb a keep || false) (eqb a v))) v gone
    (λ e. ne_eqb a v (λ k. o (k ∙ e)))
    (λ n. by_eqb (λ t. eqb a v ≡ cond t (eqb a keep || false) (eqb a v)) v keep (λ e. rw e (sym (or-false (eqb a keep)))) (λ m. refl)))

-- both ends
two_ends : (keep gone : ℕ) → (keep ≡ gone → ⊥) → (a b v : ℕ)
    → touching v (rename keep gone a) (rename keep gone b) ≡ cond (eqb v gone) false (cond (eqb v keep) (touching keep a b || touching gone a b) (touching v a b))
two_ends keep gone differ a b v =
    ap₂ ◌||◌ (one_end keep gone differ a v) (one_end keep gone differ b v) ∙ go (eqb v gone) (eqb v keep) (eqb a keep) (eqb a gone) (eqb b keep) (eqb b gone) (eqb a v) (eqb b v)
  where
    go : (s t x y x₁ y₁ z z₁ : Bool) → (cond s false (cond t (x || y) z) || cond s false (cond t (x₁ || y₁) z₁)) ≡ cond s false (cond t ((x || x₁) || (y || y₁)) (z || z₁))
    go true t x y x₁ y₁ z z₁ = refl
    go false false x y x₁ y₁ z z₁ = refl
    go false true true y x₁ y₁ z z₁ = refl
    go false true false true true y₁ z z₁ = refl
    go false true false true false y₁ z z₁ = refl
    go false true false false x₁ y₁ z z₁ = refl

-- a link that does not touch gone keeps its ends
pub renamed-touching : (keep gone a b : ℕ) (t : Bool) → touching gone a b ≡ t → (cond t (rename keep gone a) a ≡ rename keep gone a) × (cond t (rename keep gone b) b ≡ rename keep gone b)
renamed-touching keep gone a b true e = (refl, refl)
renamed-touching keep gone a b false e = let h = neither (eqb a gone) (eqb b gone) e in (ap (λ (t : Bool). cond t keep a) (sym h.0), ap (λ (t : Bool). cond t keep b) (sym h.1))
  where
    neither : (s t : Bool) → (s || t) ≡ false → (s ≡ false) × (t ≡ false)
    neither false false e = (refl, refl)
    neither false true e = absurd (true≢false e)
    neither true t e = absurd (true≢false e)

module _ (at as₁ bs : List ℕ) (alive : ℕ) (ends : Ends as₁ bs) (incidence : Incidence at alive as₁ bs) where
  node : (v p : ℕ) → v < 32 → has (get_or at v 0) p ≡ (has alive p && touching v (get_or as₁ p 0) (get_or bs p 0))
  node v p h = at-node at as₁ bs alive incidence v h p

  -- link i goes
  pub taken : (i others : ℕ) (one two : List ℕ) → i < 64 → members others ≡ set (members alive) i false
      → Written false (get_or as₁ i 0) i at one → Written false (get_or bs i 0) i one two → Incidence two others as₁ bs
  taken i others one two below cleared first second = counted two as₁ bs others ends (λ v p h k.
      has-written false (get_or bs i 0) i one two below second v p
      ∙ ap (λ (b : Bool). cond (eqb (get_or bs i 0) v && eqb p i) false b) (has-written false (get_or as₁ i 0) i at one below first v p ∙ ap (λ (b : Bool). cond (eqb (get_or as₁ i 0) v && eqb p i) false b) (node v p h))
      ∙ by_eqb (λ t. cond (eqb (get_or bs i 0) v && t) false (cond (eqb (get_or as₁ i 0) v && t) false (has alive p && touching v (get_or as₁ p 0) (get_or bs p 0))) ≡ ((not t && has alive p) && touching v (get_or as₁ p 0) (get_or bs p 0))) p i
      (λ q. rw q (here (eqb (get_or as₁ i 0) v) (eqb (get_or bs i 0) v) (has alive i)))
      (λ n. others-kept (eqb (get_or as₁ i 0) v) (eqb (get_or bs i 0) v) false false (has alive p && touching v (get_or as₁ p 0) (get_or bs p 0)))
      ∙ ap (λ (b : Bool). b && touching v (get_or as₁ p 0) (get_or bs p 0)) (sym (has-without others alive i cleared below p)))
    where
      here : (s t u : Bool) → cond (t && true) false (cond (s && true) false (u && (s || t))) ≡ false
      here true true u = refl
      here true false u = refl
      here false true u = refl
      here false false u = and-false u

  -- a link comes, at place k, from x to y
  pub added : (k more x y : ℕ) (one two : List ℕ) → k < 64 → has alive k ≡ false → members more ≡ set (members alive) k true
      → Written true x k at one → Written true y k one two → Incidence two more (set as₁ k x) (set bs k y)
  added k more x y one two below free put first second = counted two (set as₁ k x) (set bs k y) more (both_ends as₁ bs k x y below ends) (λ v p h b.
      has-written true y k one two below second v p
      ∙ ap (λ (b : Bool). cond (eqb y v && eqb p k) true b) (has-written true x k at one below first v p ∙ ap (λ (b : Bool). cond (eqb x v && eqb p k) true b) (node v p h))
      ∙ by_eqb (λ t. cond (eqb y v && t) true (cond (eqb x v && t) true (has alive p && touching v (get_or as₁ p 0) (get_or bs p 0))) ≡ ((t || has alive p) && touching v (cond t x (get_or as₁ p 0)) (cond t y (get_or bs p 0)))) p k
      (λ q. ap (λ (u : Bool). cond (eqb y v && true) true (cond (eqb x v && true) true (u && touching v (get_or as₁ p 0) (get_or bs p 0)))) (ap (has alive) q ∙ free) ∙ here (eqb x v) (eqb y v))
      (λ n. others-kept (eqb x v) (eqb y v) true true (has alive p && touching v (get_or as₁ p 0) (get_or bs p 0)))
      ∙ ap₂ ◌&&◌ (sym (has-with more alive k put below p)) (sym (touching-at as₁ bs k x y v p below ends)))
    where
      here : (s t : Bool) → cond (t && true) true (cond (s && true) true false) ≡ (s || t)
      here true true = refl
      here true false = refl
      here false true = refl
      here false false = refl

  -- link i from w to x, either way round, goes from x to y now
  pub turned : (i w x y : ℕ) (one two : List ℕ) → i < 64 → has alive i ≡ true
      → ((v : ℕ) → touching v (get_or as₁ i 0) (get_or bs i 0) ≡ touching v w x) → (w ≡ x → ⊥)
      → Written false w i at one → Written true y i one two → Incidence two alive (set as₁ i x) (set bs i y)
  turned i w x y one two below used from-to differ first second = counted two (set as₁ i x) (set bs i y) alive (both_ends as₁ bs i x y below ends) (λ v p h b.
      has-written true y i one two below second v p
      ∙ ap (λ (b : Bool). cond (eqb y v && eqb p i) true b) (has-written false w i at one below first v p ∙ ap (λ (b : Bool). cond (eqb w v && eqb p i) false b) (node v p h))
      ∙ by_eqb (λ t. cond (eqb y v && t) true (cond (eqb w v && t) false (has alive p && touching v (get_or as₁ p 0) (get_or bs p 0))) ≡ (has alive p && touching v (cond t x (get_or as₁ p 0)) (cond t y (get_or bs p 0)))) p i
      (λ q. rw (q, used, from-to v) (here (eqb w v) (eqb x v) (eqb y v) (λ e. ne_eqb x v (λ k. differ (eqb-true w v e ∙ sym k)))))
      (λ n. others-kept (eqb w v) (eqb y v) true false (has alive p && touching v (get_or as₁ p 0) (get_or bs p 0)))
      ∙ ap (λ (t : Bool). has alive p && t) (sym (touching-at as₁ bs i x y v p below ends)))
    where
      here : (s t u : Bool) → (s ≡ true → t ≡ false) → cond (u && true) true (cond (s && true) false (s || t)) ≡ (t || u)
      here s t true h = sym (or-true t)
      here true t false h = rw (h refl)
      here false t false h = sym (or-false t)

  -- node gone becomes keep
  pub merged : (keep gone t : ℕ) (after : List ℕ) → keep < 32 → gone < 32 → (keep ≡ gone → ⊥) → members t ≡ members (get_or at gone 0) → Merged keep gone at after
      → Incidence after alive (changed_at (rename keep gone) (members t) as₁) (changed_at (rename keep gone) (members t) bs)
  merged keep gone t after hk hg differ was merges =
      let f = rename keep gone in
      counted after (changed_at f (members t) as₁) (changed_at f (members t) bs) alive
      (record { a_length = length-changed f (members t) as₁ ∙ ends.a_length; b_length = length-changed f (members t) bs ∙ ends.b_length }) (λ v p h b.
      let a = get_or as₁ p 0 in
      let z = get_or bs p 0 in
      has-merged keep gone at after merges v p
      ∙ sets (eqb v gone) (eqb v keep) (has alive p) (touching keep a z) (touching gone a z) (touching v a z) (node keep p hk) (node gone p hg) (node v p h)
      ∙ ap (λ (t : Bool). has alive p && t) (sym (two_ends keep gone differ a z v))
      ∙ used (has alive p) v a z (ap (λ (us : List Bool). get_or us p false) was ∙ node gone p hg)
      ∙ ap (λ (t : Bool). has alive p && t) (sym (ap₂ (touching v) (get_or-changed f (members t) as₁ p (omega (arith, ends.a_length))) (get_or-changed f (members t) bs p (omega (arith, ends.b_length))))))
    where
      sets : (s c u x₁ y₁ z₁ : Bool) {x y z : Bool} → x ≡ (u && x₁) → y ≡ (u && y₁) → z ≡ (u && z₁) → cond s false (cond c (x || y) z) ≡ (u && cond s false (cond c (x₁ || y₁) z₁))
      sets true c u x y z e f g = sym (and-false u)
      sets false true true x y z e f g = ap₂ ◌||◌ e f
      sets false true false x y z e f g = ap₂ ◌||◌ e f
      sets false false u x y z e f g = g

      used : (u : Bool) (v a z : ℕ) {m : Bool} → m ≡ (u && touching gone a z)
          → (u && touching v (rename keep gone a) (rename keep gone z)) ≡ (u && touching v (cond m (rename keep gone a) a) (cond m (rename keep gone z) z))
      used false v a z e = refl
      used true v a z e = let h = renamed-touching keep gone a z _ (sym e) in ap₂ (touching v) (sym h.0) (sym h.1)
