-- What is known where a step fits.
use Prim.Native.Nat.{ℕ, ◌<◌, zero-le, suc-le-suc}
use mathlib.Core.Path.{◌≡◌, refl, sym, ap, ◌∙◌}
use mathlib.Core.List.{List, [], ◌∷◌, map, Memᴰ}
use mathlib.Core.Bool.{Bool, true, false, cond, not, ◌&&◌, ◌||◌, true≢false, and-eq-true_iff, or-true as or-true_right}
use mathlib.Core.Logic.{◌⊎◌, inl, inr, ⊎_map}
use mathlib.Core.Option
use mathlib.Core.Option.{Option, some, none}
use native.Mathlib.Nat.{not-suc-le-zero}
use native.Mathlib.Omega.{arith}
use lib.Dec.{eqb, leb}
use lib.ListN.{length}
use borrow.Author.Tests.{eqb-true, eqb-false, eq-eqb}
use Rattle.reliability.specs.declared.Link.{Link}
use Rattle.reliability.specs.declared.Step.{Step}
use Rattle.reliability.specs.declared.Step.TheVariants.{OneNode, Disconnected, Loop, Parallel, Split}
use Rattle.reliability.specs.Networks.{Network, Ascending, ends, link_at, label, every, connected, pieces_of}
use Rattle.reliability.specs.Rule.{is_loop, touches, alike, first_at, first_pair, lowest, end_of, series_of, when, ◌otherwise◌, next_at, first_link, chosen, delete_at, across, leaves, step_at}
use Rattle.reliability.proofs.Lists.{or-true, getD-mem}
use Rattle.reliability.proofs.Lawful.{Uniform, View, Place}
use Rattle.reliability.proofs.Searches.{Holds, Fails, Placed, Pair}
use Rattle.reliability.proofs.LargestSum.{at-largest}
use Rattle.reliability.proofs.States.{Joins, Off}

-- e joins v to another node
pub record Leg (v : ℕ) (e : Link) : Type 0 where
  pub joins : Joins (ends e) v (across v e)
  pub differ : across v e ≡ v → ⊥

-- no link of es touches v
abbrev pub Clear : ℕ → List Link → Type 0
Clear v es = (e : Link) → Memᴰ e es → Off v (ends e)

pub record AtLoop (g : Network) (i : ℕ) : Type 0 where
  pub place : i < length g.links
  pub same : (link_at g i).a ≡ (link_at g i).b

pub record AtPair (g : Network) (i j : ℕ) : Type 0 where
  pub order : i < j
  pub place : j < length g.links
  pub alike : Joins (ends (link_at g j)) (link_at g i).a (link_at g i).b

pub record AtEnd (g : Network) (v i : ℕ) : Type 0 where
  pub node : Memᴰ v g.nodes
  pub place : i < length g.links
  pub leg : Leg v (link_at g i)
  pub others : Clear v (delete_at i g.links)

pub record AtSeries (g : Network) (v i j : ℕ) : Type 0 where
  pub node : Memᴰ v g.nodes
  pub order : i < j
  pub place : j < length g.links
  pub first : Leg v (link_at g i)
  pub second : Leg v (link_at g j)
  pub others : Clear v (delete_at i (delete_at j g.links))

pub record AtSplit (g : Network) (i : ℕ) : Type 0 where
  pub place : i < length g.links
  pub differ : (link_at g i).a ≡ (link_at g i).b → ⊥

-- ---- what a test says

or-false : (s t : Bool) → s || t ≡ false → (s ≡ false) × (t ≡ false)
or-false true t h = absurd (true≢false h)
or-false false t h = (refl, h)

both : (a b c d : ℕ) → eqb a b && eqb c d ≡ true → (a ≡ b) × (c ≡ d)
both a b c d h =
    let k = (and-eq-true_iff (eqb a b) (eqb c d)).0 h in
    (eqb-true a b k.0, eqb-true c d k.1)

pub alike-joins : (e f : Link) → alike e f ≡ true → Joins (ends f) e.a e.b
alike-joins e f h =
    ⊎_map (λ k. let q = both e.a f.a e.b f.b k in (sym q.0, sym q.1)) (λ k. let q = both e.a f.b e.b f.a k in (sym q.1, sym q.0))
    (or-true (eqb e.a f.a && eqb e.b f.b) (eqb e.a f.b && eqb e.b f.a) h)

-- two links that join the same two nodes are alike
pub joins-alike : (e f : Link) (v w : ℕ) → Joins (ends e) v w → Joins (ends f) v w → alike e f ≡ true
joins-alike e f v w (inl p) (inl q) = rw (p.0, p.1, q.0, q.1, eq-eqb v v refl, eq-eqb w w refl)
joins-alike e f v w (inl p) (inr q) = rw (p.0, p.1, q.0, q.1, eq-eqb v v refl, eq-eqb w w refl) (or-true_right (eqb v w && eqb w v))
joins-alike e f v w (inr p) (inl q) = rw (p.0, p.1, q.0, q.1, eq-eqb v v refl, eq-eqb w w refl) (or-true_right (eqb w v && eqb v w))
joins-alike e f v w (inr p) (inr q) = rw (p.0, p.1, q.0, q.1, eq-eqb v v refl, eq-eqb w w refl)

pub at_pair : (g : Network) (ij : ℕ × ℕ) → Pair g.links ij → AtPair g ij.0 ij.1
at_pair g ij p = record { order = p.order; place = p.place; alike = alike-joins (link_at g ij.0) (link_at g ij.1) p.test }

pub touches-leg : (v : ℕ) (e : Link) → touches v e ≡ true → is_loop e ≡ false → Leg v e
touches-leg v e h l = let k = go (eqb e.a v) refl h in record { joins = k.0; differ = k.1 }
  where
    go : (t : Bool) → eqb e.a v ≡ t → t || eqb e.b v ≡ true → let w = cond t e.b e.a in Joins (ends e) v w × (w ≡ v → ⊥)
    go true q h = (inl (eqb-true e.a v q, refl), λ r. eqb-false e.a e.b l (eqb-true e.a v q ∙ sym r))
    go false q h = (inr (refl, eqb-true e.b v h), eqb-false e.a v q)

pub misses-off : (v : ℕ) (e : Link) → touches v e ≡ false → Off v (ends e)
misses-off v e h =
    let k = or-false (eqb e.a v) (eqb e.b v) h in
    (eqb-false e.a v k.0, eqb-false e.b v k.1)

-- two nodes are connected by some link
some-link : (vs : List ℕ) (es : List Link) → Ascending vs → connected vs (map ends es) ≡ true → 1 < length vs → 0 < length es
unfolding Ascending connected label every
some-link vs (e ∷ es) a c h = suc-le-suc zero-le
some-link [] [] a c h = absurd (not-suc-le-zero h)
some-link (v ∷ []) [] a c h = absurd (omega arith)
some-link (v ∷ (u ∷ vs)) [] a c h =
    let same = ((and-eq-true_iff (eqb u v) (every (λ w. eqb w v) vs)).0 c).0 in
    absurd (omega (arith, a.0 u (Memᴰ.head refl), eqb-true u v same))

abbrev pub view : View Network
view = record { links = λ g. g.links; nodes = λ g. g.nodes; terminals = λ g. g.nodes }

-- ---- a network without loops

module _ (g : Network) (no_loop : Fails is_loop g.links) where
  leg : (v i : ℕ) → Holds (touches v) g.links i → Leg v (link_at g i)
  leg v i h = touches-leg v (link_at g i) h.test (no_loop (link_at g i) (getD-mem g.links _ h.place))

  pub at-end : (v i : ℕ) → Memᴰ v g.nodes → Placed (touches v) g.links (i ∷ []) → AtEnd g v i
  at-end v i n h =
      record { node = n; place = h.0.place; leg = leg v i h.0; others = λ e m. misses-off v e (h.1 e m) }

  pub at-series : (v i j : ℕ) → Memᴰ v g.nodes → Placed (touches v) g.links (i ∷ (j ∷ [])) → AtSeries g v i j
  at-series v i j n h =
      record { node = n; order = h.0; place = h.2.place; first = leg v i h.1; second = leg v j h.2; others = λ e m. misses-off v e (h.3 e m) }

  pub at_split : (vs : List ℕ) → Ascending vs → 1 < length vs → connected vs (map ends g.links) ≡ true → (i : ℕ) → Place view g i → AtSplit g i
  at_split vs a h k i at =
      let place = at (some-link vs g.links a k h) in
      let e = link_at g i in
      record { place = place; differ = eqb-false e.a e.b (no_loop e (getD-mem g.links _ place)) }

-- ---- the choice of the link to split on

-- document 01's choice names a link
pub first-link : (g : Network) → Place view g (first_link g)
first-link g here = here

-- so does the rule's
pub chosen-link : (g : Network) → Place view g (chosen g)
chosen-link g here = (at-largest g here).place

-- ---- document 01's rule by the place of a split

-- a step by the place of a split: one and the same for every place, or the split there
abbrev pub UniformStep : (ℕ → Step) → Type 0
UniformStep x = ((s : Step) × ((i : ℕ) → x i ≡ s)) ⊎ ((i : ℕ) → x i ≡ Split i)

pub uniform-otherwise : (o : Option Step) (x : ℕ → Step) → UniformStep x → UniformStep (λ i. o otherwise x i)
uniform-otherwise (some s) x u = inl (s, λ i. refl)
uniform-otherwise none x u = u

uniform-next : (g : Network) → UniformStep (λ i. next_at i g)
unfolding next_at
uniform-next g =
    uniform-otherwise (Option.map Loop (first_at is_loop g.links)) _
    (uniform-otherwise (when (leb (length g.nodes) 1) OneNode) _
    (uniform-otherwise (when (not (eqb (pieces_of g) 1)) Disconnected) _
    (uniform-otherwise (Option.map (λ ij. Parallel ij.0 ij.1) (first_pair g.links)) _
    (uniform-otherwise (lowest end_of g.links g.nodes) _ (uniform-otherwise (lowest series_of g.links g.nodes) _ (inr (λ i. refl)))))))

pub uniform : (g : Network) → Uniform (λ i. step_at i g)
unfolding leaves
uniform g = go (uniform-next g)
  where
    go : UniformStep (λ i. next_at i g) → Uniform (λ i. step_at i g)
    go (inl u) = inl (leaves g u.0, λ i. ap (leaves g) (u.1 i))
    go (inr u) = inr (λ i. (_, _, _, ap (leaves g) (u i)))
