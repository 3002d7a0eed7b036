-- What `connected` means: by paths, and by colourings.
use Prim.Native.Nat.{ℕ, ◌≤◌, min, max}
use mathlib.Core.Path.{◌≡◌, refl, sym, ap, ◌∙◌}
use mathlib.Core.List.{List, [], ◌∷◌, Memᴰ}
use mathlib.Core.Bool.{true, false, cond}
use mathlib.Core.Logic.{◌↔◌}
use lib.Dec.{eqb}
use borrow.Author.Tests.{eqb-true, eq-eqb}
use native.Mathlib.Decide.{dec_le}
use native.Mathlib.Omega.{arith}
use Rattle.reliability.specs.Networks.{Ends, merge, label, connected, Path, here, forth, back}
use Rattle.reliability.proofs.Lists.{by_eqb, both_ways, not-true-false, every-at, every_of}

-- ---- paths

module _ {t : List Ends} where
  pub join : {u v w : ℕ} → Path t u v → Path t v w → Path t u w
  join here q = q
  join (forth m p) q = forth m (join p q)
  join (back m p) q = back m (join p q)

  pub turn : {u v : ℕ} → Path t u v → Path t v u
  turn here = here
  turn (forth m p) = join (turn p) (back m here)
  turn (back m p) = join (turn p) (forth m here)

  more : {u v : ℕ} (e : Ends) → Path t u v → Path (e ∷ t) u v
  more e here = here
  more e (forth m p) = forth (Memᴰ.tail m) (more e p)
  more e (back m p) = back (Memᴰ.tail m) (more e p)

  to-merged : (x y z : ℕ) → Path t x y → Path t z (merge x y z)
  unfolding merge
  to-merged x y z p = by_eqb (λ b. Path t z (cond b (min x y) z)) z (max x y) (λ e. go e (dec_le x y)) (λ n. here)
    where
      go : z ≡ max x y → Dec (x ≤ y) → Path t z (min x y)
      go e (yes h) = let zy : z ≡ y = omega arith in let mx : min x y ≡ x = omega arith in rw (zy, mx) (turn p)
      go e (no h) = let zx : z ≡ x = omega arith in let my : min x y ≡ y = omega arith in rw (zx, my) p

-- a path leads from each node to its label
pub to-label : (t : List Ends) (v : ℕ) → Path t v (label t v)
unfolding label
to-label [] v = here
to-label (e ∷ t) v =
    let ends = join (turn (more e (to-label t e.a))) (forth (Memᴰ.head refl) (more e (to-label t e.b))) in
    join (more e (to-label t v)) (to-merged _ _ (label t v) ends)

-- more links have the same paths
path-within : {t s : List Ends} → ((e : Ends) → Memᴰ e t → Memᴰ e s) → {u v : ℕ} → Path t u v → Path s u v
path-within h here = here
path-within h (forth {e = e} m p) = forth (h e m) (path-within h p)
path-within h (back {e = e} m p) = back (h e m) (path-within h p)

-- ---- colourings

-- no link of t joins two colours
abbrev pub Const : (ℕ → ℕ) → List Ends → Type 0
Const χ [] = Unit {0}
Const χ (e ∷ t) = (χ e.a ≡ χ e.b) × Const χ t

const-at : (χ : ℕ → ℕ) (t : List Ends) {e : Ends} → Const χ t → Memᴰ e t → χ e.a ≡ χ e.b
const-at χ (f ∷ t) c (Memᴰ.head p) = ap (λ (e : Ends). χ e.a) p ∙ c.0 ∙ ap (λ (e : Ends). χ e.b) (sym p)
const-at χ (f ∷ t) c (Memᴰ.tail m) = const-at χ t c.1 m
const-at χ [] {e = e} c x'' = elim x'' [ ]

-- one colour along a path
pub along : (χ : ℕ → ℕ) (t : List Ends) {u v : ℕ} → Const χ t → Path t u v → χ u ≡ χ v
along χ t c here = refl
along χ t c (forth m p) = const-at χ t c m ∙ along χ t c p
along χ t c (back m p) = sym (const-at χ t c m) ∙ along χ t c p

const-map : (f χ : ℕ → ℕ) (t : List Ends) → Const χ t → Const (λ v. f (χ v)) t
const-map f χ [] c = tt
const-map f χ (e ∷ t) c = (ap f c.0, const-map f χ t c.1)

merged : (x y z : ℕ) → ((z ≡ max x y → ⊥) → z ≡ min x y) → merge x y z ≡ min x y
unfolding merge
merged x y z h = by_eqb (λ b. cond b (min x y) z ≡ min x y) z (max x y) (λ e. refl) h

-- the labels are such a colouring
pub label-const : (t : List Ends) → Const (label t) t
unfolding label
label-const [] = tt
label-const (e ∷ t) =
    let x = label t e.a in
    let y = label t e.b in
    (merged x y x (λ n. omega arith) ∙ sym (merged x y y (λ n. omega arith)), const-map (merge x y) (label t) t (label-const t))

-- two nodes have one label: a path joins them
pub label-means : (t : List Ends) (u v : ℕ) → (label t u ≡ label t v) ↔ Path t u v
label-means t u v = (λ e. join (to-label t u) (rw e (turn (to-label t v))), along (label t) t (label-const t))

-- ---- connected

-- every colouring by which no link of t joins two colours gives the nodes vs one colour
abbrev pub Conn : List ℕ → List Ends → Type 0
Conn vs t = (χ : ℕ → ℕ) → Const χ t → (u v : ℕ) → Memᴰ u vs → Memᴰ v vs → χ u ≡ χ v

one_label : (vs : List ℕ) (t : List Ends) → connected vs t ≡ true → (u v : ℕ) → Memᴰ u vs → Memᴰ v vs → label t u ≡ label t v
unfolding connected
one_label (w ∷ vs) t h u v m n = first u m ∙ sym (first v n)
  where
    first : (u : ℕ) → Memᴰ u (w ∷ vs) → label t u ≡ label t w
    first u (Memᴰ.head p) = ap (label t) p
    first u (Memᴰ.tail m) = eqb-true _ _ (every-at (λ u. eqb (label t u) (label t w)) h m)
one_label [] t h u v m n = elim m [ ]

pub connected-complete : (vs : List ℕ) (t : List Ends) → Conn vs t → connected vs t ≡ true
unfolding connected
connected-complete [] t h = refl
connected-complete (w ∷ vs) t h =
    every_of _ vs (λ u m. eq-eqb _ _ (h (label t) (label-const t) u w (Memᴰ.tail m) (Memᴰ.head refl)))

-- the links t connect the nodes vs: a path of them leads from each to each
pub connected-means : (vs : List ℕ) (t : List Ends) → (connected vs t ≡ true) ↔ ((u v : ℕ) → Memᴰ u vs → Memᴰ v vs → Path t u v)
connected-means vs t = (
  λ h u v m n. (label-means t u v).0 (one_label vs t h u v m n),
  λ paths. connected-complete vs t (λ χ c u v m n. along χ t c (paths u v m n)),
)

-- fewer nodes are connected by more links
pub connected-within : (vs ws : List ℕ) (t s : List Ends) → ((u : ℕ) → Memᴰ u ws → Memᴰ u vs) → ((e : Ends) → Memᴰ e t → Memᴰ e s)
    → connected vs t ≡ true → connected ws s ≡ true
connected-within vs ws t s nodes links h =
    (connected-means ws s).1 (λ u v m n. path-within links ((connected-means vs t).0 h u v (nodes u m) (nodes v n)))

pub connected-sound : (vs : List ℕ) (t : List Ends) → connected vs t ≡ true → Conn vs t
connected-sound vs t h χ c u v m n = along χ t c ((connected-means vs t).0 h u v m n)

-- two sets of links connect alike where each does if the other does
pub connected-eq : (vs ws : List ℕ) (t s : List Ends) → (Conn vs t → Conn ws s) → (Conn ws s → Conn vs t) → connected vs t ≡ connected ws s
connected-eq vs ws t s f g =
    both_ways _ _ (λ h. connected-complete ws s (f (connected-sound vs t h))) (λ h. connected-complete vs t (g (connected-sound ws s h)))

pub not-connected : (vs : List ℕ) (t : List Ends) → (Conn vs t → ⊥) → connected vs t ≡ false
not-connected vs t n = not-true-false (λ h. n (connected-sound vs t h))

-- one more node is connected with nodes that are where it has the label of one of them
pub one_more : (v c : ℕ) (vs : List ℕ) (t : List Ends) → connected vs t ≡ true → Memᴰ c vs → connected (v ∷ vs) t ≡ eqb (label t v) (label t c)
unfolding connected
one_more v c vs t h m = by_eqb (λ b. connected (v ∷ vs) t ≡ b) (label t v) (label t c)
    (λ e. every_of _ vs (λ u n. eq-eqb _ _ (one_label vs t h u c n m ∙ sym e)))
    (λ differ. not-connected (v ∷ vs) t (λ conn. differ (conn (label t) (label-const t) v c (Memᴰ.head refl) (Memᴰ.tail m))))
