-- The reliability polynomial: where all links have the same weights, the exact sum goes by the numbers of the row.
use Prim.Native.Nat.{ℕ, zero, suc, ◌+◌, ◌-◌, ◌*◌, ◌^◌}
use mathlib.Core.Path.{◌≡◌, refl, sym, ap, ap₂, ◌∙◌}
use mathlib.Core.List.{List, [], ◌∷◌, map, Memᴰ}
use native.Mathlib.Nat.{mul_comm, mul-add, mul-zero, mul-one, add-zero, sub-zero, pow-zero, pow-succ'}
use native.Mathlib.Omega.{arith}
use lib.ListN.{length, length-map}
use Rattle.rounding.specs.Rounding.{S}
use Rattle.rounding.specs.declared.Direction.{Direction}
use Rattle.rounding.proofs.Laws.{ring}
use Rattle.reliability.specs.declared.Link.{Link}
use Rattle.reliability.specs.Networks.{Network, Ends, ends, value}
use Rattle.reliability.specs.Exact.{Weighted, weighted, sum, altogether}
use Rattle.search.specs.Searches.{from}
use Rattle.sets.specs.Sets.{connecting_sets}
use Rattle.sets.specs.Polynomial.{by_sizes}
use Rattle.sets.proofs.Counting.{from_suc, adding, adding-zero, adding-suc, adding-none, adding-nothing}

-- ---- entry by entry

-- a factor of every number
scaled : (p : ℕ) (f : ℕ → ℕ) (is : List ℕ) → altogether (map (λ i. p * f i) is) ≡ p * altogether (map f is)
unfolding altogether
scaled p f [] = sym (mul-zero p)
scaled p f (i ∷ is) = ap (λ n. p * f i + n) (scaled p f is) ∙ sym (mul-add p (f i) _)

sizes-zero : (p q : ℕ) (f : ℕ → ℕ) → by_sizes p q f 0 ≡ f 0
unfolding by_sizes altogether from
sizes-zero p q f = simp (pow-zero, mul-one, add-zero)

sizes-suc : (p q : ℕ) (f : ℕ → ℕ) (m : ℕ) → by_sizes p q f (suc m) ≡ f 0 * q ^ suc m + p * by_sizes p q (λ i. f (suc i)) m
unfolding by_sizes altogether from
sizes-suc p q f m =
    ap₂ ◌+◌ first
    (ap altogether (from_suc (λ i. f i * p ^ i * q ^ (suc m - i)) 0 (suc m))
    ∙ ap (λ (h : ℕ → ℕ). altogether (map h (from 0 (suc m)))) (λ t i. later i t)
    ∙ scaled p (λ i. f (suc i) * p ^ i * q ^ (m - i)) (from 0 (suc m)))
  where
    shape : (p k y z : ℕ) → k * (p * y) * z ≡ p * (k * y * z)
    shape p k y z = simp ring

    first : f 0 * p ^ 0 * q ^ (suc m - 0) ≡ f 0 * q ^ suc m
    first = ap₂ (λ y n. f 0 * y * q ^ n) (pow-zero p) (sub-zero (suc m)) ∙ ap (λ y. y * q ^ suc m) (mul-one (f 0))

    later : (i : ℕ) → f (suc i) * p ^ suc i * q ^ (suc m - suc i) ≡ p * (f (suc i) * p ^ i * q ^ (m - i))
    later i =
        let less : suc m - suc i ≡ m - i = omega arith in
        ap₂ (λ y n. f (suc i) * y * q ^ n) (pow-succ' p i) less ∙ shape p (f (suc i)) (p ^ i) (q ^ (m - i))

sizes-add : (p q : ℕ) (f g : ℕ → ℕ) (m : ℕ) → by_sizes p q (λ i. f i + g i) m ≡ by_sizes p q f m + by_sizes p q g m
sizes-add p q f g zero = sizes-zero p q (λ i. f i + g i) ∙ sym (ap₂ ◌+◌ (sizes-zero p q f) (sizes-zero p q g))
sizes-add p q f g (suc m) =
    sizes-suc p q (λ i. f i + g i) m
    ∙ ap (λ k. (f 0 + g 0) * q ^ suc m + p * k) (sizes-add p q (λ i. f (suc i)) (λ i. g (suc i)) m) ∙ shape (f 0) (g 0) (q ^ suc m) p _ _
    ∙ sym (ap₂ ◌+◌ (sizes-suc p q f m) (sizes-suc p q g m))
  where
    shape : (a b y p u v : ℕ) → (a + b) * y + p * (u + v) ≡ a * y + p * u + (b * y + p * v)
    shape a b y p u v = simp ring

sizes-drop : (p q : ℕ) (f : ℕ → ℕ) (m : ℕ) → f (suc m) ≡ 0 → by_sizes p q f (suc m) ≡ q * by_sizes p q f m
sizes-drop p q f zero h =
    sizes-suc p q f 0 ∙ ap₂ (λ y k. f 0 * y + p * k) (pow-succ' q 0 ∙ ap (λ k. q * k) (pow-zero q)) (sizes-zero p q (λ i. f (suc i)) ∙ h)
    ∙ omega (arith, mul-zero p, ap (λ k. f 0 * k) (mul-one q), mul_comm (f 0) q) ∙ ap (λ k. q * k) (sym (sizes-zero p q f))
sizes-drop p q f (suc m) h =
    sizes-suc p q f (suc m) ∙ ap₂ (λ y k. f 0 * y + p * k) (pow-succ' q (suc m)) (sizes-drop p q (λ i. f (suc i)) m h)
    ∙ shape (f 0) q (q ^ suc m) p _ ∙ ap (λ k. q * k) (sym (sizes-suc p q f m))
  where
    shape : (a q y p u : ℕ) → a * (q * y) + p * (q * u) ≡ q * (a * y + p * u)
    shape a q y p u = simp ring

-- ---- links of the same weights

-- a link that is sound with p and broken with q
abbrev pub alike : ℕ → ℕ → Ends → Weighted
alike p q e = record { joins = e; sound = p; broken = q }

by-sizes : (p q : ℕ) (vs : List ℕ) (es t : List Ends) → by_sizes p q (adding vs es t) (length es) ≡ sum vs (map (alike p q) es) t
unfolding sum
by-sizes p q vs [] t = sizes-zero p q (adding vs [] t) ∙ adding-zero vs [] t
by-sizes p q vs (e ∷ es) t =
    let m = length es in
    let A = by_sizes p q (adding vs es (e ∷ t)) m in
    let B = by_sizes p q (λ i. adding vs es t (suc i)) m in
    let step : by_sizes p q (λ i. adding vs (e ∷ es) t (suc i)) m ≡ A + B =
    ap (λ (f : ℕ → ℕ). by_sizes p q f m) (λ k i. adding-suc vs e es t i k) ∙ sizes-add p q (adding vs es (e ∷ t)) (λ i. adding vs es t (suc i)) m in
    sizes-suc p q (adding vs (e ∷ es) t) m
    ∙ ap₂ (λ a b. a * q ^ suc m + p * b) (adding-zero vs (e ∷ es) t ∙ sym (adding-zero vs es t)) step
    ∙ shape (adding vs es t 0 * q ^ suc m) p A B
    ∙ ap₂ (λ a b. p * a + b) (by-sizes p q vs es (e ∷ t))
    (sym (sizes-suc p q (adding vs es t) m) ∙ sizes-drop p q (adding vs es t) m (adding-none vs es t) ∙ ap (λ k. q * k) (by-sizes p q vs es t))
  where
    shape : (z p u v : ℕ) → z + p * (u + v) ≡ p * u + (z + p * v)
    shape z p u v = simp ring

-- any weights p and q, the same for all links: the sum over the connecting sets, each p to the power of its links times q to the power of the others
pub alike-sum : (p q : ℕ) (g : Network) → by_sizes p q (connecting_sets g) (length g.links) ≡ sum g.nodes (map (alike p q) (map ends g.links)) []
alike-sum p q g =
    let es = map ends g.links in
    ap₂ (λ (f : ℕ → ℕ) (n : ℕ). by_sizes p q f n) (λ k i. adding-nothing g.nodes es i k) (sym (length-map g.links ends)) ∙ by-sizes p q g.nodes es []

same-weights : (d : Direction) (p : ℕ) (es : List Link) → ((e : Link) → Memᴰ e es → value d e ≡ p) → map (alike p (S - p)) (map ends es) ≡ map (weighted d) es
same-weights d p [] h = refl
same-weights d p (e ∷ es) h =
    ap₂ (λ k r. record { joins = ends e; sound = k; broken = S - k } ∷ r) (sym (h e (Memᴰ.head refl))) (same-weights d p es (λ f m. h f (Memᴰ.tail m)))

-- N of a network whose links all have the value p: the sum of entry i × p^i × (S − p)^(m − i)
pub polynomial : (d : Direction) (p : ℕ) (g : Network) → ((e : Link) → Memᴰ e g.links → value d e ≡ p)
    → by_sizes p (S - p) (connecting_sets g) (length g.links) ≡ sum g.nodes (map (weighted d) g.links) []
polynomial d p g h = alike-sum p (S - p) g ∙ ap (λ l. sum g.nodes l []) (same-weights d p g.links h)
