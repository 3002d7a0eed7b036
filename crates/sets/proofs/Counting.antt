-- The row of a network with each link single is the row of the numbers of its connecting sets.
use Prim.Native.Nat.{ℕ, zero, suc, ◌+◌, ◌-◌, ◌*◌, ◌^◌, ◌≤◌, ◌<◌, suc-le-suc}
use mathlib.Core.Path.{◌≡◌, refl, sym, ap, ap₂, ◌∙◌, subst}
use mathlib.Core.List.Memᴰ
use mathlib.Core.List.{List, [], ◌∷◌, ◌++◌, map, append-nil}
use mathlib.Core.Bool.{Bool, cond}
use mathlib.Core.Logic.{◌↔◌}
use native.Mathlib.Nat.{mul-zero, mul-one, one-mul, add-zero, pow-zero, pow-succ', pow-le-pow_right, le_refl, le_of_eq, le_trans, not-suc-le-zero, le_of_suc-le-suc}
use native.Mathlib.Omega.{arith}
use lib.ListN.{length, get_or, take, replicate, length-map, length-append, length-replicate}
use lib.Seq.{take_at}
use Rattle.rounding.specs.Rounding.{S}
use Rattle.rounding.specs.declared.Direction.{Direction}
use Rattle.rounding.specs.declared.Direction.TheVariants.{Down, Up}
use Rattle.rounding.proofs.Laws.{ring}
use Rattle.reliability.specs.declared.Link.{Link}
use Rattle.reliability.specs.Networks.{Network, Valid, Proper, Ends, ends, value, connected}
use Rattle.reliability.specs.Exact.{Weighted, sum, total}
use Rattle.reliability.proofs.Connection.{Const, connected-eq}
use Rattle.search.specs.Searches.{from}
use Rattle.search.proofs.Sets.{from-size}
use Rattle.sets.specs.Sets.{sets, how_many, connecting_sets, connecting_row}
use Rattle.polynomials.specs.Rows.{eval, some, Fits}
use Rattle.polynomials.proofs.Evals.{same_row, eval-zeros}
use Rattle.sets.specs.Bundles.{single, singles, bundle, worth, most}

-- ---- how many

module _ {A : Type 0} where
  howMany-append : (p : A → Bool) (xs ys : List A) → how_many p (xs ++ ys) ≡ how_many p xs + how_many p ys
  unfolding how_many
  howMany-append p [] ys = omega arith
  howMany-append p (x ∷ xs) ys = omega (arith, howMany-append p xs ys)

  howMany-map : {B : Type 0} (p : A → Bool) (f : B → A) (xs : List B) → how_many p (map f xs) ≡ how_many (λ x. p (f x)) xs
  unfolding how_many
  howMany-map p f [] = refl
  howMany-map p f (x ∷ xs) = omega (arith, howMany-map p f xs)

  pub howMany-same : (p q : A → Bool) → ((x : A) → p x ≡ q x) → (xs : List A) → how_many p xs ≡ how_many q xs
  howMany-same p q h xs = ap (λ (r : A → Bool). how_many r xs) (λ t x. h x t)

  pub too_many : (es : List A) (i : ℕ) → length es < i → sets i es ≡ []
  unfolding sets
  too_many es zero h = absurd (not-suc-le-zero h)
  too_many [] (suc i) h = refl
  too_many (e ∷ es) (suc i) h = simp (too_many es i (le_of_suc-le-suc h), too_many es (suc i) (omega arith))

-- ---- polynomials of n entries

abbrev poly : ℕ → (ℕ → ℕ) → ℕ → ℕ
poly x f n = eval x (map f (from 0 n))

pub from_suc : (f : ℕ → ℕ) (i n : ℕ) → map f (from (suc i) n) ≡ map (λ k. f (suc k)) (from i n)
unfolding from
from_suc f i zero = refl
from_suc f i (suc n) = ap (λ r. f (suc i) ∷ r) (from_suc f (suc i) n)

poly-suc : (x : ℕ) (f : ℕ → ℕ) (n : ℕ) → poly x f (suc n) ≡ f 0 + x * poly x (λ i. f (suc i)) n
unfolding from eval
poly-suc x f n = ap (λ r. f 0 + x * eval x r) (from_suc f 0 n)

poly-add : (x : ℕ) (f g : ℕ → ℕ) (n : ℕ) → poly x (λ i. f i + g i) n ≡ poly x f n + poly x g n
unfolding from eval
poly-add x f g zero = refl
poly-add x f g (suc n) =
    poly-suc x (λ i. f i + g i) n ∙ ap (λ k. f 0 + g 0 + x * k) (poly-add x (λ i. f (suc i)) (λ i. g (suc i)) n)
    ∙ shape x (f 0) (g 0) _ _ ∙ sym (ap₂ ◌+◌ (poly-suc x f n) (poly-suc x g n))
  where
    shape : (x a b p q : ℕ) → a + b + x * (p + q) ≡ a + x * p + (b + x * q)
    shape x a b p q = simp ring

poly-drop : (x : ℕ) (f : ℕ → ℕ) (n : ℕ) → f n ≡ 0 → poly x f (suc n) ≡ poly x f n
unfolding from eval
poly-drop x f zero h = poly-suc x f 0 ∙ omega (arith, mul-zero x)
poly-drop x f (suc n) h = poly-suc x f (suc n) ∙ ap (λ k. f 0 + x * k) (poly-drop x (λ i. f (suc i)) n h) ∙ sym (poly-suc x f n)

-- ---- the sum over the sets, by their sizes

-- a link of weight x
abbrev weighed : ℕ → Ends → Weighted
weighed x e = record { joins = e; sound = x; broken = 1 }

const-later : (χ : ℕ → ℕ) (e : Ends) (s t : List Ends) → Const χ (e ∷ (s ++ t)) ↔ Const χ (s ++ (e ∷ t))
const-later χ e [] t = (λ c. c, λ c. c)
const-later χ e (f ∷ s) t =
    let h = const-later χ e s t in
    (λ c. (c.1.0, h.0 (c.0, c.1.1)), λ c. let k = h.1 c.1 in (k.0, (c.0, k.1)))

module _ (vs : List ℕ) where
  later : (e : Ends) (s t : List Ends) → connected vs (e ∷ (s ++ t)) ≡ connected vs (s ++ (e ∷ t))
  later e s t = connected-eq vs vs (e ∷ (s ++ t)) (s ++ (e ∷ t)) (λ c χ k. c χ ((const-later χ e s t).1 k)) (λ c χ k. c χ ((const-later χ e s t).0 k))

  -- the sets of i of the links es that connect the nodes, with the links t added
  unfoldable pub adding : List Ends → List Ends → ℕ → ℕ
  adding es t i = how_many (λ s. connected vs (s ++ t)) (sets i es)

  pub adding-zero : (es t : List Ends) → adding es t 0 ≡ cond (connected vs t) 1 0
  unfolding adding sets how_many
  adding-zero es t = add-zero _

  pub adding-suc : (e : Ends) (es t : List Ends) (i : ℕ) → adding (e ∷ es) t (suc i) ≡ adding es (e ∷ t) i + adding es t (suc i)
  unfolding adding sets
  adding-suc e es t i =
      howMany-append (λ s. connected vs (s ++ t)) (map (λ s. e ∷ s) (sets i es)) (sets (suc i) es)
      ∙ ap (λ n. n + how_many (λ s. connected vs (s ++ t)) (sets (suc i) es))
      (howMany-map (λ s. connected vs (s ++ t)) (λ s. e ∷ s) (sets i es) ∙ howMany-same (λ s. connected vs (e ∷ (s ++ t))) (λ s. connected vs (s ++ (e ∷ t))) (λ s. later e s t) (sets i es))

  pub adding-none : (es t : List Ends) → adding es t (suc (length es)) ≡ 0
  unfolding adding how_many
  adding-none es t = ap (how_many (λ s. connected vs (s ++ t))) (too_many es (suc (length es)) (omega arith))

  pub adding-nothing : (es : List Ends) (i : ℕ) → how_many (connected vs) (sets i es) ≡ adding es [] i
  unfolding adding
  adding-nothing es i = howMany-same (connected vs) (λ s. connected vs (s ++ [])) (λ s. ap (connected vs) (sym (append-nil s))) (sets i es)

  by_size : (x : ℕ) (es t : List Ends) → poly x (adding es t) (suc (length es)) ≡ sum vs (map (weighed x) es) t
  unfolding sum from eval
  by_size x [] t = poly-suc x (adding [] t) 0 ∙ omega (arith, mul-zero x, adding-zero [] t)
  by_size x (e ∷ es) t =
      let m = length es in
      let A = poly x (adding es (e ∷ t)) (suc m) in
      let B = poly x (λ i. adding es t (suc i)) (suc m) in
      let step : poly x (λ i. adding (e ∷ es) t (suc i)) (suc m) ≡ A + B =
      ap (λ (f : ℕ → ℕ). poly x f (suc m)) (λ k i. adding-suc e es t i k) ∙ poly-add x (adding es (e ∷ t)) (λ i. adding es t (suc i)) (suc m) in
      let whole : adding es t 0 + x * B ≡ poly x (adding es t) (suc m) = sym (poly-suc x (adding es t) (suc m)) ∙ poly-drop x (adding es t) (suc m) (adding-none es t) in
      poly-suc x (adding (e ∷ es) t) (suc m)
      ∙ ap₂ (λ a b. a + x * b) (adding-zero (e ∷ es) t ∙ sym (adding-zero es t)) step
      ∙ shape (adding es t 0) x A B
      ∙ ap₂ (λ a b. x * a + b) (by_size x es (e ∷ t)) (whole ∙ by_size x es t ∙ sym (one-mul _))
    where
      shape : (z x p q : ℕ) → z + x * (p + q) ≡ x * p + (z + x * q)
      shape z x p q = simp ring

-- ---- each link single

some_one : (x : ℕ) → some x 1 ≡ x
unfolding some
some_one x = omega (arith, mul-one x)

bundle-single : (x : ℕ) (es : List Link) → map (weighed x) (map ends es) ≡ map (bundle x) (map single es)
bundle-single x [] = refl
bundle-single x (e ∷ es) = ap₂ (λ k r. record { joins = ends e; sound = k; broken = 1 } ∷ r) (sym (some_one x)) (bundle-single x es)

pub counted : (g : Network) (x : ℕ) → eval x (connecting_row g) ≡ worth x (singles g)
unfolding worth
counted g x =
    let es = map ends g.links in
    ap (λ (f : ℕ → ℕ). poly x f (suc (length g.links))) (λ k i. adding-nothing g.nodes es i k)
    ∙ ap (λ n. poly x (adding g.nodes es []) (suc n)) (sym (length-map g.links ends))
    ∙ by_size g.nodes x es [] ∙ ap (λ l. sum g.nodes l []) (bundle-single x g.links)

most-single : (x : ℕ) (es : List Link) → total (map (bundle x) (map single es)) ≡ (1 + x) ^ length es
unfolding total
most-single x [] = sym (pow-zero (1 + x))
most-single x (e ∷ es) = ap₂ ◌*◌ (omega (arith, some_one x)) (most-single x es) ∙ sym (pow-succ' (1 + x) (length es))

pub single-room : (g : Network) → length g.links ≤ 24 → Fits (λ x. most x (singles g))
unfolding most
single-room g h x = le_trans (le_of_eq (most-single x g.links)) (pow-le-pow_right (omega arith) h)

one-range : (d : Direction) (e : Link) → value d (single e) ≤ S
one-range Down e = omega arith
one-range Up e = omega arith

pub single-valid : (g : Network) → Valid g → Valid (singles g)
single-valid g valid = record {
  ascending = valid.ascending;
  proper = λ f m.
      let (e, n, q) = Memᴰ.of_map single g.links m in
      let p = valid.proper e n in
      subst (Proper g.nodes) q (record { a_node = p.a_node; b_node = p.b_node; range = λ d. one-range d e; order = le_refl 1 });
}

-- ---- the row

eval-padded : (x : ℕ) (xs : List ℕ) (n : ℕ) → eval x (xs ++ replicate n 0) ≡ eval x xs
unfolding eval
eval-padded x [] n = eval-zeros x n
eval-padded x (a ∷ xs) n = ap (λ k. a + x * k) (eval-padded x xs n)

pub row-length : (g : Network) → length (connecting_row g) ≡ suc (length g.links)
row-length g = length-map (from 0 (suc (length g.links))) (connecting_sets g) ∙ from-size 0 (suc (length g.links))

entry : (f : ℕ → ℕ) (n i : ℕ) → i < n → get_or (map f (from 0 n)) i 0 ≡ f i
unfolding from
entry f zero i h = absurd (not-suc-le-zero h)
entry f (suc n) zero h = refl
entry f (suc n) (suc i) h = ap (λ r. get_or r i 0) (from_suc f 0 n) ∙ entry (λ k. f (suc k)) n i (le_of_suc-le-suc h)

-- entry i stands at place i
pub row-entry : (g : Network) (i : ℕ) → i ≤ length g.links → get_or (connecting_row g) i 0 ≡ connecting_sets g i
row-entry g i h = entry (connecting_sets g) (suc (length g.links)) i (suc-le-suc h)

-- the first entries of a row that is worth as much
pub row_is : (g : Network) → length g.links ≤ 24 → (r : List ℕ) → length r ≡ 25 → ((x : ℕ) → eval x r ≡ worth x (singles g)) → take (suc (length g.links)) r ≡ connecting_row g
row_is g h r size e =
    let m = length g.links in
    let padded = connecting_row g ++ replicate (24 - m) 0 in
    let same : r ≡ padded = same_row r padded (omega (arith, row-length g, length-append (connecting_row g) (replicate (24 - m) 0), length-replicate {A = ℕ} (24 - m) 0)) (λ x. e x ∙ sym (counted g x) ∙ sym (eval-padded x (connecting_row g) (24 - m))) in
    ap (take (suc m)) same ∙ take_at (connecting_row g) (replicate (24 - m) 0) (suc m) (row-length g)
