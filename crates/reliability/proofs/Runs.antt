-- What holds of every tree: steps, the mark of a finished figure, ranges, and nesting by the limit.
use Prim.Native.Nat.{ℕ, zero, suc, ◌+◌, ◌-◌, ◌≤◌, min, zero-le}
use mathlib.Core.Path.{◌≡◌, refl, sym, ap, ◌∙◌}
use mathlib.Core.Bool.{Bool, true, false, ◌&&◌, false≢true, and-eq-true_iff}
use native.Mathlib.Nat.{le_of_suc-le-suc, not-suc-le-zero, suc-add}
use native.Mathlib.Omega.{arith}
use lib.Dec.{leb, leb-zero, leb-suc-zero, leb-suc-suc}
use borrow.Author.Tests.{le-leb, lt-leb, leb-true, leb-false}
use Rattle.rounding.specs.Rounding.{S, product, split}
use Rattle.rounding.specs.declared.Direction.{Direction}
use Rattle.rounding.specs.declared.Direction.TheVariants.{Down, Up}
use Rattle.rounding.proofs.Laws.{Bounds, bounds-refl}
use Rattle.rounding.proofs.Operations.{product-monotone, product-range, split-monotone, split-range}
use Rattle.reliability.specs.declared.Link.{Link}
use Rattle.reliability.specs.declared.Figure.{Figure}
use Rattle.reliability.specs.Networks.{value}
use Rattle.reliability.specs.Rule.{side, bounded, times, mixed, stepped, in_turn, unfinished, Tree, ready, multiplied, fork, taken, run, splits}

-- what is monotone in two figures keeps their bounds
bounds-map : (d : Direction) (f : ℕ → ℕ → ℕ) → ((x x' y y' : ℕ) → x ≤ x' → y ≤ y' → f x y ≤ f x' y')
    → {a a' b b' : ℕ} → Bounds d a a' → Bounds d b b' → Bounds d (f a b) (f a' b')
bounds-map Down f mono {a} {a'} {b} {b'} h k = record { order = mono a a' b b' h.order k.order }
bounds-map Up f mono {a} {a'} {b} {b'} h k = record { order = mono a' a b' b h.order k.order }

pub side-bounded : (d : Direction) (b : Direction → ℕ) (s : ℕ) (t : Bool) → side d (bounded b s t) ≡ b d
side-bounded Down b s t = refl
side-bounded Up b s t = refl

-- ---- steps

-- both branches finish where there are steps for both
enough : (a b l : ℕ) → leb a l && leb b (l - min a l) ≡ leb (a + b) l
enough a b l = go (leb a l) (leb (a + b) l) refl refl
  where
    go : (s t : Bool) → leb a l ≡ s → leb (a + b) l ≡ t → s && leb b (l - min a l) ≡ t
    go true true e f = le-leb b (l - min a l) (omega (arith, leb-true (a + b) l f))
    go true false e f = lt-leb b (l - min a l) (omega (arith, leb-true a l e, leb-false (a + b) l f))
    go false true e f = absurd (omega (arith, leb-false a l e, leb-true (a + b) l f))
    go false false e f = refl

pub steps : (t : Tree) (l : ℕ) → (run t l).steps ≡ min (splits t) l
unfolding run splits
steps (ready k) l = omega arith
steps (multiplied k t) l = steps t l
steps (fork i w) zero = omega arith
steps (fork i w) (suc l) = omega (arith, steps (w i) l)
steps (taken i e s b) l = omega (arith, steps s l, steps b (l - (run s l).steps))

pub finished : (t : Tree) (l : ℕ) → (run t l).finished ≡ leb (splits t) l
unfolding run splits
finished (ready k) l = sym (leb-zero l)
finished (multiplied k t) l = finished t l
finished (fork i w) zero = sym (leb-suc-zero (splits (w i)))
finished (fork i w) (suc l) = finished (w i) l ∙ sym (leb-suc-suc (splits (w i)) l)
finished (taken i e s b) l = rw (finished s l, finished b (l - (run s l).steps), steps s l) (enough (splits s) (splits b) l)

-- ---- ranges and nesting

-- all figures, factors and values are at most S
abbrev pub Ranged : Tree → Type 0
Ranged (ready k) = (d : Direction) → k d ≤ S
Ranged (multiplied k t) = ((d : Direction) → k d ≤ S) × Ranged t
Ranged (fork i w) = (j : ℕ) → Ranged (w j)
Ranged (taken i e s b) = ((d : Direction) → value d e ≤ S) × Ranged s × Ranged b

pub side-stepped : (d : Direction) (f : Figure) → side d (stepped f) ≡ side d f
side-stepped Down f = refl
side-stepped Up f = refl

-- 0 to S encloses all
widest : (d : Direction) (x : ℕ) → x ≤ S → Bounds d (side d unfinished) x
widest Down x h = record { order = zero-le }
widest Up x h = record { order = h }

pub range : (t : Tree) → Ranged t → (d : Direction) (l : ℕ) → side d (run t l) ≤ S
unfolding run
range (ready k) h d l = rw side-bounded (h d)
range (multiplied k t) h d l = rw side-bounded (product-range d (k d) (side d (run t l)) (h.0 d) (range t h.1 d l))
range (fork i w) h Down zero = zero-le
range (fork i w) h Up zero = omega arith
range (fork i w) h d (suc l) = rw side-stepped (range (w i) (h i) d l)
range (taken i e s b) h d l =
    rw side-bounded (split-range d (value d e) (side d (run s l)) (side d (run b (l - (run s l).steps))) (h.0 d) (range s h.1 d l) (range b h.2 d (l - (run s l).steps)))

-- with a larger limit each figure lies on the inner side
pub nested : (t : Tree) → Ranged t → (d : Direction) (l l' : ℕ) → l ≤ l' → Bounds d (side d (run t l)) (side d (run t l'))
unfolding run
nested (ready k) h d l l' i = bounds-refl d (side d (run (ready k) l))
nested (multiplied k t) h d l l' i =
    simp side-bounded (bounds-map d (product d) (λ x x' y y'. product-monotone d) (bounds-refl d (k d)) (nested t h.1 d l l' i))
nested (fork j w) h d zero l' i = widest d (side d (run (fork j w) l')) (range (fork j w) h d l')
nested (fork j w) h d (suc l) zero i = absurd (not-suc-le-zero i)
nested (fork j w) h d (suc l) (suc l') i = simp side-stepped (nested (w j) (h j) d l l' (le_of_suc-le-suc i))
nested (taken j e s b) h d l l' i =
    simp side-bounded
    (bounds-map d (split d (value d e)) (λ x x' y y'. split-monotone d (value d e)) (nested s h.1 d l l' i)
    (nested b h.2 d (l - (run s l).steps) (l' - (run s l').steps) (omega (arith, steps s l, steps s l'))))

-- ---- limits that are enough, and limits that are not

-- an unfinished run takes all steps
pub all-taken : (t : Tree) (l : ℕ) → (run t l).finished ≡ false → (run t l).steps ≡ l
all-taken t l h = omega (arith, steps t l, leb-false (splits t) l (sym (finished t l) ∙ h))

-- what a run leaves of its limit, of a larger one
pub spare : (t : Tree) (l k : ℕ) → l + k - (run t l).steps ≡ l - (run t l).steps + k
spare t l k = omega (arith, steps t l)

in-turn-stays : (e : Link) (s b : Tree) (l k : ℕ) → (in_turn e (run s) (run b) l).finished ≡ true
    → ((run s l).finished ≡ true → run s (l + k) ≡ run s l)
    → ((run b (l - (run s l).steps)).finished ≡ true → run b (l - (run s l).steps + k) ≡ run b (l - (run s l).steps))
    → in_turn e (run s) (run b) (l + k) ≡ in_turn e (run s) (run b) l
in-turn-stays e s b l k h sound broken =
    let done = (and-eq-true_iff (run s l).finished (run b (l - (run s l).steps)).finished).0 h in
    ap (λ (f : Figure). mixed e f (run b (l + k - f.steps))) (sound done.0)
    ∙ ap (λ n. mixed e (run s l) (run b n)) (spare s l k) ∙ ap (mixed e (run s l)) (broken done.1)

-- a finished run stays as it is
pub stays : (t : Tree) (l k : ℕ) → (run t l).finished ≡ true → run t (l + k) ≡ run t l
unfolding run
stays (ready c) l k h = refl
stays (multiplied c t) l k h = ap (times c) (stays t l k h)
stays (fork i w) zero k h = absurd (false≢true h)
stays (fork i w) (suc l) k h = rw suc-add (ap stepped (stays (w i) l k h))
stays (taken i e s b) l k h = in-turn-stays e s b l k h (stays s l k) (stays b (l - (run s l).steps) k)
