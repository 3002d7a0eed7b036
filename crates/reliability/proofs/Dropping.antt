-- Links that go where a test holds.
use Prim.Native.Nat.{ℕ, zero, suc, ◌≤◌, ◌<◌, zero-le, suc-le-suc}
use mathlib.Core.Path.{◌≡◌, refl, ap, ◌∙◌}
use mathlib.Core.List.Memᴰ
use mathlib.Core.List.{List, [], ◌∷◌, Memᴰ}
use mathlib.Core.Bool.{Bool, true, false}
use mathlib.Core.Logic.{⊎_elim}
use mathlib.Core.Option.{Option, some, none, map}
use native.Mathlib.Nat.{not-suc-le-zero, le_of_suc-le-suc, le-suc, le_trans}
use lib.ListN.{length}
use Rattle.reliability.specs.declared.Link.{Link}
use Rattle.reliability.specs.Rule.{first_at, delete_at}
use Rattle.reliability.specs.Simple.{dropping}
use Rattle.reliability.proofs.Searches.{Fails, nth}

-- what is left was there
pub mem-dropping : (p : Link → Bool) (es : List Link) {f : Link} → Memᴰ f (dropping p es) → Memᴰ f es
unfolding dropping
mem-dropping p (e ∷ es) {f} m = go (p e) (mem-dropping p es) m
  where
    go : (b : Bool) → (Memᴰ f (dropping p es) → Memᴰ f es) → Memᴰ f (elim b [ true ↦ dropping p es | false ↦ e ∷ dropping p es ]) → Memᴰ f (e ∷ es)
    go true later n = Memᴰ.tail (later n)
    go false later n = ⊎_elim (λ q. Memᴰ.head q) (λ k. Memᴰ.tail (later k)) (Memᴰ.cases_cons n)
mem-dropping p [] {f = f} m = elim m [ ]

-- none goes
pub dropping-none : (p : Link → Bool) (es : List Link) → Fails p es → es ≡ dropping p es
unfolding dropping
dropping-none p [] h = refl
dropping-none p (e ∷ es) h = rw (h e (Memᴰ.head refl), dropping) (ap (λ l. e ∷ l) (dropping-none p es (λ f m. h f (Memᴰ.tail m))))

-- by one test and by another that says the same
dropping-same : (p q : Link → Bool) → ((f : Link) → q f ≡ p f) → (es : List Link) → dropping q es ≡ dropping p es
unfolding dropping
dropping-same p q same [] = refl
dropping-same p q same (f ∷ es) =
    ap (λ b. elim b as (λ x. List Link) [ true ↦ dropping q es | false ↦ f ∷ dropping q es ]) (same f) ∙ ap (λ r. elim (p f) as (λ x. List Link) [ true ↦ r | false ↦ f ∷ r ]) (dropping-same p q same es)

-- one goes first, and the others then
pub dropping-delete : (p q : Link → Bool) → ((f : Link) → q f ≡ p f) → (es : List Link) (i : ℕ) → i < length es → p (nth es i) ≡ true → dropping q (delete_at i es) ≡ dropping p es
unfolding dropping delete_at
dropping-delete p q same [] i h t = absurd (not-suc-le-zero h)
dropping-delete p q same (e ∷ es) zero h t = rw (t, dropping) (dropping-same p q same es)
dropping-delete p q same (e ∷ es) (suc i) h t =
    ap (λ b. elim b as (λ x. List Link) [ true ↦ dropping q (delete_at i es) | false ↦ e ∷ dropping q (delete_at i es) ]) (same e)
    ∙ ap (λ r. elim (p e) as (λ x. List Link) [ true ↦ r | false ↦ e ∷ r ]) (dropping-delete p q same es i (le_of_suc-le-suc h) t)

-- none is left at which the test holds
pub dropped-none : (p : Link → Bool) (es : List Link) → first_at p (dropping p es) ≡ none
unfolding first_at dropping
dropped-none p [] = refl
dropped-none p (e ∷ es) = by (p e) refl (dropped-none p es)
  where
    by : (b : Bool) → p e ≡ b → first_at p (dropping p es) ≡ none → first_at p (elim b [ true ↦ dropping p es | false ↦ e ∷ dropping p es ]) ≡ none
    by true h k = k
    by false h k = ap (λ (t : Bool). elim t as (λ x. Option ℕ) [ true ↦ some zero | false ↦ map suc (first_at p (dropping p es)) ]) h ∙ ap (map suc) k

-- no more are left
pub dropping-few : (p : Link → Bool) (es : List Link) → length (dropping p es) ≤ length es
unfolding dropping
dropping-few p [] = zero-le
dropping-few p (e ∷ es) = go (p e) (dropping-few p es)
  where
    go : (b : Bool) → length (dropping p es) ≤ length es → length {A = Link} (elim b as (λ x. List Link) [ true ↦ dropping p es | false ↦ e ∷ dropping p es ]) ≤ suc (length es)
    go true h = le_trans h (le-suc (length es))
    go false h = suc-le-suc h
