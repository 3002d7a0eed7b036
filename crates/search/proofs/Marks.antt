-- The places of a set as a list, and the places at which a test holds.
use Prim.Native.Nat.{ℕ, zero, suc, ◌^◌, ◌≤◌, ◌<◌}
use mathlib.Core.Path.{◌≡◌, refl, sym, ap, ◌∙◌, subst}
use mathlib.Core.List.{List, [], ◌∷◌, map, Memᴰ}
use mathlib.Core.Bool.{Bool, true, false, not, ◌&&◌, true≢false}
use native.Mathlib.Omega.{arith}
use lib.Dec.{eqb, leb}
use lib.ListN.{length, get_or, set, length-map, length-set}
use borrow.Author.Tests.{eq-eqb, ne_eqb, le-leb, lt-leb}
use Rattle.bits.specs.Members.{members, first_of, how_many}
use Rattle.bits.proofs.Digits.{length_digits, digits-empty}
use Rattle.bits.proofs.Places.{first-set, count-cleared}
use Rattle.reliability.proofs.Lists.{by_eqb, filter-here, filter-past}
use Rattle.search.specs.Searches.{pick, from, places_in, Inside, filter}
use Rattle.search.proofs.Sets.{mem-has, has, has-place}

-- ---- the places of a set, ascending

unfoldable pub indices : List Bool → List ℕ
indices [] = []
indices (true ∷ bs) = zero ∷ map suc (indices bs)
indices (false ∷ bs) = map suc (indices bs)

pick-from : (bs : List Bool) (i n : ℕ) → pick bs (from (suc i) n) ≡ map suc (pick bs (from i n))
unfolding pick from
pick-from [] i n = refl
pick-from (b ∷ bs) i zero = refl
pick-from (true ∷ bs) i (suc n) = ap (λ (l : List ℕ). suc i ∷ l) (pick-from bs (suc i) n)
pick-from (false ∷ bs) i (suc n) = pick-from bs (suc i) n

listed : (bs : List Bool) (n : ℕ) → length bs ≤ n → pick bs (from 0 n) ≡ indices bs
unfolding pick from indices
listed [] n h = refl
listed (b ∷ bs) zero h = absurd (omega arith)
listed (true ∷ bs) (suc n) h = ap (λ (l : List ℕ). zero ∷ l) (pick-from bs 0 n ∙ ap (map suc) (listed bs n (omega arith)))
listed (false ∷ bs) (suc n) h = pick-from bs 0 n ∙ ap (map suc) (listed bs n (omega arith))

pub places-listed : (s : ℕ) → places_in s ≡ indices (members s)
places-listed s = listed (members s) 64 (omega (arith, length_digits 64 s))

length-listed : (bs : List Bool) → length (indices bs) ≡ how_many bs
unfolding indices
length-listed [] = refl
length-listed (true ∷ bs) = ap suc (length-map (indices bs) suc ∙ length-listed bs)
length-listed (false ∷ bs) = length-map (indices bs) suc ∙ length-listed bs

pub length-places : (s : ℕ) → length (places_in s) ≡ how_many (members s)
length-places s = ap length (places-listed s) ∙ length-listed (members s)

-- ---- a list's elements at which a test holds

pub filter-suc : (p : ℕ → Bool) (ks : List ℕ) → filter p (map suc ks) ≡ map suc (filter (λ k. p (suc k)) ks)
unfolding filter
filter-suc p [] = refl
filter-suc p (k ∷ ks) = go (p (suc k)) (filter-suc p ks)
  where
    go : (b : Bool) → filter p (map suc ks) ≡ map suc (filter (λ k. p (suc k)) ks)
        → elim b as (λ c. List ℕ) [ true ↦ suc k ∷ filter p (map suc ks) | false ↦ filter p (map suc ks) ] ≡ map suc (elim b [ true ↦ k ∷ filter (λ k. p (suc k)) ks | false ↦ filter (λ k. p (suc k)) ks ])
    go true e = ap (λ (l : List ℕ). suc k ∷ l) e
    go false e = e

-- of the places of a set, those of a part of it
pub filter-indices : (p : ℕ → Bool) (ts cs : List Bool) → length cs ≡ length ts → ((j : ℕ) → get_or cs j false ≡ (get_or ts j false && p j)) → filter p (indices ts) ≡ indices cs
unfolding indices filter
filter-indices p [] [] l h = refl
filter-indices p [] (c ∷ cs) l h = absurd (omega arith)
filter-indices p (t ∷ ts) [] l h = absurd (omega arith)
filter-indices p (true ∷ ts) (c ∷ cs) l h =
    go (p zero) refl (filter-suc p (indices ts) ∙ ap (map suc) (filter-indices (λ k. p (suc k)) ts cs (omega arith) (λ j. h (suc j))))
  where
    go : (b : Bool) → p zero ≡ b → filter p (map suc (indices ts)) ≡ map suc (indices cs) → filter p (zero ∷ map suc (indices ts)) ≡ indices (c ∷ cs)
    go true e r = filter-here p zero (map suc (indices ts)) e ∙ ap (λ (l : List ℕ). zero ∷ l) r ∙ ap (λ (b : Bool). indices (b ∷ cs)) (sym (h zero ∙ e))
    go false e r = filter-past p zero (map suc (indices ts)) e ∙ r ∙ ap (λ (b : Bool). indices (b ∷ cs)) (sym (h zero ∙ e))
filter-indices p (false ∷ ts) (c ∷ cs) l h =
    filter-suc p (indices ts) ∙ ap (map suc) (filter-indices (λ k. p (suc k)) ts cs (omega arith) (λ j. h (suc j))) ∙ ap (λ (b : Bool). indices (b ∷ cs)) (sym (h zero))

-- ---- a set, place by place

indices-first : (bs : List Bool) → 0 < how_many bs → indices bs ≡ first_of bs ∷ indices (set bs (first_of bs) false)
unfolding indices
indices-first [] h = absurd (omega arith)
indices-first (true ∷ bs) h = refl
indices-first (false ∷ bs) h = ap (map suc) (indices-first bs h)

pub indices-none : (bs : List Bool) → how_many bs ≡ 0 → indices bs ≡ []
unfolding indices
indices-none [] h = refl
indices-none (true ∷ bs) h = absurd (omega arith)
indices-none (false ∷ bs) h = ap (map suc) (indices-none bs h)

cleared-in : (bs : List Bool) (i k : ℕ) → get_or (set bs i false) k false ≡ true → get_or bs k false ≡ true
cleared-in [] i k e = e
cleared-in (b ∷ bs) zero zero e = absurd (true≢false (sym e))
cleared-in (b ∷ bs) zero (suc k) e = e
cleared-in (b ∷ bs) (suc i) zero e = e
cleared-in (b ∷ bs) (suc i) (suc k) e = cleared-in bs i k e

pub none-listed : places_in 0 ≡ []
none-listed = places-listed 0 ∙ indices-none (members 0) ((digits-empty 64 0 (omega arith)).1 refl)

-- a set t that is not empty, and its lowest place k
pub record Lowest (t k : ℕ) : Type 0 where
  pub some : 0 < how_many (members t)
  pub first : k ≡ first_of (members t)

pub lowest-of : (t k : ℕ) → 0 < t → t < 2 ^ 64 → k ≡ first_of (members t) → Lowest t k
lowest-of t k some small first =
    let counted : how_many (members t) ≡ 0 → ⊥ = λ e. omega (arith, (digits-empty 64 t small).0 e) in
    record { some = omega arith; first = first }

module _ (t k : ℕ) (l : Lowest t k) where
  pub lowest-in : has t k ≡ true
  lowest-in = rw l.first (first-set (members t) l.some).1

  pub lowest-below : k < 64
  lowest-below = has-place t k lowest-in

  pub lowest-first : places_in t ≡ k ∷ indices (set (members t) k false)
  lowest-first = rw l.first (places-listed t ∙ indices-first (members t) l.some)

  -- and the rest r of it
  module _ (r : ℕ) (rest : members r ≡ set (members t) (first_of (members t)) false) where
    pub lowest-rest : places_in t ≡ k ∷ places_in r
    lowest-rest = lowest-first ∙ ap (λ (ks : List ℕ). k ∷ ks) (ap (λ (i : ℕ). indices (set (members t) i false)) l.first ∙ ap indices (sym rest) ∙ sym (places-listed r))

    pub rest-count : suc (how_many (members r)) ≡ how_many (members t)
    rest-count = ap (λ (bs : List Bool). suc (how_many bs)) (rest ∙ ap (λ (i : ℕ). set (members t) i false) (sym l.first)) ∙ count-cleared (members t) k lowest-in

    pub rest-within : (s : ℕ) → Inside t s → Inside r s
    rest-within s h j e = h j (cleared-in (members t) (first_of (members t)) j (subst (λ (bs : List Bool). get_or bs j false ≡ true) rest e))

-- the second place of a set is the lowest of the rest
pub second-place : (t k : ℕ) → Lowest t k → (r : ℕ) → members r ≡ set (members t) (first_of (members t)) false → (j : ℕ) → Lowest r j → get_or (places_in t) 1 0 ≡ j
second-place t k l r rest j m = ap (λ (ks : List ℕ). get_or ks 1 0) (lowest-rest t k l r rest) ∙ ap (λ (ks : List ℕ). get_or ks 0 0) (lowest-first r j m)

-- ---- the count of a set, by its rest

pub same_test : (a b c d : ℕ) → (a ≡ b → c ≡ d) → (c ≡ d → a ≡ b) → eqb a b ≡ eqb c d
same_test a b c d f g = by_eqb (λ t. t ≡ eqb c d) a b (λ e. sym (eq-eqb c d (f e))) (λ n. sym (ne_eqb c d (λ e. n (g e))))

pub empty-test : (s : ℕ) → s < 2 ^ 64 → eqb s 0 ≡ eqb (how_many (members s)) 0
empty-test s h = let e = digits-empty 64 s h in same_test s 0 (how_many (members s)) 0 e.1 e.0

pub count-rest : (s r d : ℕ) → 0 < s → s < 2 ^ 64 → members r ≡ set (members s) (first_of (members s)) false
    → eqb (how_many (members r)) d ≡ eqb (how_many (members s)) (suc d)
count-rest s r d some small rest =
    let e = rest-count s (first_of (members s)) (lowest-of s (first_of (members s)) some small refl) r rest in
    same_test (how_many (members r)) d (how_many (members s)) (suc d) (λ h. omega arith) (λ h. omega arith)

pub count_none : (s d : ℕ) → s ≡ 0 → not (eqb s 0) ≡ eqb (how_many (members s)) (suc d)
count_none s d e =
    ap not (eq-eqb s 0 e) ∙ sym (ne_eqb (how_many (members s)) (suc d) (λ h. omega (arith, (digits-empty 64 s (omega arith)).1 e)))

pub few-none : (s : ℕ) → s ≡ 0 → eqb s 0 ≡ leb (how_many (members s)) 1
few-none s e = eq-eqb s 0 e ∙ sym (le-leb (how_many (members s)) 1 (omega (arith, (digits-empty 64 s (omega arith)).1 e)))

pub few-rest : (s r : ℕ) → 0 < s → s < 2 ^ 64 → r < 2 ^ 64 → members r ≡ set (members s) (first_of (members s)) false → eqb r 0 ≡ leb (how_many (members s)) 1
few-rest s r some small h rest =
    let e = rest-count s (first_of (members s)) (lowest-of s (first_of (members s)) some small refl) r rest in
    let empty = digits-empty 64 r h in
    by_eqb (λ b. b ≡ leb (how_many (members s)) 1) r 0 (λ q. sym (le-leb (how_many (members s)) 1 (omega (arith, empty.1 q))))
    (λ n. sym (lt-leb (how_many (members s)) 1 (more (how_many (members r)) (how_many (members s)) (λ q. n (empty.0 q)) e)))
  where
    more : (i j : ℕ) → (i ≡ 0 → ⊥) → suc i ≡ j → 1 < j
    more zero j n e = absurd (n refl)
    more (suc i) j n e = omega arith

pub counted-some : (s : ℕ) → 0 < how_many (members s) → 0 < s
counted-some zero h = absurd (omega (arith, (digits-empty 64 0 (omega arith)).1 refl))
counted-some (suc s) h = omega arith

-- ---- the places as they come, one by one: k, and then those of r

module _ (t k : ℕ) (ks : List ℕ) (next : places_in t ≡ k ∷ ks) where
  pub next-in : has t k ≡ true
  next-in = mem-has t k (subst (Memᴰ k) (sym next) (Memᴰ.head refl))

  pub next-below : k < 64
  next-below = has-place t k next-in

-- so k is the lowest place of t, and r the rest of it
suc-map : (k l : List ℕ) → map suc k ≡ map suc l → k ≡ l
suc-map [] [] e = refl
suc-map [] (y ∷ l) e = cc
suc-map (x ∷ k) [] e = cc
suc-map (x ∷ k) (y ∷ l) e =
    let head : x ≡ y = cc in
    let tail : map suc k ≡ map suc l = cc in
    ap (λ (i : ℕ). i ∷ k) head ∙ ap (λ (m : List ℕ). y ∷ m) (suc-map k l tail)

no-zero : (k l : List ℕ) → zero ∷ k ≡ map suc l → ⊥
no-zero k [] e = cc
no-zero k (x ∷ l) e = let z : zero ≡ suc x = cc in omega arith

same-set : (bs cs : List Bool) → length bs ≡ length cs → indices bs ≡ indices cs → bs ≡ cs
unfolding indices
same-set [] [] l e = refl
same-set [] (c ∷ cs) l e = absurd (omega arith)
same-set (b ∷ bs) [] l e = absurd (omega arith)
same-set (true ∷ bs) (true ∷ cs) l e =
    let tail : map suc (indices bs) ≡ map suc (indices cs) = cc in ap (λ (us : List Bool). true ∷ us) (same-set bs cs (omega arith) (suc-map (indices bs) (indices cs) tail))
same-set (true ∷ bs) (false ∷ cs) l e = absurd (no-zero (map suc (indices bs)) (indices cs) e)
same-set (false ∷ bs) (true ∷ cs) l e = absurd (no-zero (map suc (indices cs)) (indices bs) (sym e))
same-set (false ∷ bs) (false ∷ cs) l e = ap (λ (us : List Bool). false ∷ us) (same-set bs cs (omega arith) (suc-map (indices bs) (indices cs) e))

pub taken : (t k r : ℕ) → places_in t ≡ k ∷ places_in r → Lowest t k × (members r ≡ set (members t) (first_of (members t)) false)
taken t k r e =
    let some : 0 < how_many (members t) = omega (arith, length-places t, ap length e) in
    let f = first_of (members t) in
    let here : indices (members t) ≡ f ∷ indices (set (members t) f false) = indices-first (members t) some in
    let both : k ∷ places_in r ≡ f ∷ indices (set (members t) f false) = sym e ∙ places-listed t ∙ here in
    let first : k ≡ f = cc in
    let rest : places_in r ≡ indices (set (members t) f false) = cc in
    let long : length (members r) ≡ length (set (members t) f false) = omega (arith, length_digits 64 r, length_digits 64 t, length-set (members t) f false) in
    (record { some = some; first = first }, same-set (members r) (set (members t) f false) long (sym (places-listed r) ∙ rest))

pub none-taken : (t : ℕ) → places_in t ≡ [] → how_many (members t) ≡ 0
none-taken t e = omega (arith, length-places t, ap length e)

no-place : (bs : List Bool) → how_many bs ≡ 0 → (v : ℕ) → get_or bs v false ≡ false
no-place [] e v = refl
no-place (true ∷ bs) e v = absurd (omega arith)
no-place (false ∷ bs) e zero = refl
no-place (false ∷ bs) e (suc v) = no-place bs e v

pub none-in : (t : ℕ) → places_in t ≡ [] → (v : ℕ) → has t v ≡ false
none-in t e = no-place (members t) (none-taken t e)
