-- The links and nodes at the places in use, as the definitions have them.
use Prim.Native.Nat.{ℕ, zero, suc, ◌+◌, ◌-◌, ◌≤◌, ◌<◌, suc-le-suc, zero-le}
use mathlib.Core.Path.{◌≡◌, refl, sym, ap, ap₂, subst, ◌∙◌}
use mathlib.Core.List.{List, [], ◌∷◌, ◌++◌, map}
use mathlib.Core.Bool.{Bool, true, false, true≢false}
use native.Mathlib.Nat.{not-suc-le-zero, le_of_suc-le-suc}
use native.Mathlib.Numerals.{add-one}
use native.Mathlib.Omega.{arith}
use lib.ListN.{length, get_or, set, take, replicate, length-append, length-replicate, get_or-replicate, get_or-append}
use lib.Seq.{set-get_or, take-suc-set}
use Rattle.bits.specs.Members.{members}
use Rattle.bits.proofs.Digits.{length_digits, digits-zero}
use Rattle.rounding.specs.Rounding.{S}
use Rattle.rounding.specs.declared.Direction.{Direction}
use Rattle.reliability.specs.declared.Link.{Link}
use Rattle.reliability.specs.Networks.{Proper, Valid, link_at, value}
use Rattle.reliability.specs.Rule.{delete_at}
use Rattle.reliability.proofs.Validity.{proper-at}
use Rattle.network.specs.declared.Network.{Network}
use Rattle.search.specs.Searches.{pick, from}
use Rattle.network.specs.Places.{rank, rows, links_of, nodes_of, network_of, Used, index_of, Built, Sized}

-- ---- what stands at the places that are set

module _ {A : Type 0} where
  -- to clear a place takes out what stood there
  pub pick-cleared : (p : ℕ) (bs : List Bool) (xs : List A) → get_or bs p false ≡ true → pick (set bs p false) xs ≡ delete_at (rank p bs) (pick bs xs)
  unfolding pick rank delete_at
  pick-cleared p [] xs h = refl
  pick-cleared zero (b ∷ bs) [] h = refl
  pick-cleared (suc p) (b ∷ bs) [] h = refl
  pick-cleared zero (b ∷ bs) (x ∷ xs) h = rw h
  pick-cleared (suc p) (true ∷ bs) (x ∷ xs) h = ap (λ r. x ∷ r) (pick-cleared p bs xs h)
  pick-cleared (suc p) (false ∷ bs) (x ∷ xs) h = pick-cleared p bs xs h

  pub pick-set : (p : ℕ) (bs : List Bool) (xs : List A) (y : A) → get_or bs p false ≡ true → pick bs (set xs p y) ≡ set (pick bs xs) (rank p bs) y
  unfolding pick rank
  pick-set p [] xs y h = refl
  pick-set p (b ∷ bs) [] y h = refl
  pick-set zero (b ∷ bs) (x ∷ xs) y h = rw h
  pick-set (suc p) (true ∷ bs) (x ∷ xs) y h = ap (λ r. x ∷ r) (pick-set p bs xs y h)
  pick-set (suc p) (false ∷ bs) (x ∷ xs) y h = pick-set p bs xs y h

  pub pick_at : (p : ℕ) (bs : List Bool) (xs : List A) (z : A) → get_or bs p false ≡ true → get_or (pick bs xs) (rank p bs) z ≡ get_or xs p z
  unfolding pick rank
  pick_at p [] xs z h = absurd (true≢false (sym h))
  pick_at p (b ∷ bs) [] z h = refl
  pick_at zero (b ∷ bs) (x ∷ xs) z h = rw h
  pick_at (suc p) (true ∷ bs) (x ∷ xs) z h = pick_at p bs xs z h
  pick_at (suc p) (false ∷ bs) (x ∷ xs) z h = pick_at p bs xs z h

  pub rank-within : (p : ℕ) (bs : List Bool) (xs : List A) → get_or bs p false ≡ true → p < length xs → rank p bs < length (pick bs xs)
  unfolding pick rank
  rank-within p [] xs h k = absurd (true≢false (sym h))
  rank-within p (b ∷ bs) [] h k = absurd (not-suc-le-zero k)
  rank-within zero (b ∷ bs) (x ∷ xs) h k = rw h (suc-le-suc zero-le)
  rank-within (suc p) (true ∷ bs) (x ∷ xs) h k = suc-le-suc (rank-within p bs xs h (le_of_suc-le-suc k))
  rank-within (suc p) (false ∷ bs) (x ∷ xs) h k = rank-within p bs xs h (le_of_suc-le-suc k)

  -- the first n places
  pub pick_first : (n k : ℕ) (xs : List A) → pick (replicate n true ++ replicate k false) xs ≡ take n xs
  unfolding pick
  pick_first zero zero xs = refl
  pick_first zero (suc k) [] = refl
  pick_first zero (suc k) (x ∷ xs) = pick_first zero k xs
  pick_first (suc n) k [] = refl
  pick_first (suc n) k (x ∷ xs) = ap {B = List A} (λ r. x ∷ r) (pick_first n k xs)

pub pick-none : {A : Type 0} (xs : List A) → pick (members 0) xs ≡ []
pick-none xs = ap (λ bs. pick bs xs) (digits-zero 64) ∙ pick_first 0 64 xs

pub pick-map : {A B : Type 0} (f : A → B) (bs : List Bool) (xs : List A) → pick bs (map f xs) ≡ map f (pick bs xs)
unfolding pick
pick-map f [] xs = refl
pick-map f (b ∷ bs) [] = refl
pick-map f (true ∷ bs) (x ∷ xs) = ap (λ r. f x ∷ r) (pick-map f bs xs)
pick-map f (false ∷ bs) (x ∷ xs) = pick-map f bs xs

pub rank-first : (p n k : ℕ) → p ≤ n → rank p (replicate n true ++ replicate k false) ≡ p
unfolding rank
rank-first zero n k h = refl
rank-first (suc p) zero k h = absurd (not-suc-le-zero h)
rank-first (suc p) (suc n) k h = ap suc (rank-first p n k (le_of_suc-le-suc h))

-- ---- rows

abbrev pub row : ℕ → ℕ → ℕ → ℕ → Link
row a b l h = record { a = a; b = b; low = l; high = h }

-- four arrays of one length
pub data Even : List ℕ → List ℕ → List ℕ → List ℕ → Type 0 where
  none : Even [] [] [] []
  more : {x y u v : ℕ} {a b l h : List ℕ} → Even a b l h → Even (x ∷ a) (y ∷ b) (u ∷ l) (v ∷ h)

pub even : (n : ℕ) (a b l h : List ℕ) → length a ≡ n → length b ≡ n → length l ≡ n → length h ≡ n → Even a b l h
even n [] [] [] [] ha hb hl hh = none
even n [] (y ∷ b) l h ha hb hl hh = absurd (omega arith)
even n [] [] (u ∷ l) h ha hb hl hh = absurd (omega arith)
even n [] [] [] (v ∷ h) ha hb hl hh = absurd (omega arith)
even n (x ∷ a) [] l h ha hb hl hh = absurd (omega arith)
even n (x ∷ a) (y ∷ b) [] h ha hb hl hh = absurd (omega arith)
even n (x ∷ a) (y ∷ b) (u ∷ l) [] ha hb hl hh = absurd (omega arith)
even n (x ∷ a) (y ∷ b) (u ∷ l) (v ∷ h) ha hb hl hh = more (even (length a) a b l h refl (omega arith) (omega arith) (omega arith))

pub length-rows : {a b l h : List ℕ} → Even a b l h → length (rows a b l h) ≡ length a
unfolding rows
length-rows none = refl
length-rows (more e) = ap suc (length-rows e)

pub rows_at : {a b l h : List ℕ} → Even a b l h → (i : ℕ) → get_or (rows a b l h) i (row 0 0 0 0) ≡ row (get_or a i 0) (get_or b i 0) (get_or l i 0) (get_or h i 0)
unfolding rows
rows_at none i = refl
rows_at (more e) zero = refl
rows_at (more e) (suc i) = rows_at e i

-- all four written at one place
pub rows-set : {a b l h : List ℕ} → Even a b l h → (i : ℕ) (e : Link) → rows (set a i e.a) (set b i e.b) (set l i e.low) (set h i e.high) ≡ set (rows a b l h) i e
unfolding rows
rows-set none i e = refl
rows-set (more s) zero e = refl
rows-set (more {x} {y} {u} {v} s) (suc i) e = ap (λ (r : List Link). row x y u v ∷ r) (rows-set s i e)

-- the values alone written
pub rows-values : {a b l h : List ℕ} → Even a b l h → (i x y : ℕ) → rows a b (set l i x) (set h i y) ≡ set (rows a b l h) i (row (get_or a i 0) (get_or b i 0) x y)
rows-values {a} {b} {l} {h} s i x y =
    ap₂ (λ as₁ bs. rows as₁ bs (set l i x) (set h i y)) (sym (set-get_or a i 0)) (sym (set-get_or b i 0)) ∙ rows-set s i (row (get_or a i 0) (get_or b i 0) x y)

-- both ends mapped
pub rows-map : {a b l h : List ℕ} → Even a b l h → (f : ℕ → ℕ) → rows (map f a) (map f b) l h ≡ map (λ e. row (f e.a) (f e.b) e.low e.high) (rows a b l h)
unfolding rows
rows-map none f = refl
rows-map (more {x} {y} {u} {v} s) f = ap (λ (r : List Link). row (f x) (f y) u v ∷ r) (rows-map s f)

-- ---- the links of a network

abbrev pub all_rows : Network → List Link
all_rows n = rows n.a n.b n.low n.high

-- the link at a place
abbrev pub row_at : Network → ℕ → Link
row_at n i = row (get_or n.a i 0) (get_or n.b i 0) (get_or n.low i 0) (get_or n.high i 0)

module _ (n : Network) (sized : Sized n) where
  pub all-even : Even n.a n.b n.low n.high
  all-even = even 64 n.a n.b n.low n.high sized.a_length sized.b_length sized.low_length sized.high_length

  pub length-all : length (all_rows n) ≡ 64
  length-all = length-rows all-even ∙ sized.a_length

  pub link-at : (i : ℕ) → Used n i → link_at (network_of n) (index_of n i) ≡ row_at n i
  link-at i u = pick_at i (members n.alive) (all_rows n) (row 0 0 0 0) u.used ∙ rows_at all-even i

  -- a place in use is one of the links then left
  pub index-within : (i : ℕ) → Used n i → index_of n i < length (links_of n)
  index-within i u = rank-within i (members n.alive) (all_rows n) u.used (omega (arith, u.below, length-all))

  pub proper-row : Valid (network_of n) → (i : ℕ) → Used n i → Proper (nodes_of n) (row_at n i)
  proper-row valid i u =
      subst (Proper (nodes_of n)) (link-at i u)
      (proper-at (network_of n) valid (index_of n i) (index-within i u))

  pub values-within : Valid (network_of n) → (i j : ℕ) → Used n i → Used n j → (d : Direction) → (value d (row_at n i) ≤ S) × (value d (row_at n j) ≤ S)
  values-within valid i j u w d = ((proper-row valid i u).range d, (proper-row valid j w).range d)

module _ (n : Network) (s j : ℕ) (xs : List Link) (u : Used n j) (cleared : members s ≡ set (members n.alive) j false) where
  -- place j cleared
  pub deleted-links : pick (members s) xs ≡ delete_at (index_of n j) (pick (members n.alive) xs)
  deleted-links = ap (λ bs. pick bs xs) cleared ∙ pick-cleared j (members n.alive) xs u.used

  -- and place i written: the link there is one made of the two
  pub joined-links : Sized n → (i : ℕ) (e : Link) (g : Link → Link → Link) → Used n i → xs ≡ set (all_rows n) i e → e ≡ g (row_at n i) (row_at n j)
      → pick (members s) xs ≡ delete_at (index_of n j) (set (links_of n) (index_of n i) (g (link_at (network_of n) (index_of n i)) (link_at (network_of n) (index_of n j))))
  joined-links sized i e g w written made =
      let two = ap₂ g (sym (link-at n sized i w)) (sym (link-at n sized j u)) in
      deleted-links
      ∙ ap (delete_at (index_of n j))
      (ap (pick (members n.alive)) written ∙ pick-set i (members n.alive) (all_rows n) e w.used ∙ ap (set (links_of n) (index_of n i)) (made ∙ two))

-- ---- a network that is being built

below_more : (k m : ℕ) → set (replicate k true ++ replicate (suc m) false) k true ≡ replicate (suc k) true ++ replicate m false
below_more zero m = refl
below_more (suc k) m = ap (λ bs. true ∷ bs) (below_more k m)

pub take-from : (i n k : ℕ) → n ≤ k → take n (from i k) ≡ from i n
unfolding from
take-from i zero k h = refl
take-from i (suc n) zero h = absurd (not-suc-le-zero h)
take-from i (suc n) (suc k) h = ap (λ r. i ∷ r) (take-from (suc i) n k (le_of_suc-le-suc h))

module _ (n : Network) (k : ℕ) (built : Built n k) where
  pub built-most : k ≤ 64
  unfolding Built
  built-most = omega (arith, length_digits 64 n.alive, simp (length-append, length-replicate) at (ap length built))

  pub built-used : (i : ℕ) → i < k → Used n i
  unfolding Built
  built-used i h = record {
    below = omega (arith, built-most);
    used = ap (λ bs. get_or bs i false) built
        ∙ get_or-append (replicate k true) (replicate (64 - k) false) false i (rw length-replicate h)
        ∙ get_or-replicate k i true false h;
  }

  pub built-index : (i : ℕ) → i ≤ k → index_of n i ≡ i
  unfolding Built
  built-index i h = ap (rank i) built ∙ rank-first i k (64 - k) h

  -- the next place is free
  pub built-free : get_or (members n.alive) k false ≡ false
  unfolding Built
  built-free = ap (λ bs. get_or bs k false) built ∙ free k (64 - k)
    where
      free : (k m : ℕ) → get_or (replicate k true ++ replicate m false) k false ≡ false
      free zero zero = refl
      free zero (suc m) = refl
      free (suc k) m = free k m

  pub built-links : links_of n ≡ take k (all_rows n)
  unfolding Built
  built-links = ap (λ bs. pick bs (all_rows n)) built ∙ pick_first k (64 - k) (all_rows n)

-- one link more, at place k
module _ (n r : Network) (k : ℕ) (built : Built n k) (free : k < 64) (more : members r.alive ≡ set (members n.alive) k true) where
  pub built-more : Built r (k + 1)
  unfolding Built
  built-more =
      let left : 64 - k ≡ suc (64 - suc k) = omega arith in
      rw add-one (more ∙ ap (λ bs. set bs k true) (built ∙ ap (λ j. replicate k true ++ replicate j false) left) ∙ below_more k (64 - suc k))

  pub built-appended : Sized n → (e : Link) → all_rows r ≡ set (all_rows n) k e → links_of r ≡ links_of n ++ (e ∷ [])
  built-appended sized e written =
      built-links r (k + 1) built-more
      ∙ rw (written, add-one, take-suc-set (all_rows n) k e (omega (arith, length-all n sized)), built-links n k built)
