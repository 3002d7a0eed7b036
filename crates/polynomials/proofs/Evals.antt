-- Rows, and what they are worth at every x.
use Prim.Native.Nat.{ℕ, zero, suc, ◌+◌, ◌-◌, ◌*◌, ◌^◌, ◌%◌, ◌/◌, ◌≤◌, ◌<◌, zero-le}
use mathlib.Core.Path.{◌≡◌, refl, sym, ap, ap₂, ◌∙◌}
use mathlib.Core.List.{List, [], ◌∷◌, ◌++◌}
use native.Mathlib.Nat.{add_assoc, mul-zero, mul-one, one-mul, add-zero, zero-add, mul-suc, pow-zero, pow-succ', add-suc, add-sub_of_le, mul-le-mul_left, le_refl, le_trans, le-add_right, mod-eq_of_lt, add-mul-mod_self_left, mul-div_cancel_left}
use native.Mathlib.Omega.{arith}
use borrow.Author.Tests.{leb-true}
use lib.ListN.{length, get_or, set, take, replicate, length-take}
use lib.Seq.{take_all, take-suc, take-suc-set, get_or-take}
use Rattle.rounding.proofs.Laws.{ring}
use Rattle.polynomials.specs.Rows.{eval, some, Fits}

-- ---- entry by entry

unfoldable pub added : List ℕ → List ℕ → List ℕ
added [] ys = []
added (x ∷ xs) [] = []
added (x ∷ xs) (y ∷ ys) = (x + y) ∷ added xs ys

pub length-added : (xs ys : List ℕ) → length xs ≡ length ys → length (added xs ys) ≡ length xs
unfolding added
length-added [] ys h = refl
length-added (x ∷ xs) [] h = absurd (omega arith)
length-added (x ∷ xs) (y ∷ ys) h = ap suc (length-added xs ys (omega arith))

pub get_or-added : (xs ys : List ℕ) (i : ℕ) → length xs ≡ length ys → get_or (added xs ys) i 0 ≡ get_or xs i 0 + get_or ys i 0
unfolding added
get_or-added [] [] i h = refl
get_or-added [] (y ∷ ys) i h = absurd (omega arith)
get_or-added (x ∷ xs) [] i h = absurd (omega arith)
get_or-added (x ∷ xs) (y ∷ ys) zero h = refl
get_or-added (x ∷ xs) (y ∷ ys) (suc i) h = get_or-added xs ys i (omega arith)

four : (x a b p q : ℕ) → a + b + x * (p + q) ≡ a + x * p + (b + x * q)
four x a b p q = simp ring

pub eval-added : (x : ℕ) (xs ys : List ℕ) → length xs ≡ length ys → eval x (added xs ys) ≡ eval x xs + eval x ys
unfolding added eval
eval-added x [] [] h = refl
eval-added x [] (y ∷ ys) h = absurd (omega arith)
eval-added x (a ∷ xs) [] h = absurd (omega arith)
eval-added x (a ∷ xs) (b ∷ ys) h =
    ap (λ n. a + b + x * n) (eval-added x xs ys (omega arith)) ∙ four x a b (eval x xs) (eval x ys)

pub eval-zeros : (x n : ℕ) → eval x (replicate n 0) ≡ 0
unfolding eval
eval-zeros x zero = refl
eval-zeros x (suc n) = ap (λ k. 0 + x * k) (eval-zeros x n) ∙ omega (arith, mul-zero x)

eval-snoc : (x : ℕ) (xs : List ℕ) (k : ℕ) → eval x (xs ++ (k ∷ [])) ≡ eval x xs + x ^ length xs * k
unfolding eval
eval-snoc x [] k = omega (arith, mul-zero x, ap (λ n. n * k) (pow-zero x), one-mul k)
eval-snoc x (a ∷ xs) k =
    ap (λ n. a + x * n) (eval-snoc x xs k) ∙ shape a x (eval x xs) (x ^ length xs) k ∙ ap (λ n. a + x * eval x xs + n * k) (sym (pow-succ' x (length xs)))
  where
    shape : (a x p q k : ℕ) → a + x * (p + q * k) ≡ a + x * p + x * q * k
    shape a x p q k = simp ring

pub entry-within : (xs : List ℕ) (i : ℕ) → get_or xs i 0 ≤ eval 1 xs
unfolding eval
entry-within [] i = zero-le
entry-within (a ∷ xs) zero = omega arith
entry-within (a ∷ xs) (suc i) = omega (arith, entry-within xs i)

-- ---- a row is told by what it is worth

pub unique : (b : ℕ) (xs ys : List ℕ) → length xs ≡ length ys → eval 1 xs < b → eval 1 ys < b → eval b xs ≡ eval b ys → xs ≡ ys
unfolding eval
unique b [] [] l h k e = refl
unique b [] (y ∷ ys) l h k e = absurd (omega arith)
unique b (x ∷ xs) [] l h k e = absurd (omega arith)
unique b (x ∷ xs) (y ∷ ys) l h k e =
    let hx : x < b = omega arith in
    let hy : y < b = omega arith in
    let head : x ≡ y = sym (mod-eq_of_lt hx) ∙ sym (add-mul-mod_self_left x b (eval b xs)) ∙ ap (λ n. n % b) e ∙ add-mul-mod_self_left y b (eval b ys) ∙ mod-eq_of_lt hy in
    let rest : b * eval b xs ≡ b * eval b ys = omega arith in
    let tail : eval b xs ≡ eval b ys = sym (mul-div_cancel_left (eval b xs) (omega arith)) ∙ ap (λ n. n / b) rest ∙ mul-div_cancel_left (eval b ys) (omega arith) in
    ap₂ ◌∷◌ head (unique b xs ys (omega arith) (omega arith) (omega arith) tail)

pub same_row : (xs ys : List ℕ) → length xs ≡ length ys → ((x : ℕ) → eval x xs ≡ eval x ys) → xs ≡ ys
same_row xs ys l e = unique (suc (eval 1 xs)) xs ys l (le_refl _) (omega (arith, e 1)) (e _)

-- ---- 25 entries hold what is no more than the sets of 24 links

no_room : (b p q E k : ℕ) → q < b * p → b * (E + p * k) ≤ q → k ≡ 0
no_room b p q E zero h l = refl
no_room b p q E (suc j) h l =
    let more : p ≤ E + p * suc j = omega (arith, mul-suc p j) in
    absurd (omega (arith, mul-le-mul_left b more))

too_much : 16777217 ^ 24 < 16777216 * 16777216 ^ 24
too_much = leb-true _ _ refl

module _ (l : List ℕ) (size : length l ≡ 25) (fits : (x : ℕ) → x * eval x l ≤ (1 + x) ^ 24) where
  top : (x : ℕ) → eval x l ≡ eval x (take 24 l) + x ^ 24 * get_or l 24 0
  top x =
      let whole : l ≡ take 24 l ++ (get_or l 24 0 ∷ []) = sym (take_all 25 l (omega arith)) ∙ take-suc l 24 0 (omega arith) in
      let short : length (take 24 l) ≡ 24 = omega (arith, length-take 24 l) in
      ap (eval x) whole ∙ eval-snoc x (take 24 l) (get_or l 24 0) ∙ ap (λ n. eval x (take 24 l) + x ^ n * get_or l 24 0) short

  pub trimmed : (x : ℕ) → eval x (take 24 l) ≡ eval x l
  trimmed x =
      let b : ℕ = 16777216 in
      let none = no_room b (b ^ 24) (16777217 ^ 24) (eval b (take 24 l)) (get_or l 24 0) too_much (rw (top b) at (fits b)) in
      sym (top x ∙ ap (λ k. eval x (take 24 l) + x ^ 24 * k) none ∙ ap (λ k. eval x (take 24 l) + k) (mul-zero (x ^ 24)) ∙ add-zero _)

-- ---- t + x (t + p)

abbrev pub grown : List ℕ → List ℕ → List ℕ
grown t p = added t (0 ∷ take 24 (added t p))

module _ (t p : List ℕ) (ht : length t ≡ 25) (hp : length p ≡ 25) where
  sum-length : length (added t p) ≡ 25
  sum-length = length-added t p (ht ∙ sym hp) ∙ ht

  shifted-length : length t ≡ length (0 ∷ take 24 (added t p))
  shifted-length = omega (arith, length-take 24 (added t p), sum-length)

  pub grown-length : length (grown t p) ≡ 25
  grown-length = length-added t (0 ∷ take 24 (added t p)) shifted-length ∙ ht

  pub grown-first : get_or (grown t p) 0 0 ≡ get_or t 0 0
  grown-first = get_or-added t (0 ∷ take 24 (added t p)) 0 shifted-length ∙ add-zero _

  pub grown-at : (i : ℕ) → i < 24 → get_or (grown t p) (suc i) 0 ≡ get_or t (suc i) 0 + get_or t i 0 + get_or p i 0
  grown-at i h =
      get_or-added t (0 ∷ take 24 (added t p)) (suc i) shifted-length
      ∙ ap (λ n. get_or t (suc i) 0 + n) (get_or-take 24 (added t p) i 0 h ∙ get_or-added t p i (ht ∙ sym hp)) ∙ sym (add_assoc _ _ _)

  pub grown-eval : Fits (λ x. eval x t + x * (eval x t + eval x p)) → (x : ℕ) → eval x (grown t p) ≡ eval x t + x * (eval x t + eval x p)
  unfolding eval
  grown-eval fits x =
      let both : (y : ℕ) → eval y (added t p) ≡ eval y t + eval y p = λ y. eval-added y t p (ht ∙ sym hp) in
      let fit : (y : ℕ) → y * eval y (added t p) ≤ (1 + y) ^ 24 = λ y. rw (both y) (le_trans (omega arith) (fits y)) in
      eval-added x t (0 ∷ take 24 (added t p)) shifted-length
      ∙ ap (λ n. eval x t + (0 + x * n)) (trimmed (added t p) sum-length fit x ∙ both x) ∙ ap (λ n. eval x t + n) (zero-add _)

-- ---- one entry more of a row l

pub one_more : (r l : List ℕ) (i v : ℕ) → i < length r → i < length l → take i r ≡ take i l → v ≡ get_or l i 0 → take (suc i) (set r i v) ≡ take (suc i) l
one_more r l i v h k e w = take-suc-set r i v h ∙ ap₂ (λ a b. a ++ (b ∷ [])) e w ∙ sym (take-suc l i 0 k)

-- ---- at least one of c links

pub some-grows : (x c k : ℕ) → some x c ≤ some x (c + k)
unfolding some
some-grows x c zero = rw (add-zero c) (le_refl _)
some-grows x c (suc k) = rw (add-suc c k) (le_trans (some-grows x c k) (le-add_right _ _))

pub some-within : (x : ℕ) {k c : ℕ} → k ≤ c → some x k ≤ some x c
some-within x {k} {c} h = rw (add-sub_of_le h) at (some-grows x k (c - k))

pub some_more : (x k E P : ℕ) → E ≡ some x k * P → E + x * (E + P) ≡ some x (suc k) * P
unfolding some
some_more x k E P e = ap (λ n. n + x * (n + P)) e ∙ shape x (some x k) P
  where
    shape : (x s P : ℕ) → s * P + x * (s * P + P) ≡ (s + x * (s + 1)) * P
    shape x s P = simp (mul-one, one-mul, ring)

pub some-both : (x c d : ℕ) → some x (c + d) ≡ some x c * some x d + (some x c + some x d)
unfolding some
some-both x c zero = ap (some x) (add-zero c) ∙ omega (arith, mul-zero (some x c))
some-both x c (suc d) = rw (add-suc c d, some-both x c d) (shape x (some x c) (some x d))
  where
    shape : (x p q : ℕ) → p * q + (p + q) + x * (p * q + (p + q) + 1) ≡ p * (q + x * (q + 1)) + (p + (q + x * (q + 1)))
    shape x p q = simp (mul-one, one-mul, ring)
