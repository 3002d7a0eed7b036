-- Differences of two whole numbers: order, multiples and sums.
use Prim.Native.Nat.{ℕ, zero, suc, ◌+◌, ◌-◌, ◌*◌, ◌≤◌, ◌<◌}
use mathlib.Core.Path.{◌≡◌, refl, sym, ap, ◌∙◌, subst₂}
use mathlib.Core.Bool.{Bool, true, false, cond}
use native.Mathlib.Nat.{add-zero, sub-zero, mul-le-mul_right, le_of_lt}
use native.Mathlib.Omega.{arith}
use lib.IntN.{ℤ, pos, negsuc, neg_ℤ, sub_ℕ, ◌+ℤ◌, ◌-ℤ◌, ◌*ℤ◌, +ℤ_assoc, +ℤ_comm}
use lib.Signed.{◌≤ℤ◌, mag}
use lib.Dec.{ltb, le→leb}
use borrow.Author.Tests.{ltb-true, ltb-false, lt-ltb, le-ltb}
use Rattle.rounding.proofs.Laws.{sub-mul}

-- the difference by its sign
pub minus_is : (a b : ℕ) → pos a -ℤ pos b ≡ sub_ℕ a b
minus_is a zero = ap pos (add-zero a) ∙ ap pos (sym (sub-zero a)) ∙ sym (ap (λ t. cond t (negsuc (0 - suc a)) (pos (a - 0))) (le-ltb a 0 (omega arith)))
minus_is a (suc b) = refl

below : (a b : ℕ) → a < b → sub_ℕ a b ≡ negsuc (b - suc a)
below a b h = ap (λ t. cond t (negsuc (b - suc a)) (pos (a - b))) (lt-ltb a b h)

above : (a b : ℕ) → b ≤ a → sub_ℕ a b ≡ pos (a - b)
above a b h = ap (λ t. cond t (negsuc (b - suc a)) (pos (a - b))) (le-ltb a b h)

order : (a b c d : ℕ) → a + d ≤ c + b → sub_ℕ a b ≤ℤ sub_ℕ c d
order a b c d h = go (ltb a b) (ltb c d) refl refl
  where
    go : (s t : Bool) → ltb a b ≡ s → ltb c d ≡ t → sub_ℕ a b ≤ℤ sub_ℕ c d
    go true true p q =
        let x = ltb-true a b p in let y = ltb-true c d q in
        subst₂ (λ (u v : ℤ). u ≤ℤ v) (sym (below a b x)) (sym (below c d y)) (record { le = le→leb (d - suc c) (b - suc a) (omega arith) })
    go true false p q =
        subst₂ (λ (u v : ℤ). u ≤ℤ v) (sym (below a b (ltb-true a b p))) (sym (above c d (ltb-false c d q))) (record { le = tt })
    go false true p q = absurd (omega (arith, ltb-false a b p, ltb-true c d q))
    go false false p q =
        let x = ltb-false a b p in let y = ltb-false c d q in
        subst₂ (λ (u v : ℤ). u ≤ℤ v) (sym (above a b x)) (sym (above c d y)) (record { le = le→leb (a - b) (c - d) (omega arith) })

-- a difference is no larger than another where it is so with the parts moved across
pub minus-order : (a b c d : ℕ) → a + d ≤ c + b → (pos a -ℤ pos b) ≤ℤ (pos c -ℤ pos d)
minus-order a b c d h = subst₂ (λ (u v : ℤ). u ≤ℤ v) (sym (minus_is a b)) (sym (minus_is c d)) (order a b c d h)

negative : (a b : ℕ) → a ≤ b → sub_ℕ a b ≡ neg_ℤ (pos (b - a))
negative a b h = go (ltb a b) refl
  where
    go : (s : Bool) → ltb a b ≡ s → sub_ℕ a b ≡ neg_ℤ (pos (b - a))
    go true p =
        let x = ltb-true a b p in
        let e : suc (b - suc a) ≡ b - a = omega arith in
        below a b x ∙ ap (λ (n : ℕ). neg_ℤ (pos n)) e
    go false p =
        let x = ltb-false a b p in
        let e : 0 ≡ b - a = omega arith in
        let f : a - b ≡ 0 = omega arith in
        above a b x ∙ ap pos f ∙ ap (λ (n : ℕ). neg_ℤ (pos n)) e

pub minus-mul : (a b c : ℕ) → (pos a -ℤ pos b) *ℤ pos c ≡ pos (a * c) -ℤ pos (b * c)
minus-mul a b c = ap (λ z. z *ℤ pos c) (minus_is a b) ∙ go (ltb a b) refl ∙ sym (minus_is (a * c) (b * c))
  where
    go : (s : Bool) → ltb a b ≡ s → sub_ℕ a b *ℤ pos c ≡ sub_ℕ (a * c) (b * c)
    go true p =
        let x = ltb-true a b p in
        let e : suc (b - suc a) ≡ b - a = omega arith in
        ap (λ z. z *ℤ pos c) (below a b x) ∙ ap (λ (n : ℕ). neg_ℤ (pos n)) (ap (λ n. n * c) e ∙ sub-mul b a c)
        ∙ sym (negative (a * c) (b * c) (mul-le-mul_right c (le_of_lt x)))
    go false p =
        let x = ltb-false a b p in
        ap (λ z. z *ℤ pos c) (above a b x) ∙ ap pos (sub-mul a b c) ∙ sym (above (a * c) (b * c) (mul-le-mul_right c x))

pub minus-add : (a b w : ℕ) → (pos a -ℤ pos b) +ℤ pos w ≡ pos (a + w) -ℤ pos b
minus-add a b w = +ℤ_assoc (pos a) (neg_ℤ (pos b)) (pos w) ∙ ap (λ z. pos a +ℤ z) (+ℤ_comm (neg_ℤ (pos b)) (pos w)) ∙ sym (+ℤ_assoc (pos a) (pos w) (neg_ℤ (pos b)))

-- a difference lies in the range of its parts
pub minus-range : (a b M : ℕ) → a < M → b < M → mag (pos a -ℤ pos b) < M
minus-range a b M h k = rw (minus_is a b) (go (ltb a b) refl)
  where
    go : (s : Bool) → ltb a b ≡ s → mag (sub_ℕ a b) < M
    go true p = let x = ltb-true a b p in rw (below a b x) (omega arith)
    go false p = let x = ltb-false a b p in rw (above a b x) (omega arith)
