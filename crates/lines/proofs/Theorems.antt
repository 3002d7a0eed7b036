-- What holds of every number in decimal, and how long a line can be.
use Prim.Native.Nat.{ℕ, zero, suc, ◌+◌, ◌-◌, ◌*◌, ◌/◌, ◌%◌, ◌^◌, ◌≤◌, ◌<◌}
use mathlib.Core.Path.{◌≡◌, refl, ap, ◌∙◌, subst}
use mathlib.Core.List.{List, [], ◌∷◌, ◌++◌}
use mathlib.Core.Bool.{Bool, true, false, cond}
use native.Mathlib.Omega.{arith}
use native.Mathlib.Decide.{dec_lt}
use lib.ListN.{length, length-append, get_or}
use Rattle.lines.specs.Lines.{digit, decimal_of, decimal, is_digit, meant, filled}
use Rattle.lines.proofs.Texts.{digits-one, digits_more, tenth, length-decimal, number-meant, itself-meant}

-- ---- a number in decimal

-- the number that digits spell behind those of n
abbrev spelt : ℕ → List ℕ → ℕ
spelt n [] = n
spelt n (c ∷ l) = spelt (10 * n + (c - 48)) l

spelt-last : (n : ℕ) (l : List ℕ) (c : ℕ) → spelt n (l ++ c ∷ []) ≡ 10 * spelt n l + (c - 48)
spelt-last n [] c = refl
spelt-last n (b ∷ l) c = spelt-last (10 * n + (b - 48)) l c

spelt-one : (k x : ℕ) → x < 10 → spelt 0 (decimal_of (suc k) x) ≡ x
spelt-one k x h = ap (spelt 0) (digits-one k x h) ∙ (let e : 10 * 0 + (48 + x - 48) ≡ x = omega arith in e)

spelt-digits : (k x : ℕ) → x < 10 ^ suc k → spelt 0 (decimal_of (suc k) x) ≡ x
spelt-digits zero x h = spelt-one 0 x h
spelt-digits (suc k) x h = go (dec_lt x 10) (spelt-digits k (x / 10) (tenth (suc k) x h))
  where
    go : Dec (x < 10) → spelt 0 (decimal_of (suc k) (x / 10)) ≡ x / 10 → spelt 0 (decimal_of (suc (suc k)) x) ≡ x
    go (yes l) e = spelt-one (suc k) x l
    go (no n) e =
        let all : 10 * (x / 10) + (48 + x % 10 - 48) ≡ x = omega arith in
        ap (spelt 0) (digits_more (suc k) x (omega arith)) ∙ spelt-last 0 (decimal_of (suc k) (x / 10)) (digit (x % 10)) ∙ ap (λ (y : ℕ). 10 * y + (48 + x % 10 - 48)) e ∙ all

-- its digits spell it
pub decimal-spells : (x : ℕ) → x < 2 ^ 32 → spelt 0 (decimal x) ≡ x
decimal-spells x h = spelt-digits 9 x (omega arith)

-- ---- the length of a line

-- the room that a line of some form takes at most, a number taking ten digits
unfoldable pub width : List ℕ → ℕ
width [] = 0
width (c ∷ form) = cond (is_digit c) 10 1 + width form

length-meant : (xs : List ℕ) (c : ℕ) (t : Bool) → is_digit c ≡ t → length (meant xs c) ≤ cond t 10 1
length-meant xs c true e = subst (λ (l : List ℕ). length l ≤ 10) (number-meant xs c e (get_or xs (c - 48) 0) refl) (length-decimal (get_or xs (c - 48) 0))
length-meant xs c false e = subst (λ (l : List ℕ). length l ≤ 1) (itself-meant xs c e) (omega arith)

pub length-filled : (xs form : List ℕ) → length (filled xs form) ≤ width form
unfolding width filled
length-filled xs [] = omega arith
length-filled xs (c ∷ form) = omega (arith, length-append (meant xs c) (filled xs form), length-meant xs c (is_digit c) refl, length-filled xs form)
