-- Text written part by part, and numbers in decimal.
use Prim.Native.Nat.{ℕ, zero, suc, ◌+◌, ◌-◌, ◌*◌, ◌/◌, ◌%◌, ◌^◌, ◌≤◌, ◌<◌}
use mathlib.Core.Path.{◌≡◌, refl, sym, ap, ap₂, ◌∙◌}
use mathlib.Core.List.{List, [], ◌∷◌, ◌++◌, append_assoc}
use mathlib.Core.Bool.{Bool, true, false, ◌&&◌}
use native.Mathlib.Omega.{arith, pow_step}
use native.Mathlib.Decide.{dec_lt}
use native.Mathlib.Numerals.{add-one}
use native.Mathlib.Nat.{add-zero, div-lt_iff_lt-mul}
use lib.Dec.{leb}
use lib.ListN.{length, length-append, get_or, set, take, drop, drop_of_length-le}
use lib.Seq.{sets, sets-eq, length-sets, drop-cons, drop-drop}
use borrow.Rule.Slice.PartMut.{put_mid}
use Rattle.std.specs.Fmt.{decimal as written}
use Rattle.std.proofs.lemmas.Fmt.{length-decimal-le, decimal_from_appends}
use Rattle.std.proofs.lemmas.List.{take_all}
use borrow.Author.Tests.{lt-ltb, le-ltb, leb-true}
use Rattle.lines.specs.Lines.{Puts, digit, decimal_of, decimal, is_digit, meant, filled}

sets-append : (l : List ℕ) (i : ℕ) (s t : List ℕ) → sets (sets l i s) (i + length s) t ≡ sets l i (s ++ t)
sets-append l i [] t = ap (λ (k : ℕ). sets l k t) (add-zero i)
sets-append l i (a ∷ s) t = ap (λ (k : ℕ). sets (sets (set l i a) (suc i) s) k t) (omega arith) ∙ sets-append (set l i a) (suc i) s t

-- ---- text written part by part

-- the text so far, with what remains written from a place on, is the whole text, up to its end
pub record Remaining (l : List ℕ) (at : ℕ) (rest whole : List ℕ) (end size : ℕ) : Type 0 where
  pub written : sets l at rest ≡ whole
  pub place : at + length rest ≡ end
  pub kept : length l ≡ size

pub begun : (l : List ℕ) (at : ℕ) (t : List ℕ) → Remaining l at t (sets l at t) (at + length t) (length l)
begun l at t = record { written = refl; place = refl; kept = refl }

module _ (l : List ℕ) (at : ℕ) (rest whole : List ℕ) (end size : ℕ) (r : Remaining l at rest whole end size) where
  -- the next part and what remains behind it
  module _ (part later : List ℕ) (e : rest ≡ part ++ later) where
    pub room : end ≤ size → at + length part ≤ length l
    room h = omega (arith, r.place, r.kept, ap length e, length-append part later)

    pub goes_on : (m : List ℕ) (behind : ℕ) → Puts l at part m behind → Remaining m behind later whole end size
    goes_on m behind p = record {
      written = ap₂ (λ (x : List ℕ) (k : ℕ). sets x k later) p.0 p.1 ∙ sets-append l at part later ∙ ap (sets l at) (sym e) ∙ r.written;
      place = omega (arith, p.1, r.place, ap length e, length-append part later);
      kept = ap length p.0 ∙ length-sets l at part ∙ r.kept;
    }

  -- nothing remains
  pub done : rest ≡ [] → (l ≡ whole) × (at ≡ end)
  done e = (ap (sets l at) (sym e) ∙ r.written, omega (arith, r.place, ap length e))

-- ---- decimal

abbrev digits_by : Bool → ℕ → ℕ → List ℕ
digits_by t k x = elim t as (λ _. List ℕ) [ true ↦ digit x ∷ [] | false ↦ decimal_of k (x / 10) ++ digit (x % 10) ∷ [] ]

digits-none : (x : ℕ) → decimal_of 0 x ≡ []
unfolding decimal_of
digits-none x = refl

pub digits-one : (k x : ℕ) → x < 10 → decimal_of (suc k) x ≡ digit x ∷ []
unfolding decimal_of
digits-one k x h = ap (λ t. digits_by t k x) (lt-ltb x 10 h)

pub digits_more : (k x : ℕ) → 10 ≤ x → decimal_of (suc k) x ≡ decimal_of k (x / 10) ++ digit (x % 10) ∷ []
unfolding decimal_of
digits_more k x h = ap (λ t. digits_by t k x) (le-ltb x 10 h)

pub tenth : (k x : ℕ) → x < 10 ^ suc k → x / 10 < 10 ^ k
tenth k x h =
    let e : x < 10 ^ k * 10 = omega (arith, pow_step 10 k, h) in
    let ten : 0 < 10 = omega arith in
    (div-lt_iff_lt-mul {k = 10} {x = x} {y = 10 ^ k} ten).1 e

length_digits : (k x : ℕ) → length (decimal_of k x) ≤ k
length_digits zero x = rw (digits-none x) (omega arith)
length_digits (suc k) x = go (dec_lt x 10) (length_digits k (x / 10))
  where
    go : Dec (x < 10) → length (decimal_of k (x / 10)) ≤ k → length (decimal_of (suc k) x) ≤ suc k
    go (yes l) h = rw (digits-one k x l) (omega arith)
    go (no n) h = rw (digits_more k x (omega arith), length-append (decimal_of k (x / 10)) (digit (x % 10) ∷ [])) (omega arith)

pub length-decimal : (x : ℕ) → length (decimal x) ≤ 10
length-decimal x = length_digits 10 x

-- the library writes the same digits
pub by_library : (x : ℕ) → x < 2 ^ 32 → written x ≡ decimal x
by_library x h =
    let most : length (written x) ≤ 10 = length-decimal-le 10 x (omega arith) (omega arith) (omega arith) in
    sym (decimal_from_appends decimal_of (record { one = digits-one; more = digits_more }) 10 x (omega arith) most)

-- at least one digit
pub some_digit : (x : ℕ) → 1 ≤ length (decimal x)
some_digit x = go (dec_lt x 10)
  where
    go : Dec (x < 10) → 1 ≤ length (decimal x)
    go (yes l) = rw (digits-one 9 x l) (omega arith)
    go (no n) = rw (digits_more 9 x (omega arith), length-append (decimal_of 9 (x / 10)) (digit (x % 10) ∷ [])) (omega arith)

-- a part laid into a text
pub laid : (l t : List ℕ) (at k : ℕ) → k ≡ length t → at + length t ≤ length l → put_mid at k l t ≡ sets l at t
laid l t at k e h = rw e (ap (λ (r : List ℕ). take at l ++ (t ++ r)) (drop-drop (length t) at l) ∙ sym (append_assoc (take at l) t (drop (at + length t) l)) ∙ sym (sets-eq t l at h))

-- for put_decimal; some_digit and take_all are for digits copied by a range of them
pub ruleset digits_laid = (by_library, some_digit, laid, take_all)

-- ---- the form of a line

module _ (xs : List ℕ) where
  module _ (c : ℕ) where
    meant-by : (t : Bool) → is_digit c ≡ t → meant xs c ≡ (elim t as (λ _. List ℕ) [ true ↦ decimal (get_or xs (c - 48) 0) | false ↦ c ∷ [] ])
    unfolding meant
    meant-by t h = ap (λ u. elim u as (λ _. List ℕ) [ true ↦ decimal (get_or xs (c - 48) 0) | false ↦ c ∷ [] ]) h

    pub number-meant : is_digit c ≡ true → (x : ℕ) → x ≡ get_or xs (c - 48) 0 → decimal x ≡ meant xs c
    number-meant h x e = ap decimal e ∙ sym (meant-by true h)

    pub itself-meant : is_digit c ≡ false → c ∷ [] ≡ meant xs c
    itself-meant h = sym (meant-by false h)

    -- the same, from what is meant
    pub digit_meant : is_digit c ≡ true → meant xs c ≡ decimal (get_or xs (c - 48) 0)
    digit_meant = meant-by true

    pub other_meant : is_digit c ≡ false → meant xs c ≡ c ∷ []
    other_meant = meant-by false

  pub filled_none : (form : List ℕ) (i : ℕ) → length form ≤ i → filled xs (drop i form) ≡ []
  unfolding filled
  filled_none form i h = ap (filled xs) (drop_of_length-le form h)

  pub filled_next : (form : List ℕ) (i : ℕ) → i < length form → filled xs (drop i form) ≡ meant xs (get_or form i 0) ++ filled xs (drop (i + 1) form)
  unfolding filled
  filled_next form i h = ap (filled xs) (drop-cons form i 0 h) ∙ rw (add-one i) refl

first_holds : (a b : Bool) → (a && b) ≡ true → a ≡ true
first_holds true b h = refl
first_holds false b h = h

pub at-least-zero : (c : ℕ) → is_digit c ≡ true → 48 ≤ c
at-least-zero c h = leb-true 48 c (first_holds (leb 48 c) (leb c 57) h)

-- for put_meant
pub ruleset meanings = (digit_meant, other_meant, at-least-zero, some_digit)
