-- Directed bounds with an error budget: each operation's share is stated once and added up.
use Prim.Native.Nat.{ℕ, ◌+◌, ◌-◌, ◌*◌, ◌≤◌, ◌<◌}
use mathlib.Core.Path.{◌≡◌, refl, sym, ap, ◌∙◌}
use mathlib.Core.Bool.{Bool, true}
use native.Mathlib.Nat.{mul-add, add-mul, mul-le-mul, mul-le-mul_left, le_trans, le_of_eq, le_of_lt, le_of_mul-le-mul_right}
use native.Mathlib.Omega.{arith}
use Rattle.rounding.specs.declared.Direction.{Direction}
use Rattle.rounding.specs.declared.Direction.TheVariants.{Down, Up}
use Rattle.rounding.proofs.Laws.{Ordered, Rounds}

abbrev pub Apart : Direction → ℕ → ℕ → ℕ → Type 0
Apart Down e a b = b ≤ a + e
Apart Up e a b = a ≤ b + e

-- a bounds b from its side and, where all is done, is off by at most e
pub record Within (d : Direction) (done : Bool) (e a b : ℕ) : Type 0 where
  pub bounds : Ordered d a b
  pub close : done ≡ true → Apart d e a b

pub equal : (d : Direction) (done : Bool) {a b : ℕ} → a ≡ b → Within d done 0 a b
equal Down done h = record { bounds = omega arith; close = λ _. omega arith }
equal Up done h = record { bounds = omega arith; close = λ _. omega arith }

pub rounded : (d : Direction) {r x y : ℕ} → Rounds d r x y → Within d true y (r * y) x
rounded Down h = record { bounds = h.bounds.order; close = λ _. le_of_lt h.near }
rounded Up h = record { bounds = h.bounds.order; close = λ _. le_of_lt h.near }

module _ {done : Bool} {e a b : ℕ} where
  -- a larger budget, fewer cases
  pub weaken : (d : Direction) (done' : Bool) {e' : ℕ} → e ≤ e' → (done' ≡ true → done ≡ true) → Within d done e a b → Within d done' e' a b
  weaken Down done' h k w = record { bounds = w.bounds; close = λ t. let c = w.close (k t) in omega arith }
  weaken Up done' h k w = record { bounds = w.bounds; close = λ t. let c = w.close (k t) in omega arith }

  pub trans : (d : Direction) {f c : ℕ} → Within d done e a b → Within d done f b c → Within d done (e + f) a c
  trans Down v w = record { bounds = le_trans v.bounds w.bounds; close = λ t. let x = v.close t in let y = w.close t in omega arith }
  trans Up v w = record { bounds = le_trans w.bounds v.bounds; close = λ t. let x = v.close t in let y = w.close t in omega arith }

  pub plus : (d : Direction) {f c g : ℕ} → Within d done e a b → Within d done f c g → Within d done (e + f) (a + c) (b + g)
  plus Down v w = record { bounds = omega (arith, v.bounds, w.bounds); close = λ t. let x = v.close t in let y = w.close t in omega arith }
  plus Up v w = record { bounds = omega (arith, v.bounds, w.bounds); close = λ t. let x = v.close t in let y = w.close t in omega arith }

  pub by : (d : Direction) (k : ℕ) → Within d done e a b → Within d done (k * e) (k * a) (k * b)
  by Down k w = record { bounds = mul-le-mul_left k w.bounds; close = λ t. le_trans (mul-le-mul_left k (w.close t)) (le_of_eq (mul-add k a e)) }
  by Up k w = record { bounds = mul-le-mul_left k w.bounds; close = λ t. le_trans (mul-le-mul_left k (w.close t)) (le_of_eq (mul-add k b e)) }

-- the same numbers, written otherwise
pub same : (d : Direction) {done : Bool} {e a b a' b' : ℕ} → a ≡ a' → b ≡ b' → Within d done e a b → Within d done e a' b'
same Down h k w = record { bounds = let x = w.bounds in omega arith; close = λ t. let x = w.close t in omega arith }
same Up h k w = record { bounds = let x = w.bounds in omega arith; close = λ t. let x = w.close t in omega arith }

-- over another total
pub cancelled : (d : Direction) {done : Bool} {e a b : ℕ} (k : ℕ) → 0 < k → Within d done (e * k) (a * k) (b * k) → Within d done e a b
cancelled Down {e = e} {a = a} k pos w = record { bounds = le_of_mul-le-mul_right w.bounds pos; close = λ t. le_of_mul-le-mul_right (le_trans (w.close t) (le_of_eq (sym (add-mul a e k)))) pos }
cancelled Up {e = e} {b = b} k pos w = record { bounds = le_of_mul-le-mul_right w.bounds pos; close = λ t. le_of_mul-le-mul_right (le_trans (w.close t) (le_of_eq (sym (add-mul b e k)))) pos }

-- two shares of one total, of A and of B below it: the larger share weighs more, by its excess over A at most
heavier : (x y x' y' A B : ℕ) → x + y ≡ x' + y' → x ≤ x' → B ≤ A → (x * A + y * B ≤ x' * A + y' * B) × (x' * A + y' * B ≤ x * A + y * B + (x' - x) * A)
heavier x y x' y' A B h k l =
    let xs : x' ≡ x + (x' - x) = omega arith in
    let ys : y ≡ y' + (x' - x) = omega arith in
    let fx : x' * A ≡ x * A + (x' - x) * A = ap (λ n. n * A) xs ∙ add-mul x (x' - x) A in
    let fy : y * B ≡ y' * B + (x' - x) * B = ap (λ n. n * B) ys ∙ add-mul y' (x' - x) B in
    let less : (x' - x) * B ≤ (x' - x) * A = mul-le-mul_left (x' - x) l in
    (omega arith, omega arith)

pub shares : (d : Direction) (x y x' y' A B : ℕ) {e : ℕ} (M : ℕ) → x + y ≡ x' + y' → B ≤ A → A ≤ M → Within d true e x x' → Within d true (e * M) (x * A + y * B) (x' * A + y' * B)
shares Down x y x' y' A B {e} M h l k w =
    let c = w.close refl in
    let f = heavier x y x' y' A B h w.bounds l in
    let m : (x' - x) * A ≤ e * M = mul-le-mul (omega arith) k in
    record { bounds = f.0; close = λ _. omega arith }
shares Up x y x' y' A B {e} M h l k w =
    let c = w.close refl in
    let f = heavier x' y' x y A B (sym h) w.bounds l in
    let m : (x - x') * A ≤ e * M = mul-le-mul (omega arith) k in
    record { bounds = f.0; close = λ _. omega arith }
