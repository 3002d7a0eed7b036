-- Directed rounding in units of S: what each operation of this crate gives, over whole numbers.
-- x / y is the quotient rounded down, and 0 where y is 0. Low figures round Down, high figures Up.
use Rattle.std.specs.Prelude.{ℕ, zero, suc, ◌+◌, ◌-◌, ◌*◌, ◌/◌, ◌%◌, cond, eqb}
use Rattle.rounding.specs.declared.Direction.{Direction}
use Rattle.rounding.specs.declared.Direction.TheVariants.{Down, Up}

-- a unit is one part in S
abbrev pub S : ℕ
S = 1000000000

-- x / y, rounded to a whole number
unfoldable pub quotient : Direction → ℕ → ℕ → ℕ
quotient Down x y = x / y
quotient Up x y = (x + (y - 1)) / y

abbrev pub opposite : Direction → Direction
opposite Down = Up
opposite Up = Down

-- the chance that two links are both sound
unfoldable pub product : Direction → ℕ → ℕ → ℕ
product d p q = quotient d (p * q) S

-- step 4, parallel: the quotient that is subtracted is rounded the other way
unfoldable pub parallel : Direction → ℕ → ℕ → ℕ
parallel d p q = S - quotient (opposite d) ((S - p) * (S - q)) S

-- step 6, W: that at least one of two links is sound, over S * S
unfoldable pub either : ℕ → ℕ → ℕ
either p q = S * (p + q) - p * q

-- step 6, the value of two links in series: that both are sound where at least one is
unfoldable pub series : Direction → ℕ → ℕ → ℕ
series d p q = quotient d (S * (p * q)) (either p q)

-- step 6, the factor of two links in series
unfoldable pub factor : Direction → ℕ → ℕ → ℕ
factor d p q = quotient d (either p q) S

-- step 7, the split on a link of value p
unfoldable pub split : Direction → ℕ → ℕ → ℕ → ℕ
split d p sound broken = quotient d (p * sound + (S - p) * broken) S

-- the decimal digits that the long division of x by w works: the fewest k up to n such that w divides 10 ^ k * x, else n
-- (at_most, divides, none_below in proofs/FewestDigits.antt)
unfoldable pub fewest_digits : ℕ → ℕ → ℕ → ℕ
fewest_digits zero x w = 0
fewest_digits (suc n) x w = cond (eqb (x % w) 0) 0 (suc (fewest_digits n (10 * x) w))
