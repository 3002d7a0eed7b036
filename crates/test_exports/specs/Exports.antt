-- What the exported calls answer.
use Rattle.std.specs.Prelude.{ℕ, ◌*◌, ◌/◌, ◌%◌, Bool, true, false, ◌&&◌, leb, ltb, cond, Option, Some, None}
use Rattle.rounding.specs.declared.Direction.{Direction}
use Rattle.rounding.specs.declared.Direction.TheVariants.{Down, Up}
use Rattle.rounding.specs.declared.Division.{Division}
use Rattle.rounding.specs.Rounding.{S, fewest_digits}

abbrev pub direction : Bool → Direction
direction false = Down
direction true = Up

-- two values are chances
abbrev pub chances : ℕ → ℕ → Bool
chances p q = leb p S && leb q S

-- what the long division takes
abbrev pub divisible : ℕ → ℕ → Bool
divisible x w = ltb 0 w && leb x w && leb w (S * S)

-- the long division, where it takes them
abbrev pub divided : ℕ → ℕ → Option Division
divided x w = cond (divisible x w) (Some (record { quotient = S * x / w; remainder = S * x % w; digits = fewest_digits 9 x w })) None

-- the result where the arguments are in range, and the largest number of the result's type where not
abbrev pub answered : Bool → ℕ → ℕ → ℕ
answered true result largest = result
answered false result largest = largest
