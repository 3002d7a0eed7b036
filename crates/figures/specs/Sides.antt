-- A number for each direction.
use Rattle.std.specs.Prelude.{ℕ}
use Rattle.rounding.specs.declared.Direction.{Direction}
use Rattle.rounding.specs.declared.Direction.TheVariants.{Down, Up}

abbrev pub sides : ℕ → ℕ → Direction → ℕ
sides low high Down = low
sides low high Up = high
