-- Two's complement of a signed number of 32 bits.
use mathlib.Core.Path.{◌≡◌, refl, ap, ◌∙◌}
use native.Mathlib.Omega.{arith}
use lib.IntN.{ℤ, pos, negsuc}
use mir.Syntax.{w32}
use mir.Val.{SFits, to_z, of_z}
use mir.Facts.{to_z-of_z}
use Rattle.desk.specs.Outcomes.{twos}

written : (x : ℤ) → of_z w32 x ≡ twos x
written (pos n) = refl
written (negsuc n) = omega arith

-- as the code reads it
pub unsigned-twos : (x : ℤ) → SFits w32 x → of_z w32 (to_z w32 (of_z w32 x)) ≡ twos x
unsigned-twos x fits = ap (of_z w32) (to_z-of_z fits) ∙ written x

pub ruleset on_bits = (unsigned-twos)
