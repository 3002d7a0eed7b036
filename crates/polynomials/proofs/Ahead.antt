-- Values of a row and of a bundle, computed.
use mathlib.Core.Path.{◌≡◌, refl}
use mathlib.Core.List.{[], ◌∷◌}
use Rattle.polynomials.specs.Rows.{eval, some}

-- 1 + 2 × 10 + 3 × 10 × 10, and 11 × 11 less 1
pub at-ten : (eval 10 (1 ∷ 2 ∷ 3 ∷ []) ≡ 321) × (some 10 2 ≡ 120)
unfolding eval some
at-ten = (refl, refl)
