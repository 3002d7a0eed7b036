-- A mark, finished or not, as a number.
use mathlib.Core.Path.{◌≡◌, refl}
use mathlib.Core.Bool.{Bool, true, false, cond}
use mir.Val.{bool_byte}

pub as_byte : (t : Bool) → bool_byte t ≡ cond t 1 0
as_byte true = refl
as_byte false = refl
