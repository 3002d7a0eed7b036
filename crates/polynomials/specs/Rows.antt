-- A row of numbers as a polynomial: its value at every x.
use Rattle.std.specs.Prelude.{ℕ, zero, suc, ◌+◌, ◌*◌, ◌^◌, ◌≤◌, List, [], ◌∷◌}

-- entry 0, plus entry 1 times x, plus entry 2 times x times x, and so on
unfoldable pub eval : ℕ → List ℕ → ℕ
eval x [] = 0
eval x (k ∷ ks) = k + x * eval x ks

-- the sets of at least one of c links, by their sizes: (1 + x) to the power c, less 1
unfoldable pub some : ℕ → ℕ → ℕ
some x zero = 0
some x (suc c) = some x c + x * (some x c + 1)

-- no more than all sets of 24 links
abbrev pub Fits : (ℕ → ℕ) → Type 0
Fits f = (x : ℕ) → f x ≤ (1 + x) ^ 24
