-- Ratings by length: the chance, in units, of a cable of k hundred metres. The table T, and the joints at both ends of any cable.
use Rattle.std.specs.Prelude.{ℕ, zero, suc, ◌*◌, ◌/◌, ◌≤◌}
use Rattle.rounding.specs.Rounding.{S, product}
use Rattle.rounding.specs.declared.Direction.{Direction}

-- T[0] is S; each next one is the one before * 999,700,000 / S, rounded down
unfoldable pub T : ℕ → ℕ
T zero = S
T (suc k) = T k * 999700000 / S

-- a rating by length is at most S at every length that a plan can have; T is such a one (built-in-range in proofs/Laws.antt)
abbrev pub AtMostS : (ℕ → ℕ) → Type 0
AtMostS rating = (k : ℕ) → k ≤ 511 → rating k ≤ S

-- J: the chance, in units, that a joint is sound
abbrev pub J : ℕ
J = 999950000

-- a cable of chance t with a joint at each end: t * J * J / S², rounded after each joint
-- (joints-bound, joints-near in proofs/Joints.antt: on its side of that, and off by less than 2 units)
unfoldable pub with_joints : Direction → ℕ → ℕ
with_joints d t = product d (product d t J) J
