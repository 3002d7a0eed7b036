use Prim.Native.Nat.{ℕ, ◌*◌}
use mathlib.Core.Path.{◌≡◌}
use Rattle.polynomials.specs.Rows.{eval, some}
use Rattle.polynomials.proofs.Row.times.Given as goal

abbrev pub invariant-loop : goal.invariant-loop
invariant-loop l = (x : ℕ) → eval x l.t.entries ≡ some x l.counter * eval x l.self.entries
