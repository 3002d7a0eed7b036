use Prim.Native.Nat.{◌+◌, ◌*◌}
use mathlib.Core.Path.{ap, ◌∙◌}
use native.Mathlib.Nat.{mul-zero}
use native.Mathlib.Omega.{arith}
use Rattle.polynomials.specs.Rows.{eval}
use Rattle.polynomials.proofs.Evals.{eval-zeros}
use Rattle.polynomials.proofs.Row.one.Goals as goal

pub returns : goal.returns
unfolding eval
returns c = λ x. ap (λ k. 1 + x * k) (eval-zeros x 24) ∙ omega (arith, mul-zero x)
