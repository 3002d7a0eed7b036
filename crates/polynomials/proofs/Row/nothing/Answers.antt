use Rattle.polynomials.proofs.Evals.{eval-zeros}
use Rattle.polynomials.proofs.Row.nothing.Goals as goal

pub returns : goal.returns
returns c = λ x. eval-zeros x 25
