use Prim.Native.Nat.{◌+◌}
use mathlib.Core.Path.{ap, ◌∙◌}
use Rattle.polynomials.specs.Rows.{eval}
use Rattle.polynomials.proofs.Row.split.Goals as goal

pub returns : goal.returns
returns c = λ x. c.plus.ensures x ∙ ap (λ k. k + eval x c.args.without.entries) (c.times.ensures x)
