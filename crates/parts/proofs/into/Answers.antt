use mathlib.Core.Path.{sym, ◌∙◌}
use native.Mathlib.Omega.{arith}
use borrow.Author.Rules.{rules}
use Rattle.bits.proofs.Operations.{cleared-fits}
use Rattle.parts.proofs.Nodes.{inserted-fits, into-taken, into-left}
use Rattle.parts.proofs.into.Goals as goal

pub overflow_cast-result : goal.overflow_cast-result
overflow_cast-result c =
    record { fits = inserted-fits _ _ _ (search rules) (cleared-fits _ c.args.nodes _ (search rules) (search rules) c.without.ensures) (search rules) c.with.ensures }

pub returns-then-has : goal.returns-then-has
returns-then-has c =
    let a = c.args in
    into-taken a.keep a.gone _ _ a.nodes (omega (arith, c.requires)) (sym c.has.ensures ∙ c.if-has.true) c.without.ensures c.with.ensures

pub returns-else-has : goal.returns-else-has
returns-else-has c =
    let a = c.args in
    into-left a.keep a.gone a.nodes (sym c.has.ensures ∙ c.if-has.false)
