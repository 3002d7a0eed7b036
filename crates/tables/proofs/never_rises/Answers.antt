use mathlib.Core.Path.{sym, ◌∙◌}
use native.Mathlib.Omega.{arith}
use Rattle.tables.proofs.Theorems.{rises, onward, none_left}
use Rattle.tables.proofs.never_rises.Goals as goal

pub returns-then-value : goal.returns-then-value
returns-then-value c =
    sym (c.loop-k.invariant.1 ∙ rises c.args.table.now c.loop-k.k 511 (omega (arith, c.loop-k-test.true)) (omega (arith, c.value.ensures, c.value-in-loop-k.ensures, c.if-value.true)))

pub loop-k-preserved : goal.loop-k-preserved
loop-k-preserved c =
    (omega arith, c.loop-k.invariant.1 ∙ onward c.args.table.now c.loop-k.k 511 (omega (arith, c.loop-k-test.true)) (omega (arith, c.value.ensures, c.value-in-loop-k.ensures, c.if-value.false)))

pub returns : goal.returns
returns c = sym (c.loop-k.invariant.1 ∙ none_left c.args.table.now c.loop-k.k 511 (omega arith))
