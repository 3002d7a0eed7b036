use mathlib.Core.Path.{sym, ap, ◌∙◌}
use native.Mathlib.Omega.{arith}
use Rattle.saved.specs.Format.{pairs_allowed}
use Rattle.saved.proofs.Reading.{pair-refused, pair-passed, pairs-passed}
use Rattle.saved.proofs.SavedWork.pairs_allowed.Goals as goal

pub loop-i-init : goal.loop-i-init
loop-i-init c = ap (pairs_allowed c.args.self.bytes.now 0) (omega arith)

pub returns-then-not-pair_allowed : goal.returns-then-not-pair_allowed
returns-then-not-pair_allowed c =
    pair-refused c.args.self.bytes.now c.count-c.result c.loop-i.i c.read.result c.read-in-loop-i.result c.pair_allowed.result c.count-c.ensures c.loop-i-test.true c.read.ensures c.read-in-loop-i.ensures c.pair_allowed.ensures c.if-not-pair_allowed.true ∙ sym c.loop-i.invariant

pub loop-i-preserved : goal.loop-i-preserved
loop-i-preserved c =
    c.loop-i.invariant ∙ pair-passed c.args.self.bytes.now c.count-c.result c.loop-i.i c.read.result c.read-in-loop-i.result c.pair_allowed.result c.count-c.ensures c.loop-i-test.true c.read.ensures c.read-in-loop-i.ensures c.pair_allowed.ensures c.if-not-pair_allowed.false

pub returns : goal.returns
returns c = sym (c.loop-i.invariant ∙ pairs-passed _ _ _ (omega arith))
