use mathlib.Core.Path.{refl}
use native.Mathlib.Omega.{arith}
use lib.ListN.{length-set}
use Rattle.saved.specs.Format.{count_in}
use Rattle.saved.proofs.Reading.{row_opens, held_more}
use Rattle.saved.proofs.Laws.{begun-means}
use Rattle.saved.proofs.SavedWork.row.Goals as goal

pub loop-i-init : goal.loop-i-init
loop-i-init c =
    let w = begun-means c.args.self.bytes.now c.requires.0 c.requires.1 in
    (omega arith, omega arith, refl, λ j h. absurd (omega arith))

pub loop-i-preserved : goal.loop-i-preserved
loop-i-preserved c =
    (c.loop-i.invariant.0, c.loop-i.invariant.1, simp length-set c.loop-i.invariant.2, held_more c.args.self.bytes.now c.loop-i.row c.count-c.result c.loop-i.i c.read.result c.read-in-loop-i.result c.read-in-loop-i-2.result c.loop-i.invariant.2 (omega arith) c.count-c.ensures c.read.ensures c.read-in-loop-i.ensures c.read-in-loop-i-2.ensures c.loop-i.invariant.3)

pub returns : goal.returns
returns c =
    let b = c.args.self.bytes.now in
    row_opens b c.loop-i.row 0 (count_in b) (λ j h. c.loop-i.invariant.3 j (omega arith))
