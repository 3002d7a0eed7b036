use Prim.Native.Nat.{◌+◌}
use lib.ListN.{get_or, drop}
use Rattle.lines.specs.Lines.{meant, filled}
use Rattle.lines.proofs.Texts.{begun, room, goes_on, done, filled_none, filled_next}
use borrow.Author.Rules.{rules}
use Rattle.lines.proofs.put_line.Goals as goal

pub loop-c-init : goal.loop-c-init
loop-c-init c = let a = c.args in begun a.text.now a.at (filled a.numbers.now a.form.now)

pub put_meant-next-requires : goal.put_meant-next-requires
put_meant-next-requires c =
    let a = c.args in
    room _ _ _ _ _ _ c.loop-c.invariant (meant a.numbers.now (get_or a.form.now c.loop-c.c-index 0)) (filled a.numbers.now (drop (c.loop-c.c-index + 1) a.form.now)) (filled_next a.numbers.now a.form.now c.loop-c.c-index (search rules)) (search rules)

pub loop-c-preserved : goal.loop-c-preserved
loop-c-preserved c =
    let p = c.put_meant-next in
    let a = c.args in
    goes_on _ _ _ _ _ _ c.loop-c.invariant (meant a.numbers.now (get_or a.form.now c.loop-c.c-index 0)) (filled a.numbers.now (drop (c.loop-c.c-index + 1) a.form.now)) (filled_next a.numbers.now a.form.now c.loop-c.c-index (search rules)) p.new.text p.result p.ensures

pub shape_of-text : goal.shape_of-text
shape_of-text c = c.loop-c.invariant.kept

pub returns : goal.returns
returns c =
    let a = c.args in
    done _ _ _ _ _ _ c.loop-c.invariant (filled_none a.numbers.now a.form.now c.loop-c.c-index (search rules))
