use Prim.Native.Nat.{◌+◌, ◌*◌}
use mathlib.Core.Path.{◌≡◌, ap, ◌∙◌}
use mathlib.Core.List.{◌++◌}
use native.Mathlib.Omega.{arith}
use lib.ListN.{take, drop}
use Rattle.saved.specs.Format.{words, row_pairs}
use Rattle.saved_writing.proofs.Writing.{pairs_put, pairs-none, pairs-more}
use Rattle.saved_writing.proofs.put_pairs.Goals as goal

pub loop-i-init : goal.loop-i-init
loop-i-init c = pairs-none c.args.work.now c.args.row.now c.args.c

pub loop-i-preserved : goal.loop-i-preserved
loop-i-preserved c =
    pairs-more c.args.work.now c.args.row.now _ _ _ c.args.c c.loop-i.i (omega arith) c.loop-i.invariant c.put.ensures c.put-in-loop-i.ensures

pub returns : goal.returns
returns c =
    let a = c.args in
    let done : c.loop-i.i ≡ a.c = omega arith in
    let end : 8 + 4 * a.c + 8 * a.c ≡ 8 + 12 * a.c = omega arith in
    c.loop-i.invariant ∙ ap (pairs_put a.work.now a.row.now a.c) done ∙ ap (λ k. take (8 + 4 * a.c) a.work.now ++ words (row_pairs a.row.now 0 a.c) ++ drop k a.work.now) end
