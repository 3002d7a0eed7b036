use mathlib.Core.Path.{ap, ◌∙◌}
use mathlib.Core.List.{◌++◌}
use Rattle.words.specs.Words.{le2, le4}
use Rattle.figures.proofs.Marks.{as_byte}
use Rattle.saved.specs.Format.{saved_bytes, over}
use Rattle.saved_writing.proofs.Writing.{complete-put}
use Rattle.saved_writing.proofs.put_complete.Goals as goal

pub returns : goal.returns
unfolding saved_bytes
returns c =
    let f = c.args.f in
    let b = c.args.work.now in
    complete-put b c.put.new.b c.put-2.new.b c.put-3.new.b c.put-4.new.b c.put-5.new.b c.put-6.new.b c.put-7.new.b f.steps f.low f.high c.from.result
    c.put.ensures c.put-2.ensures c.put-3.ensures c.put-4.ensures c.put-5.ensures c.put-6.ensures c.put-7.ensures
    ∙ ap (λ t. over (le2 0 ++ le2 1 ++ le4 f.steps ++ (le4 f.low ++ le4 f.high ++ le4 f.steps ++ le4 t)) b) (c.from.ensures ∙ as_byte f.finished)
