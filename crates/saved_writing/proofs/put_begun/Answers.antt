use Rattle.saved_writing.proofs.Writing.{begun-put}
use Rattle.saved_writing.proofs.put_begun.Goals as goal

pub returns : goal.returns
returns c =
    let a = c.args in
    begun-put a.work.now a.row.now c.put.new.b c.put-2.new.b c.put-3.new.b c.put_places.new.work c.put_pairs.new.work a.c a.steps
    c.put.ensures c.put-2.ensures c.put-3.ensures c.put_places.ensures c.put_pairs.ensures
