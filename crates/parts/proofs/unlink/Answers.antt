use borrow.Author.Rules.{rules}
use Rattle.parts.proofs.unlink.Goals as goal

pub returns : goal.returns
returns c = record { left = search rules; out = record { half = c.take_out.new.at; first = c.take_out.ensures; second = c.take_out-2.ensures } }
