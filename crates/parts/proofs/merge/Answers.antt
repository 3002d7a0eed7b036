use mathlib.Core.Path.{refl}
use Rattle.parts.proofs.Changes.{merged}
use borrow.Author.Rules.{rules}
use Rattle.parts.proofs.merge.Goals as goal

pub returns : goal.returns
returns c = record { moved = refl; merged = merged c.args.at.now c.args.keep c.args.gone c.union.result (search rules) (search rules) c.union.ensures }
