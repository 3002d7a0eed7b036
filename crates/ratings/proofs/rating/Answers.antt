use Rattle.ratings.specs.declared.TheConstants.{RATINGS}
use Rattle.ratings.proofs.Table.{carried}
use Rattle.ratings.proofs.rating.Goals as goal

pub returns : goal.returns
returns c = let e = carried RATINGS tt c.args.k c.requires in record { value = e.0; falls = e.1 }
