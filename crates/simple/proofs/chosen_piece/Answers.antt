use mathlib.Core.Path.{subst}
use borrow.Author.Rules.{rules}
use Rattle.search.specs.Searches.{ends_in}
use Rattle.pieces.specs.Pieces.{PieceOf}
use Rattle.network.specs.Places.{Sized}
use Rattle.simple.proofs.Keeping.{piece-asked}
use Rattle.simple.proofs.chosen_piece.Goals as goal
use Rattle.simple.proofs.chosen_piece.Goals.{Start}

sized : (s : Start) → Sized s.args.net
sized s = search rules

pub piece_of-requires : goal.piece_of-requires
piece_of-requires c =
    piece-asked c.args.net (sized (goal.at.piece_of-requires c).Start) c.requires.0 c.requires.1 c.lowest-v.result c.lowest-v.ensures

pub returns : goal.returns
returns c =
    let n = c.args.net in
    subst (PieceOf c.piece_of.result n.nodes (ends_in n.alive n.a n.b)) c.lowest-v.ensures c.piece_of.ensures
