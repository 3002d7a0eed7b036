use Prim.Native.Nat.{ℕ}
use mathlib.Core.Path.{◌≡◌, sym, ap, ◌∙◌}
use mathlib.Core.Option.{some}
use native.Mathlib.Omega.{arith}
use Rattle.reliability.specs.Rule.{is_loop, first_at}
use Rattle.reliability.specs.Terminals.{Terminals, among}
use Rattle.reliability.specs.Simple.{Loopless, without_loops}
use Rattle.reliability.proofs.Simple.{loop-below, loop-gone, loops-gone}
use Rattle.network.specs.Places.{links_of, network_of, terminals_of, chosen_of, index_of, Used, Sized}
use Rattle.network.proofs.Kept.{chosen-of}
use Rattle.network.proofs.Made.{fewer, loop-found, loop-missed}
use borrow.Author.Rules.{rules}
use Rattle.simple.proofs.+without_loops.Goals as goal
use Rattle.simple.proofs.+without_loops.Goals.{In-Some, Start}

sized : (t : ℕ) (s : Start t) → Sized s.args.net
sized t s = search rules

loop-at : (t : ℕ) (k : In-Some t) → let n = k.args.net in let i = k.in-Some.i in Used n i × (first_at is_loop (links_of n) ≡ some (index_of n i))
loop-at t k = loop-found k.args.net (sized t (goal.at.In-Some t k).Start) _ (sym k.first_loop.ensures ∙ k.in-Some.is)

pub deleted-requires : goal.deleted-requires
deleted-requires t c = (c.requires, (loop-at t c).0)

pub without_loops-requires : goal.without_loops-requires
without_loops-requires t c =
    let b = loop-below (terminals_of c.args.net) (chosen-of c.args.net c.requires) _ (loop-at t (goal.at.without_loops-requires t c).In-Some).1 in
    (omega (arith, c.decreases, fewer (terminals_of c.args.net) c.deleted.result c.deleted.ensures.0 b), c.deleted.ensures.1)

pub returns : goal.returns
returns t c =
    let gone = ap (λ (g : Terminals). among g.chosen (without_loops g.network)) c.deleted.ensures.0 in
    (c.without_loops.ensures.0 ∙ gone ∙ ap (among (chosen_of c.args.net)) (loop-gone (network_of c.args.net) _ (loop-at t (goal.at.returns t c).In-Some).1), c.without_loops.ensures.1)

-- ---- no loop
pub returns-in_default : goal.returns-in_default
returns-in_default t c =
    let none : Loopless (network_of c.args.net) = loop-missed c.args.net (sized t (goal.at.returns-in_default t c).Start) (sym c.first_loop.ensures ∙ c.in_default.is) in
    (ap (among (chosen_of c.args.net)) (loops-gone (network_of c.args.net) none), c.requires)
