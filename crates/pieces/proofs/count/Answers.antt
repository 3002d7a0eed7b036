use Prim.Native.Nat.{ℕ, ◌≤◌, ◌<◌}
use mathlib.Core.Path.{◌≡◌}
use mathlib.Core.Bool.{true}
use native.Mathlib.Omega.{arith}
use lib.ListN.{length}
use borrow.Author.Rules.{rules}
use Rattle.search.proofs.Sets.{has, has-below, full}
use Rattle.search.proofs.Marks.{Lowest, lowest-of, lowest-in}
use Rattle.pieces.proofs.Counting.{counted_none, counted-few, counted-more, counted-all, one_less}
use Rattle.pieces.proofs.count.Goals as goal
use Rattle.pieces.proofs.count.Goals.{After-difference-rest, After-lowest-v}

pub loop-rest-init : goal.loop-rest-init
loop-rest-init c = (counted_none c.args.nodes c.args.alive c.args.a.now c.args.b.now c.requires.2, search rules)

-- the lowest node left
low : (c : After-lowest-v) → Lowest c.loop-rest.rest c.lowest-v.result
low c =
    let l = c.loop-rest in
    lowest-of l.rest c.lowest-v.result (search rules) l.invariant.1 c.lowest-v.ensures

pub piece_of-piece-requires : goal.piece_of-piece-requires
piece_of-piece-requires c =
    let l = c.loop-rest in
    let inside = lowest-in l.rest c.lowest-v.result (low c) in
    let below : (u : ℕ) → has c.args.nodes u ≡ true → u < 32 = λ u h. has-below c.args.nodes 32 u c.requires.0 h in
    (below c.lowest-v.result (l.invariant.0.within c.lowest-v.result inside), inside, c.requires.1, λ p used. let r = c.requires.2 p used in (below _ r.0, below _ r.1), l.invariant.0.closed)

pub overflow_add-count : goal.overflow_add-count
overflow_add-count c =
    let l = c.loop-rest in
    let a = c.args in
    record { fits = omega (arith, counted-few a.nodes a.alive a.a.now a.b.now l.rest l.count l.invariant.0) }

long : (c : After-difference-rest) → let a = c.args in (64 ≤ length a.a.now) × (64 ≤ length a.b.now)
long c =
    full c.args.at.now c.args.a.now c.args.b.now c.args.alive c.requires.1

pub loop-rest-preserved : goal.loop-rest-preserved
loop-rest-preserved c =
    let l = c.loop-rest in (
      counted-more c.args.nodes c.args.alive c.args.a.now c.args.b.now (long c) _ _ _ _ _ (low (goal.at.loop-rest-preserved c).After-lowest-v) c.piece_of-piece.ensures c.difference-rest.ensures l.invariant.0,
      search rules,
    )

pub loop-rest-smaller : goal.loop-rest-smaller
loop-rest-smaller c = omega (arith, one_less _ _ _ (long c) _ _ _ _ (low (goal.at.loop-rest-smaller c).After-lowest-v) c.loop-rest.invariant.0.closed c.piece_of-piece.ensures c.difference-rest.ensures)

pub returns : goal.returns
returns c =
    let l = c.loop-rest in
    let a = c.args in
    counted-all a.nodes a.alive a.a.now a.b.now l.rest l.count (search rules) l.invariant.0
