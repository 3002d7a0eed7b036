use Prim.Native.Nat.{ℕ, ◌<◌}
use mathlib.Core.Path.{◌≡◌, refl, sym, ap, ap₂, ◌∙◌}
use mathlib.Core.Bool.{Bool, true, ◌&&◌, ◌||◌, and-eq-true_iff}
use native.Mathlib.Omega.{arith}
use lib.Dec.{eqb}
use lib.ListN.{get_or}
use borrow.Author.Rules.{rules}
use Rattle.bits.specs.Members.{members, how_many}
use Rattle.bits.proofs.Digits.{lowest_set}
use Rattle.bits.proofs.Places.{count-cleared}
use Rattle.search.proofs.Sets.{has, has-none, has-with, has-without, has-zip, full, at-node}
use Rattle.pieces.proofs.Flood.{starts, near-ends, follow, all_seen, cut_off}
use Rattle.pieces.proofs.piece_of.Goals as goal
use Rattle.pieces.proofs.piece_of.Goals.{After-lowest-k}

pub with-seen-requires : goal.with-seen-requires
with-seen-requires c = omega (arith, c.requires.0)

pub offset_bounds-at-v : goal.offset_bounds-at-v
offset_bounds-at-v c = record { fits = omega (arith, c.requires.0) }

pub bounds-at-v : goal.bounds-at-v
bounds-at-v c = c.requires.0

pub loop-seen-init : goal.loop-seen-init
loop-seen-init c =
    let v = c.args.v in
    starts c.requires.1 (has-with c.with-seen.result 0 v c.with-seen.ensures (omega (arith, c.requires.0)))
    (at-node c.args.at.now c.args.a.now c.args.b.now c.args.alive c.requires.2 v c.requires.0)

pub returns-then-todo-eq0 : goal.returns-then-todo-eq0
returns-then-todo-eq0 c =
    cut_off c.loop-seen.invariant
    (λ p. sym (has-zip ◌&&◌ refl c.meet-todo.result c.loop-seen.near c.loop-seen.left c.meet-todo.ensures p) ∙ ap (λ (t : ℕ). has t p) c.if-todo-eq0.true ∙ has-none p)

-- the link to follow is near, and left
place : (c : After-lowest-k)
    → (c.lowest-k.result < 64) × (has c.loop-seen.near c.lowest-k.result ≡ true) × (has c.loop-seen.left c.lowest-k.result ≡ true)
place c =
    let s = c.loop-seen in
    let k = c.lowest-k.result in
    let todo = c.meet-todo.result in
    let low = lowest_set 64 todo (omega (arith, c.if-todo-eq0.false)) (search rules) in
    let r = (and-eq-true_iff (has s.near k) (has s.left k)).0 (sym (has-zip ◌&&◌ refl todo s.near s.left c.meet-todo.ensures k) ∙ rw c.lowest-k.ensures low.1) in
    (omega (arith, c.lowest-k.ensures, low.0), r.0, r.1)

-- its ends are below 32
ends : (c : After-lowest-k)
    → (get_or c.args.a.now c.lowest-k.result 0 < 32)
    × (get_or c.args.b.now c.lowest-k.result 0 < 32)
ends c =
    near-ends c.loop-seen.invariant c.requires.3 c.lowest-k.result (place c).1

pub bounds-a-k : goal.bounds-a-k
bounds-a-k c = (place (goal.at.bounds-a-k c).After-lowest-k).0

pub bounds-b-k : goal.bounds-b-k
bounds-b-k c = (place (goal.at.bounds-b-k c).After-lowest-k).0

pub with-requires : goal.with-requires
with-requires c = omega (arith, ends (goal.at.with-requires c).After-lowest-k)

pub with-seen-requires-in-loop-seen : goal.with-seen-requires-in-loop-seen
with-seen-requires-in-loop-seen c = omega (arith, ends (goal.at.with-seen-requires-in-loop-seen c).After-lowest-k)

pub offset_bounds-at-x : goal.offset_bounds-at-x
offset_bounds-at-x c = record { fits = omega (arith, ends (goal.at.offset_bounds-at-x c).After-lowest-k, (place (goal.at.offset_bounds-at-x c).After-lowest-k).0) }

pub bounds-at-x : goal.bounds-at-x
bounds-at-x c = omega (arith, ends (goal.at.bounds-at-x c).After-lowest-k, (place (goal.at.bounds-at-x c).After-lowest-k).0)

pub offset_bounds-at-y : goal.offset_bounds-at-y
offset_bounds-at-y c = record { fits = omega (arith, ends (goal.at.offset_bounds-at-y c).After-lowest-k, (place (goal.at.offset_bounds-at-y c).After-lowest-k).0) }

pub bounds-at-y : goal.bounds-at-y
bounds-at-y c = omega (arith, ends (goal.at.bounds-at-y c).After-lowest-k, (place (goal.at.bounds-at-y c).After-lowest-k).0)

pub without-left-requires : goal.without-left-requires
without-left-requires c = (place (goal.at.without-left-requires c).After-lowest-k).0

pub loop-seen-smaller : goal.loop-seen-smaller
loop-seen-smaller c =
    omega (arith, ap how_many c.without-left.ensures, count-cleared (members c.loop-seen.left) c.lowest-k.result (place (goal.at.loop-seen-smaller c).After-lowest-k).2)

pub loop-seen-preserved : goal.loop-seen-preserved
loop-seen-preserved c =
    let k = c.lowest-k.result in
    let x = get_or c.args.a.now k 0 in
    let y = get_or c.args.b.now k 0 in
    let at = at-node c.args.at.now c.args.a.now c.args.b.now c.args.alive c.requires.2 in
    let all = full c.args.at.now c.args.a.now c.args.b.now c.args.alive c.requires.2 in
    follow c.loop-seen.invariant c.with-seen-in-loop-seen.result c.union-near.result c.without-left.result k (place (goal.at.loop-seen-preserved c).After-lowest-k).1 (omega (arith, (place (goal.at.loop-seen-preserved c).After-lowest-k).0)) (omega (arith, (place (goal.at.loop-seen-preserved c).After-lowest-k).0)) c.requires.4
    (λ u.
    has-with c.with-seen-in-loop-seen.result c.with.result y c.with-seen-in-loop-seen.ensures (omega (arith, (ends (goal.at.loop-seen-preserved c).After-lowest-k).1)) u
    ∙ ap (λ (b : Bool). eqb u y || b) (has-with c.with.result c.loop-seen.seen x c.with.ensures (omega (arith, (ends (goal.at.loop-seen-preserved c).After-lowest-k).0)) u))
    (λ p.
    has-zip ◌||◌ refl c.union-near.result c.loop-seen.near c.union.result c.union-near.ensures p
    ∙ ap (λ (b : Bool). has c.loop-seen.near p || b) (has-zip ◌||◌ refl c.union.result (get_or c.args.at.now x 0) (get_or c.args.at.now y 0) c.union.ensures p
    ∙ ap₂ ◌||◌ (at x (ends (goal.at.loop-seen-preserved c).After-lowest-k).0 p) (at y (ends (goal.at.loop-seen-preserved c).After-lowest-k).1 p)))
    (has-without c.without-left.result c.loop-seen.left k c.without-left.ensures (place (goal.at.loop-seen-preserved c).After-lowest-k).0)

pub returns : goal.returns
returns c = all_seen c.loop-seen.invariant (omega arith)
