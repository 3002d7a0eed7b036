use mathlib.Core.Path.{refl}
use native.Mathlib.Nat.{one-mul, le_trans, div-mul-le_self}
use native.Mathlib.Omega.{arith}
use Rattle.rounding.proofs.Digits.{multiple, nine, Turn, turn, Last, last}
use Rattle.rounding.proofs.long_division.Goals as goal
use Rattle.rounding.proofs.long_division.Goals.{After-digit-d, Then-remainder-eq0}

pub returns-then-x-eq0 : goal.returns-then-x-eq0
returns-then-x-eq0 c =
    let e = multiple c.args.x c.args.w 0 c.requires.0 (omega (arith, c.if-x-eq0.true)) in
    let r = c.without_remainder.ensures in
    (omega (arith, r.0, e.0), omega (arith, r.1, e.1), omega (arith, r.2, e.2))

pub returns-then-x-w : goal.returns-then-x-w
returns-then-x-w c =
    let e = multiple c.args.x c.args.w 1 c.requires.0 (omega (arith, c.if-x-w.true)) in
    let r = c.without_remainder-then-x-w.ensures in
    (omega (arith, r.0, e.0), omega (arith, r.1, e.1), omega (arith, r.2, e.2))

pub loop-worked-init : goal.loop-worked-init
loop-worked-init c =
    (omega arith, omega (arith, c.if-x-eq0.false), omega (arith, c.if-x-w.false), refl, omega (arith, one-mul c.args.x), omega arith)

pub digit-d-requires : goal.digit-d-requires
digit-d-requires c = (omega arith, omega arith, le_trans (div-mul-le_self _ _) (omega arith))

-- the digit of a turn, and what it leaves
turn-of : (c : After-digit-d) → Turn c.args.x c.args.w c.loop-worked.quotient c.loop-worked.remainder c.loop-worked.unit c.loop-worked.worked c.digit-d.result
turn-of c =
    turn _ _ _ _ _ _ _ c.requires.0 c.requires.1 (omega (arith, c.loop-worked-test.true)) c.loop-worked.invariant c.digit-d.ensures

pub overflow_mul-quotient : goal.overflow_mul-quotient
overflow_mul-quotient c = omega (arith, (turn-of c).fits)

pub overflow_add-quotient : goal.overflow_add-quotient
overflow_add-quotient c = omega (arith, (turn-of c).fits)

pub overflow_mul-remainder : goal.overflow_mul-remainder
overflow_mul-remainder c = omega (arith, (turn-of c).small)

pub overflow_sub-remainder : goal.overflow_sub-remainder
overflow_sub-remainder c = omega (arith, (turn-of c).small)

-- the turn that left no remainder
last_of : (c : Then-remainder-eq0) → Last c.args.x c.args.w c.loop-worked.quotient c.loop-worked.remainder c.loop-worked.unit c.loop-worked.worked c.digit-d.result
last_of c =
    last _ _ _ _ _ _ _ c.requires.0 c.requires.1 (omega (arith, c.loop-worked-test.true)) (turn-of (goal.at.Then-remainder-eq0 c).After-digit-d) (omega (arith, c.if-remainder-eq0.true))

pub overflow_mul-quotient-then-remainder-eq0 : goal.overflow_mul-quotient-then-remainder-eq0
overflow_mul-quotient-then-remainder-eq0 c = omega (arith, (turn-of (goal.at.overflow_mul-quotient-then-remainder-eq0 c).After-digit-d).fits, (last_of c).fits)

pub returns-then-remainder-eq0 : goal.returns-then-remainder-eq0
returns-then-remainder-eq0 c =
    let e = last_of (goal.at.returns-then-remainder-eq0 c).Then-remainder-eq0 in
    let r = c.without_remainder-then-remainder-eq0.ensures in
    (omega (arith, r.0, e.quotient), omega (arith, r.1, e.remainder), omega (arith, r.2, e.digits))

pub loop-worked-preserved : goal.loop-worked-preserved
loop-worked-preserved c =
    let t = turn-of (goal.at.loop-worked-preserved c).After-digit-d in
    (omega arith, omega (arith, c.if-remainder-eq0.false), omega (arith, t.below), omega (arith, t.unit), omega (arith, t.worked), omega (arith, t.left))

pub returns : goal.returns
returns c =
    let s = c.loop-worked in
    let e = nine c.args.x c.args.w s.quotient s.remainder s.unit s.worked s.invariant (omega arith) in
    (omega (arith, e.0), omega (arith, e.1), omega (arith, e.2))
