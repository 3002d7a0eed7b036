use Rattle.rounding.proofs.Digits.{Between}
use Rattle.rounding.proofs.long_division.Given as goal

-- Wherever another digit is worked, 10 ^ worked * x is quotient * w + remainder, and the remainder is not 0: `Between`.
abbrev pub invariant-loop-worked : goal.invariant-loop-worked
invariant-loop-worked l =
    Between l.x l.w l.quotient l.remainder l.unit l.worked
