use Prim.Native.Nat.{◌+◌}
use lib.ListN.{length, drop}
use lib.Seq.{sets}
use Rattle.lines.specs.Lines.{filled}
use Rattle.lines.proofs.Texts.{Remaining}
use Rattle.lines.proofs.put_line.Given as goal

abbrev pub invariant-loop-c : goal.invariant-loop-c
invariant-loop-c l = Remaining l.text l.next (filled l.numbers (drop l.c-index l.form)) (sets l.initial.text l.at (filled l.numbers l.form)) (l.at + length (filled l.numbers l.form)) (length l.initial.text)
