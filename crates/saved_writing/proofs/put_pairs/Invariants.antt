use mathlib.Core.Path.{◌≡◌}
use Rattle.saved_writing.proofs.Writing.{pairs_put}
use Rattle.saved_writing.proofs.put_pairs.Given as goal

abbrev pub invariant-loop-i : goal.invariant-loop-i
invariant-loop-i l = l.work ≡ pairs_put l.initial.work l.row l.c l.i
