use mathlib.Core.Path.{◌≡◌}
use Rattle.saved_writing.proofs.Writing.{places_put}
use Rattle.saved_writing.proofs.put_places.Given as goal

abbrev pub invariant-loop-i : goal.invariant-loop-i
invariant-loop-i l = l.work ≡ places_put l.initial.work l.row l.i
