use mathlib.Core.Path.{◌≡◌}
use lib.ListN.{length}
use Rattle.bits.specs.Members.{members}
use Rattle.reliability.specs.Rule.{rename}
use Rattle.parts.specs.Tallies.{changed_at}
use Rattle.parts.proofs.rename.Given as goal

-- What is left to change, done to what is there, gives what is asked.
abbrev pub invariant-loop-k : goal.invariant-loop-k
invariant-loop-k l = (changed_at (rename l.keep l.gone) (members l.k-iterator.0) l.ends ≡ changed_at (rename l.keep l.gone) (members l.places) l.initial.ends) × (length l.ends ≡ 64)
