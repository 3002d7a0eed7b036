use Rattle.parts.proofs.Clearing.{Clearing}
use Rattle.parts.proofs.clear.Given as goal

abbrev pub invariant-loop-v : goal.invariant-loop-v
invariant-loop-v l = Clearing l.nodes l.alive l.initial.at l.v-iterator.0 l.left l.at
