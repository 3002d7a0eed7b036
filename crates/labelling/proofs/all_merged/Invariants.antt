use mathlib.Core.Path.{◌≡◌}
use mathlib.Core.List.{◌++◌, map}
use lib.ListN.{take, drop}
use Rattle.reliability.specs.Networks.{merge}
use Rattle.labelling.proofs.all_merged.Given as goal

abbrev pub invariant-loop-z : goal.invariant-loop-z
invariant-loop-z l = take l.z-index l.z-items ++ map (merge l.x l.y) (drop l.z-index l.z-items) ≡ map (merge l.x l.y) l.initial.z-items
