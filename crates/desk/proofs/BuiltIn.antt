-- With a table of no bytes the built-in one serves, and every outcome is what it was.
use Prim.Native.Nat.{ℕ}
use mathlib.Core.Path.{◌≡◌, refl}
use mathlib.Core.List.{List, []}
use Rattle.tables.specs.Tables.{rating, sized, well_rated}
use Rattle.refusals.specs.Refusals.{tabled}
use Rattle.sitting_desk.specs.Outcome.{sitting_outcome}
use Rattle.desk.specs.Outcomes.{figure_outcome, all_nodes, all_figure_outcome, importance_outcome, difference_outcome}
use Rattle.desk.proofs.AllNodes.{figure-of-all}
use Rattle.desk.specs.BuiltIn.{built_in_figure, built_in_importance, built_in_difference, built_in_sitting}

-- of all nodes
pub figure-built-in : (plan : List ℕ) (limit : ℕ) (b : List ℕ) → figure_outcome plan [] (all_nodes plan) limit b ≡ built_in_figure plan limit b
unfolding all_figure_outcome built_in_figure rating tabled sized well_rated
figure-built-in plan limit b = figure-of-all plan [] limit b

pub importance-built-in : (plan : List ℕ) (place limit : ℕ) (b : List ℕ) → importance_outcome plan [] place limit b ≡ built_in_importance plan place limit b
unfolding importance_outcome built_in_importance rating tabled sized well_rated
importance-built-in plan place limit b = refl

pub difference-built-in : (first second : List ℕ) (limit : ℕ) (b : List ℕ) → difference_outcome first second [] limit b ≡ built_in_difference first second limit b
unfolding difference_outcome built_in_difference rating tabled sized well_rated
difference-built-in first second limit b = refl

pub sitting-built-in : (plan : List ℕ) (limit : ℕ) (saved answer work : List ℕ) → sitting_outcome plan [] limit saved answer work ≡ built_in_sitting plan limit saved answer work
unfolding sitting_outcome built_in_sitting rating tabled sized well_rated
sitting-built-in plan limit saved answer work = refl
