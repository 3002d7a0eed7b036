-- What a call returns, and what it leaves in the answer buffer; a sitting's is in crate sitting_desk.
use Rattle.std.specs.Prelude.{ℕ, ◌-◌, ◌^◌, List, ℤ, pos, negsuc, length}
use Rattle.reliability.specs.declared.Difference.{Difference}
use Rattle.reliability.specs.Networks.{Network}
use Rattle.reliability.specs.Rule.{figure as figureOfAll}
use Rattle.reliability.specs.Terminals.{Terminals, among, figure}
use Rattle.reliability.specs.Comparisons.{importance, difference}
use Rattle.search.specs.Searches.{nodes_in}
use Rattle.tables.specs.Tables.{rating}
use Rattle.plan.specs.Plans.{size_n, verdict, returned, plan_of}
use Rattle.answers.specs.Answers.{answered, with_figure}
use Rattle.causes.specs.Outcomes.{Outcome, unless}
use Rattle.refusals.specs.Refusals.{figure_verdict, chosen_verdict, importance_verdict, difference_verdict}

-- two's complement in 32 bits
abbrev pub twos : ℤ → ℕ
twos (pos n) = n
twos (negsuc n) = 4294967295 - n

-- a difference's numbers in the first sixteen bytes
abbrev pub with_difference : Difference → List ℕ → List ℕ
with_difference d b = answered (twos d.low) (twos d.high) d.steps d.finished b

-- ---- outcomes

unfoldable pub check_outcome : List ℕ → ℕ
check_outcome plan = returned (verdict plan)

-- a network with the nodes chosen that a number names: bit i names node i
abbrev pub chosen_by : ℕ → Network → Terminals
chosen_by choice g = among (nodes_in choice) g

-- of a plan, the buyer's table, the choice of nodes, the limit and the answer buffer
unfoldable pub figure_outcome : List ℕ → List ℕ → ℕ → ℕ → List ℕ → Outcome
figure_outcome plan table choice limit b =
    unless (chosen_verdict plan table choice limit (length b)) b
    (with_figure (figure (chosen_by choice (plan_of (rating table) plan)) limit) b)

-- the number that names all nodes of a plan
abbrev pub all_nodes : List ℕ → ℕ
all_nodes plan = 2 ^ size_n plan - 1

-- the figure of all nodes, by the rule of document 01, as it was before the call took a choice (figure-of-all in proofs/AllNodes.antt)
unfoldable pub all_figure_outcome : List ℕ → List ℕ → ℕ → List ℕ → Outcome
all_figure_outcome plan table limit b =
    unless (figure_verdict plan table limit (length b)) b
    (with_figure (figureOfAll (plan_of (rating table) plan) limit) b)

unfoldable pub importance_outcome : List ℕ → List ℕ → ℕ → ℕ → List ℕ → Outcome
importance_outcome plan table place limit b =
    unless (importance_verdict plan table place limit (length b)) b
    (with_figure (importance (plan_of (rating table) plan) place limit) b)

-- one table for both plans
unfoldable pub difference_outcome : List ℕ → List ℕ → List ℕ → ℕ → List ℕ → Outcome
difference_outcome first second table limit b =
    unless (difference_verdict first second table limit (length b)) b
    (with_difference (difference (plan_of (rating table) first) (plan_of (rating table) second) limit) b)
