-- With all nodes chosen every outcome is that of the rule of document 01.
use Prim.Native.Nat.{ℕ, ◌-◌, min}
use mathlib.Core.Path.{◌≡◌, refl, ap, ◌∙◌, subst}
use mathlib.Core.List.{List}
use native.Mathlib.Omega.{arith}
use lib.ListN.{length}
use Rattle.bits.proofs.Operations.{digits-full}
use Rattle.reliability.specs.Networks.{Network}
use Rattle.reliability.specs.Rule.{needed as neededOfAll}
use Rattle.reliability.specs.Terminals.{Terminals, among, figure, needed}
use Rattle.reliability.proofs.Everywhere.{figure-everywhere, needed-everywhere}
use Rattle.search.specs.Searches.{pick, from, nodes_in}
use Rattle.network.proofs.Picks.{pick_first, take-from}
use Rattle.tables.specs.Tables.{rating}
use Rattle.plan.specs.Plans.{size_n, WellFormed, plan_of}
use Rattle.causes.specs.Causes.{CallVerdict}
use Rattle.std.specs.Prelude.{Ok, Err}
use Rattle.causes.specs.Outcomes.{unless}
use Rattle.refusals.specs.Refusals.{figure_verdict}
use Rattle.refusals.proofs.Calls.{figure-means, chosen-all}
use Rattle.answers.specs.Answers.{with_figure, steps_in, finished_in}
use Rattle.desk.specs.Outcomes.{chosen_by, figure_outcome, all_nodes, all_figure_outcome}
use Rattle.desk.specs.Answers.{EnclosesAmong, Encloses, Marked}
use Rattle.desk.proofs.Answers.{valid-of}
use Rattle.desk.proofs.Demands.{figure-accepted, figure-encloses, figure-steps, figure-marked}

-- that number names the nodes 0 to n - 1
pub all_named : (plan : List ℕ) → WellFormed plan → nodes_in (all_nodes plan) ≡ from 0 (size_n plan)
all_named plan well =
    let few = well.nodes in
    ap (λ bs. pick bs (from 0 64)) (digits-full 64 (size_n plan) (omega arith)) ∙ pick_first (size_n plan) (64 - size_n plan) (from 0 64) ∙ take-from 0 (size_n plan) 64 (omega arith)

-- an answer shows only where a call is accepted
unless-same : (v : CallVerdict) (b : List ℕ) {x y : List ℕ} → (v ≡ Ok tt → x ≡ y) → unless v b x ≡ unless v b y
unless-same (Ok tt) b h = ap (unless (Ok tt) b) (h refl)
unless-same (Err c) b h = refl

module _ (plan table : List ℕ) where
  abbrev g : Network
  g = plan_of (rating table) plan

  chosen_is : WellFormed plan → chosen_by (all_nodes plan) g ≡ among g.nodes g
  chosen_is well = ap (λ (cs : List ℕ). among cs g) (all_named plan well)

  -- choosing all nodes gives the old answer to the unit, and every byte of the buffer, refused or not
  pub figure-of-all : (limit : ℕ) (b : List ℕ) → figure_outcome plan table (all_nodes plan) limit b ≡ all_figure_outcome plan table limit b
  unfolding figure_outcome all_figure_outcome
  figure-of-all limit b =
      ap (λ v. unless v b (with_figure (figure (chosen_by (all_nodes plan) g) limit) b)) (chosen-all plan table limit (length b))
      ∙ unless-same (figure_verdict plan table limit (length b)) b (λ e.
      let means = (figure-means plan table limit (length b)).0 e in
      ap (λ f. with_figure f b) (ap (λ (h : Terminals). figure h limit) (chosen_is means.3) ∙ figure-everywhere g (valid-of plan table means.2 means.3) limit))

  -- a call that returned 0
  module _ (limit : ℕ) (b : List ℕ) (zero : (figure_outcome plan table (all_nodes plan) limit b).returned ≡ 0) where
    abbrev after : List ℕ
    after = (figure_outcome plan table (all_nodes plan) limit b).buffer

    well : WellFormed plan
    well = ((figure-accepted plan table (all_nodes plan) limit b).0 zero).3

    needs : needed (chosen_by (all_nodes plan) g) ≡ neededOfAll g
    needs = ap needed (chosen_is well) ∙ needed-everywhere g (valid-of plan table ((figure-accepted plan table (all_nodes plan) limit b).0 zero).2 well)

    -- it encloses the exact reliability
    pub all-encloses : Encloses plan table after
    all-encloses = subst (λ cs. EnclosesAmong cs plan table after) (all_named plan well) (figure-encloses plan table (all_nodes plan) limit b zero)

    -- the splits needed are those of document 01's rule
    pub all-steps : steps_in after ≡ min (neededOfAll g) limit
    all-steps = figure-steps plan table (all_nodes plan) limit b zero ∙ ap (λ n. min n limit) needs

    pub all-marked : Marked (finished_in after) (neededOfAll g) limit
    all-marked = subst (λ n. Marked (finished_in after) n limit) needs (figure-marked plan table (all_nodes plan) limit b zero)
