-- The lines of a listing, each of its form.
use Rattle.std.specs.Prelude.{ℕ, List, [], ◌∷◌, cond}
use Rattle.lines.specs.Lines.{text, filled}
use Rattle.ratings.specs.Ratings.{T}
use Rattle.reliability.specs.declared.Link.{Link}
use Rattle.reliability.specs.declared.Figure.{Figure}
use Rattle.reliability.specs.Comparisons.{importance}
use Rattle.plan.specs.declared.Cause.{Cause}
use Rattle.plan.specs.Plans.{number, named_link, link_in, plan_of}

-- ---- limits

-- the steps that the plan's figure may take
abbrev pub figure_limit : ℕ
figure_limit = 100000

-- the steps that each of the two evaluations behind an importance may take
abbrev pub importance_limit : ℕ
importance_limit = 20000

-- ---- lines

-- nodes, links, and how many pieces the links leave the nodes in
abbrev pub sizes_line : ℕ → ℕ → ℕ → List ℕ
sizes_line n m k = filled (n ∷ m ∷ k ∷ []) (text "nodes 0 links 1 pieces 2\n")

abbrev pub figure_line : Figure → List ℕ
figure_line f = filled (f.low ∷ f.high ∷ f.steps ∷ cond f.finished 1 0 ∷ []) (text "low 0 high 1 steps 2 finished 3\n")

-- place, both ends, low value in units, importance low and high
abbrev pub link_line : ℕ → Link → Figure → List ℕ
link_line i e f = filled (i ∷ e.a ∷ e.b ∷ e.low ∷ f.low ∷ f.high ∷ []) (text "link 0 1 2 3 4 5\n")

-- the line of link i of a plan, by the built-in table
abbrev pub line_of : List ℕ → ℕ → List ℕ
line_of plan i = link_line i (link_in T plan i) (importance (plan_of T plan) i importance_limit)

-- both limits
abbrev pub limits_line : List ℕ
limits_line = filled (figure_limit ∷ importance_limit ∷ []) (text "limits 0 1\n")

-- number and link of a refusal
abbrev pub refused_line : Cause → List ℕ
refused_line c = filled (number c ∷ named_link c ∷ []) (text "refused 0 at 1\n")
