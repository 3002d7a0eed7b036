-- Begun work, put back and worked: what the engine asks, and what it leaves.
use Prim.Native.Nat.{ℕ, ◌+◌, ◌-◌, ◌^◌, ◌≤◌, ◌<◌, min}
use mathlib.Core.Path.{◌≡◌, refl, sym, ap, ap₂, ◌∙◌, subst}
use mathlib.Core.List.{List}
use mathlib.Core.Bool.{Bool, true, false, cond}
use native.Mathlib.Omega.{arith}
use lib.ListN.{length}
use lib.Seq.{sets}
use Rattle.reliability.specs.declared.Figure.{Figure}
use Rattle.reliability.specs.Rule.{Tree, tree, run, more}
use Rattle.reliability.proofs.Runs.{steps}
use Rattle.ratings.specs.Ratings.{AtMostS}
use Rattle.tables.specs.Tables.{rating}
use Rattle.tables.proofs.Theorems.{rating-range}
use Rattle.plan.specs.Plans.{WellFormed, plan_of}
use Rattle.plan.proofs.Verdicts.{accepted-means}
use Rattle.plan.proofs.Accepted.{plan-valid, plan-links}
use Rattle.sittings.specs.declared.Carried.{Carried}
use Rattle.sittings.specs.Sittings.{opens, aside, resumed, traced, begun, complete, most, keeping}
use Rattle.sittings.specs.Entries.{entries, opens_in, Known, InRange}
use Rattle.sittings.proofs.Asides.{aside-open}
use Rattle.sittings.proofs.Bounds.{Deep, deeper, aside-few, tree-deep}
use Rattle.engine.specs.Carrying.{Carries, Worked}
use Rattle.saved.specs.Format.{count_in, opens_of, well_formed, saved_bytes, begun_bytes}
use Rattle.saved.proofs.Laws.{formed-size, BegunWork, begun-means, begun-bytes}
use Rattle.saved_verdict.proofs.Laws.{saved-means}
use Rattle.sitting_desk.specs.Carrying.{Resumable, InRow, work_of, Resumed, bytes_of}

-- a plan's work is at most 64 splits deep
pub plan-deep : (plan : List ℕ) (rating : ℕ → ℕ) → AtMostS rating → WellFormed plan → Deep 64 (tree (plan_of rating plan))
plan-deep plan rating chances w =
    let g = plan_of rating plan in
    deeper (length g.links) 64 (tree g) (omega (arith, plan-links rating plan, w.links)) (tree-deep g (plan-valid rating plan chances ((accepted-means plan).1 w)))

module _ (plan table saved : List ℕ) (h : Resumable plan table saved) where
  abbrev t : Tree
  t = tree (plan_of (rating table) plan)

  passes : (well_formed saved ≡ true) × (traced t (opens_of saved) ≡ true)
  passes = (saved-means t saved).0 h.accepted

  pub size : 8 ≤ length saved
  size = formed-size saved passes.0

  pub formed : well_formed saved ≡ true
  formed = passes.0

  pub work : BegunWork saved
  work = begun-means saved passes.0 h.begun

  module _ (row : List ℕ) (r : InRow saved row) where
    pub carries : (u : Tree) (c : ℕ) → u ≡ tree (plan_of (rating table) plan) → c ≡ count_in saved → Carries u row 0 c
    carries u c e k =
        let same : opens_in row 0 c ≡ opens_of saved = ap (opens_in row 0) k ∙ r.same in
        record {
          size = r.size;
          traces = ap₂ traced e same ∙ passes.1;
          range = subst (Known InRange) (sym same) work.range;
        }

    pub same-work : (u : Tree) (c : ℕ) → u ≡ tree (plan_of (rating table) plan) → c ≡ count_in saved → resumed u (opens_in row 0 c) ≡ work_of plan table saved
    same-work u c e k = ap₂ resumed e (ap (opens_in row 0) k ∙ r.same)

  pub few-aside : (l : ℕ) → length (aside (work_of plan table saved) l) ≤ 64
  few-aside l = aside-few 64 t (plan-deep plan (rating table) (rating-range table h.tabled) ((accepted-means plan).0 h.planned)) (opens_of saved) l

-- what the engine leaves, in this sitting's words
pub resumed-of : (t u : Tree) (l limit n k : ℕ) (row after : List ℕ) (r s : Carried) → t ≡ u → l ≡ limit → n ≡ k → Worked t l row 0 r after
    → s.figure ≡ more n r.figure → s.aside ≡ r.aside → Resumed u limit k row s after
resumed-of t u l limit n k row after r s e f m w p q = record {
  figure = p ∙ ap₂ more m (w.figure ∙ ap₂ run e f);
  count = q ∙ w.count ∙ ap₂ (λ t l. length (aside t l)) e f;
  written = w.written ∙ ap₂ (λ t l. sets row 0 (entries (aside t l))) e f;
}

-- the steps of this sitting and those before it
pub few-carried : (t : Tree) (l limit n : ℕ) (f : Figure) → f ≡ run t l → l ≡ min limit (most - n) → n ≤ most → n + f.steps < 2 ^ 32
few-carried t l limit n f e k h = omega (arith, ap (λ (f : Figure). f.steps) e, steps t l)

-- the bytes written are those of what is saved
bytes-kept : (t : Tree) (l n : ℕ) (row : List ℕ) → length row ≡ 192 → length (aside t l) ≤ 64
    → bytes_of (more n (run t l)) (sets row 0 (entries (aside t l))) (length (aside t l)) ≡ saved_bytes (keeping (more n (run t l)) (opens t l))
bytes-kept t l n row size few = go (run t l).finished refl
  where
    f : Figure
    f = more n (run t l)

    go : (c : Bool) → (run t l).finished ≡ c
        → cond c (saved_bytes (complete f)) (begun_bytes (sets row 0 (entries (aside t l))) (length (aside t l)) f.steps) ≡ saved_bytes (elim c [ true ↦ complete f | false ↦ begun (opens t l) f.steps ])
    go true e = refl
    go false e = begun-bytes (aside t l) row f.steps (omega arith) ∙ ap (λ os. saved_bytes (begun os f.steps)) (aside-open t l e)

pub resumed-bytes : (t : Tree) (l n : ℕ) (row after : List ℕ) (r : Carried) → Resumed t l n row r after → length row ≡ 192 → length (aside t l) ≤ 64
    → bytes_of r.figure after r.aside ≡ saved_bytes (keeping (more n (run t l)) (opens t l))
resumed-bytes t l n row after r w size few = (λ i. bytes_of (w.figure i) (w.written i) (w.count i)) ∙ bytes-kept t l n row size few
