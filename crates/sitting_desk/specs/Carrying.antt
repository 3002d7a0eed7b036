-- Begun work, put back and worked: what is asked and what is left.
use Rattle.std.specs.Prelude.{ℕ, ◌-◌, min, ◌≡◌, List, cond, length}
use Rattle.std.proofs.lemmas.List.Edits.{sets}
use Rattle.reliability.specs.declared.Figure.{Figure}
use Rattle.reliability.specs.Rule.{Tree, tree, run, more}
use Rattle.tables.specs.Tables.{rating, AcceptedTable}
use Rattle.std.specs.Prelude.{Ok}
use Rattle.plan.specs.Plans.{verdict, plan_of}
use Rattle.sittings.specs.declared.Carried.{Carried}
use Rattle.sittings.specs.Sittings.{complete, most, aside, resumed}
use Rattle.sittings.specs.Entries.{entries, opens_in}
use Rattle.saved.specs.Format.{count_in, state_in, taken_in, opens_of, saved_bytes, begun_bytes}
use Rattle.saved_verdict.specs.SavedVerdict.{saved_verdict}

-- begun saved work, accepted for an accepted plan under an accepted table
pub record Resumable (plan table saved : List ℕ) : Type 0 where
  pub planned : verdict plan ≡ Ok tt
  pub tabled : AcceptedTable table
  pub accepted : saved_verdict (tree (plan_of (rating table) plan)) saved ≡ Ok tt
  pub begun : state_in saved ≡ 0

-- the row has its open splits
pub record InRow (saved row : List ℕ) : Type 0 where
  pub size : length row ≡ 192
  pub same : opens_in row 0 (count_in saved) ≡ opens_of saved

-- the plan's work with its open splits taken, and the steps that this sitting may take
abbrev pub work_of : List ℕ → List ℕ → List ℕ → Tree
work_of plan table saved = resumed (tree (plan_of (rating table) plan)) (opens_of saved)

abbrev pub left_of : ℕ → List ℕ → ℕ
left_of limit saved = min limit (most - taken_in saved)

-- the work t under a limit, with n steps before it: its figure, and what it sets aside, counted and written to the row
pub record Resumed (t : Tree) (limit n : ℕ) (row : List ℕ) (r : Carried) (after : List ℕ) : Type 0 where
  pub figure : r.figure ≡ more n (run t limit)
  pub count : r.aside ≡ length (aside t limit)
  pub written : after ≡ sets row 0 (entries (aside t limit))

-- the bytes of complete work with figure f, or of c open splits in a row
abbrev pub bytes_of : Figure → List ℕ → ℕ → List ℕ
bytes_of f row c = cond f.finished (saved_bytes (complete f)) (begun_bytes row c f.steps)
