-- Which cause of refusal a call meets first.
use Rattle.std.specs.Prelude.{ℕ, ◌^◌, List, cond, ◌||◌, eqb, leb, ltb, Ok, Err}
use Rattle.tables.specs.Tables.{sized, well_rated}
use Rattle.plan.specs.Plans.{Verdict, size_n, size_m, verdict}
pub use Rattle.plan.specs.Plans.{also}
use Rattle.causes.specs.declared.CallCause.TheVariants.{Limit, Buffer, TableSize, TableValues, Place, Choice, Plan, SecondPlan}
use Rattle.causes.specs.Causes.{CallVerdict}

-- ---- in the order in which the causes are tested

-- limit above 1,000,000, then answer buffer under 16 bytes
unfoldable pub asked : ℕ → ℕ → CallVerdict
asked limit room = cond (ltb 1000000 limit) (Err Limit) (cond (ltb room 16) (Err Buffer) (Ok tt))

-- work buffer under 776 bytes
unfoldable pub work_room : ℕ → CallVerdict
work_room work = cond (ltb work 776) (Err Buffer) (Ok tt)

-- a table of neither 0 nor 2,048 bytes, then first value not S, or a value above the one before
unfoldable pub tabled : List ℕ → CallVerdict
tabled table = cond (sized table) (cond (well_rated table) (Ok tt) (Err TableValues)) (Err TableSize)

-- the plan's causes, of plan A and of plan B
abbrev pub planned : Verdict → CallVerdict
planned (Ok tt) = Ok tt
planned (Err c) = Err (Plan c)

abbrev pub planned_second : Verdict → CallVerdict
planned_second (Ok tt) = Ok tt
planned_second (Err c) = Err (SecondPlan c)

-- link place m or above
unfoldable pub placed : List ℕ → ℕ → CallVerdict
placed plan place = cond (leb (size_m plan) place) (Err Place) (Ok tt)

-- a choice that names no node, or node n or above
unfoldable pub named : List ℕ → ℕ → CallVerdict
named plan choice = cond (eqb choice 0 || leb (2 ^ size_n plan) choice) (Err Choice) (Ok tt)

-- the table's causes, then the plan's
abbrev pub table_and_plan : List ℕ → List ℕ → CallVerdict
table_and_plan plan table = also (tabled table) (planned (verdict plan))

abbrev pub figure_verdict : List ℕ → List ℕ → ℕ → ℕ → CallVerdict
figure_verdict plan table limit room = also (asked limit room) (table_and_plan plan table)

-- of a figure of chosen nodes
abbrev pub chosen_verdict : List ℕ → List ℕ → ℕ → ℕ → ℕ → CallVerdict
chosen_verdict plan table choice limit room = also (figure_verdict plan table limit room) (named plan choice)

abbrev pub importance_verdict : List ℕ → List ℕ → ℕ → ℕ → ℕ → CallVerdict
importance_verdict plan table place limit room = also (figure_verdict plan table limit room) (placed plan place)

abbrev pub difference_verdict : List ℕ → List ℕ → List ℕ → ℕ → ℕ → CallVerdict
difference_verdict first second table limit room = also (figure_verdict first table limit room) (planned_second (verdict second))

-- of a sitting, before its saved work is looked at
abbrev pub sitting_verdict : List ℕ → List ℕ → ℕ → ℕ → ℕ → CallVerdict
sitting_verdict plan table limit room work = also (also (asked limit room) (work_room work)) (table_and_plan plan table)
