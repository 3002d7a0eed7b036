-- Calls that several causes refuse, and the number that each returns: computed from the definitions.
use Prim.Native.Nat.{ℕ, ◌-◌, ◌^◌}
use mathlib.Core.Path.{◌≡◌, refl}
use mathlib.Core.List.{List, [], ◌∷◌, map}
use lib.ListN.{replicate}
use Rattle.tables.specs.Tables.{value_in, sized, never_rises, well_rated}
use Rattle.plan.specs.Plans.{links_verdict, verdict}
use Rattle.causes.specs.Causes.{CallVerdict, call_returned}
use Rattle.refusals.specs.Refusals.{asked, work_room, tabled, placed, named, figure_verdict, chosen_verdict, importance_verdict, difference_verdict, sitting_verdict}

-- a plan of one node
pub one : List ℕ
one = 1 ∷ 0 ∷ 0 ∷ 0 ∷ []

-- a table of one byte, and one that begins with 0
pub short : List ℕ
short = 0 ∷ []

pub zeros : List ℕ
zeros = replicate 2048 0

pub calls : List CallVerdict
calls =
    figure_verdict [] short 1000001 15
    ∷ figure_verdict [] short 1000000 15
    ∷ figure_verdict [] short 1000000 16
    ∷ figure_verdict [] zeros 1000000 16
    ∷ figure_verdict [] [] 1000000 16
    ∷ chosen_verdict [] short 0 1000001 15
    ∷ chosen_verdict [] short 0 1000000 15
    ∷ chosen_verdict [] short 0 1000000 16
    ∷ chosen_verdict [] [] 0 1000000 16
    ∷ chosen_verdict one [] 0 1000000 16
    ∷ importance_verdict [] [] 0 0 16
    ∷ importance_verdict one [] 0 0 16
    ∷ difference_verdict one [] short 0 16
    ∷ difference_verdict one [] [] 0 16
    ∷ sitting_verdict [] short 1000001 16 775
    ∷ sitting_verdict [] short 1000000 16 775
    ∷ sitting_verdict [] short 1000000 16 776
    ∷ []

-- 7 before 9, before 12, before 13, before the plan's; those before 14, before 8, and before plan B's
pub examples : map call_returned calls ≡ (7 ∷ 9 ∷ 12 ∷ 13 ∷ 1 ∷ 7 ∷ 9 ∷ 12 ∷ 1 ∷ 14 ∷ 1 ∷ 8 ∷ 12 ∷ 21 ∷ 7 ∷ 9 ∷ 12 ∷ [])
unfolding calls one short zeros asked work_room tabled sized well_rated value_in never_rises named placed verdict links_verdict
examples = refl

-- of a plan of n nodes and no link
pub choosing : (n choice : ℕ) → CallVerdict
choosing n choice = chosen_verdict (n ∷ 0 ∷ 0 ∷ 0 ∷ []) [] choice 0 16

pub choices : List CallVerdict
choices =
    choosing 1 0
    ∷ choosing 1 1
    ∷ choosing 1 2
    ∷ choosing 31 0
    ∷ choosing 31 (2 ^ 30)
    ∷ choosing 31 (2 ^ 31)
    ∷ choosing 32 (2 ^ 31)
    ∷ choosing 32 (2 ^ 32 - 1)
    ∷ choosing 32 (2 ^ 32)
    ∷ choosing 32 (2 ^ 63)
    ∷ []

-- no node; the last one; one behind it
pub chosen-examples : map call_returned choices ≡ (14 ∷ 0 ∷ 14 ∷ 14 ∷ 0 ∷ 14 ∷ 0 ∷ 0 ∷ 14 ∷ 14 ∷ [])
unfolding choices choosing asked tabled sized well_rated named verdict links_verdict
chosen-examples = refl
