-- Calls that several causes refuse, and the number that each returns: computed from the definitions.
use Prim.Native.Nat.{ℕ, ◌*◌}
use mathlib.Core.Path.{◌≡◌, refl}
use mathlib.Core.List.{List, [], ◌∷◌, ◌++◌, map}
use lib.ListN.{replicate}
use Rattle.plan.specs.Plans.{rated, link_verdict, links_verdict, verdict}
use Rattle.causes.specs.Causes.{CallVerdict}
use Rattle.causes.specs.Causes.{call_returned}
use Rattle.reliability.specs.Networks.{connected, label, merge, every}
use Rattle.search.specs.Searches.{from}
use Rattle.sets.specs.Sets.{sets, how_many}
use Rattle.count_desk.specs.Counts.{few, row_room, counts_verdict, counts_outcome}

-- a plan of one node and m links
pub looped : ℕ → List ℕ
looped m = 1 ∷ 0 ∷ m ∷ 0 ∷ replicate (6 * m) 0

-- several causes at once: of the plan, more than 24 links, no row
pub plans : List CallVerdict
plans =
    counts_verdict [] 0
    ∷ counts_verdict (0 ∷ 0 ∷ 65 ∷ 0 ∷ []) 0
    ∷ counts_verdict (1 ∷ 0 ∷ 65 ∷ 0 ∷ []) 0
    ∷ counts_verdict (1 ∷ 0 ∷ 25 ∷ 0 ∷ []) 0
    ∷ counts_verdict (1 ∷ 0 ∷ 25 ∷ 0 ∷ 1 ∷ replicate 149 0) 0
    ∷ counts_verdict (1 ∷ 0 ∷ 25 ∷ 0 ∷ replicate 149 0 ++ (255 ∷ [])) 0
    ∷ []

-- 1 to 6 before 15 and 16, 6 with its link, 24
pub plan-first : map call_returned plans ≡ (1 ∷ 2 ∷ 3 ∷ 4 ∷ 5 ∷ 6150 ∷ [])
unfolding plans rated link_verdict links_verdict verdict few row_room
plan-first = refl

pub rooms : List CallVerdict
rooms =
    counts_verdict (looped 25) 0
    ∷ counts_verdict (looped 25) 26
    ∷ counts_verdict (looped 24) 0
    ∷ counts_verdict (looped 24) 24
    ∷ counts_verdict (looped 24) 25
    ∷ counts_verdict (looped 24) 26
    ∷ counts_verdict (looped 0) 0
    ∷ counts_verdict (looped 0) 1
    ∷ []

-- 15 before 16
pub links-first : map call_returned rooms ≡ (15 ∷ 15 ∷ 16 ∷ 16 ∷ 0 ∷ 0 ∷ 16 ∷ 0 ∷ [])
unfolding rooms looped rated link_verdict links_verdict verdict few row_room
links-first = refl

-- rows for one node with one loop: longer than m + 1, just enough, too short
pub lent : List (List ℕ)
lent = (7 ∷ 8 ∷ 9 ∷ 10 ∷ []) ∷ (7 ∷ 8 ∷ []) ∷ (7 ∷ []) ∷ []

-- entries 0 and 1, and what stood behind them; refused, the row as it was
pub left : map (λ row. (counts_outcome (looped 1) row).buffer) lent ≡ ((1 ∷ 1 ∷ 9 ∷ 10 ∷ []) ∷ (1 ∷ 1 ∷ []) ∷ (7 ∷ []) ∷ [])
unfolding lent counts_outcome looped rated link_verdict links_verdict verdict few row_room sets how_many connected label merge every from
left = refl
