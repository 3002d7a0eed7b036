-- Cutter and keeper on a plan: what the call returns, and what it leaves in the answer buffer.
use Rattle.std.specs.Prelude.{ℕ, ◌≡◌, List, ◌∷◌, ◌++◌, map, cond, ltb, length, get_or, take, drop}
use Rattle.ratings.specs.Ratings.{T}
use Rattle.reliability.specs.Networks.{Ends, ends}
use Rattle.plan.specs.Plans.{verdict, plan_of}
use Rattle.causes.specs.declared.CallCause.TheVariants.{Buffer}
use Rattle.causes.specs.Causes.{CallVerdict}
use Rattle.std.specs.Prelude.{Ok, Err}
use Rattle.causes.specs.Causes.{call_returned}
use Rattle.causes.specs.Outcomes.{Outcome, unless}
use Rattle.refusals.specs.Refusals.{also, planned}
use Rattle.game.specs.Game.{Player, cutter, keeper, keeper_wins, Certificate}

-- answer buffer under 98 bytes
unfoldable pub game_room : ℕ → CallVerdict
game_room room = cond (ltb room 98) (Err Buffer) (Ok tt)

-- then the plan's causes
abbrev pub game_verdict : List ℕ → ℕ → CallVerdict
game_verdict plan room = also (game_room room) (planned (verdict plan))

unfoldable pub game_returned : List ℕ → ℕ → ℕ
game_returned plan room = call_returned (game_verdict plan room)

-- the nodes and the links of a plan; a link's value plays no part
abbrev pub nodes_of : List ℕ → List ℕ
nodes_of plan = (plan_of T plan).nodes

abbrev pub ends_of : List ℕ → List Ends
ends_of plan = map ends (plan_of T plan).links

-- who can force the win: 1 the keeper, 0 the cutter
unfoldable pub winner : Player → List ℕ → ℕ
winner opens plan = cond (keeper_wins opens (nodes_of plan) (ends_of plan)) 1 0

-- what is shown: a mark for each of 64 links, a group for each of 32 nodes
pub record Shown : Type 0 where
  pub trees : List ℕ
  pub groups : List ℕ

-- the winner if the cutter opens, the winner if the keeper does, the marks, the groups; later bytes keep their contents
abbrev pub with_game : List ℕ → Shown → List ℕ → List ℕ
with_game plan s b = winner cutter plan ∷ winner keeper plan ∷ (s.trees ++ s.groups ++ drop 98 b)

-- of a plan, what is shown and the answer buffer
unfoldable pub game_outcome : List ℕ → Shown → List ℕ → Outcome
game_outcome plan s b = unless (game_verdict plan (length b)) b (with_game plan s b)

-- the call leaves the buffer b as after. What is shown may differ from one correct program to another: it is a certificate, and any
-- serves; all else is as defined
pub record GameLeaves (plan b after : List ℕ) : Type 0 where
  pub shown : Shown
  pub certificate : game_verdict plan (length b) ≡ Ok tt → Certificate (nodes_of plan) (ends_of plan) shown.trees shown.groups
  pub buffer : after ≡ (game_outcome plan shown b).buffer

-- a full answer: the two winners, a certificate in the 96 bytes behind them; later bytes and the buffer's length are as they were
pub record Played (plan b after : List ℕ) : Type 0 where
  pub second : get_or after 0 0 ≡ winner cutter plan
  pub first : get_or after 1 0 ≡ winner keeper plan
  pub certificate : Certificate (nodes_of plan) (ends_of plan) (take 64 (drop 2 after)) (take 32 (drop 66 after))
  pub behind : drop 98 after ≡ drop 98 b
  pub size : length after ≡ length b
