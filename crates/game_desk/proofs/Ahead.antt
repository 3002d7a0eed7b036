-- Calls that several causes refuse and the number that each returns, the winners of small plans and the bytes of an answer: computed from
-- the definitions.
use Prim.Native.Nat.{ℕ, ◌*◌}
use mathlib.Core.Path.{◌≡◌, refl}
use mathlib.Core.List.{List, [], ◌∷◌, ◌++◌, map}
use lib.ListN.{replicate}
use Rattle.plan.specs.Plans.{rated, link_in, link_verdict, links_verdict, verdict}
use Rattle.reliability.specs.Networks.{connected, label, merge, every}
use Rattle.reliability.specs.Rule.{delete_at}
use Rattle.search.specs.Searches.{from}
use Rattle.game.specs.Game.{cutter, keeper, every_below, some_below, wins}
use Rattle.game_desk.specs.Games.{game_room, game_returned, winner, Shown, game_outcome}

-- a plan of n nodes with these ends of its links, each of chance 0
pub joined : ℕ → ℕ → List ℕ → List ℕ
joined n m ends = n ∷ 0 ∷ m ∷ 0 ∷ ends ++ replicate (4 * m) 0

-- ---- refusals

-- the causes 1 to 6, 6 with its link, 1
pub wrong : List (List ℕ)
wrong =
    []
    ∷ joined 0 65 []
    ∷ joined 1 65 []
    ∷ joined 1 1 (0 ∷ [])
    ∷ joined 1 1 (0 ∷ 1 ∷ [])
    ∷ (joined 1 2 (0 ∷ 0 ∷ 0 ∷ []) ++ (255 ∷ []))
    ∷ joined 1 0 []
    ∷ []

-- 9 before 1 to 6; with room for 98 bytes these
pub rooms : map (λ room. map (λ plan. game_returned plan room) wrong) (0 ∷ 97 ∷ 98 ∷ 99 ∷ [])
    ≡ (replicate 7 9 ∷ replicate 7 9 ∷ (1 ∷ 2 ∷ 3 ∷ 4 ∷ 5 ∷ 262 ∷ 0 ∷ []) ∷ (1 ∷ 2 ∷ 3 ∷ 4 ∷ 5 ∷ 262 ∷ 0 ∷ []) ∷ [])
unfolding wrong joined rated link_verdict links_verdict verdict game_room game_returned
rooms = refl

-- ---- winners

-- one node, with a loop too; two nodes with no link, one, two; three in a row, in a ring
pub plans : List (List ℕ)
plans =
    joined 1 0 []
    ∷ joined 1 1 (0 ∷ 0 ∷ [])
    ∷ joined 2 0 []
    ∷ joined 2 1 (0 ∷ 1 ∷ [])
    ∷ joined 2 2 (0 ∷ 1 ∷ 1 ∷ 0 ∷ [])
    ∷ joined 3 2 (0 ∷ 1 ∷ 1 ∷ 2 ∷ [])
    ∷ joined 3 3 (0 ∷ 1 ∷ 1 ∷ 2 ∷ 2 ∷ 0 ∷ [])
    ∷ []

pub cutter-opens : map (winner cutter) plans ≡ (1 ∷ 1 ∷ 0 ∷ 0 ∷ 1 ∷ 0 ∷ 0 ∷ [])
unfolding plans joined winner link_in from wins every_below some_below connected label merge every delete_at
cutter-opens = refl

pub keeper-opens : map (winner keeper) plans ≡ (1 ∷ 1 ∷ 0 ∷ 1 ∷ 1 ∷ 0 ∷ 1 ∷ [])
unfolding plans joined winner link_in from wins every_below some_below connected label merge every delete_at
keeper-opens = refl

-- ---- bytes

-- two nodes and one link: each node a group
pub apart : Shown
apart = record { trees = replicate 64 0; groups = 0 ∷ 1 ∷ replicate 30 0 }

-- a buffer that is too short, one of 98 bytes, a longer one
pub lent : List (List ℕ)
lent = replicate 97 7 ∷ replicate 98 7 ∷ replicate 100 7 ∷ []

pub left : map (λ b. (game_outcome (joined 2 1 (0 ∷ 1 ∷ [])) apart b).buffer) lent
    ≡ (replicate 97 7 ∷ (0 ∷ 1 ∷ replicate 65 0 ++ (1 ∷ replicate 30 0)) ∷ (0 ∷ 1 ∷ replicate 65 0 ++ (1 ∷ replicate 30 0) ++ (7 ∷ 7 ∷ [])) ∷ [])
unfolding apart lent joined game_outcome game_room winner rated link_in link_verdict links_verdict verdict from wins every_below some_below connected label merge every delete_at
left = refl
