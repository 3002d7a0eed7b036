-- The answer to cutter and keeper: the two winners, and two trees or a grouping.
use Rattle.std.specs.Prelude.{ℕ, ◌≤◌, ◌<◌, ◌≡◌, get_or}
use Rattle.search.specs.Searches.{from}
use Rattle.game.specs.Game.{cutter, keeper, keeper_wins, Certificate}
use Rattle.forests.specs.declared.Links.{Links}
use Rattle.forests.specs.declared.Answer.{Answer}
use Rattle.forests.specs.Links.{links_of}

-- a plan's links: at most 64, with ends among the n nodes, of which there are 1 to 32
pub record Plan (l : Links) (n : ℕ) : Type 0 where
  pub some_node : 1 ≤ n
  pub nodes : n ≤ 32
  pub links : l.m ≤ 64
  pub ended : (i : ℕ) → i < l.m → (get_or l.a i 0 < n) × (get_or l.b i 0 < n)

-- who can force the win, for each side opening, and what shows it
pub record Shows (l : Links) (n : ℕ) (r : Answer) : Type 0 where
  pub second : r.second ≡ keeper_wins cutter (from 0 n) (links_of l)
  pub first : r.first ≡ keeper_wins keeper (from 0 n) (links_of l)
  pub certificate : Certificate (from 0 n) (links_of l) r.trees r.groups
