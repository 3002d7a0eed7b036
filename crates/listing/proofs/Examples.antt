-- Plans and their listings: one proof computes them all from the definitions.
use Prim.Native.Nat.{ℕ}
use Prim.Native.String.{String}
use mathlib.Core.Path.{◌≡◌, refl}
use mathlib.Core.List.{List, [], ◌∷◌, map}
use Rattle.rounding.specs.Rounding.{quotient, product, parallel, either, series, factor, split}
use Rattle.ratings.specs.Ratings.{T, with_joints}
use Rattle.reliability.specs.Networks.{merge, label, every, last_of_each}
use Rattle.reliability.specs.Rule.{first_at, places, first_pair, lowest, next_at, delete_at, without, leaves, grown, tree_of, run}
use Rattle.reliability.specs.Comparisons.{sound_at}
use Rattle.search.specs.Searches.{from}
use Rattle.plan.specs.Plans.{rated, link_verdict, links_verdict, verdict, link_in}
use Rattle.plan.proofs.Examples.{listed}
use Rattle.lines.specs.Lines.{text, decimal_of, meant, filled}
use Rattle.listing.specs.Listings.{link_lines, listing}

pub record Row : Type 0 where
  pub plan : List ℕ
  pub prints : String

pub row : List ℕ → String → Row
row b s = record { plan = b; prints = s }

pub rows : List Row
rows =
    row listed "nodes 2 links 2 pieces 1\nlow 980000000 high 980000000 steps 0 finished 1\nlink 0 0 1 900000000 200000000 200000000\nlink 1 0 1 800000000 100000000 100000000\nlimits 100000 20000\n"  -- document 01's
    ∷ row (1 ∷ 0 ∷ 0 ∷ 0 ∷ []) "nodes 1 links 0 pieces 1\nlow 1000000000 high 1000000000 steps 0 finished 1\nlimits 100000 20000\n"  -- P1
    ∷ row (1 ∷ 0 ∷ 1 ∷ 0 ∷ 0 ∷ 0 ∷ 0 ∷ 0 ∷ 0 ∷ 0 ∷ []) "nodes 1 links 1 pieces 1\nlow 1000000000 high 1000000000 steps 0 finished 1\nlink 0 0 0 0 0 0\nlimits 100000 20000\n"  -- P3
    ∷ row (2 ∷ 0 ∷ 0 ∷ 0 ∷ []) "nodes 2 links 0 pieces 2\nlow 0 high 0 steps 0 finished 1\nlimits 100000 20000\n"  -- P2
    ∷ row (2 ∷ 0 ∷ 1 ∷ 0 ∷ 0 ∷ 1 ∷ 0 ∷ 0 ∷ 0 ∷ 0 ∷ []) "nodes 2 links 1 pieces 1\nlow 0 high 0 steps 0 finished 1\nlink 0 0 1 0 1000000000 1000000000\nlimits 100000 20000\n"  -- a link of value 0
    ∷ row (2 ∷ 0 ∷ 1 ∷ 0 ∷ 1 ∷ 1 ∷ 0 ∷ 0 ∷ 0 ∷ 0 ∷ []) "nodes 2 links 1 pieces 2\nlow 0 high 0 steps 0 finished 1\nlink 0 1 1 0 0 0\nlimits 100000 20000\n"  -- a loop
    ∷ row (2 ∷ 0 ∷ 1 ∷ 0 ∷ 0 ∷ 1 ∷ 2 ∷ 0 ∷ 0 ∷ 128 ∷ []) "nodes 2 links 1 pieces 1\nlow 999300151 high 999300153 steps 0 finished 1\nlink 0 0 1 999300151 1000000000 1000000000\nlimits 100000 20000\n"  -- a length of 200 metres: its low
    ∷ row [] "refused 1 at 0\n"
    ∷ row (2 ∷ 0 ∷ 2 ∷ 0 ∷ 0 ∷ 1 ∷ 0 ∷ 2 ∷ 0 ∷ 0 ∷ 0 ∷ 0 ∷ 0 ∷ 0 ∷ 0 ∷ 0 ∷ []) "refused 5 at 1\n"
    ∷ []

pub examples : map (λ (r : Row). listing r.plan) rows ≡ map (λ (r : Row). text r.prints) rows
unfolding rows row listed listing link_lines filled meant decimal_of verdict links_verdict link_verdict rated T with_joints link_in from sound_at tree_of grown run leaves next_at without delete_at lowest first_pair places first_at last_of_each every label merge quotient product parallel either series factor split
examples = refl
