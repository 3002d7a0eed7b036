-- A small network, worked in one sitting and in several, as rows of a table: computed from the definitions.
use mathlib.Core.Path.{◌≡◌, refl}
use mathlib.Core.List.{List, [], ◌∷◌}
use mathlib.Core.Bool.{true, false, ◌&&◌}
use Rattle.rounding.specs.Rounding.{S, quotient, product, parallel, either, series, factor, split}
use Rattle.reliability.specs.Networks.{merge, label, every, connected, last_of_each}
use Rattle.reliability.specs.Rule.{first_at, places, first_pair, lowest, next_at, degree, largest, largest_sum, first_link, delete_at, without, leaves, grown, tree_of, tree_by, tree, run}
use Rattle.sittings.specs.Sittings.{opens, resumed, traced, begun, nothing, sitting, saved_after, by_first_link, by_largest_sum, saved_by}
use Rattle.sittings.specs.Entries.{entries, entered, opens_in}
use Rattle.sittings.proofs.Ahead.{half, link, five, only, deep, Row, same, alike, saves, right, row}

pub rows-of-five : List Row
rows-of-five =
    row [] [] 0 0 S 0 false []
    ∷ row [] [] 1 0 S 1 false (0 ∷ 1 ∷ 0 ∷ [])  -- the sound branch of the first split runs
    ∷ row [] [] 2 404296874 904296876 2 false (0 ∷ 808593749 ∷ 808593751 ∷ [])  -- its figures are known
    ∷ row [] [] 3 580078124 830078126 3 false (0 ∷ 808593749 ∷ 808593751 ∷ 6 ∷ 703124998 ∷ 703125002 ∷ [])  -- the seventh link of nine has the largest sum
    ∷ row [] [] 4 660156248 753906252 4 false (0 ∷ 808593749 ∷ 808593751 ∷ 6 ∷ 703124998 ∷ 703125002 ∷ 2 ∷ 640624999 ∷ 640625001 ∷ [])
    ∷ row [] [] 5 710937498 710937502 5 true []
    ∷ row [] (1 ∷ []) 1 404296874 904296876 2 false (0 ∷ 808593749 ∷ 808593751 ∷ [])
    ∷ row [] (1 ∷ 0 ∷ []) 2 580078124 830078126 3 false (0 ∷ 808593749 ∷ 808593751 ∷ 6 ∷ 703124998 ∷ 703125002 ∷ [])
    ∷ row [] (1 ∷ 1 ∷ 1 ∷ []) 1 660156248 753906252 4 false (0 ∷ 808593749 ∷ 808593751 ∷ 6 ∷ 703124998 ∷ 703125002 ∷ 2 ∷ 640624999 ∷ 640625001 ∷ [])
    ∷ row [] (1 ∷ 1 ∷ 1 ∷ 1 ∷ []) 1 710937498 710937502 5 true []
    ∷ row [] (3 ∷ []) 20000 710937498 710937502 5 true []
    ∷ row [] (20000 ∷ 0 ∷ []) 1 710937498 710937502 5 true []  -- complete work is not worked again
    ∷ row (3 ∷ []) [] 0 404296874 841796876 3 false (0 ∷ 808593749 ∷ 808593751 ∷ 0 ∷ 1 ∷ 0 ∷ [])  -- begun by the first link, its open splits remain
    ∷ row (3 ∷ []) [] 1 589843749 777343751 4 false (0 ∷ 808593749 ∷ 808593751 ∷ 0 ∷ 742187499 ∷ 742187502 ∷ [])
    ∷ row (3 ∷ []) [] 2 710937499 710937502 5 true []
    ∷ row (1 ∷ 1 ∷ []) (1 ∷ []) 1 660156248 753906252 4 false (0 ∷ 808593749 ∷ 808593751 ∷ 6 ∷ 703124998 ∷ 703125002 ∷ 2 ∷ 640624999 ∷ 640625001 ∷ [])  -- every split not yet taken is by the rule
    ∷ row (5 ∷ []) [] 0 710937499 710937502 5 true []
    ∷ []

pub sittings-of-five : every (right (tree_by first_link five) (tree five)) rows-of-five ≡ true
unfolding right same alike saves rows-of-five row link half five tree_of grown run largest_sum largest degree leaves next_at without delete_at lowest first_pair places first_at last_of_each connected every label merge quotient product parallel either series factor split opens resumed traced sitting saved_after entries entered opens_in
sittings-of-five = refl

-- two sittings by the first link, and one by the rule
pub by-either : (
    saves (tree five) (0 ∷ 808593749 ∷ 808593751 ∷ 6 ∷ 703124998 ∷ 703125002 ∷ []) (saved_by five nothing ((by_first_link, 1) ∷ (by_first_link, 1) ∷ (by_largest_sum, 1) ∷ []))
    && saves (tree five) (0 ∷ 808593749 ∷ 808593751 ∷ 0 ∷ 742187499 ∷ 742187502 ∷ []) (saved_by five nothing ((by_largest_sum, 2) ∷ (by_first_link, 1) ∷ (by_largest_sum, 1) ∷ []))) ≡ true
unfolding same alike saves link half five tree_of grown run largest_sum largest degree leaves next_at without delete_at lowest first_pair places first_at last_of_each connected every label merge quotient product parallel either series factor split opens resumed traced sitting saved_by entries entered opens_in
by-either = refl

-- the millionth step is the last
pub a-million : (sitting deep (begun [] 999999) 5).answer.steps ≡ 1000000
unfolding only deep run resumed sitting
a-million = refl
