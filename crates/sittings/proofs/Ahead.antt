-- Small trees and saved work made up by hand, as rows of tables: computed from the definitions, ahead of the laws.
use Prim.Native.Nat.{ℕ, ◌*◌}
use mathlib.Core.Path.{◌≡◌, refl}
use mathlib.Core.List.{List, [], ◌∷◌}
use mathlib.Core.Bool.{Bool, true, false, not, ◌&&◌}
use lib.Dec.{eqb}
use lib.ListN.{length}
use Rattle.rounding.specs.Rounding.{S, quotient, product, parallel, either, series, factor, split}
use Rattle.reliability.specs.declared.Link.{Link}
use Rattle.reliability.specs.Networks.{Network, linked, merge, label, every, connected, last_of_each}
use Rattle.reliability.specs.Rule.{first_at, places, first_pair, lowest, next_at, degree, largest, largest_sum, delete_at, without, leaves, Tree, ready, multiplied, fork, taken, grown, tree_of, tree, run}
use Rattle.sittings.specs.Sittings.{Open, running, known, opens, resumed, traced, Saved, begun, complete, nothing, sitting, saved_after}
use Rattle.sittings.specs.Entries.{entries, entered, opens_in}

unfoldable pub half : ℕ
half = 500000000

unfoldable pub link : ℕ → ℕ → Link
link a b = linked a b (λ d. half)

-- five nodes, all joined: five splits
unfoldable pub five : Network
five = record {
  nodes = 0 ∷ 1 ∷ 2 ∷ 3 ∷ 4 ∷ [];
  links = link 0 1 ∷ link 0 2 ∷ link 0 3 ∷ link 0 4 ∷ link 1 2 ∷ link 1 3 ∷ link 1 4 ∷ link 2 3 ∷ link 2 4 ∷ link 3 4 ∷ [];
}

-- a split that may be taken at place i alone
unfoldable pub only : ℕ → Tree → Tree → Tree
only i s b = fork i (λ j. taken i (link 0 1) s b)

-- a split in the sound branch of a split in the sound branch, and two in the broken one
unfoldable pub deep : Tree
deep =
    let all : Tree = ready (λ d. S) in
    let none : Tree = ready (λ d. 0) in
    only 0 (only 1 (only 2 all none) none) (only 3 all (multiplied (λ d. half) (only 4 all none)))

-- the limits of the earlier sittings by the first link, of those by the rule, and of this one; low, high, steps, finished; the open splits that it sets aside
pub record Row : Type 0 where
  pub old : List ℕ
  pub earlier : List ℕ
  pub limit : ℕ
  pub low : ℕ
  pub high : ℕ
  pub steps : ℕ
  pub finished : Bool
  pub aside : List ℕ

unfoldable pub same : Bool → Bool → Bool
same true b = b
same false b = not b

unfoldable pub alike : List ℕ → List ℕ → Bool
alike [] [] = true
alike [] (y ∷ ys) = false
alike (x ∷ xs) [] = false
alike (x ∷ xs) (y ∷ ys) = eqb x y && alike xs ys

-- what is saved, against its numbers: open splits are read again, and pass check 11
unfoldable pub saves : Tree → List ℕ → Saved → Bool
saves t xs (begun os n) = alike (entries os) xs && alike (entries (opens_in xs 0 (length os))) xs && traced t os
saves t xs (complete f) = alike [] xs

-- the work by the first link, and by the rule
unfoldable pub right : Tree → Tree → Row → Bool
right first t r =
    let s = sitting t (saved_after t (saved_after first nothing r.old) r.earlier) r.limit in
    let f = s.answer in
    eqb f.low r.low && eqb f.high r.high && eqb f.steps r.steps && same f.finished r.finished && saves t r.aside s.saved

unfoldable pub row : List ℕ → List ℕ → ℕ → ℕ → ℕ → ℕ → Bool → List ℕ → Row
row old earlier limit low high steps finished aside =
    record { old = old; earlier = earlier; limit = limit; low = low; high = high; steps = steps; finished = finished; aside = aside }

-- saved work made up by hand: its open splits, and whether they pass check 11
pub made_up : List (List Open × Bool)
made_up =
    ([], true) ∷ (running 0 ∷ [], true) ∷ (running 1 ∷ [], false)  -- another place
    ∷ (running 0 ∷ running 1 ∷ running 2 ∷ [], true) ∷ (running 0 ∷ running 3 ∷ [], false)  -- the place of the other branch
    ∷ (known 0 (λ d. 0) ∷ known 3 (λ d. 0) ∷ running 4 ∷ [], true) ∷ (known 0 (λ d. 0) ∷ running 1 ∷ [], false)
    ∷ (running 0 ∷ known 1 (λ d. 0) ∷ running 2 ∷ [], false)  -- no split is left there
    ∷ []

pub passes : List Open × Bool → Bool
passes c = same (traced deep c.0) c.1

pub check-11 : every passes made_up ≡ true
unfolding passes same made_up only deep every traced
check-11 = refl

-- on the nine links left of five: the first link or the one with the largest sum, in any mixture
pub mixtures : List (List Open × Bool)
mixtures =
    (known 0 (λ d. 0) ∷ running 0 ∷ [], true) ∷ (known 0 (λ d. 0) ∷ running 6 ∷ [], true) ∷ (known 0 (λ d. 0) ∷ running 1 ∷ [], false)
    ∷ (known 0 (λ d. 0) ∷ known 0 (λ d. 0) ∷ running 0 ∷ [], true) ∷ (known 0 (λ d. 0) ∷ known 6 (λ d. 0) ∷ running 2 ∷ [], true)
    ∷ (known 0 (λ d. 0) ∷ known 6 (λ d. 0) ∷ running 0 ∷ [], true) ∷ (known 0 (λ d. 0) ∷ known 6 (λ d. 0) ∷ running 1 ∷ [], false)
    ∷ (running 8 ∷ [], false) ∷ []

pub passes-five : List Open × Bool → Bool
passes-five c = same (traced (tree five) c.0) c.1

pub either-choice : every passes-five mixtures ≡ true
unfolding passes-five same mixtures link half five tree_of grown largest_sum largest degree leaves next_at without delete_at lowest first_pair places first_at last_of_each connected every label merge quotient product parallel either series factor split traced
either-choice = refl

pub rows-of-deep : List Row
rows-of-deep =
    row [] [] 1 0 S 1 false (0 ∷ 1 ∷ 0 ∷ [])
    ∷ row [] [] 2 0 750000000 2 false (0 ∷ 1 ∷ 0 ∷ 1 ∷ 1 ∷ 0 ∷ [])  -- two sound branches run, one in the other
    ∷ row [] [] 3 125000000 625000000 3 false (0 ∷ 250000000 ∷ 250000000 ∷ [])
    ∷ row [] [] 4 375000000 half 4 false (0 ∷ 250000000 ∷ 250000000 ∷ 3 ∷ S ∷ S ∷ [])
    ∷ row [] [] 5 437500000 437500000 5 true []
    ∷ row [] (2 ∷ []) 0 0 750000000 2 false (0 ∷ 1 ∷ 0 ∷ 1 ∷ 1 ∷ 0 ∷ [])
    ∷ row [] (2 ∷ []) 1 125000000 625000000 3 false (0 ∷ 250000000 ∷ 250000000 ∷ [])
    ∷ row [] (1 ∷ 1 ∷ []) 2 375000000 half 4 false (0 ∷ 250000000 ∷ 250000000 ∷ 3 ∷ S ∷ S ∷ [])
    ∷ row [] (1 ∷ 1 ∷ 1 ∷ 1 ∷ []) 1 437500000 437500000 5 true []
    ∷ row [] (5 ∷ []) 1 437500000 437500000 5 true []  -- complete work is not worked again
    ∷ []

pub sittings-of-deep : every (right deep deep) rows-of-deep ≡ true
unfolding right same alike saves rows-of-deep row link half only deep run every quotient product split opens resumed traced sitting saved_after entries entered opens_in
sittings-of-deep = refl

-- a split that may be taken at either place, with other figures of its sound branch; by the choice c
pub either_way : ℕ → Tree
either_way c = fork c (λ i. taken i (link 0 1) (ready (λ d. i * half)) (only 2 (ready (λ d. S)) (ready (λ d. 0))))

pub rows-of-two : List Row
rows-of-two =
    row [] [] 1 250000000 750000000 1 false (1 ∷ half ∷ half ∷ [])
    ∷ row [] [] 2 half half 2 true []
    ∷ row (1 ∷ []) [] 0 0 half 1 false (0 ∷ 0 ∷ 0 ∷ [])  -- begun by the first link, and carried on there
    ∷ row (1 ∷ []) [] 1 250000000 250000000 2 true []
    ∷ []

pub sittings-of-two : every (right (either_way 0) (either_way 1)) rows-of-two ≡ true
unfolding right same alike saves rows-of-two row link half only either_way run every quotient product split opens resumed traced sitting saved_after entries entered opens_in
sittings-of-two = refl
