use Prim.Native.Nat.{ℕ, ◌<◌}
use mathlib.Core.Path.{◌≡◌, refl, sym, ap, ◌∙◌}
use mathlib.Core.List.{List}
use mathlib.Core.Bool.{Bool, true, false, cond, not, ◌&&◌, ◌||◌}
use native.Mathlib.Omega.{arith}
use lib.Dec.{eqb}
use lib.ListN.{get_or}
use Rattle.search.specs.Searches.{places_in, across_at}
use Rattle.search.proofs.Sets.{has}
use Rattle.search.proofs.Marks.{Lowest, lowest-in, lowest-below, lowest-first, second-place, rest-count, rest-within, counted-some}
use Rattle.search.proofs.between.Goals as goal
use Rattle.search.proofs.between.Goals.{After-has-2, After-has-then-has, After-lowest-i, After-lowest-j, Start}

-- the two places
first : (c : After-lowest-i) → Lowest c.args.s c.lowest-i.result
first c = record { some = omega (arith, c.requires.1); first = c.lowest-i.ensures }

second : (c : After-lowest-j) → Lowest c.without_lowest.result c.lowest-j.result
second c =
    record { some = omega (arith, c.requires.1, rest-count _ _ (first (goal.at.After-lowest-j c).After-lowest-i) _ c.without_lowest.ensures); first = c.lowest-j.ensures }

-- the node across the link at place k, and the ends of that link
abbrev across : (c : Start) → ℕ → ℕ
across c k = across_at c.args.a.now c.args.b.now c.args.v k

abbrev Ends : (c : Start) → ℕ → Type 0
Ends c k = (get_or c.args.a.now k 0 < 32) × (get_or c.args.b.now k 0 < 32)

across-below : (c : Start) (k r : ℕ) → Ends c k → r ≡ across c k → r < 64
across-below c k r h e = go (eqb (get_or c.args.a.now k 0) c.args.v) (get_or c.args.a.now k 0) (get_or c.args.b.now k 0) h e
  where
    go : (b : Bool) (x y : ℕ) → (x < 32) × (y < 32) → r ≡ cond b y x → r < 64
    go true x y h e = omega arith
    go false x y h e = omega arith

first_ends : (c : After-lowest-i) → Ends (goal.at.After-lowest-i c).Start c.lowest-i.result
first_ends c = c.requires.2 _ (lowest-in _ _ (first c))

second-ends : (c : After-lowest-j) → Ends (goal.at.After-lowest-j c).Start c.lowest-j.result
second-ends c =
    c.requires.2 _ (rest-within _ _ (first (goal.at.After-lowest-j c).After-lowest-i) _ c.without_lowest.ensures _ (λ k e. e) _ (lowest-in _ _ (second c)))

-- ---- the answers
-- what the tests say: n is that v is not chosen
unasked : (n x y : Bool) → n ≡ true → true ≡ (n || (x && y))
unasked n x y e = rw e refl

refused : (n x y : Bool) → n ≡ false → x ≡ false → false ≡ (n || (x && y))
refused n x y e f = rw (e, f) refl

asked : (n x y : Bool) → n ≡ false → x ≡ true → y ≡ (n || (x && y))
asked n x y e f = rw (e, f) refl

-- the answer for the link at the i-th place of s
abbrev answer : (c : Start) → ℕ → Bool
answer c i = has c.args.chosen (across c (get_or (places_in c.args.s) i 0))

first-answer : (c : After-has-2) → c.has-2.result ≡ answer (goal.at.After-has-2 c).Start 0
first-answer c =
    c.has-2.ensures ∙ ap (has c.args.chosen) (c.across-x.ensures ∙ ap (λ (ks : List ℕ). across (goal.at.After-has-2 c).Start (get_or ks 0 0)) (sym (lowest-first _ _ (first (goal.at.After-has-2 c).After-lowest-i))))

second-answer : (c : After-has-then-has) → c.has-then-has.result ≡ answer (goal.at.After-has-then-has c).Start 1
second-answer c =
    let place = second-place _ _ (first (goal.at.After-has-then-has c).After-lowest-i) _ c.without_lowest.ensures _ (second (goal.at.After-has-then-has c).After-lowest-j) in
    c.has-then-has.ensures ∙ ap (has c.args.chosen) (c.across-y.ensures ∙ ap (across (goal.at.After-has-then-has c).Start) (sym place))

pub returns-then-not-has : goal.returns-then-not-has
returns-then-not-has c = unasked _ (answer (goal.at.returns-then-not-has c).Start 0) (answer (goal.at.returns-then-not-has c).Start 1) (ap not (sym c.has.ensures) ∙ c.if-not-has.true-raw)

pub returns-then-has : goal.returns-then-has
returns-then-has c =
    second-answer c
    ∙ asked _ (answer (goal.at.returns-then-has c).Start 0) (answer (goal.at.returns-then-has c).Start 1) (ap not (sym c.has.ensures) ∙ c.if-not-has.false-raw) (sym (first-answer (goal.at.returns-then-has c).After-has-2) ∙ c.if-has.true)

pub returns-else-has : goal.returns-else-has
returns-else-has c =
    c.if-has.false ∙ refused _ (answer (goal.at.returns-else-has c).Start 0) (answer (goal.at.returns-else-has c).Start 1) (ap not (sym c.has.ensures) ∙ c.if-not-has.false-raw) (sym (first-answer (goal.at.returns-else-has c).After-has-2) ∙ c.if-has.false)

pub without_lowest-requires : goal.without_lowest-requires
without_lowest-requires c = counted-some _ (first c).some

pub bounds-a-i : goal.bounds-a-i
bounds-a-i c = lowest-below _ _ (first (goal.at.bounds-a-i c).After-lowest-i)

pub bounds-b-i : goal.bounds-b-i
bounds-b-i c = lowest-below _ _ (first (goal.at.bounds-b-i c).After-lowest-i)

pub bounds-a-j : goal.bounds-a-j
bounds-a-j c = lowest-below _ _ (second (goal.at.bounds-a-j c).After-lowest-j)

pub bounds-b-j : goal.bounds-b-j
bounds-b-j c = lowest-below _ _ (second (goal.at.bounds-b-j c).After-lowest-j)

pub has-requires-2 : goal.has-requires-2
has-requires-2 c =
    across-below (goal.at.has-requires-2 c).Start c.lowest-i.result _ (first_ends (goal.at.has-requires-2 c).After-lowest-i) c.across-x.ensures

pub has-requires-then-has : goal.has-requires-then-has
has-requires-then-has c =
    across-below (goal.at.has-requires-then-has c).Start c.lowest-j.result _ (second-ends (goal.at.has-requires-then-has c).After-lowest-j) c.across-y.ensures
