-- The open split at a place of a row: how it is read, and what check 11 asks of it.
use Prim.Native.Nat.{ℕ, ◌+◌, ◌*◌}
use mathlib.Core.Path.{◌≡◌, refl, sym, ap, ap₂, ◌∙◌}
use mathlib.Core.List.{List, ◌∷◌}
use mathlib.Core.Bool.{Bool, true, false, cond, ◌&&◌, ◌||◌}
use lib.Dec.{eqb, leb}
use lib.ListN.{get_or}
use Rattle.rounding.specs.declared.Direction.{Direction}
use Rattle.reliability.specs.declared.Link.{Link}
use Rattle.reliability.specs.Rule.{Tree, fork, taken}
use Rattle.sittings.specs.Sittings.{Open, running, known, place_of, traced}
use Rattle.sittings.specs.Entries.{pair, entered, open_at}

-- the figures at place k of the row
abbrev pub known_pair : List ℕ → ℕ → Direction → ℕ
known_pair row k = pair (get_or row (3 * k + 1) 0) (get_or row (3 * k + 2) 0)

-- the open split at place k
abbrev pub open_by : List ℕ → ℕ → Bool → Open
open_by row k true = known (get_or row (3 * k) 0) (known_pair row k)
open_by row k false = running (get_or row (3 * k) 0)

place-by : (row : List ℕ) (k : ℕ) (kn : Bool) → place_of (open_by row k kn) ≡ get_or row (3 * k) 0
place-by row k true = refl
place-by row k false = refl

pub open_is : (row : List ℕ) (k : ℕ) (kn : Bool) → kn ≡ leb (get_or row (3 * k + 1) 0) (get_or row (3 * k + 2) 0) → open_at row k ≡ open_by row k kn
unfolding entered
open_is row k true h = ap (λ (t : Bool). elim t as (λ x. Open) [ true ↦ known (get_or row (3 * k) 0) (known_pair row k) | false ↦ running (get_or row (3 * k) 0) ]) (sym h)
open_is row k false h = ap (λ (t : Bool). elim t as (λ x. Open) [ true ↦ known (get_or row (3 * k) 0) (known_pair row k) | false ↦ running (get_or row (3 * k) 0) ]) (sym h)

-- check 11 at a split that is still to take
pub fork-open : {t : Tree} {c : ℕ} {w : ℕ → Tree} → t ≡ fork c w → (row : List ℕ) (k : ℕ) (os : List Open) (kn : Bool) → kn ≡ leb (get_or row (3 * k + 1) 0) (get_or row (3 * k + 2) 0)
    → let j = get_or row (3 * k) 0 in traced t (open_at row k ∷ os) ≡ ((eqb j 0 || eqb j c) && traced (w j) (open_by row k kn ∷ os))
unfolding traced
fork-open {t} {c} {w} is row k os kn h =
    ap₂ (λ (u : Tree) o. traced u (o ∷ os)) is (open_is row k kn h)
    ∙ ap (λ j. (eqb j 0 || eqb j c) && traced (w j) (open_by row k kn ∷ os)) (place-by row k kn)

-- and once it is taken
pub taken-open : (i : ℕ) (e : Link) (s b : Tree) (row : List ℕ) (k : ℕ) (os : List Open) (kn : Bool) → traced (taken i e s b) (open_by row k kn ∷ os) ≡ (eqb (get_or row (3 * k) 0) i && traced (cond kn b s) os)
unfolding traced
taken-open i e s b row k os true = refl
taken-open i e s b row k os false = refl
