-- Sittings: a long run is set aside and carried on.
use Rattle.std.specs.Prelude.{ℕ, zero, suc, ◌-◌, min, List, [], ◌∷◌, Bool, true, false, ◌&&◌, ◌||◌, eqb}
use Rattle.rounding.specs.declared.Direction.{Direction}
use Rattle.reliability.specs.declared.Figure.{Figure}
use Rattle.reliability.specs.Networks.{Network}
use Rattle.reliability.specs.Rule.{first_link, chosen, side, more, Tree, ready, multiplied, fork, taken, tree_by, run}

-- ---- work set aside

-- an open split: its place, while its sound branch runs, or with the figures of its sound branch
pub data Open : Type 0 where
  running : ℕ → Open
  known : ℕ → (Direction → ℕ) → Open

abbrev pub place_of : Open → ℕ
place_of (running i) = i
place_of (known i k) = i

-- the low and the high of a figure
abbrev pub sides : Figure → Direction → ℕ
sides f = λ d. side d f

-- a taken split at place i, and the open splits within it: of the broken branch where the sound one has figure s and is finished, else of the sound one
abbrev pub opened : ℕ → Figure → List Open → List Open → List Open
opened i s sound broken = elim s.finished [ true ↦ known i (sides s) ∷ broken | false ↦ running i ∷ sound ]

-- the open splits, outermost first, of a run set aside at the first split for which no step is left
unfoldable pub opens : Tree → ℕ → List Open
opens (ready k) limit = []
opens (multiplied k t) limit = opens t limit
opens (fork i work) zero = []
opens (fork i work) (suc limit) = opens (work i) limit
opens (taken i e s b) limit = opened i (run s limit) (opens s limit) (opens b (limit - (run s limit).steps))

-- what a run sets aside: nothing where it is finished
unfoldable pub aside : Tree → ℕ → List Open
aside t limit = elim (run t limit).finished [ true ↦ [] | false ↦ opens t limit ]

-- ---- work put back

-- the work with its open splits taken, outermost first, each at its own place; a sound branch whose figures are known is not worked again
unfoldable pub resumed : Tree → List Open → Tree
resumed t [] = t
resumed (ready k) (o ∷ os) = ready k
resumed (multiplied k t) (o ∷ os) = multiplied k (resumed t (o ∷ os))
resumed (fork i work) (o ∷ os) = resumed (work (place_of o)) (o ∷ os)
resumed (taken i e s b) (running j ∷ os) = taken i e (resumed s os) b
resumed (taken i e s b) (known j k ∷ os) = taken i e (ready k) (resumed b os)

-- check 11: each open split is a split of this work, on the first link or on the chosen one; the next lies in the sound branch while that runs, else in the broken one
unfoldable pub traced : Tree → List Open → Bool
traced t [] = true
traced (ready k) (o ∷ os) = false
traced (multiplied k t) (o ∷ os) = traced t (o ∷ os)
traced (fork i work) (o ∷ os) = (eqb (place_of o) 0 || eqb (place_of o) i) && traced (work (place_of o)) (o ∷ os)
traced (taken i e s b) (running j ∷ os) = eqb j i && traced s os
traced (taken i e s b) (known j k ∷ os) = eqb j i && traced b os

-- ---- sittings

-- saved work: begun, with its open splits and the steps so far, or complete, with the answer
pub data Saved : Type 0 where
  begun : List Open → ℕ → Saved
  complete : Figure → Saved

pub record Sitting : Type 0 where
  pub answer : Figure
  pub saved : Saved

-- a first sitting is handed this
abbrev pub nothing : Saved
nothing = begun [] 0

-- no sitting goes past these steps
abbrev pub most : ℕ
most = 1000000

-- what is saved of a run with figure f and open splits os
abbrev pub keeping : Figure → List Open → Saved
keeping f os = elim f.finished [ true ↦ complete f | false ↦ begun os f.steps ]

-- one sitting under a limit, with the n steps of the earlier ones; complete work is not worked again
unfoldable pub sitting : Tree → Saved → ℕ → Sitting
sitting t (begun os n) limit =
    let u = resumed t os in
    let l = min limit (most - n) in
    let f = more n (run u l) in
    record { answer = f; saved = keeping f (opens u l) }
sitting t (complete f) limit = record { answer = f; saved = complete f }

-- what is saved after sittings under these limits, one after the other
unfoldable pub saved_after : Tree → Saved → List ℕ → Saved
saved_after t s [] = s
saved_after t s (l ∷ ls) = saved_after t (sitting t s l).saved ls

-- ---- sittings by either choice

-- the choice of the link to split on in a sitting: document 01's, or the rule's
pub data Choosing : Type 0 where
  by_first_link : Choosing
  by_largest_sum : Choosing

abbrev pub choice_of : Choosing → Network → ℕ
choice_of by_first_link = first_link
choice_of by_largest_sum = chosen

-- what is saved after sittings of a network, one after the other, each by its choice and under its limit
unfoldable pub saved_by : Network → Saved → List (Choosing × ℕ) → Saved
saved_by g s [] = s
saved_by g s (x ∷ xs) = saved_by g (sitting (tree_by (choice_of x.0) g) s x.1).saved xs
