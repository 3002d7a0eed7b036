-- A node removed from a set, put into it, and taken into another.
use Prim.Native.Nat.{ℕ, zero, suc, ◌+◌, ◌^◌, ◌<◌}
use mathlib.Core.Path.{◌≡◌, refl, sym, ap, ◌∙◌}
use mathlib.Core.Logic.{⊎_elim}
use mathlib.Core.List.{List, [], ◌∷◌, Memᴰ}
use mathlib.Core.Bool.{Bool, true, false}
use native.Mathlib.Omega.{arith}
use lib.Dec.{eqb}
use lib.ListN.{length, set}
use borrow.Author.Tests.{eqb-true, eq-eqb, ne_eqb}
use Rattle.bits.specs.Members.{members}
use Rattle.bits.proofs.Digits.{length_digits}
use Rattle.reliability.specs.Rule.{without}
use Rattle.reliability.specs.Terminals.{insert, into}
use Rattle.reliability.proofs.Lists.{or-true}
use Rattle.reliability.proofs.Chosen.{without-none, by-insert}
use Rattle.search.specs.Searches.{pick, from, nodes_in}
use Rattle.search.proofs.Sets.{has, has-below, has-fits, has-with, from-mem, listed_has}

pick-later : (bs : List Bool) (i k v : ℕ) → v < i → pick bs (from i k) ≡ without v (pick bs (from i k))
pick-later bs i k v h = sym (without-none v (pick bs (from i k)) (λ m. omega (arith, (from-mem bs i k m).2)))

-- to clear the place of a node removes it
pick-without : (bs : List Bool) (i k p v : ℕ) → v ≡ i + p → pick (set bs p false) (from i k) ≡ without v (pick bs (from i k))
unfolding pick from without
pick-without [] i k p v e = refl
pick-without (b ∷ bs) i zero zero v e = refl
pick-without (b ∷ bs) i zero (suc p) v e = refl
pick-without (true ∷ bs) i (suc k) zero v e = rw (eq-eqb i v (omega arith), without) (pick-later bs (suc i) k v (omega arith))
pick-without (false ∷ bs) i (suc k) zero v e = pick-later bs (suc i) k v (omega arith)
pick-without (true ∷ bs) i (suc k) (suc p) v e = rw (ne_eqb i v (λ q. omega arith), without) (ap (λ r. i ∷ r) (pick-without bs (suc i) k p v (omega arith)))
pick-without (false ∷ bs) i (suc k) (suc p) v e = pick-without bs (suc i) k p v (omega arith)

pub nodes-cleared : (r s v : ℕ) → members r ≡ set (members s) v false → nodes_in r ≡ without v (nodes_in s)
nodes-cleared r s v e = ap (λ bs. pick bs (from 0 64)) e ∙ pick-without (members s) 0 64 v v (omega arith)

-- a number below all others comes first
insert-least : (v : ℕ) (us : List ℕ) → ((u : ℕ) → Memᴰ u us → v < u) → v ∷ us ≡ insert v us
unfolding insert
insert-least v [] h = refl
insert-least v (u ∷ us) h =
    let l = h u (Memᴰ.head refl) in
    by-insert (λ r. v ∷ u ∷ us ≡ r) v u us (λ e. absurd (omega arith)) (λ e. absurd (omega arith)) (λ e. refl)

-- to set the place of a node puts it in
pick-insert : (bs : List Bool) (i k p v : ℕ) → v ≡ i + p → p < length bs → p < k → pick (set bs p true) (from i k) ≡ insert v (pick bs (from i k))
unfolding pick from
pick-insert [] i k p v e h l = absurd (omega arith)
pick-insert (b ∷ bs) i zero p v e h l = absurd (omega arith)
pick-insert (true ∷ bs) i (suc k) zero v e h l =
    by-insert (λ r. i ∷ pick bs (from (suc i) k) ≡ r) v i (pick bs (from (suc i) k)) (λ q. refl) (λ q. absurd (omega arith)) (λ q. absurd (omega arith))
pick-insert (false ∷ bs) i (suc k) zero v e h l =
    let same : i ≡ v = omega arith in
    ap (λ u. u ∷ pick bs (from (suc i) k)) same ∙ insert-least v (pick bs (from (suc i) k)) (λ u m. omega (arith, (from-mem bs (suc i) k m).2))
pick-insert (true ∷ bs) i (suc k) (suc p) v e h l =
    by-insert (λ r. i ∷ pick (set bs p true) (from (suc i) k) ≡ r) v i (pick bs (from (suc i) k)) (λ q. absurd (omega arith))
    (λ q. ap (λ r. i ∷ r) (pick-insert bs (suc i) k p v (omega arith) (omega arith) (omega arith))) (λ q. absurd (omega arith))
pick-insert (false ∷ bs) i (suc k) (suc p) v e h l = pick-insert bs (suc i) k p v (omega arith) (omega arith) (omega arith)

pub nodes-inserted : (r s v : ℕ) → v < 64 → members r ≡ set (members s) v true → nodes_in r ≡ insert v (nodes_in s)
nodes-inserted r s v h e = ap (λ bs. pick bs (from 0 64)) e ∙ pick-insert (members s) 0 64 v v (omega arith) (omega (arith, length_digits 64 s)) (omega arith)

pub inserted-fits : (r s v : ℕ) → r < 2 ^ 64 → s < 2 ^ 32 → v < 32 → members r ≡ set (members s) v true → r < 2 ^ 32
inserted-fits r s v hr hs h e = has-fits r 32 hr (λ p q. ⊎_elim
    (λ t. omega (arith, eqb-true p v t)) (has-below s 32 p hs) (or-true (eqb p v) (has s p) (sym (has-with r s v e (omega arith) p) ∙ q)))

-- ---- gone taken into keep

pub into-taken : (keep gone r q s : ℕ) → keep < 64 → has s gone ≡ true → members q ≡ set (members s) gone false → members r ≡ set (members q) keep true
    → nodes_in r ≡ into keep gone (nodes_in s)
unfolding into
into-taken keep gone r q s h e cleared put = rw (listed_has s gone ∙ e, into) (nodes-inserted r q keep h put ∙ ap (insert keep) (nodes-cleared q s gone cleared))

pub into-left : (keep gone s : ℕ) → has s gone ≡ false → nodes_in s ≡ into keep gone (nodes_in s)
unfolding into
into-left keep gone s e = rw (listed_has s gone ∙ e, into) refl
