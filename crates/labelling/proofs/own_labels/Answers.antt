use Prim.Native.Nat.{ℕ, zero, suc, ◌+◌, ◌<◌}
use mathlib.Core.Path.{◌≡◌, refl, ap₂}
use mathlib.Core.List.{List, [], ◌∷◌}
use native.Mathlib.Omega.{arith}
use lib.ListN.{get_or, length}
use borrow.Author.Rules.{rules}
use Rattle.search.specs.Searches.{from}
use Rattle.labelling.proofs.own_labels.Goals as goal

-- numbers that stand at their own places
by_place : (l : List ℕ) (i n : ℕ) → length l ≡ n → ((k : ℕ) → k < n → get_or l k 0 ≡ i + k) → l ≡ from i n
unfolding from
by_place [] i zero e h = refl
by_place [] i (suc n) e h = absurd (omega arith)
by_place (x ∷ l) i zero e h = absurd (omega arith)
by_place (x ∷ l) i (suc n) e h =
    ap₂ {C = List ℕ} (λ x l. x ∷ l) (omega (arith, h 0 (omega arith))) (by_place l (suc i) n (omega arith) (λ k m. omega (arith, h (suc k) (omega arith))))

pub returns : goal.returns
returns c =
    let at : (i : ℕ) → i < 32 → get_or c.from_fn.result i 0 ≡ i = λ i h. let z = c.from_fn.ensures.items.at i 0 h in search rules in
    by_place c.from_fn.result 0 32 c.from_fn.ensures.items.long (λ k h. omega (arith, at k h))
