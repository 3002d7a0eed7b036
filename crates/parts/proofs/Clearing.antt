-- The nodes of a set lose their links, one node a turn.
use Prim.Native.Nat.{ℕ, ◌<◌}
use mathlib.Core.Path.{◌≡◌, refl, sym, ap, ◌∙◌}
use mathlib.Core.List.{List, []}
use mathlib.Core.Bool.{Bool, true, false, cond, not, ◌&&◌, and-true, true≢false}
use native.Mathlib.Omega.{arith}
use lib.Dec.{eqb}
use lib.ListN.{length, get_or, set, length-set}
use lib.Seq.{get_or-set_same, get_or-set_other}
use Rattle.bits.specs.Members.{members, first_of, difference}
use Rattle.reliability.specs.Networks.{every}
use Rattle.reliability.proofs.Lists.{by_eqb}
use Rattle.search.specs.Searches.{places_in, nodes_in, Inside}
use Rattle.search.proofs.Sets.{has, has-without, has-zip}
use Rattle.search.proofs.Marks.{Lowest, lowest-in, lowest-below, lowest-rest, rest-within, none-in}
use Rattle.parts.specs.Tallies.{Cleared, Remaining}

-- no link of node v is at place p
abbrev free : List ℕ → ℕ → ℕ → Bool
free at p v = not (has (get_or at v 0) p)

-- the nodes of t are still to be cleared
pub record Clearing (nodes alive : ℕ) (before : List ℕ) (t left : ℕ) (at : List ℕ) : Type 0 where
  pub size : length at ≡ 32
  pub inside : Inside t nodes
  pub same : (v : ℕ) → has t v ≡ true → get_or at v 0 ≡ get_or before v 0
  pub sets : (v : ℕ) → cond (has nodes v) (members 0) (members (get_or before v 0)) ≡ cond (has t v) (members 0) (members (get_or at v 0))
  pub places : (p : ℕ) → (has alive p && every (free before p) (nodes_in nodes)) ≡ (has left p && every (free before p) (nodes_in t))

module _ (nodes alive : ℕ) (before : List ℕ) where
  pub clearing-starts : length before ≡ 32 → Clearing nodes alive before nodes alive before
  clearing-starts l = record { size = l; inside = λ k e. e; same = λ v e. refl; sets = λ v. refl; places = λ p. refl }

  -- the lowest node k of t is cleared, and r is the rest of t
  pub clearing-turn : (t left : ℕ) (at : List ℕ) → Clearing nodes alive before t left at → (k : ℕ) → Lowest t k → k < 32
      → (r : ℕ) → members r ≡ set (members t) (first_of (members t)) false → (less : ℕ) → members less ≡ difference (members left) (members (get_or at k 0))
      → Clearing nodes alive before r less (set at k 0)
  unfolding every
  clearing-turn t left at c k l below r rest less gone = record {
    size = length-set at k 0 ∙ c.size;
    inside = rest-within t k l r rest nodes c.inside;
    same = λ v e. by_eqb (λ b. (not b && has t v) ≡ true → get_or (set at k 0) v 0 ≡ get_or before v 0) v k
        (λ q f. absurd (true≢false (sym f)))
        (λ n f. get_or-set_other at k v 0 0 n ∙ c.same v f)
        (sym (left_at v) ∙ e);
    sets = λ v. c.sets v ∙ by_eqb (λ b. cond (has t v) (members 0) (members (get_or at v 0)) ≡ cond (not b && has t v) (members 0) (members (get_or (set at k 0) v 0))) v k
        (λ q. rw q (rw (lowest-in t k l) (ap members (sym (get_or-set_same at k 0 0 (omega (arith, c.size)))))))
        (λ n. ap (λ (s : ℕ). cond (has t v) (members 0) (members s)) (sym (get_or-set_other at k v 0 0 n)))
        ∙ ap (λ (b : Bool). cond b (members 0) (members (get_or (set at k 0) v 0))) (sym (left_at v));
    places = λ p. c.places p
        ∙ ap (λ (ks : List ℕ). has left p && every (free before p) ks) (lowest-rest t k l r rest)
        ∙ moved (has left p) (free before p k) (every (free before p) (nodes_in r))
        ∙ ap (λ (b : Bool). b && every (free before p) (nodes_in r)) (sym (has-zip (λ x y. x && not y) refl less left (get_or at k 0) gone p ∙ ap (λ (s : ℕ). has left p && not (has s p)) (c.same k (lowest-in t k l))));
  }
    where
      left_at : (v : ℕ) → has r v ≡ (not (eqb v k) && has t v)
      left_at = has-without r t k (rest ∙ ap (λ (i : ℕ). set (members t) i false) (sym l.first)) (lowest-below t k l)

      moved : (x y z : Bool) → (x && (y && z)) ≡ ((x && y) && z)
      moved true y z = refl
      moved false y z = refl

  -- none is left
  pub clearing-ends : (t left : ℕ) (at : List ℕ) → length before ≡ 32 → Clearing nodes alive before t left at → places_in t ≡ [] → Remaining nodes before alive left × Cleared nodes before at
  unfolding every
  clearing-ends t left at l c e = (
    λ p. sym (c.places p ∙ ap (λ (ks : List ℕ). has left p && every (free before p) ks) e ∙ and-true (has left p)),
    record { size = c.size ∙ sym l; sets = λ v. sym (c.sets v ∙ ap (λ (b : Bool). cond b (members 0) (members (get_or at v 0))) (none-in t e v)) },
  )
