-- The sets of places at the nodes, and the ends of the links, before and after a change.
use Rattle.std.specs.Prelude.{ℕ, ◌≡◌, List, [], ◌∷◌, Bool, false, cond, not, ◌&&◌, eqb, length, get_or, set}
use Rattle.bits.specs.Members.{members, either}
use Rattle.reliability.specs.Networks.{every}
use Rattle.search.specs.Searches.{nodes_in}

-- at node x, place k is in the set now (b is true) or not in it (false); all else is as before
pub record Written (b : Bool) (x k : ℕ) (before after : List ℕ) : Type 0 where
  pub size : length after ≡ length before
  pub sets : (v : ℕ) → members (get_or after v 0) ≡ cond (eqb x v) (set (members (get_or before v 0)) k b) (members (get_or before v 0))

-- place k is in the set at neither x nor y now; all else is as before
pub record Unlinked (x y k : ℕ) (before after : List ℕ) : Type 0 where
  pub half : List ℕ
  pub first : Written false x k before half
  pub second : Written false y k half after

-- the links at gone are at keep now; all else is as before
pub record Merged (keep gone : ℕ) (before after : List ℕ) : Type 0 where
  pub size : length after ≡ length before
  pub sets : (v : ℕ) → members (get_or after v 0)
      ≡ cond (eqb v gone) (members 0) (cond (eqb v keep) (either (members (get_or before keep 0)) (members (get_or before gone 0))) (members (get_or before v 0)))

-- the nodes of a set have no links now; all else is as before
pub record Cleared (nodes : ℕ) (before after : List ℕ) : Type 0 where
  pub size : length after ≡ length before
  pub sets : (v : ℕ) → members (get_or after v 0) ≡ cond (get_or (members nodes) v false) (members 0) (members (get_or before v 0))

-- r has those places of alive that are at no node of the set
abbrev pub Remaining : ℕ → List ℕ → ℕ → ℕ → Type 0
Remaining nodes before alive r = (p : ℕ) → get_or (members r) p false
    ≡ (get_or (members alive) p false && every (λ v. not (get_or (members (get_or before v 0)) p false)) (nodes_in nodes))

-- the numbers at the places that are set, each changed by f
unfoldable pub changed_at : (ℕ → ℕ) → List Bool → List ℕ → List ℕ
changed_at f [] xs = xs
changed_at f (b ∷ bs) [] = []
changed_at f (b ∷ bs) (x ∷ xs) = cond b (f x) x ∷ changed_at f bs xs
