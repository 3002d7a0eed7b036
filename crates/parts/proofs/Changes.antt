-- What one change does to the sets and to the ends, place by place.
use Prim.Native.Nat.{ℕ, zero, suc, ◌<◌}
use mathlib.Core.Path.{◌≡◌, refl, sym, ap, ◌∙◌}
use mathlib.Core.List.{List, [], ◌∷◌}
use mathlib.Core.Bool.{Bool, true, false, cond, ◌&&◌, ◌||◌, true≢false}
use native.Mathlib.Omega.{arith}
use lib.Dec.{eqb}
use lib.ListN.{length, get_or, set, length-set}
use lib.Seq.{lt-length-set, get_or-set_same, get_or-set_other}
use Rattle.bits.specs.Members.{members, first_of, how_many, either}
use Rattle.bits.proofs.Digits.{length_digits}
use Rattle.bits.proofs.Places.{get_or-zip_with}
use Rattle.reliability.proofs.Lists.{by_eqb}
use Rattle.search.proofs.Sets.{has, has-none, same_length}
use Rattle.search.proofs.Marks.{Lowest, lowest-in}
use Rattle.parts.specs.Tallies.{Written, Merged, changed_at}

-- what is then in the set at v
pub has-written : (b : Bool) (x k : ℕ) (at after : List ℕ) → k < 64 → Written b x k at after
    → (v p : ℕ) → has (get_or after v 0) p ≡ cond (eqb x v && eqb p k) b (has (get_or at v 0) p)
has-written b x k at after h w v p = ap (λ (us : List Bool). get_or us p false) (w.sets v) ∙ go (eqb x v)
  where
    go : (t : Bool) → get_or (cond t (set (members (get_or at v 0)) k b) (members (get_or at v 0))) p false ≡ cond (t && eqb p k) b (has (get_or at v 0) p)
    go true = by_eqb (λ c. get_or (set (members (get_or at v 0)) k b) p false ≡ cond c b (has (get_or at v 0) p)) p k
        (λ q. rw q (get_or-set_same (members (get_or at v 0)) k b false (omega (arith, length_digits 64 (get_or at v 0)))))
        (λ n. get_or-set_other (members (get_or at v 0)) k p b false n)
    go false = refl

-- the sets of two nodes are merged
pub merged : (at : List ℕ) (keep gone s : ℕ) → keep < length at → gone < length at
    → members s ≡ either (members (get_or at keep 0)) (members (get_or at gone 0)) → Merged keep gone at (set (set at keep s) gone 0)
merged at keep gone s hk hg e = record {
  size = length-set (set at keep s) gone 0 ∙ length-set at keep s;
  sets = λ v. by_eqb (λ t. members (get_or (set (set at keep s) gone 0) v 0) ≡ cond t (members 0) (cond (eqb v keep) (either (members (get_or at keep 0)) (members (get_or at gone 0))) (members (get_or at v 0)))) v gone
      (λ q. rw q (ap members (get_or-set_same (set at keep s) gone 0 0 (lt-length-set at keep s hg))))
      (λ n. ap members (get_or-set_other (set at keep s) gone v 0 0 n)
      ∙ by_eqb (λ t. members (get_or (set at keep s) v 0) ≡ cond t (either (members (get_or at keep 0)) (members (get_or at gone 0))) (members (get_or at v 0))) v keep
      (λ q. rw q (ap members (get_or-set_same at keep s 0 hk) ∙ e))
      (λ m. ap members (get_or-set_other at keep v s 0 m)));
}

pub has-merged : (keep gone : ℕ) (at after : List ℕ) → Merged keep gone at after
    → (v p : ℕ) → has (get_or after v 0) p ≡ cond (eqb v gone) false (cond (eqb v keep) (has (get_or at keep 0) p || has (get_or at gone 0) p) (has (get_or at v 0) p))
has-merged keep gone at after w v p = ap (λ (us : List Bool). get_or us p false) (w.sets v) ∙ go (eqb v gone) (eqb v keep)
  where
    go : (s t : Bool) → get_or (cond s (members 0) (cond t (either (members (get_or at keep 0)) (members (get_or at gone 0))) (members (get_or at v 0)))) p false
        ≡ cond s false (cond t (has (get_or at keep 0) p || has (get_or at gone 0) p) (has (get_or at v 0) p))
    go true t = has-none p
    go false true = get_or-zip_with ◌||◌ refl (members (get_or at keep 0)) (members (get_or at gone 0)) (same_length (get_or at keep 0) (get_or at gone 0)) p
    go false false = refl

-- ---- numbers changed at the places of a set

pub length-changed : (f : ℕ → ℕ) (us : List Bool) (xs : List ℕ) → length (changed_at f us xs) ≡ length xs
unfolding changed_at
length-changed f [] xs = refl
length-changed f (u ∷ us) [] = refl
length-changed f (u ∷ us) (x ∷ xs) = ap suc (length-changed f us xs)

pub get_or-changed : (f : ℕ → ℕ) (us : List Bool) (xs : List ℕ) (p : ℕ) → p < length xs → get_or (changed_at f us xs) p 0 ≡ cond (get_or us p false) (f (get_or xs p 0)) (get_or xs p 0)
unfolding changed_at
get_or-changed f [] xs p h = refl
get_or-changed f (u ∷ us) [] p h = absurd (omega arith)
get_or-changed f (u ∷ us) (x ∷ xs) zero h = refl
get_or-changed f (u ∷ us) (x ∷ xs) (suc p) h = get_or-changed f us xs p (omega arith)

-- the lowest place is changed: the others are left
pub changed-here : (f : ℕ → ℕ) (us : List Bool) (xs : List ℕ) (k y : ℕ) → get_or us k false ≡ true → y ≡ f (get_or xs k 0)
    → changed_at f (set us k false) (set xs k y) ≡ changed_at f us xs
unfolding changed_at
changed-here f [] xs k y h e = absurd (true≢false (sym h))
changed-here f (u ∷ us) [] zero y h e = refl
changed-here f (u ∷ us) [] (suc k) y h e = refl
changed-here f (u ∷ us) (x ∷ xs) zero y h e = rw (h, e)
changed-here f (u ∷ us) (x ∷ xs) (suc k) y h e = ap (λ (l : List ℕ). cond u (f x) x ∷ l) (changed-here f us xs k y h e)

pub changed-none : (f : ℕ → ℕ) (us : List Bool) (xs : List ℕ) → how_many us ≡ 0 → changed_at f us xs ≡ xs
unfolding changed_at
changed-none f [] xs h = refl
changed-none f (u ∷ us) [] h = refl
changed-none f (true ∷ us) (x ∷ xs) h = absurd (omega arith)
changed-none f (false ∷ us) (x ∷ xs) h = ap (λ (l : List ℕ). x ∷ l) (changed-none f us xs h)

-- the lowest place k of t is changed, and r is the rest of t
pub changed-lowest : (f : ℕ → ℕ) (t k r : ℕ) (xs : List ℕ) (y : ℕ) → Lowest t k → members r ≡ set (members t) (first_of (members t)) false → y ≡ f (get_or xs k 0)
    → changed_at f (members r) (set xs k y) ≡ changed_at f (members t) xs
changed-lowest f t k r xs y l rest e =
    ap (λ (us : List Bool). changed_at f us (set xs k y)) (rest ∙ ap (λ (i : ℕ). set (members t) i false) (sym l.first))
    ∙ changed-here f (members t) xs k y (lowest-in t k l) e
