-- The link with the largest sum of its ends' link counts, by places.
use Prim.Native.Nat.{ℕ, suc, ◌+◌, max, ◌≤◌, ◌<◌}
use mathlib.Core.Path.{◌≡◌, refl, sym, ap, ap₂, fun_ext, ◌∙◌}
use mathlib.Core.List.{List, [], ◌∷◌, map, Memᴰ}
use mathlib.Core.Bool.{Bool, true, false}
use mathlib.Core.Option
use mathlib.Core.Option.{Option, some, none}
use native.Mathlib.Omega.{arith}
use lib.Dec.{eqb}
use lib.ListN.{length, get_or}
use Rattle.bits.specs.Members.{members}
use Rattle.bits.proofs.Digits.{length_digits}
use Rattle.reliability.specs.declared.Link.{Link}
use Rattle.reliability.specs.Rule.{degree, degree_sum, largest, largest_sum}
use Rattle.reliability.proofs.Searches.{nth}
use Rattle.search.specs.Searches.{pick, places_in, filter, counts_of, count_sum, largest_in}
use Rattle.search.proofs.Sets.{has, has-below, mem-has}
use Rattle.search.proofs.Marks.{indices, places-listed}
use Rattle.search.proofs.Answers.{first, hit}
use Rattle.search.proofs.Largest.{counted, largest-found}
use Rattle.network.specs.declared.Network.{Network}
use Rattle.network.specs.Places.{network_of, links_of, index_of, Used, Invariant, Sized}
use Rattle.network.proofs.Picks.{rows_at, all_rows, row_at, all-even, length-all}
use Rattle.network.proofs.Ends.{ended}
use Rattle.network.proofs.Rules.{first-rule, tally-counted}
use Rattle.steps.proofs.Places.{place-used}

-- ---- the largest of a list

largest-suc : (w : ℕ → ℕ) (ks : List ℕ) → largest w (map suc ks) ≡ largest (λ k. w (suc k)) ks
unfolding largest
largest-suc w [] = refl
largest-suc w (k ∷ ks) = ap (max (w (suc k))) (largest-suc w ks)

-- of the links at the places that are set
largest-pick : (w : Link → ℕ) (us : List Bool) (xs : List Link) → length us ≤ length xs → largest w (pick us xs) ≡ largest (λ k. w (nth xs k)) (indices us)
unfolding largest pick indices
largest-pick w [] xs h = refl
largest-pick w (u ∷ us) [] h = absurd (omega arith)
largest-pick w (true ∷ us) (x ∷ xs) h = ap (max (w x)) (largest-pick w us xs (omega arith) ∙ sym (largest-suc (λ k. w (nth (x ∷ xs) k)) (indices us)))
largest-pick w (false ∷ us) (x ∷ xs) h = largest-pick w us xs (omega arith) ∙ sym (largest-suc (λ k. w (nth (x ∷ xs) k)) (indices us))

largest-same : (v w : ℕ → ℕ) (ks : List ℕ) → ((k : ℕ) → Memᴰ k ks → v k ≡ w k) → largest v ks ≡ largest w ks
unfolding largest
largest-same v w [] h = refl
largest-same v w (k ∷ ks) h = ap₂ max (h k (Memᴰ.head refl)) (largest-same v w ks (λ j m. h j (Memᴰ.tail m)))

filter_same : (p q : ℕ → Bool) (ks : List ℕ) → ((k : ℕ) → Memᴰ k ks → p k ≡ q k) → filter p ks ≡ filter q ks
unfolding filter
filter_same p q [] h = refl
filter_same p q (k ∷ ks) h =
    ap₂ (λ (b : Bool) (l : List ℕ). elim b as (λ c. List ℕ) [ true ↦ k ∷ l | false ↦ l ]) (h k (Memᴰ.head refl)) (filter_same p q ks (λ j m. h j (Memᴰ.tail m)))

-- ---- the chosen link

module _ (n : Network) (sized : Sized n) (holds : Invariant n) where
  abbrev counts : List ℕ
  counts = counts_of n.nodes n.at

  abbrev sum : ℕ → ℕ
  sum = count_sum counts n.a n.b

  abbrev w : Link → ℕ
  w = degree_sum (links_of n)

  -- the count of a node is its number of links
  degree-counted : (v : ℕ) → has n.nodes v ≡ true → degree (links_of n) v ≡ get_or counts v 0
  unfolding degree
  degree-counted v h = sym (counted n.nodes n.at sized.nodes v h ∙ tally-counted n sized holds v (has-below n.nodes 32 v sized.nodes h))

  same_sum : (k : ℕ) → Memᴰ k (places_in n.alive) → w (row_at n k) ≡ sum k
  same_sum k m =
      let e = ended n sized holds.valid k (mem-has n.alive k m) in
      ap₂ ◌+◌ (degree-counted (get_or n.a k 0) e.0) (degree-counted (get_or n.b k 0) e.1)

  top : largest w (links_of n) ≡ largest sum (places_in n.alive)
  top =
      largest-pick w (members n.alive) (all_rows n) (omega (arith, length_digits 64 n.alive, length-all n sized))
      ∙ ap₂ largest (fun_ext (λ k. ap w (rows_at (all-even n sized) k))) (sym (places-listed n.alive))
      ∙ largest-same (λ k. w (row_at n k)) sum (places_in n.alive) same_sum

  abbrev best : ℕ
  best = largest_in sum (places_in n.alive)

  pub largest-right : 0 < length (places_in n.alive) → Used n best × (largest_sum (network_of n) ≡ index_of n best)
  unfolding largest_sum
  largest-right some-place =
      let h = hit (λ k. eqb (sum k) (largest sum (places_in n.alive))) (places_in n.alive) best (largest-found sum (places_in n.alive) some-place) in
      let alike = filter_same (λ k. eqb (w (row_at n k)) (largest w (links_of n))) (λ k. eqb (sum k) (largest sum (places_in n.alive))) (places_in n.alive) (λ k m. ap₂ eqb (same_sum k m) top) in (
        place-used n best (mem-has n.alive best h.member),
        ap (λ (o : Option ℕ). elim o as (λ x. ℕ) [ some i ↦ i | none ↦ 0 ])
            (first-rule n sized (λ e. eqb (w e) (largest w (links_of n))) ∙ ap (λ (l : List ℕ). Option.map (index_of n) (first l)) alike ∙ ap (Option.map (index_of n)) h.first),
      )
