-- The rule's own searches, by places.
use Prim.Native.Nat.{ℕ, zero, suc, ◌≤◌, ◌<◌}
use mathlib.Core.Path.{◌≡◌, refl, sym, ap, ap₂, fun_ext, ◌∙◌}
use mathlib.Core.List.{List, [], ◌∷◌, map, map-map, Memᴰ}
use mathlib.Core.Bool.{Bool, true, false, not, ◌&&◌, ◌||◌, and-false, or-false, and-eq-true_iff}
use mathlib.Core.Option
use mathlib.Core.Option.{Option, some, none}
use native.Mathlib.Omega.{arith}
use lib.Dec.{eqb}
use lib.ListN.{length, get_or, length-map}
use borrow.Author.Tests.{eqb-true, eqb-false, ne_eqb}
use Rattle.bits.specs.Members.{members, how_many}
use Rattle.bits.proofs.Digits.{length_digits}
use Rattle.reliability.specs.declared.Link.{Link}
use Rattle.reliability.specs.declared.Step.{Step}
use Rattle.reliability.specs.declared.Step.TheVariants.{End, Series}
use Rattle.reliability.specs.Rule.{is_loop, touches, alike, first_at, places, first_pair, sucs, end_of, lowest, when, across}
use Rattle.reliability.specs.Terminals.{Terminals, has as listing, between, series_in}
use Rattle.reliability.proofs.Searches.{nth}
use Rattle.network.specs.declared.Network.{Network}
use Rattle.std.specs.Prelude.{Option as Found, None, Some}
use Rattle.search.specs.Searches.{pick, places_in, touching, Incidence, filter, loops, beside, pair_in, with_links, across_at, between_at, in_line}
use Rattle.network.specs.Places.{rank, terminals_of, links_of, nodes_of, chosen_of, index_of, link_of, Sized, Invariant, tally}
use Rattle.search.proofs.Sets.{has, has-place, has-below, mem-has, listed_has, at-node}
use Rattle.network.proofs.Picks.{rows_at, all_rows, row_at, all-even, length-all, link-at}
use Rattle.search.proofs.Marks.{indices, places-listed, length-places, filter-suc, filter-indices, same_test}
use Rattle.search.proofs.Answers.{first, filter_none}

-- ---- lists of links

first-map : (f : ℕ → ℕ) (ks : List ℕ) → first (map f ks) ≡ Option.map f (first ks)
first-map f [] = refl
first-map f (k ∷ ks) = refl

first-place : (p : Link → Bool) (es : List Link) → first_at p es ≡ first (places p es)
unfolding first_at places
first-place p [] = refl
first-place p (e ∷ es) = go (p e) (first-place p es)
  where
    go : (b : Bool) → first_at p es ≡ first (places p es)
        → elim b as (λ c. Option ℕ) [ true ↦ some zero | false ↦ Option.map suc (first_at p es) ] ≡ first (elim b [ true ↦ zero ∷ map suc (places p es) | false ↦ map suc (places p es) ])
    go true h = refl
    go false h = ap (Option.map suc) h ∙ sym (first-map suc (places p es))

shifted : (f g : ℕ → ℕ) (p : ℕ → Bool) (ks : List ℕ) → ((k : ℕ) → f (suc k) ≡ g k) → map f (filter p (map suc ks)) ≡ map g (filter (λ k. p (suc k)) ks)
shifted f g p ks h =
    ap (map f) (filter-suc p ks) ∙ map-map f suc (filter (λ k. p (suc k)) ks) ∙ ap (λ (r : ℕ → ℕ). map r (filter (λ k. p (suc k)) ks)) (fun_ext h)

-- the places of links that pass a test, among all and by place
pub places-pick : (p : Link → Bool) (us : List Bool) (xs : List Link) → length us ≤ length xs
    → places p (pick us xs) ≡ map (λ k. rank k us) (filter (λ k. p (nth xs k)) (indices us))
unfolding places pick filter indices rank
places-pick p [] xs h = refl
places-pick p (u ∷ us) [] h = absurd (omega arith)
places-pick p (false ∷ us) (x ∷ xs) h =
    places-pick p us xs (omega arith) ∙ sym (shifted (λ k. rank k (false ∷ us)) (λ k. rank k us) (λ k. p (nth (x ∷ xs) k)) (indices us) (λ k. refl))
places-pick p (true ∷ us) (x ∷ xs) h =
    go (p x)
    (ap (map suc) (places-pick p us xs (omega arith)) ∙ map-map suc (λ k. rank k us) (filter (λ k. p (nth xs k)) (indices us))
    ∙ sym (shifted (λ k. rank k (true ∷ us)) (λ k. suc (rank k us)) (λ k. p (nth (x ∷ xs) k)) (indices us) (λ k. refl)))
  where
    go : (b : Bool) → map suc (places p (pick us xs)) ≡ map (λ k. rank k (true ∷ us)) (filter (λ k. p (nth (x ∷ xs) k)) (map suc (indices us)))
        → elim b as (λ c. List ℕ) [ true ↦ zero ∷ map suc (places p (pick us xs)) | false ↦ map suc (places p (pick us xs)) ]
        ≡ map (λ k. rank k (true ∷ us)) (elim b [ true ↦ zero ∷ filter (λ k. p (nth (x ∷ xs) k)) (map suc (indices us)) | false ↦ filter (λ k. p (nth (x ∷ xs) k)) (map suc (indices us)) ])
    go true r = ap (λ (l : List ℕ). zero ∷ l) r
    go false r = r

-- ---- pairs

abbrev next : Found (ℕ × ℕ) → Found (ℕ × ℕ)
next (Some (i, j)) = Some (suc i, suc j)
next None = None

-- a pair of places, among all
abbrev pub paired : List Bool → Found (ℕ × ℕ) → Option (ℕ × ℕ)
paired us (Some (i, j)) = some (rank i us, rank j us)
paired us None = none

pair-suc : (t : ℕ → ℕ → Bool) (ks : List ℕ) → pair_in t (map suc ks) ≡ next (pair_in (λ i j. t (suc i) (suc j)) ks)
unfolding pair_in
pair-suc t [] = refl
pair-suc t (k ∷ ks) =
    ap (λ (l : List ℕ). elim l as (λ m. Found (ℕ × ℕ)) [ [] ↦ pair_in t (map suc ks) | j ∷ js ↦ Some (suc k, j) ]) (filter-suc (t (suc k)) ks) ∙ go (filter (λ j. t (suc k) (suc j)) ks) (pair-suc t ks)
  where
    go : (l : List ℕ) → pair_in t (map suc ks) ≡ next (pair_in (λ i j. t (suc i) (suc j)) ks)
        → elim (map suc l) as (λ m. Found (ℕ × ℕ)) [ [] ↦ pair_in t (map suc ks) | j ∷ js ↦ Some (suc k, j) ] ≡ next (elim l as (λ m. Found (ℕ × ℕ)) [ [] ↦ pair_in (λ i j. t (suc i) (suc j)) ks | j ∷ js ↦ Some (k, j) ])
    go [] h = h
    go (j ∷ js) h = refl

paired-true : (us : List Bool) (q : Found (ℕ × ℕ)) → Option.map sucs (paired us q) ≡ paired (true ∷ us) (next q)
unfolding rank
paired-true us (Some (i, j)) = refl
paired-true us None = refl

paired-false : (us : List Bool) (q : Found (ℕ × ℕ)) → paired us q ≡ paired (false ∷ us) (next q)
unfolding rank
paired-false us (Some (i, j)) = refl
paired-false us None = refl

pub pair-pick : (us : List Bool) (xs : List Link) → length us ≤ length xs → first_pair (pick us xs) ≡ paired us (pair_in (λ i j. alike (nth xs i) (nth xs j)) (indices us))
unfolding pick first_pair pair_in indices rank
pair-pick [] xs h = refl
pair-pick (u ∷ us) [] h = absurd (omega arith)
pair-pick (false ∷ us) (x ∷ xs) h =
    pair-pick us xs (omega arith) ∙ paired-false us (pair_in (λ i j. alike (nth xs i) (nth xs j)) (indices us))
    ∙ ap (paired (false ∷ us)) (sym (pair-suc (λ i j. alike (nth (x ∷ xs) i) (nth (x ∷ xs) j)) (indices us)))
pair-pick (true ∷ us) (x ∷ xs) h =
    let l = filter (λ k. alike x (nth xs k)) (indices us) in
    ap (λ (o : Option ℕ). elim o as (λ m. Option (ℕ × ℕ)) [ some j ↦ some (zero, suc j) | none ↦ Option.map sucs (first_pair (pick us xs)) ])
    (first-place (alike x) (pick us xs) ∙ ap first (places-pick (alike x) us xs (omega arith)))
    ∙ go l (ap (Option.map sucs) (pair-pick us xs (omega arith)) ∙ paired-true us (pair_in (λ i j. alike (nth xs i) (nth xs j)) (indices us))
    ∙ ap (paired (true ∷ us)) (sym (pair-suc (λ i j. alike (nth (x ∷ xs) i) (nth (x ∷ xs) j)) (indices us))))
    ∙ ap (λ (m : List ℕ). paired (true ∷ us) (elim m as (λ m. Found (ℕ × ℕ)) [ [] ↦ pair_in (λ i j. alike (nth (x ∷ xs) i) (nth (x ∷ xs) j)) (map suc (indices us)) | j ∷ js ↦ Some (zero, j) ])) (sym (filter-suc (λ j. alike x (nth (x ∷ xs) j)) (indices us)))
  where
    go : (l : List ℕ) → Option.map sucs (first_pair (pick us xs)) ≡ paired (true ∷ us) (pair_in (λ i j. alike (nth (x ∷ xs) i) (nth (x ∷ xs) j)) (map suc (indices us)))
        → elim (first (map (λ k. rank k us) l)) as (λ m. Option (ℕ × ℕ)) [ some j ↦ some (zero, suc j) | none ↦ Option.map sucs (first_pair (pick us xs)) ]
        ≡ paired (true ∷ us) (elim (map suc l) as (λ m. Found (ℕ × ℕ)) [ [] ↦ pair_in (λ i j. alike (nth (x ∷ xs) i) (nth (x ∷ xs) j)) (map suc (indices us)) | j ∷ js ↦ Some (zero, j) ])
    go [] r = r
    go (j ∷ js) r = refl

-- where no link is a loop, two are alike if one is at both ends of the other
pair_same : (s t : ℕ → ℕ → Bool) (ks : List ℕ) → ((i : ℕ) → Memᴰ i ks → (j : ℕ) → s i j ≡ t i j) → pair_in s ks ≡ pair_in t ks
unfolding pair_in
pair_same s t [] h = refl
pair_same s t (k ∷ ks) h =
    ap₂ (λ (p : ℕ → Bool) (q : Found (ℕ × ℕ)). elim (filter p ks) as (λ m. Found (ℕ × ℕ)) [ [] ↦ q | j ∷ js ↦ Some (k, j) ]) (fun_ext (h k (Memᴰ.head refl))) (pair_same s t ks (λ i m. h i (Memᴰ.tail m)))

crossed : (p q r s : Bool) → (p ≡ true → r ≡ true → ⊥) → (q ≡ true → s ≡ true → ⊥) → ((p && s) || (q && r)) ≡ ((p || q) && (r || s))
crossed true q true s f g = absurd (f refl refl)
crossed true q false s f g = rw (and-false q) (or-false s)
crossed false true r true f g = absurd (g refl refl)
crossed false true r false f g = sym (or-false r)
crossed false false r s f g = refl

alike-ends : (x y a b : ℕ) → (x ≡ y → ⊥) → ((eqb x a && eqb y b) || (eqb x b && eqb y a)) ≡ (touching x a b && touching y a b)
alike-ends x y a b n =
    let turned : (u v : ℕ) → eqb u v ≡ eqb v u = λ u v. same_test u v v u sym sym in
    rw (turned x a, turned y b, turned x b, turned y a)
    (crossed (eqb a x) (eqb b x) (eqb a y) (eqb b y) (λ e f. n (sym (eqb-true a x e) ∙ eqb-true a y f)) (λ e f. n (sym (eqb-true b x e) ∙ eqb-true b y f)))

-- ---- nodes with one link, and with two

end_list : (v : ℕ) (is : List ℕ) → end_of v is ≡ when (eqb (length is) 1) (End v (get_or is 0 0))
end_list v [] = refl
end_list v (i ∷ []) = refl
end_list v (i ∷ (j ∷ r)) = ap (λ (b : Bool). when b (End v i)) (sym (ne_eqb (suc (suc (length r))) 1 (λ e. omega arith)))

series-list : (g : Terminals) (v : ℕ) (is : List ℕ) → series_in g v is ≡ when (eqb (length is) 2 && between g v (get_or is 0 0) (get_or is 1 0)) (Series v (get_or is 0 0) (get_or is 1 0))
series-list g v [] = refl
series-list g v (i ∷ []) = refl
series-list g v (i ∷ (j ∷ [])) = refl
series-list g v (i ∷ (j ∷ (k ∷ r))) =
    ap (λ (b : Bool). when (b && between g v i j) (Series v i j)) (sym (ne_eqb (suc (suc (suc (length r)))) 2 (λ e. omega arith)))

lowest-where : (rule : ℕ → List ℕ → Option Step) (es : List Link) (p : ℕ → Bool) (g : ℕ → Step) (vs : List ℕ)
    → ((v : ℕ) → Memᴰ v vs → rule v (places (touches v) es) ≡ when (p v) (g v)) → lowest rule es vs ≡ Option.map g (first (filter p vs))
unfolding lowest filter
lowest-where rule es p g [] h = refl
lowest-where rule es p g (v ∷ vs) h =
    ap (λ (o : Option Step). elim o as (λ m. Option Step) [ some s ↦ some s | none ↦ lowest rule es vs ]) (h v (Memᴰ.head refl))
    ∙ go (p v) (lowest-where rule es p g vs (λ u m. h u (Memᴰ.tail m)))
  where
    go : (b : Bool) → lowest rule es vs ≡ Option.map g (first (filter p vs))
        → elim (when b (g v)) as (λ m. Option Step) [ some s ↦ some s | none ↦ lowest rule es vs ] ≡ Option.map g (first (elim b as (λ c. List ℕ) [ true ↦ v ∷ filter p vs | false ↦ filter p vs ]))
    go true r = refl
    go false r = r

-- ---- the links of a network

module _ (n : Network) (sized : Sized n) where
  among : (p : Link → Bool) → places p (links_of n) ≡ map (index_of n) (filter (λ k. p (row_at n k)) (places_in n.alive))
  among p =
      places-pick p (members n.alive) (all_rows n) (omega (arith, length_digits 64 n.alive, length-all n sized))
      ∙ ap₂ (λ (t : ℕ → Bool) (ks : List ℕ). map (index_of n) (filter t ks)) (fun_ext (λ k. ap p (rows_at (all-even n sized) k))) (sym (places-listed n.alive))

  -- the first link that passes a test
  pub first-rule : (p : Link → Bool) → first_at p (links_of n) ≡ Option.map (index_of n) (first (filter (λ k. p (row_at n k)) (places_in n.alive)))
  first-rule p = first-place p (links_of n) ∙ ap first (among p) ∙ first-map (index_of n) (filter (λ k. p (row_at n k)) (places_in n.alive))

  pub loop_rule : first_at is_loop (links_of n) ≡ Option.map (index_of n) (first (loops n.alive n.a n.b))
  loop_rule = first-rule is_loop

  pub pair-rule : loops n.alive n.a n.b ≡ [] → first_pair (links_of n) ≡ paired (members n.alive) (pair_in (beside n.a n.b) (places_in n.alive))
  pair-rule no_loop =
      pair-pick (members n.alive) (all_rows n) (omega (arith, length_digits 64 n.alive, length-all n sized))
      ∙ ap₂ (λ (t : ℕ → ℕ → Bool) (ks : List ℕ). paired (members n.alive) (pair_in t ks)) (fun_ext (λ i. fun_ext (λ j. ap₂ alike (rows_at (all-even n sized) i) (rows_at (all-even n sized) j)))) (sym (places-listed n.alive))
      ∙ ap (paired (members n.alive))
      (pair_same (λ i j. alike (row_at n i) (row_at n j)) (beside n.a n.b) (places_in n.alive)
      (λ i m j. alike-ends (get_or n.a i 0) (get_or n.b i 0) (get_or n.a j 0) (get_or n.b j 0)
      (eqb-false (get_or n.a i 0) (get_or n.b i 0) (filter_none (λ k. eqb (get_or n.a k 0) (get_or n.b k 0)) (places_in n.alive) no_loop i m))))

  module _ (at : List ℕ) (incidence : Incidence at n.alive n.a n.b) where
    node-places : (v : ℕ) → v < 32 → places (touches v) (links_of n) ≡ map (index_of n) (places_in (get_or at v 0))
    node-places v h =
        among (touches v)
        ∙ ap (map (index_of n))
        (ap (filter (λ k. touching v (get_or n.a k 0) (get_or n.b k 0))) (places-listed n.alive)
        ∙ filter-indices (λ k. touching v (get_or n.a k 0) (get_or n.b k 0)) (members n.alive) (members (get_or at v 0)) (length_digits 64 (get_or at v 0) ∙ sym (length_digits 64 n.alive))
        (at-node at n.a n.b n.alive incidence v h)
        ∙ sym (places-listed (get_or at v 0)))

    node-below : (v : ℕ) → Memᴰ v (nodes_of n) → v < 32
    node-below v m = has-below n.nodes 32 v sized.nodes (mem-has n.nodes v m)

    -- as many as it has places
    count : (s : ℕ) → length (map (index_of n) (places_in s)) ≡ how_many (members s)
    count s = length-map (places_in s) (index_of n) ∙ length-places s

    pub end-rule : lowest end_of (links_of n) (nodes_of n) ≡ Option.map (λ v. End v (get_or (map (index_of n) (places_in (get_or at v 0))) 0 0)) (first (with_links 1 at n.nodes))
    end-rule =
        lowest-where end_of (links_of n) (λ v. eqb (how_many (members (get_or at v 0))) 1) (λ v. End v (get_or (map (index_of n) (places_in (get_or at v 0))) 0 0)) (nodes_of n)
        (λ v m. let s = get_or at v 0 in
        ap (end_of v) (node-places v (node-below v m))
        ∙ end_list v (map (index_of n) (places_in s))
        ∙ ap (λ (l : ℕ). when (eqb l 1) (End v (get_or (map (index_of n) (places_in s)) 0 0))) (count s))

    -- a link at a node, by its place
    link-there : (v k : ℕ) → v < 32 → Memᴰ k (places_in (get_or at v 0)) → link_of n k ≡ row_at n k
    link-there v k h m =
        let used = ((and-eq-true_iff (has n.alive k) (touching v (get_or n.a k 0) (get_or n.b k 0))).0 (sym (at-node at n.a n.b n.alive incidence v h k) ∙ mem-has (get_or at v 0) k m)).0 in
        link-at n sized k (record { below = has-place n.alive k used; used = used })

    -- whether a node's two links can become one, by places
    between-there : (v : ℕ) → v < 32 → let s = get_or at v 0 in let is = map (index_of n) (places_in s) in
        (eqb (how_many (members s)) 2 && between (terminals_of n) v (get_or is 0 0) (get_or is 1 0)) ≡ (eqb (how_many (members s)) 2 && between_at n.chosen n.a n.b v s)
    between-there v h = go (places_in s) (λ k m. link-there v k h m) (sym (length-places s))
      where
        s : ℕ
        s = get_or at v 0

        by-list : ℕ → List ℕ → Bool
        by-list c ks = eqb c 2 && (not (has n.chosen v) || (has n.chosen (across_at n.a n.b v (get_or ks 0 0)) && has n.chosen (across_at n.a n.b v (get_or ks 1 0))))

        two : (i j : ℕ) → link_of n i ≡ row_at n i → link_of n j ≡ row_at n j
            → between (terminals_of n) v (index_of n i) (index_of n j) ≡ (not (has n.chosen v) || (has n.chosen (across_at n.a n.b v i) && has n.chosen (across_at n.a n.b v j)))
        two i j p q =
            ap₂ (λ (x : Bool) (y : Bool). not x || y) (listed_has n.chosen v)
            (ap₂ ◌&&◌ (ap (λ (e : Link). listing (across v e) (chosen_of n)) p ∙ listed_has n.chosen _) (ap (λ (e : Link). listing (across v e) (chosen_of n)) q ∙ listed_has n.chosen _))

        go : (ks : List ℕ) → ((k : ℕ) → Memᴰ k ks → link_of n k ≡ row_at n k) → {c : ℕ} → c ≡ length ks
            → (eqb c 2 && between (terminals_of n) v (get_or (map (index_of n) ks) 0 0) (get_or (map (index_of n) ks) 1 0)) ≡ by-list c ks
        go [] known e = rw (e, by-list)
        go (i ∷ []) known e = rw (e, by-list)
        go (i ∷ (j ∷ [])) known {c} e = ap (λ (b : Bool). eqb c 2 && b) (two i j (known i (Memᴰ.head refl)) (known j (Memᴰ.tail (Memᴰ.head refl))))
        go (i ∷ (j ∷ (k ∷ ks))) known {c} e = rw (ne_eqb c 2 (λ z. omega arith), by-list)

    pub series-rule : lowest (series_in (terminals_of n)) (links_of n) (nodes_of n)
        ≡ Option.map (λ v. let is = map (index_of n) (places_in (get_or at v 0)) in Series v (get_or is 0 0) (get_or is 1 0)) (first (in_line n.chosen at n.a n.b n.nodes))
    series-rule =
        lowest-where (series_in (terminals_of n)) (links_of n) (λ v. eqb (how_many (members (get_or at v 0))) 2 && between_at n.chosen n.a n.b v (get_or at v 0))
        (λ v. let is = map (index_of n) (places_in (get_or at v 0)) in Series v (get_or is 0 0) (get_or is 1 0)) (nodes_of n)
        (λ v m. let s = get_or at v 0 in
        let is = map (index_of n) (places_in s) in
        ap (series_in (terminals_of n) v) (node-places v (node-below v m))
        ∙ series-list (terminals_of n) v is
        ∙ ap (λ (l : ℕ). when (eqb l 2 && between (terminals_of n) v (get_or is 0 0) (get_or is 1 0)) (Series v (get_or is 0 0) (get_or is 1 0))) (count s)
        ∙ ap (λ (b : Bool). when b (Series v (get_or is 0 0) (get_or is 1 0))) (between-there v (node-below v m)))

-- a node's tally is the number of links at it, counted anew
pub tally-counted : (n : Network) → Sized n → Invariant n → (v : ℕ) → v < 32 → tally n v ≡ length (places (touches v) (links_of n))
tally-counted n sized holds v below =
    let s = get_or n.at v 0 in
    sym (ap length (node-places n sized n.at holds.tallies v below) ∙ length-map (places_in s) (index_of n) ∙ length-places s)
