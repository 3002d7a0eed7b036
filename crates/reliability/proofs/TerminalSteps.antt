-- The rule for chosen nodes: what is known where a step fits, and what it leaves.
use Prim.Native.Nat.{ℕ, suc, ◌≤◌, ◌<◌, zero-le}
use mathlib.Core.Path.{◌≡◌, refl, sym, ap, ◌∙◌, subst}
use mathlib.Core.List.Memᴰ
use mathlib.Core.List.{List, [], ◌∷◌, map, Memᴰ}
use mathlib.Core.Bool.{Bool, true, false, not, ◌&&◌, ◌||◌, true≢false, and-eq-true_iff}
use mathlib.Core.Logic.{◌⊎◌, inl, inr, ⊎_elim}
use mathlib.Core.Option
use mathlib.Core.Option.{Option, some, none}
use native.Mathlib.Nat.{le_refl}
use native.Mathlib.Omega.{arith}
use lib.Dec.{leb}
use lib.ListN.{length}
use borrow.Author.Tests.{eqb-true, leb-true, leb-false}
use Rattle.rounding.specs.Rounding.{S, series}
use Rattle.rounding.specs.declared.Direction.{Direction}
use Rattle.rounding.specs.declared.Direction.TheVariants.{Up}
use Rattle.rounding.proofs.Operations.{product-range, product-order, series-range, series-order, factor-range}
use Rattle.reliability.specs.declared.Link.{Link}
use Rattle.reliability.specs.declared.Step.{Step}
use Rattle.reliability.specs.declared.Step.TheVariants.{OneNode, Disconnected, Loop, Parallel, End, Series, Split}
use Rattle.reliability.specs.Networks.{Network, Ascending, Proper, ends, link_at, connected}
use Rattle.reliability.specs.Rule.{is_loop, touches, first_at, first_pair, places, lowest, end_of, when, ◌otherwise◌, without, deleted, removed, joined, across, settled}
use Rattle.reliability.specs.Terminals.{Terminals, among, Chosen, has, into, astray, between, series_in, next_at, split_at, next, in_line, end_left, series_left, sound_left, factored, leaves, step_at}
use Rattle.reliability.proofs.Lists.{mem-without, without-mem}
use Rattle.reliability.proofs.Searches.{Answers, Holds, Fails, first-at, Placed, Pair, Distinct, first-pair, lowest-of}
use Rattle.reliability.proofs.States.{onto-kept}
use Rattle.reliability.proofs.Validity.{ascending-without, proper-at, across-node, smaller-node, parallel-proper}
use Rattle.reliability.proofs.Lawful.{Leaves, Uniform, View, Place, Sized, Choice}
use Rattle.reliability.proofs.Steps.{AtLoop, AtPair, AtEnd, AtSeries, AtSplit, at_pair, at-end, at-series, at_split, chosen-link, UniformStep, uniform-otherwise}
use Rattle.reliability.proofs.Remainders.{SizedNetwork, deleted-sized, joined-sized, end-sized, across-sized, contracted-sized}
use Rattle.reliability.proofs.Chosen.{has-mem, into-onto, into-ascending}

abbrev pub view : View Terminals
view = record { links = λ g. g.network.links; nodes = λ g. g.network.nodes; terminals = λ g. g.chosen }

-- ---- which step fits

-- link i lies in a piece without any chosen node
pub record AtAstray (g : Terminals) (i : ℕ) : Type 0 where
  pub place : i < length g.network.links
  pub whole : connected g.chosen (map ends g.network.links) ≡ true
  pub apart : connected ((link_at g.network i).a ∷ g.chosen) (map ends g.network.links) ≡ false

pub record AtSeriesIn (g : Terminals) (v i j : ℕ) : Type 0 where
  pub two : AtSeries g.network v i j
  pub neighbours : has v g.chosen ≡ true → Memᴰ (across v (link_at g.network i)) g.chosen × Memᴰ (across v (link_at g.network j)) g.chosen

abbrev pub Fits : Terminals → Step → Type 0
Fits g OneNode = length g.chosen ≤ 1
Fits g Disconnected = connected g.chosen (map ends g.network.links) ≡ false
Fits g (Loop i) = AtLoop g.network i ⊎ AtAstray g i
Fits g (Parallel i j) = AtPair g.network i j
Fits g (End v i) = AtEnd g.network v i × (1 < length g.chosen)
Fits g (Series v i j) = AtSeriesIn g v i j
Fits g (Split i) = AtSplit g.network i × (1 < length g.chosen)

abbrev FitsIf : Terminals → Option Step → Type 0
FitsIf g o = Answers (Fits g) (Unit {0}) o

module _ (g : Terminals) (valid : Chosen g) (no_loop : Fails is_loop g.network.links) where
  end-in : 1 < length g.chosen → (v : ℕ) → Memᴰ v g.network.nodes → (is : List ℕ) → Placed (touches v) g.network.links is → FitsIf g (end_of v is)
  end-in two v n [] h = tt
  end-in two v n (i ∷ []) h = (at-end g.network no_loop v i n h, two)
  end-in two v n (i ∷ (j ∷ r)) h = tt

  series-in : (v : ℕ) → Memᴰ v g.network.nodes → (is : List ℕ) → Placed (touches v) g.network.links is → FitsIf g (series_in g v is)
  series-in v n [] h = tt
  series-in v n (i ∷ []) h = tt
  series-in v n (i ∷ (j ∷ [])) h = go (between g v i j) refl
    where
      x : ℕ
      x = across v (link_at g.network i)

      y : ℕ
      y = across v (link_at g.network j)

      both : (c : Bool) → not c || (has x g.chosen && has y g.chosen) ≡ true → c ≡ true → Memᴰ x g.chosen × Memᴰ y g.chosen
      both true b e = let k = (and-eq-true_iff (has x g.chosen) (has y g.chosen)).0 b in (has-mem x g.chosen k.0, has-mem y g.chosen k.1)
      both false b e = absurd (true≢false (sym e))

      go : (b : Bool) → between g v i j ≡ b → FitsIf g (when b (Series v i j))
      go true b = record { two = at-series g.network no_loop v i j n h; neighbours = both (has v g.chosen) b }
      go false b = tt
  series-in v n (i ∷ (j ∷ (k ∷ r))) h = tt

pub not-true : (b : Bool) → not b ≡ true → b ≡ false
not-true true h = absurd (true≢false (sym h))
not-true false h = refl

-- the first of steps 1 to 7 that fits, by the answers of the tests
abbrev pub in_turn : (loop : Option ℕ) (one whole : Bool) (stray : Option ℕ) (pair : Option (ℕ × ℕ)) (end series : Option Step) → ℕ → Step
in_turn loop one whole stray pair end series i =
    Option.map Loop loop otherwise when one OneNode otherwise when (not whole) Disconnected otherwise Option.map Loop stray
    otherwise Option.map (λ ij. Parallel ij.0 ij.1) pair otherwise end otherwise series otherwise Split i

-- it fits, by the answer of each test
fits_by : (g : Terminals) → Chosen g → (i : ℕ) → Place view g i
    → (loop : Option ℕ) → Answers (Holds is_loop g.network.links) (Fails is_loop g.network.links) loop
    → (one : Bool) → leb (length g.chosen) 1 ≡ one
    → (whole : Bool) → connected g.chosen (map ends g.network.links) ≡ whole
    → (stray : Option ℕ) → Answers (Holds (astray g) g.network.links) (Fails (astray g) g.network.links) stray
    → (pair : Option (ℕ × ℕ)) → Answers (Pair g.network.links) (Distinct g.network.links) pair
    → (end : Option Step) → (Fails is_loop g.network.links → 1 < length g.chosen → FitsIf g end)
    → (series : Option Step) → (Fails is_loop g.network.links → FitsIf g series)
    → Fits g (in_turn loop one whole stray pair end series i)
fits_by g valid k at (some i) l one o whole w stray a pair p end e series s =
    inl (record { place = l.place; same = eqb-true (link_at g.network i).a (link_at g.network i).b l.test })
fits_by g valid k at none l true o whole w stray a pair p end e series s = leb-true (length g.chosen) 1 o
fits_by g valid k at none l false o false w stray a pair p end e series s = w
fits_by g valid k at none l false o true w (some i) a pair p end e series s = inr (record { place = a.place; whole = w; apart = not-true _ a.test })
fits_by g valid k at none l false o true w none a (some ij) p end e series s = at_pair g.network ij p
fits_by g valid k at none l false o true w none a none p (some t) e series s = e l (leb-false (length g.chosen) 1 o)
fits_by g valid k at none l false o true w none a none p none e (some t) s = s l
fits_by g valid k at none l false o true w none a none p none e none s =
    let two = leb-false (length g.chosen) 1 o in
    (at_split g.network l g.chosen valid.ascending two w k at, two)

pub fits-at : (g : Terminals) → Chosen g → (k : ℕ) → Place view g k → Fits g (next_at k g)
unfolding next_at
fits-at g valid k at =
    let es = g.network.links in
    let vs = g.network.nodes in
    let cs = g.chosen in
    fits_by g valid k at (first_at is_loop es) (first-at is_loop es) (leb (length cs) 1) refl (connected cs (map ends es)) refl (first_at (astray g) es) (first-at (astray g) es)
    (first_pair es) (first-pair es)
    (lowest end_of es vs) (λ l two. lowest-of (Fits g) end_of es vs (end-in g valid l two))
    (lowest (series_in g) es vs) (λ l. lowest-of (Fits g) (series_in g) es vs (series-in g valid l))

-- the step of the rule, by the answer of each test
pub next-by : (i : ℕ) (g : Terminals) → (loop : Option ℕ) → first_at is_loop g.network.links ≡ loop
    → (one : Bool) → leb (length g.chosen) 1 ≡ one
    → (whole : Bool) → connected g.chosen (map ends g.network.links) ≡ whole
    → (stray : Option ℕ) → first_at (astray g) g.network.links ≡ stray
    → (pair : Option (ℕ × ℕ)) → first_pair g.network.links ≡ pair
    → (end : Option Step) → lowest end_of g.network.links g.network.nodes ≡ end
    → (series : Option Step) → lowest (series_in g) g.network.links g.network.nodes ≡ series
    → next_at i g ≡ in_turn loop one whole stray pair end series i
unfolding next_at
next-by i g loop l one o whole w stray a pair p end e series s = rw (← l, ← o, ← w, ← a, ← p, ← e, ← s)

-- ---- the place of a split

-- the link that the rule splits on is there
pub split-choice : Choice view split_at
split-choice g = chosen-link g.network

pub fits : (g : Terminals) → Chosen g → Fits g (next g)
fits g valid = fits-at g valid (split_at g) (split-choice g)

-- the place of a split, or c
abbrev place_of : ℕ → Step → ℕ
place_of c OneNode = c
place_of c Disconnected = c
place_of c (Loop i) = c
place_of c (Parallel i j) = c
place_of c (End v i) = c
place_of c (Series v i j) = c
place_of c (Split i) = i

-- no other step is a split
abbrev Other : ℕ → Option Step → Type 0
Other c o = Answers (λ (s : Step). place_of c s ≡ c) (Unit {0}) o

other-first : (c : ℕ) (o : Option Step) (s : Step) → Other c o → place_of c s ≡ c → place_of c (o otherwise s) ≡ c
other-first c (some t) s h k = h
other-first c none s h k = k

other-map : (c : ℕ) {A : Type 0} (f : A → Step) → ((a : A) → place_of c (f a) ≡ c) → (o : Option A) → Other c (Option.map f o)
other-map c f h (some a) = h a
other-map c f h none = tt

other-when : (c : ℕ) (b : Bool) (s : Step) → place_of c s ≡ c → Other c (when b s)
other-when c true s h = h
other-when c false s h = tt

other-lowest : (c : ℕ) (rule : ℕ → List ℕ → Option Step) → ((v : ℕ) (is : List ℕ) → Other c (rule v is)) → (es : List Link) (vs : List ℕ) → Other c (lowest rule es vs)
unfolding lowest
other-lowest c rule h es [] = tt
other-lowest c rule h es (v ∷ vs) = go (rule v (places (touches v) es)) (h v (places (touches v) es)) (other-lowest c rule h es vs)
  where
    go : (o : Option Step) → Other c o → Other c (lowest rule es vs) → Other c (elim o [ some s ↦ some s | none ↦ lowest rule es vs ])
    go (some s) k l = k
    go none k l = l

end-other : (c v : ℕ) (is : List ℕ) → Other c (end_of v is)
end-other c v [] = tt
end-other c v (i ∷ []) = refl
end-other c v (i ∷ (j ∷ r)) = tt

series-other : (g : Terminals) (c v : ℕ) (is : List ℕ) → Other c (series_in g v is)
series-other g c v [] = tt
series-other g c v (i ∷ []) = tt
series-other g c v (i ∷ (j ∷ [])) = other-when c (between g v i j) (Series v i j) refl
series-other g c v (i ∷ (j ∷ (k ∷ r))) = tt

-- step 7 splits at the given place
pub split-there : (i : ℕ) (g : Terminals) (j : ℕ) → next_at i g ≡ Split j → j ≡ i
unfolding next_at
split-there i g j e =
    let es = g.network.links in
    let vs = g.network.nodes in
    sym (ap (place_of i) e)
    ∙ other-first i (Option.map Loop (first_at is_loop es)) _ (other-map i Loop (λ k. refl) (first_at is_loop es))
    (other-first i (when (leb (length g.chosen) 1) OneNode) _ (other-when i (leb (length g.chosen) 1) OneNode refl)
    (other-first i (when (not (connected g.chosen (map ends es))) Disconnected) _ (other-when i (not (connected g.chosen (map ends es))) Disconnected refl)
    (other-first i (Option.map Loop (first_at (astray g) es)) _ (other-map i Loop (λ k. refl) (first_at (astray g) es))
    (other-first i (Option.map (λ ij. Parallel ij.0 ij.1) (first_pair es)) _ (other-map i (λ (ij : ℕ × ℕ). Parallel ij.0 ij.1) (λ ij. refl) (first_pair es))
    (other-first i (lowest end_of es vs) _ (other-lowest i end_of (end-other i) es vs)
    (other-first i (lowest (series_in g) es vs) (Split i) (other-lowest i (series_in g) (series-other g i) es vs) refl))))))

uniform-next : (g : Terminals) → UniformStep (λ i. next_at i g)
unfolding next_at
uniform-next g =
    let es = g.network.links in
    let vs = g.network.nodes in
    uniform-otherwise (Option.map Loop (first_at is_loop es)) _
    (uniform-otherwise (when (leb (length g.chosen) 1) OneNode) _
    (uniform-otherwise (when (not (connected g.chosen (map ends es))) Disconnected) _
    (uniform-otherwise (Option.map Loop (first_at (astray g) es)) _
    (uniform-otherwise (Option.map (λ ij. Parallel ij.0 ij.1) (first_pair es)) _
    (uniform-otherwise (lowest end_of es vs) _ (uniform-otherwise (lowest (series_in g) es vs) _ (inr (λ i. refl))))))))

pub uniform : (g : Terminals) → Uniform (λ i. step_at i g)
unfolding leaves
uniform g = go (uniform-next g)
  where
    go : UniformStep (λ i. next_at i g) → Uniform (λ i. step_at i g)
    go (inl u) = inl (leaves g u.0, λ i. ap (leaves g) (u.1 i))
    go (inr u) = inr (λ i. (link_at g.network i, _, _, ap (leaves g) (u i)))

-- where step 7 fits, it fits at every place
pub split-anywhere : (g : Terminals) (i j : ℕ) → next_at i g ≡ Split j → (k : ℕ) → next_at k g ≡ Split k
split-anywhere g i j e k = go (uniform-next g)
  where
    go : UniformStep (λ n. next_at n g) → next_at k g ≡ Split k
    go (inr u) = u k
    go (inl u) =
        let here : (n : ℕ) → next_at n g ≡ Split j = λ n. u.1 n ∙ sym (u.1 i) ∙ e in
        absurd (omega (arith, split-there 0 g j (here 0), split-there 1 g j (here 1)))

-- ---- what a step leaves

-- a valid network of m links with its chosen nodes
abbrev pub SizedTerminals : ℕ → Terminals → Type 0
SizedTerminals = Sized Chosen view

module _ (m : ℕ) (g : Terminals) (h : SizedTerminals (suc m) g) where
  abbrev n : Network
  n = g.network

  abbrev cs : List ℕ
  cs = g.chosen

  abbrev plain : SizedNetwork (suc m) n
  plain = record { valid = h.valid.valid; size = h.size }

  with-chosen : (k : Network) → SizedNetwork m k → (ds : List ℕ) → Ascending ds → ((v : ℕ) → Memᴰ v ds → Memᴰ v k.nodes) → SizedTerminals m (among ds k)
  with-chosen k s ds a sub = record { valid = record { valid = s.valid; ascending = a; nodes = sub }; size = s.size }

  -- the same nodes, the same chosen
  kept : (k : Network) → SizedNetwork m k → n.nodes ≡ k.nodes → SizedTerminals m (among cs k)
  kept k s e = with-chosen k s cs h.valid.ascending (λ v c. subst (Memᴰ v) e (h.valid.nodes v c))

  -- v goes into w
  into-sized : (w v : ℕ) → Memᴰ w n.nodes → (w ≡ v → ⊥) → (k : Network) → SizedNetwork m k → without v n.nodes ≡ k.nodes → SizedTerminals m (among (into w v cs) k)
  into-sized w v inw differ k s e = with-chosen k s (into w v cs) (into-ascending w v cs h.valid.ascending)
      (λ u c. let (x, y, z) = (into-onto w v cs).from u c in
      subst (Memᴰ u) e (Memᴰ.cast (sym z) ((onto-kept n.nodes w v differ inw).into x (h.valid.nodes x y))))

  proper-in : {i : ℕ} → i < length n.links → Proper n.nodes (link_at n i)
  proper-in {i} = proper-at n h.valid.valid i

  -- one link in the place of two, of whatever value
  line-sized : (v i j : ℕ) → AtSeries n v i j → (b : Bool) → SizedNetwork m (removed v (joined i j (in_line b v (link_at n i) (link_at n j)) n))
  line-sized v i j t true =
      let p : Proper n.nodes (link_at n i) = proper-in (omega arith) in
      let q = proper-in t.place in
      across-sized m n plain v i j t _ (λ d. series-range d _ _ (p.range d) (q.range d)) (series-order p.order (p.range Up) q.order (q.range Up))
  line-sized v i j t false =
      let p : Proper n.nodes (link_at n i) = proper-in (omega arith) in
      let q = proper-in t.place in
      across-sized m n plain v i j t _ (λ d. product-range d _ _ (p.range d) (q.range d)) (product-order p.order q.order)

  series-sized : (v i j : ℕ) → AtSeries n v i j → SizedTerminals m (series_left v i j g)
  series-sized v i j t = with-chosen _ (line-sized v i j t (has v cs)) (without v cs) (ascending-without v cs h.valid.ascending)
      (λ u c. let k = mem-without v u cs c in without-mem v u n.nodes (h.valid.nodes u k.0) k.1)

  end-terminals : (v i : ℕ) → AtEnd n v i → SizedTerminals m (end_left v i g)
  end-terminals v i k = into-sized _ v (across-node n.nodes v (link_at n i) (proper-in k.place)) k.leg.differ (removed v (deleted i n)) (end-sized m n plain v i k) refl

  pub sound-terminals : (i : ℕ) → AtSplit n i → SizedTerminals m (sound_left i g)
  sound-terminals i k =
      into-sized _ _ (smaller-node n.nodes (link_at n i) (proper-in k.place)) (λ q. k.differ (omega arith)) _ (contracted-sized m n plain i k) refl

  factored-left : (b : Bool) (k : Direction → ℕ) → ((d : Direction) → k d ≤ S) → (r : Terminals) → SizedTerminals m r → Leaves (SizedTerminals m) (factored b k r)
  factored-left true k range r s = (s, range)
  factored-left false k range r s = s

  pub left_in : (s : Step) → Fits g s → Leaves (SizedTerminals m) (leaves g s)
  unfolding leaves
  left_in OneNode k = le_refl S
  left_in Disconnected k = zero-le
  left_in (Loop i) k = kept (deleted i n) (deleted-sized m n plain (⊎_elim (λ l. l.place) (λ l. l.place) k)) refl
  left_in (Parallel i j) k =
      kept _ (joined-sized m n plain _ k.order k.place (parallel-proper n.nodes (link_at n i) (link_at n j) (proper-in (omega arith)) (proper-in k.place))) refl
  left_in (End v i) k = factored-left (has v cs) _ (proper-in k.0.place).range _ (end-terminals v i k.0)
  left_in (Series v i j) k =
      let t = k.two in
      let p : Proper n.nodes (link_at n i) = proper-in (omega arith) in
      let q = proper-in t.place in
      factored-left (has v cs) _ (λ d. factor-range d _ _ (p.range d) (q.range d)) _ (series-sized v i j t)
  left_in (Split i) s = let k = s.0 in (sound-terminals i k, kept (deleted i n) (deleted-sized m n plain k.place) refl, (proper-in k.place).range)

pub settled-in : (g : Terminals) → length g.network.links ≡ 0 → (s : Step) → Fits g s → (k : ℕ) × (k ≤ S) × (leaves g s ≡ settled k)
unfolding leaves
settled-in g h OneNode f = (S, le_refl S, refl)
settled-in g h Disconnected f = (0, zero-le, refl)
settled-in g h (Loop i) f = absurd (⊎_elim (λ (l : AtLoop g.network i). omega arith) (λ (l : AtAstray g i). omega arith) f)
settled-in g h (Parallel i j) f = absurd (omega arith)
settled-in g h (End v i) f = let k = f.0 in absurd (omega arith)
settled-in g h (Series v i j) f = let k = f.two in absurd (omega arith)
settled-in g h (Split i) f = let k = f.0 in absurd (omega arith)
