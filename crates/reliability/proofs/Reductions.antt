-- What each step does to the exact sum, at one direction's values, with its error budget.
use Prim.Native.Nat.{ℕ, suc, ◌+◌, ◌-◌, ◌*◌, ◌^◌, ◌≤◌, ◌<◌, min, max, zero-le}
use mathlib.Core.Path.{◌≡◌, refl, sym, ap, ap₂, ◌∙◌, subst}
use mathlib.Core.List.Memᴰ
use mathlib.Core.List.{List, [], ◌∷◌, map, map-map, Memᴰ}
use mathlib.Core.Bool.{true, false}
use mathlib.Core.Logic.{inl}
use native.Mathlib.Nat.{mul_comm, zero-mul, mul-zero, add-zero, add-sub_of_le, pow-suc, pow-succ', mul-le-mul_left, mul-le-mul_right, add-le-add, lt_trans, le_trans, le_of_eq}
use native.Mathlib.Omega.{arith}
use native.Mathlib.Decide.{dec_lt}
use lib.ListN.{length, get_or, set, get_or-map, length-map, length-set}
use borrow.Author.Tests.{eqb-false}
use Rattle.rounding.specs.Rounding.{S, product, parallel, either, series, factor}
use Rattle.rounding.specs.declared.Direction.{Direction}
use Rattle.rounding.specs.declared.Direction.TheVariants.{Down, Up}
use Rattle.rounding.proofs.Laws.{ring}
use Rattle.rounding.proofs.Operations.{product-rounds, product-range, parallel-rounds, parallel-range, series-rounds, series-range, factor-zero, factor-rounds, either-complement, either-parts, either-range, either-zero, shares as portions}
use Rattle.reliability.specs.declared.Link.{Link}
use Rattle.reliability.specs.Networks.{Network, Valid, Ends, ends, value, linked, link_at, label, connected}
use Rattle.reliability.specs.Exact.{Weighted, weighted, sum, total}
use Rattle.reliability.specs.Rule.{across, renamed, rename, delete_at, without}
use Rattle.reliability.proofs.Lawful.{over}
use Rattle.reliability.proofs.Lists.{map-delete, map-set, mem-delete, length-delete}
use Rattle.reliability.proofs.Connection.{Const, label-const, one_more}
use Rattle.reliability.proofs.States.{Joins, Off, AllOff, moved, sum_more, sum-total, one-node, none-connects, loop-law, parallel-law, joined-law, end-law, series-law, contraction, front, loose-law, line-law, astray-law, Onto}
use Rattle.reliability.proofs.Validity.{proper-at, larger-smaller}
use Rattle.reliability.proofs.Steps.{Leg, Clear, AtLoop, AtEnd, AtSplit}
use Rattle.reliability.proofs.Within.{Within, equal, rounded, weaken, trans, by, same, shares}

module _ (d : Direction) where
  -- each link's weights come to S
  pub total-is : (es : List Link) → ((e : Link) → Memᴰ e es → value d e ≤ S) → total (map (weighted d) es) ≡ S ^ length es
  unfolding total
  total-is [] h = refl
  total-is (e ∷ es) h =
      ap₂ ◌*◌ (add-sub_of_le (h e (Memᴰ.head refl))) (total-is es (λ f m. h f (Memᴰ.tail m)))
      ∙ mul_comm S (S ^ length es) ∙ sym (pow-suc S (length es))

-- two links of values p and q made one, with A the sum with the joined link there, B the sum without it, and M above both
module _ (d : Direction) (p q A B M : ℕ) (hp : p ≤ S) (hq : q ≤ S) (less : B ≤ A) (most : A ≤ M) where
  -- the sum at the joined link's value
  abbrev pub mixed : ℕ → ℕ
  mixed v = v * A + (S - v) * B

  -- the weights of the two with exactly one sound
  abbrev pub one : ℕ
  one = p * (S - q) + (S - p) * q

  pub in-parallel : Within d true (S * M) (S * mixed (parallel d p q)) ((p * q + one) * A + (S - p) * (S - q) * B)
  in-parallel =
      let v = parallel d p q in
      let w = rw (either-parts p q hp hq) at (rounded d (parallel-rounds d p q hp hq)) in
      same d (simp ring) refl
      (shares d (v * S) (S * (S - v)) (p * q + one) ((S - p) * (S - q)) A B M
      (omega (arith, either-parts p q hp hq, either-complement p q hp hq, parallel-range d p q hp hq)) less most w)

  in-line : Within d true (S * M) (S * mixed (product d p q)) (p * q * A + (one + (S - p) * (S - q)) * B)
  in-line =
      let v = product d p q in
      same d (simp ring) refl
      (shares d (v * S) (S * (S - v)) (p * q) (one + (S - p) * (S - q)) A B M
      (omega (arith, either-parts p q hp hq, either-complement p q hp hq, product-range d p q hp hq)) less most (rounded d (product-rounds d p q)))

  pub in-series : Within d true (S * mixed (series d p q) + S * S * M) (S * (factor d p q * mixed (series d p q))) (S * (p * q * A + one * B))
  in-series = go (dec_lt 0 (either p q))
    where
      v : ℕ
      v = series d p q

      f : ℕ
      f = factor d p q

      W : ℕ
      W = either p q

      go : Dec (0 < either p q) → Within d true (S * mixed (series d p q) + S * S * M) (S * (factor d p q * mixed (series d p q))) (S * (p * q * A + one * B))
      go (yes pos) =
          let value = shares d (v * W) ((S - v) * W) (S * (p * q)) (S * one) A B M
          (omega (arith, portions v W (series-range d p q hp hq), either-parts p q hp hq)) less most (rounded d (series-rounds d p q pos)) in
          let multiplied = by d (mixed v) (rounded d (factor-rounds d p q)) in
          weaken d true (add-le-add (le_of_eq (mul_comm (mixed v) S)) (mul-le-mul_right M (either-range p q hp hq))) (λ t. t)
          (same d (simp ring) (simp ring) (trans d multiplied (same d (simp ring) refl value)))
      go (no none) =
          let nil : either p q ≡ 0 = omega arith in
          let z = either-zero p q hp hq nil in
          let left : S * (f * mixed v) ≡ 0 = ap (λ k. S * (k * mixed v)) (factor-zero d p q nil) ∙ simp (zero-mul, mul-zero) in
          let right : S * (p * q * A + one * B) ≡ 0 =
          ap₂ (λ x y. S * (x * y * A + (x * (S - y) + (S - x) * y) * B)) z.0 z.1 ∙ simp (zero-mul, mul-zero, add-zero) in
          weaken d true zero-le (λ t. t) (equal d true (left ∙ sym right))

  pub series-budget : S * mixed (series d p q) + S * S * M ≤ 2 * (S * (S * M))
  series-budget =
      let v = series d p q in
      let all : v * M + (S - v) * M ≡ S * M = portions v M (series-range d p q hp hq) in
      let first : v * A ≤ v * M = mul-le-mul_left v most in
      let second : (S - v) * B ≤ (S - v) * M = mul-le-mul_left (S - v) (le_trans less most) in
      omega arith

-- ---- a network's links with their weights

unfoldable pub weights : ℕ → ℕ → ℕ → Weighted
weights a b x = record { joins = record { a = a; b = b }; sound = x; broken = S - x }

pub weighted-linked : (d : Direction) (a b : ℕ) (v : Direction → ℕ) → weighted d (linked a b v) ≡ weights a b (v d)
unfolding weights
weighted-linked Down a b v = refl
weighted-linked Up a b v = refl

pub joins_of : (d : Direction) (es : List Link) → map (λ (e : Weighted). e.joins) (map (weighted d) es) ≡ map ends es
joins_of d es = map-map (λ (e : Weighted). e.joins) (weighted d) es

pub weighted-renamed : (d : Direction) (keep gone : ℕ) (es : List Link) → map (moved keep gone) (map (weighted d) es) ≡ map (weighted d) (map (renamed keep gone) es)
unfolding weights
weighted-renamed d keep gone [] = refl
weighted-renamed d keep gone (e ∷ es) =
    ap₂ ◌∷◌ (sym (weighted-linked d (rename keep gone e.a) (rename keep gone e.b) (λ c. value c e))) (weighted-renamed d keep gone es)

pub all-off : (d : Direction) (v : ℕ) (es : List Link) → Clear v es → AllOff v (map (weighted d) es)
all-off d v es clear e m =
    let r = Memᴰ.of_map (weighted d) es m in
    subst (λ (f : Weighted). Off v f.joins) r.2 (clear r.0 r.1)

-- each step where the nodes vs have to be connected
module _ (d : Direction) (g : Network) (valid : Valid g) (vs : List ℕ) where
  abbrev es : List Weighted
  es = map (weighted d) g.links

  abbrev z : Weighted
  z = weighted d (linked 0 0 (λ d. 0))

  at : (i : ℕ) → get_or es i z ≡ weighted d (link_at g i)
  at i = get_or-map (weighted d) g.links i (linked 0 0 (λ d. 0))

  place : {i : ℕ} → i < length g.links → i < length es
  place h = rw (length-map g.links (weighted d)) h

  in_range : (i : ℕ) → i < length g.links → value d (link_at g i) ≤ S
  in_range i h = (proper-at g valid i h).range d

  over-deleted : (ws : List ℕ) (i : ℕ) → over d ws (delete_at i g.links) ≡ sum ws (delete_at i es) []
  over-deleted ws i = ap (λ l. sum ws l []) (map-delete (weighted d) i g.links)

  pub one-node-step : length vs ≤ 1 → S * S ^ length g.links ≡ S * over d vs g.links
  one-node-step h =
      ap (λ k. S * k) (sym (one-node vs es [] h ∙ total-is d g.links (λ e m. (valid.proper e m).range d)))

  pub disconnected-step : connected vs (map ends g.links) ≡ false → 0 * S ^ length g.links ≡ S * over d vs g.links
  disconnected-step h =
      zero-mul (S ^ length g.links) ∙ sym (ap (λ k. S * k) (none-connects vs es (ap (connected vs) (joins_of d g.links) ∙ h)) ∙ mul-zero S)

  -- link i is of no account
  abbrev Dropped : ℕ → Type 0
  Dropped i = Within d true (S ^ length (delete_at i g.links)) (S * over d vs (delete_at i g.links)) (over d vs g.links)

  dropped : (i : ℕ) → i < length g.links → over d vs g.links ≡ (value d (link_at g i) + (S - value d (link_at g i))) * sum vs (delete_at i es) [] → Dropped i
  dropped i h law = weaken d true zero-le (λ t. t) (equal d true (sym (law ∙ ap₂ ◌*◌ (add-sub_of_le (in_range i h)) (sym (over-deleted vs i)))))

  pub loop-step : (i : ℕ) → AtLoop g i → Dropped i
  loop-step i h = dropped i h.place
      (rw (at i) at (loop-law vs es i z (place h.place) (ap (λ (e : Weighted). e.joins.a) (at i) ∙ h.same ∙ ap (λ (e : Weighted). e.joins.b) (sym (at i)))))

  -- a link in a piece without any of vs
  pub astray-step : (i : ℕ) → i < length g.links → connected vs (map ends g.links) ≡ true → connected ((link_at g i).a ∷ vs) (map ends g.links) ≡ false → Dropped i
  astray-step i h whole apart =
      let all = map ends g.links in
      dropped i h
      (rw (at i) at (astray-law vs es i z (place h) (label all) (subst (Const (label all)) (sym (joins_of d g.links)) (label-const all))
      (λ u m e. eqb-false _ _ (sym (one_more (link_at g i).a u vs all whole m) ∙ apart) (sym (e ∙ ap (λ (w : Weighted). label all w.joins.a) (at i))))))

  leg-joins : (i v w : ℕ) → Joins (ends (link_at g i)) v w → Joins (get_or es i z).joins v w
  leg-joins i v w j = subst (λ (e : Weighted). Joins e.joins v w) (sym (at i)) j

  module _ (v i : ℕ) (h : AtEnd g v i) where
    abbrev w : ℕ
    w = across v (link_at g i)

    off : AllOff v (delete_at i es)
    off = rw (← map-delete (weighted d) i g.links) (all-off d v (delete_at i g.links) h.others)

    -- an end among vs, with another of them about, hands on its part
    pub end_step : (ws : List ℕ) → Onto w v vs ws → Memᴰ v vs → (o : ℕ) → (o ≡ v → ⊥) → Memᴰ o vs
        → over d vs g.links ≡ value d (link_at g i) * over d ws (delete_at i g.links)
    end_step ws onto inv o differ ino =
        rw (at i) at (end-law vs es z v w h.leg.differ ws onto inv o differ ino i (place h.place) (leg-joins i v w h.leg.joins) off)
        ∙ ap (λ k. value d (link_at g i) * k) (sym (over-deleted ws i))

    -- any other end
    pub loose-step : (Memᴰ v vs → ⊥) → Dropped i
    loose-step out = dropped i h.place
        (rw (at i) at (loose-law vs es z v w h.leg.differ out i (place h.place) (leg-joins i v w h.leg.joins) off))

  module _ (i : ℕ) (h : AtSplit g i) (ws : List ℕ) (onto : Onto (min (link_at g i).a (link_at g i).b) (max (link_at g i).a (link_at g i).b) vs ws) where
    abbrev sound : List Link
    sound = map (renamed (min (link_at g i).a (link_at g i).b) (max (link_at g i).a (link_at g i).b)) (delete_at i g.links)

    sound-is : sum vs (delete_at i es) (ends (link_at g i) ∷ []) ≡ over d ws sound
    sound-is =
        let e = link_at g i in
        let keep = min e.a e.b in
        let gone = max e.a e.b in
        contraction vs ws (delete_at i es) (ends e) keep gone (λ same. h.differ (omega arith)) onto (larger-smaller e)
        ∙ ap (λ l. sum ws l []) (ap (map (moved keep gone)) (sym (map-delete (weighted d) i g.links)) ∙ weighted-renamed d keep gone (delete_at i g.links))

    pub split_step : over d vs g.links ≡ value d (link_at g i) * over d ws sound + (S - value d (link_at g i)) * over d vs (delete_at i g.links)
    split_step =
        rw (at i) at (front vs es [] i z (place h.place))
        ∙ ap₂ (λ s b. value d (link_at g i) * s + (S - value d (link_at g i)) * b) sound-is (sym (over-deleted vs i))

  -- two links made one
  module _ (i j : ℕ) (order : i < j) (there : j < length g.links) where
    abbrev e : Link
    e = link_at g i

    abbrev f : Link
    f = link_at g j

    abbrev p : ℕ
    p = value d (link_at g i)

    abbrev q : ℕ
    q = value d (link_at g j)

    hp : p ≤ S
    hp = in_range i (lt_trans order there)

    hq : q ≤ S
    hq = in_range j there

    -- the links that neither i nor j is
    abbrev others : List Link
    others = delete_at i (delete_at j g.links)

    others-weighted : map (weighted d) others ≡ delete_at i (delete_at j es)
    others-weighted = map-delete (weighted d) i (delete_at j g.links) ∙ ap (delete_at i) (map-delete (weighted d) j g.links)

    others-length : suc (suc (length others)) ≡ length g.links
    others-length =
        let one_less = length-delete {i = j} g.links there in
        ap suc (length-delete {i = i} (delete_at j g.links) (omega arith)) ∙ one_less

    abbrev M : ℕ
    M = S ^ length others

    others-power : S ^ length g.links ≡ S * (S * M)
    others-power =
        ap (λ n. S ^ n) (sym others-length) ∙ pow-succ' S (suc (length others)) ∙ ap (λ k. S * k) (pow-succ' S (length others))

    joined-power : (m : Link) → S ^ length (delete_at j (set g.links i m)) ≡ S * M
    joined-power m =
        let l = length-set g.links i m in
        let one_less = length-delete {i = j} (set g.links i m) (omega arith) in
        ap (λ n. S ^ n) (omega (arith, others-length)) ∙ pow-succ' S (length others)

    below_total : (ws : List ℕ) (t : List Ends) → sum ws (delete_at i (delete_at j es)) t ≤ M
    below_total ws t =
        rw (← others-weighted) (le_trans (sum-total ws (map (weighted d) others) t)
        (le_of_eq (total-is d others (λ e m. (valid.proper e (mem-delete j g.links (mem-delete i (delete_at j g.links) m))).range d))))

    -- one link between a and b in their place
    abbrev as_one : ℕ → ℕ → (Direction → ℕ) → List Link
    as_one a b v = delete_at j (set g.links i (linked a b v))

    over-joined : (ws : List ℕ) (a b : ℕ) (v : Direction → ℕ)
        → over d ws (as_one a b v) ≡ v d * sum ws (delete_at i (delete_at j es)) (record { a = a; b = b } ∷ []) + (S - v d) * sum ws (delete_at i (delete_at j es)) []
    unfolding weights
    over-joined ws a b v =
        ap (λ l. sum ws l []) (map-delete (weighted d) j (set g.links i (linked a b v)) ∙ ap (delete_at j) (map-set (weighted d) g.links i (linked a b v) ∙ ap (set es i) (weighted-linked d a b v)))
        ∙ joined-law ws es i j (weights a b (v d)) order (place there)

    abbrev AsOne : ℕ → ℕ → (Direction → ℕ) → Type 0
    AsOne a b v = Within d true (S ^ length (as_one a b v)) (S * over d vs (as_one a b v)) (over d vs g.links)

    -- one link, its value rounded, where the sum is that of the two
    one_of_two : (a b : ℕ) (v : Direction → ℕ) (x : ℕ) → over d vs g.links ≡ x
        → (let A = sum vs (delete_at i (delete_at j es)) (record { a = a; b = b } ∷ []) in let B = sum vs (delete_at i (delete_at j es)) [] in
        (B ≤ A) → (A ≤ M) → Within d true (S * M) (S * (v d * A + (S - v d) * B)) x)
        → AsOne a b v
    one_of_two a b v x law worked =
        weaken d true (le_of_eq (sym (joined-power (linked a b v)))) (λ t. t)
        (same d (ap (λ k. S * k) (sym (over-joined vs a b v))) (sym law)
        (worked (sum_more vs (delete_at i (delete_at j es)) (record { a = a; b = b }) []) (below_total vs (record { a = a; b = b } ∷ []))))

    pub parallel-step : Joins (ends f) e.a e.b → AsOne e.a e.b (λ c. parallel c (value c e) (value c f))
    parallel-step alike = one_of_two e.a e.b (λ c. parallel c (value c e) (value c f)) _
        (rw (at i, at j) at (parallel-law vs es i j z order (place there) e.a e.b (leg-joins i e.a e.b (inl (refl, refl))) (leg-joins j e.a e.b alike)))
        (λ less most. in-parallel d p q _ _ M hp hq less most)

    module _ (v : ℕ) (first : Leg v e) (second : Leg v f) (clear : Clear v others) where
      off-both : AllOff v (delete_at i (delete_at j es))
      off-both = rw (← others-weighted) (all-off d v others clear)

      -- at a node that is not among vs
      pub line_step : (Memᴰ v vs → ⊥) → AsOne (across v e) (across v f) (λ c. product c (value c e) (value c f))
      line_step out = one_of_two (across v e) (across v f) (λ c. product c (value c e) (value c f)) _
          (rw (at i, at j) at (line-law vs es z v (across v e) first.differ (across v f) second.differ i j order (place there)
          (leg-joins i v (across v e) first.joins) (leg-joins j v (across v f) second.joins) off-both out))
          (λ less most. in-line d p q _ _ M hp hq less most)

      -- at a node that is, as both its neighbours are
      pub series-step : Memᴰ v vs → Memᴰ (across v e) vs → Memᴰ (across v f) vs
          → Within d true (2 * S ^ length g.links) (S * (factor d p q * over d (without v vs) (as_one (across v e) (across v f) (λ c. series c (value c e) (value c f))))) (S * over d vs g.links)
      series-step inv inw inu =
          let ws = without v vs in
          let joint : Ends = record { a = across v e; b = across v f } in
          let A = sum ws (delete_at i (delete_at j es)) (joint ∷ []) in
          let B = sum ws (delete_at i (delete_at j es)) [] in
          let law = rw (at i, at j) at (series-law vs es z v (across v e) first.differ (across v f) second.differ i j order (place there)
          (leg-joins i v (across v e) first.joins) (leg-joins j v (across v f) second.joins) off-both inv inw inu) in
          let less = sum_more ws (delete_at i (delete_at j es)) joint [] in
          let most = below_total ws (joint ∷ []) in
          weaken d true (le_trans (series-budget d p q A B M hp hq less most) (le_of_eq (ap (λ k. 2 * k) (sym others-power)))) (λ t. t)
          (same d (ap (λ k. S * (factor d p q * k)) (sym (over-joined ws (across v e) (across v f) (λ c. series c (value c e) (value c f))))) (ap (λ k. S * k) (sym law))
          (in-series d p q A B M hp hq less most))
