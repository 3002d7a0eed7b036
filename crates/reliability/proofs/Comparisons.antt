-- What is promised of an importance and of a difference: the promises of their two figures, combined.
use Prim.Native.Nat.{ℕ, ◌+◌, ◌-◌, ◌*◌, ◌≤◌, ◌<◌, min, max}
use mathlib.Core.Path.{◌≡◌, refl, sym, ap, ap₂, ◌∙◌, subst, subst₂}
use mathlib.Core.List.{List, [], ◌∷◌, map}
use mathlib.Core.Bool.{Bool, true, false, cond, ◌&&◌, and-eq-true_iff}
use native.Mathlib.Nat.{mul_assoc, mul_comm, mul-sub, add-le-add, mul-le-mul_left, mul-le-mul_right, le_of_mul-le-mul_right, le_refl, le_trans}
use native.Mathlib.Omega.{arith}
use lib.Dec.{leb}
use lib.ListN.{length, get_or, length-map}
use lib.IntN.{ℤ, pos, neg_ℤ, ◌+ℤ◌, ◌-ℤ◌, ◌*ℤ◌, *ℤ_comm}
use lib.Signed.{◌≤ℤ◌}
use borrow.Author.Tests.{eqb-true, eqb-false}
use Rattle.rounding.specs.Rounding.{S}
use Rattle.rounding.specs.declared.Direction.{Direction}
use Rattle.rounding.specs.declared.Direction.TheVariants.{Down, Up}
use Rattle.rounding.proofs.Laws.{sub-mul}
use Rattle.reliability.specs.declared.Link.{Link}
use Rattle.reliability.specs.declared.Figure.{Figure}
use Rattle.reliability.specs.Networks.{Network, Valid, ends, linked, link_at}
use Rattle.reliability.specs.Exact.{Weighted, sum, total, AllEnclosed, altogether}
use Rattle.reliability.specs.Rule.{is_loop, delete_at, without, deleted, contracted, renamed, figure, needed, budget}
use Rattle.reliability.specs.Comparisons.{sound_at, sound_count, broken_at, importance, sound_sum, broken_sum, exact_importance, difference, exact_difference}
use Rattle.reliability.proofs.Lists.{length-delete}
use Rattle.reliability.proofs.States.{moved, front, sum_more, loop-idle, contraction, onto-kept}
use Rattle.reliability.proofs.Validity.{proper-at, smaller-node, larger-node, larger-smaller, deleted-valid, contracted-valid}
use Rattle.reliability.proofs.Enclosure.{without-less}
use Rattle.reliability.proofs.Signed.{minus-order, minus-mul, minus-add}
use Rattle.reliability.proofs.Weights.{Near, total-pos, all-at, all-deleted, all_renamed, total-moved}
use Rattle.reliability.proofs.Theorems.{steps-taken, finished-when, nesting, high-range, low-high, near-exact, width, low-weights}

-- ---- a link sound or broken

module _ (g : Network) (valid : Valid g) (i : ℕ) (place : i < length g.links) where
  abbrev e : Link
  e = link_at g i

  abbrev keep : ℕ
  keep = min e.a e.b

  abbrev gone : ℕ
  gone = max e.a e.b

  -- what holds of the network with link i sound, whether it is a loop or not
  by_loop : (P : Bool → Type 0) → (e.a ≡ e.b → P true) → ((e.a ≡ e.b → ⊥) → P false) → P (is_loop e)
  by_loop P loop other = go (is_loop e) refl
    where
      go : (t : Bool) → is_loop e ≡ t → P t
      go true p = loop (eqb-true e.a e.b p)
      go false p = other (eqb-false e.a e.b p)

  abbrev sound-if : Bool → Network
  sound-if t = elim t [ true ↦ deleted i g | false ↦ contracted e (deleted i g) ]

  -- the weights of the other links, where link i is sound
  abbrev weights-if : Bool → List Weighted → List Weighted
  weights-if t ws = elim t [ true ↦ delete_at i ws | false ↦ map (moved keep gone) (delete_at i ws) ]

  unfoldable pub soundWeights : List Weighted → List Weighted
  soundWeights ws = weights-if (is_loop e) ws

  -- the sum of the network with link i sound is the sum with link i in every set
  pub sound-sum : (ws : List Weighted) → sum (sound_at i g).nodes (soundWeights ws) [] ≡ sound_sum g ws i
  unfolding sound_at soundWeights
  sound-sum ws =
      by_loop (λ t. sum (sound-if t).nodes (weights-if t ws) [] ≡ sound_sum g ws i)
      (λ l. sym (loop-idle g.nodes (delete_at i ws) (ends e) l))
      (λ n. sym (contraction g.nodes (without gone g.nodes) (delete_at i ws) (ends e) keep gone (λ same. n (omega arith))
      (onto-kept g.nodes keep gone (λ same. n (omega arith)) (smaller-node g.nodes e (proper-at g valid i place))) (larger-smaller e)))

  -- more sets connect with the link than without
  pub sound_more : (ws : List Weighted) → broken_sum g ws i ≤ sound_sum g ws i
  sound_more ws = sum_more g.nodes (delete_at i ws) (ends e) []

  -- the pivotal identity: in the exact sum the network is that with link i sound by its sound weight, and that with it broken by its broken weight
  pub pivotal : {cs : List ℕ} {ws : List Weighted} → AllEnclosed cs g.links ws → (z : Weighted)
      → sum g.nodes ws [] ≡ (get_or ws i z).sound * sound_sum g ws i + (get_or ws i z).broken * broken_sum g ws i
  pivotal {ws = ws} h z =
      let at = all-at h i place (linked 0 0 (λ d. 0)) z in
      front g.nodes ws [] i z at.0 ∙ ap (λ j. (get_or ws i z).sound * sum g.nodes (delete_at i ws) (j ∷ []) + (get_or ws i z).broken * broken_sum g ws i) (sym at.1)

  pub broken-valid : Valid (broken_at i g)
  broken-valid = deleted-valid g valid i

  pub sound-valid : Valid (sound_at i g)
  unfolding sound_at
  sound-valid = by_loop (λ t. Valid (sound-if t)) (λ l. broken-valid) (λ n. contracted-valid (deleted i g) broken-valid e (proper-at g valid i place) n)

  pub broken-links : length (broken_at i g).links ≡ length g.links - 1
  broken-links = let l = length-delete {i = i} g.links place in omega arith

  pub sound-links : length (sound_at i g).links ≡ length g.links - 1
  unfolding sound_at
  sound-links = by_loop (λ t. length (sound-if t).links ≡ length g.links - 1) (λ l. broken-links) (λ n. length-map (delete_at i g.links) (renamed keep gone) ∙ broken-links)

  -- n nodes, one less where link i is no loop
  pub sound-nodes : length (sound_at i g).nodes ≤ sound_count g i
  unfolding sound_at
  sound-nodes = by_loop (λ t. length (sound-if t).nodes ≤ cond t (length g.nodes) (length g.nodes - 1)) (λ l. le_refl (length g.nodes))
      (λ n. let fewer = without-less gone g.nodes (larger-node g.nodes e (proper-at g valid i place)) in omega arith)

  pub sound-encloses : {cs : List ℕ} {ws : List Weighted} → AllEnclosed cs g.links ws → AllEnclosed (delete_at i cs) (sound_at i g).links (soundWeights ws)
  unfolding sound_at soundWeights
  sound-encloses {cs} {ws} h =
      by_loop (λ t. AllEnclosed (delete_at i cs) (sound-if t).links (weights-if t ws)) (λ l. all-deleted i h) (λ n. all_renamed keep gone (all-deleted i h))

  pub sound-total : (ws : List Weighted) → total (soundWeights ws) ≡ total (delete_at i ws)
  unfolding soundWeights
  sound-total ws = by_loop (λ t. total (weights-if t ws) ≡ total (delete_at i ws)) (λ l. refl) (λ n. total-moved keep gone (delete_at i ws))

  -- ---- importance

  module _ (limit : ℕ) where
    abbrev s : Network
    s = sound_at i g

    abbrev b : Network
    b = broken_at i g

    pub importance-nesting : (larger : ℕ) → limit ≤ larger → ((importance g i limit).low ≤ (importance g i larger).low) × ((importance g i larger).high ≤ (importance g i limit).high)
    importance-nesting larger h =
        let x = nesting s sound-valid limit larger h in
        let y = nesting b broken-valid limit larger h in
        (omega arith, omega arith)

    pub importance-steps : (importance g i limit).steps ≡ min (needed s) limit + min (needed b) limit
    importance-steps = ap₂ ◌+◌ (steps-taken s limit) (steps-taken b limit)

    pub importance-finished : (importance g i limit).finished ≡ leb (needed s) limit && leb (needed b) limit
    importance-finished = ap₂ ◌&&◌ (finished-when s limit) (finished-when b limit)

    -- for any exact weights that the links' values enclose, each off by at most its own units
    module _ {cs : List ℕ} {ws : List Weighted} (h : AllEnclosed cs g.links ws) where
      abbrev others : ℕ
      others = total (delete_at i ws)

      abbrev units : ℕ
      units = altogether (delete_at i cs)

      abbrev fewer : ℕ
      fewer = length g.links - 1

      sound-near : (d : Direction) → Near d (budget (length s.links) (length s.nodes) + units) others (sound_sum g ws i) (figure s limit)
      sound-near d = rw (← sound-total ws, ← sound-sum ws) (near-exact s sound-valid limit (sound-encloses h) d)

      broken-near : (d : Direction) → Near d (budget (length b.links) (length b.nodes) + units) others (broken_sum g ws i) (figure b limit)
      broken-near = near-exact b broken-valid limit (all-deleted i h)

      -- demand 2: sound minus broken
      pub importance-enclosure : ((importance g i limit).low * others ≤ S * exact_importance g ws i) × (S * exact_importance g ws i ≤ (importance g i limit).high * others)
      importance-enclosure =
          let f = figure s limit in
          let k = figure b limit in (
            omega (arith, sub-mul f.low k.high others, mul-sub S (sound_sum g ws i) (broken_sum g ws i), (sound-near Down).bounds, (broken-near Up).bounds),
            omega (arith, sub-mul f.high k.low others, mul-sub S (sound_sum g ws i) (broken_sum g ws i), (sound-near Up).bounds, (broken-near Down).bounds),
          )

      broken-below-sound : (figure b limit).low ≤ (figure s limit).high
      broken-below-sound = le_of_mul-le-mul_right (le_trans (broken-near Down).bounds (le_trans (mul-le-mul_left S (sound_more ws)) (sound-near Up).bounds)) (total-pos (all-deleted i h))

      -- a finished pair is no wider than its two evaluations' bounds together, each of m − 1 links: n nodes with the link broken, n − 1 with it sound where it is no loop
      pub importance-width : (importance g i limit).finished ≡ true
          → (importance g i limit).high ≤ (importance g i limit).low + ((2 * fewer + 4 * sound_count g i + 2 * units) + (2 * fewer + 4 * length g.nodes + 2 * units))
      importance-width done =
          let both = (and-eq-true_iff (figure s limit).finished (figure b limit).finished).0 done in
          let x = width s sound-valid limit (sound-encloses h) both.0 in
          let y = width b broken-valid limit (all-deleted i h) both.1 in
          omega (arith, sound-links, broken-links, sound-nodes)

    -- so the high is no truncated difference
    pub broken-sound : (figure b limit).low ≤ (figure s limit).high
    broken-sound = broken-below-sound (low-weights g valid)

    pub importance-range : ((importance g i limit).low ≤ (importance g i limit).high) × ((importance g i limit).high ≤ S)
    importance-range =
        let x = low-high s sound-valid limit in
        let y = low-high b broken-valid limit in
        (omega (arith, broken-sound), omega (arith, high-range s sound-valid limit))

-- ---- difference

-- a difference over D beside S times another
module _ (a b x y D : ℕ) where
  times_below : a * D ≤ x * S → y * S ≤ b * D → ((pos a -ℤ pos b) *ℤ pos D) ≤ℤ (pos S *ℤ (pos x -ℤ pos y))
  times_below h k =
      subst₂ (λ (u v : ℤ). u ≤ℤ v) (sym (minus-mul a b D)) (sym (*ℤ_comm (pos S) (pos x -ℤ pos y) ∙ minus-mul x y S)) (minus-order (a * D) (b * D) (x * S) (y * S) (add-le-add h k))

  times_above : x * S ≤ a * D → b * D ≤ y * S → (pos S *ℤ (pos x -ℤ pos y)) ≤ℤ ((pos a -ℤ pos b) *ℤ pos D)
  times_above h k =
      subst₂ (λ (u v : ℤ). u ≤ℤ v) (sym (*ℤ_comm (pos S) (pos x -ℤ pos y) ∙ minus-mul x y S)) (sym (minus-mul a b D)) (minus-order (x * S) (y * S) (a * D) (b * D) (add-le-add h k))

-- a figure's bound, over both networks' totals
over-both : (a N P Q D : ℕ) → D ≡ P * Q → a * P ≤ S * N → a * D ≤ N * Q * S
over-both a N P Q D e h = rw (e, ← mul_assoc, mul_comm (N * Q) S, ← mul_assoc S N Q) (mul-le-mul_right Q h)

under-both : (a N P Q D : ℕ) → D ≡ P * Q → S * N ≤ a * P → N * Q * S ≤ a * D
under-both a N P Q D e h = rw (e, ← mul_assoc a P Q, mul_comm (N * Q) S, ← mul_assoc S N Q) (mul-le-mul_right Q h)

module _ (g h : Network) (gv : Valid g) (hv : Valid h) (limit : ℕ) where
  abbrev mg : ℕ
  mg = length g.links

  abbrev mh : ℕ
  mh = length h.links

  abbrev f : Figure
  f = figure g limit

  abbrev k : Figure
  k = figure h limit

  pub difference-nesting : (larger : ℕ) → limit ≤ larger
      → ((difference g h limit).low ≤ℤ (difference g h larger).low) × ((difference g h larger).high ≤ℤ (difference g h limit).high)
  difference-nesting larger l =
      let x = nesting g gv limit larger l in
      let y = nesting h hv limit larger l in
      let f' = figure g larger in
      let k' = figure h larger in
      (minus-order f.low k.high f'.low k'.high (omega arith), minus-order f'.high k'.low f.high k.low (omega arith))

  pub difference-steps : (difference g h limit).steps ≡ min (needed g) limit + min (needed h) limit
  difference-steps = ap₂ ◌+◌ (steps-taken g limit) (steps-taken h limit)

  pub difference-finished : (difference g h limit).finished ≡ leb (needed g) limit && leb (needed h) limit
  difference-finished = ap₂ ◌&&◌ (finished-when g limit) (finished-when h limit)

  -- from −S to S, low no higher than high
  pub difference-range : (neg_ℤ (pos S) ≤ℤ (difference g h limit).low) × ((difference g h limit).low ≤ℤ (difference g h limit).high) × ((difference g h limit).high ≤ℤ pos S)
  difference-range =
      let x = low-high g gv limit in
      let y = low-high h hv limit in
      let most = high-range g gv limit in
      let top = high-range h hv limit in
      (minus-order 0 S f.low k.high (omega arith), minus-order f.low k.high f.high k.low (omega arith), minus-order f.high k.low S 0 (omega arith))

  -- for any exact weights that the links' values enclose, each off by at most its own units
  module _ {cs bs : List ℕ} {ws us : List Weighted} (gw : AllEnclosed cs g.links ws) (hw : AllEnclosed bs h.links us) where
    abbrev N : ℕ
    N = sum g.nodes ws []

    abbrev M : ℕ
    M = sum h.nodes us []

    abbrev T : ℕ
    T = total ws

    abbrev U : ℕ
    U = total us

    -- demand 2: plan A minus plan B
    pub difference-enclosure :
        (((difference g h limit).low *ℤ pos (T * U)) ≤ℤ (pos S *ℤ exact_difference N T M U)) × ((pos S *ℤ exact_difference N T M U) ≤ℤ ((difference g h limit).high *ℤ pos (T * U)))
    difference-enclosure =
        let x = near-exact g gv limit gw in
        let y = near-exact h hv limit hw in
        let D = T * U in
        let turned = mul_comm T U in (
          times_below f.low k.high (N * U) (M * T) D (over-both f.low N T U D refl (x Down).bounds) (under-both k.high M U T D turned (y Up).bounds),
          times_above f.high k.low (N * U) (M * T) D (under-both f.high N T U D refl (x Up).bounds) (over-both k.low M U T D turned (y Down).bounds),
        )

    pub difference-width : (difference g h limit).finished ≡ true
        → (difference g h limit).high ≤ℤ ((difference g h limit).low +ℤ pos ((2 * mg + 4 * length g.nodes + 2 * altogether cs) + (2 * mh + 4 * length h.nodes + 2 * altogether bs)))
    difference-width done =
        let both = (and-eq-true_iff f.finished k.finished).0 done in
        let x = width g gv limit gw both.0 in
        let y = width h hv limit hw both.1 in
        let w = (2 * mg + 4 * length g.nodes + 2 * altogether cs) + (2 * mh + 4 * length h.nodes + 2 * altogether bs) in
        subst (λ (z : ℤ). (difference g h limit).high ≤ℤ z) (sym (minus-add f.low k.high w)) (minus-order f.high k.low (f.low + w) k.high (omega arith))
