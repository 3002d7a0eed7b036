-- Who wins, and what shows it.
use Prim.Native.Nat.{ℕ, zero, suc, ◌+◌, ◌*◌, ◌≤◌, ◌<◌}
use mathlib.Core.Path.{◌≡◌, refl, sym, ◌∙◌}
use mathlib.Core.List.{List, [], ◌∷◌}
use mathlib.Core.Bool.{Bool, true, false}
use mathlib.Core.Logic.{◌⊎◌, inl, inr}
use lib.Dec.{leb}
use lib.ListN.{length, get_or}
use borrow.Author.Tests.{eqb-true, le-leb, lt-leb, leb-true, leb-false}
use native.Mathlib.Omega.{arith}
use native.Mathlib.Decide.{dec_le, ℕ_discrete}
use Rattle.reliability.specs.Networks.{Ends, label, connected}
use Rattle.reliability.proofs.Connection.{Const, label-const, connected-sound}
use Rattle.game.specs.Game.{cutter, keeper, at, among, marked, wins, keeper_wins, Numbered, TwoTrees, Grouping, between}
use Rattle.game.specs.Forests.{Found, found, placed, group, count, Decides}
use Rattle.game.proofs.Keeper.{at_mem, Spans, Inside, Disjoint, second-wins, first-wins, crossing}
use Rattle.game.proofs.Cutter.{lost}
use Rattle.game.proofs.Sizes.{Below, forest-size}
use Rattle.game.proofs.Searches.{found-settled}
use Rattle.game.proofs.Certificates.{groups, between-few, occupied, forest, grouping, most, tree, two-trees, one-root}
use Rattle.game.proofs.Roots.{root, roots-one, roots-exact}
use Rattle.game.proofs.Counts.{count-all}
use Rattle.game.proofs.Joined.{Same}

-- ---- what the certificates show

disjoint : (ts : List ℕ) → Disjoint (marked 1 ts) (marked 2 ts)
disjoint ts i p q = let z : ◌≡◌ {A = ℕ} 1 2 = sym (eqb-true (get_or ts i 0) 1 p) ∙ eqb-true (get_or ts i 0) 2 q in omega arith

spanning : (vs : List ℕ) (p : ℕ → Bool) (es t : List Ends) → connected vs (among p es) ≡ true → Spans vs p es t
spanning vs p es t h χ c d = connected-sound vs (among p es) h χ c

-- two spanning trees without a common link: the keeper wins if the cutter opens
pub trees-win : (vs : List ℕ) (es : List Ends) (ts : List ℕ) → Inside vs es → TwoTrees vs es ts → wins vs (length es) cutter es [] ≡ true
trees-win vs es ts inside trees =
    second-wins vs (length es) (marked 1 ts) (marked 2 ts) es [] refl (disjoint ts) inside
    (spanning vs (marked 1 ts) es [] trees.first.spans) (spanning vs (marked 2 ts) es [] trees.second.spans)

-- and if he opens
pub trees-win-opening : (vs : List ℕ) (es : List Ends) (ts : List ℕ) → Inside vs es → TwoTrees vs es ts → keeper_wins keeper vs es ≡ true
unfolding wins among
trees-win-opening vs [] ts inside trees = trees.first.spans
trees-win-opening vs (e ∷ es) ts inside trees =
    first-wins vs (marked 1 ts) (marked 2 ts) (e ∷ es) [] 0 (omega arith) (disjoint ts) inside
    (spanning vs (marked 1 ts) (e ∷ es) (e ∷ []) trees.first.spans) (spanning vs (marked 2 ts) (e ∷ es) (e ∷ []) trees.second.spans)

-- a grouping with fewer than 2 × (g − 1) links between groups: the cutter wins if he opens
pub grouping-loses : (vs : List ℕ) (es : List Ends) (g : ℕ) (h : ℕ → ℕ) → Grouping vs es g h → wins vs (length es) cutter es [] ≡ false
unfolding between
grouping-loses vs es g h given = (lost vs g h given.occupied (length es)).0 es [] refl (omega (arith, given.few))

-- ---- what the search finds

module _ (vs : List ℕ) (n : ℕ) (es : List Ends) (numbered : Numbered n vs) (below : Below n es) (some_node : 0 < n) (most-links : length es ≤ 64) where
  abbrev r : Found
  r = found es

  abbrev ts : List ℕ
  ts = r.marks

  inside : Inside vs es
  inside e m = let b = below e m in (numbered.node e.a b.0, numbered.node e.b b.1)

  pub shows-trees : 2 * n ≤ placed es r + 2 → TwoTrees vs es ts
  shows-trees = two-trees vs n es numbered below r (found-settled es most-links) some_node

  pub shows-grouping : placed es r + 2 < 2 * n → Grouping vs es (groups vs n es numbered below r (found-settled es most-links)) (group es r)
  shows-grouping = grouping vs n es numbered below r (found-settled es most-links)

  pub cutter-first : wins vs (length es) cutter es [] ≡ leb (2 * n) (placed es r + 2)
  cutter-first = go (dec_le (2 * n) (placed es r + 2))
    where
      go : Dec (2 * n ≤ placed es r + 2) → wins vs (length es) cutter es [] ≡ leb (2 * n) (placed es r + 2)
      go (yes h) = trees-win vs es ts inside (shows-trees h) ∙ sym (le-leb (2 * n) (placed es r + 2) h)
      go (no h) = grouping-loses vs es _ (group es r) (shows-grouping (omega arith)) ∙ sym (lt-leb (2 * n) (placed es r + 2) (omega arith))

  -- one forest is a tree and the other lacks one link: a link of the tree joins the other's two parts
  short : (a b : ℕ) → (a ≡ 1) ⊎ (a ≡ 2) → (b ≡ 1) ⊎ (b ≡ 2) → suc (count (length es) (marked a ts)) ≡ n → suc (suc (count (length es) (marked b ts))) ≡ n
      → (i : ℕ) × (i < length es) × Spans vs (marked a ts) es (at es i ∷ []) × Spans vs (marked b ts) es (at es i ∷ [])
  short a b wa wb full one = go (crossing (label part) (marked a ts) es)
    where
      part : List Ends
      part = among (marked b ts) es

      spans : connected vs (among (marked a ts) es) ≡ true
      spans = (tree vs n es numbered below r (found-settled es most-links) a wa full).spans

      two-roots : count n (root part) ≡ 2
      two-roots = let size = forest-size n es (marked b ts) below (forest vs n es numbered below r (found-settled es most-links) b wb) in omega arith

      go : Const (label part) (among (marked a ts) es) ⊎ ((j : ℕ) × (j < length es) × (Same (label part) (at es j) → ⊥))
          → (i : ℕ) × (i < length es) × Spans vs (marked a ts) es (at es i ∷ []) × Spans vs (marked b ts) es (at es i ∷ [])
      go (inl c) =
          absurd (omega (arith, two-roots, roots-one n part (λ u v lu lv. connected-sound vs (among (marked a ts) es) spans (label part) c u v (numbered.node u lu) (numbered.node v lv))))
      go (inr (j, l, differ)) =
          let b = below (at es j) (at_mem es j l) in
          let e = roots-exact n (at es j) part b.0 b.1 (λ s. differ (s (label part) (label-const part))) in (
            j,
            l,
            spanning vs (marked a ts) es (at es j ∷ []) spans,
            λ χ c d.
                connected-sound vs (at es j ∷ part) (one-root vs n (at es j ∷ part) numbered (omega (arith, two-roots))) χ (d.0, c),
          )

  -- with a link to play
  a-link : 2 * n ≤ placed es r + 3 → 0 < length es → (i : ℕ) × (i < length es) × Spans vs (marked 1 ts) es (at es i ∷ []) × Spans vs (marked 2 ts) es (at es i ∷ [])
  a-link h l = go (dec_le (2 * n) (placed es r + 2)) (ℕ_discrete (suc (count (length es) (marked 1 ts))) n)
    where
      m1 : count (length es) (marked 1 ts) < n
      m1 = most vs n es numbered below r (found-settled es most-links) some_node 1 (inl refl)

      m2 : count (length es) (marked 2 ts) < n
      m2 = most vs n es numbered below r (found-settled es most-links) some_node 2 (inr refl)

      go : Dec (2 * n ≤ placed es r + 2) → Dec (suc (count (length es) (marked 1 ts)) ≡ n)
          → (i : ℕ) × (i < length es) × Spans vs (marked 1 ts) es (at es i ∷ []) × Spans vs (marked 2 ts) es (at es i ∷ [])
      go (yes k) d =
          let trees = shows-trees k in
          (0, l, spanning vs (marked 1 ts) es (at es 0 ∷ []) trees.first.spans, spanning vs (marked 2 ts) es (at es 0 ∷ []) trees.second.spans)
      go (no k) (yes e) = short 1 2 (inl refl) (inr refl) e (omega (arith, m2))
      go (no k) (no e) = let (i, m, s2, s1) = short 2 1 (inr refl) (inl refl) (omega (arith, m1, m2)) (omega (arith, m1, m2)) in (i, m, s1, s2)

  keeper-first-wins : 2 * n ≤ placed es r + 3 → wins vs (length es) keeper es [] ≡ true
  unfolding wins
  keeper-first-wins h = go (length es) refl
    where
      go : (m : ℕ) → length es ≡ m → wins vs m keeper es [] ≡ true
      go zero e =
          one-root vs n [] numbered
          (omega (arith, count-all n (root []), count-all (length es) (marked 1 ts), count-all (length es) (marked 2 ts)))
      go (suc m) e =
          let (i, l, s1, s2) = a-link h (omega arith) in
          rw e at (first-wins vs (marked 1 ts) (marked 2 ts) es [] i l (disjoint ts) inside s1 s2)

  pub keeper-first : wins vs (length es) keeper es [] ≡ leb (2 * n) (placed es r + 3)
  unfolding between
  keeper-first = go (dec_le (2 * n) (placed es r + 3))
    where
      go : Dec (2 * n ≤ placed es r + 3) → wins vs (length es) keeper es [] ≡ leb (2 * n) (placed es r + 3)
      go (yes h) = keeper-first-wins h ∙ sym (le-leb (2 * n) (placed es r + 3) h)
      go (no h) =
          (lost vs (groups vs n es numbered below r (found-settled es most-links)) (group es r) (occupied vs n es numbered below r (found-settled es most-links)) (length es)).1 es [] refl
          (omega (arith, between-few vs n es numbered below r (found-settled es most-links)))
          ∙ sym (lt-leb (2 * n) (placed es r + 3) (omega arith))

  -- the search decides the game, for both sides opening, and shows two trees or a grouping
  pub decided : Decides n vs es r
  decided = record {
    second = cutter-first;
    first = keeper-first;
    trees = λ h. shows-trees (leb-true (2 * n) (placed es r + 2) (sym cutter-first ∙ h));
    groups = λ h. shows-grouping (leb-false (2 * n) (placed es r + 2) (sym cutter-first ∙ h));
  }
