-- What the game's definition says of one move, and the game with one node.
use Prim.Native.Nat.{ℕ, zero, suc, ◌<◌}
use mathlib.Core.Path.{◌≡◌, refl, sym, ◌∙◌}
use mathlib.Core.List.{List, [], ◌∷◌}
use mathlib.Core.Bool.{Bool, true, false, ◌&&◌, true≢false}
use mathlib.Core.Logic.{◌↔◌}
use native.Mathlib.Omega.{arith}
use native.Mathlib.Decide.{dec_lt}
use lib.ListN.{length, get_or}
use borrow.Author.Tests.{eq-eqb}
use Rattle.reliability.specs.Networks.{Ends, every, connected}
use Rattle.reliability.specs.Rule.{delete_at}
use Rattle.game.specs.Game.{Player, cutter, keeper, at, every_below, some_below, wins, among, marked, SpanningTree, TwoTrees}
use Rattle.game.proofs.Bools.{by_bool, not-both}
use Rattle.game.proofs.Below.{every_of, every-fails, some_of, some-fails, some_at}
use Rattle.game.proofs.Counts.{count-below}
use Rattle.game.proofs.Sizes.{among-length}

-- ---- one move

every-at : (n : ℕ) (p : ℕ → Bool) → every_below n p ≡ true → (i : ℕ) → i < n → p i ≡ true
every-at n p h i l = by_bool (λ b. b ≡ true) (p i) (λ e. refl) (λ e. not-both (every_below n p) h (every-fails n p i l e))

some-not-at : (n : ℕ) (p : ℕ → Bool) → some_below n p ≡ false → (i : ℕ) → i < n → p i ≡ false
some-not-at n p h i l = by_bool (λ b. b ≡ false) (p i) (λ e. not-both (some_below n p) (some_of n p i l e) h) (λ e. refl)

every-not-at : (n : ℕ) (p : ℕ → Bool) → every_below n p ≡ false → (i : ℕ) × (i < n) × (p i ≡ false)
unfolding every_below
every-not-at zero p h = absurd (true≢false h)
every-not-at (suc n) p h = go (p n) refl h (every-not-at n p)
  where
    go : (b : Bool) → p n ≡ b → b && every_below n p ≡ false → (every_below n p ≡ false → (i : ℕ) × (i < n) × (p i ≡ false)) → (i : ℕ) × (i < suc n) × (p i ≡ false)
    go false e h earlier = (n, omega arith, e)
    go true e h earlier = let (i, l, f) = earlier h in (i, omega arith, f)

module _ (vs : List ℕ) (m : ℕ) (es t : List Ends) where
  -- the cutter is to move: the keeper can force the win exactly if he can whichever link goes
  pub cutter-moves : (wins vs (suc m) cutter es t ≡ true) ↔ ((i : ℕ) → i < suc m → wins vs m keeper (delete_at i es) t ≡ true)
  unfolding wins
  cutter-moves = (λ h. every-at (suc m) _ h, λ h. every_of (suc m) _ h)

  -- and the cutter exactly if he can with some link cut
  pub cutter-forces : (wins vs (suc m) cutter es t ≡ false) ↔ ((i : ℕ) × (i < suc m) × (wins vs m keeper (delete_at i es) t ≡ false))
  unfolding wins
  cutter-forces = (λ h. every-not-at (suc m) _ h, λ r. every-fails (suc m) _ r.0 r.1 r.2)

  -- the keeper is to move: he can force the win exactly if he can with some link made safe
  pub keeper-moves : (wins vs (suc m) keeper es t ≡ true) ↔ ((i : ℕ) × (i < suc m) × (wins vs m cutter (delete_at i es) (at es i ∷ t) ≡ true))
  unfolding wins
  keeper-moves = (λ h. some_at (suc m) _ h, λ r. some_of (suc m) _ r.0 r.1 r.2)

  -- and the cutter exactly if he can whichever link is made safe
  pub keeper-loses : (wins vs (suc m) keeper es t ≡ false) ↔ ((i : ℕ) → i < suc m → wins vs m cutter (delete_at i es) (at es i ∷ t) ≡ false)
  unfolding wins
  keeper-loses = (λ h. some-not-at (suc m) _ h, λ h. some-fails (suc m) _ h)

-- ---- one node

-- the keeper has won, whoever opens and however many loops there are
pub one-node-won : (v : ℕ) (m : ℕ) (who : Player) (es t : List Ends) → wins (v ∷ []) m who es t ≡ true
unfolding wins connected every
one-node-won v zero who es t = refl
one-node-won v (suc m) cutter es t = every_of (suc m) _ (λ i l. one-node-won v m keeper (delete_at i es) t)
one-node-won v (suc m) keeper es t = some_of (suc m) _ 0 (omega arith) (one-node-won v m cutter (delete_at 0 es) (at es 0 ∷ t))

-- a set of links that has a place has a link
some-link : (p : ℕ → Bool) (es : List Ends) (i : ℕ) → i < length es → p i ≡ true → 0 < length (among p es)
some-link p es i l h = omega (arith, among-length p es, count-below (length es) i p l h)

-- and its two trees have no link
pub one-node-marks : (v : ℕ) (es : List Ends) (ts : List ℕ) → TwoTrees (v ∷ []) es ts → (i : ℕ) → get_or ts i 0 ≡ 0
one-node-marks v es ts trees i = go (dec_lt i (length es)) (get_or ts i 0) refl
  where
    bare : (k : ℕ) → SpanningTree (v ∷ []) (among (marked k ts) es) → i < length es → get_or ts i 0 ≡ k → ⊥
    bare k tree l e = omega (arith, tree.size, some-link (marked k ts) es i l (eq-eqb (get_or ts i 0) k e))

    go : Dec (i < length es) → (k : ℕ) → get_or ts i 0 ≡ k → k ≡ 0
    go (no h) k e = sym e ∙ trees.none i (omega arith)
    go (yes h) zero e = refl
    go (yes h) (suc zero) e = absurd (bare 1 trees.first h e)
    go (yes h) (suc (suc zero)) e = absurd (bare 2 trees.second h e)
    go (yes h) (suc (suc (suc k))) e = absurd (omega (arith, trees.small i))
