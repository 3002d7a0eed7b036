-- What is promised of the call, for all inputs.
use Prim.Native.Nat.{ℕ, ◌≤◌}
use mathlib.Core.Path.{◌≡◌, refl, sym, ap, ap₂, subst₂, ◌∙◌}
use mathlib.Core.List.Memᴰ
use mathlib.Core.List.{List, [], ◌∷◌, ◌++◌, map, append_assoc}
use mathlib.Core.Bool.{Bool, true, cond}
use mathlib.Core.Logic.Iff
use mathlib.Core.Logic.{◌⊎◌, inl, inr, ◌↔◌}
use native.Mathlib.Omega.{arith}
use lib.ListN.{length, get_or, take, drop, replicate, length-append, length-drop}
use lib.Seq.{take_at, drop_at, ext_get_or}
use Rattle.ratings.specs.Ratings.{T}
use Rattle.ratings.proofs.Laws.{built-in-range}
use Rattle.reliability.specs.Networks.{ends}
use Rattle.search.specs.Searches.{from}
use Rattle.plan.specs.Plans.{WellFormed, size_n, size_m, plan_of}
use Rattle.plan.proofs.Verdicts.{accepted-means}
use Rattle.plan.proofs.Links.{same_ends}
use Rattle.plan.proofs.Accepted.{plan-valid}
use Rattle.causes.specs.declared.CallCause.{CallCause}
use Rattle.causes.specs.Causes.{CallVerdict}
use Rattle.std.specs.Prelude.{Ok, Err}
use Rattle.causes.specs.Causes.{call_returned}
use Rattle.causes.specs.Outcomes.{unless, Refusal}
use Rattle.causes.proofs.Laws.{call-number-range}
use Rattle.causes.proofs.Outcomes.{zero_of, answers}
use Rattle.game.specs.Game.{Player, cutter, keeper, keeper_wins, Certificate}
use Rattle.game.proofs.Ahead.{zeros}
use Rattle.game.proofs.Bools.{by_bool}
use Rattle.game.proofs.Keeper.{Inside}
use Rattle.game.proofs.Theorems.{trees-win-opening}
use Rattle.game.proofs.Play.{one-node-won, one-node-marks}
use Rattle.game_desk.specs.Games.{game_verdict, game_returned, nodes_of, ends_of, winner, Shown, with_game, game_outcome, GameLeaves, Played}
use Rattle.game_desk.proofs.Verdicts.{game-means}

-- a plan's links join its nodes
inside : (plan : List ℕ) → WellFormed plan → Inside (nodes_of plan) (ends_of plan)
inside plan w e m =
    let (l, i, q) = Memᴰ.of_map ends (plan_of T plan).links m in
    let p = (plan-valid T plan built-in-range ((accepted-means plan).1 w)).proper l i in
    (rw (← q) p.a_node, rw (← q) p.b_node)

module _ (plan b : List ℕ) where
  abbrev v : CallVerdict
  v = game_verdict plan (length b)

  abbrev r : ℕ
  r = game_returned plan (length b)

  game-returned : r ≡ call_returned v
  unfolding game_returned
  game-returned = refl

  -- 0 exactly when the verdict is accepted
  game-zero : r ≡ 0 ↔ v ≡ Ok tt
  game-zero = zero_of v game-returned

  -- a buffer of 98 bytes at least and an accepted plan, and no other call
  pub game-accepted : r ≡ 0 ↔ (98 ≤ length b) × WellFormed plan
  game-accepted = Iff.trans game-zero (game-means plan (length b))

  -- whatever is shown, an outcome returns what the call does
  pub outcome-returned : (s : Shown) → (game_outcome plan s b).returned ≡ r
  unfolding game_outcome game_returned
  outcome-returned s = go v
    where
      go : (u : CallVerdict) → (unless u b (with_game plan s b)).returned ≡ call_returned u
      go (Ok tt) = refl
      go (Err c) = refl

  module _ (after : List ℕ) (left : GameLeaves plan b after) where
    -- a refused call leaves the buffer as it was
    pub game-refused : (c : CallCause) → v ≡ Err c → (r ≡ call_returned (Err c)) × (after ≡ b)
    unfolding game_outcome
    game-refused c e = (game-returned ∙ ap call_returned e, left.buffer ∙ (rw e refl))

    -- an accepted one the 98 bytes, and what stood behind them
    filled : v ≡ Ok tt → after ≡ with_game plan left.shown b
    unfolding game_outcome
    filled e = left.buffer ∙ sym (answers v b (with_game plan left.shown b) e).1

    -- a call that returned 0 left a full answer
    pub game-played : r ≡ 0 → Played plan b after
    game-played z =
        let ok = game-zero.0 z in
        let room = ((game-means plan (length b)).0 ok).0 in
        let c = left.certificate ok in
        let ts = left.shown.trees in
        let hs = left.shown.groups in
        let rest = drop 98 b in
        let x = winner cutter plan in
        let y = winner keeper plan in
        let is = filled ok in
        let trees : take 64 (drop 2 after) ≡ ts =
        ap (λ l. take 64 (drop 2 l)) is ∙ ap (take 64) (append_assoc ts hs rest) ∙ take_at ts (hs ++ rest) 64 c.sizes.0 in
        let back : drop 66 after ≡ hs ++ rest = ap (drop 66) is ∙ ap (drop 64) (append_assoc ts hs rest) ∙ drop_at ts (hs ++ rest) 64 c.sizes.0 in
        let groups : take 32 (drop 66 after) ≡ hs = ap (take 32) back ∙ take_at hs rest 32 c.sizes.1 in
        record {
          second = ap (λ l. get_or l 0 0) is;
          first = ap (λ l. get_or l 1 0) is;
          certificate = subst₂ (Certificate (nodes_of plan) (ends_of plan)) (sym trees) (sym groups) c;
          behind = ap (drop 98) is ∙ drop_at (x ∷ y ∷ (ts ++ hs)) rest 98 (omega (arith, length-append ts hs, c.sizes.0, c.sizes.1));
          size = ap length is ∙ omega (arith, room, c.sizes.0, c.sizes.1, length-append (ts ++ hs) rest, length-append ts hs, length-drop 98 b);
        }

    -- either a full answer or a numbered refusal with the buffer untouched
    pub played-or-refused : Played plan b after ⊎ Refusal (record { returned = r; buffer = after }) b
    played-or-refused = go v refl
      where
        go : (u : CallVerdict) → v ≡ u → Played plan b after ⊎ Refusal (record { returned = r; buffer = after }) b
        go (Ok tt) e = inl (game-played (game-zero.1 e))
        go (Err c) e = let (n, same) = game-refused c e in inr (record { numbered = omega (arith, n, call-number-range c); untouched = same })

    -- byte 1 is 1 wherever byte 0 is: to open is no harm to the keeper
    pub opening-helps : r ≡ 0 → winner cutter plan ≡ 1 → winner keeper plan ≡ 1
    unfolding winner
    opening-helps z w =
        let ok = game-zero.0 z in
        let won : keeper_wins cutter (nodes_of plan) (ends_of plan) ≡ true = by_bool (λ t. t ≡ true) (keeper_wins cutter (nodes_of plan) (ends_of plan)) (λ e. refl) (λ e. absurd (omega (arith, w, ap (λ (t : Bool). cond {A = ℕ} t 1 0) e))) in
        let two = ((left.certificate ok).trees won).0 in
        ap (λ (t : Bool). cond t 1 0) (trees-win-opening (nodes_of plan) (ends_of plan) left.shown.trees (inside plan ((game-means plan (length b)).0 ok).1) two)

    -- one node: 1, 1 and zeros, with loops too
    pub one-node : r ≡ 0 → size_n plan ≡ 1 → after ≡ 1 ∷ 1 ∷ (replicate 64 0 ++ replicate 32 0 ++ drop 98 b)
    unfolding winner from
    one-node z e =
        let ok = game-zero.0 z in
        let c = left.certificate ok in
        let ts = left.shown.trees in
        let hs = left.shown.groups in
        let one : nodes_of plan ≡ 0 ∷ [] = ap (from 0) e in
        let won : (who : Player) → keeper_wins who (nodes_of plan) (ends_of plan) ≡ true =
        λ who. ap (λ vs. keeper_wins who vs (ends_of plan)) one ∙ one-node-won 0 (length (ends_of plan)) who (ends_of plan) [] in
        let (trees, none) = c.trees (won cutter) in
        let marks : ts ≡ replicate 64 0 = ext_get_or 0 ts (replicate 64 0) c.sizes.0 (λ i l. one-node-marks 0 (ends_of plan) ts (rw one at trees) i ∙ sym (zeros 64 i)) in
        filled ok
        ∙ ap₂ (λ (p q : Bool). cond p 1 0 ∷ cond q 1 0 ∷ (ts ++ hs ++ drop 98 b)) (won cutter) (won keeper)
        ∙ ap₂ (λ k l. 1 ∷ 1 ∷ (k ++ l ++ drop 98 b)) marks none

-- ---- ratings

-- no value of a link bears on the game: the nodes and the links' ends are the same by any ratings
pub any-ratings : (ratings : ℕ → ℕ) (plan : List ℕ) → ((plan_of ratings plan).nodes ≡ nodes_of plan) × (map ends (plan_of ratings plan).links ≡ ends_of plan)
any-ratings ratings plan = (refl, same_ends ratings T plan (from 0 (size_m plan)))
