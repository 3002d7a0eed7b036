use Prim.Native.Nat.{ℕ, ◌≤◌}
use mathlib.Core.Path.{◌≡◌, sym, ap, ap₂, subst, subst₂, ◌∙◌}
use mathlib.Core.List.{List, [], ◌∷◌, ◌++◌}
use mathlib.Core.Bool.{Bool, cond}
use native.Mathlib.Omega.{arith}
use lib.ListN.{length, drop}
use Rattle.std.proofs.lemmas.Result.{err_from_is_err_and}
use Rattle.reliability.specs.Networks.{Ends}
use Rattle.search.specs.Searches.{from}
use Rattle.plan.specs.Plans.{WellFormed, size_n}
use Rattle.causes.specs.declared.CallCause.{CallCause}
use Rattle.causes.specs.Causes.{CallVerdict}
use Rattle.std.specs.Prelude.{Ok, Err}
use Rattle.causes.specs.Causes.{call_returned}
use Rattle.causes.proofs.Laws.{call-number-range}
use Rattle.causes.proofs.Outcomes.{refused, answers}
use Rattle.game.specs.Game.{cutter, keeper, keeper_wins, Certificate}
use Rattle.forests.specs.declared.Links.{Links}
use Rattle.forests.specs.declared.Answer.{Answer}
use Rattle.forests.specs.Links.{links_of}
use Rattle.forests.specs.Answers.{Plan, Shows}
use Rattle.game_desk.specs.Games.{game_verdict, game_returned, nodes_of, ends_of, winner, Shown, with_game, game_outcome}
use Rattle.game_desk.proofs.Verdicts.{game-means}
use Rattle.game_desk.proofs.answer_game.Goals as goal
use Rattle.game_desk.proofs.answer_game.Goals.{In_ok-game_verdict}

-- what is found of the plan's links is of the plan
module _ (plan : List ℕ) (l : Links) (n : ℕ) (r : Answer) (size : n ≡ size_n plan) (links : links_of l ≡ ends_of plan) (found : Shows l n r) where
  second_is : cond r.second 1 0 ≡ winner cutter plan
  unfolding winner
  second_is = ap (λ (t : Bool). cond t 1 0) (found.second ∙ ap₂ (λ k (es : List Ends). keeper_wins cutter (from 0 k) es) size links)

  first-is : cond r.first 1 0 ≡ winner keeper plan
  unfolding winner
  first-is = ap (λ (t : Bool). cond t 1 0) (found.first ∙ ap₂ (λ k (es : List Ends). keeper_wins keeper (from 0 k) es) size links)

  certified : Certificate (nodes_of plan) (ends_of plan) r.trees r.groups
  certified = subst₂ (λ k (es : List Ends). Certificate (from 0 k) es r.trees r.groups) size links found.certificate

-- what is refused is not accepted
apart : (v : CallVerdict) (c : CallCause) → v ≡ Err c → v ≡ Ok tt → ⊥
apart v c r a = let e : call_returned (Err c) ≡ 0 = ap call_returned (sym r ∙ a) in omega (arith, call-number-range c)

-- nothing is shown
none : Shown
none = record { trees = []; groups = [] }

pub returns-in_err-game_verdict : goal.returns-in_err-game_verdict
unfolding game_returned game_outcome
returns-in_err-game_verdict c =
    let a = c.args in
    let b = a.answer.now in
    let p = err_from_is_err_and c.from_residual.result c.from_residual.ensures.1 in
    let is = sym c.game_verdict.ensures ∙ c.in_err-game_verdict.was in
    record {
      returned = ap call_returned (rw (p.1, p.2) (sym is));
      game_leaves = record { shown = none; certificate = λ e. absurd (apart _ _ is e); buffer = (refused (game_verdict a.plan.now (length b)) b (with_game a.plan.now none b) _ is).1 };
    }

ok : (c : In_ok-game_verdict) → let a = c.args in game_verdict a.plan.now (length a.answer.now) ≡ Ok tt
ok c = sym c.game_verdict.ensures ∙ c.in_ok-game_verdict.was

-- the buffer and the plan were accepted
asks : (c : In_ok-game_verdict) → let a = c.args in (98 ≤ length a.answer.now) × WellFormed a.plan.now
asks c = let a = c.args in (game-means a.plan.now (length a.answer.now)).0 (ok c)

pub sizes_of-requires : goal.sizes_of-requires
sizes_of-requires c = omega (arith, (asks c).1.whole)

pub links_of-requires : goal.links_of-requires
links_of-requires c = (asks (goal.at.links_of-requires c).In_ok-game_verdict).1

pub decided-requires : goal.decided-requires
decided-requires c = subst (Plan c.links_of.result) (sym (c.from-n.ensures ∙ c.sizes_of.ensures.0)) c.links_of.ensures.1

pub put_game-requires : goal.put_game-requires
put_game-requires c = (asks (goal.at.put_game-requires c).In_ok-game_verdict).0

pub returns : goal.returns
unfolding game_returned game_outcome
returns c =
    let a = c.args in
    let plan = a.plan.now in
    let b = a.answer.now in
    let l = c.links_of in
    let r = c.decided.result in
    let size : c.from-n.result ≡ size_n plan = c.from-n.ensures ∙ c.sizes_of.ensures.0 in
    let found = c.decided.ensures in
    let shown : Shown = record { trees = r.trees; groups = r.groups } in
    let e = answers (game_verdict plan (length b)) b (with_game plan shown b) (ok (goal.at.returns c).In_ok-game_verdict) in record {
      returned = ap call_returned (sym (ok (goal.at.returns c).In_ok-game_verdict));
      game_leaves = record {
        shown = shown;
        certificate = λ h. certified plan l.result _ r size l.ensures.0 found;
        buffer = c.put_game.ensures
            ∙ ap₂ (λ x y. x ∷ y ∷ (r.trees ++ r.groups ++ drop 98 b)) (second_is plan l.result _ r size l.ensures.0 found) (first-is plan l.result _ r size l.ensures.0 found)
            ∙ e.1;
      };
    }
