-- The call's verdict: which cause is met first, and what is accepted.
use Prim.Native.Nat.{ℕ, ◌≤◌, ◌<◌}
use mathlib.Core.Path.{◌≡◌, refl}
use mathlib.Core.List.{List}
use mathlib.Core.Logic.{◌↔◌}
use lib.Dec.{ltb}
use borrow.Author.Tests.{lt-ltb, le-ltb, ltb-false}
use Rattle.plan.specs.declared.Cause.{Cause}
use Rattle.std.specs.Prelude.{Ok, Err}
use Rattle.plan.specs.Plans.{WellFormed, verdict}
use Rattle.plan.proofs.Verdicts.{accepted-means}
use Rattle.causes.specs.declared.CallCause.TheVariants.{Buffer, Plan}
use Rattle.refusals.specs.Refusals.{planned}
use Rattle.refusals.proofs.Calls.{unmet, planned-means, also-means}
use Rattle.game_desk.specs.Games.{game_room, game_verdict}

module _ (room : ℕ) where
  pub room-means : game_room room ≡ Ok tt ↔ 98 ≤ room
  unfolding game_room
  room-means = (λ e. ltb-false room 98 (unmet (ltb room 98) Buffer (Ok tt) e).0, λ h. simp (le-ltb room 98 h))

  short : room < 98 → game_room room ≡ Err Buffer
  unfolding game_room
  short h = simp (lt-ltb room 98 h)

-- ---- in order

module _ (plan : List ℕ) (room : ℕ) where
  -- a short buffer is refused, whatever the plan
  pub short-refused : room < 98 → game_verdict plan room ≡ Err Buffer
  short-refused h = let q = short room h in rw q refl

  -- then the plan is refused for its own cause
  pub plan-refused : 98 ≤ room → (c : Cause) → verdict plan ≡ Err c → game_verdict plan room ≡ Err (Plan c)
  plan-refused h c e = let q = (room-means room).1 h in rw (q, e) refl

  -- a buffer of 98 bytes at least, and an accepted plan
  pub game-means : game_verdict plan room ≡ Ok tt ↔ (98 ≤ room) × WellFormed plan
  game-means =
      let w = accepted-means plan in
      let p = planned-means (verdict plan) in
      let r = room-means room in
      let e = also-means (game_room room) (planned (verdict plan)) in
      (λ h. let (x, y) = e.0 h in (r.0 x, w.0 (p.0 y)), λ h. e.1 (r.1 h.0, p.1 (w.1 h.1)))
