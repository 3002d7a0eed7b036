-- The call's verdict: which cause is met first, and what is accepted.
use Prim.Native.Nat.{ℕ, ◌+◌, ◌≤◌, ◌<◌}
use mathlib.Core.Path.{◌≡◌, refl}
use mathlib.Core.List.{List}
use mathlib.Core.Logic.{◌↔◌}
use lib.Dec.{ltb}
use borrow.Author.Tests.{lt-ltb, le-ltb, ltb-false}
use Rattle.plan.specs.declared.Cause.{Cause}
use Rattle.std.specs.Prelude.{Ok, Err}
use Rattle.plan.specs.Plans.{WellFormed, size_m, verdict}
use Rattle.plan.proofs.Verdicts.{accepted-means}
use Rattle.causes.specs.declared.CallCause.TheVariants.{ManyLinks, RowSize, Plan}
use Rattle.refusals.specs.Refusals.{also, planned}
use Rattle.refusals.proofs.Calls.{unmet, planned-means, also-means}
use Rattle.count_desk.specs.Counts.{few, row_room, counts_verdict}

-- ---- the two causes

module _ (plan : List ℕ) where
  pub few-means : few plan ≡ Ok tt ↔ size_m plan ≤ 24
  unfolding few
  few-means = (λ e. ltb-false 24 (size_m plan) (unmet (ltb 24 (size_m plan)) ManyLinks (Ok tt) e).0, λ h. simp (le-ltb 24 (size_m plan) h))

  pub many : 24 < size_m plan → few plan ≡ Err ManyLinks
  unfolding few
  many h = simp (lt-ltb 24 (size_m plan) h)

module _ (plan : List ℕ) (room : ℕ) where
  pub row-room-means : row_room plan room ≡ Ok tt ↔ size_m plan + 1 ≤ room
  unfolding row_room
  row-room-means = (
    λ e. ltb-false room (size_m plan + 1) (unmet (ltb room (size_m plan + 1)) RowSize (Ok tt) e).0,
    λ h. simp (le-ltb room (size_m plan + 1) h),
  )

  pub short : room < size_m plan + 1 → row_room plan room ≡ Err RowSize
  unfolding row_room
  short h = simp (lt-ltb room (size_m plan + 1) h)

  -- ---- in order

  -- a refused plan is refused for its own cause, whatever its links and the row
  pub plan-refused : (c : Cause) → verdict plan ≡ Err c → counts_verdict plan room ≡ Err (Plan c)
  plan-refused c e = rw e refl

  -- then for its links, whatever the row
  pub many-refused : verdict plan ≡ Ok tt → 24 < size_m plan → counts_verdict plan room ≡ Err ManyLinks
  many-refused e h = let q = many plan h in rw (e, q) refl

  -- then for the row
  pub short-refused : verdict plan ≡ Ok tt → size_m plan ≤ 24 → room < size_m plan + 1 → counts_verdict plan room ≡ Err RowSize
  short-refused e h k = let f = (few-means plan).1 h in let q = short k in rw (e, f, q) refl

  -- as the call's callees ask it
  pub counts-asks : counts_verdict plan room ≡ Ok tt ↔ (verdict plan ≡ Ok tt) × (size_m plan ≤ 24) × (size_m plan + 1 ≤ room)
  counts-asks =
      let p = planned-means (verdict plan) in
      let f = few-means plan in
      let r = row-room-means in
      let b = also-means (few plan) (row_room plan room) in
      let e = also-means (planned (verdict plan)) (also (few plan) (row_room plan room)) in (
        λ h. let (x, y) = e.0 h in let (u, v) = b.0 y in (p.0 x, f.0 u, r.0 v),
        λ h. e.1 (p.1 h.0, b.1 (f.1 h.1, r.1 h.2)),
      )

  -- the plan, at most 24 links, a row of m + 1 numbers at least
  pub counts-means : counts_verdict plan room ≡ Ok tt ↔ WellFormed plan × (size_m plan ≤ 24) × (size_m plan + 1 ≤ room)
  counts-means =
      let w = accepted-means plan in
      let e = counts-asks in
      (λ h. let (x, f, r) = e.0 h in (w.0 x, f, r), λ h. e.1 (w.1 h.0, h.1, h.2))
