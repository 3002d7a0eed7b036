-- One law for an answer or a refusal, one for an answer read back.
use Prim.Native.Nat.{ℕ, suc, ◌+◌, ◌-◌, ◌*◌, ◌^◌, ◌≤◌, ◌<◌, max}
use mathlib.Core.Path.{◌≡◌, refl, sym, ap, subst}
use mathlib.Core.List.{List, []}
use mathlib.Core.Logic.{◌⊎◌, inl, inr}
use mathlib.Core.Bool.{Bool, true, false, cond, ◌&&◌}
use native.Mathlib.Omega.{arith}
use lib.Dec.{leb}
use lib.IntN.{ℤ, pos, negsuc}
use lib.Signed.{mag}
use lib.ListN.{length, length-drop}
use borrow.Author.Tests.{lt-ltb, le-ltb, le-leb, lt-leb, leb-true, leb-false}
use Rattle.rounding.specs.Rounding.{S}
use Rattle.reliability.specs.declared.Figure.{Figure}
use Rattle.reliability.specs.Networks.{Valid}
use Rattle.reliability.specs.Exact.{Weighted, sum, total, altogether}
use Rattle.tables.specs.Tables.{rating, AcceptedTable}
use Rattle.tables.proofs.Theorems.{rating-range}
use Rattle.plan.specs.Plans.{WellFormed, plan_of}
use Rattle.plan.proofs.Verdicts.{accepted-means}
use Rattle.plan.specs.Weights.{weights_of, exact_among}
use Rattle.plan.proofs.Accepted.{plan-valid, plan-links, plan-nodes}
use Rattle.plan.proofs.Weights.{unitsIn, plan-units, plan-total}
use Rattle.causes.specs.Causes.{CallVerdict}
use Rattle.std.specs.Prelude.{Ok, Err}
use Rattle.causes.specs.Outcomes.{Outcome, unless, Refusal}
use Rattle.causes.proofs.Laws.{call-number-range}
use Rattle.answers.specs.Answers.{with_figure, Holds}
use Rattle.answers.proofs.Laws.{written}
use Rattle.desk.specs.Outcomes.{twos}
use Rattle.desk.specs.Answers.{signed, EnclosesAmong, Narrow, Marked, Full}

-- ---- accepted or refused

pub full-or-refused : (f : Figure) (b : List ℕ) (v : CallVerdict) → (v ≡ Ok tt → 16 ≤ length b)
    → Full (unless v b (with_figure f b)) b (with_figure f b) ⊎ Refusal (unless v b (with_figure f b)) b
full-or-refused f b (Ok tt) room = inl (record { zero = refl; written = refl; later = refl; size = omega (arith, room refl, length-drop 16 b) })
full-or-refused f b (Err c) room = inr (record { numbered = omega (arith, call-number-range c); untouched = refl })

pub valid-of : (plan table : List ℕ) → AcceptedTable table → WellFormed plan → Valid (plan_of (rating table) plan)
valid-of plan table fine w = plan-valid (rating table) plan (rating-range table fine) ((accepted-means plan).1 w)

-- ---- an answer read back

pub mark-true : {x : ℕ} (t : Bool) → x ≡ cond t 1 0 → x ≡ 1 → t ≡ true
mark-true true e h = refl
mark-true false e h = absurd (omega arith)

-- a call that returned 0 left its figure's numbers in the buffer
pub read_back : (f : Figure) (b : List ℕ) {o : Outcome} → Full o b (with_figure f b) ⊎ Refusal o b → o.returned ≡ 0
    → (f.low < 2 ^ 32) × (f.high < 2 ^ 32) × (f.steps < 2 ^ 32) → Holds o.buffer f
read_back f b (inl full) zero h = subst (λ l. Holds l f) (sym full.written) (written f b h)
read_back f b (inr refusal) zero h = absurd (omega (arith, refusal.numbered))

-- what is promised of a plan's figure, of the numbers that the buffer holds
module _ (plan table after : List ℕ) (f : Figure) (holds : Holds after f) where
  abbrev ws : List Weighted
  ws = weights_of (rating table) plan

  pub encloses-read : (cs : List ℕ) → AcceptedTable table → (f.low * total ws ≤ S * sum cs ws []) × (S * sum cs ws [] ≤ f.high * total ws) → EnclosesAmong cs plan table after
  unfolding exact_among
  encloses-read cs fine h =
      let all = plan-total plan (rating table) (rating-range table fine) in
      record { low = rw (holds.low, ← all) h.0; high = rw (holds.high, ← all) h.1 }

  pub width_read : (f.finished ≡ true → f.high ≤ f.low + (2 * length (plan_of (rating table) plan).links + 4 * length (plan_of (rating table) plan).nodes + 2 * altogether (unitsIn plan)))
      → Narrow plan after
  width_read h done = omega (arith, h (mark-true f.finished holds.finished done), holds, plan-links (rating table) plan, plan-nodes (rating table) plan, plan-units plan)

pub signed_back : (z : ℤ) → mag z < 2 ^ 31 → signed (twos z) ≡ z
unfolding signed
signed_back (pos n) h = simp (lt-ltb n 2147483648 h)
signed_back (negsuc n) h =
    let top : 2147483648 ≤ 4294967295 - n = omega arith in
    let left : 4294967296 - suc (4294967295 - n) ≡ n = omega arith in
    simp (le-ltb (4294967295 - n) 2147483648 top, lt-ltb (4294967295 - n) 4294967296 (omega arith)) (ap negsuc left)

pub twos-range : (z : ℤ) → mag z < 2 ^ 31 → twos z < 2 ^ 32
twos-range (pos n) h = omega arith
twos-range (negsuc n) h = omega arith

-- ---- the mark

pub marked : (needed limit : ℕ) {x : ℕ} → x ≡ cond (leb needed limit) 1 0 → Marked x needed limit
marked needed limit {x} e = go (leb needed limit) (leb-true needed limit) (leb-false needed limit) e
  where
    go : (t : Bool) → (t ≡ true → needed ≤ limit) → (t ≡ false → limit < needed) → x ≡ cond t 1 0 → Marked x needed limit
    go true few many e = omega (arith, few refl)
    go false few many e = omega (arith, many refl)

-- of two evaluations both are finished where the one that needs more is
pub both-finished : (a b limit : ℕ) → leb a limit && leb b limit ≡ leb (max a b) limit
both-finished a b limit = go (leb a limit) (leb b limit) refl refl
  where
    go : (s t : Bool) → leb a limit ≡ s → leb b limit ≡ t → s && t ≡ leb (max a b) limit
    go true true p q = sym (le-leb (max a b) limit (omega (arith, leb-true a limit p, leb-true b limit q)))
    go true false p q = sym (lt-leb (max a b) limit (omega (arith, leb-false b limit q)))
    go false t p q = sym (lt-leb (max a b) limit (omega (arith, leb-false a limit p)))
