-- Verdicts of a call: the numbers returned, and what is accepted.
use Prim.Native.Nat.{ℕ, ◌+◌, ◌-◌, ◌^◌, ◌≤◌, ◌<◌}
use mathlib.Core.Path.{◌≡◌, refl, sym, ap, ◌∙◌}
use mathlib.Core.List.{List}
use mathlib.Core.Logic.Iff
use mathlib.Core.Logic.{◌↔◌}
use mathlib.Core.Bool.{Bool, true, false, cond, ◌||◌}
use native.Mathlib.Omega.{arith}
use lib.Dec.{eqb, leb, ltb}
use lib.Pow.{pow_mono}
use borrow.Author.Tests.{le-ltb, lt-leb, ne_eqb, ltb-false, leb-false, eqb-false}
use Rattle.tables.specs.Tables.{sized, well_rated, AcceptedTable}
use Rattle.tables.proofs.Theorems.{accepted-table}
use Rattle.plan.specs.declared.Cause.{Cause}
use Rattle.std.specs.Prelude.{Ok, Err}
use Rattle.plan.specs.Plans.{Verdict, WellFormed, size_n, size_m, verdict, returned}
use Rattle.plan.proofs.Verdicts.{accepted-means, not-refused}
use Rattle.causes.specs.declared.CallCause.{CallCause}
use Rattle.causes.specs.declared.CallCause.TheVariants.{Limit, Buffer, TableSize, TableValues, Place, Choice}
use Rattle.causes.specs.Causes.{CallVerdict, call_returned}
use Rattle.causes.proofs.Laws.{both-passed}
use Rattle.refusals.specs.Refusals.{asked, work_room, tabled, planned, planned_second, placed, named, also, table_and_plan, figure_verdict, chosen_verdict, sitting_verdict}

-- ---- the numbers returned

-- plan A's number is that which check returns, and plan B's is 20 more
pub first-returned : (v : Verdict) → call_returned (planned v) ≡ returned v
first-returned (Ok tt) = refl
first-returned (Err c) = refl

pub second-returned : (c : Cause) → call_returned (planned_second (Err c)) ≡ returned (Err c) + 20
second-returned c = omega arith

-- ---- what is accepted

-- what is not refused for a cause does not meet it
pub unmet : (t : Bool) (c : CallCause) (v : CallVerdict) → cond t (Err c) v ≡ Ok tt → (t ≡ false) × (v ≡ Ok tt)
unmet true c v e = not-refused e
unmet false c v e = (refl, e)

-- nor either of two
neither : (s t : Bool) (c : CallCause) → ◌≡◌ {A = CallVerdict} (cond (s || t) (Err c) (Ok tt)) (Ok tt) → (s ≡ false) × (t ≡ false)
neither true t c e = not-refused e
neither false t c e = (refl, (unmet t c (Ok tt) e).0)

pub asked-means : (limit room : ℕ) → asked limit room ≡ Ok tt ↔ (limit ≤ 1000000) × (16 ≤ room)
unfolding asked
asked-means limit room = (
  λ e.
      let (p, q) = unmet (ltb 1000000 limit) Limit (cond (ltb room 16) (Err Buffer) (Ok tt)) e in
      (ltb-false 1000000 limit p, ltb-false room 16 (unmet (ltb room 16) Buffer (Ok tt) q).0),
  λ h. simp (le-ltb 1000000 limit h.0, le-ltb room 16 h.1),
)

pub work-room-means : (work : ℕ) → work_room work ≡ Ok tt ↔ 776 ≤ work
unfolding work_room
work-room-means work = (λ e. ltb-false work 776 (unmet (ltb work 776) Buffer (Ok tt) e).0, λ h. simp (le-ltb work 776 h))

pub placed-means : (plan : List ℕ) (place : ℕ) → placed plan place ≡ Ok tt ↔ place < size_m plan
unfolding placed
placed-means plan place = (
  λ e. leb-false (size_m plan) place (unmet (leb (size_m plan) place) Place (Ok tt) e).0,
  λ h. simp (lt-leb (size_m plan) place h),
)

-- a choice of nodes of the plan, one at least
pub named-means : (plan : List ℕ) (choice : ℕ) → named plan choice ≡ Ok tt ↔ (0 < choice) × (choice < 2 ^ size_n plan)
unfolding named
named-means plan choice = (
  λ e.
      let (p, q) = neither (eqb choice 0) (leb (2 ^ size_n plan) choice) Choice e in
      let some = eqb-false choice 0 p in
      (omega (arith, some), leb-false (2 ^ size_n plan) choice q),
  λ h. simp (ne_eqb choice 0 (λ e. omega arith), lt-leb (2 ^ size_n plan) choice h.1),
)

pub planned-means : (v : Verdict) → planned v ≡ Ok tt ↔ v ≡ Ok tt
planned-means (Ok tt) = (λ e. refl, λ h. refl)
planned-means (Err c) = (not-refused, not-refused)

pub second-means : (v : Verdict) → planned_second v ≡ Ok tt ↔ v ≡ Ok tt
second-means (Ok tt) = (λ e. refl, λ h. refl)
second-means (Err c) = (not-refused, not-refused)

pub also-means : (u v : CallVerdict) → also u v ≡ Ok tt ↔ (u ≡ Ok tt) × (v ≡ Ok tt)
also-means (Ok tt) v = (λ e. (refl, e), λ h. h.1)
also-means (Err c) v = (not-refused, λ h. h.0)

-- an accepted table is the built-in one or 512 values that begin with S and never rise
pub tabled-means : (table : List ℕ) → tabled table ≡ Ok tt ↔ AcceptedTable table
unfolding tabled
tabled-means table = Iff.trans (both-passed (sized table) (well_rated table) TableSize TableValues, λ h. rw (h.0, h.1) refl) (accepted-table table)

pub table-and-plan-means : (plan table : List ℕ) → table_and_plan plan table ≡ Ok tt ↔ AcceptedTable table × WellFormed plan
table-and-plan-means plan table =
    let t = tabled-means table in
    let p = Iff.trans (planned-means (verdict plan)) (accepted-means plan) in
    let e = also-means (tabled table) (planned (verdict plan)) in
    (λ h. (t.0 (e.0 h).0, p.0 (e.0 h).1), λ h. e.1 (t.1 h.0, p.1 h.1))

-- the causes of a figure: the limit, the buffer, the table, the plan
pub figure-means : (plan table : List ℕ) (limit room : ℕ) → figure_verdict plan table limit room ≡ Ok tt ↔ (limit ≤ 1000000) × (16 ≤ room) × AcceptedTable table × WellFormed plan
figure-means plan table limit room =
    let a = asked-means limit room in
    let g = table-and-plan-means plan table in
    let e = also-means (asked limit room) (table_and_plan plan table) in
    (λ h. let (x, y) = e.0 h in ((a.0 x).0, (a.0 x).1, (g.0 y).0, (g.0 y).1), λ h. e.1 (a.1 (h.0, h.1), g.1 (h.2, h.3)))

-- as the calls' callees ask it
pub figure-asks : (plan table : List ℕ) (limit room : ℕ) → figure_verdict plan table limit room ≡ Ok tt
    → (limit ≤ 1000000) × (16 ≤ room) × AcceptedTable table × (verdict plan ≡ Ok tt)
figure-asks plan table limit room e =
    let h = (figure-means plan table limit room).0 e in
    (h.0, h.1, h.2, (accepted-means plan).1 h.3)

-- of a figure of chosen nodes: those of a figure, and then the choice
pub chosen-means : (plan table : List ℕ) (choice limit room : ℕ)
    → chosen_verdict plan table choice limit room ≡ Ok tt ↔ (figure_verdict plan table limit room ≡ Ok tt) × (0 < choice) × (choice < 2 ^ size_n plan)
chosen-means plan table choice limit room =
    let n = named-means plan choice in
    let e = also-means (figure_verdict plan table limit room) (named plan choice) in
    (λ h. let (u, v) = e.0 h in (u, (n.0 v).0, (n.0 v).1), λ h. e.1 (h.0, n.1 (h.1, h.2)))

-- each of them
pub chosen-accepts : (plan table : List ℕ) (choice limit room : ℕ)
    → chosen_verdict plan table choice limit room ≡ Ok tt ↔ (limit ≤ 1000000) × (16 ≤ room) × AcceptedTable table × WellFormed plan × (0 < choice) × (choice < 2 ^ size_n plan)
chosen-accepts plan table choice limit room =
    let w = figure-means plan table limit room in
    let e = chosen-means plan table choice limit room in
    (λ h. let (f, s, l) = e.0 h in let c = w.0 f in (c.0, c.1, c.2, c.3, s, l), λ h. e.1 (w.1 (h.0, h.1, h.2, h.3), h.4, h.5))

-- as the call's callees ask it
pub chosen-asks : (plan table : List ℕ) (choice limit room : ℕ) → chosen_verdict plan table choice limit room ≡ Ok tt
    → (limit ≤ 1000000) × (16 ≤ room) × AcceptedTable table × (verdict plan ≡ Ok tt) × (0 < choice) × (choice < 2 ^ size_n plan)
chosen-asks plan table choice limit room e =
    let (f, s, l) = (chosen-means plan table choice limit room).0 e in
    let h = figure-asks plan table limit room f in
    (h.0, h.1, h.2, h.3, s, l)

-- with all nodes chosen, no cause more than a figure's
pub chosen-all : (plan table : List ℕ) (limit room : ℕ) → chosen_verdict plan table (2 ^ size_n plan - 1) limit room ≡ figure_verdict plan table limit room
chosen-all plan table limit room =
    no_more (figure_verdict plan table limit room) (named plan (2 ^ size_n plan - 1)) (λ e.
    let some = pow_mono ((figure-means plan table limit room).0 e).3.some_node in
    (named-means plan (2 ^ size_n plan - 1)).1 (omega arith, omega arith))
  where
    no_more : (u v : CallVerdict) → (u ≡ Ok tt → v ≡ Ok tt) → also u v ≡ u
    no_more (Ok tt) v h = h refl
    no_more (Err c) v h = refl

-- and of a sitting, but for its saved work: both buffers
pub sitting-means : (plan table : List ℕ) (limit room work : ℕ)
    → sitting_verdict plan table limit room work ≡ Ok tt ↔ (limit ≤ 1000000) × (16 ≤ room) × (776 ≤ work) × AcceptedTable table × WellFormed plan
sitting-means plan table limit room work =
    let a = asked-means limit room in
    let w = work-room-means work in
    let g = table-and-plan-means plan table in
    let b = also-means (asked limit room) (work_room work) in
    let e = also-means (also (asked limit room) (work_room work)) (table_and_plan plan table) in (
      λ h. let (x, y) = e.0 h in let (u, v) = b.0 x in ((a.0 u).0, (a.0 u).1, w.0 v, (g.0 y).0, (g.0 y).1),
      λ h. e.1 (b.1 (a.1 (h.0, h.1), w.1 h.2), g.1 (h.3, h.4)),
    )

-- ---- one verdict, then another

-- behind an accepted verdict the next is returned
pub passed_on : (v u w r : CallVerdict) → v ≡ u → v ≡ Ok tt → r ≡ w → r ≡ also u w
passed_on v u w r e a g = let h : u ≡ (Ok tt) = sym e ∙ a in rw h g

-- a refusal is returned itself
pub refused-first : (v u w : CallVerdict) (c : CallCause) → v ≡ u → v ≡ Err c → Err c ≡ also u w
refused-first v u w c e r = ap (λ (x : CallVerdict). also x w) (sym r ∙ e)
