-- Saved work from a plan's earlier sitting is put back whole, so a chain of sittings is the chain of its definition.
use Prim.Native.Nat.{ℕ, ◌+◌, ◌*◌, ◌≤◌, ◌<◌}
use mathlib.Core.Path.{◌≡◌, refl, sym, ap, ap₂, ◌∙◌}
use mathlib.Core.List.{List, [], ◌∷◌, ◌++◌}
use mathlib.Core.Bool.{cond}
use native.Mathlib.Omega.{arith}
use lib.Dec.{eqb}
use lib.ListN.{length, take, drop, get_or, get_or-append}
use lib.Seq.{take_at}
use Rattle.reliability.specs.Networks.{Network, Valid}
use Rattle.reliability.specs.Rule.{Tree, tree}
use Rattle.tables.specs.Tables.{rating, AcceptedTable}
use Rattle.tables.proofs.Theorems.{rating-range}
use Rattle.plan.specs.Plans.{WellFormed, plan_of}
use Rattle.plan.proofs.Verdicts.{accepted-means}
use Rattle.plan.proofs.Accepted.{plan-valid, plan-links}
use Rattle.std.specs.Prelude.{Ok}
use Rattle.sittings.specs.Sittings.{traced, Saved, begun, complete, sitting, saved_after, by_largest_sum}
use Rattle.sittings.proofs.GoodSaved.{GoodSaved, sitting-good, Fits, good-fits}
use Rattle.saved.specs.Format.{count_in, state_in, saved_bytes, over}
use Rattle.saved.proofs.Laws.{begun-size, complete-size, begun-state, begun-taken, begun-count, begun-opens, begun-formed, complete-state, complete-answer, complete-formed}
use Rattle.saved_verdict.proofs.Laws.{saved-means, complete-passes}
use Rattle.sitting_desk.specs.Outcome.{SittingOutcome, carried_on, verdict_of}
use Rattle.sitting_desk.specs.Chains.{Lent, Allowed, AllAllowed, handed, sat, handed_on, limits}
use Rattle.sitting_desk.specs.Demands.{Keeps}
use Rattle.sitting_desk.proofs.Outcomes.{call-accepted, completed, carried}
use Rattle.sitting_desk.proofs.Places.{places-fit}

-- ---- what is handed on

-- the bytes that saved work of this state and count takes
abbrev pub span : List ℕ → ℕ
span b = cond (eqb (state_in b) 1) 24 (8 + 12 * count_in b)

-- saved work written over a buffer is handed on whole
pub handed-over : (b w : List ℕ) → 8 ≤ length b → length b ≡ span b → handed (over b w) ≡ b
unfolding handed
handed-over b w h e =
    let q = drop (length b) w in
    let at : (n : ℕ) → n < 8 → get_or (b ++ q) n 0 ≡ get_or b n 0 = λ n l. get_or-append b q 0 n (omega arith) in
    let state : state_in (b ++ q) ≡ state_in b = omega (arith, at 2 (omega arith), at 3 (omega arith)) in
    let count : count_in (b ++ q) ≡ count_in b = omega (arith, at 0 (omega arith), at 1 (omega arith)) in
    ap₂ (λ s c. take (cond (eqb s 1) 24 (8 + 12 * c)) (b ++ q)) state count ∙ take_at b q (span b) e

pub begun-span : (b : List ℕ) → state_in b ≡ 0 → length b ≡ 8 + 12 * count_in b → length b ≡ span b
begun-span b e h = h ∙ ap (λ s. cond (eqb s 1) 24 (8 + 12 * count_in b)) (sym e)

pub complete-span : (b : List ℕ) → state_in b ≡ 1 → length b ≡ 24 → length b ≡ span b
complete-span b e h = h ∙ ap (λ s. cond (eqb s 1) 24 (8 + 12 * count_in b)) (sym e)

-- ---- one sitting

module _ (plan table : List ℕ) (fine : AcceptedTable table) (well : WellFormed plan) where
  abbrev g : Network
  g = plan_of (rating table) plan

  abbrev t : Tree
  t = tree g

  valid : Valid g
  valid = plan-valid (rating table) plan (rating-range table fine) ((accepted-means plan).1 well)

  few-links : length g.links ≤ 64
  few-links = omega (arith, plan-links (rating table) plan, well.links)

  -- saved work that fits the plan, in its bytes
  pub kept : (s : Saved) → Fits g s → Keeps plan table (saved_bytes s)
  kept (begun os n) f =
      let few : length os ≤ 64 = omega (arith, f.few, few-links) in
      let fit = places-fit g valid few-links os f.traces in
      let formed = begun-formed os n few fit f.in_order f.in_range f.within in
      record {
        size = omega (arith, begun-size os n, f.few, plan-links (rating table) plan);
        enough = omega (arith, begun-size os n);
        again = (saved-means t (saved_bytes (begun os n))).1 (formed, ap (traced t) (begun-opens os n few fit f.in_order f.in_range) ∙ f.traces);
      }
  kept (complete f) c = record {
    size = omega (arith, complete-size f);
    enough = omega (arith, complete-size f);
    again = sym (complete-passes t (saved_bytes (complete f)) (complete-formed f c) (complete-state f));
  }

  pub handed-again : (s : Saved) → Fits g s → (w : List ℕ) → handed (over (saved_bytes s) w) ≡ saved_bytes s
  handed-again (begun os n) f w =
      let b = saved_bytes (begun os n) in
      let few : length os ≤ 64 = omega (arith, f.few, few-links) in
      handed-over b w (omega (arith, begun-size os n)) (begun-span b (begun-state os n) (omega (arith, begun-size os n, begun-count os n few)))
  handed-again (complete f) c w =
      let b = saved_bytes (complete f) in
      handed-over b w (omega (arith, complete-size f)) (complete-span b (complete-state f) (complete-size f))

  accept : (saved : List ℕ) → Keeps plan table saved → (x : Lent) → Allowed x → verdict_of plan table x.limit saved (length x.answer) (length x.work) ≡ Ok tt
  accept saved k x a =
      call-accepted plan table x.limit saved (length x.answer) (length x.work) (record { limited = a.limit; answer = a.room; work = a.space; tabled = fine; well = well; saves = k.again })

  -- a sitting that is handed it is the sitting of its definition
  pub one : (s : Saved) → Fits g s → (x : Lent) → Allowed x → sat plan table (saved_bytes s) x ≡ carried_on (sitting t s x.limit) x.answer x.work
  unfolding sitting
  one (begun os n) f x a =
      let few : length os ≤ 64 = omega (arith, f.few, few-links) in
      let opens = begun-opens os n few (places-fit g valid few-links os f.traces) f.in_order f.in_range in
      carried plan table x.limit (saved_bytes (begun os n)) x.answer x.work (accept (saved_bytes (begun os n)) (kept (begun os n) f) x a) (ap (λ s. eqb s 1) (begun-state os n))
      ∙ ap₂ (λ os n. carried_on (sitting t (begun os n) x.limit) x.answer x.work) opens (begun-taken os n (omega (arith, f.within)))
  one (complete f) c x a =
      completed plan table x.limit (saved_bytes (complete f)) x.answer x.work (accept (saved_bytes (complete f)) (kept (complete f) c) x a) (ap (λ s. eqb s 1) (complete-state f))
      ∙ ap (λ b. record { returned = 0; answer = b ++ drop 16 x.answer; work = over (saved_bytes (complete f)) x.work }) (complete-answer f)

  -- ---- several sittings

  -- saved work that came from sittings of this plan, each by either choice of the link to split on, is good
  pub good-on : (s : Saved) → GoodSaved g s → (l : ℕ) → GoodSaved g (sitting t s l).saved
  good-on s h l = sitting-good g valid by_largest_sum s h l

  pub good-after : (s : Saved) → GoodSaved g s → (ls : List ℕ) → GoodSaved g (saved_after t s ls)
  unfolding saved_after
  good-after s h [] = h
  good-after s h (l ∷ ls) = good-after (sitting t s l).saved (good-on s h l) ls

  pub fits : (s : Saved) → GoodSaved g s → Fits g s
  fits = good-fits g valid

  -- what a sitting hands on
  pub hands : (s : Saved) → GoodSaved g s → (x : Lent) → Allowed x → handed (sat plan table (saved_bytes s) x).work ≡ saved_bytes (sitting t s x.limit).saved
  hands s r x a =
      ap (λ (o : SittingOutcome). handed o.work) (one s (fits s r) x a)
      ∙ handed-again (sitting t s x.limit).saved (fits (sitting t s x.limit).saved (good-on s r x.limit)) x.work

  pub hands_on : (s : Saved) → GoodSaved g s → (xs : List Lent) → AllAllowed xs → handed_on plan table (saved_bytes s) xs ≡ saved_bytes (saved_after t s (limits xs))
  unfolding handed_on saved_after
  hands_on s r [] a = refl
  hands_on s r (x ∷ xs) a = ap (λ b. handed_on plan table b xs) (hands s r x a.0) ∙ hands_on (sitting t s x.limit).saved (good-on s r x.limit) xs a.1
