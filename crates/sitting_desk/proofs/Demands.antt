-- What is claimed of a sitting, over what the call returns and what it leaves in its two buffers.
use Prim.Native.Nat.{ℕ, ◌+◌, ◌-◌, ◌≤◌, min}
use mathlib.Core.Path.{◌≡◌, refl, sym, ap, ap₂, ◌∙◌, subst}
use mathlib.Core.List.{List, [], ◌∷◌, ◌++◌}
use mathlib.Core.Logic.{◌⊎◌, inl, inr, ◌↔◌}
use mathlib.Core.Bool.{Bool, true, false}
use native.Mathlib.Omega.{arith}
use lib.Dec.{eqb}
use lib.ListN.{length, take, drop, length-append, length-drop}
use lib.Seq.{length-take-le, drop_at, drop-append_seam}
use borrow.Author.Tests.{eqb-true}
use Rattle.reliability.specs.declared.Figure.{Figure}
use Rattle.reliability.specs.Networks.{Network, Valid}
use Rattle.reliability.specs.Exact.{altogether}
use Rattle.reliability.specs.Rule.{figure, Tree, tree_by, tree, run, more}
use Rattle.tables.specs.Tables.{rating, AcceptedTable}
use Rattle.tables.proofs.Theorems.{rating-range}
use Rattle.plan.specs.Plans.{WellFormed, plan_of}
use Rattle.plan.proofs.Verdicts.{accepted-means}
use Rattle.plan.proofs.Accepted.{plan-valid}
use Rattle.causes.specs.Causes.{CallVerdict}
use Rattle.std.specs.Prelude.{Ok, Err}
use Rattle.causes.specs.Causes.{call_returned}
use Rattle.causes.proofs.Laws.{call-number-range, zero-accepted}
use Rattle.answers.specs.Answers.{answer_bytes, with_figure, steps_in}
use Rattle.answers.proofs.Laws.{steps-written}
use Rattle.sittings.specs.Sittings.{Open, opens, resumed, Saved, begun, complete, Sitting, nothing, most, sitting, saved_after, Choosing, by_largest_sum, choice_of, saved_by}
use Rattle.sittings.proofs.Bounds.{Deep, opens-few, resumed-deep, tree-formed}
use Rattle.sittings.proofs.GoodSaved.{GoodSaved, saved-good}
use Rattle.sittings.proofs.Totals.{totals, total-figure, capped, first-figure, at_most}
use Rattle.saved.specs.Format.{state_in, taken_in, opens_of, saved_bytes, over}
use Rattle.saved.proofs.Laws.{complete-means, begun-means, begun-size, complete-size, begun-state, begun-count, complete-state, zeros, zeros-nothing}
use Rattle.saved_verdict.proofs.Laws.{saved-means}
use Rattle.sitting_desk.specs.Outcome.{SittingOutcome, carried_on, verdict_of, sitting_of, sitting_outcome}
use Rattle.sitting_desk.specs.Chains.{Lent, Allowed, AllAllowed, handed, sat, handed_on, limits, Earlier}
use Rattle.sitting_desk.specs.Demands.{Full, Refusal, Keeps}
use Rattle.sitting_desk.proofs.Carrying.{plan-deep}
use Rattle.sitting_desk.proofs.Outcomes.{AcceptedCall, accepted-call, call-accepted, refused, completed, carried}
use Rattle.sitting_desk.proofs.Chains.{span, handed-over, begun-span, complete-span, kept, one, fits, good-on, good-after, hands, hands_on}

-- ---- demand 1

-- p over the answer and b over the work
full : (p b answer work : List ℕ) (o : SittingOutcome) → o ≡ record { returned = 0; answer = p ++ drop 16 answer; work = over b work }
    → length p ≡ 16 → 16 ≤ length answer → 776 ≤ length work → length b ≤ 776 → 8 ≤ length b → length b ≡ span b → Full o answer work
full p b answer work o e size room space few some spans =
    let q = over b work in
    let h = handed-over b work some spans in
    subst (λ o. Full o answer work) (sym e) (record {
      zero = refl;
      later = drop_at p (drop 16 answer) 16 size;
      size = omega (arith, length-append p (drop 16 answer), length-drop 16 answer);
      written = ap (λ c. over c work) (sym h);
      behind = ap (λ c. drop (length c) q) h ∙ drop-append_seam b (drop (length b) work) ∙ ap (λ c. drop (length c) work) (sym h);
      work_size = omega (arith, length-append b (drop (length b) work), length-drop (length b) work);
      few = omega (arith, ap length h);
    })

-- what a sitting saves has its own size, and no more than 64 open splits
saved-span : (t : Tree) → Deep 64 t → (os : List Open) (n limit : ℕ) → let b = saved_bytes (sitting t (begun os n) limit).saved in (length b ≤ 776) × (8 ≤ length b) × (length b ≡ span b)
unfolding sitting
saved-span t deep os n limit = go (run u l).finished
  where
    u : Tree
    u = resumed t os

    l : ℕ
    l = min limit (most - n)

    f : Figure
    f = more n (run u l)

    go : (c : Bool) → let b = saved_bytes (elim c [ true ↦ complete f | false ↦ begun (opens u l) f.steps ]) in (length b ≤ 776) × (8 ≤ length b) × (length b ≡ span b)
    go true =
        let e = complete-size f in
        (omega arith, omega arith, complete-span (saved_bytes (complete f)) (complete-state f) e)
    go false =
        let e = begun-size (opens u l) f.steps in
        let few : length (opens u l) ≤ 64 = opens-few 64 u (resumed-deep 64 t deep os) l in
        (omega arith, omega arith, begun-span (saved_bytes (begun (opens u l) f.steps)) (begun-state (opens u l) f.steps) (omega (arith, begun-count (opens u l) f.steps few)))

module _ (plan table : List ℕ) (limit : ℕ) (saved answer work : List ℕ) where
  abbrev v : CallVerdict
  v = verdict_of plan table limit saved (length answer) (length work)

  abbrev o : SittingOutcome
  o = sitting_outcome plan table limit saved answer work

  -- each sitting fills the answer and writes saved work to a lent buffer; bytes behind it stay, on a refusal all:
  -- for every input whatever
  pub answered-or-refused : Full o answer work ⊎ Refusal o answer work
  answered-or-refused = by-verdict v refl
    where
      by_state : (c : Bool) → v ≡ Ok tt → eqb (state_in saved) 1 ≡ c → Full o answer work
      by_state true e s =
          let h = accepted-call plan table limit saved (length answer) (length work) e in
          let one = eqb-true (state_in saved) 1 s in
          let w = complete-means saved ((saved-means (tree (plan_of (rating table) plan)) saved).0 h.saves).0 (λ z. omega arith) in
          full (take 16 (drop 8 saved)) saved answer work o (completed plan table limit saved answer work e s)
          (length-take-le 16 (drop 8 saved) (omega (arith, length-drop 8 saved, w.size))) h.answer h.work (omega (arith, w.size)) (omega (arith, w.size)) (complete-span saved one w.size)
      by_state false e s =
          let h = accepted-call plan table limit saved (length answer) (length work) e in
          let (few, some, spans) = saved-span (tree (plan_of (rating table) plan)) (plan-deep plan (rating table) (rating-range table h.tabled) h.well) (opens_of saved) (taken_in saved) limit in
          full (answer_bytes (sitting_of plan table limit saved).answer) (saved_bytes (sitting_of plan table limit saved).saved) answer work o (carried plan table limit saved answer work e s)
          refl h.answer h.work few some spans

      by-verdict : (u : CallVerdict) → v ≡ u → Full o answer work ⊎ Refusal o answer work
      by-verdict (Ok tt) e = inl (by_state (eqb (state_in saved) 1) e refl)
      by-verdict (Err c) e =
          let same = refused plan table limit saved answer work c e in
          inr (subst (λ o. Refusal o answer work) (sym same) (record { numbered = omega (arith, call-number-range c); answered = refl; worked = refl }))

  -- the number returned is that of the first cause in the order 7, 9, 12, 13, 1 to 6, 10, 11; 0 if there is none
  pub sitting-returned : o.returned ≡ call_returned v
  sitting-returned = by-verdict v refl
    where
      by_state : (c : Bool) → v ≡ Ok tt → eqb (state_in saved) 1 ≡ c → o.returned ≡ 0
      by_state true e s = ap (λ (o : SittingOutcome). o.returned) (completed plan table limit saved answer work e s)
      by_state false e s = ap (λ (o : SittingOutcome). o.returned) (carried plan table limit saved answer work e s)

      by-verdict : (u : CallVerdict) → v ≡ u → o.returned ≡ call_returned v
      by-verdict (Ok tt) e = by_state (eqb (state_in saved) 1) e refl ∙ ap call_returned (sym e)
      by-verdict (Err c) e = ap (λ (o : SittingOutcome). o.returned) (refused plan table limit saved answer work c e) ∙ ap call_returned (sym e)

  accepted : o.returned ≡ 0 → v ≡ Ok tt
  accepted zero = zero-accepted v (sym sitting-returned ∙ zero)

  -- a call that meets none of its rows is accepted, and no other
  pub sitting-accepted : o.returned ≡ 0 ↔ AcceptedCall plan table limit saved (length answer) (length work)
  sitting-accepted = (
    λ zero. accepted-call plan table limit saved (length answer) (length work) (accepted zero),
    λ h. sitting-returned ∙ ap call_returned (call-accepted plan table limit saved (length answer) (length work) h),
  )

  -- ---- the steps in the answer

  -- of begun work
  module _ (zero : o.returned ≡ 0) (first : state_in saved ≡ 0) where
    steps-so-far : taken_in saved ≤ most
    steps-so-far = (begun-means saved ((saved-means (tree (plan_of (rating table) plan)) saved).0 (sitting-accepted.0 zero).saves).0 first).steps

    steps-are : steps_in o.answer ≡ (sitting_of plan table limit saved).answer.steps
    steps-are =
        let s = sitting_of plan table limit saved in
        ap (λ (o : SittingOutcome). steps_in o.answer) (carried plan table limit saved answer work (accepted zero) (ap (λ n. eqb n 1) first))
        ∙ steps-written s.answer answer (omega (arith, at_most (tree (plan_of (rating table) plan)) (opens_of saved) (taken_in saved) limit steps-so-far))

    -- or 1,000,000 if that is less; no sitting goes past it
    pub never-past-a-million : steps_in o.answer ≤ 1000000
    never-past-a-million = omega (arith, steps-are, at_most (tree (plan_of (rating table) plan)) (opens_of saved) (taken_in saved) limit steps-so-far)

    -- and none takes more steps than its limit
    pub within-its-limit : steps_in o.answer ≤ taken_in saved + limit
    within-its-limit = omega (arith, steps-are, at_most (tree (plan_of (rating table) plan)) (opens_of saved) (taken_in saved) limit steps-so-far)

-- a sitting that saves complete work answers with its figure
complete-answers : (t : Tree) (s : Saved) (l : ℕ) (f : Figure) → (sitting t s l).saved ≡ complete f → (sitting t s l).answer ≡ f
unfolding sitting
complete-answers t (complete g) l f e = cc
complete-answers t (begun os n) l f e = go (run (resumed t os) k).finished e
  where
    k : ℕ
    k = min l (most - n)

    h : Figure
    h = more n (run (resumed t os) k)

    go : (c : Bool) → elim c [ true ↦ complete h | false ↦ begun (opens (resumed t os) k) h.steps ] ≡ complete f → h ≡ f
    go true p = cc
    go false p = let z : ◌≡◌ {A = ℕ} 0 1 = cc in absurd (omega arith)

-- ---- sittings of an accepted plan, after earlier ones

module _ (plan table : List ℕ) (fine : AcceptedTable table) (well : WellFormed plan) where
  abbrev g : Network
  g = plan_of (rating table) plan

  valid : Valid g
  valid = plan-valid (rating table) plan (rating-range table fine) ((accepted-means plan).1 well)

  pub good : (s : Saved) → Earlier plan table s → GoodSaved g s
  good s e = subst (GoodSaved g) (sym e.same) (saved-good g valid e.sittings)

  -- nothing
  pub first : Earlier plan table nothing
  unfolding saved_by
  first = record { sittings = []; same = refl }

  -- they are accepted, by the checks 10 and 11 too, and a sitting that is handed them is the sitting of its definition
  pub earlier-accepted : (s : Saved) → Earlier plan table s → Keeps plan table (saved_bytes s)
  earlier-accepted s e = kept plan table fine well s (fits plan table fine well s (good s e))

  pub earlier-carried : (s : Saved) → Earlier plan table s → (x : Lent) → Allowed x → sat plan table (saved_bytes s) x ≡ carried_on (sitting (tree g) s x.limit) x.answer x.work
  earlier-carried s e = one plan table fine well s (fits plan table fine well s (good s e))

  -- what it hands on came from earlier sittings again
  one_more : (s : Saved) (xs : List (Choosing × ℕ)) (x : Choosing × ℕ) → saved_by g s (xs ++ (x ∷ [])) ≡ (sitting (tree_by (choice_of x.0) g) (saved_by g s xs) x.1).saved
  unfolding saved_by
  one_more s [] x = refl
  one_more s (y ∷ xs) x = one_more (sitting (tree_by (choice_of y.0) g) s y.1).saved xs x

  pub earlier_on : (s : Saved) → Earlier plan table s → (x : Lent) → Allowed x
      → let r = (sitting (tree g) s x.limit).saved in Earlier plan table r × (handed (sat plan table (saved_bytes s) x).work ≡ saved_bytes r)
  earlier_on s e x a = (
    record {
      sittings = e.sittings ++ ((by_largest_sum, x.limit) ∷ []);
      same = ap (λ r. (sitting (tree g) r x.limit).saved) e.same ∙ sym (one_more nothing e.sittings (by_largest_sum, x.limit));
    },
    hands plan table fine well s (good s e) x a,
  )

  -- ---- several sittings from the same saved work, and one more

  module _ (s : Saved) (e : Earlier plan table s) (xs : List Lent) (before : AllAllowed xs) (x : Lent) (a : Allowed x) where
    abbrev saved : Saved
    saved = saved_after (tree g) s (limits xs)

    abbrev last : SittingOutcome
    last = sat plan table (handed_on plan table (saved_bytes s) xs) x

    -- their total, or 1,000,000 if that is less
    abbrev total : ℕ
    total = min (altogether (limits xs) + x.limit) 1000000

    good-saved : GoodSaved g saved
    good-saved = good-after plan table fine well s (good s e) (limits xs)

    last-is : last ≡ carried_on (sitting (tree g) saved x.limit) x.answer x.work
    last-is = ap (λ b. sat plan table b x) (hands_on plan table fine well s (good s e) xs before) ∙ one plan table fine well saved (fits plan table fine well saved good-saved) x a

    last-hands : handed last.work ≡ saved_bytes (sitting (tree g) saved x.limit).saved
    last-hands = ap (λ b. handed (sat plan table b x).work) (hands_on plan table fine well s (good s e) xs before) ∙ hands plan table fine well saved good-saved x a

    -- they add up: both buffers are as one sitting whose limit is their total, or 1,000,000 if that is less, leaves them
    pub sittings-add-up : (last.returned ≡ 0) × (last ≡ sat plan table (saved_bytes s) (record { limit = total; answer = x.answer; work = x.work }))
    sittings-add-up =
        let once : Lent = record { limit = total; answer = x.answer; work = x.work } in
        let h : Allowed once = record { limit = omega arith; room = a.room; space = a.space } in
        let sum : sitting (tree g) saved x.limit ≡ sitting (tree g) s total = totals (tree g) (tree-formed g valid) s (limits xs) x.limit ∙ capped (tree g) s (altogether (limits xs) + x.limit) in (
          ap (λ (o : SittingOutcome). o.returned) last-is,
          last-is ∙ ap (λ (s : Sitting). carried_on s x.answer x.work) sum ∙ sym (earlier-carried s e once h),
        )

    -- saved work fits: 776 bytes are enough, and it is accepted again by the same plan
    pub saved-work-fits : Keeps plan table (handed last.work)
    saved-work-fits =
        let r = (sitting (tree g) saved x.limit).saved in
        subst (Keeps plan table) (sym last-hands) (kept plan table fine well r (fits plan table fine well r (good-on plan table fine well saved good-saved x.limit)))

    -- a complete one is followed by the answer's 16 bytes: under any limit it gives its answer and its bytes again
    pub complete-again : state_in (handed last.work) ≡ 1 → (y : Lent) → Allowed y
        → sat plan table (handed last.work) y ≡ record { returned = 0; answer = take 16 last.answer ++ drop 16 y.answer; work = over (handed last.work) y.work }
    unfolding sitting
    complete-again one_more y b = go next refl
      where
        next : Saved
        next = (sitting (tree g) saved x.limit).saved

        go : (s : Saved) → next ≡ s → sat plan table (handed last.work) y ≡ record { returned = 0; answer = take 16 last.answer ++ drop 16 y.answer; work = over (handed last.work) y.work }
        go (begun os n) p = let z : state_in (handed last.work) ≡ 0 = ap state_in (last-hands ∙ ap saved_bytes p) ∙ begun-state os n in absurd (omega arith)
        go (complete f) p =
            let bytes : handed last.work ≡ saved_bytes (complete f) = last-hands ∙ ap saved_bytes p in
            let fit = fits plan table fine well (complete f) (subst (GoodSaved g) p (good-on plan table fine well saved good-saved x.limit)) in
            let answer : take 16 last.answer ≡ answer_bytes f = ap (λ (o : SittingOutcome). take 16 o.answer) last-is ∙ ap answer_bytes (complete-answers (tree g) saved x.limit f p) in
            ap (λ c. sat plan table c y) bytes ∙ one plan table fine well (complete f) fit y b
            ∙ ap₂ (λ p c. record { returned = 0; answer = p ++ drop 16 y.answer; work = over c y.work }) (sym answer) (sym bytes)

  -- ---- sittings the first of which is handed eight zero bytes

  -- a first sitting answers as the figure does under its limit
  pub first-sitting : (x : Lent) → Allowed x → ((sat plan table zeros x).returned ≡ 0) × ((sat plan table zeros x).answer ≡ with_figure (figure g x.limit) x.answer)
  first-sitting x a =
      let e = ap (λ b. sat plan table b x) (sym zeros-nothing) ∙ earlier-carried nothing first x a in (
        ap (λ (o : SittingOutcome). o.returned) e,
        ap (λ (o : SittingOutcome). o.answer) e ∙ ap (λ (f : Figure). with_figure f x.answer) (first-figure g x.limit a.limit),
      )

  -- a user who works a plan through several sittings gets the figure under their total, or under 1,000,000 if that is less
  pub sittings-figure : (xs : List Lent) → AllAllowed xs → (x : Lent) → Allowed x
      → (sat plan table (handed_on plan table zeros xs) x).answer ≡ with_figure (figure g (min (altogether (limits xs) + x.limit) 1000000)) x.answer
  sittings-figure xs before x a =
      ap (λ b. (sat plan table (handed_on plan table b xs) x).answer) (sym zeros-nothing) ∙ ap (λ (o : SittingOutcome). o.answer) (last-is nothing first xs before x a)
      ∙ ap (λ (f : Figure). with_figure f x.answer) (total-figure g valid (limits xs) x.limit)
