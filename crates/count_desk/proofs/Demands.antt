-- What is promised of the call, for all inputs.
use Prim.Native.Nat.{ℕ, zero, suc, ◌+◌, ◌≤◌}
use mathlib.Core.Path.{◌≡◌, refl, sym, ap, ap₂, ◌∙◌}
use mathlib.Core.List.{List, [], ◌∷◌, ◌++◌, map}
use mathlib.Core.Logic.Iff
use mathlib.Core.Logic.{◌⊎◌, inl, inr, ◌↔◌}
use native.Mathlib.Omega.{arith}
use lib.ListN.{length, drop, get_or, length-append, length-drop, get_or-append}
use lib.Seq.{drop-nil}
use Rattle.ratings.specs.Ratings.{T}
use Rattle.reliability.specs.Networks.{connected}
use Rattle.plan.specs.Plans.{WellFormed, size_n, size_m, plan_of}
use Rattle.plan.proofs.Links.{same_ends}
use Rattle.plan.proofs.Accepted.{plan-links}
use Rattle.causes.specs.declared.CallCause.{CallCause}
use Rattle.causes.specs.Causes.{CallVerdict}
use Rattle.std.specs.Prelude.{Ok, Err}
use Rattle.causes.specs.Causes.{call_returned}
use Rattle.causes.specs.Outcomes.{Outcome, unless, Refusal}
use Rattle.causes.proofs.Laws.{call-number-range}
use Rattle.causes.proofs.Outcomes.{returned-of, zero_of}
use Rattle.search.specs.Searches.{from}
use Rattle.sets.specs.Sets.{sets, how_many, connecting_sets, connecting_row}
use Rattle.sets.proofs.Counting.{row-length, row-entry}
use Rattle.count_desk.specs.Counts.{counts_verdict, filled, counts_outcome, Counted}
use Rattle.count_desk.proofs.Verdicts.{counts-means}

-- ---- a row whose first places are written

-- behind xs, what the row had there
kept : (xs row : List ℕ) (i : ℕ) → length xs ≤ i → get_or (xs ++ drop (length xs) row) i 0 ≡ get_or row i 0
kept [] row i h = refl
kept (x ∷ xs) row zero h = absurd (omega arith)
kept (x ∷ xs) [] (suc i) h = ap (λ l. get_or (xs ++ l) i 0) (sym (drop-nil (length xs))) ∙ kept xs [] i (omega arith)
kept (x ∷ xs) (y ∷ row) (suc i) h = kept xs row i (omega arith)

module _ (plan row : List ℕ) where
  abbrev o : Outcome
  o = counts_outcome plan row

  abbrev v : CallVerdict
  v = counts_verdict plan (length row)

  abbrev counted : List ℕ
  counted = connecting_row (plan_of T plan)

  -- m + 1 entries
  counted-length : length counted ≡ suc (size_m plan)
  counted-length = row-length (plan_of T plan) ∙ ap suc (plan-links T plan)

  entry : (i : ℕ) → i ≤ size_m plan → get_or counted i 0 ≡ connecting_sets (plan_of T plan) i
  entry i h = row-entry (plan_of T plan) i (omega (arith, plan-links T plan))

  -- the number is that of the first cause in order, 0 if there is none
  pub counts-returned : o.returned ≡ call_returned v
  unfolding counts_outcome
  counts-returned = returned-of v _ _

  -- 0 exactly when the verdict is accepted
  pub counts_zero : o.returned ≡ 0 ↔ v ≡ Ok tt
  counts_zero = zero_of v counts-returned

  -- an accepted plan, at most 24 links and a row of m + 1 numbers at least, and no other call
  pub counts-accepted : o.returned ≡ 0 ↔ WellFormed plan × (size_m plan ≤ 24) × (size_m plan + 1 ≤ length row)
  counts-accepted = Iff.trans counts_zero (counts-means plan (length row))

  -- either a full answer or a numbered refusal with the row untouched
  pub counted-or-refused : Counted plan row o ⊎ Refusal o row
  unfolding counts_outcome
  counted-or-refused = go v (λ e. ((counts-means plan (length row)).0 e).2)
    where
      go : (u : CallVerdict) → (u ≡ Ok tt → size_m plan + 1 ≤ length row) → Counted plan row (unless u row (filled plan row)) ⊎ Refusal (unless u row (filled plan row)) row
      go (Ok tt) room = inl (record {
        zero = refl;
        entries = λ i h. get_or-append counted _ 0 i (omega (arith, counted-length)) ∙ entry i h;
        behind = λ i h. ap (λ k. get_or (counted ++ drop k row) i 0) (sym counted-length) ∙ kept counted row i (omega (arith, counted-length));
        size = omega (arith, room refl, counted-length, length-append counted (drop (suc (size_m plan)) row), length-drop (suc (size_m plan)) row);
      })
      go (Err c) room = inr (record { numbered = omega (arith, call-number-range c); untouched = refl })

  -- a refused call leaves the row as it was
  pub counts-refused : (c : CallCause) → v ≡ Err c → (o.returned ≡ call_returned (Err c)) × (o.buffer ≡ row)
  unfolding counts_outcome
  counts-refused c e = rw e (refl, refl)

  -- a call that returned 0 left the counts
  pub counts-counted : o.returned ≡ 0 → Counted plan row o
  counts-counted z = go counted-or-refused
    where
      go : Counted plan row o ⊎ Refusal o row → Counted plan row o
      go (inl full) = full
      go (inr refusal) = absurd (omega (arith, refusal.numbered))

-- ---- ratings

-- no value of a link bears on a count: the row is the same by any ratings
pub any-ratings : (r s : ℕ → ℕ) (plan : List ℕ) → connecting_row (plan_of r plan) ≡ connecting_row (plan_of s plan)
any-ratings r s plan =
    ap₂ (λ es m. map (λ i. how_many (connected (from 0 (size_n plan))) (sets i es)) (from 0 (suc m)))
    (same_ends r s plan (from 0 (size_m plan))) (plan-links r plan ∙ sym (plan-links s plan))
