use Prim.Native.Nat.{ℕ}
use mathlib.Core.List.{List}
use native.Mathlib.Numerals.{add-one}
use lib.Seq.{take_all}
use Rattle.polynomials.specs.Rows.{eval}
use mathlib.Core.Path.{◌≡◌, sym, ap, subst, ◌∙◌}
use native.Mathlib.Omega.{arith}
use lib.ListN.{length, take}
use Rattle.polynomials.proofs.Evals.{added, length-added, get_or-added, eval-added, entry-within, one_more}
use borrow.Author.Rules.{rules}
use Rattle.polynomials.proofs.Row.plus.Goals as goal
use Rattle.polynomials.proofs.Row.plus.Goals.{Start}

abbrev first : Start → List ℕ
first c = c.args.self.entries

abbrev second : Start → List ℕ
second c = c.args.other.entries

alike : (c : Start) → length (first c) ≡ length (second c)
alike c = let a : length (first c) ≡ 25 = search rules in let b : length (second c) ≡ 25 = search rules in omega arith

sums : (c : Start) → length (added (first c) (second c)) ≡ 25
sums c = length-added (first c) (second c) (alike c) ∙ search rules

pub overflow_add-entries : goal.overflow_add-entries
overflow_add-entries c =
    let s = (goal.at.overflow_add-entries c).Start in
    record { fits = omega (arith, entry-within (first s) c.loop-i.i, entry-within (second s) c.loop-i.i, c.requires 1) }

pub loop-i-preserved : goal.loop-i-preserved
loop-i-preserved c =
    let h = c.loop-i in
    let s = (goal.at.loop-i-preserved c).Start in
    (search rules, rw add-one (one_more h.entries (added (first s) (second s)) h.i _ (omega arith) (omega (arith, sums s)) h.invariant.1 (omega (arith, get_or-added (first s) (second s) h.i (alike s)))))

pub returns : goal.returns
returns c =
    let h = c.loop-i in
    let s = (goal.at.returns c).Start in
    let end : h.i ≡ 25 = omega arith in
    let row : h.entries ≡ added (first s) (second s) =
    sym (take_all 25 h.entries (omega arith)) ∙ subst (λ (k : ℕ). take k h.entries ≡ take k (added (first s) (second s))) end h.invariant.1 ∙ take_all 25 (added (first s) (second s)) (omega (arith, sums s)) in
    λ x. ap (eval x) row ∙ eval-added x (first s) (second s) (alike s)
