use Prim.Native.Nat.{ℕ, suc, ◌+◌, ◌≤◌, ◌<◌}
use mathlib.Core.List.{List, [], ◌∷◌}
use native.Mathlib.Numerals.{add-one}
use lib.Seq.{take_all, take-suc}
use Rattle.polynomials.specs.Rows.{eval}
use mathlib.Core.Path.{◌≡◌, sym, ap, subst, ◌∙◌}
use native.Mathlib.Omega.{arith}
use lib.ListN.{length, take, get_or, set}
use Rattle.polynomials.proofs.Evals.{grown, grown-length, grown-first, grown-at, grown-eval, entry-within, one_more}
use borrow.Author.Rules.{rules}
use Rattle.polynomials.proofs.Row.more.Goals as goal
use Rattle.polynomials.proofs.Row.more.Goals.{Start}

abbrev first : Start → List ℕ
first c = c.args.self.entries

abbrev second : Start → List ℕ
second c = c.args.p.entries

first-size : (c : Start) → length (first c) ≡ 25
first-size c = search rules

second-size : (c : Start) → length (second c) ≡ 25
second-size c = search rules

started : (t p : List ℕ) → length t ≡ 25 → length p ≡ 25 → take 1 t ≡ take 1 (grown t p)
started t p ht hp =
    take-suc t 0 0 (omega arith) ∙ ap (λ k. k ∷ []) (sym (grown-first t p ht hp)) ∙ sym (take-suc (grown t p) 0 0 (omega (arith, grown-length t p ht hp)))

-- one entry more
turn : (t p r : List ℕ) (i v : ℕ) → length t ≡ 25 → length p ≡ 25 → length r ≡ 25 → i < 24 → take (suc i) r ≡ take (suc i) (grown t p)
    → v ≡ get_or t (i + 1) 0 + get_or t i 0 + get_or p i 0 → take (suc (i + 1)) (set r (i + 1) v) ≡ take (suc (i + 1)) (grown t p)
turn t p r i v ht hp hr h e w =
    rw (add-one i) (one_more r (grown t p) (suc i) v (omega arith) (omega (arith, grown-length t p ht hp)) e (rw (add-one i) at w ∙ sym (grown-at t p ht hp i h)))

-- any entries are small
small : (c : Start) (i : ℕ) → (get_or (first c) i 0 ≤ 16777216) × (get_or (second c) i 0 ≤ 16777216)
small c i = (omega (arith, entry-within (first c) i, c.requires 1), omega (arith, entry-within (second c) i, c.requires 1))

pub loop-i-init : goal.loop-i-init
loop-i-init c =
    let s = (goal.at.loop-i-init c).Start in
    (search rules, started (first s) (second s) (first-size s) (second-size s))

pub overflow_add-entries-in-loop-i : goal.overflow_add-entries-in-loop-i
overflow_add-entries-in-loop-i c = record { fits = omega (arith, small (goal.at.overflow_add-entries-in-loop-i c).Start c.loop-i.i, small (goal.at.overflow_add-entries-in-loop-i c).Start (c.loop-i.i + 1)) }

pub overflow_add-entries-in-loop-i-2 : goal.overflow_add-entries-in-loop-i-2
overflow_add-entries-in-loop-i-2 c = record { fits = omega (arith, small (goal.at.overflow_add-entries-in-loop-i-2 c).Start c.loop-i.i, small (goal.at.overflow_add-entries-in-loop-i-2 c).Start (c.loop-i.i + 1)) }

pub loop-i-preserved : goal.loop-i-preserved
loop-i-preserved c =
    let h = c.loop-i in
    let s = (goal.at.loop-i-preserved c).Start in
    (search rules, turn (first s) (second s) h.entries h.i _ (first-size s) (second-size s) h.invariant.0 (omega arith) h.invariant.1 (omega arith))

pub returns : goal.returns
returns c =
    let h = c.loop-i in
    let s = (goal.at.returns c).Start in
    let row = grown (first s) (second s) in
    let end : suc h.i ≡ 25 = omega arith in
    let whole : h.entries ≡ row =
    sym (take_all 25 h.entries (omega arith)) ∙ subst (λ (k : ℕ). take k h.entries ≡ take k row) end h.invariant.1 ∙ take_all 25 row (omega (arith, grown-length (first s) (second s) (first-size s) (second-size s))) in
    λ x. ap (eval x) whole ∙ grown-eval (first s) (second s) (first-size s) (second-size s) c.requires x
