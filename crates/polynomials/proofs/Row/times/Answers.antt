use Prim.Native.Nat.{ℕ, ◌+◌, ◌*◌, ◌≤◌, ◌<◌}
use mathlib.Core.Path.{◌≡◌, sym, ap, ◌∙◌}
use native.Mathlib.Nat.{zero-mul, le_trans, le_of_eq, mul-le-mul_right}
use native.Mathlib.Numerals.{add-one}
use native.Mathlib.Omega.{arith}
use Rattle.polynomials.specs.Rows.{eval, some}
use Rattle.polynomials.proofs.Evals.{some-within, some_more}
use Rattle.polynomials.proofs.Row.times.Goals as goal

-- the next row is no more than the last
within : (x k c E P : ℕ) → k < c → E ≡ some x k * P → E + x * (E + P) ≤ some x c * P
within x k c E P h e = le_trans (le_of_eq (some_more x k E P e)) (mul-le-mul_right P (some-within x h))

pub loop-init : goal.loop-init
unfolding some
loop-init c = λ x. c.nothing-t.ensures x ∙ sym (zero-mul _)

pub more-t-requires : goal.more-t-requires
more-t-requires c =
    let h = c.loop in
    λ x. le_trans (within x h.counter _ (eval x h.t.entries) _ (omega arith) (h.invariant x)) (c.requires x)

pub loop-preserved : goal.loop-preserved
loop-preserved c =
    let h = c.loop in
    λ x. c.more-t.ensures x ∙ some_more x h.counter (eval x h.t.entries) _ (h.invariant x) ∙ ap (λ k. some x k * eval x c.args.self.entries) (sym (add-one h.counter))

pub returns : goal.returns
returns c =
    let h = c.loop in
    let end : h.counter ≡ c.args.c = omega arith in
    λ x. h.invariant x ∙ ap (λ k. some x k * eval x c.args.self.entries) end
