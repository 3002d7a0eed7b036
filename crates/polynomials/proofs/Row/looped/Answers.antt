use Prim.Native.Nat.{ℕ, ◌+◌, ◌*◌}
use mathlib.Core.Path.{◌≡◌, sym, ap, ◌∙◌}
use native.Mathlib.Nat.{add-mul, one-mul}
use Rattle.polynomials.specs.Rows.{eval, some}
use Rattle.polynomials.proofs.Row.looped.Goals as goal

-- some of them or none
both : (s p t : ℕ) → t ≡ s * p → t + p ≡ (s + 1) * p
both s p t e = ap (λ k. k + p) e ∙ ap (λ k. s * p + k) (sym (one-mul p)) ∙ sym (add-mul s 1 p)

pub returns : goal.returns
returns c =
    λ x. c.plus.ensures x ∙ both (some x c.args.c) (eval x c.args.self.entries) (eval x c.times.result.entries) (c.times.ensures x)
