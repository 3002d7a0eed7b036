-- What a call returns and leaves, by its verdict.
use Prim.Native.Nat.{ℕ}
use mathlib.Core.Path.{◌≡◌, refl, sym, ap, ◌∙◌}
use mathlib.Core.List.{List}
use mathlib.Core.Logic.{◌↔◌}
use Rattle.causes.specs.declared.CallCause.{CallCause}
use Rattle.std.specs.Prelude.{Ok, Err}
use Rattle.causes.specs.Causes.{CallVerdict, call_returned}
use Rattle.causes.specs.Outcomes.{unless}
use Rattle.causes.proofs.Laws.{zero-accepted}

pub returned-of : (v : CallVerdict) (b answer : List ℕ) → (unless v b answer).returned ≡ call_returned v
returned-of (Ok tt) b answer = refl
returned-of (Err c) b answer = refl

module _ (v : CallVerdict) (b answer : List ℕ) where
  -- a refused call returns the verdict's number and leaves the buffer
  pub refused : (c : CallCause) → v ≡ Err c → (call_returned v ≡ (unless v b answer).returned) × (b ≡ (unless v b answer).buffer)
  refused c e = rw e (refl, refl)

  pub answers : v ≡ Ok tt → (0 ≡ (unless v b answer).returned) × (answer ≡ (unless v b answer).buffer)
  answers e = rw e (refl, refl)

-- 0 is returned exactly where the verdict is accepted
pub zero_of : {r : ℕ} (v : CallVerdict) → r ≡ call_returned v → r ≡ 0 ↔ v ≡ Ok tt
zero_of v e = (λ z. zero-accepted v (sym e ∙ z), λ h. e ∙ ap call_returned h)
