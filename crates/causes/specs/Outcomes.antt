-- A call that fills one buffer: accepted or refused.
use Rattle.std.specs.Prelude.{ℕ, ◌≤◌, ◌≡◌, List, Ok, Err}
use Rattle.causes.specs.Causes.{CallVerdict, call_returned}

-- what a call returns, and the buffer at its end
pub record Outcome : Type 0 where
  pub returned : ℕ
  pub buffer : List ℕ

-- accepted and answered, or refused with the buffer b as it was
abbrev pub unless : CallVerdict → List ℕ → List ℕ → Outcome
unless (Ok tt) b answer = record { returned = 0; buffer = answer }
unless (Err c) b answer = record { returned = call_returned (Err c); buffer = b }

-- a numbered refusal, the buffer untouched
pub record Refusal (o : Outcome) (b : List ℕ) : Type 0 where
  pub numbered : 1 ≤ o.returned
  pub untouched : o.buffer ≡ b
