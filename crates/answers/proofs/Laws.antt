-- What is written of a figure is read back.
use Prim.Native.Nat.{ℕ, ◌*◌, ◌^◌, ◌<◌}
use mathlib.Core.Path.{◌≡◌}
use mathlib.Core.List.{List}
use mathlib.Core.Bool.{Bool, true, false, cond}
use native.Mathlib.Omega.{arith}
use lib.ListN.{drop}
use Rattle.words.specs.ReadBack.{whole32}
use Rattle.reliability.specs.declared.Figure.{Figure}
use Rattle.answers.specs.Answers.{with_figure, low_in, high_in, steps_in, finished_in, Holds}

-- the steps, whatever the other numbers are
pub steps-written : (f : Figure) (b : List ℕ) → f.steps < 2 ^ 32 → steps_in (with_figure f b) ≡ f.steps
unfolding steps_in
steps-written f b h = whole32 f.steps (drop 12 (with_figure f b)) h

pub written : (f : Figure) (b : List ℕ) → (f.low < 2 ^ 32) × (f.high < 2 ^ 32) × (f.steps < 2 ^ 32) → Holds (with_figure f b) f
unfolding low_in high_in steps_in finished_in
written f b h =
    let later : ℕ → List ℕ = λ k. drop (4 * k) (with_figure f b) in
    record { low = whole32 f.low (later 1) h.0; high = whole32 f.high (later 2) h.1; steps = whole32 f.steps (later 3) h.2; finished = whole32 (cond f.finished 1 0) (later 4) (flag f.finished) }
  where
    flag : (t : Bool) → cond t 1 0 < 2 ^ 32
    flag true = omega arith
    flag false = omega arith
