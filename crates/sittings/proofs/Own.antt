-- What a split writes of itself, by the marks of its branches' figures.
use Prim.Native.Nat.{ℕ, suc}
use mathlib.Core.Path.{◌≡◌}
use mathlib.Core.List.{List, []}
use mathlib.Core.Bool.{true, false}
use Rattle.reliability.specs.declared.Figure.{Figure}
use Rattle.sittings.specs.Sittings.{running, known, sides}
use Rattle.sittings.specs.Entries.{entry, own_entry, own_count}

module _ (i : ℕ) (s b : Figure) (m n : ℕ) where
  -- the count and the entry
  abbrev Own : ℕ → List ℕ → Type 0
  Own c e = (own_count s b m n ≡ c) × (own_entry i s b ≡ e)

  pub own-done : s.finished ≡ true → b.finished ≡ true → Own 0 []
  unfolding own_count own_entry
  own-done e f = (rw (e, f), rw (e, f))

  pub own-known : s.finished ≡ true → b.finished ≡ false → Own (suc n) (entry (known i (sides s)))
  unfolding own_count own_entry
  own-known e f = (rw (e, f), rw (e, f))

  pub own-running : s.finished ≡ false → Own (suc m) (entry (running i))
  unfolding own_count own_entry
  own-running e = (rw e, rw e)
