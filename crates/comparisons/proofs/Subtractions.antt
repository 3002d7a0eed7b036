-- An importance and a difference from two figures.
use Prim.Native.Nat.{ℕ, ◌≤◌, ◌<◌, ◌^◌}
use mathlib.Core.Path.{◌≡◌, sym, ap, subst, subst₂}
use mathlib.Core.Bool.{Bool, true, false}
use native.Mathlib.Omega.{arith}
use lib.ListN.{length}
use borrow.Author.Tests.{eq-eqb, ne_eqb}
use Rattle.reliability.specs.declared.Figure.{Figure}
use Rattle.reliability.specs.Networks.{Network as Graph, Valid, link_at}
use Rattle.reliability.specs.Rule.{deleted, contracted, figure}
use Rattle.reliability.specs.Comparisons.{sound_at, broken_at}
use Rattle.reliability.proofs.Comparisons.{broken-sound}
use Rattle.reliability.proofs.Theorems.{within-limit}

module _ (g : Graph) (k : ℕ) where
  pub loop-sound : (link_at g k).a ≡ (link_at g k).b → deleted k g ≡ sound_at k g
  unfolding sound_at
  loop-sound e = sym (ap (λ (t : Bool). elim t as (λ _. Graph) [ true ↦ deleted k g | false ↦ contracted (link_at g k) (deleted k g) ]) (eq-eqb (link_at g k).a (link_at g k).b e))

  pub link-sound : ((link_at g k).a ≡ (link_at g k).b → ⊥) → contracted (link_at g k) (deleted k g) ≡ sound_at k g
  unfolding sound_at
  link-sound e = sym (ap (λ (t : Bool). elim t as (λ _. Graph) [ true ↦ deleted k g | false ↦ contracted (link_at g k) (deleted k g) ]) (ne_eqb (link_at g k).a (link_at g k).b e))

  module _ (valid : Valid g) (place : k < length g.links) (limit : ℕ) (small : limit < 2 ^ 31) (s b : Figure) (is : s ≡ figure (sound_at k g) limit) (ib : b ≡ figure (broken_at k g) limit) where
    -- what is asked where the two are subtracted
    pub subtracts : (b.low ≤ s.high) × (s.steps < 2 ^ 31) × (b.steps < 2 ^ 31)
    subtracts =
        let x = within-limit (sound_at k g) limit in
        let y = within-limit (broken_at k g) limit in (
          subst₂ (λ (f h : Figure). h.low ≤ f.high) (sym is) (sym ib) (broken-sound g valid k place limit),
          subst (λ (f : Figure). f.steps < 2 ^ 31) (sym is) (omega arith),
          subst (λ (f : Figure). f.steps < 2 ^ 31) (sym ib) (omega arith),
        )
