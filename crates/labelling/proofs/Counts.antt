-- Counts and groups, one place more.
use Prim.Native.Nat.{ℕ, zero, suc, ◌+◌, ◌≤◌, ◌<◌}
use mathlib.Core.Path.{◌≡◌, refl, sym, ap, ◌∙◌}
use mathlib.Core.List.{List}
use mathlib.Core.Bool.{Bool, true, false, cond}
use native.Mathlib.Nat.{not-suc-le-zero}
use native.Mathlib.Omega.{arith}
use native.Mathlib.Decide.{ℕ_discrete}
use native.Mathlib.Numerals.{add-one}
use mir.Val.{bool_byte}
use lib.Dec.{eqb}
use lib.ListN.{length, get_or, set, replicate}
use lib.Seq.{get_or-set_same, get_or-set_other}
use borrow.Author.Tests.{eq-eqb, ne_eqb}
use Rattle.game.specs.Forests.{count}
use Rattle.labelling.specs.Places.{Labelling, Grouped}

pub count-more : (p : ℕ → Bool) (i c d : ℕ) → c ≡ count i p → d ≡ cond (p i) (c + 1) c → d ≡ count (i + 1) p
unfolding count
count-more p i c d e f = f ∙ go (p i) ∙ ap (λ n. count n p) (sym (add-one i))
  where
    go : (b : Bool) → cond b (c + 1) c ≡ elim b [ true ↦ suc (count i p) | false ↦ count i p ]
    go true = add-one c ∙ ap suc e
    go false = e

pub byte-more : (b : Bool) (c r : ℕ) → r ≡ bool_byte b → c + r ≡ cond b (c + 1) c
byte-more true c r e = omega arith
byte-more false c r e = omega arith

pub tally-most : (b : Bool) (c d i : ℕ) → d ≡ cond b (c + 1) c → c ≤ i → d ≤ i + 1
tally-most true c d i e h = omega arith
tally-most false c d i e h = omega arith

-- the groups of the nodes below v
module _ (ls : List ℕ) (labelling : Labelling ls) where
  abbrev lead : ℕ → Bool
  lead u = eqb (get_or ls u 0) u

  pub zeros : (n u : ℕ) → get_or {A = ℕ} (replicate n 0) u 0 ≡ 0
  zeros zero zero = refl
  zeros zero (suc u) = refl
  zeros (suc n) zero = refl
  zeros (suc n) (suc u) = zeros n u

  pub groups-start : (gs : List ℕ) → ((u : ℕ) → get_or gs u 0 ≡ 0) → Grouped ls 0 gs
  groups-start gs z = record { numbers = λ v l. absurd (not-suc-le-zero l); others = λ v l. z v }

  pub groups-more : (gs : List ℕ) (v c x : ℕ) → v < 32 → length gs ≡ 32 → c ≡ count v lead → Grouped ls v gs → x ≡ cond (eqb (get_or ls v 0) v) c (get_or gs (get_or ls v 0) 0)
      → Grouped ls (v + 1) (set gs v x)
  groups-more gs v c x lv long e old ex = record { numbers = λ u l. go u l (ℕ_discrete u v); others = λ u l. get_or-set_other gs v u x 0 (λ z. omega arith) ∙ old.others u (omega arith) }
    where
      here : Dec (get_or ls v 0 ≡ v) → x ≡ count (get_or ls v 0) lead
      here (yes h) = ex ∙ ap (λ b. cond b c (get_or gs (get_or ls v 0) 0)) (eq-eqb (get_or ls v 0) v h) ∙ e ∙ ap (λ k. count k lead) (sym h)
      here (no n) =
          let w = labelling v lv in
          ex ∙ ap (λ b. cond b c (get_or gs (get_or ls v 0) 0)) (ne_eqb (get_or ls v 0) v n) ∙ old.numbers (get_or ls v 0) (omega (arith, w.0)) ∙ ap (λ k. count k lead) w.1

      go : (u : ℕ) → u < v + 1 → Dec (u ≡ v) → get_or (set gs v x) u 0 ≡ count (get_or ls u 0) lead
      go u l (yes z) = rw z (get_or-set_same gs v x 0 (omega arith) ∙ here (ℕ_discrete (get_or ls v 0) v))
      go u l (no n) = get_or-set_other gs v u x 0 n ∙ old.numbers u (omega arith)
