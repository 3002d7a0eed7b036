-- The chosen nodes as they change.
use Prim.Native.Nat.{ℕ, ◌<◌}
use mathlib.Core.Path.{◌≡◌, refl, sym, ap, ◌∙◌}
use mathlib.Core.List.Memᴰ
use mathlib.Core.List.{List, [], ◌∷◌, Memᴰ}
use mathlib.Core.Bool.{Bool, true, false, cond, ◌||◌, true≢false}
use mathlib.Core.Logic.{◌⊎◌, inr, ⊎_map, ⊎_elim}
use native.Mathlib.Omega.{arith}
use lib.Dec.{eqb, leb}
use borrow.Author.Tests.{eqb-true, eq-eqb, leb-true, leb-false}
use Rattle.reliability.specs.Networks.{Ascending}
use Rattle.reliability.specs.Rule.{without}
use Rattle.reliability.proofs.Lists.{by_eqb, or-true, mem-without, without-mem}
use Rattle.reliability.proofs.States.{Onto, onto_same, rename-gone, rename-other}
use Rattle.reliability.proofs.Validity.{ascending-without}
use Rattle.reliability.specs.Terminals.{has, insert, into}

pub has-mem : (v : ℕ) (us : List ℕ) → has v us ≡ true → Memᴰ v us
unfolding has
has-mem v [] h = absurd (true≢false (sym h))
has-mem v (u ∷ us) h = ⊎_elim (λ e. Memᴰ.head (sym (eqb-true u v e))) (λ k. Memᴰ.tail (has-mem v us k)) (or-true (eqb u v) (has v us) h)

pub mem-has : (v : ℕ) (us : List ℕ) → Memᴰ v us → has v us ≡ true
unfolding has
mem-has v (u ∷ us) (Memᴰ.head p) = rw (eq-eqb u v (sym p))
mem-has v (u ∷ us) (Memᴰ.tail m) = rw (mem-has v us m) (or_right (eqb u v))
  where
    or_right : (b : Bool) → b || true ≡ true
    or_right true = refl
    or_right false = refl
mem-has v [] x' = elim x' [ ]

pub has-out : (v : ℕ) (us : List ℕ) → has v us ≡ false → Memᴰ v us → ⊥
has-out v us h m = true≢false (sym (mem-has v us m) ∙ h)

-- the three places of a number among others
module _ (P : List ℕ → Type 0) (v u : ℕ) (us : List ℕ) where
  pub by-insert : (u ≡ v → P (u ∷ us)) → (u < v → P (u ∷ insert v us)) → (v < u → P (v ∷ u ∷ us)) → P (insert v (u ∷ us))
  unfolding insert
  by-insert same later here =
      by_eqb (λ b. P (elim b [ true ↦ u ∷ us | false ↦ elim (leb u v) [ true ↦ u ∷ insert v us | false ↦ v ∷ u ∷ us ] ])) u v same (λ n. go (leb u v) refl n)
    where
      go : (b : Bool) → leb u v ≡ b → (u ≡ v → ⊥) → P (elim b [ true ↦ u ∷ insert v us | false ↦ v ∷ u ∷ us ])
      go true e n = later (omega (arith, leb-true u v e))
      go false e n = here (omega (arith, leb-false u v e))

module _ (v : ℕ) where
  mem-insert : (x : ℕ) (us : List ℕ) → Memᴰ x (insert v us) → (x ≡ v) ⊎ Memᴰ x us
  unfolding insert
  mem-insert x [] = λ m. Memᴰ.cases_cons m
  mem-insert x (u ∷ us) =
      by-insert (λ l. Memᴰ x l → (x ≡ v) ⊎ Memᴰ x (u ∷ us)) v u us
      (λ e m. inr m)
      (λ e m. ⊎_elim (λ p. inr (Memᴰ.head p)) (λ n. ⊎_map (λ p. p) (λ k. Memᴰ.tail k) (mem-insert x us n)) (Memᴰ.cases_cons m))
      (λ e m. Memᴰ.cases_cons m)

  insert-new : (us : List ℕ) → Memᴰ v (insert v us)
  unfolding insert
  insert-new [] = Memᴰ.head refl
  insert-new (u ∷ us) = by-insert (Memᴰ v) v u us (λ e. Memᴰ.head (sym e)) (λ e. Memᴰ.tail (insert-new us)) (λ e. Memᴰ.head refl)

  insert-old : (x : ℕ) (us : List ℕ) → Memᴰ x us → Memᴰ x (insert v us)
  insert-old x (u ∷ us) m =
      by-insert (Memᴰ x) v u us (λ e. m)
      (λ e. ⊎_elim (λ p. Memᴰ.head p) (λ n. Memᴰ.tail (insert-old x us n)) (Memᴰ.cases_cons m))
      (λ e. Memᴰ.tail m)
  insert-old x [] m = elim m [ ]

  insert-ascending : (us : List ℕ) → Ascending us → Ascending (insert v us)
  unfolding insert Ascending
  insert-ascending [] a = (λ w m. elim m [ ], tt)
  insert-ascending (u ∷ us) a =
      by-insert Ascending v u us (λ e. a)
      (λ e. (λ w m. ⊎_elim (λ (p : w ≡ v). omega arith) (a.0 w) (mem-insert w us m), insert-ascending us a.1))
      (λ e. (λ w m. ⊎_elim (λ (p : w ≡ u). omega arith) (λ n. omega (arith, a.0 w n)) (Memᴰ.cases_cons m), a))

  insert-same : (us : List ℕ) → Ascending us → Memᴰ v us → insert v us ≡ us
  unfolding Ascending
  insert-same (u ∷ us) a m =
      by-insert (λ l. l ≡ u ∷ us) v u us (λ e. refl)
      (λ e. ⊎_elim (λ (p : v ≡ u). absurd (omega arith)) (λ n. ap (λ l. u ∷ l) (insert-same us a.1 n)) (Memᴰ.cases_cons m))
      (λ e. ⊎_elim (λ (p : v ≡ u). absurd (omega arith)) (λ n. absurd (omega (arith, a.0 v n))) (Memᴰ.cases_cons m))
  insert-same [] a m = elim m [ ]

module _ (w v : ℕ) (cs : List ℕ) where
  -- the chosen nodes with v renamed to w
  pub into-onto : Onto w v cs (into w v cs)
  unfolding into
  into-onto = go (has v cs) refl
    where
      go : (b : Bool) → has v cs ≡ b → Onto w v cs (elim b [ true ↦ insert w (without v cs) | false ↦ cs ])
      go true h = record {
        into = λ u m. by_eqb (λ b. Memᴰ (cond b w u) (insert w (without v cs))) u v (λ e. insert-new w (without v cs)) (λ n. insert-old w u (without v cs) (without-mem v u cs m n));
        from = λ x m. ⊎_elim (λ (p : x ≡ w). (v, has-mem v cs h, rename-gone w v ∙ sym p)) (λ n. let k = mem-without v x cs n in (x, k.0, rename-other w v k.1)) (mem-insert w x (without v cs) m);
      }
      go false h = onto_same cs w v (has-out v cs h)

  pub into-ascending : Ascending cs → Ascending (into w v cs)
  unfolding into
  into-ascending a = go (has v cs)
    where
      go : (b : Bool) → Ascending (elim b [ true ↦ insert w (without v cs) | false ↦ cs ])
      go true = insert-ascending w (without v cs) (ascending-without v cs a)
      go false = a

  -- where both are chosen, v goes
  pub into-both : Ascending cs → Memᴰ w cs → Memᴰ v cs → (w ≡ v → ⊥) → into w v cs ≡ without v cs
  unfolding into
  into-both a inw inv differ = rw (mem-has v cs inv, into) (insert-same w (without v cs) (ascending-without v cs a) (without-mem v w cs inw differ))

-- where v is not among them, nothing goes
pub without-none : (v : ℕ) (cs : List ℕ) → (Memᴰ v cs → ⊥) → without v cs ≡ cs
unfolding without
without-none v [] out = refl
without-none v (u ∷ cs) out =
    by_eqb (λ b. elim b [ true ↦ without v cs | false ↦ u ∷ without v cs ] ≡ u ∷ cs) u v (λ e. absurd (out (Memᴰ.head (sym e)))) (λ n. ap (λ l. u ∷ l) (without-none v cs (λ m. out (Memᴰ.tail m))))
