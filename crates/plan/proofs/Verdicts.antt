-- Verdicts: each row of the table in its order, what an accepted plan is, and the numbers returned.
use Prim.Native.Nat.{ℕ, zero, suc, ◌+◌, ◌-◌, ◌*◌, ◌≤◌, ◌<◌, zero-le}
use mathlib.Core.Path.{◌≡◌, refl, sym, ap, ◌∙◌, subst}
use mathlib.Core.List.{List}
use mathlib.Core.Bool.{Bool, true, not, or-true, Bool-discrete}
use mathlib.Core.Logic.{◌⊎◌, inl, inr, ◌↔◌, by_cases}
use native.Mathlib.Numerals.{add-one}
use native.Mathlib.Omega.{arith}
use native.Mathlib.Decide.{dec_le, dec_lt, ℕ_discrete}
use native.Mathlib.Nat.{le_refl}
use lib.ListN.{length}
use borrow.Author.Tests.{le-leb, lt-leb, lt-ltb, le-ltb, eq-eqb, ne_eqb}
use Rattle.reliability.proofs.Lists.{not-true-false}
use Rattle.plan.specs.declared.Cause.{Cause}
use Rattle.plan.specs.declared.Cause.TheVariants.{Short, Nodes, Links, Length, End, Value}
use Rattle.std.specs.Prelude.{Result, Ok, Err}
use Rattle.plan.specs.Plans.{Verdict, size_n, size_m, first_end, second_end, file_value, rated, is_rated, refused_if, also, link_verdict, links_verdict, verdict, WellFormedLink, WellFormed, number, returned}

-- ---- one link

module _ (b : List ℕ) (i : ℕ) where
  pub refused_end : (size_n b ≤ first_end b i) ⊎ (size_n b ≤ second_end b i) → link_verdict b i ≡ Err (End i)
  unfolding link_verdict
  refused_end (inl h) = simp (le-leb _ _ h)
  refused_end (inr h) = simp (le-leb _ _ h, or-true)

  pub by_value : {t : Bool} → first_end b i < size_n b → second_end b i < size_n b → is_rated (rated (file_value b i)) ≡ t → link_verdict b i ≡ refused_if (not t) (Value i) (Ok tt)
  unfolding link_verdict
  by_value h k e = simp (lt-leb _ _ h, lt-leb _ _ k, e)

-- ---- the links in order

-- the links from i on, of m: link i first, then the rest
pub in_order : (b : List ℕ) (i m : ℕ) {v : Verdict} → i < m → link_verdict b i ≡ v → links_verdict b i (m - i) ≡ also v (links_verdict b (i + 1) (m - (i + 1)))
unfolding links_verdict
in_order b i m h e =
    let left : m - i ≡ suc (m - (i + 1)) = omega arith in
    ap (links_verdict b i) left ∙ rw (e, add-one)

pub none_left : (b : List ℕ) (i m : ℕ) → m ≤ i → links_verdict b i (m - i) ≡ Ok tt
unfolding links_verdict
none_left b i m h = let left : m - i ≡ zero = omega arith in ap (links_verdict b i) left

-- ---- the rows of the table, in order

module _ (b : List ℕ) where
  pub refused-short : length b < 4 → verdict b ≡ Err Short
  unfolding verdict
  refused-short h = simp (lt-ltb _ _ h)

  module _ (long : 4 ≤ length b) where
    pub refused-nodes : (size_n b ≡ 0) ⊎ (32 < size_n b) → verdict b ≡ Err Nodes
    unfolding verdict
    refused-nodes (inl h) = simp (le-ltb _ _ long, eq-eqb _ _ h)
    refused-nodes (inr h) = simp (le-ltb _ _ long, lt-ltb _ _ h, or-true)

    module _ (some : 0 < size_n b) (few : size_n b ≤ 32) where
      nonzero : size_n b ≡ 0 → ⊥
      nonzero e = omega arith

      pub refused-links : 64 < size_m b → verdict b ≡ Err Links
      unfolding verdict
      refused-links h = simp (le-ltb _ _ long, ne_eqb _ _ nonzero, le-ltb _ _ few, lt-ltb _ _ h)

      module _ (fewer : size_m b ≤ 64) where
        pub refused-length : (length b ≡ 4 + 6 * size_m b → ⊥) → verdict b ≡ Err Length
        unfolding verdict
        refused-length h = simp (le-ltb _ _ long, ne_eqb _ _ nonzero, le-ltb _ _ few, le-ltb _ _ fewer, ne_eqb _ _ h)

        pub by-links : length b ≡ 4 + 6 * size_m b → verdict b ≡ links_verdict b 0 (size_m b)
        unfolding verdict
        by-links h = simp (le-ltb _ _ long, ne_eqb _ _ nonzero, le-ltb _ _ few, le-ltb _ _ fewer, eq-eqb _ _ h)

-- ---- accepted plans

-- no refusal is accepted
pub not-refused : {E P : Type 0} {c : E} → ◌≡◌ {A = Result (Unit {0}) E} (Err c) (Ok tt) → P
not-refused e = let z : ◌≡◌ {A = ℕ} 0 1 = cc in absurd (omega arith)

-- what is not refused for want of it
kept : {P : Type 0} {v : Verdict} {c : Cause} → Dec P → v ≡ Ok tt → ((P → ⊥) → v ≡ Err c) → P
kept (yes p) e r = p
kept (no n) e r = not-refused (sym (r n) ∙ e)

-- both verdicts of an accepted pair are accepted
both-accepted : (u v : Verdict) → also u v ≡ Ok tt → (u ≡ Ok tt) × (v ≡ Ok tt)
both-accepted (Ok tt) v e = (refl, e)
both-accepted (Err c) v e = not-refused e

module _ (b : List ℕ) (i : ℕ) where
  link-accepted : link_verdict b i ≡ Ok tt → WellFormedLink b i
  link-accepted e =
      let h = kept (dec_lt (first_end b i) (size_n b)) e (λ n. refused_end b i (inl (omega arith))) in
      let k = kept (dec_lt (second_end b i) (size_n b)) e (λ n. refused_end b i (inr (omega arith))) in
      record { first = h; second = k; valued = kept (Bool-discrete (is_rated (rated (file_value b i))) true) e (λ n. by_value b i h k (not-true-false n)) }

  accepted-link : WellFormedLink b i → link_verdict b i ≡ Ok tt
  accepted-link f = by_value b i f.first f.second refl ∙ rw f.valued

links-accepted : (b : List ℕ) (i k : ℕ) → links_verdict b i k ≡ Ok tt → (j : ℕ) → i ≤ j → j < i + k → WellFormedLink b j
unfolding links_verdict
links-accepted b i zero e j l h = absurd (omega arith)
links-accepted b i (suc k) e j l h =
    let p = both-accepted (link_verdict b i) (links_verdict b (suc i) k) e in
    by_cases (dec_lt i j) (λ m. links-accepted b (suc i) k p.1 j m (omega arith)) (λ n. subst (WellFormedLink b) (omega arith) (link-accepted b i p.0))

accepted-links : (b : List ℕ) (i k : ℕ) → ((j : ℕ) → i ≤ j → j < i + k → WellFormedLink b j) → links_verdict b i k ≡ Ok tt
unfolding links_verdict
accepted-links b i zero f = refl
accepted-links b i (suc k) f = rw (accepted-link b i (f i (le_refl i) (omega arith))) (accepted-links b (suc i) k (λ j l h. f j (omega arith) (omega arith)))

module _ (b : List ℕ) where
  accepted : verdict b ≡ Ok tt → WellFormed b
  accepted e =
      let long = kept (dec_le 4 (length b)) e (λ n. refused-short b (omega arith)) in
      let some = kept (dec_lt 0 (size_n b)) e (λ n. refused-nodes b long (inl (omega arith))) in
      let few = kept (dec_le (size_n b) 32) e (λ n. refused-nodes b long (inr (omega arith))) in
      let fewer = kept (dec_le (size_m b) 64) e (λ n. refused-links b long some few (omega arith)) in
      let whole = kept (ℕ_discrete (length b) (4 + 6 * size_m b)) e (λ n. refused-length b long some few fewer n) in
      record {
        some_node = some;
        nodes = few;
        links = fewer;
        whole = whole;
        each = λ i h. links-accepted b 0 (size_m b) (sym (by-links b long some few fewer whole) ∙ e) i zero-le (omega arith);
      }

  -- a plan that meets no cause of refusal is accepted, and no other
  pub accepted-means : verdict b ≡ Ok tt ↔ WellFormed b
  accepted-means = (
    accepted,
    λ w. by-links b (omega arith) w.some_node w.nodes w.links w.whole ∙ accepted-links b 0 (size_m b) (λ j l h. w.each j (omega arith)),
  )

-- ---- the numbers returned

-- the column Number
pub number-range : (c : Cause) → (1 ≤ number c) × (number c ≤ 6)
number-range Short = omega arith
number-range Nodes = omega arith
number-range Links = omega arith
number-range Length = omega arith
number-range (End i) = omega arith
number-range (Value i) = omega arith

-- 0 is returned of an accepted plan, and of no other
pub zero-means : (v : Verdict) → returned v ≡ 0 ↔ v ≡ Ok tt
zero-means (Ok tt) = (λ e. refl, λ h. refl)
zero-means (Err c) = (λ e. absurd (omega (arith, number-range c)), λ h. ap returned h)
