-- A user who works through several sittings gets the answer of one sitting whose limit is their total.
use Prim.Native.Nat.{ℕ, ◌+◌, ◌-◌, ◌≤◌, min}
use mathlib.Core.Path.{◌≡◌, refl, sym, ap, ap₂, ◌∙◌}
use mathlib.Core.List.{List, [], ◌∷◌}
use mathlib.Core.Bool.{Bool, true, false}
use native.Mathlib.Nat.{add_assoc, zero-add}
use native.Mathlib.Omega.{arith}
use lib.Dec.{leb}
use borrow.Author.Tests.{le-leb, lt-leb, leb-true, leb-false}
use Rattle.reliability.specs.declared.Figure.{Figure}
use Rattle.reliability.specs.Networks.{Network, Valid}
use Rattle.reliability.specs.Exact.{altogether}
use Rattle.reliability.specs.Rule.{figure, more, Tree, run, splits, tree}
use Rattle.reliability.proofs.Runs.{steps, finished, all-taken, stays}
use Rattle.sittings.specs.Sittings.{Open, opens, resumed, Saved, begun, complete, Sitting, nothing, most, keeping, sitting, saved_after}
use Rattle.sittings.proofs.Sittings.{more-zero, Formed, two-figure, two-opens}
use Rattle.sittings.proofs.Bounds.{tree-formed}

more-more : (n k : ℕ) (f : Figure) → more (n + k) f ≡ more n (more k f)
more-more n k f = λ i. record { low = f.low; high = f.high; steps = add_assoc n k f.steps i; finished = f.finished }

abbrev kept : Figure → Saved → Sitting
kept f s = record { answer = f; saved = s }

module _ (t : Tree) (formed : Formed t) where
  module _ (os : List Open) (n l k : ℕ) where
    abbrev u : Tree
    u = resumed t os

    -- the first sitting's limit, and the longer one's
    abbrev l₁ : ℕ
    l₁ = min l (most - n)

    abbrev longer : ℕ
    longer = min (l + k) (most - n)

    abbrev f₁ : Figure
    f₁ = run u l₁

    abbrev Outcome : ℕ → Sitting
    Outcome j = let f = more n (run u j) in record { answer = f; saved = keeping f (opens u j) }

    two-by : (c : Bool) → f₁.finished ≡ c → sitting t (elim c [ true ↦ complete (more n f₁) | false ↦ begun (opens u l₁) (n + f₁.steps) ]) k ≡ Outcome longer
    unfolding sitting
    two-by true e =
        let same : longer ≡ l₁ + (longer - l₁) = omega arith in
        ap (λ (c : Bool). kept (more n f₁) (elim c [ true ↦ complete (more n f₁) | false ↦ begun (opens u longer) (n + f₁.steps) ])) (sym e)
        ∙ sym (ap (λ (f : Figure). kept (more n f) (keeping (more n f) (opens u longer))) (ap (run u) same ∙ stays u l₁ (longer - l₁) e))
    two-by false e =
        let l₂ = min k (most - (n + f₁.steps)) in
        let sum : l₁ + l₂ ≡ longer = omega (arith, all-taken u l₁ e) in
        ap₂ (λ (f : Figure) (o : List Open). kept f (keeping f o))
        (more-more n f₁.steps (run (resumed t (opens u l₁)) l₂) ∙ ap (more n) (two-figure t formed os l₁ l₂ ∙ ap (run u) sum))
        (two-opens t formed os l₁ l₂ ∙ ap (opens u) sum)

  -- two sittings are one
  pub two : (s : Saved) (l k : ℕ) → sitting t (sitting t s l).saved k ≡ sitting t s (l + k)
  unfolding sitting
  two (complete f) l k = refl
  two (begun os n) l k = two-by os n l k (f₁ os n l k).finished refl

  -- several sittings are one
  pub totals : (s : Saved) (ls : List ℕ) (k : ℕ) → sitting t (saved_after t s ls) k ≡ sitting t s (altogether ls + k)
  unfolding saved_after altogether
  totals s [] k = ap (sitting t s) (sym (zero-add k))
  totals s (l ∷ ls) k = totals (sitting t s l).saved ls k ∙ two s l (altogether ls + k) ∙ ap (sitting t s) (sym (add_assoc l (altogether ls) k))

-- a limit past the most steps is the most steps
pub capped : (t : Tree) (s : Saved) (l : ℕ) → sitting t s l ≡ sitting t s (min l most)
unfolding sitting
capped t (complete f) l = refl
capped t (begun os n) l =
    let same : min l (most - n) ≡ min (min l most) (most - n) = omega arith in
    ap (λ j. kept (more n (run (resumed t os) j)) (keeping (more n (run (resumed t os) j)) (opens (resumed t os) j))) same

-- ---- from nothing

-- the rule's figure under the total, or under a million steps
pub total-figure : (g : Network) → Valid g → (ls : List ℕ) (k : ℕ) → (sitting (tree g) (saved_after (tree g) nothing ls) k).answer ≡ figure g (min (altogether ls + k) most)
unfolding sitting resumed
total-figure g valid ls k = ap (λ (s : Sitting). s.answer) (totals (tree g) (tree-formed g valid) nothing ls k) ∙ more-zero (run (tree g) (min (altogether ls + k) most))

pub first-figure : (g : Network) (limit : ℕ) → limit ≤ most → (sitting (tree g) nothing limit).answer ≡ figure g limit
unfolding sitting resumed
first-figure g limit h =
    let same : min limit most ≡ limit = omega arith in
    more-zero (run (tree g) (min limit most)) ∙ ap (run (tree g)) same

-- ---- a carried run

-- n steps so far, and the splits still to take, against the sitting's limit and the most steps
module _ (t : Tree) (os : List Open) (n limit : ℕ) (h : n ≤ most) where
  abbrev answer : Figure
  answer = (sitting t (begun os n) limit).answer

  abbrev wanted : ℕ
  wanted = n + splits (resumed t os)

  pub carried-steps : answer.steps ≡ min wanted (min (n + limit) most)
  unfolding sitting
  carried-steps = omega (arith, steps (resumed t os) (min limit (most - n)))

  pub carried-finished : answer.finished ≡ leb wanted (min (n + limit) most)
  unfolding sitting
  carried-finished = finished (resumed t os) (min limit (most - n)) ∙ go (leb wanted (min (n + limit) most)) refl
    where
      go : (c : Bool) → leb wanted (min (n + limit) most) ≡ c → leb (splits (resumed t os)) (min limit (most - n)) ≡ c
      go true e = le-leb (splits (resumed t os)) (min limit (most - n)) (omega (arith, leb-true wanted (min (n + limit) most) e))
      go false e = lt-leb (splits (resumed t os)) (min limit (most - n)) (omega (arith, leb-false wanted (min (n + limit) most) e))

  -- never past the most steps, nor past the limit in this sitting
  pub at_most : (answer.steps ≤ most) × (answer.steps ≤ n + limit)
  at_most = let e = carried-steps in (omega arith, omega arith)
