-- The causes of saved work, case by case, and what is accepted.
use Prim.Native.Nat.{ℕ}
use mathlib.Core.Path.{◌≡◌, refl, ap, ◌∙◌}
use mathlib.Core.List.{List}
use mathlib.Core.Logic.{◌↔◌}
use mathlib.Core.Bool.{Bool, true, false, cond}
use native.Mathlib.Omega.{arith}
use Rattle.reliability.specs.Rule.{Tree}
use Rattle.causes.specs.declared.CallCause.TheVariants.{SavedWork, OpenSplit}
use Rattle.std.specs.Prelude.{Ok, Err}
use Rattle.causes.proofs.Laws.{both-passed}
use Rattle.sittings.specs.Sittings.{traced}
use Rattle.saved.specs.Format.{state_in, opens_from, opens_of, well_formed}
use Rattle.saved.proofs.Laws.{complete-means}
use Rattle.saved_verdict.specs.SavedVerdict.{saved_verdict}

module _ (t : Tree) (b : List ℕ) where
  pub not-formed : well_formed b ≡ false → Err SavedWork ≡ saved_verdict t b
  unfolding saved_verdict
  not-formed e = rw e refl

  module _ (formed : well_formed b ≡ true) where
    pub by-traces : (c : Bool) → traced t (opens_of b) ≡ c → cond c (Ok tt) (Err OpenSplit) ≡ saved_verdict t b
    unfolding saved_verdict
    by-traces c e = rw (formed, e) refl

    -- no open split is left to trace
    pub complete-passes : state_in b ≡ 1 → (Ok tt) ≡ saved_verdict t b
    unfolding opens_from traced
    complete-passes e =
        let w = complete-means b formed (λ z. omega arith) in
        by-traces true (ap (λ n. traced t (opens_from b 0 n)) w.none ∙ refl)

  pub saved-means : saved_verdict t b ≡ Ok tt ↔ (well_formed b ≡ true) × (traced t (opens_of b) ≡ true)
  unfolding saved_verdict
  saved-means = (both-passed (well_formed b) (traced t (opens_of b)) SavedWork OpenSplit, λ h. rw (h.0, h.1) refl)
