-- What holds of every listing.
use Prim.Native.Nat.{ℕ, ◌+◌, ◌-◌, ◌*◌, ◌≤◌, ◌<◌}
use mathlib.Core.Path.{◌≡◌, refl, sym, ap, ap₂, ◌∙◌}
use mathlib.Core.List.{List}
use mathlib.Core.Bool.{Bool, true, false, not, cond, ◌||◌}
use native.Mathlib.Omega.{arith}
use native.Mathlib.Decide.{dec_le}
use lib.Dec.{eqb, ltb}
use lib.ListN.{length, get_or, take}
use lib.Seq.{take_all, length-take-le, get_or-take}
use borrow.Author.Tests.{le-ltb, ltb-false, ne_eqb}
use Rattle.ratings.specs.Ratings.{T}
use Rattle.ratings.proofs.Laws.{built-in-range}
use Rattle.reliability.specs.declared.Figure.{Figure}
use Rattle.reliability.specs.Networks.{Network, link_at, pieces_of}
use Rattle.reliability.specs.Rule.{is_loop, bounded, figure}
use Rattle.reliability.specs.Comparisons.{importance}
use Rattle.reliability.proofs.Separate.{separate-figure}
use Rattle.reliability.proofs.Comparisons.{importance-width}
use Rattle.plan.specs.declared.Cause.TheVariants.{Short, Nodes, Links, Length}
use Rattle.plan.specs.Plans.{Verdict}
use Rattle.std.specs.Prelude.{Ok, Err}
use Rattle.plan.specs.Plans.{size_n, size_m, refused_if, links_verdict, verdict, plan_of}
use Rattle.plan.proofs.Accepted.{plan-valid, plan-links, plan-nodes}
use Rattle.plan.proofs.Weights.{plan-enclosed, others-units, others-few}
use Rattle.listing.specs.Listings.{figure_limit, importance_limit, listing_by, listing, importance_width}

-- ---- an input longer than any plan

-- beyond 388 bytes the links are not looked at: n, m or the length is refused
abbrev sizes_verdict : ℕ → ℕ → Verdict
sizes_verdict n m = refused_if (eqb n 0 || ltb 32 n) Nodes (refused_if (ltb 64 m) Links (Err Length))

-- one link more than 64, or a length that is not 4 + 6 * m
length-refused : (size m : ℕ) (v : Verdict) → 388 < size → (t : Bool) → ltb 64 m ≡ t
    → refused_if t Links (refused_if (not (eqb size (4 + 6 * m))) Length v) ≡ refused_if t Links (Err Length)
length-refused size m v h true e = refl
length-refused size m v h false e =
    let l = ltb-false 64 m e in
    ap (λ (u : Bool). refused_if (not u) Length v) (ne_eqb size (4 + 6 * m) (λ d. omega arith))

too_long : (b : List ℕ) → 388 < length b → verdict b ≡ sizes_verdict (size_n b) (size_m b)
unfolding verdict
too_long b h =
    let later = links_verdict b 0 (size_m b) in
    let nodes : Verdict → Verdict = λ v. refused_if (eqb (size_n b) 0 || ltb 32 (size_n b)) Nodes v in
    ap (λ (t : Bool). refused_if t Short (nodes (refused_if (ltb 64 (size_m b)) Links (refused_if (not (eqb (length b) (4 + 6 * size_m b))) Length later)))) (le-ltb (length b) 4 (omega arith))
    ∙ ap nodes (length-refused (length b) (size_m b) later h (ltb 64 (size_m b)) refl)

-- what is printed then is of the sizes alone
same_text : (s t : Bool) (b c : List ℕ) → listing_by (refused_if s Nodes (refused_if t Links (Err Length))) b ≡ listing_by (refused_if s Nodes (refused_if t Links (Err Length))) c
same_text true t b c = refl
same_text false true b c = refl
same_text false false b c = refl

-- more than 388 bytes tell as much as all of them
module _ (b : List ℕ) (k : ℕ) (more : 388 < k) where
  abbrev front : List ℕ
  front = take k b

  same-sizes : sizes_verdict (size_n front) (size_m front) ≡ sizes_verdict (size_n b) (size_m b)
  same-sizes =
      let byte : (i : ℕ) → i < k → get_or front i 0 ≡ get_or b i 0 = λ i h. get_or-take k b i 0 h in
      let word : ℕ → ℕ → ℕ = λ x y. x + 256 * y in
      ap₂ sizes_verdict (ap₂ word (byte 0 (omega arith)) (byte 1 (omega arith))) (ap₂ word (byte 2 (omega arith)) (byte 3 (omega arith)))

  pub enough : listing (take k b) ≡ listing b
  unfolding listing
  enough = go (dec_le (length b) k)
    where
      go : Dec (length b ≤ k) → listing (take k b) ≡ listing b
      go (yes h) = ap listing (take_all k b h)
      go (no h) =
          let l = length-take-le k b (omega arith) in
          let n = size_n b in
          ap (λ (v : Verdict). listing_by v front) (too_long front (omega (arith, l)) ∙ same-sizes)
          ∙ same_text (eqb n 0 || ltb 32 n) (ltb 64 (size_m b)) front b
          ∙ sym (ap (λ (v : Verdict). listing_by v b) (too_long b (omega arith)))

-- ---- a limit that was too small

kept-at-most : (t : Bool) (n : ℕ) → cond t n (n - 1) ≤ n
kept-at-most true n = omega arith
kept-at-most false n = omega arith

module _ (plan : List ℕ) (accepted : verdict plan ≡ Ok tt) (i : ℕ) (place : i < size_m plan) where
  abbrev g : Network
  g = plan_of T plan

  abbrev f : Figure
  f = importance g i importance_limit

  -- a finished importance is no wider than this, so one that is wider is not finished
  pub listed-importance-width : f.finished ≡ true → f.high ≤ f.low + importance_width plan
  listed-importance-width done =
      let present : i < length g.links = omega (arith, place, plan-links T plan) in
      let w = importance-width g (plan-valid T plan built-in-range accepted) i present importance_limit (plan-enclosed plan T built-in-range) done in
      omega (arith, w, plan-links T plan, plan-nodes T plan, others-units plan i, others-few plan i, kept-at-most (is_loop (link_at g i)) (length g.nodes))

-- ---- several pieces

-- the figure of a plan that lies in several pieces is 0, finished without a split
pub listed-separate : (plan : List ℕ) → verdict plan ≡ Ok tt → 1 < pieces_of (plan_of T plan) → figure (plan_of T plan) figure_limit ≡ bounded (λ d. 0) 0 true
listed-separate plan accepted several = separate-figure (plan_of T plan) (plan-valid T plan built-in-range accepted) several figure_limit
