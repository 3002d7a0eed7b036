-- The lines of a plan's links one by one, and how long a listing can be.
use Prim.Native.Nat.{ℕ, zero, suc, ◌+◌, ◌-◌, ◌*◌, ◌≤◌, ◌<◌}
use mathlib.Core.Path.{◌≡◌, ap, ◌∙◌}
use mathlib.Core.List.{List, [], ◌++◌}
use native.Mathlib.Nat.{zero-add}
use native.Mathlib.Omega.{arith}
use lib.ListN.{length, length-append, drop}
use lib.Seq.{length-sets, sets-eq}
use Rattle.lines.specs.Lines.{Puts}
use Rattle.ratings.specs.Ratings.{T}
use Rattle.reliability.specs.Networks.{pieces_of}
use Rattle.reliability.specs.Rule.{figure}
use Rattle.reliability.specs.Comparisons.{importance}
use Rattle.plan.specs.Plans.{Verdict}
use Rattle.std.specs.Prelude.{Ok, Err}
use Rattle.plan.specs.Plans.{size_n, size_m, verdict, link_in, plan_of}
use Rattle.plan.proofs.Verdicts.{accepted-means}
use Rattle.listing_lines.proofs.Lengths.{length-sizes, length-figure, length-link, length-limits, length-refused}
use Rattle.listing.specs.Listings.{figure_limit, importance_limit, sizes_line, figure_line, line_of, link_lines, limits_line, listing_by, listing}

-- ---- link by link

module _ (plan : List ℕ) (m i : ℕ) where
  pub links-next : i < m → link_lines plan i (m - i) ≡ line_of plan i ++ link_lines plan (i + 1) (m - (i + 1))
  unfolding link_lines
  links-next h =
      let e : m - i ≡ suc (m - (i + 1)) = omega arith in
      let f : suc i ≡ i + 1 = omega arith in
      ap (link_lines plan i) e ∙ ap (λ (k : ℕ). line_of plan i ++ link_lines plan k (m - (i + 1))) f

  pub links-none : m ≤ i → link_lines plan i (m - i) ≡ []
  unfolding link_lines
  links-none h =
      let e : m - i ≡ 0 = omega arith in
      ap (link_lines plan i) e

-- ---- lengths

length-links : (plan : List ℕ) (i k : ℕ) → length (link_lines plan i k) ≤ 71 * k
unfolding link_lines
length-links plan i zero = omega arith
length-links plan i (suc k) =
    omega (arith, length-append (line_of plan i) (link_lines plan (suc i) k), length-link i (link_in T plan i) (importance (plan_of T plan) i importance_limit), length-links plan (suc i) k)

-- ---- the whole listing

-- no listing has more bytes than this, so 8,192 hold every one
abbrev pub most : ℕ
most = 4693

module _ (plan : List ℕ) where
  pub length-listing : (v : Verdict) → verdict plan ≡ v → length (listing_by v plan) ≤ most
  length-listing (Ok tt) e =
      let w = (accepted-means plan).0 e in
      let f = figure (plan_of T plan) figure_limit in
      let k = pieces_of (plan_of T plan) in
      let s = sizes_line (size_n plan) (size_m plan) k in
      let l = link_lines plan 0 (size_m plan) in
      omega (arith, length-append (s ++ figure_line f ++ l) limits_line, length-append (s ++ figure_line f) l, length-append s (figure_line f), length-sizes (size_n plan) (size_m plan) k, length-figure f, length-links plan 0 (size_m plan), length-limits, w.links)
  length-listing (Err c) e = omega (arith, length-refused c)

  listing-is : (v : Verdict) → verdict plan ≡ v → listing plan ≡ listing_by v plan
  unfolding listing
  listing-is v e = ap (λ u. listing_by u plan) e

  -- the text once it is written, the bytes behind it as they were
  pub listed : (v : Verdict) → verdict plan ≡ v → (b l : List ℕ) (r : ℕ) → most ≤ length b → Puts b 0 (listing_by v plan) l r
      → (r ≡ length (listing plan)) × ((r ≤ length l) × (l ≡ listing plan ++ drop (length (listing plan)) b))
  listed v e b l r n p =
      let t = listing_by v plan in
      let h : length t ≤ length b = omega (arith, length-listing v e, n) in
      rw (listing-is v e) (omega (arith, p.1), (omega (arith, p.1, ap length p.0, length-sets b 0 t, h), p.0 ∙ sets-eq t b 0 (omega (arith, h)) ∙ ap (λ (k : ℕ). t ++ drop k b) (zero-add (length t))))
