-- The links of a plan by place, and the 98 bytes.
use Prim.Native.Nat.{ℕ, zero, suc, ◌+◌, ◌≤◌, ◌<◌}
use mathlib.Core.Path.{◌≡◌, refl, sym, ap, ap₂, ◌∙◌}
use mathlib.Core.List.{List, [], ◌∷◌, ◌++◌, map, append_assoc}
use native.Mathlib.Omega.{arith}
use lib.ListN.{length, get_or, set, take, drop}
use lib.Seq.{take_at, drop_at, drop-drop}
use borrow.Rule.Slice.PartMut.{put_mid}
use Rattle.ratings.specs.Ratings.{T}
use Rattle.reliability.specs.Networks.{Ends, ends}
use Rattle.search.specs.Searches.{from}
use Rattle.plan.specs.Plans.{first_end, second_end, link_in}
use Rattle.forests.specs.Links.{links_from}

-- the ends of the links below i stand in two arrays
abbrev pub Reads : List ℕ → List ℕ → List ℕ → ℕ → Type 0
Reads plan as₁ bs i = (j : ℕ) → j < i → (get_or as₁ j 0 ≡ first_end plan j) × (get_or bs j 0 ≡ second_end plan j)

-- then these are the plan's links
pub links-read : (plan as₁ bs : List ℕ) (i k : ℕ) → Reads plan as₁ bs (i + k) → links_from as₁ bs i k ≡ map ends (map (link_in T plan) (from i k))
unfolding links_from link_in from
links-read plan as₁ bs i zero h = refl
links-read plan as₁ bs i (suc k) h =
    let e = h i (omega arith) in
    ap₂ (λ (x : Ends) (l : List Ends). x ∷ l) (λ z. record { a = e.0 z; b = e.1 z }) (links-read plan as₁ bs (suc i) k (λ j l. h j (omega arith)))

-- two bytes, 64 bytes behind them and 32 behind these
pub laid : (b ts hs : List ℕ) (x y : ℕ) → 98 ≤ length b → length ts ≡ 64 → length hs ≡ 32
    → put_mid 66 32 (put_mid 2 64 (set (set b 0 x) 1 y) ts) hs ≡ x ∷ y ∷ (ts ++ hs ++ drop 98 b)
laid [] ts hs x y room et eh = absurd (omega arith)
laid (p ∷ []) ts hs x y room et eh = absurd (omega arith)
laid (p ∷ q ∷ r) ts hs x y room et eh =
    let front : take 64 (ts ++ drop 64 r) ≡ ts = take_at ts (drop 64 r) 64 et in
    let back : drop 32 (drop 64 (ts ++ drop 64 r)) ≡ drop 96 r = ap (drop 32) (drop_at ts (drop 64 r) 64 et) ∙ drop-drop 32 64 r in
    ap₂ (λ k l. x ∷ y ∷ (k ++ (hs ++ l))) front back ∙ ap (λ l. x ∷ y ∷ l) (sym (append_assoc ts hs (drop 96 r)))
