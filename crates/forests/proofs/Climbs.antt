-- One level of the search, by the tables.
use Prim.Native.Nat.{ℕ, zero, suc, ◌+◌, ◌-◌, ◌≤◌, ◌<◌}
use mathlib.Core.Path.{◌≡◌, refl, sym, ap, subst, ◌∙◌}
use mathlib.Core.List.{List}
use mathlib.Core.Bool.{Bool, false, cond, ◌&&◌, ◌||◌, not}
use mathlib.Core.Option.{Option, some, none}
use native.Mathlib.Omega.{arith}
use lib.Dec.{ltb}
use lib.ListN.{length, get_or, set}
use Rattle.std.specs.Prelude.{Option as Perhaps, Some, None}
use Rattle.bits.specs.Members.{members, first_of, both, difference}
use Rattle.search.proofs.Sets.{has as in-set, has-none}
use Rattle.reliability.specs.Networks.{Ends}
use Rattle.game.specs.Forests.{table, has, first, takes, cut, meet, next, Search, place, closed, chosen, climb, start, search, Found, grow}
use Rattle.game.specs.Game.{marked}
use Rattle.game.proofs.Searches.{Result, Placeable, search-law}
use Rattle.forests.specs.declared.Links.{Links}
use Rattle.labelling.specs.Places.{places_of}
use Rattle.forests.specs.Links.{links_of, Fit, Cuts, Takes}
use Rattle.labelling.proofs.Laws.{table_same, first-is, first-not, found-below, none_below, meet-same, difference-same}
use Rattle.forests.proofs.Tables.{length-links}

module _ (l : Links) (marks : List ℕ) (one two : ℕ) (fit : Fit l) (tables : Takes l marks one two) where
  abbrev es : List Ends
  es = links_of l

  abbrev m : ℕ
  m = l.m

  long : m ≡ length es
  long = sym (length-links l.a l.b 0 l.m)

  -- the links of a set that a forest takes
  module _ (k x : ℕ) (is : places_of m x ≡ takes es marks k) (s r d : ℕ) (e : members r ≡ both (members s) (members x)) (low : d ≡ first_of (members r)) where
    abbrev test : ℕ → Bool
    test d = has (places_of m s) d && has (takes es marks k) d

    same : (p : ℕ) → p < m → in-set r p ≡ test p
    same p h = meet-same r s x m e p h ∙ ap (λ (bs : List Bool). has (places_of m s) p && has bs p) is

    taken : d < m → first (length es) test ≡ some d
    taken h = ap (λ n. first n test) (sym long) ∙ first-is r d m test same low fit.most h

    untaken : m ≤ d → first (length es) test ≡ none
    untaken h = ap (λ n. first n test) (sym long) ∙ first-not r d m test same low fit.most h

  -- the next level
  pub next-law : (cuts : List ℕ) → Cuts l marks cuts → (s up : ℕ) → places_of m up ≡ table m (λ f. has (places_of m s) f || meet m (places_of m s) (places_of m (get_or cuts f 0))) → places_of m up ≡ next es marks (places_of m s)
  next-law cuts known s up e =
      e
      ∙ table_same m _ (λ f. has (places_of m s) f || meet m (places_of m s) (cut es marks f)) (λ f h. ap (λ (bs : List Bool). has (places_of m s) f || meet m (places_of m s) bs) (known f h))
      ∙ ap (λ n. table n (λ f. has (places_of m s) f || meet n (places_of m s) (cut es marks f))) long

  module _ (s up r d : ℕ) (is : places_of m up ≡ next es marks (places_of m s)) (e : members r ≡ difference (members up) (members s)) (low : d ≡ first_of (members r)) where
    abbrev fresh : ℕ → Bool
    fresh f = has (next es marks (places_of m s)) f && not (has (places_of m s) f)

    new-same : (p : ℕ) → p < m → in-set r p ≡ fresh p
    new-same p h = difference-same r up s m e p h ∙ ap (λ (bs : List Bool). has bs p && not (has (places_of m s) p)) is

    some-new : d < m → first (length es) fresh ≡ some d
    some-new h = ap (λ n. first n fresh) (sym long) ∙ first-is r d m fresh new-same low fit.most h

    none-new : m ≤ d → first (length es) fresh ≡ none
    none-new h = ap (λ n. first n fresh) (sym long) ∙ first-not r d m fresh new-same low fit.most h

  -- a level with fuel left
  by : (fuel lev s : ℕ) (a b c : Option ℕ) → 0 < fuel
      → first (length es) (λ d. has (places_of m s) d && has (takes es marks 1) d) ≡ a
      → first (length es) (λ d. has (places_of m s) d && has (takes es marks 2) d) ≡ b
      → first (length es) (λ f. has (next es marks (places_of m s)) f && not (has (places_of m s) f)) ≡ c
      → climb es marks fuel lev (places_of m s) ≡ chosen a b c lev (places_of m s) (climb es marks (fuel - 1) (suc lev) (next es marks (places_of m s)))
  unfolding climb
  by zero lev s a b c h x y z = absurd (omega arith)
  by (suc fuel) lev s a b c h x y z =
      let e : fuel ≡ suc fuel - 1 = omega arith in
      λ i. chosen (x i) (y i) (z i) lev (places_of m s) (climb es marks (e i) (suc lev) (next es marks (places_of m s)))

  -- no fuel
  pub climb-none : (fuel lev s : ℕ) → fuel ≡ 0 → closed (places_of m s) ≡ climb es marks fuel lev (places_of m s)
  unfolding climb
  climb-none fuel lev s e = rw e refl

  -- the lowest place of r that is below m
  abbrev Lowest : ℕ → Perhaps ℕ → Type 0
  Lowest r o = o ≡ cond (ltb (first_of (members r)) m) (Some (first_of (members r))) None

  module _ (fuel lev s : ℕ) (some-fuel : 0 < fuel) (r₁ : ℕ) (o₁ : Perhaps ℕ) (e₁ : members r₁ ≡ both (members s) (members one)) (is₁ : Lowest r₁ o₁) where
    pub climb-one : (d : ℕ) → o₁ ≡ Some d → place d 1 lev ≡ climb es marks fuel lev (places_of m s)
    climb-one d e = let (low, h) = found-below _ m o₁ is₁ d e in sym (by fuel lev s (some d) _ _ some-fuel (taken 1 one tables.0 s r₁ d e₁ low h) refl refl)

    module _ (none₁ : o₁ ≡ None) (r₂ : ℕ) (o₂ : Perhaps ℕ) (e₂ : members r₂ ≡ both (members s) (members two)) (is₂ : Lowest r₂ o₂) where
      not-one : first (length es) (λ d. has (places_of m s) d && has (takes es marks 1) d) ≡ none
      not-one = untaken 1 one tables.0 s r₁ (first_of (members r₁)) e₁ refl (none_below _ m o₁ is₁ none₁)

      pub climb-two : (d : ℕ) → o₂ ≡ Some d → place d 2 lev ≡ climb es marks fuel lev (places_of m s)
      climb-two d e = let (low, h) = found-below _ m o₂ is₂ d e in sym (by fuel lev s none (some d) _ some-fuel not-one (taken 2 two tables.1 s r₂ d e₂ low h) refl)

      module _ (none₂ : o₂ ≡ None) (up : ℕ) (is : places_of m up ≡ next es marks (places_of m s)) (r₃ : ℕ) (o₃ : Perhaps ℕ) (e₃ : members r₃ ≡ difference (members up) (members s)) (is₃ : Lowest r₃ o₃) where
        not-two : first (length es) (λ d. has (places_of m s) d && has (takes es marks 2) d) ≡ none
        not-two = untaken 2 two tables.1 s r₂ (first_of (members r₂)) e₂ refl (none_below _ m o₂ is₂ none₂)

        pub climb-on : (d : ℕ) → o₃ ≡ Some d → climb es marks (fuel - 1) (lev + 1) (places_of m up) ≡ climb es marks fuel lev (places_of m s)
        climb-on d e =
            let (low, h) = found-below _ m o₃ is₃ d e in
            (let z : lev + 1 ≡ suc lev = omega arith in λ i. climb es marks (fuel - 1) (z i) (is i))
            ∙ sym (by fuel lev s none none (some d) some-fuel not-one not-two (some-new s up r₃ d is e₃ low h))

        pub climb-closed : o₃ ≡ None → closed (places_of m s) ≡ climb es marks fuel lev (places_of m s)
        climb-closed none₃ =
            sym (by fuel lev s none none none some-fuel not-one not-two (none-new s up r₃ (first_of (members r₃)) is e₃ refl (none_below _ m o₃ is₃ none₃)))

-- from the first level on
pub search-start : (l : Links) (marks : List ℕ) (ds : ℕ) → places_of l.m ds ≡ table l.m (marked 0 marks) → climb (links_of l) marks (l.m + 1) 0 (places_of l.m ds) ≡ search (links_of l) marks
search-start l marks ds e =
    let long : l.m ≡ length (links_of l) = sym (length-links l.a l.b 0 l.m) in
    let more : l.m + 1 ≡ suc (length (links_of l)) = omega arith in
    let sets : places_of l.m ds ≡ start (links_of l) marks = e ∙ ap (λ n. table n (marked 0 marks)) long in
    λ i. climb (links_of l) marks (more i) 0 (sets i)

-- ---- the growth

pub placed_below : (l : Links) (marks : List ℕ) (d k j : ℕ) → Fit l → place d k j ≡ search (links_of l) marks → d < 64
placed_below l marks d k j fit e =
    let r : Placeable (links_of l) marks d k j = subst (λ (s : Search). Result (links_of l) marks s) (sym e) (search-law (links_of l) marks) in
    omega (arith, r.inside, length-links l.a l.b 0 l.m, fit.most)

pub grow-place : (es : List Ends) (fuel d k j : ℕ) (ts : List ℕ) → 0 < fuel → place d k j ≡ search es ts → grow es fuel ts ≡ grow es (fuel - 1) (set ts d k)
unfolding grow
grow-place es zero d k j ts h e = absurd (omega arith)
grow-place es (suc fuel) d k j ts h e =
    let f : fuel ≡ suc fuel - 1 = omega arith in
    ap (λ s. elim s as (λ s. Found) [ place d k l ↦ grow es fuel (set ts d k) | closed ds ↦ record { marks = ts; inside = ds } ]) (sym e)
    ∙ ap (λ n. grow es n (set ts d k)) f

pub grow-closed : (es : List Ends) (fuel : ℕ) (ts : List ℕ) (ds : List Bool) → 0 < fuel → closed ds ≡ search es ts → grow es fuel ts ≡ record { marks = ts; inside = ds }
unfolding grow
grow-closed es zero ts ds h e = absurd (omega arith)
grow-closed es (suc fuel) ts ds h e = ap (λ s. elim s as (λ s. Found) [ place d k l ↦ grow es fuel (set ts d k) | closed ds ↦ record { marks = ts; inside = ds } ]) (sym e)

pub grow-none : (l : Links) (fuel : ℕ) (ts : List ℕ) → fuel ≡ 0 → grow (links_of l) fuel ts ≡ record { marks = ts; inside = places_of l.m 0 }
unfolding grow
grow-none l zero ts e = λ i. record {
  marks = ts;
  inside = (ap (λ n. table n (λ i. false)) (length-links l.a l.b 0 l.m) ∙ table_same l.m (λ i. false) (in-set 0) (λ p h. sym (has-none p))) i;
}
grow-none l (suc fuel) ts e = absurd (omega arith)
