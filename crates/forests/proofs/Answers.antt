-- The answer from what is found.
use Prim.Native.Nat.{ℕ, zero, suc, ◌+◌, ◌*◌, ◌≤◌, ◌<◌}
use mathlib.Core.Path.{◌≡◌, refl, sym, ap, ap₂, subst, ◌∙◌}
use mathlib.Core.List.{List, [], ◌∷◌, Memᴰ}
use mathlib.Core.Bool.{true, false, true≢false}
use native.Mathlib.Omega.{arith}
use native.Mathlib.Decide.{ℕ_discrete}
use lib.Dec.{eqb, leb}
use lib.ListN.{length, get_or, replicate}
use borrow.Author.Tests.{le-leb, lt-leb}
use Rattle.search.specs.Searches.{from}
use Rattle.search.proofs.Sets.{has as in-set, from-size, from-below, from-node}
use Rattle.reliability.specs.Networks.{Ends, label}
use Rattle.game.specs.Game.{cutter, keeper, among, marked, keeper_wins, Numbered, between, Grouping}
use Rattle.game.specs.Forests.{has, Found as Found', found, count, placed, leads, group, Decides}
use Rattle.game.proofs.Counts.{count_same}
use Rattle.game.proofs.Roots.{label-below, label-label}
use Rattle.game.proofs.Cutter.{between-same, between-other}
use Rattle.game.proofs.Sizes.{Below}
use Rattle.game.proofs.Theorems.{decided}
use Rattle.forests.specs.declared.Links.{Links}
use Rattle.forests.specs.declared.Found.{Found}
use Rattle.labelling.specs.Places.{places_of, Labelling, Grouped}
use Rattle.forests.specs.Links.{links_from, links_of, amongst, labels_of, Fit, found_of}
use Rattle.forests.specs.Answers.{Plan, Shows}
use Rattle.forests.proofs.Laws.{label_at}
use Rattle.labelling.proofs.Laws.{placed_at}
use Rattle.forests.proofs.Tables.{length-links, among_same}

pub fit_of : (l : Links) (n : ℕ) → Plan l n → Fit l
fit_of l n plan = record { most = plan.links; ended = λ i h. let e = plan.ended i h in let b = plan.nodes in (omega (arith, e.0), omega (arith, e.1)) }

pub numbered : (n : ℕ) → Numbered n (from 0 n)
numbered n = record { below = λ v m. let r = from-below 0 n v m in omega (arith, r.1); node = λ v h. from-node 0 n v (omega arith) (omega arith); size = from-size 0 n }

-- the links are those at some place
links-mem : (as₁ bs : List ℕ) (i k : ℕ) (e : Ends) → Memᴰ e (links_from as₁ bs i k) → (j : ℕ) × (j < i + k) × (e ≡ record { a = get_or as₁ j 0; b = get_or bs j 0 })
unfolding links_from
links-mem as₁ bs i (suc k) e (Memᴰ.head p) = (i, omega arith, p)
links-mem as₁ bs i (suc k) e (Memᴰ.tail m) = let (j, l, p) = links-mem as₁ bs (suc i) k e m in (j, omega arith, p)
links-mem as₁ bs i zero e m = elim m [ ]

pub labelling : (t : List Ends) (ls : List ℕ) → ls ≡ labels_of t → Labelling ls
labelling t ls e = subst Labelling (sym e) (λ v h.
    let low = label-below t v in
    let one = label_at t v h in
    (omega (arith, one, low), ap (λ u. get_or (labels_of t) u 0) one ∙ label_at t (label t v) (omega arith) ∙ label-label t v ∙ sym one))

between-by : (h k : ℕ → ℕ) (es : List Ends) → ((e : Ends) → Memᴰ e es → (h e.a ≡ k e.a) × (h e.b ≡ k e.b)) → between h es ≡ between k es
unfolding between
between-by h k [] s = refl
between-by h k (e ∷ es) s = go (ℕ_discrete (h e.a) (h e.b)) (s e (Memᴰ.head refl)) (between-by h k es (λ f m. s f (Memᴰ.tail m)))
  where
    go : Dec (h e.a ≡ h e.b) → (h e.a ≡ k e.a) × (h e.b ≡ k e.b) → between h es ≡ between k es → between h (e ∷ es) ≡ between k (e ∷ es)
    go (yes d) r b = omega (arith, between-same h e es d, between-same k e es (sym r.0 ∙ d ∙ r.1), b)
    go (no d) r b = omega (arith, between-other h e es d, between-other k e es (λ z. d (r.0 ∙ z ∙ sym r.1)), b)

module _ (l : Links) (n : ℕ) (plan : Plan l n) where
  abbrev es : List Ends
  es = links_of l

  below : Below n es
  below e m =
      let (j, h, p) = links-mem l.a l.b 0 l.m e m in
      let r = plan.ended j (omega arith) in
      (rw p r.0, rw p r.1)

  few : length es ≤ 64
  few = omega (arith, length-links l.a l.b 0 l.m, plan.links)

  -- the same groups by other numbers
  regroup : (g : ℕ) (h k : ℕ → ℕ) → ((v : ℕ) → v < n → h v ≡ k v) → Grouping (from 0 n) es g h → Grouping (from 0 n) es g k
  regroup g h k s given = record {
    within = λ v m. rw (← s v ((numbered n).below v m)) (given.within v m);
    occupied = λ j c. let (v, m, e) = given.occupied j c in (v, m, sym (s v ((numbered n).below v m)) ∙ e);
    few = rw (← between-by h k es (λ e m. let b = below e m in (s e.a b.0, s e.b b.1))) given.few;
  }

  module _ (r : Found) (one two : ℕ) (is : found_of l.m r ≡ found es) (c₁ : one ≡ count l.m (marked 1 r.marks)) (c₂ : two ≡ count l.m (marked 2 r.marks)) where
    size : placed es (found es) ≡ one + two
    size =
        ap (placed es) (sym is)
        ∙ ap (λ m. count m (marked 1 r.marks) + count m (marked 2 r.marks)) (length-links l.a l.b 0 l.m)
        ∙ sym (ap₂ ◌+◌ c₁ c₂)

    all : Decides n (from 0 n) es (found es)
    all = decided (from 0 n) n es (numbered n) below plan.some_node few

    second_is : leb (2 * n) (one + two + 2) ≡ keeper_wins cutter (from 0 n) es
    second_is = sym (all.second ∙ ap (λ k. leb (2 * n) (k + 2)) size)

    first-is : leb (2 * n) (one + two + 3) ≡ keeper_wins keeper (from 0 n) es
    first-is = sym (all.first ∙ ap (λ k. leb (2 * n) (k + 3)) size)

    pub with-trees : length r.marks ≡ 64 → 2 * n ≤ one + two + 2
        → Shows l n (record { second = true; first = leb (2 * n) (one + two + 3); trees = r.marks; groups = replicate 32 0 })
    with-trees s h =
        let won = sym (le-leb (2 * n) (one + two + 2) h) ∙ second_is in
        record {
          second = won;
          first = first-is;
          certificate = record {
            sizes = (s, refl);
            trees = λ e. (rw (← ap (λ (f : Found'). f.marks) is) at (all.trees e), refl);
            groups = λ e. absurd (true≢false (won ∙ e));
          };
        }

    same-links : amongst r.inside es ≡ among (has (found es).inside) es
    same-links =
        among_same (in-set r.inside) (has (places_of l.m r.inside)) es (λ i h. sym (placed_at l.m r.inside i (omega (arith, length-links l.a l.b 0 l.m))))
        ∙ ap (λ (f : Found'). among (has f.inside) es) is

    module _ (ls gs : List ℕ) (el : ls ≡ labels_of (amongst r.inside es)) (eg : Grouped ls n gs) where
      label_is : (v : ℕ) → v < 32 → get_or ls v 0 ≡ label (among (has (found es).inside) es) v
      label_is v h = ap (λ k. get_or k v 0) el ∙ label_at (amongst r.inside es) v h ∙ ap (λ t. label t v) same-links

      group-is : (v : ℕ) → v < n → group es (found es) v ≡ get_or gs v 0
      group-is v h =
          let w : v < 32 = omega (arith, plan.nodes) in
          let low = label-below (among (has (found es).inside) es) v in
          sym (eg.numbers v h
          ∙ ap (λ k. count k (λ u. eqb (get_or ls u 0) u)) (label_is v w)
          ∙ count_same (label (among (has (found es).inside) es) v) (λ u. eqb (get_or ls u 0) u) (leads es (found es)) (λ u k. ap (λ x. eqb x u) (label_is u (omega arith))))

      pub with-groups : length gs ≡ 32 → one + two + 2 < 2 * n → Shows l n (record { second = false; first = leb (2 * n) (one + two + 3); trees = replicate 64 0; groups = gs })
      with-groups s h =
          let lost = sym (lt-leb (2 * n) (one + two + 2) h) ∙ second_is in
          let g = count n (leads es (found es)) in
          record {
            second = lost;
            first = first-is;
            certificate = record {
              sizes = (refl, s);
              trees = λ e. absurd (true≢false (sym e ∙ sym lost));
              groups = λ e. (
                record {
                  g = g;
                  grouping = regroup g (group es (found es)) (λ v. get_or gs v 0) group-is (all.groups e);
                  none = λ v h. eg.others v (omega (arith, from-size 0 n));
                },
                refl,
              );
            };
          }
