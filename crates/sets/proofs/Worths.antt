-- What each step does to the sets counted, at every x.
use Prim.Native.Nat.{ℕ, zero, suc, ◌+◌, ◌*◌, ◌^◌, ◌≤◌, ◌<◌, min, max}
use mathlib.Core.Path.{◌≡◌, refl, sym, ap, ap₂, ◌∙◌, subst}
use mathlib.Core.List.Memᴰ
use mathlib.Core.List.{List, [], ◌∷◌, map, map-map, Memᴰ}
use mathlib.Core.Bool.{false}
use mathlib.Core.Logic.{inl, ⊎_elim}
use native.Mathlib.Nat.{add-mul, mul_left_comm, mul-one, one-mul, le_refl, mul-le-mul_left, not-suc-le-zero, le_of_suc-le-suc}
use native.Mathlib.Omega.{arith}
use lib.ListN.{length, get_or, set, get_or-map, length-map, length-set}
use lib.Seq.{get_or-set_same}
use borrow.Author.Tests.{eqb-false}
use Rattle.rounding.proofs.Laws.{ring}
use Rattle.reliability.specs.declared.Link.{Link}
use Rattle.reliability.specs.Networks.{Network, Valid, Proper, ends, linked, link_at, connected}
use Rattle.reliability.specs.Exact.{Weighted, sum, total}
use Rattle.reliability.specs.Rule.{delete_at, without, deleted, removed, joined, across, renamed, contracted}
use Rattle.reliability.specs.Simple.{Loopless}
use Rattle.reliability.proofs.Lists.{map-delete, map-set, length-delete, getD-delete, delete-set, set-delete}
use Rattle.reliability.proofs.States.{Joins, Off, AllOff, moved, onto-kept, sum-total, one-node, none-connects, loop-law, parallel-law, joined-law, end-law, pendant, contraction, front}
use Rattle.reliability.proofs.Validity.{proper-at, across-node, larger-smaller, smaller-node, deleted-valid}
use Rattle.reliability.proofs.Steps.{Leg, Clear, AtLoop, AtPair, AtEnd, AtSeries, AtSplit}
use Rattle.reliability.proofs.Simple.{no_loop}
use Rattle.polynomials.specs.Rows.{some}
use Rattle.polynomials.proofs.Evals.{some-both}
use Rattle.sets.specs.Bundles.{in_bundle, bundle, worth, most}

-- no more sets connect the nodes than there are
pub worth-most : (x : ℕ) (g : Network) → worth x g ≤ most x g
unfolding worth most
worth-most x g = sum-total g.nodes (map (bundle x) g.links) []

-- ---- one node left, and no loop: no link

none_left : (vs : List ℕ) (es : List Link) → length vs ≤ 1 → ((e : Link) → Memᴰ e es → Proper vs e) → ((e : Link) → Memᴰ e es → e.a ≡ e.b → ⊥) → es ≡ []
none_left vs [] h p f = refl
none_left vs (e ∷ es) h p f =
    let q = p e (Memᴰ.head refl) in
    absurd (f e (Memᴰ.head refl) (one vs h q.a_node q.b_node))
  where
    one : (vs : List ℕ) {a b : ℕ} → length vs ≤ 1 → Memᴰ a vs → Memᴰ b vs → a ≡ b
    one (v ∷ []) h (Memᴰ.head r) (Memᴰ.head s) = r ∙ sym s
    one (v ∷ u ∷ vs) h m n = absurd (not-suc-le-zero (le_of_suc-le-suc h))
    one [] {a = a} {b = b} h m n = elim m [ ]
    one (v ∷ []) {a = a} {b = b} h (Memᴰ.head r) (Memᴰ.tail x21) = elim x21 [ ]
    one (v ∷ []) {a = a} {b = b} h (Memᴰ.tail x20) n = elim x20 [ ]

pub worth-one-node : (x : ℕ) (g : Network) → Valid g → Loopless g → length g.nodes ≤ 1 → worth x g ≡ 1
unfolding worth total
worth-one-node x g valid loopless one =
    one-node g.nodes (map (bundle x) g.links) [] one
    ∙ ap (λ es. total (map (bundle x) es)) (none_left g.nodes g.links one valid.proper (λ e m. eqb-false e.a e.b (no_loop g loopless e m)))

pub worth-disconnected : (x : ℕ) (g : Network) → connected g.nodes (map ends g.links) ≡ false → worth x g ≡ 0
unfolding worth
worth-disconnected x g h =
    none-connects g.nodes (map (bundle x) g.links) (ap (connected g.nodes) (map-map (λ (e : Weighted). e.joins) (bundle x) g.links) ∙ h)

-- ---- contraction

bundle-renamed : (x keep gone : ℕ) (es : List Link) → map (moved keep gone) (map (bundle x) es) ≡ map (bundle x) (map (renamed keep gone) es)
bundle-renamed x keep gone [] = refl
bundle-renamed x keep gone (e ∷ es) = ap (λ r. moved keep gone (bundle x e) ∷ r) (bundle-renamed x keep gone es)

all-off : (x v : ℕ) (es : List Link) → Clear v es → AllOff v (map (bundle x) es)
all-off x v es clear e m =
    let r = Memᴰ.of_map (bundle x) es m in
    subst (λ (f : Weighted). Off v f.joins) r.2 (clear r.0 r.1)

-- a link from v to another node is no loop
pub leg-differ : (v : ℕ) (e : Link) → Leg v e → e.a ≡ e.b → ⊥
leg-differ v e leg q = leg.differ (⊎_elim (λ j. sym j.1 ∙ sym q ∙ j.0) (λ j. sym j.0 ∙ q ∙ j.1) leg.joins)

module _ (x : ℕ) (g : Network) (e : Link) (proper : Proper g.nodes e) where
  -- the sets that hold a link e beside are those of the contracted network
  worth-contracted : (e.a ≡ e.b → ⊥) → sum g.nodes (map (bundle x) g.links) (ends e ∷ []) ≡ worth x (contracted e g)
  unfolding worth
  worth-contracted differ =
      let keep = min e.a e.b in
      let gone = max e.a e.b in
      let apart : keep ≡ gone → ⊥ = λ q. differ (omega arith) in
      contraction g.nodes (without gone g.nodes) (map (bundle x) g.links) (ends e) keep gone apart (onto-kept g.nodes keep gone apart (smaller-node g.nodes e proper)) (larger-smaller e)
      ∙ ap (λ l. sum (without gone g.nodes) l []) (bundle-renamed x keep gone g.links)

  -- where e is the one link of a node v, they are those of the network without v
  pub worth-hung : (v : ℕ) → Leg v e → Clear v g.links → sum g.nodes (map (bundle x) g.links) (ends e ∷ []) ≡ worth x (removed v g)
  unfolding worth
  worth-hung v leg clear =
      let w = across v e in
      pendant g.nodes (without v g.nodes) w v leg.differ (onto-kept g.nodes w v leg.differ (across-node g.nodes v e proper)) (map (bundle x) g.links) (all-off x v g.links clear) (ends e) leg.joins

-- ---- all sets

total-front : (es : List Weighted) (i : ℕ) (z : Weighted) → i < length es → total es ≡ ((get_or es i z).sound + (get_or es i z).broken) * total (delete_at i es)
unfolding total delete_at
total-front [] i z h = absurd (not-suc-le-zero h)
total-front (e ∷ es) zero z h = refl
total-front (e ∷ es) (suc i) z h = ap (λ k. (e.sound + e.broken) * k) (total-front es i z (le_of_suc-le-suc h)) ∙ mul_left_comm _ _ _

least : (c : ℕ) → c ≤ some 1 c
unfolding some
least zero = le_refl 0
least (suc c) = omega (arith, least c)

most-least : (x : ℕ) (es : List Link) → 1 ≤ total (map (bundle x) es)
unfolding total
most-least x [] = le_refl 1
most-least x (e ∷ es) = omega (arith, most-least x es, add-mul (some x e.low) 1 (total (map (bundle x) es)), one-mul (total (map (bundle x) es)))

most-renamed : (x keep gone : ℕ) (es : List Link) → total (map (bundle x) (map (renamed keep gone) es)) ≡ total (map (bundle x) es)
unfolding total
most-renamed x keep gone [] = refl
most-renamed x keep gone (e ∷ es) = ap (λ k. (some x e.low + 1) * k) (most-renamed x keep gone es)

-- a contraction leaves as many
pub most-contracted : (x : ℕ) (g : Network) (e : Link) → most x (contracted e g) ≡ most x g
unfolding most
most-contracted x g e = most-renamed x (min e.a e.b) (max e.a e.b) g.links

-- a bundle stands for as many as both
both-low : (e f : Link) → (in_bundle e f).low ≡ e.low + f.low
both-low e f = omega arith

-- ---- the steps

-- link i is sound
abbrev pub sound_at : ℕ → Network → Network
sound_at i g = contracted (link_at g i) (deleted i g)

module _ (x : ℕ) (g : Network) (valid : Valid g) where
  abbrev es : List Weighted
  es = map (bundle x) g.links

  abbrev z : Weighted
  z = bundle x (linked 0 0 (λ d. 0))

  abbrev n : ℕ → ℕ
  n i = some x (link_at g i).low

  at : (i : ℕ) → get_or es i z ≡ bundle x (link_at g i)
  at i = get_or-map (bundle x) g.links i (linked 0 0 (λ d. 0))

  place : {i : ℕ} → i < length g.links → i < length es
  place h = rw (length-map g.links (bundle x)) h

  worth-deleted : (vs : List ℕ) (i : ℕ) → worth x (record { nodes = vs; links = delete_at i g.links }) ≡ sum vs (delete_at i es) []
  unfolding worth
  worth-deleted vs i = ap (λ l. sum vs l []) (map-delete (bundle x) i g.links)

  -- a loop: some of it or nothing, with any set of the others
  pub worth-loop : (i : ℕ) → AtLoop g i → worth x g ≡ (n i + 1) * worth x (deleted i g)
  unfolding worth
  worth-loop i h =
      rw (at i) at (loop-law g.nodes es i z (place h.place) (ap (λ (e : Weighted). e.joins.a) (at i) ∙ h.same ∙ ap (λ (e : Weighted). e.joins.b) (sym (at i))))
      ∙ ap (λ k. (n i + 1) * k) (sym (worth-deleted g.nodes i))

  joins_at : (i v w : ℕ) → Joins (ends (link_at g i)) v w → Joins (get_or es i z).joins v w
  joins_at i v w j = subst (λ (e : Weighted). Joins e.joins v w) (sym (at i)) j

  -- a split: some of the link with a set of the contracted network, or nothing with one of the others
  pub worth-split : (i : ℕ) → AtSplit g i → worth x g ≡ n i * worth x (sound_at i g) + worth x (deleted i g)
  unfolding worth
  worth-split i h =
      let e = link_at g i in
      rw (at i) at (front g.nodes es [] i z (place h.place))
      ∙ ap₂ (λ s b. n i * s + b)
      (ap (λ l. sum g.nodes l (ends e ∷ [])) (sym (map-delete (bundle x) i g.links)) ∙ worth-contracted x (deleted i g) e (proper-at g valid i h.place) h.differ)
      (one-mul _ ∙ sym (worth-deleted g.nodes i))

  -- an end: some of its link
  pub worth-end : (v i : ℕ) → AtEnd g v i → worth x g ≡ n i * worth x (sound_at i g)
  unfolding worth
  worth-end v i h =
      let e = link_at g i in
      let w = across v e in
      let p = proper-at g valid i h.place in
      let inw = across-node g.nodes v e p in
      let law = rw (at i) at (end-law g.nodes es z v w h.leg.differ (without v g.nodes) (onto-kept g.nodes w v h.leg.differ inw) h.node w h.leg.differ inw i (place h.place)
      (joins_at i v w h.leg.joins) (rw (← map-delete (bundle x) i g.links) (all-off x v (delete_at i g.links) h.others))) in
      law ∙ ap (λ k. n i * k) (sym (worth-deleted (without v g.nodes) i) ∙ sym (worth-hung x (deleted i g) e p v h.leg h.others) ∙ worth-contracted x (deleted i g) e p (leg-differ v e h.leg))

  joined-bundled : (i j : ℕ) (m : Link) → map (bundle x) (delete_at j (set g.links i m)) ≡ delete_at j (set es i (bundle x m))
  joined-bundled i j m = map-delete (bundle x) j (set g.links i m) ∙ ap (delete_at j) (map-set (bundle x) g.links i m)

  -- a pair: as one
  pub worth-parallel : (i j : ℕ) → AtPair g i j → worth x (joined i j (in_bundle (link_at g i) (link_at g j)) g) ≡ worth x g
  unfolding worth
  worth-parallel i j h =
      let e = link_at g i in
      let f = link_at g j in
      let m = bundle x (in_bundle e f) in
      let others = delete_at i (delete_at j es) in
      let law = rw (at i, at j) at (parallel-law g.nodes es i j z h.order (place h.place) e.a e.b (joins_at i e.a e.b (inl (refl, refl))) (joins_at j e.a e.b h.alike)) in
      sym (law ∙ ap₂ (λ p q. p * sum g.nodes others (ends e ∷ []) + q * sum g.nodes others []) (omega (arith, ap (some x) (both-low e f), some-both x e.low f.low)) refl
      ∙ sym (joined-law g.nodes es i j m h.order (place h.place))
      ∙ ap (λ l. sum g.nodes l []) (sym (joined-bundled i j (in_bundle e f))))

  -- ---- and all sets

  pub most-deleted : (i : ℕ) → i < length g.links → most x g ≡ (n i + 1) * most x (deleted i g)
  unfolding most
  most-deleted i h = rw (at i) at (total-front es i z (place h)) ∙ ap (λ l. (n i + 1) * total l) (sym (map-delete (bundle x) i g.links))

  pub fewer-sets : (i : ℕ) → i < length g.links → most x (deleted i g) ≤ most x g
  fewer-sets i h = omega (arith, most-deleted i h, add-mul (n i) 1 (most x (deleted i g)), one-mul (most x (deleted i g)))

  others-bundled : (i j : ℕ) → map (bundle x) (delete_at i (delete_at j g.links)) ≡ delete_at i (delete_at j es)
  others-bundled i j = map-delete (bundle x) i (delete_at j g.links) ∙ ap (delete_at i) (map-delete (bundle x) j g.links)

  most-two : (i j : ℕ) → i < j → j < length g.links → most x g ≡ (some x ((link_at g i).low + (link_at g j).low) + 1) * total (delete_at i (delete_at j es))
  unfolding most
  most-two i j h k =
      let shorter = length-delete {i = j} es (place k) in
      let one = rw (at j) at (total-front es j z (place k)) in
      let two = rw (getD-delete es i j z h, at i) at (total-front (delete_at j es) i z (omega (arith, place k))) in
      one ∙ ap (λ k. (n j + 1) * k) two ∙ shape (n i) (n j) (total (delete_at i (delete_at j es)))
      ∙ ap (λ k. (k + 1) * total (delete_at i (delete_at j es))) (sym (some-both x (link_at g i).low (link_at g j).low))
    where
      shape : (p q t : ℕ) → (q + 1) * ((p + 1) * t) ≡ (p * q + (p + q) + 1) * t
      shape p q t = simp (one-mul, ring)

  pub most-joined : (i j : ℕ) → i < j → j < length g.links → most x (joined i j (in_bundle (link_at g i) (link_at g j)) g) ≡ most x g
  unfolding most
  most-joined i j h k =
      let m = bundle x (in_bundle (link_at g i) (link_at g j)) in
      let shorter = length-delete {i = j} es (place k) in
      let l : i < length (delete_at j es) = omega (arith, place k) in
      let front = rw (get_or-set_same (delete_at j es) i m m l, set-delete (delete_at j es) i m) at (total-front (set (delete_at j es) i m) i m (rw length-set l)) in
      ap total (joined-bundled i j (in_bundle (link_at g i) (link_at g j)) ∙ delete-set es i j m h) ∙ front
      ∙ ap (λ c. (some x c + 1) * total (delete_at i (delete_at j es))) (both-low (link_at g i) (link_at g j)) ∙ sym (most-two i j h k)

-- links as many as the row has room for
pub bundle-small : (g : Network) → Valid g → ((x : ℕ) → most x g ≤ (1 + x) ^ 24) → (i j : ℕ) → i < j → j < length g.links → (link_at g i).low + (link_at g j).low ≤ 16777216
bundle-small g valid fits i j h k =
    let c = (link_at g i).low + (link_at g j).low in
    let t = total (delete_at i (delete_at j (map (bundle 1) g.links))) in
    let pos : 1 ≤ t = subst (λ l. 1 ≤ total l) (others-bundled 1 g valid i j) (most-least 1 (delete_at i (delete_at j g.links))) in
    omega (arith, least c, fits 1, most-two 1 g valid i j h k, mul-le-mul_left (some 1 c + 1) pos, mul-one (some 1 c + 1))

-- ---- two links at a node

low-renamed : (keep gone : ℕ) (es : List Link) (i : ℕ) → (get_or (map (renamed keep gone) es) i (linked 0 0 (λ d. 0))).low ≡ (get_or es i (linked 0 0 (λ d. 0))).low
low-renamed keep gone [] i = refl
low-renamed keep gone (e ∷ es) zero = refl
low-renamed keep gone (e ∷ es) (suc i) = low-renamed keep gone es i

-- links i and j, i before j, are the links of a node v
module _ (x : ℕ) (g : Network) (valid : Valid g) (v i j : ℕ) (h : AtSeries g v i j) where
  abbrev others : Network
  others = deleted i (deleted j g)

  first-kept : link_at (deleted j g) i ≡ link_at g i
  first-kept = getD-delete g.links i j _ h.order

  -- without j node v is an end
  pub without-later : worth x (deleted j g) ≡ some x (link_at g i).low * worth x (sound_at i (deleted j g))
  without-later =
      let early : i < length (delete_at j g.links) = omega (arith, h.order, h.place, length-delete {i = j} g.links h.place) in
      worth-end x (deleted j g) (deleted-valid g valid j) v i (record { node = h.node; place = early; leg = subst (Leg v) (sym first-kept) h.first; others = h.others })
      ∙ ap (λ (e : Link). some x e.low * worth x (sound_at i (deleted j g))) first-kept

  -- whichever of the two is left, node v hangs on it
  hung : (e : Link) → Proper g.nodes e → Leg v e → worth x (contracted e others) ≡ worth x (removed v others)
  hung e p leg = sym (worth-contracted x others e p (leg-differ v e leg)) ∙ worth-hung x others e p v leg h.others

  same_left : worth x (deleted i (sound_at j g)) ≡ worth x (sound_at i (deleted j g))
  same_left =
      let e = link_at g i in
      let f = link_at g j in
      let keep = min f.a f.b in
      let gone = max f.a f.b in
      ap (λ (l : List Link). worth x (record { nodes = without gone g.nodes; links = l })) (sym (map-delete (renamed keep gone) i (delete_at j g.links)))
      ∙ hung f (proper-at g valid j h.place) h.second
      ∙ sym (hung e (proper-at g valid i (omega (arith, h.order, h.place))) h.first)
      ∙ ap (λ (e : Link). worth x (contracted e others)) (sym first-kept)

  -- with j sound: i sound as well, or v hangs on j alone
  pub with-later : Valid (sound_at j g) → AtSplit (sound_at j g) i → worth x (sound_at j g) ≡ some x (link_at g i).low * worth x (sound_at i (sound_at j g)) + worth x (sound_at i (deleted j g))
  with-later sound k =
      let f = link_at g j in
      worth-split x (sound_at j g) sound i k
      ∙ ap₂ (λ l w. some x l * worth x (sound_at i (sound_at j g)) + w) (low-renamed (min f.a f.b) (max f.a f.b) (delete_at j g.links) i ∙ ap (λ (e : Link). e.low) first-kept) same_left
