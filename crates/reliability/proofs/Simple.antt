-- Simple networks: the step that fits them, what each step leaves of them, and how a network is made simple.
use Prim.Native.Nat.{ℕ, zero, suc, ◌-◌, ◌≤◌, ◌<◌, min, max}
use mathlib.Core.Path.{◌≡◌, refl, sym, ap, ◌∙◌, subst}
use mathlib.Core.List.Memᴰ
use mathlib.Core.List.{List, [], ◌∷◌, map, Memᴰ}
use mathlib.Core.Bool.{Bool, true, false, cond, not, true≢false}
use mathlib.Core.Logic.{◌⊎◌, inl, inr, ⊎_elim}
use mathlib.Core.Option.{Option, some, none}
use native.Mathlib.Nat.{not-suc-le-zero, le_of_suc-le-suc, le_refl, le_of_eq}
use native.Mathlib.Omega.{arith}
use lib.Dec.{leb}
use lib.ListN.{length, set, length-set}
use lib.Seq.{lt-length-set}
use borrow.Author.Tests.{leb-true, eqb-false, ne_eqb, le-leb}
use Rattle.rounding.specs.Rounding.{S}
use Rattle.rounding.specs.declared.Direction.{Direction}
use Rattle.reliability.specs.declared.Link.{Link}
use Rattle.reliability.specs.declared.Step.{Step}
use Rattle.reliability.specs.declared.Step.TheVariants.{OneNode, End, Series, Split}
use Rattle.reliability.specs.Networks.{Network, Valid, ends, link_at, connected}
use Rattle.reliability.specs.Rule.{is_loop, delete_at, first_at, first_pair, lowest, end_of, when, ◌otherwise◌, Remainder, settled, rest, scaled, branches, deleted, joined, in_parallel, rename, renamed, across, ready}
use Rattle.reliability.specs.Terminals.{Terminals, among, Chosen, has, astray, series_in, next_at, split_at, next, in_line, end_left, series_left, sound_left, broken_left, factored, leaves, tree}
use Rattle.reliability.specs.Simple.{Loopless, Pairless, anchors, Connected, Plain, Simple, side_by_side, joined_pairs, unpaired, without_loops}
use Rattle.reliability.proofs.Lists.{by_eqb, length-delete, mem-delete, getD-mem, getD-delete}
use Rattle.reliability.proofs.Connection.{connected-within}
use Rattle.reliability.proofs.Searches.{Answers, Holds, Fails, first-at, nth, none_found, Pair, Distinct, first-pair, no-pair, distinct-delete}
use Rattle.reliability.proofs.States.{Joins}
use Rattle.reliability.proofs.Validity.{mem-joined, larger-smaller, proper-at, joined-valid, parallel-proper}
use Rattle.reliability.proofs.Lawful.{Leaves}
use Rattle.reliability.proofs.Steps.{AtPair, AtEnd, AtSeries, AtSplit, joins-alike, at_pair}
use Rattle.reliability.proofs.TerminalSteps.{AtSeriesIn, Fits, next-by, SizedTerminals, left_in}
use Rattle.reliability.proofs.Unrolled.{Below, tree-settled, tree-rest, below_rest}
use Rattle.reliability.proofs.Dropping.{mem-dropping, dropping-none, dropping-delete, dropped-none}
use Rattle.reliability.proofs.Paths.{pair-connected, end-connected, series-connected, contracted-connected}

-- ---- connected

module _ (g : Terminals) (connected-all : Connected g) where
  fewer-nodes : (vs : List ℕ) → ((u : ℕ) → Memᴰ u vs → Memᴰ u (anchors g)) → connected vs (map ends g.network.links) ≡ true
  fewer-nodes vs h = connected-within (anchors g) vs _ _ h (λ e m. m) connected-all

  pub chosen-connected : connected g.chosen (map ends g.network.links) ≡ true
  chosen-connected = fewer-nodes g.chosen (λ u m. Memᴰ.append_left _ m)

  pub none-astray : first_at (astray g) g.network.links ≡ none
  none-astray = (none_found (astray g) g.network.links).1 (λ e m. ap not (fewer-nodes (e.a ∷ g.chosen)
      (λ u n. ⊎_elim (λ (q : u ≡ e.a). Memᴰ.cast q (Memᴰ.append_right g.chosen (Memᴰ.map (λ (f : Link). f.a) m))) (λ k. Memᴰ.append_left _ k) (Memᴰ.cases_cons n))))

-- ---- which step fits

-- the first loop is deleted
module _ (g : Terminals) (valid : Chosen g) (i : ℕ) (first : first_at is_loop g.network.links ≡ some i) where
  loop-leaves : leaves g (next g) ≡ rest (broken_left i g)
  unfolding leaves
  loop-leaves = ap (leaves g) (next-by (split_at g) g (some i) first _ refl _ refl _ refl _ refl _ refl _ refl)

  pub loop-below : Below g (broken_left i g)
  loop-below = below_rest g valid (broken_left i g) loop-leaves

  pub loop-tree : tree g ≡ tree (broken_left i g)
  loop-tree = tree-rest g valid (broken_left i g) loop-leaves

-- one chosen node, or none: its figure is S
pub one-tree : (g : Terminals) → Chosen g → Loopless g.network → length g.chosen ≤ 1 → tree g ≡ ready (λ d. S)
unfolding leaves
one-tree g valid loopless one =
    tree-settled g valid S (ap (leaves g) (next-by (split_at g) g none loopless true (le-leb (length g.chosen) 1 one) _ refl _ refl _ refl _ refl _ refl))

-- no step but 2, 5, 6 and 7 fits a simple network
pub simple-next : (g : Terminals) → Simple g → (k : ℕ) → next_at k g
    ≡ (when (leb (length g.chosen) 1) OneNode otherwise lowest end_of g.network.links g.network.nodes otherwise lowest (series_in g) g.network.links g.network.nodes otherwise Split k)
simple-next g simple k =
    let whole = simple.plain.connected in
    next-by k g none simple.plain.loopless _ refl true (chosen-connected g whole) none (none-astray g whole) none simple.pairless _ refl _ refl

-- ---- what each step leaves of a simple network

-- no other link joins the two nodes that the link at place i joins
distinct-at : (es : List Link) (i : ℕ) → Distinct es → i < length es → {f : Link} → Memᴰ f (delete_at i es)
    → (v w : ℕ) → Joins (ends (nth es i)) v w → Joins (ends f) v w → ⊥
unfolding delete_at
distinct-at [] i d h m v w j k = absurd (not-suc-le-zero h)
distinct-at (e ∷ es) zero d h {f} m v w j k = true≢false (sym (joins-alike e f v w j k) ∙ d.0 f m)
distinct-at (e ∷ es) (suc i) d h {f} (Memᴰ.head q) v w j k =
    true≢false (sym (joins-alike e (nth es i) v w (rw q at k) j) ∙ d.0 (nth es i) (getD-mem es _ (le_of_suc-le-suc h)))
distinct-at (e ∷ es) (suc i) d h (Memᴰ.tail m) v w j k = distinct-at es i d.1 (le_of_suc-le-suc h) m v w j k

-- two nodes that have one name after a contraction had one before, or are those of the link
made_one : (keep gone x y : ℕ) → rename keep gone x ≡ rename keep gone y → (x ≡ y) ⊎ Joins (record { a = x; b = y }) gone keep
made_one keep gone x y = by_eqb (λ b. cond b keep x ≡ rename keep gone y → Either) x gone
    (λ p. by_eqb (λ c. keep ≡ cond c keep y → Either) y gone (λ q s. inl (p ∙ sym q)) (λ n s. inr (inl (p, sym s))))
    (λ o. by_eqb (λ c. x ≡ cond c keep y → Either) y gone (λ q s. inr (inr (s, q))) (λ n s. inl s))
  where
    Either : Type 0
    Either = (x ≡ y) ⊎ Joins (record { a = x; b = y }) gone keep

module _ (g : Network) (loopless : Loopless g) where
  pub no_loop : (e : Link) → Memᴰ e g.links → is_loop e ≡ false
  no_loop = (none_found is_loop g.links).0 loopless

  pub deleted-loopless : (i : ℕ) → Loopless (deleted i g)
  deleted-loopless i = (none_found is_loop (delete_at i g.links)).1 (λ e m. no_loop e (mem-delete i g.links m))

  pub deleted-pairless : Pairless g → (i : ℕ) → Pairless (deleted i g)
  deleted-pairless pairless i = (no-pair (delete_at i g.links)).1 (distinct-delete g.links i ((no-pair g.links).0 pairless))

  pub joined-loopless : (i j : ℕ) (e : Link) → i < j → is_loop e ≡ false → Loopless (joined i j e g)
  joined-loopless i j e order h = (none_found is_loop (joined i j e g).links).1 (λ f m.
      ⊎_elim (λ (q : f ≡ e). ap is_loop q ∙ h) (λ n. no_loop f (mem-delete j g.links (mem-delete i (delete_at j g.links) n))) (mem-joined g.links i j order m))

module _ (g : Terminals) (simple : Simple g) where
  abbrev plain : Plain g
  plain = simple.plain

  abbrev n : Network
  n = g.network

  distinct : Distinct n.links
  distinct = (no-pair n.links).0 simple.pairless

  -- what a step leaves is valid
  left : (s : Step) → Fits g s → 0 < length n.links → Leaves Chosen (leaves g s)
  left s fits here =
      let m = length n.links - 1 in
      weaker m (leaves g s) (left_in m g (record { valid = plain.valid; size = omega arith }) s fits)
    where
      weaker : (m : ℕ) (r : Remainder Terminals) → Leaves (SizedTerminals m) r → Leaves Chosen r
      weaker m (settled k) l = l
      weaker m (rest h) l = l.valid
      weaker m (scaled k h) l = (l.0.valid, l.1)
      weaker m (branches e x y) l = (l.0.valid, l.1.valid, l.2)

  -- of a node that goes
  pub factored-valid : (b : Bool) (k : Direction → ℕ) (h : Terminals) → Leaves Chosen (factored b k h) → Chosen h
  factored-valid true k h l = l.0
  factored-valid false k h l = l

  pub end-simple : (v i : ℕ) → AtEnd n v i → 1 < length g.chosen → Simple (end_left v i g)
  unfolding leaves
  end-simple v i h two = record {
    plain = record {
      valid = factored-valid (has v g.chosen) _ (end_left v i g) (left (End v i) (h, two) (omega (arith, h.place)));
      loopless = deleted-loopless n plain.loopless i;
      connected = end-connected g v i h plain.connected;
    };
    pairless = deleted-pairless n plain.loopless simple.pairless i;
  }

  -- only a partner of link i would become a loop
  module _ (i : ℕ) (h : AtSplit n i) (two : 1 < length g.chosen) where
    abbrev keep : ℕ
    keep = min (link_at n i).a (link_at n i).b

    abbrev gone : ℕ
    gone = max (link_at n i).a (link_at n i).b

    stay-two : (e : Link) → Memᴰ e (delete_at i n.links) → rename keep gone e.a ≡ rename keep gone e.b → ⊥
    stay-two e m same = ⊎_elim
        (eqb-false e.a e.b (no_loop n plain.loopless e (mem-delete i n.links m)))
        (distinct-at n.links i distinct h.place m gone keep (larger-smaller (link_at n i)))
        (made_one keep gone e.a e.b same)

    pub contracted-plain : Plain (sound_left i g)
    unfolding leaves
    contracted-plain = record {
      valid = (left (Split i) (h, two) (omega (arith, h.place))).0;
      loopless = (none_found is_loop (sound_left i g).network.links).1 (λ f m.
          let (e, n, q) = Memᴰ.of_map (renamed keep gone) (delete_at i n.links) m in
          ap is_loop (sym q) ∙ ne_eqb (rename keep gone e.a) (rename keep gone e.b) (stay-two e n));
      connected = contracted-connected g i h plain.connected;
    }

    pub deleted-valid : Chosen (broken_left i g)
    unfolding leaves
    deleted-valid = (left (Split i) (h, two) (omega (arith, h.place))).1

  -- the neighbours of v differ: links i and j are no pair
  module _ (v i j : ℕ) (at : AtSeriesIn g v i j) where
    abbrev h : AtSeries n v i j
    h = at.two

    neighbours_differ : across v (link_at n i) ≡ across v (link_at n j) → ⊥
    neighbours_differ same =
        let there = getD-mem {i = i} (delete_at j n.links) _ (omega (arith, h.order, length-delete n.links h.place)) in
        distinct-at n.links j distinct h.place (Memᴰ.cast (sym (getD-delete n.links i j _ h.order)) there) v (across v (link_at n j)) h.second.joins (rw same at h.first.joins)

    line-ends : (b : Bool) → ((in_line b v (link_at n i) (link_at n j)).a ≡ across v (link_at n i)) × ((in_line b v (link_at n i) (link_at n j)).b ≡ across v (link_at n j))
    line-ends true = (refl, refl)
    line-ends false = (refl, refl)

    pub series-plain : Plain (series_left v i j g)
    unfolding leaves
    series-plain =
        let e = line-ends (has v g.chosen) in
        let new = in_line (has v g.chosen) v (link_at n i) (link_at n j) in
        record {
          valid = factored-valid (has v g.chosen) _ (series_left v i j g) (left (Series v i j) at (omega (arith, h.place)));
          loopless = joined-loopless n plain.loopless i j new h.order (ne_eqb new.a new.b (λ q. neighbours_differ (sym e.0 ∙ q ∙ e.1)));
          connected = series-connected g v i j h new e.0 e.1 plain.connected;
        }

-- ---- step 4 as often as it fits

joined-none : (m : ℕ) (g : Network) → Pairless g → joined_pairs m g ≡ g
unfolding joined_pairs
joined-none zero g pairless = refl
joined-none (suc m) g pairless = rw (pairless, joined_pairs)

module _ (g : Network) (i j : ℕ) (found : first_pair g.links ≡ some (i, j)) where
  joined-here : (m : ℕ) → joined_pairs (suc m) g ≡ joined_pairs m (side_by_side i j g)
  unfolding joined_pairs
  joined-here m = rw (found, joined_pairs)

  pub pair-at : AtPair g i j
  pair-at = at_pair g (i, j) (subst (Answers (Pair g.links) (Distinct g.links)) found (first-pair g.links))

  pub pair-fewer : suc (length (side_by_side i j g).links) ≡ length g.links
  pair-fewer =
      let e = in_parallel (link_at g i) (link_at g j) in
      length-delete (set g.links i e) (lt-length-set g.links i e pair-at.place) ∙ length-set g.links i e

-- as often as there are links, or more often
often : (k m : ℕ) (g : Network) → length g.links ≤ k → length g.links ≤ m → joined_pairs k g ≡ joined_pairs m g
often k m g h l = go k m g h l (first_pair g.links) refl
  where
    go : (k m : ℕ) (g : Network) → length g.links ≤ k → length g.links ≤ m → (o : Option (ℕ × ℕ)) → first_pair g.links ≡ o → joined_pairs k g ≡ joined_pairs m g
    go zero m g h l none e = joined-none zero g e ∙ sym (joined-none m g e)
    go (suc k) zero g h l none e = joined-none (suc k) g e ∙ sym (joined-none zero g e)
    go (suc k) (suc m) g h l none e = joined-none (suc k) g e ∙ sym (joined-none (suc m) g e)
    go zero m g h l (some ij) e = absurd (omega (arith, pair-fewer g ij.0 ij.1 e))
    go (suc k) zero g h l (some ij) e = absurd (omega (arith, pair-fewer g ij.0 ij.1 e))
    go (suc k) (suc m) g h l (some ij) e =
        let r = side_by_side ij.0 ij.1 g in
        let fewer = pair-fewer g ij.0 ij.1 e in
        joined-here g ij.0 ij.1 e k ∙ go k m r (omega (arith, fewer)) (omega (arith, fewer)) (first_pair r.links) refl ∙ sym (joined-here g ij.0 ij.1 e m)

module _ (g : Network) (i j : ℕ) (found : first_pair g.links ≡ some (i, j)) where
  joined-often : (k m : ℕ) → length g.links ≤ k → length (side_by_side i j g).links ≤ m → joined_pairs k g ≡ joined_pairs m (side_by_side i j g)
  joined-often k m h l = often k (suc m) g h (omega (arith, l, pair-fewer g i j found)) ∙ joined-here g i j found m

  pub unpaired-here : unpaired g ≡ unpaired (side_by_side i j g)
  unpaired-here = joined-often _ _ (omega arith) (omega arith)

pub pair-valid : (g : Network) → Valid g → (i j : ℕ) → first_pair g.links ≡ some (i, j) → Valid (side_by_side i j g)
pair-valid g valid i j found =
    let p = pair-at g i j found in
    joined-valid g valid i j _ p.order (parallel-proper g.nodes (link_at g i) (link_at g j) (proper-at g valid i (omega arith)) (proper-at g valid j p.place))

pub unpaired-none : (g : Network) → Pairless g → unpaired g ≡ g
unpaired-none g pairless = joined-none _ g pairless

-- what holds without a pair, and with a pair where it holds with that pair as one, holds of every network
by-pairs : (P : Network → Type 0) → ((g : Network) → Pairless g → P g) → ((g : Network) (i j : ℕ) → first_pair g.links ≡ some (i, j) → P (side_by_side i j g) → P g) → (g : Network) → P g
by-pairs P base step g = go (length g.links) g (le_refl (length g.links)) (first_pair g.links) refl
  where
    go : (m : ℕ) (g : Network) → length g.links ≤ m → (o : Option (ℕ × ℕ)) → first_pair g.links ≡ o → P g
    go zero g few none e = base g e
    go (suc m) g few none e = base g e
    go zero g few (some ij) e = absurd (omega (arith, pair-fewer g ij.0 ij.1 e))
    go (suc m) g few (some ij) e =
        let h = side_by_side ij.0 ij.1 g in
        step g ij.0 ij.1 e (go m h (omega (arith, pair-fewer g ij.0 ij.1 e)) (first_pair h.links) refl)

pub unpaired-fewer : (g : Network) → length (unpaired g).links ≤ length g.links
unpaired-fewer = by-pairs (λ g. length (unpaired g).links ≤ length g.links)
    (λ g pairless. le_of_eq (ap (λ (h : Network). length h.links) (unpaired-none g pairless)))
    (λ g i j pair fewer. omega (arith, fewer, pair-fewer g i j pair, ap (λ (h : Network). length h.links) (unpaired-here g i j pair)))

module _ (g : Network) (loopless : Loopless g) (i j : ℕ) (pair : first_pair g.links ≡ some (i, j)) where
  pub pair-loopless : Loopless (side_by_side i j g)
  pair-loopless =
      let at = pair-at g i j pair in
      joined-loopless g loopless i j (in_parallel (link_at g i) (link_at g j)) at.order (no_loop g loopless (link_at g i) (getD-mem g.links _ (omega (arith, at.order, at.place))))

module _ (g : Terminals) (plain : Plain g) (i j : ℕ) (pair : first_pair g.network.links ≡ some (i, j)) where
  abbrev as_one : Terminals
  as_one = among g.chosen (side_by_side i j g.network)

  pair-plain : Plain as_one
  pair-plain =
      let valid = plain.valid in
      record {
        valid = record { valid = pair-valid g.network valid.valid i j pair; ascending = valid.ascending; nodes = valid.nodes };
        loopless = pair-loopless g.network plain.loopless i j pair;
        connected = pair-connected g i j (pair-at g.network i j pair) plain.connected;
      }

  -- step 4 fits, or one chosen node is left
  pair-tree : tree g ≡ tree as_one
  unfolding leaves
  pair-tree = go (leb (length g.chosen) 1) refl
    where
      whole : Connected g
      whole = plain.connected

      go : (one : Bool) → leb (length g.chosen) 1 ≡ one → tree g ≡ tree as_one
      go true o =
          let one = leb-true (length g.chosen) 1 o in
          one-tree g plain.valid plain.loopless one ∙ sym (one-tree as_one pair-plain.valid pair-plain.loopless one)
      go false o = tree-rest g plain.valid as_one
          (ap (leaves g) (next-by (split_at g) g none plain.loopless false o true (chosen-connected g whole) none (none-astray g whole) (some (i, j)) pair _ refl _ refl))

module _ (cs : List ℕ) where
  pub unpaired-simple : (g : Network) → Plain (among cs g) → Simple (among cs (unpaired g))
  unpaired-simple = by-pairs (λ g. Plain (among cs g) → Simple (among cs (unpaired g)))
      (λ g pairless plain. subst (λ (h : Network). Simple (among cs h)) (sym (unpaired-none g pairless)) (record { plain = plain; pairless = pairless }))
      (λ g i j pair later plain. subst (λ (h : Network). Simple (among cs h)) (sym (unpaired-here g i j pair)) (later (pair-plain (among cs g) plain i j pair)))

  pub unpaired-tree : (g : Network) → Plain (among cs g) → tree (among cs g) ≡ tree (among cs (unpaired g))
  unpaired-tree = by-pairs (λ g. Plain (among cs g) → tree (among cs g) ≡ tree (among cs (unpaired g)))
      (λ g pairless plain. ap (λ (h : Network). tree (among cs h)) (sym (unpaired-none g pairless)))
      (λ g i j pair later plain. pair-tree (among cs g) plain i j pair ∙ later (pair-plain (among cs g) plain i j pair) ∙ ap (λ (h : Network). tree (among cs h)) (sym (unpaired-here g i j pair)))

-- ---- without loops

pub loops-gone : (g : Network) → Loopless g → g ≡ without_loops g
loops-gone g h = λ i. record { nodes = g.nodes; links = dropping-none is_loop g.links ((none_found is_loop g.links).0 h) i }

pub loop-gone : (g : Network) (i : ℕ) → first_at is_loop g.links ≡ some i → without_loops (deleted i g) ≡ without_loops g
loop-gone g i h =
    let at = subst (Answers (Holds is_loop g.links) (Fails is_loop g.links)) h (first-at is_loop g.links) in
    λ k. record { nodes = g.nodes; links = dropping-delete is_loop is_loop (λ f. refl) g.links i at.place at.test k }

pub unlooped-loopless : (g : Network) → Loopless (without_loops g)
unlooped-loopless g = dropped-none is_loop g.links

-- it is worked alike
abbrev unlooped : Terminals → Terminals
unlooped g = among g.chosen (without_loops g.network)

unlooped-by : (g : Terminals) → Chosen g → ((h : Terminals) → Below g h → tree h ≡ tree (unlooped h)) → tree g ≡ tree (unlooped g)
unlooped-by g valid fewer = go (first_at is_loop g.network.links) refl
  where
    go : (loop : Option ℕ) → first_at is_loop g.network.links ≡ loop → tree g ≡ tree (unlooped g)
    go none h = ap (λ (k : Network). tree (among g.chosen k)) (loops-gone g.network h)
    go (some i) h = loop-tree g valid i h ∙ fewer (broken_left i g) (loop-below g valid i h) ∙ ap (λ (k : Network). tree (among g.chosen k)) (loop-gone g.network i h)

-- and it is valid
pub unlooped-chosen : (g : Terminals) → Chosen g → Chosen (among g.chosen (without_loops g.network))
unlooped-chosen g valid = record {
  valid = record { ascending = valid.valid.ascending; proper = λ e m. valid.valid.proper e (mem-dropping is_loop g.network.links m) };
  ascending = valid.ascending;
  nodes = valid.nodes;
}

unlooped-links : (m : ℕ) (g : Terminals) → Chosen g → length g.network.links ≤ m → tree g ≡ tree (unlooped g)
unlooped-links zero g valid few = unlooped-by g valid (λ h b. let k = b.fewer in absurd (omega arith))
unlooped-links (suc m) g valid few = unlooped-by g valid (λ h b. let k = b.fewer in unlooped-links m h b.valid (omega arith))

pub unlooped-tree : (g : Terminals) → Chosen g → tree g ≡ tree (among g.chosen (without_loops g.network))
unlooped-tree g valid = unlooped-links (length g.network.links) g valid (le_refl (length g.network.links))
