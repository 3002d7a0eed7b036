-- What is worked next is countable, and the rows it makes.
use Prim.Native.Nat.{ℕ, zero, suc, ◌≤◌, ◌<◌, min, max, zero-le, suc-le-suc}
use mathlib.Core.Path.{◌≡◌, refl, sym, ap, ◌∙◌, subst}
use mathlib.Core.List.Memᴰ
use mathlib.Core.List.{List, [], ◌∷◌, map, Memᴰ}
use mathlib.Core.Bool.{Bool, true, false, not}
use mathlib.Core.Logic.{⊎_elim}
use native.Mathlib.Nat.{le_refl, le_trans, le_of_eq, not-suc-le-zero}
use native.Mathlib.Omega.{arith}
use lib.ListN.{length, get_or, set, length-map}
use borrow.Author.Tests.{eq-eqb, ne_eqb, eqb-false}
use Rattle.bits.specs.Members.{members}
use Rattle.reliability.specs.declared.Link.{Link}
use Rattle.reliability.specs.Networks.{Network as Graph, Valid, ends, link_at, every, connected, together, last_of_each, pieces, pieces_of}
use Rattle.reliability.specs.Rule.{is_loop, deleted, delete_at, renamed}
use Rattle.reliability.specs.Terminals.{Terminals, among, everywhere, sound_left, broken_left}
use Rattle.reliability.specs.Simple.{anchors, Connected}
use Rattle.reliability.proofs.Lists.{length-delete}
use Rattle.reliability.proofs.Connection.{connected-within}
use Rattle.reliability.proofs.Pieces.{one_piece}
use Rattle.reliability.proofs.Steps.{AtSplit}
use Rattle.reliability.proofs.Everywhere.{sound-everywhere}
use Rattle.polynomials.specs.Rows.{Fits}
use Rattle.sets.specs.Bundles.{worth, most}
use Rattle.sets.proofs.Worths.{sound_at, worth-most, most-contracted, fewer-sets}
use Rattle.network.specs.declared.Network.{Network}
use Rattle.network.specs.Places.{rank, network_of, terminals_of, links_of, nodes_of, chosen_of, index_of, link_of, Used, WithoutPlace, Invariant, Sized}
use Rattle.network.specs.Workable.{Workable}
use Rattle.network.proofs.Picks.{index-within}
use Rattle.network.proofs.Kept.{chosen-of}
use Rattle.search.specs.Searches.{nodes_in}
use Rattle.bundles.specs.Bundled.{Bundled}
use Rattle.counting.specs.Countable.{Countable}

-- ---- rows

-- what a row of g is worth has room
pub row_room : (g : Graph) → Fits (λ x. most x g) → (f : ℕ → ℕ) → ((x : ℕ) → f x ≡ worth x g) → Fits f
row_room g room f e = λ x. le_trans (le_of_eq (e x)) (le_trans (worth-most x g) (room x))

-- ---- connection

some-piece : (t : _) (v : ℕ) (vs : List ℕ) → 1 ≤ pieces (v ∷ vs) t
unfolding last_of_each every
some-piece t v [] = le_refl 1
some-piece t v (u ∷ us) = go (every (λ w. not (together t w v)) (u ∷ us)) (some-piece t u us)
  where
    go : (b : Bool) → 1 ≤ pieces (u ∷ us) t → 1 ≤ length {A = ℕ} (elim b [ true ↦ v ∷ last_of_each (u ∷ us) t | false ↦ last_of_each (u ∷ us) t ])
    go true h = suc-le-suc zero-le
    go false h = h

pub in_one : (g : Graph) → pieces_of g ≤ 1 → connected g.nodes (map ends g.links) ≡ true
unfolding connected
in_one g few = go g.nodes refl
  where
    go : (vs : List ℕ) → vs ≡ g.nodes → connected g.nodes (map ends g.links) ≡ true
    go [] e = ap (λ us. connected us (map ends g.links)) (sym e)
    go (v ∷ vs) e =
        let least : 1 ≤ pieces_of g = subst (λ us. 1 ≤ pieces us (map ends g.links)) e (some-piece (map ends g.links) v vs) in
        one_piece g (subst (λ (us : List ℕ). 0 < length us) e (suc-le-suc zero-le)) ∙ eq-eqb (pieces_of g) 1 (omega arith)

pub apart : (g : Graph) → 1 < pieces_of g → connected g.nodes (map ends g.links) ≡ false
unfolding last_of_each
apart g many = go g.nodes refl
  where
    go : (vs : List ℕ) → vs ≡ g.nodes → connected g.nodes (map ends g.links) ≡ false
    go [] e = absurd (not-suc-le-zero (subst (λ us. 1 < pieces us (map ends g.links)) (sym e) many))
    go (v ∷ vs) e = one_piece g (subst (λ (us : List ℕ). 0 < length us) e (suc-le-suc zero-le)) ∙ ne_eqb (pieces_of g) 1 (λ q. omega arith)

-- all nodes chosen and in one piece: so are the first ends of all links
anchored : (g : Graph) → Valid g → connected g.nodes (map ends g.links) ≡ true → Connected (everywhere g)
anchored g valid c = connected-within g.nodes (anchors (everywhere g)) _ _ (λ u m. ⊎_elim (λ n. n) (λ n.
    let (e, k, q) = Memᴰ.of_map (λ (e : Link). e.a) g.links n in subst (λ w. Memᴰ w g.nodes) q (valid.proper e k).a_node) (Memᴰ.append_cases g.nodes m)) (λ e m. m) c

-- ---- branches

-- r stands for h, which is worked next: it is countable and has fewer links than n
pub record Branch (n : Network) (h : Graph) (r : Network) : Type 0 where
  pub stands : network_of r ≡ h
  pub countable : Countable r
  pub fewer : length (links_of r) < length (links_of n)

everywhere-of : (n : Network) → chosen_of n ≡ nodes_of n → terminals_of n ≡ everywhere (network_of n)
everywhere-of n e = ap (λ cs. among cs (network_of n)) e

module _ (n : Network) (sized : Sized n) (c : Countable n) (i : ℕ) (u : Used n i) where
  abbrev g : Graph
  g = network_of n

  abbrev k : ℕ
  k = index_of n i

  within : k < length g.links
  within = index-within n sized i u

  -- what stands for a network with all nodes chosen
  branch : (h : Graph) → length h.links < length g.links → ((x : ℕ) → most x h ≤ most x g) → (r : Network) → Invariant r → terminals_of r ≡ everywhere h → Branch n h r
  branch h less room r holds e =
      let is : network_of r ≡ h = ap (λ (t : Terminals). t.network) e in
      record {
        stands = is;
        countable = record {
          holds = holds;
          all = ap (λ (t : Terminals). t.chosen) e ∙ ap (λ (f : Graph). f.nodes) (sym is);
          room = λ x. le_trans (le_of_eq (ap (most x) is)) (le_trans (room x) (c.room x));
        };
        fewer = omega (arith, ap (λ (f : Graph). length f.links) is);
      }

  pub broken : (r : Network) → terminals_of r ≡ broken_left k (terminals_of n) → Invariant r → Branch n (deleted k g) r
  broken r e holds =
      branch (deleted k g) (omega (arith, length-delete g.links within)) (λ x. fewer-sets x g c.holds.valid k within) r holds
      (e ∙ ap (broken_left k) (everywhere-of n c.all))

  pub at_split : is_loop (link_of n i) ≡ false → AtSplit g k
  at_split h = record { place = within; differ = eqb-false _ _ h }

  pub sound : is_loop (link_of n i) ≡ false → (r : Network) → terminals_of r ≡ sound_left k (terminals_of n) → Invariant r → Branch n (sound_at k g) r
  sound h r is holds =
      let less = length-delete g.links within in
      let e = link_at g k in
      branch (sound_at k g) (omega (arith, less, length-map (delete_at k g.links) (renamed (min e.a e.b) (max e.a e.b))))
      (λ x. le_trans (le_of_eq (most-contracted x (deleted k g) (link_at g k))) (fewer-sets x g c.holds.valid k within)) r holds
      (is ∙ ap (sound_left k) (everywhere-of n c.all) ∙ sound-everywhere g c.holds.valid k (at_split h))

-- a branch of a branch
pub onward : (n r q : Network) (h : Graph) → length (links_of r) ≤ length (links_of n) → Branch r h q → Branch n h q
onward n r q h less b = record { stands = b.stands; countable = b.countable; fewer = omega (arith, b.fewer) }

-- ---- a place before one that goes

rank-before : (bs : List Bool) (i j : ℕ) → rank i bs < rank j bs → (rank i (set bs j false) ≡ rank i bs) × (get_or (set bs j false) i false ≡ get_or bs i false)
unfolding rank
rank-before [] i j h = (refl, refl)
rank-before (b ∷ bs) i zero h = absurd (not-suc-le-zero h)
rank-before (b ∷ bs) zero (suc j) h = (refl, refl)
rank-before (true ∷ bs) (suc i) (suc j) h = let k = rank-before bs i j (omega arith) in (ap suc k.0, k.1)
rank-before (false ∷ bs) (suc i) (suc j) h = rank-before bs i j h

module _ (n r : Network) (i j : ℕ) (u : Used n i) (order : index_of n i < index_of n j) (w : WithoutPlace n j r) where
  kept : (index_of r i ≡ index_of n i) × (get_or (members r.alive) i false ≡ get_or (members n.alive) i false)
  kept = rw w (rank-before (members n.alive) i j order)

  pub still-used : Used r i
  still-used = record { below = u.below; used = kept.1 ∙ u.used }

  pub same_index : index_of r i ≡ index_of n i
  same_index = kept.0

-- ---- the network at hand

module _ (s n : Network) (c : Countable s) (b : Bundled s n) where
  pub bundled-countable : Countable n
  bundled-countable = record {
    holds = b.holds;
    all = ap nodes_in b.chosen ∙ c.all ∙ ap nodes_in (sym b.nodes);
    room = λ x. le_trans (le_of_eq (b.most x)) (c.room x);
  }

  pub workable : Sized n → pieces_of (network_of n) ≤ 1 → Workable n
  workable sized few = record {
    sized = sized;
    holds = b.holds;
    simple = record {
      plain = record {
        valid = chosen-of n b.holds;
        loopless = b.loopless;
        connected = subst Connected (sym (everywhere-of n bundled-countable.all)) (anchored (network_of n) b.holds.valid (in_one (network_of n) few));
      };
      pairless = b.pairless;
    };
  }
