-- The piece of the chosen nodes, and the links outside of it, which go.
use Prim.Native.Nat.{ℕ, suc, ◌^◌, ◌<◌}
use mathlib.Core.Path.{◌≡◌, refl, sym, ap, ap₂, ◌∙◌}
use mathlib.Core.Logic.{⊎_elim}
use mathlib.Core.List.{List, [], ◌∷◌, map, Memᴰ}
use mathlib.Core.Bool.{Bool, true, false, cond, not, ◌&&◌, ◌||◌, true≢false, and-false, and-eq-true_iff}
use native.Mathlib.Omega.{arith}
use lib.Dec.{eqb}
use lib.ListN.{length, get_or}
use borrow.Author.Tests.{eqb-true, eq-eqb}
use Rattle.bits.specs.Members.{members, first_of, difference}
use Rattle.reliability.specs.declared.Link.{Link}
use Rattle.reliability.specs.Networks.{Ends, ends, every, label, connected, together, here, forth}
use Rattle.reliability.specs.Terminals.{among, astray}
use Rattle.reliability.specs.Simple.{Loopless, dropping, trimmed}
use Rattle.reliability.proofs.Lists.{both_ways, not-true-false, or-true, every-at, every_of}
use Rattle.reliability.proofs.Connection.{label-const, label-means, connected-means, connected-sound, one_more}
use Rattle.reliability.proofs.TerminalSteps.{not-true}
use Rattle.reliability.proofs.Trimmed.{pieces-at-once}
use Rattle.search.specs.Searches.{pick, nodes_in, ends_in, touching, Inside, Incidence, Bounded}
use Rattle.search.proofs.Sets.{has, has-none, has-below, has-place, has-fits, has-zip, has-mem, mem-has, same_length, at-node}
use Rattle.search.proofs.Marks.{length-places, lowest-of, lowest-in}
use Rattle.pieces.specs.Pieces.{Closed}
use Rattle.pieces.proofs.Flood.{mem-ends}
use Rattle.parts.specs.Tallies.{Cleared, Remaining}
use Rattle.parts.proofs.Laws.{counted}
use Rattle.network.specs.declared.Network.{Network}
use Rattle.network.specs.Places.{network_of, terminals_of, links_of, nodes_of, chosen_of, Invariant, Sized}
use Rattle.network.proofs.Ends.{links-ends, ended, bounded}
use Rattle.network.proofs.Picks.{row, all_rows, all-even, rows_at}
use Rattle.network.proofs.Kept.{chosen-of, stands}
use Rattle.simple.specs.Begins.{Several, ChosenPiece}

-- what is in one set and not in another
has-difference : (r s t : ℕ) → members r ≡ difference (members s) (members t) → (p : ℕ) → has r p ≡ (has s p && not (has t p))
has-difference = has-zip (λ b d. b && not d) refl

-- ---- the piece of the lowest chosen node

-- more than one node is chosen: the lowest is
pub lowest-chosen : (n : Network) → Several n → has n.chosen (first_of (members n.chosen)) ≡ true
lowest-chosen n several = lowest-in n.chosen _ (record { some = omega (arith, length-places n.chosen); first = refl })

-- its piece can be asked for
pub piece-asked : (n : Network) → Sized n → Invariant n → Several n → (v : ℕ) → v ≡ first_of (members n.chosen)
    → (v < 32) × (has n.nodes v ≡ true) × Incidence n.at n.alive n.a n.b × Bounded n.alive n.a n.b × Closed n.nodes n.alive n.a n.b
piece-asked n sized holds several v e =
    let chosen : has n.chosen v ≡ true = rw e (lowest-chosen n several) in
    let node = holds.inside v chosen in
    let ends = ended n sized holds.valid in
    (has-below n.nodes 32 v sized.nodes node, node, holds.tallies, bounded n sized holds.valid, λ p u. (ends p u).0 ∙ sym (ends p u).1)

module _ (n : Network) (sized : Sized n) (several : Several n) (piece : ℕ) (of-piece : ChosenPiece n piece) where
  abbrev t : List Ends
  t = ends_in n.alive n.a n.b

  abbrev c : ℕ
  c = first_of (members n.chosen)

  -- a node is in the piece where it has the label of the lowest chosen node
  in-piece : (u : ℕ) → has n.nodes u ≡ true → has piece u ≡ eqb (label t u) (label t c)
  in-piece u h = of-piece u ∙ ap (λ (b : Bool). b && together t u c) h

  -- the links connect the chosen nodes where all of them are in the piece
  pub piece-whole : Inside n.chosen piece → connected (chosen_of n) (map ends (links_of n)) ≡ true
  piece-whole inside =
      ap (connected (chosen_of n)) (links-ends n sized)
      ∙ (connected-means (chosen_of n) t).1 (λ u v m k. (label-means t u v).0 (alike u m ∙ sym (alike v k)))
    where
      alike : (u : ℕ) → Memᴰ u (chosen_of n) → label t u ≡ label t c
      alike u m = eqb-true _ _ ((and-eq-true_iff (has n.nodes u) (together t u c)).0 (sym (of-piece u) ∙ inside u (mem-has n.chosen u m))).1

  -- and do not where one is outside of it
  pub piece-apart : Inside n.chosen n.nodes → (u : ℕ) → has n.chosen u ≡ true → has piece u ≡ false → connected (chosen_of n) (map ends (links_of n)) ≡ false
  piece-apart within u chosen out = ap (connected (chosen_of n)) (links-ends n sized) ∙ not-true-false (λ whole.
      let alike = connected-sound (chosen_of n) t whole (label t) (label-const t) u c (has-mem n.chosen u chosen) (has-mem n.chosen c (lowest-chosen n several)) in
      true≢false (sym (in-piece u (within u chosen) ∙ eq-eqb _ _ alike) ∙ out))

  -- the chosen nodes outside of it: none, or some
  module _ (rest : ℕ) (outside : members rest ≡ difference (members n.chosen) (members piece)) where
    pub none-outside : rest ≡ 0 → Inside n.chosen piece
    none-outside e p h = go (has piece p) (sym (has-none p) ∙ ap (λ (s : ℕ). has s p) (sym e) ∙ has-difference rest n.chosen piece outside p ∙ ap (λ (b : Bool). b && not (has piece p)) h)
      where
        go : (b : Bool) → false ≡ not b → b ≡ true
        go true h = refl
        go false h = h

    pub some-outside : Inside n.chosen n.nodes → 0 < rest → rest < 2 ^ 64 → connected (chosen_of n) (map ends (links_of n)) ≡ false
    some-outside within some small =
        let u = first_of (members rest) in
        let h = (and-eq-true_iff (has n.chosen u) (not (has piece u))).0 (sym (has-difference rest n.chosen piece outside u) ∙ lowest-in rest u (lowest-of rest u some small refl)) in
        piece-apart within u h.0 (not-true (has piece u) h.1)

-- ---- the links outside of the piece go

-- the nodes outside of it are nodes
pub outside-fits : (n : Network) → Sized n → (piece others : ℕ) → members others ≡ difference (members n.nodes) (members piece) → others < 2 ^ 64 → others < 2 ^ 32
outside-fits n sized piece others outside small = has-fits others 32 small (λ p h.
    has-below n.nodes 32 p sized.nodes
    ((and-eq-true_iff (has n.nodes p) (not (has piece p))).0 (sym (has-difference others n.nodes piece outside p) ∙ h)).0)

-- of the places in use those stay at which a test does not hold
pub pick-dropping : (test : Link → Bool) (z : Link) (bs us : List Bool) (es : List Link) → length bs ≡ length us
    → ((p : ℕ) → get_or bs p false ≡ (get_or us p false && not (test (get_or es p z)))) → pick bs es ≡ dropping test (pick us es)
unfolding pick dropping
pick-dropping test z [] [] es l h = refl
pick-dropping test z [] (u ∷ us) es l h = absurd (omega arith)
pick-dropping test z (b ∷ bs) [] es l h = absurd (omega arith)
pick-dropping test z (b ∷ bs) (u ∷ us) [] l h = refl
pick-dropping test z (b ∷ bs) (u ∷ us) (e ∷ es) l h =
    rw (h 0) (go u (pick-dropping test z bs us es (omega arith) (λ p. h (suc p))))
  where
    at : (d : Bool) → pick bs es ≡ dropping test (pick us es)
        → pick (not d ∷ bs) (e ∷ es) ≡ elim d as (λ x. List Link) [ true ↦ dropping test (pick us es) | false ↦ e ∷ dropping test (pick us es) ]
    at true later = later
    at false later = ap (λ (l : List Link). e ∷ l) later

    go : (u : Bool) → pick bs es ≡ dropping test (pick us es) → pick ((u && not (test e)) ∷ bs) (e ∷ es) ≡ dropping test (pick (u ∷ us) (e ∷ es))
    go true later = at (test e) later
    go false later = later

module _ (n : Network) (sized : Sized n) (holds : Invariant n) (several : Several n) (piece : ℕ) (of-piece : ChosenPiece n piece) (inside : Inside n.chosen piece)
    (others left : ℕ) (after : List ℕ) (outside : members others ≡ difference (members n.nodes) (members piece)) (remaining : Remaining others n.at n.alive left) (cleared : Cleared others n.at after) where
  abbrev a : ℕ → ℕ
  a p = get_or n.a p 0

  abbrev b : ℕ → ℕ
  b p = get_or n.b p 0

  -- both ends of a link are in the piece, or neither is
  both_ends : (p : ℕ) → has n.alive p ≡ true → has piece (b p) ≡ has piece (a p)
  both_ends p u =
      let nodes = ended n sized holds.valid p u in
      let t = ends_in n.alive n.a n.b in
      let below = has-place n.alive p u in
      let link = mem-ends (members n.alive) n.a n.b p u (omega (arith, sized.a_length)) (omega (arith, sized.b_length)) in
      let alike : label t (a p) ≡ label t (b p) = (label-means t (a p) (b p)).1 (forth link here) in
      in-piece n sized several piece of-piece (b p) nodes.1
      ∙ ap (λ (l : ℕ). eqb l (label t (first_of (members n.chosen)))) (sym alike)
      ∙ sym (in-piece n sized several piece of-piece (a p) nodes.0)

  has-others : (v : ℕ) → has others v ≡ (has n.nodes v && not (has piece v))
  has-others = has-difference others n.nodes piece outside

  -- a node at which there is a link is outside where the link is
  touched : (v p : ℕ) → has n.alive p ≡ true → touching v (a p) (b p) ≡ true → has others v ≡ not (has piece (a p))
  touched v p u h =
      let nodes = ended n sized holds.valid p u in
      ⊎_elim (λ q. here-at (a p) (eqb-true (a p) v q) nodes.0 refl) (λ q. here-at (b p) (eqb-true (b p) v q) nodes.1 (both_ends p u)) (or-true (eqb (a p) v) (eqb (b p) v) h)
    where
      here-at : (w : ℕ) → w ≡ v → has n.nodes w ≡ true → has piece w ≡ has piece (a p) → has others v ≡ not (has piece (a p))
      here-at w e k s = ap (has others) (sym e) ∙ has-others w ∙ ap₂ (λ (x y : Bool). x && not y) k s

  at-v : (v p : ℕ) → v < 32 → has (get_or n.at v 0) p ≡ (has n.alive p && touching v (a p) (b p))
  at-v v p h = at-node n.at n.a n.b n.alive holds.tallies v h p

  below-32 : (v : ℕ) → has n.nodes v ≡ true → v < 32
  below-32 v = has-below n.nodes 32 v sized.nodes

  -- the links of the piece are left
  has_left : (p : ℕ) → has left p ≡ (has n.alive p && has piece (a p))
  has_left p = remaining p ∙ go (has n.alive p) refl
    where
      free : ℕ → Bool
      free v = not (has (get_or n.at v 0) p)

      go : (u : Bool) → has n.alive p ≡ u → (u && every free (nodes_in others)) ≡ (u && has piece (a p))
      go false u = refl
      go true u = both_ways (every free (nodes_in others)) (has piece (a p)) (λ h. kept_in h (has piece (a p)) refl) all-free
        where
          own : touching (a p) (a p) (b p) ≡ true
          own = ap (λ (s : Bool). s || eqb (b p) (a p)) (eq-eqb (a p) (a p) refl)

          kept_in : every free (nodes_in others) ≡ true → (d : Bool) → has piece (a p) ≡ d → d ≡ true
          kept_in h true e = refl
          kept_in h false e =
              let out = every-at free h (has-mem others (a p) (touched (a p) p u own ∙ ap not e)) in
              sym (ap not (at-v (a p) p (below-32 (a p) (ended n sized holds.valid p u).0) ∙ ap₂ ◌&&◌ u own)) ∙ out

          all-free : has piece (a p) ≡ true → every free (nodes_in others) ≡ true
          all-free h = every_of free (nodes_in others) (λ v m.
              let o = mem-has others v m in
              let node = ((and-eq-true_iff (has n.nodes v) (not (has piece v))).0 (sym (has-others v) ∙ o)).0 in
              ap not (at-v v p (below-32 v node) ∙ ap₂ ◌&&◌ u (not-true-false (λ k. true≢false (sym o ∙ touched v p u k ∙ ap not h)))))

  -- each node has those that are left
  tallied : Incidence after left n.a n.b
  tallied = counted after n.a n.b left (record { a_length = sized.a_length; b_length = sized.b_length }) (λ v p h k.
      ap (λ (us : List Bool). get_or us p false) (cleared.sets v)
      ∙ emptied (has others v) (get_or n.at v 0) p
      ∙ ap (cond (has others v) false) (at-v v p h)
      ∙ go (has n.alive p) (touching v (a p) (b p)) (has piece (a p)) (has others v) (touched v p)
      ∙ ap (λ (s : Bool). s && touching v (a p) (b p)) (sym (has_left p)))
    where
      emptied : (d : Bool) (s p : ℕ) → get_or (cond d (members 0) (members s)) p false ≡ cond d false (has s p)
      emptied true s p = has-none p
      emptied false s p = refl

      go : (u d y o : Bool) → (u ≡ true → d ≡ true → o ≡ not y) → cond o false (u && d) ≡ ((u && y) && d)
      go false d y true h = refl
      go false d y false h = refl
      go true false y true h = sym (and-false y)
      go true false y false h = sym (and-false y)
      go true true true o h = ap (λ (x : Bool). cond x false true) (h refl refl)
      go true true false o h = ap (λ (x : Bool). cond x false true) (h refl refl)

  whole : connected (chosen_of n) (map ends (links_of n)) ≡ true
  whole = piece-whole n sized several piece of-piece inside

  -- the links left are those that are not astray
  links-left : pick (members left) (all_rows n) ≡ dropping (astray (terminals_of n)) (links_of n)
  links-left = pick-dropping (astray (terminals_of n)) (row 0 0 0 0) (members left) (members n.alive) (all_rows n) (same_length left n.alive) (λ p. has_left p ∙ go p (has n.alive p) refl)
    where
      twice : (d : Bool) → d ≡ not (not d)
      twice true = refl
      twice false = refl

      go : (p : ℕ) (u : Bool) → has n.alive p ≡ u → (u && has piece (a p)) ≡ (u && not (astray (terminals_of n) (get_or (all_rows n) p (row 0 0 0 0))))
      go p false u = refl
      go p true u =
          let c = first_of (members n.chosen) in
          in-piece n sized several piece of-piece (a p) (ended n sized holds.valid p u).0
          ∙ ap (λ (s : List Ends). eqb (label s (a p)) (label s c)) (sym (links-ends n sized))
          ∙ sym (one_more (a p) c (chosen_of n) (map ends (links_of n)) whole (has-mem n.chosen c (lowest-chosen n several)))
          ∙ twice _
          ∙ ap (λ (e : Link). not (astray (terminals_of n) e)) (sym (rows_at (all-even n sized) p))

  -- what is left is the network without its links astray
  pub kept-right : Loopless (network_of n)
      → let r : Network = record { alive = left; at = after; low = n.low; high = n.high; a = n.a; b = n.b; nodes = n.nodes; chosen = n.chosen } in (terminals_of r ≡ trimmed (terminals_of n)) × Invariant r
  kept-right loopless = stands _ (λ i. among (chosen_of n) (record { nodes = nodes_of n; links = links-left i }))
      (pieces-at-once (terminals_of n) (chosen-of n holds) loopless several whole).plain.valid tallied
