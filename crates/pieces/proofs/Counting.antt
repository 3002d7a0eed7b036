-- The pieces counted one by one, each taken out of the nodes that are left.
use Prim.Native.Nat.{ℕ, ◌+◌, ◌≤◌}
use mathlib.Core.Path.{◌≡◌, refl, sym, ap, ap₂, ◌∙◌}
use mathlib.Core.List.{List, [], ◌∷◌}
use mathlib.Core.Bool.{Bool, true, false, not, ◌&&◌, and-eq-true_iff}
use native.Mathlib.Omega.{arith}
use lib.Dec.{eqb}
use lib.ListN.{length, get_or, set}
use borrow.Author.Tests.{eq-eqb}
use Rattle.bits.specs.Members.{members, how_many, difference}
use Rattle.bits.proofs.Digits.{length_digits}
use Rattle.reliability.specs.Networks.{Ends, label, together, last_of_each, pieces, here, forth}
use Rattle.reliability.proofs.Lists.{filter-past}
use Rattle.reliability.proofs.Connection.{label-means}
use Rattle.reliability.proofs.Pieces.{outside, first-parted, pieces-at-most}
use Rattle.search.specs.Searches.{ends_in, nodes_in, Inside, Ended}
use Rattle.pieces.specs.Pieces.{Closed, PieceOf}
use Rattle.search.proofs.Sets.{has, has-place, has-zip, same_length}
use Rattle.search.proofs.Marks.{Lowest, indices, places-listed, length-places, filter-indices, lowest-first, none-listed}
use Rattle.pieces.proofs.Flood.{mem-ends}

-- the set less what is also in another
less : (b c : Bool) → (b && not (b && c)) ≡ (b && not c)
less true c = refl
less false c = refl

most : (bs : List Bool) → how_many bs ≤ length bs
most [] = omega arith
most (true ∷ bs) = omega (arith, most bs)
most (false ∷ bs) = omega (arith, most bs)

-- a set that no link leaves, less the piece of its lowest node v
module _ (alive : ℕ) (as₁ bs : List ℕ) (long : (64 ≤ length as₁) × (64 ≤ length bs))
    (v rest piece left : ℕ) (lowest : Lowest rest v) (closed : Closed rest alive as₁ bs)
    (found : PieceOf piece rest (ends_in alive as₁ bs) v) (gone : members left ≡ difference (members rest) (members piece)) where
  abbrev links : List Ends
  links = ends_in alive as₁ bs

  has_left : (u : ℕ) → has left u ≡ (has rest u && not (together links u v))
  has_left u =
      has-zip (λ b c. b && not c) refl left rest piece gone u ∙ ap (λ (b : Bool). has rest u && not b) (found u) ∙ less (has rest u) (together links u v)

  left-within : Inside left rest
  left-within u h = ((and-eq-true_iff (has rest u) (not (together links u v))).0 (sym (has_left u) ∙ h)).0

  -- both ends of a link are in one piece
  left-closed : Closed left alive as₁ bs
  left-closed p used =
      let x = get_or as₁ p 0 in
      let y = get_or bs p 0 in
      let below = has-place alive p used in
      let same : label links x ≡ label links y =
      (label-means links x y).1 (forth (mem-ends (members alive) as₁ bs p used (omega arith) (omega arith)) here) in
      has_left x ∙ ap₂ (λ (b : Bool) (l : ℕ). b && not (eqb l (label links v))) (closed p used) same ∙ sym (has_left y)

  nodes-left : nodes_in left ≡ outside links (label links v) (nodes_in rest)
  nodes-left =
      places-listed left
      ∙ sym (filter-indices (λ u. not (together links u v)) (members rest) (members left) (same_length left rest) has_left)
      ∙ ap (outside links (label links v)) (sym (places-listed rest))

  pub one_less : pieces (nodes_in rest) links ≡ 1 + pieces (nodes_in left) links
  one_less =
      let first = lowest-first rest v lowest in
      let vs = indices (set (members rest) v false) in
      let x = label links v in
      ap (λ (ns : List ℕ). pieces ns links) first ∙ first-parted links v vs
      ∙ ap (λ (ns : List ℕ). 1 + pieces ns links)
      (sym (nodes-left ∙ ap (outside links x) first ∙ filter-past (λ u. not (together links u v)) v vs (ap not (eq-eqb x x refl))))

-- count pieces are found, and the nodes left have the others
pub record Counted (nodes alive : ℕ) (as₁ bs : List ℕ) (rest count : ℕ) : Type 0 where
  pub closed : Closed rest alive as₁ bs
  pub within : Inside rest nodes
  pub total : count + pieces (nodes_in rest) (ends_in alive as₁ bs) ≡ pieces (nodes_in nodes) (ends_in alive as₁ bs)

module _ (nodes alive : ℕ) (as₁ bs : List ℕ) where
  pub counted_none : Ended nodes alive as₁ bs → Counted nodes alive as₁ bs nodes 0
  counted_none ended = record { closed = λ p used. let r = ended p used in r.0 ∙ sym r.1; within = λ u h. h; total = omega arith }

  -- there are no more than 64
  pub counted-few : (rest count : ℕ) → Counted nodes alive as₁ bs rest count → count ≤ 64
  counted-few rest count c =
      omega (arith, c.total, pieces-at-most (ends_in alive as₁ bs) (nodes_in nodes), length-places nodes, most (members nodes), length_digits 64 nodes)

  -- a piece more
  pub counted-more : (64 ≤ length as₁) × (64 ≤ length bs) → (v rest piece left count : ℕ) → Lowest rest v
      → PieceOf piece rest (ends_in alive as₁ bs) v → members left ≡ difference (members rest) (members piece)
      → Counted nodes alive as₁ bs rest count → Counted nodes alive as₁ bs left (count + 1)
  counted-more long v rest piece left count lowest found gone c = record {
    closed = left-closed alive as₁ bs long v rest piece left lowest c.closed found gone;
    within = λ u h. c.within u (left-within alive as₁ bs long v rest piece left lowest c.closed found gone u h);
    total = omega (arith, c.total, one_less alive as₁ bs long v rest piece left lowest c.closed found gone);
  }

  pub counted-all : (rest count : ℕ) → rest ≡ 0 → Counted nodes alive as₁ bs rest count → count ≡ pieces (nodes_in nodes) (ends_in alive as₁ bs)
  unfolding last_of_each
  counted-all rest count e c =
      let none = ap (λ (s : ℕ). nodes_in s) e ∙ none-listed in
      omega (arith, c.total, ap (λ (ns : List ℕ). pieces ns (ends_in alive as₁ bs)) none)
