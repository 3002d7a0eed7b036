-- What the number of pieces means.
use Prim.Native.Nat.{ℕ, zero, suc, ◌+◌, min, max, ◌≤◌, ◌<◌}
use mathlib.Core.Path.{◌≡◌, refl, sym, ap, ap₂, fun_ext, ◌∙◌}
use mathlib.Core.List.Memᴰ
use mathlib.Core.List.{List, [], ◌∷◌, map, Memᴰ}
use mathlib.Core.Bool.{Bool, true, false, cond, not, ◌&&◌, true≢false}
use mathlib.Core.Logic.{◌↔◌, ⊎_elim}
use native.Mathlib.Nat.{not-suc-le-zero}
use native.Mathlib.Omega.{arith}
use lib.Dec.{eqb}
use lib.ListN.{length, get_or}
use borrow.Author.Tests.{eqb-true, eqb-false, eq-eqb, ne_eqb, not-true}
use Rattle.rounding.specs.Rounding.{S}
use Rattle.reliability.specs.declared.Link.{Link}
use Rattle.reliability.specs.Networks.{Network, linked, link_at, Ends, ends, merge, label, every, filter, connected, Path, here, together, last_of_each, pieces, pieces_of, Apart, OneOfEach}
use Rattle.reliability.specs.Rule.{is_loop, delete_at, deleted}
use Rattle.reliability.proofs.Lists.{by_eqb, not-true-false, every-at, filter-mem, mem-filter}
use Rattle.reliability.proofs.Connection.{join, label-means}

-- ---- networks and their pieces: one proof computes them all from the definition

pub record Row : Type 0 where
  pub nodes : List ℕ
  pub links : List Link
  pub in_pieces : ℕ

pub row : List ℕ → List Link → ℕ → Row
row vs es k = record { nodes = vs; links = es; in_pieces = k }

unfoldable pub link : ℕ → ℕ → ℕ → Link
link a b p = linked a b (λ d. p)

pub rows : List Row
rows =
    row [] [] 0
    ∷ row (0 ∷ []) [] 1  -- P1
    ∷ row (0 ∷ 1 ∷ []) [] 2  -- P2: a node without a link is a piece
    ∷ row (0 ∷ []) (link 0 0 0 ∷ []) 1  -- P3
    ∷ row (0 ∷ 1 ∷ []) (link 0 1 900000000 ∷ link 0 1 800000000 ∷ []) 1  -- P4
    ∷ row (0 ∷ 1 ∷ 2 ∷ []) (link 0 1 0 ∷ link 1 2 0 ∷ link 0 2 0 ∷ []) 1  -- P7: links of value 0 count
    ∷ row (0 ∷ 1 ∷ 2 ∷ []) (link 0 0 S ∷ link 1 1 S ∷ link 2 2 S ∷ []) 3  -- loops join nothing
    ∷ row (0 ∷ 1 ∷ 2 ∷ 3 ∷ []) (link 1 3 S ∷ link 1 3 S ∷ link 3 1 S ∷ []) 3  -- side by side, with two nodes alone
    ∷ row (0 ∷ 1 ∷ 2 ∷ 3 ∷ 4 ∷ 5 ∷ []) (link 4 2 S ∷ link 5 1 S ∷ link 0 4 S ∷ link 1 3 S ∷ []) 2  -- the even and the odd ones
    ∷ row (3 ∷ 7 ∷ 31 ∷ []) (link 31 3 S ∷ []) 2
    ∷ []

pub examples : map (λ (r : Row). pieces_of (record { nodes = r.nodes; links = r.links })) rows ≡ map (λ (r : Row). r.in_pieces) rows
unfolding rows row link last_of_each every label merge
examples = refl

-- ---- what they mean

-- two nodes are in one piece: a path of links joins them
pub together-means : (t : List Ends) (u v : ℕ) → (together t u v ≡ true) ↔ Path t u v
together-means t u v = (λ h. (label-means t u v).0 (eqb-true _ _ h), λ p. eq-eqb _ _ ((label-means t u v).1 p))

-- ---- the nodes outside a piece

module _ (t : List Ends) where
  -- no node of the list has the label x
  abbrev clear : ℕ → List ℕ → Bool
  clear x = every (λ u. not (eqb (label t u) x))

  -- those of a list that have another label than x
  abbrev pub outside : ℕ → List ℕ → List ℕ
  outside x = filter (λ u. not (eqb (label t u) x))

  outside-mem : (x : ℕ) (vs : List ℕ) {u : ℕ} → Memᴰ u (outside x vs) → Memᴰ u vs × (label t u ≡ x → ⊥)
  outside-mem x vs m =
      let r = filter-mem (λ u. not (eqb (label t u) x)) vs m in
      (r.0, eqb-false _ _ (not-true _ r.1))

  mem-outside : (x : ℕ) (vs : List ℕ) {u : ℕ} → Memᴰ u vs → (label t u ≡ x → ⊥) → Memᴰ u (outside x vs)
  mem-outside x vs m n = mem-filter (λ u. not (eqb (label t u) x)) vs m (ap not (ne_eqb _ _ n))

  clear-outside : (x y : ℕ) → (y ≡ x → ⊥) → (vs : List ℕ) → clear y (outside x vs) ≡ clear y vs
  unfolding filter every
  clear-outside x y n [] = refl
  clear-outside x y n (v ∷ vs) =
      by_eqb (λ b. clear y (elim (not b) as (λ c. List ℕ) [ true ↦ v ∷ outside x vs | false ↦ outside x vs ]) ≡ clear y (v ∷ vs)) (label t v) x
      (λ e. clear-outside x y n vs ∙ ap (λ (b : Bool). not b && clear y vs) (sym (ne_eqb (label t v) y (λ q. n (sym q ∙ e)))))
      (λ o. ap (λ (b : Bool). not (eqb (label t v) y) && b) (clear-outside x y n vs))

  -- a node and those that follow it
  counted : (v : ℕ) (vs : List ℕ) → pieces (v ∷ vs) t ≡ cond (clear (label t v) vs) 1 0 + pieces vs t
  unfolding last_of_each
  counted v vs = go (clear (label t v) vs)
    where
      go : (b : Bool) → length {A = ℕ} (elim b as (λ c. List ℕ) [ true ↦ v ∷ last_of_each vs t | false ↦ last_of_each vs t ]) ≡ cond b 1 0 + pieces vs t
      go true = omega arith
      go false = omega arith

  one_more : (b : Bool) (k l : ℕ) → k ≡ cond b 0 1 + l → cond b 1 0 + k ≡ 1 + l
  one_more true k l e = omega arith
  one_more false k l e = omega arith

  -- the piece of label x, where there is one, and the others
  parted : (x : ℕ) (vs : List ℕ) → pieces vs t ≡ cond (clear x vs) 0 1 + pieces (outside x vs) t
  unfolding last_of_each filter every
  parted x [] = refl
  parted x (v ∷ vs) =
      counted v vs ∙ by_eqb (λ b. cond (clear (label t v) vs) 1 0 + pieces vs t
      ≡ cond (not b && clear x vs) 0 1 + pieces (elim (not b) as (λ c. List ℕ) [ true ↦ v ∷ outside x vs | false ↦ outside x vs ]) t) (label t v) x
      (λ e. ap (λ (y : ℕ). cond (clear y vs) 1 0 + pieces vs t) e ∙ one_more (clear x vs) (pieces vs t) (pieces (outside x vs) t) (parted x vs))
      (λ o. other (clear x vs) (clear (label t v) vs) (pieces vs t) _ _ (parted x vs) (counted v (outside x vs) ∙ ap (λ (b : Bool). cond b 1 0 + pieces (outside x vs) t) (clear-outside x (label t v) o vs)))
    where
      other : (b c : Bool) (k l n : ℕ) → k ≡ cond b 0 1 + l → n ≡ cond c 1 0 + l → cond c 1 0 + k ≡ cond b 0 1 + n
      other b c k l n e f = omega arith

  -- the piece of a node that stands first, and the others
  pub first-parted : (v : ℕ) (vs : List ℕ) → pieces (v ∷ vs) t ≡ 1 + pieces (outside (label t v) vs) t
  first-parted v vs = counted v vs ∙ one_more (clear (label t v) vs) (pieces vs t) _ (parted (label t v) vs)

  -- no more than there are nodes
  pub pieces-at-most : (vs : List ℕ) → pieces vs t ≤ length vs
  unfolding last_of_each
  pieces-at-most [] = omega arith
  pieces-at-most (v ∷ vs) = go (clear (label t v) vs) (counted v vs) (pieces-at-most vs)
    where
      go : (b : Bool) {k l n : ℕ} → k ≡ cond b 1 0 + l → l ≤ n → k ≤ suc n
      go true e h = omega arith
      go false e h = omega arith

  -- ---- one piece

  all-inside : (x : ℕ) (vs : List ℕ) → every (λ u. eqb (label t u) x) vs ≡ eqb (pieces (outside x vs) t) 0
  unfolding every filter last_of_each
  all-inside x [] = refl
  all-inside x (v ∷ vs) =
      by_eqb (λ b. (b && every (λ u. eqb (label t u) x) vs) ≡ eqb (pieces (elim (not b) as (λ c. List ℕ) [ true ↦ v ∷ outside x vs | false ↦ outside x vs ]) t) 0) (label t v) x
      (λ e. all-inside x vs)
      (λ o. sym (ne_eqb (pieces (v ∷ outside x vs) t) 0 (λ z. omega (arith, first-parted v (outside x vs)))))

  pub connected-pieces : (v : ℕ) (vs : List ℕ) → connected (v ∷ vs) t ≡ eqb (pieces (v ∷ vs) t) 1
  unfolding connected
  connected-pieces v vs = all-inside (label t v) vs ∙ same_test (pieces (outside (label t v) vs) t) (pieces (v ∷ vs) t) (first-parted v vs)
    where
      same_test : (k l : ℕ) → l ≡ 1 + k → eqb k 0 ≡ eqb l 1
      same_test k l e = by_eqb (λ b. b ≡ eqb l 1) k 0 (λ z. sym (eq-eqb l 1 (omega arith))) (λ n. sym (ne_eqb l 1 (λ z. n (omega arith))))

-- a network with a node is connected exactly if it has one piece
pub one_piece : (g : Network) → 0 < length g.nodes → connected g.nodes (map ends g.links) ≡ eqb (pieces_of g) 1
one_piece g some = go g.nodes some
  where
    go : (vs : List ℕ) → 0 < length vs → connected vs (map ends g.links) ≡ eqb (pieces vs (map ends g.links)) 1
    go [] h = absurd (not-suc-le-zero h)
    go (v ∷ vs) h = connected-pieces (map ends g.links) v vs

-- ---- the number counts the pieces

module _ (t : List Ends) where
  -- a node of the list that has the label x
  some-inside : (x : ℕ) (vs : List ℕ) → clear t x vs ≡ false → (u : ℕ) × Memᴰ u vs × (label t u ≡ x)
  unfolding every
  some-inside x [] h = absurd (true≢false h)
  some-inside x (v ∷ vs) h =
      by_eqb (λ b. (not b && clear t x vs) ≡ false → (u : ℕ) × Memᴰ u (v ∷ vs) × (label t u ≡ x)) (label t v) x
      (λ e _. (v, Memᴰ.head refl, e))
      (λ o k. let r = some-inside x vs k in (r.0, Memᴰ.tail r.1, r.2)) h

  not-clear : {x u : ℕ} (vs : List ℕ) → clear t x vs ≡ true → Memᴰ u vs → label t u ≡ x → ⊥
  not-clear vs h m = eqb-false _ _ (not-true _ (every-at _ h m))

  -- last_of_each has one node of each piece
  pub pieces-listed : (vs : List ℕ) → OneOfEach vs t (last_of_each vs t)
  unfolding last_of_each Apart
  pieces-listed [] = record { inside = λ r m. m; each = λ v m. absurd (Memᴰ.not-nil m); apart = tt }
  pieces-listed (v ∷ vs) = go (clear t (label t v) vs) refl (pieces-listed vs)
    where
      go : (b : Bool) → clear t (label t v) vs ≡ b → OneOfEach vs t (last_of_each vs t)
          → OneOfEach (v ∷ vs) t (elim b as (λ c. List ℕ) [ true ↦ v ∷ last_of_each vs t | false ↦ last_of_each vs t ])
      go true e o = record {
        inside = λ r m. ⊎_elim (λ q. Memᴰ.head q) (λ n. Memᴰ.tail (o.inside r n)) (Memᴰ.cases_cons m);
        each = λ u m. ⊎_elim (λ q. (v, Memᴰ.head refl, rw q here)) (λ n. let r = o.each u n in (r.0, Memᴰ.tail r.1, r.2)) (Memᴰ.cases_cons m);
        apart = (λ s m p. not-clear vs e (o.inside s m) (sym ((label-means t v s).1 p)), o.apart);
      }
      go false e o = record {
        inside = λ r m. Memᴰ.tail (o.inside r m);
        each = λ u m. ⊎_elim
            (λ q. let w = some-inside (label t v) vs e in let r = o.each w.0 w.1 in (r.0, r.1, rw q (join ((label-means t v w.0).0 (sym w.2)) r.2)))
            (o.each u) (Memᴰ.cases_cons m);
        apart = o.apart;
      }

  -- and every list that has one of each has as many
  pub pieces-count : (vs rs : List ℕ) → OneOfEach vs t rs → length rs ≡ pieces vs t
  unfolding last_of_each Apart
  pieces-count [] [] o = refl
  pieces-count (v ∷ vs) [] o = absurd (Memᴰ.not-nil (o.each v (Memᴰ.head refl)).1)
  pieces-count vs (r ∷ rs) o =
      let x = label t r in
      let others : OneOfEach (outside t x vs) t rs = record {
        inside = λ s m. mem-outside t x vs (o.inside s (Memᴰ.tail m)) (λ e. o.apart.0 s m ((label-means t r s).0 (sym e)));
        each = λ v m. let k = outside-mem t x vs m in let q = o.each v k.0 in
            ⊎_elim (λ e. absurd (k.1 ((label-means t v r).1 (rw (← e) q.2)))) (λ n. (q.0, n, q.2)) (Memᴰ.cases_cons q.1);
        apart = o.apart.1;
      } in
      omega (arith, pieces-count (outside t x vs) rs others, parted t x vs, ap {B = ℕ} (λ (b : Bool). cond b 0 1) (not-true-false (λ h. not-clear vs h (o.inside r (Memᴰ.head refl)) refl)))

-- ---- loops and values

-- a network of the same nodes and ends has as many pieces, whatever its links' values are
pub values-play-no-part : (g h : Network) → g.nodes ≡ h.nodes → map ends g.links ≡ map ends h.links → pieces_of g ≡ pieces_of h
values-play-no-part g h e f = ap₂ pieces e f

-- a loop merges nothing
loop-merges : (x z : ℕ) → merge x x z ≡ z
unfolding merge
loop-merges x z = by_eqb (λ b. cond b (min x x) z ≡ z) z (max x x) (λ e. omega arith) (λ n. refl)

loop-labels : (es : List Link) (i : ℕ) (z : Link) → is_loop (get_or es i z) ≡ true → label (map ends (delete_at i es)) ≡ label (map ends es)
unfolding delete_at label
loop-labels [] i z h = refl
loop-labels (e ∷ es) zero z h =
    let f = label (map ends es) in
    fun_ext (λ v. sym (ap (λ (b : ℕ). merge (f e.a) (f b) (f v)) (sym (eqb-true e.a e.b h)) ∙ loop-merges (f e.a) (f v)))
loop-labels (e ∷ es) (suc i) z h = ap {B = ℕ → ℕ} (λ (f : ℕ → ℕ). λ v. merge (f e.a) (f e.b) (f v)) (loop-labels es i z h)

pieces-by-labels : (vs : List ℕ) (t s : List Ends) → label t ≡ label s → last_of_each vs t ≡ last_of_each vs s
unfolding last_of_each
pieces-by-labels [] t s e = refl
pieces-by-labels (v ∷ vs) t s e =
    ap₂ (λ (f : ℕ → ℕ) (r : List ℕ). elim (every (λ u. not (eqb (f u) (f v))) vs) as (λ c. List ℕ) [ true ↦ v ∷ r | false ↦ r ]) e (pieces-by-labels vs t s e)

-- a network has as many pieces without a loop
pub loops-join-nothing : (g : Network) (i : ℕ) → is_loop (link_at g i) ≡ true → pieces_of (deleted i g) ≡ pieces_of g
loops-join-nothing g i h = ap length (pieces-by-labels g.nodes _ _ (loop-labels g.links i _ h))
