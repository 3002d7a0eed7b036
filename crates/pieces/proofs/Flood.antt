-- The nodes of a node's piece, found by following each link in use at most once.
use Prim.Native.Nat.{ℕ, zero, suc, ◌<◌}
use mathlib.Core.Path.{◌≡◌, refl, sym, ap, ap₂, subst, ◌∙◌}
use mathlib.Core.Logic.{◌⊎◌, inl, inr, ⊎_map, ⊎_elim}
use mathlib.Core.List.{List, [], ◌∷◌, Memᴰ}
use mathlib.Core.Bool.{Bool, true, false, not, ◌&&◌, ◌||◌, true≢false, or-true, or-false, or_assoc, or_comm, and-true, and-eq-true_iff}
use native.Mathlib.Omega.{arith}
use lib.Dec.{eqb}
use borrow.Author.Tests.{eqb-true, eq-eqb}
use lib.ListN.{length, get_or}
use Rattle.bits.specs.Members.{members}
use Rattle.bits.proofs.Digits.{digit_of}
use Rattle.reliability.specs.Networks.{Ends, together, Path, here, forth, back}
use Rattle.reliability.proofs.Lists.{by_eqb, both_ways, or-true as either_true}
use Rattle.reliability.proofs.Connection.{join, turn, Const, along}
use Rattle.reliability.proofs.Pieces.{together-means}
use Rattle.search.specs.Searches.{ends_in, pick, ends_by_place, touching, Bounded}
use Rattle.pieces.specs.Pieces.{Closed, PieceOf}
use Rattle.search.proofs.Sets.{has, has-none}

-- ---- the links in use

-- the link at a place in use is one of the links
pub mem-ends : (us : List Bool) (as₁ bs : List ℕ) (p : ℕ) → get_or us p false ≡ true → p < length as₁ → p < length bs
    → Memᴰ {A = Ends} (record { a = get_or as₁ p 0; b = get_or bs p 0 }) (pick us (ends_by_place as₁ bs))
unfolding pick ends_by_place
mem-ends [] as₁ bs p e h k = absurd (true≢false (sym e))
mem-ends (u ∷ us) [] bs p e h k = absurd (omega arith)
mem-ends (u ∷ us) (a ∷ as₁) [] p e h k = absurd (omega arith)
mem-ends (true ∷ us) (a ∷ as₁) (b ∷ bs) zero e h k = Memᴰ.head refl
mem-ends (false ∷ us) (a ∷ as₁) (b ∷ bs) zero e h k = absurd (true≢false (sym e))
mem-ends (true ∷ us) (a ∷ as₁) (b ∷ bs) (suc p) e h k = Memᴰ.tail (mem-ends us as₁ bs p e (omega arith) (omega arith))
mem-ends (false ∷ us) (a ∷ as₁) (b ∷ bs) (suc p) e h k = mem-ends us as₁ bs p e (omega arith) (omega arith)

-- a colouring that gives both ends of each link in use one colour
const-ends : (χ : ℕ → ℕ) (us : List Bool) (as₁ bs : List ℕ) → ((p : ℕ) → get_or us p false ≡ true → χ (get_or as₁ p 0) ≡ χ (get_or bs p 0)) → Const χ (pick us (ends_by_place as₁ bs))
unfolding pick ends_by_place
const-ends χ [] as₁ bs h = tt
const-ends χ (u ∷ us) [] bs h = tt
const-ends χ (u ∷ us) (a ∷ as₁) [] h = tt
const-ends χ (true ∷ us) (a ∷ as₁) (b ∷ bs) h = (h 0 refl, const-ends χ us as₁ bs (λ p. h (suc p)))
const-ends χ (false ∷ us) (a ∷ as₁) (b ∷ bs) h = const-ends χ us as₁ bs (λ p. h (suc p))

-- ---- the flood

or-left-comm : (b c d : Bool) → (b || (c || d)) ≡ (c || (b || d))
or-left-comm true c d = sym (or-true c)
or-left-comm false c d = refl

neither : (b c : Bool) → (b || c) ≡ false → b ≡ c
neither true c h = absurd (true≢false h)
neither false c h = sym h

one : (b : Bool) → digit_of b ≡ 1 → b ≡ true
one true h = refl
one false h = absurd (omega arith)

-- a place in use is at a node seen, or at one of two nodes
regroup : (u s t a b c d : Bool) → ((u && (s || t)) || ((u && (a || b)) || (u && (c || d)))) ≡ (u && ((c || (a || s)) || (d || (b || t))))
regroup true s t a b c d = simp (or_assoc, or_comm, or-left-comm)
regroup false s t a b c d = refl

-- a path to one end of a link goes on to the other
both_ends : (t : List Ends) (e : Ends) {w : ℕ} → Memᴰ e t → Path t w e.a ⊎ Path t w e.b → Path t w e.a × Path t w e.b
both_ends t e m (inl p) = (p, join p (forth m here))
both_ends t e m (inr p) = (join p (back m here), p)

-- seen: some nodes that a path joins to v; near: the links that touch one; left: the links not yet followed
pub record Flood (v nodes alive : ℕ) (as₁ bs : List ℕ) (seen near left : ℕ) : Type 0 where
  pub start : has seen v ≡ true
  pub inside : (u : ℕ) → has seen u ≡ true → has nodes u ≡ true
  pub path : (u : ℕ) → has seen u ≡ true → Path (ends_in alive as₁ bs) v u
  pub touched : (p : ℕ) → has near p ≡ (has alive p && (has seen (get_or as₁ p 0) || has seen (get_or bs p 0)))
  pub followed : (p : ℕ) → has alive p ≡ true → has left p ≡ false → (has seen (get_or as₁ p 0) ≡ true) × (has seen (get_or bs p 0) ≡ true)

module _ {v nodes alive seen near : ℕ} {as₁ bs : List ℕ} where
  -- at first: v alone
  pub starts : has nodes v ≡ true
      → ((u : ℕ) → has seen u ≡ (eqb u v || has 0 u))
      → ((p : ℕ) → has near p ≡ (has alive p && touching v (get_or as₁ p 0) (get_or bs p 0)))
      → Flood v nodes alive as₁ bs seen near alive
  starts node s n = record {
    start = (alone v).1 refl;
    inside = λ u h. rw ((alone u).0 h) node;
    path = λ u h. rw ((alone u).0 h) here;
    touched = λ p. n p ∙ ap₂ (λ (b c : Bool). has alive p && (b || c)) (is (get_or as₁ p 0)) (is (get_or bs p 0));
    followed = λ p h k. absurd (true≢false (sym h ∙ k));
  }
    where
      is : (u : ℕ) → eqb u v ≡ has seen u
      is u = sym (s u ∙ ap (λ (b : Bool). eqb u v || b) (has-none u) ∙ or-false (eqb u v))

      alone : (u : ℕ) → (has seen u ≡ true → u ≡ v) × (u ≡ v → has seen u ≡ true)
      alone u = (λ h. eqb-true u v (is u ∙ h), λ e. sym (is u) ∙ eq-eqb u v e)

module _ {v nodes alive seen near left : ℕ} {as₁ bs : List ℕ} (flood : Flood v nodes alive as₁ bs seen near left) where
  abbrev links : List Ends
  links = ends_in alive as₁ bs

  -- a link near is in use, and one of its ends is seen
  near-link : (k : ℕ) → has near k ≡ true → (has alive k ≡ true) × ((has seen (get_or as₁ k 0) || has seen (get_or bs k 0)) ≡ true)
  near-link k h = (and-eq-true_iff (has alive k) (has seen (get_or as₁ k 0) || has seen (get_or bs k 0))).0 (sym (flood.touched k) ∙ h)

  -- its ends are below 32
  pub near-ends : Bounded alive as₁ bs → (k : ℕ) → has near k ≡ true → (get_or as₁ k 0 < 32) × (get_or bs k 0 < 32)
  near-ends bounded k h = bounded k (near-link k h).0

  -- link k is followed: both its ends are seen
  pub follow : (seen' near' left' k : ℕ) → has near k ≡ true → k < length as₁ → k < length bs → Closed nodes alive as₁ bs
      → ((u : ℕ) → has seen' u ≡ (eqb u (get_or bs k 0) || (eqb u (get_or as₁ k 0) || has seen u)))
      → ((p : ℕ) → has near' p ≡ (has near p || ((has alive p && touching (get_or as₁ k 0) (get_or as₁ p 0) (get_or bs p 0)) || (has alive p && touching (get_or bs k 0) (get_or as₁ p 0) (get_or bs p 0)))))
      → ((p : ℕ) → has left' p ≡ (not (eqb p k) && has left p))
      → Flood v nodes alive as₁ bs seen' near' left'
  follow seen' near' left' k h ka kb closed s n l = record {
    start = kept v flood.start;
    inside = reach (λ u. has nodes u ≡ true) stays flood.inside;
    path = reach (Path links v) joined flood.path;
    touched = λ p.
        let c = get_or as₁ p 0 in
        let d = get_or bs p 0 in
        n p ∙ ap (λ (b : Bool). b || ((has alive p && touching x c d) || (has alive p && touching y c d))) (flood.touched p)
        ∙ regroup (has alive p) (has seen c) (has seen d) (eqb c x) (eqb d x) (eqb c y) (eqb d y)
        ∙ ap₂ (λ (b e : Bool). has alive p && (b || e)) (sym (s c)) (sym (s d));
    followed = λ p used gone.
        by_eqb (λ b. (not b && has left p) ≡ false → (has seen' (get_or as₁ p 0) ≡ true) × (has seen' (get_or bs p 0) ≡ true)) p k
        (λ same _. rw same (at_x, at_y))
        (λ other e. let r = flood.followed p used e in (kept (get_or as₁ p 0) r.0, kept (get_or bs p 0) r.1))
        (sym (l p) ∙ gone);
  }
    where
      x : ℕ
      x = get_or as₁ k 0

      y : ℕ
      y = get_or bs k 0

      stays : (has nodes x ≡ true) × (has nodes y ≡ true)
      stays =
          ⊎_elim (λ e. let i = flood.inside x e in (i, sym (closed k (near-link k h).0) ∙ i)) (λ e. let i = flood.inside y e in (closed k (near-link k h).0 ∙ i, i))
          (either_true (has seen x) (has seen y) (near-link k h).1)

      joined : Path links v x × Path links v y
      joined =
          both_ends links (record { a = x; b = y }) (mem-ends (members alive) as₁ bs k (near-link k h).0 ka kb)
          (⊎_map (flood.path x) (flood.path y) (either_true (has seen x) (has seen y) (near-link k h).1))

      at_x : has seen' x ≡ true
      at_x = s x ∙ ap (λ (b : Bool). eqb x y || (b || has seen x)) (eq-eqb x x refl) ∙ or-true (eqb x y)

      at_y : has seen' y ≡ true
      at_y = s y ∙ ap (λ (b : Bool). b || (eqb y x || has seen y)) (eq-eqb y y refl)

      kept : (u : ℕ) → has seen u ≡ true → has seen' u ≡ true
      kept u h = s u ∙ ap (λ (b : Bool). eqb u y || (eqb u x || b)) h ∙ ap (λ (b : Bool). eqb u y || b) (or-true (eqb u x)) ∙ or-true (eqb u y)

      reach : (P : ℕ → Type 0) → P x × P y → ((u : ℕ) → has seen u ≡ true → P u) → (u : ℕ) → has seen' u ≡ true → P u
      reach P new old u h =
          ⊎_elim (λ e. subst P (sym (eqb-true u y e)) new.1)
          (λ r. ⊎_elim (λ e. subst P (sym (eqb-true u x e)) new.0) (old u) (either_true (eqb u x) (has seen u) r))
          (either_true (eqb u y) (eqb u x || has seen u) (sym (s u) ∙ h))

  -- every node that a path joins to v is seen: v's piece
  piece : ((u : ℕ) → has nodes u ≡ true → Path links v u → has seen u ≡ true) → PieceOf seen nodes links v
  piece all u =
      both_ways (has seen u) (has nodes u && together links u v)
      (λ h. (and-eq-true_iff (has nodes u) (together links u v)).1 (flood.inside u h, (together-means links u v).1 (turn (flood.path u h))))
      (λ h. let r = (and-eq-true_iff (has nodes u) (together links u v)).0 h in all u r.0 (turn ((together-means links u v).0 r.1)))

  -- all nodes are seen
  pub all_seen : seen ≡ nodes → PieceOf seen nodes links v
  all_seen e = piece (λ u node p. rw e node)

  -- no link near is left: no link leads from the nodes seen to others
  pub cut_off : ((p : ℕ) → (has near p && has left p) ≡ false) → PieceOf seen nodes links v
  cut_off none = piece (λ u node p. one (has seen u) (sym (along colour links (const-ends colour (members alive) as₁ bs closed) p) ∙ ap digit_of flood.start))
    where
      colour : ℕ → ℕ
      colour u = digit_of (has seen u)

      closed : (p : ℕ) → has alive p ≡ true → colour (get_or as₁ p 0) ≡ colour (get_or bs p 0)
      closed p used = ap digit_of (go (has left p) refl)
        where
          go : (b : Bool) → has left p ≡ b → has seen (get_or as₁ p 0) ≡ has seen (get_or bs p 0)
          go true e =
              neither (has seen (get_or as₁ p 0)) (has seen (get_or bs p 0))
              (ap (λ (b : Bool). b && (has seen (get_or as₁ p 0) || has seen (get_or bs p 0))) (sym used) ∙ sym (flood.touched p)
              ∙ sym (and-true (has near p)) ∙ ap (λ (b : Bool). has near p && b) (sym e) ∙ none p)
          go false e = let r = flood.followed p used e in r.0 ∙ sym r.1
