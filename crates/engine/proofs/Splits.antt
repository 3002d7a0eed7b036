-- What a split gives and sets aside, from what its branches gave.
use Prim.Native.Nat.{ℕ, zero, suc, ◌+◌, ◌-◌, ◌*◌, ◌≤◌, zero-le}
use mathlib.Core.Path.{◌≡◌, refl, sym, ap, ap₂, ◌∙◌, subst}
use mathlib.Core.List.{List, [], ◌∷◌}
use mathlib.Core.Bool.{Bool, true, false, cond, not, ◌&&◌, ◌||◌, true≢false, and-eq-true_iff}
use native.Mathlib.Nat.{sub-zero}
use native.Mathlib.Omega.{arith}
use lib.Dec.{eqb, leb}
use lib.ListN.{length, get_or}
use lib.Seq.{sets, length-sets}
use borrow.Author.Tests.{eqb-true, ne_eqb}
use Rattle.rounding.specs.Rounding.{S}
use Rattle.rounding.specs.declared.Direction.{Direction}
use Rattle.rounding.specs.declared.Direction.TheVariants.{Down, Up}
use Rattle.reliability.specs.declared.Link.{Link}
use Rattle.reliability.specs.declared.Figure.{Figure}
use Rattle.reliability.specs.Rule.{Tree, ready, multiplied, fork, taken, bounded, times, stepped, more, mixed, unfinished, run}
use Rattle.reliability.proofs.Runs.{Ranged, range, steps}
use Rattle.sittings.specs.declared.Carried.{Carried}
use Rattle.sittings.specs.Sittings.{Open, opens, aside, resumed, traced}
use Rattle.sittings.specs.Entries.{open_at, opens_in, entries, own_entry, own_count, Known, InRange}
use Rattle.sittings.proofs.Sittings.{resumed-none, resumed-multiplied, more-zero}
use Rattle.sittings.proofs.Opened.{known_pair, open_by, open_is, fork-open, taken-open}
use Rattle.sittings.proofs.Asides.{Fresh, taken-now, broken-none, own-count, own-written}
use Rattle.sittings.proofs.Bounds.{Deep, resumed-ranged, aside-few}
use Rattle.engine.specs.Carrying.{Carries, Worked}

-- ---- nothing is left to work, or a factor

resumed-ready : (k : Direction → ℕ) (os : List Open) → resumed (ready k) os ≡ ready k
unfolding resumed
resumed-ready k [] = refl
resumed-ready k (o ∷ os) = refl

traced-multiplied : (k : Direction → ℕ) (t : Tree) (os : List Open) → traced (multiplied k t) os ≡ traced t os
unfolding traced
traced-multiplied k t [] = refl
traced-multiplied k t (o ∷ os) = refl

-- figures that are ready
pub known-worked : (k : Direction → ℕ) (l : ℕ) (row : List ℕ) (p : ℕ) (r : Carried) → r.figure ≡ bounded k 0 true → r.aside ≡ 0 → Worked (ready k) l row p r row
unfolding run aside entries
known-worked k l row p r f n = record { figure = f; count = n; written = refl }

pub ready-worked : {t : Tree} {k : Direction → ℕ} → t ≡ ready k → (os : List Open) (l : ℕ) (row : List ℕ) (p : ℕ) (r : Carried) → r.figure ≡ bounded k 0 true → r.aside ≡ 0
    → Worked (resumed t os) l row p r row
ready-worked {t} {k} is os l row p r f n =
    subst (λ (u : Tree). Worked u l row p r row) (sym (ap (λ (u : Tree). resumed u os) is ∙ resumed-ready k os)) (known-worked k l row p r f n)

-- a factor
factor-worked : {t u : Tree} {k : Direction → ℕ} → t ≡ multiplied k u → (os : List Open) (l : ℕ) (row : List ℕ) (p : ℕ) (f r : Carried) (after : List ℕ)
    → Worked (resumed u os) l row p f after → r.figure ≡ times k f.figure → r.aside ≡ f.aside → Worked (resumed t os) l row p r after
unfolding run aside opens
factor-worked {t} {u} {k} is os l row p f r after w g n =
    subst (λ (v : Tree). Worked v l row p r after) (sym (ap (λ (v : Tree). resumed v os) is ∙ resumed-multiplied k u os))
    (record { figure = g ∙ ap (times k) w.figure; count = n ∙ w.count; written = w.written })

factor-carries : {t u : Tree} {k : Direction → ℕ} → t ≡ multiplied k u → (row : List ℕ) (p c : ℕ) → Carries t row p c → Carries u row p c
factor-carries {t} {u} {k} is row p c h = record {
  size = h.size;
  traces = sym (traced-multiplied k u (opens_in row p c)) ∙ ap (λ (v : Tree). traced v (opens_in row p c)) (sym is) ∙ h.traces;
  range = h.range;
}

-- with a factor, or with none
pub factored-worked : (c : Bool) {t : Tree} (u : Tree) (k : Direction → ℕ) → t ≡ cond c (multiplied k u) u → (os : List Open) (l : ℕ) (row : List ℕ) (p : ℕ) (f r : Carried) (after : List ℕ)
    → Worked (resumed u os) l row p f after → r.figure ≡ cond c (times k f.figure) f.figure → r.aside ≡ f.aside → Worked (resumed t os) l row p r after
factored-worked true u k is os l row p f r after w g n = factor-worked is os l row p f r after w g n
factored-worked false u k is os l row p f r after w g n =
    subst (λ (v : Tree). Worked (resumed v os) l row p r after) (sym is) (record { figure = g ∙ w.figure; count = n ∙ w.count; written = w.written })

pub factored-carries : (c : Bool) {t : Tree} (u : Tree) (k : Direction → ℕ) → t ≡ cond c (multiplied k u) u → (row : List ℕ) (p n : ℕ) → Carries t row p n → Carries u row p n
factored-carries true u k is row p n h = factor-carries is row p n h
factored-carries false u k is row p n h = subst (λ (v : Tree). Carries v row p n) is h

-- ---- a split

-- the work of the branches, with c open splits left in the row behind place k, by whether the figures of the sound branch are known
abbrev pub sound_of : Tree → List ℕ → ℕ → ℕ → Bool → Tree
sound_of s row k c true = ready (known_pair row k)
sound_of s row k c false = resumed s (opens_in row (suc k) c)

abbrev pub broken_of : Tree → List ℕ → ℕ → ℕ → Bool → Tree
broken_of b row k c true = resumed b (opens_in row (suc k) c)
broken_of b row k c false = b

-- whether there is an open split at place k with the figures of its sound branch
abbrev pub is_known : List ℕ → ℕ → ℕ → Bool
is_known row k c = not (eqb c 0) && leb (get_or row (3 * k + 1) 0) (get_or row (3 * k + 2) 0)

-- t is a split that is still to take, and once it is taken at place i the work is that of e, s and b; i is the chosen place,
-- or the place of the next open split where some are left
pub record Taking (t : Tree) (i : ℕ) (e : Link) (s b : Tree) (stored left : ℕ) : Type 0 where
  pub chosen : ℕ
  pub work : ℕ → Tree
  pub is : t ≡ fork chosen work
  pub at : work i ≡ taken i e s b
  pub place : i ≡ cond (eqb left 0) chosen stored

-- a split still to take
fresh-takes : (t : Tree) (i : ℕ) (e : Link) (s b : Tree) (stored l : ℕ) → Taking t i e s b stored 0
    → (run (resumed t []) (suc l) ≡ more 1 (run (taken i e (resumed s []) b) l)) × (aside (resumed t []) (suc l) ≡ aside (taken i e (resumed s []) b) l)
unfolding run
fresh-takes t i e s b stored l p =
    let u = taken i e s b in
    let one : 1 + (run u l).steps ≡ suc (run u l).steps = omega arith in
    let whole : resumed t [] ≡ fork p.chosen p.work = resumed-none t ∙ p.is in
    let there : p.work p.chosen ≡ u = ap p.work (sym p.place) ∙ p.at in
    let back = sym (ap (λ (x : Tree). taken i e x b) (resumed-none s)) in (
      ap (λ (x : Tree). run x (suc l)) whole ∙ ap (λ (x : Tree). stepped (run x l)) there
          ∙ (λ j. record { low = (run u l).low; high = (run u l).high; steps = sym one j; finished = (run u l).finished }) ∙ ap (λ (x : Tree). more 1 (run x l)) back,
      ap (λ (x : Tree). aside x (suc l)) whole ∙ taken-now p.chosen p.work l ∙ ap (λ (x : Tree). aside x l) (there ∙ back),
    )

known-open : (row : List ℕ) (k c : ℕ) → is_known row k (suc c) ≡ leb (get_or row (3 * k + 1) 0) (get_or row (3 * k + 2) 0)
known-open row k c = ap (λ (t : Bool). not t && leb (get_or row (3 * k + 1) 0) (get_or row (3 * k + 2) 0)) (ne_eqb (suc c) 0 (λ e. omega arith))

-- the next open split is on the first link or on the chosen one
pub open-place : {t : Tree} {c : ℕ} {w : ℕ → Tree} → t ≡ fork c w → (row : List ℕ) (k left : ℕ) → Carries t row k left → (left ≡ 0 → ⊥) → (eqb (get_or row (3 * k) 0) 0 || eqb (get_or row (3 * k) 0) c) ≡ true
unfolding opens_in
open-place is row k zero h some = absurd (some refl)
open-place {t} {c} {w} is row k (suc n) h some =
    let kn = leb (get_or row (3 * k + 1) 0) (get_or row (3 * k + 2) 0) in
    ((and-eq-true_iff (eqb (get_or row (3 * k) 0) 0 || eqb (get_or row (3 * k) 0) c) (traced (w (get_or row (3 * k) 0)) (open_by row k kn ∷ opens_in row (suc k) n))).0
    (sym (fork-open is row k (opens_in row (suc k) n) kn refl) ∙ h.traces)).0

-- an open split is put back, or followed by check 11, at its own place
module _ (t : Tree) (i : ℕ) (e : Link) (s b : Tree) (row : List ℕ) (k c : ℕ) (p : Taking t i e s b (get_or row (3 * k) 0) (suc c)) where
  stored-place : get_or row (3 * k) 0 ≡ i
  stored-place = sym (p.place ∙ ap (λ (x : Bool). cond x p.chosen (get_or row (3 * k) 0)) (ne_eqb (suc c) 0 (λ z. omega arith)))

  work-there : p.work (get_or row (3 * k) 0) ≡ taken i e s b
  work-there = ap p.work stored-place ∙ p.at

  opened-takes : (kn : Bool) → kn ≡ leb (get_or row (3 * k + 1) 0) (get_or row (3 * k + 2) 0)
      → resumed t (open_at row k ∷ opens_in row (suc k) c) ≡ taken i e (sound_of s row k c kn) (broken_of b row k c kn)
  unfolding resumed
  opened-takes kn h = ap₂ (λ (u : Tree) o. resumed u (o ∷ opens_in row (suc k) c)) p.is (open_is row k kn h) ∙ by kn
    where
      by : (kn : Bool) → resumed (fork p.chosen p.work) (open_by row k kn ∷ opens_in row (suc k) c) ≡ taken i e (sound_of s row k c kn) (broken_of b row k c kn)
      by true = ap (λ (u : Tree). resumed u (open_by row k true ∷ opens_in row (suc k) c)) work-there
      by false = ap (λ (u : Tree). resumed u (open_by row k false ∷ opens_in row (suc k) c)) work-there

  opened-traced : (kn : Bool) → kn ≡ leb (get_or row (3 * k + 1) 0) (get_or row (3 * k + 2) 0) → traced t (open_at row k ∷ opens_in row (suc k) c) ≡ true
      → traced (cond kn b s) (opens_in row (suc k) c) ≡ true
  opened-traced kn h f =
      let j = get_or row (3 * k) 0 in
      let os = opens_in row (suc k) c in
      let g = ((and-eq-true_iff (eqb j 0 || eqb j p.chosen) (traced (p.work j) (open_by row k kn ∷ os))).0 (sym (fork-open p.is row k os kn h) ∙ f)).1 in
      ((and-eq-true_iff (eqb j i) (traced (cond kn b s) os)).0 (sym (taken-open i e s b row k os kn) ∙ subst (λ (u : Tree). traced u (open_by row k kn ∷ os) ≡ true) work-there g)).1

module _ (t : Tree) (i : ℕ) (e : Link) (s b : Tree) (row : List ℕ) (k : ℕ) where
  -- the split, taken, under what it leaves of the limit itself
  abbrev Takes : ℕ → ℕ → Bool → ℕ → ℕ → Type 0
  Takes c inner kn own l =
      let v = resumed t (opens_in row k c) in
      let u = taken i e (sound_of s row k inner kn) (broken_of b row k inner kn) in
      (run v l ≡ more own (run u (l - own))) × (aside v l ≡ aside u (l - own))

  alike : (c l : ℕ) {inner inner' own own' : ℕ} {kn kn' : Bool} → inner ≡ inner' → kn ≡ kn' → own ≡ own' → Takes c inner' kn' own' l → Takes c inner kn own l
  alike c l {inner} {inner'} {own} {own'} {kn} {kn'} p q r h =
      subst (λ n. Takes c n kn own l) (sym p) (subst (λ t. Takes c inner' t own l) (sym q) (subst (λ n. Takes c inner' kn' n l) (sym r) h))

  pub takes : (c inner : ℕ) → Taking t i e s b (get_or row (3 * k) 0) c → inner ≡ c - 1 → (kn : Bool) → kn ≡ is_known row k c → (own : ℕ) → own ≡ 1 - c → (l : ℕ) → (eqb c 0 && eqb l 0) ≡ false → Takes c inner kn own l
  unfolding opens_in
  takes zero inner a p kn q own r zero h = absurd (true≢false h)
  takes zero inner a p kn q own r (suc l) h =
      let f = fresh-takes t i e s b (get_or row (3 * k) 0) l a in
      let less : suc l - 1 ≡ l = omega arith in
      alike zero (suc l) {inner' = 0} {own' = 1} {kn' = false} p q r (
        f.0 ∙ ap (λ n. more 1 (run (taken i e (resumed s []) b) n)) (sym less),
        f.1 ∙ ap (aside (taken i e (resumed s []) b)) (sym less),
      )
  takes (suc c) inner a p kn q own r l h =
      let is = opened-takes t i e s b row k c a kn (q ∙ known-open row k c) in
      let u = taken i e (sound_of s row k c kn) (broken_of b row k c kn) in
      alike (suc c) l {inner' = c} {own' = 0} {kn' = kn} (omega arith) refl (omega arith) (
        ap (λ (t : Tree). run t l) is ∙ ap (run u) (sym (sub-zero l)) ∙ sym (more-zero (run u (l - 0))),
        ap (λ (t : Tree). aside t l) is ∙ ap (aside u) (sym (sub-zero l)),
      )

  -- what the branches gave, the sound one from the row, the broken one from what that leaves
  module _ (c inner : ℕ) (taking : Taking t i e s b (get_or row (3 * k) 0) c) (behind : inner ≡ c - 1) (kn : Bool) (is : kn ≡ is_known row k c) (own : ℕ) (price : own ≡ 1 - c) (l : ℕ) (go : (eqb c 0 && eqb l 0) ≡ false) where
    abbrev S₁ : Tree
    S₁ = sound_of s row k inner kn

    abbrev B₁ : Tree
    B₁ = broken_of b row k inner kn

    nothing_left : Fresh b → (run S₁ (l - own)).finished ≡ false → aside B₁ (l - own - (run S₁ (l - own)).steps) ≡ []
    unfolding run
    nothing_left fresh = by kn
      where
        by : (t : Bool) → (run (sound_of s row k inner t) (l - own)).finished ≡ false → aside (broken_of b row k inner t) (l - own - (run (sound_of s row k inner t) (l - own)).steps) ≡ []
        by true h = absurd (true≢false h)
        by false h = broken-none i e (resumed s (opens_in row (suc k) inner)) b (l - own) fresh h

    pub split-worked : Fresh b → (sound broken r : Carried) (mid end after : List ℕ)
        → Worked S₁ (l - own) row (suc k) sound mid → Worked B₁ (l - own - sound.figure.steps) mid (suc k) broken end
        → r.figure ≡ more own (mixed e sound.figure broken.figure) → r.aside ≡ own_count sound.figure broken.figure sound.aside broken.aside
        → after ≡ sets end (3 * k) (own_entry i sound.figure broken.figure)
        → Worked (resumed t (opens_in row k c)) l row k r after
    unfolding run
    split-worked fresh sound broken r mid end after hs hb figure count written =
        let t = takes c inner taking behind kn is own price l go in
        let m = l - own in
        let f = run S₁ m in
        let hb' = subst (λ (x : Figure). Worked B₁ (m - x.steps) mid (suc k) broken end) hs.figure hb in
        record {
          figure = figure ∙ ap₂ (λ (x y : Figure). more own (mixed e x y)) hs.figure hb'.figure ∙ sym t.0;
          count = count ∙ rw (hs.figure, hb'.figure, hs.count, hb'.count) (own-count i e S₁ B₁ m) ∙ ap length (sym t.1);
          written = written ∙ rw (hs.figure, hb'.figure, hb'.written, hs.written) (own-written i e S₁ B₁ m (nothing_left fresh) row k) ∙ ap (λ os. sets row (3 * k) (entries os)) (sym t.1);
        }

-- ---- what the branches are asked, and what is known of their figures

module _ (t : Tree) (i : ℕ) (e : Link) (s b : Tree) (row : List ℕ) (k : ℕ) where
  abbrev Behind : ℕ → Tree → Type 0
  Behind n u = (traced u (opens_in row (suc k) n) ≡ true) × Known InRange (opens_in row (suc k) n)

  -- the open splits behind the first: of the sound branch while that runs, of the broken one where its figures are known
  abbrev Next : ℕ → Bool → Type 0
  Next n true = Behind n b × InRange (known_pair row k)
  Next n false = Behind n s

  next-open : (n : ℕ) → Taking t i e s b (get_or row (3 * k) 0) (suc n) → (kn : Bool) → kn ≡ leb (get_or row (3 * k + 1) 0) (get_or row (3 * k + 2) 0)
      → traced t (open_at row k ∷ opens_in row (suc k) n) ≡ true → Known InRange (open_at row k ∷ opens_in row (suc k) n) → Next n kn
  next-open n a true q f r =
      let r' = subst (λ x. Known InRange (x ∷ opens_in row (suc k) n)) (open_is row k true q) r in
      ((opened-traced t i e s b row k n a true q f, r'.1), r'.0)
  next-open n a false q f r = (opened-traced t i e s b row k n a false q f, subst (λ x. Known InRange (x ∷ opens_in row (suc k) n)) (open_is row k false q) r)

  behind-none : (t : Tree) → Behind 0 t
  unfolding opens_in traced
  behind-none t = (refl, tt)

  next : (c inner : ℕ) → Taking t i e s b (get_or row (3 * k) 0) c → inner ≡ c - 1 → (kn : Bool) → kn ≡ is_known row k c → Carries t row k c → Next inner kn
  unfolding opens_in
  next zero inner a p true q h = absurd (true≢false q)
  next zero inner a p false q h = subst (λ n. Behind n s) (sym p) (behind-none s)
  next (suc c) inner a p kn q h =
      let less : inner ≡ c = omega arith in
      subst (λ n. Next n kn) (sym less) (next-open c a kn (q ∙ known-open row k c) h.traces h.range)

  module _ (c inner : ℕ) (taking : Taking t i e s b (get_or row (3 * k) 0) c) (behind : inner ≡ c - 1) (kn : Bool) (is : kn ≡ is_known row k c) (h : Carries t row k c) where
    pub sound-carries : kn ≡ false → Carries s row (suc k) inner
    sound-carries not_known =
        let n = subst (Next inner) not_known (next c inner taking behind kn is h) in
        record { size = h.size; traces = n.0; range = n.1 }

    -- the broken branch, in a row that is the same where the figures of the sound branch are known
    pub broken-carries : (left : ℕ) → left ≡ cond kn inner 0 → (mid : List ℕ) → length mid ≡ 192 → (kn ≡ true → mid ≡ row) → Carries b mid (suc k) left
    unfolding opens_in traced
    broken-carries left is-left mid size same = go kn refl
      where
        go : (t : Bool) → kn ≡ t → Carries b mid (suc k) left
        go true e =
            let n = subst (Next inner) e (next c inner taking behind kn is h) in
            let l : left ≡ inner = is-left ∙ ap (λ (x : Bool). cond x inner 0) e in
            subst (λ (r : List ℕ). Carries b r (suc k) left) (sym (same e)) (subst (λ (x : ℕ). Carries b row (suc k) x) (sym l) (record { size = h.size; traces = n.0.0; range = n.0.1 }))
        go false e =
            let l : left ≡ 0 = is-left ∙ ap (λ (x : Bool). cond x inner 0) e in
            subst (λ (x : ℕ). Carries b mid (suc k) x) (sym l) (record { size = size; traces = refl; range = tt })

    -- it is worked from there
    pub broken-resumed : (left : ℕ) → left ≡ cond kn inner 0 → (mid : List ℕ) → (kn ≡ true → mid ≡ row) → resumed b (opens_in mid (suc k) left) ≡ broken_of b row k inner kn
    unfolding opens_in
    broken-resumed left is-left mid same = go kn refl
      where
        go : (t : Bool) → kn ≡ t → resumed b (opens_in mid (suc k) left) ≡ broken_of b row k inner t
        go true e = ap₂ (λ (r : List ℕ) (x : ℕ). resumed b (opens_in r (suc k) x)) (same e) (is-left ∙ ap (λ (x : Bool). cond x inner 0) e)
        go false e = ap (λ (x : ℕ). resumed b (opens_in mid (suc k) x)) (is-left ∙ ap (λ (x : Bool). cond x inner 0) e) ∙ resumed-none b

    pub sound-ranged : Ranged s → Ranged (sound_of s row k inner kn)
    sound-ranged r = go kn refl
      where
        go : (t : Bool) → kn ≡ t → Ranged (sound_of s row k inner t)
        go true e = (subst (Next inner) e (next c inner taking behind kn is h)).1
        go false e = resumed-ranged s (opens_in row (suc k) inner) r (subst (Next inner) e (next c inner taking behind kn is h)).1

    pub broken-ranged : Ranged b → Ranged (broken_of b row k inner kn)
    broken-ranged r = go kn refl
      where
        go : (t : Bool) → kn ≡ t → Ranged (broken_of b row k inner t)
        go true e = resumed-ranged b (opens_in row (suc k) inner) r (subst (Next inner) e (next c inner taking behind kn is h)).0.1
        go false e = r

    -- few open splits
    pub sound-few : (m : ℕ) → Deep m s → (l : ℕ) → length (aside (sound_of s row k inner kn) l) ≤ m
    unfolding aside run
    sound-few m d l = go kn
      where
        go : (t : Bool) → length (aside (sound_of s row k inner t) l) ≤ m
        go true = zero-le
        go false = aside-few m s d (opens_in row (suc k) inner) l

    pub broken-few : (m : ℕ) → Deep m b → (l : ℕ) → length (aside (broken_of b row k inner kn) l) ≤ m
    broken-few m d l = go kn
      where
        go : (t : Bool) → length (aside (broken_of b row k inner t) l) ≤ m
        go true = aside-few m b d (opens_in row (suc k) inner) l
        go false = subst (λ (u : Tree). length (aside u l) ≤ m) (resumed-none b) (aside-few m b d [] l)

-- a split takes no step that is not there
pub own-fits : (c l own : ℕ) → own ≡ 1 - c → (eqb c 0 && eqb l 0) ≡ false → own ≤ l
own-fits zero zero own p h = absurd (true≢false h)
own-fits zero (suc l) own p h = omega arith
own-fits (suc c) l own p h = omega arith

-- no step is left for a split
pub stopped-worked : {t : Tree} {i : ℕ} {w : ℕ → Tree} → t ≡ fork i w → (row : List ℕ) (k c l : ℕ) (r : Carried) → (eqb c 0 && eqb l 0) ≡ true → r.figure ≡ unfinished → r.aside ≡ 0
    → Worked (resumed t (opens_in row k c)) l row k r row
unfolding opens_in resumed run aside opens entries
stopped-worked {t} {i} {w} is row k c l r h f n =
    let z = (and-eq-true_iff (eqb c 0) (eqb l 0)).0 h in
    subst (λ (u : Tree). Worked (resumed u (opens_in row k c)) l row k r row) (sym is)
    (subst (λ (x : ℕ). Worked (resumed (fork i w) (opens_in row k x)) l row k r row) (sym (eqb-true c 0 z.0))
    (subst (λ (x : ℕ). Worked (resumed (fork i w) (opens_in row k 0)) x row k r row) (sym (eqb-true l 0 z.1)) at_zero))
  where
    at_zero : Worked (resumed (fork i w) (opens_in row k 0)) 0 row k r row
    at_zero = record { figure = f; count = n; written = refl }

-- what is known of a figure of ranged work
pub record Bounded (f : Figure) (l : ℕ) : Type 0 where
  pub low : f.low ≤ S
  pub high : f.high ≤ S
  pub steps : f.steps ≤ l

pub worked-bounded : {t : Tree} {l : ℕ} {row : List ℕ} {k : ℕ} {r : Carried} {after : List ℕ} → Ranged t → Worked t l row k r after → Bounded r.figure l
worked-bounded {t} {l} ranged w = subst (λ (f : Figure). Bounded f l) (sym w.figure) (record { low = range t ranged Down l; high = range t ranged Up l; steps = omega (arith, steps t l) })

-- the row keeps its size
pub worked-size : {t : Tree} {l : ℕ} {row : List ℕ} {k : ℕ} {r : Carried} {after : List ℕ} → length row ≡ 192 → Worked t l row k r after → length after ≡ 192
worked-size {t} {l} {row} {k} size w = ap length w.written ∙ length-sets row (3 * k) (entries (aside t l)) ∙ size
