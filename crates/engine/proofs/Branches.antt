-- A step worked on a network by value: what the work of the rest is asked, and what it gives.
use Prim.Native.Nat.{ℕ, suc, ◌+◌, ◌-◌, ◌*◌, ◌^◌, ◌≤◌, ◌<◌}
use mathlib.Core.Path.{◌≡◌, refl, sym, ap, ◌∙◌, subst}
use mathlib.Core.List.{List}
use mathlib.Core.Bool.{Bool, true, false, cond, ◌&&◌, true≢false}
use native.Mathlib.Numerals.{add-one}
use native.Mathlib.Omega.{arith}
use lib.Dec.{eqb}
use lib.ListN.{length, get_or}
use lib.Seq.{sets}
use Rattle.rounding.specs.declared.Direction.{Direction}
use Rattle.reliability.specs.declared.Link.{Link}
use Rattle.reliability.specs.declared.Step.TheVariants.{Split}
use Rattle.reliability.specs.Rule.{Tree, multiplied, fork, bounded, more, mixed}
use Rattle.reliability.specs.Terminals.{Terminals, sound_left, broken_left, tree}
use Rattle.reliability.proofs.Lists.{by_eqb}
use Rattle.reliability.proofs.Unrolled.{Below}
use Rattle.network.specs.declared.Network.{Network}
use Rattle.network.specs.Places.{terminals_of, index_of, link_of, Used, Fitting}
use Rattle.network.specs.Workable.{Workable}
use Rattle.sittings.specs.declared.Carried.{Carried}
use Rattle.sittings.specs.Sittings.{resumed}
use Rattle.sittings.specs.Entries.{opens_in, own_entry, own_count}
use Rattle.sittings.proofs.Opened.{known_pair}
use Rattle.sittings.proofs.Asides.{terminals-fresh}
use Rattle.sittings.proofs.Bounds.{Deep, deeper, resumed-ranged, terminals-ranged, terminals-deep}
use Rattle.steps.specs.Simple.{split_on}
use Rattle.steps.proofs.Arms.{works, sound-below, broken-below, split-tree, split-work}
use Rattle.steps.proofs.Places.{split-fresh, split-placed, split-used}
use Rattle.engine.specs.Carrying.{Carries, Worked, Resumable, Resumes}
use Rattle.engine.proofs.Splits.{known-worked, factored-carries, Taking, open-place, is_known, sound_of, broken_of, split-worked, sound-carries, broken-carries, broken-resumed, sound-ranged, broken-ranged, sound-few, broken-few, own-fits, Bounded, worked-bounded, worked-size}

-- ---- one rest, with a factor or without

module _ {g h : Terminals} (below : Below g h) (c : Bool) (v : Direction → ℕ) (is : tree g ≡ cond c (multiplied v (tree h)) (tree h)) {row : List ℕ} {k left : ℕ} (asked : Resumable g row k left) where
  pub rest-asked : Resumable h row k left
  rest-asked = (omega (arith, below.fewer, asked.0), factored-carries c _ v is row k left asked.1)

  pub rest-bounded : {limit : ℕ} {f : Carried} {after : List ℕ} → Resumes h limit row k left f after → Bounded f.figure limit
  rest-bounded w = worked-bounded (resumed-ranged (tree h) (opens_in row k left) (terminals-ranged h below.valid) rest-asked.1.range) w

-- ---- a split

-- it is taken on link i of the network n, the one that fits or that of the next open split, under a limit that leaves a step for it
pub record Under (n : Network) (row : List ℕ) (k left limit i inner own : ℕ) (known : Bool) : Type 0 where
  pub work : Workable n
  pub chosen : ℕ
  pub fits : Fitting n (Split chosen)
  pub asked : Resumable (terminals_of n) row k left
  pub on : i ≡ split_on n.alive chosen row k left
  pub behind : inner ≡ left - 1
  pub price : own ≡ 1 - left
  pub is : known ≡ is_known row k left
  pub going : (eqb left 0 && eqb limit 0) ≡ false

-- before the open splits are looked at
module _ (n : Network) (work : Workable n) (c : ℕ) (fits : Fitting n (Split c)) where
  pub row-room : {row : List ℕ} {k left : ℕ} → Resumable (terminals_of n) row k left → k < 64
  row-room asked = let b = broken-below n work c fits c fits.placed in omega (arith, b.fewer, asked.0)

  pub used-on : {i : ℕ} (row : List ℕ) (k left : ℕ) → i ≡ split_on n.alive c row k left → Used n i
  used-on row k left on = subst (Used n) (sym on) (split-used n c fits.placed row k left)

module _ {n : Network} {row : List ℕ} {k left limit i inner own : ℕ} {known : Bool} (s : Under n row k left limit i inner own known) where
  abbrev g : Terminals
  g = terminals_of n

  abbrev sound : Terminals
  sound = sound_left (index_of n i) g

  abbrev broken : Terminals
  broken = broken_left (index_of n i) g

  pub used : Used n i
  used = used-on n s.work s.chosen s.fits row k left s.on

  pub below-sound : Below g sound
  below-sound = sound-below n s.work s.chosen s.fits i used

  pub below-broken : Below g broken
  below-broken = broken-below n s.work s.chosen s.fits i used

  split-is : tree g ≡ fork (index_of n s.chosen) (works n s.work)
  split-is = split-tree n s.work s.chosen s.fits

  -- it stands at the place of the next open split, else at the chosen place
  stands : index_of n i ≡ cond (eqb left 0) (index_of n s.chosen) (get_or row (3 * k) 0)
  stands =
      let on = ap (index_of n) s.on in
      by_eqb (λ b. index_of n i ≡ cond b (index_of n s.chosen) (get_or row (3 * k) 0)) left 0
      (λ none. on ∙ ap (index_of n) (split-fresh n.alive s.chosen row k left none))
      (λ some. on ∙ split-placed n.alive s.chosen row k left (omega arith) (open-place split-is row k left s.asked.1 some))

  abbrev Here : Type 0
  Here = Taking (tree g) (index_of n i) (link_of n i) (tree sound) (tree broken) (get_or row (3 * k) 0) left

  taking : Here
  taking = record { chosen = index_of n s.chosen; work = works n s.work; is = split-is; at = split-work n s.work s.chosen s.fits i used; place = stands }

  -- the work of its branches
  abbrev S₁ : Tree
  S₁ = sound_of (tree sound) row k inner known

  abbrev B₁ : Tree
  B₁ = broken_of (tree broken) row k inner known

  branch-deep : (h : Terminals) → Below g h → Deep 64 (tree h)
  branch-deep h b = deeper _ 64 (tree h) (omega (arith, b.fewer, s.asked.0)) (terminals-deep h b.valid)

  -- ---- the sound branch

  pub sound-asked : known ≡ false → Resumable sound row (k + 1) inner
  sound-asked unknown = (
    omega (arith, below-sound.fewer, s.asked.0),
    subst (λ (x : ℕ). Carries (tree sound) row x inner) (sym (add-one k)) (sound-carries (tree g) (index_of n i) (link_of n i) (tree sound) (tree broken) row k left inner taking s.behind known s.is s.asked.1 unknown),
  )

  -- its figures stand in the row, or it is worked
  abbrev pub Sounded : Carried → List ℕ → Type 0
  Sounded f mid = Worked S₁ (limit - own) row (suc k) f mid × (known ≡ true → mid ≡ row)

  pub known-sounded : known ≡ true → (f : Carried) → f.figure ≡ bounded (known_pair row k) 0 true → f.aside ≡ 0 → Sounded f row
  known-sounded there f figure none =
      let w = known-worked (known_pair row k) (limit - own) row (suc k) f figure none in
      (subst (λ (b : Bool). Worked (sound_of (tree sound) row k inner b) (limit - own) row (suc k) f row) (sym there) w, λ _. refl)

  pub ran-sounded : known ≡ false → (f : Carried) (mid : List ℕ) → Resumes sound (limit - own) row (k + 1) inner f mid → Sounded f mid
  ran-sounded unknown f mid w =
      let u = subst (λ (x : ℕ). Worked (resumed (tree sound) (opens_in row x inner)) (limit - own) row x f mid) (add-one k) w in
      (subst (λ (b : Bool). Worked (sound_of (tree sound) row k inner b) (limit - own) row (suc k) f mid) (sym unknown) u, λ there. absurd (true≢false (sym there ∙ unknown)))

  module _ {f : Carried} {mid : List ℕ} (given : Sounded f mid) where
    pub sound-bounded : Bounded f.figure (limit - own)
    sound-bounded =
        worked-bounded (sound-ranged (tree g) (index_of n i) (link_of n i) (tree sound) (tree broken) row k left inner taking s.behind known s.is s.asked.1 (terminals-ranged sound below-sound.valid)) given.0

    sound-count : f.aside ≤ 64
    sound-count =
        omega (arith, given.0.count, sound-few (tree g) (index_of n i) (link_of n i) (tree sound) (tree broken) row k left inner taking s.behind known s.is s.asked.1 64 (branch-deep sound below-sound) (limit - own))

    mid-size : length mid ≡ 192
    mid-size = worked-size s.asked.1.size given.0

    abbrev remains : ℕ
    remains = limit - own - f.figure.steps

    -- ---- the broken branch, in the row that the sound one leaves
    module _ {l : ℕ} (own-opens : l ≡ cond known inner 0) where
      pub broken-asked : Resumable broken mid (k + 1) l
      broken-asked = (
        omega (arith, below-broken.fewer, s.asked.0),
        subst (λ (x : ℕ). Carries (tree broken) mid x l) (sym (add-one k)) (broken-carries (tree g) (index_of n i) (link_of n i) (tree sound) (tree broken) row k left inner taking s.behind known s.is s.asked.1 l own-opens mid mid-size given.1),
      )

      module _ {b : Carried} {end : List ℕ} (worked : Resumes broken remains mid (k + 1) l b end) where
        broken-worked : Worked B₁ remains mid (suc k) b end
        broken-worked =
            subst (λ (u : Tree). Worked u remains mid (suc k) b end) (broken-resumed (tree g) (index_of n i) (link_of n i) (tree sound) (tree broken) row k left inner taking s.behind known s.is s.asked.1 l own-opens mid given.1)
            (subst (λ (x : ℕ). Worked (resumed (tree broken) (opens_in mid x l)) remains mid x b end) (add-one k) worked)

        pub broken-bounded : Bounded b.figure remains
        broken-bounded =
            worked-bounded (broken-ranged (tree g) (index_of n i) (link_of n i) (tree sound) (tree broken) row k left inner taking s.behind known s.is s.asked.1 (terminals-ranged broken below-broken.valid)) broken-worked

        pub split-counts : limit < 2 ^ 32 → (own + (f.figure.steps + b.figure.steps) < 2 ^ 32) × (f.aside ≤ 64) × (b.aside ≤ 64)
        split-counts small =
            let few = broken-few (tree g) (index_of n i) (link_of n i) (tree sound) (tree broken) row k left inner taking s.behind known s.is s.asked.1 64 (branch-deep broken below-broken) remains in
            (omega (arith, sound-bounded.steps, broken-bounded.steps, own-fits left limit own s.price s.going, small), sound-count, omega (arith, broken-worked.count, few))

        -- ---- the split, from what its branches gave
        pub closed-worked : {e : Link} {place : ℕ} {r : Carried} {after : List ℕ} → e ≡ link_of n i → place ≡ index_of n i
            → r.figure ≡ more own (mixed e f.figure b.figure) → r.aside ≡ own_count f.figure b.figure f.aside b.aside → after ≡ sets end (3 * k) (own_entry place f.figure b.figure)
            → Resumes g limit row k left r after
        closed-worked {e} {place} {r} {after} link at figure count written =
            split-worked (tree g) (index_of n i) (link_of n i) (tree sound) (tree broken) row k left inner taking s.behind known s.is own s.price limit s.going
            (terminals-fresh broken below-broken.valid) f b r mid end after given.0 broken-worked
            (figure ∙ ap (λ (e : Link). more own (mixed e f.figure b.figure)) link) count
            (written ∙ ap (λ (p : ℕ). sets end (3 * k) (own_entry p f.figure b.figure)) at)
