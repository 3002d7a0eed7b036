-- Several sittings are one: what a run leaves of its tree, worked on, is the rest of a longer run.
use Prim.Native.Nat.{ℕ, zero, suc, ◌+◌, ◌-◌}
use mathlib.Core.Path.{◌≡◌, refl, sym, ap, ap₂, ◌∙◌}
use mathlib.Core.List.{List, [], ◌∷◌}
use mathlib.Core.Bool.{Bool, true, false, ◌&&◌}
use native.Mathlib.Nat.{suc-add, zero-add, sub-zero}
use native.Mathlib.Omega.{arith}
use Rattle.rounding.specs.Rounding.{split}
use Rattle.rounding.specs.declared.Direction.{Direction}
use Rattle.rounding.specs.declared.Direction.TheVariants.{Down, Up}
use Rattle.reliability.specs.declared.Figure.{Figure}
use Rattle.reliability.specs.declared.Link.{Link}
use Rattle.reliability.specs.Rule.{side, bounded, times, mixed, more, stepped, in_turn, Tree, ready, multiplied, fork, taken, run}
use Rattle.reliability.proofs.Runs.{side-bounded, steps, all-taken, spare, stays}
use Rattle.sittings.specs.Sittings.{Open, running, known, place_of, sides, opened, opens, resumed}

-- a split that is taken, after a run of its branches: the sound branch is ready where it is finished, else the broken one is as it was
abbrev pub branched : ℕ → Link → Figure → Tree → Tree → Tree → Tree
branched i p f sound broken broken' = elim f.finished [ true ↦ taken i p (ready (sides f)) broken' | false ↦ taken i p sound broken ]

-- what a run leaves of a tree
unfoldable pub remaining : Tree → ℕ → Tree
remaining (ready k) l = ready k
remaining (multiplied k t) l = multiplied k (remaining t l)
remaining (taken i p s b) l = branched i p (run s l) (remaining s l) b (remaining b (l - (run s l).steps))
remaining (fork i w) zero = fork i w
remaining (fork i w) (suc l) = remaining (w i) l

pub more-zero : (f : Figure) → more 0 f ≡ f
more-zero f = λ i. record { low = f.low; high = f.high; steps = zero-add f.steps i; finished = f.finished }

more-suc : (n : ℕ) (f : Figure) → more (suc n) f ≡ stepped (more n f)
more-suc n f = λ i. record { low = f.low; high = f.high; steps = suc-add n f.steps i; finished = f.finished }

pub sides-bounded : (b : Direction → ℕ) → sides (bounded b 0 true) ≡ b
sides-bounded b = λ i d. side-bounded d b 0 true i

sides-more : (n : ℕ) (f : Figure) → sides f ≡ sides (more n f)
sides-more n f = λ i d. same d i
  where
    same : (d : Direction) → side d f ≡ side d (more n f)
    same Down = refl
    same Up = refl

opened-more : (i n : ℕ) (f : Figure) (sound broken : List Open) → opened i f sound broken ≡ opened i (more n f) sound broken
opened-more i n f sound broken = ap (λ q. elim f.finished [ true ↦ known i q ∷ broken | false ↦ running i ∷ sound ]) (sides-more n f)

-- the sittings of l and k steps are one of both
abbrev Adds : Tree → ℕ → ℕ → Type 0
Adds t l k = more (run t l).steps (run (remaining t l) k) ≡ run t (l + k)

mixed-ready : (p : Link) (f x : Figure) (n : ℕ) → f.finished ≡ true → more (f.steps + n) (mixed p (bounded (sides f) 0 true) x) ≡ mixed p f (more n x)
mixed-ready p f x n e =
    let q : f.steps + n + (0 + x.steps) ≡ f.steps + (n + x.steps) = omega arith in
    λ i. record { low = split Down p.low f.low x.low; high = split Up p.high f.high x.high; steps = q i; finished = ap (λ c. c && x.finished) (sym e) i }

mixed-runs : (p : Link) (f x : Figure) (n m : ℕ) → m ≡ 0 → more (n + m) (mixed p f x) ≡ mixed p (more n f) x
mixed-runs p f x n m e =
    let q : n + m + (f.steps + x.steps) ≡ n + f.steps + x.steps = omega arith in
    λ i. record { low = split Down p.low f.low x.low; high = split Up p.high f.high x.high; steps = q i; finished = f.finished && x.finished }

module _ (i : ℕ) (p : Link) (s b : Tree) (l k : ℕ) where
  abbrev n : ℕ
  n = (run s l).steps

  branched-adds : Adds s l k → Adds b (l - n) k
      → more (n + (run b (l - n)).steps) (run (branched i p (run s l) (remaining s l) b (remaining b (l - n))) k) ≡ in_turn p (run s) (run b) (l + k)
  unfolding run
  branched-adds sound broken = go (run s l).finished refl
    where
      go : (c : Bool) → (run s l).finished ≡ c
          → more (n + (run b (l - n)).steps) (run (elim c [ true ↦ taken i p (ready (sides (run s l))) (remaining b (l - n)) | false ↦ taken i p (remaining s l) b ]) k) ≡ in_turn p (run s) (run b) (l + k)
      go true e =
          ap (λ j. more (n + (run b (l - n)).steps) (mixed p (bounded (sides (run s l)) 0 true) (run (remaining b (l - n)) j))) (sub-zero k)
          ∙ mixed-ready p (run s l) (run (remaining b (l - n)) k) (run b (l - n)).steps e
          ∙ ap (mixed p (run s l)) broken
          ∙ sym (ap (λ j. mixed p (run s l) (run b j)) (spare s l k))
          ∙ sym (ap (λ (f : Figure). mixed p f (run b (l + k - f.steps))) (stays s l k e))
      go false e =
          let all = all-taken s l e in
          let f = run (remaining s l) k in
          let left : l + k - (n + f.steps) ≡ k - f.steps = omega arith in
          mixed-runs p f (run b (k - f.steps)) n (run b (l - n)).steps (omega (arith, steps b (l - n)))
          ∙ sym (ap (λ j. mixed p (more n f) (run b j)) left)
          ∙ ap (λ (f : Figure). mixed p f (run b (l + k - f.steps))) sound

  -- the open splits likewise
  branched-opens : Adds s l k → opens (remaining s l) k ≡ opens s (l + k) → opens (remaining b (l - n)) k ≡ opens b (l - n + k)
      → opens (branched i p (run s l) (remaining s l) b (remaining b (l - n))) k ≡ opened i (run s (l + k)) (opens s (l + k)) (opens b (l + k - (run s (l + k)).steps))
  unfolding run opens
  branched-opens adds sound broken = go (run s l).finished refl
    where
      go : (c : Bool) → (run s l).finished ≡ c
          → opens (elim c [ true ↦ taken i p (ready (sides (run s l))) (remaining b (l - n)) | false ↦ taken i p (remaining s l) b ]) k ≡ opened i (run s (l + k)) (opens s (l + k)) (opens b (l + k - (run s (l + k)).steps))
      go true e =
          ap₂ (λ q r. known i q ∷ r) (sides-bounded (sides (run s l))) (ap (opens (remaining b (l - n))) (sub-zero k) ∙ broken ∙ ap (opens b) (sym (spare s l k)))
          ∙ sym (ap (λ c. elim c [ true ↦ known i (sides (run s l)) ∷ opens b (l + k - n) | false ↦ running i ∷ opens s (l + k) ]) e)
          ∙ sym (ap (λ (f : Figure). opened i f (opens s (l + k)) (opens b (l + k - f.steps))) (stays s l k e))
      go false e =
          let all = all-taken s l e in
          let f = run (remaining s l) k in
          let left : l + k - (n + f.steps) ≡ k - f.steps = omega arith in
          ap₂ (λ o j. opened i f o (opens b j)) sound (sym left)
          ∙ opened-more i n f (opens s (l + k)) (opens b (l + k - (n + f.steps)))
          ∙ ap (λ (f : Figure). opened i f (opens s (l + k)) (opens b (l + k - f.steps))) adds

pub adds : (t : Tree) (l k : ℕ) → Adds t l k
unfolding run remaining
adds (ready c) l k = λ i. record { low = c Down; high = c Up; steps = zero-add 0 i; finished = true }
adds (multiplied c t) l k = ap (times c) (adds t l k)
adds (taken i p s b) l k = branched-adds i p s b l k (adds s l k) (adds b (l - (run s l).steps) k)
adds (fork i w) zero k = more-zero (run (fork i w) k) ∙ ap (run (fork i w)) (sym (zero-add k))
adds (fork i w) (suc l) k = more-suc (run (w i) l).steps (run (remaining (w i) l) k) ∙ ap stepped (adds (w i) l k) ∙ ap (run (fork i w)) (sym (suc-add l k))

pub opens-add : (t : Tree) (l k : ℕ) → opens (remaining t l) k ≡ opens t (l + k)
unfolding opens remaining
opens-add (ready c) l k = refl
opens-add (multiplied c t) l k = opens-add t l k
opens-add (taken i p s b) l k = branched-opens i p s b l k (adds s l k) (opens-add s l k) (opens-add b (l - (run s l).steps) k)
opens-add (fork i w) zero k = ap (opens (fork i w)) (sym (zero-add k))
opens-add (fork i w) (suc l) k = rw suc-add (opens-add (w i) l k)

-- ---- work put back

pub resumed-none : (t : Tree) → resumed t [] ≡ t
unfolding resumed
resumed-none (ready k) = refl
resumed-none (multiplied k t) = refl
resumed-none (fork i w) = refl
resumed-none (taken i e s b) = refl

pub resumed-multiplied : (k : Direction → ℕ) (t : Tree) (os : List Open) → resumed (multiplied k t) os ≡ multiplied k (resumed t os)
unfolding resumed
resumed-multiplied k t [] = ap (multiplied k) (sym (resumed-none t))
resumed-multiplied k t (o ∷ os) = refl

-- t is a taken split, and the work at its place
abbrev pub Back : (ℕ → Tree) → Tree → Type 0
Back w (ready k) = ⊥
Back w (multiplied k t) = ⊥
Back w (fork i v) = ⊥
Back w (taken i e s b) = w i ≡ taken i e s b

-- wherever a split is taken, the work at its place is that split
abbrev pub Formed : Tree → Type 0
Formed (ready k) = Unit {0}
Formed (multiplied k t) = Formed t
Formed (fork i w) = (j : ℕ) → Back w (w j) × Formed (w j)
Formed (taken i e s b) = Formed s × Formed b

-- the open splits of a run of a taken split, put back onto a split that was still to take
fork-back : (i : ℕ) (w : ℕ → Tree) (j : ℕ) (e : Link) (s b : Tree) → Back w (taken j e s b) → (u v : Tree) (l : ℕ)
    → resumed (fork i w) (opens (taken j e u v) l) ≡ resumed (taken j e s b) (opens (taken j e u v) l)
unfolding resumed opens
fork-back i w j e s b back u v l = go (run u l).finished
  where
    go : (c : Bool) → let os : List Open = elim c [ true ↦ known j (sides (run u l)) ∷ opens v (l - (run u l).steps) | false ↦ running j ∷ opens u l ] in resumed (fork i w) os ≡ resumed (taken j e s b) os
    go true = ap (λ t. resumed t (known j (sides (run u l)) ∷ opens v (l - (run u l).steps))) back
    go false = ap (λ t. resumed t (running j ∷ opens u l)) back

module _ (i : ℕ) (e : Link) (s b : Tree) where
  -- the open splits of a run of the branches put back, where the sound one is u
  opened-back : (u : Tree) (l : ℕ) → let n = (run u l).steps in
      resumed s (opens u l) ≡ remaining u l → resumed b (opens b (l - n)) ≡ remaining b (l - n)
      → resumed (taken i e s b) (opened i (run u l) (opens u l) (opens b (l - n))) ≡ branched i e (run u l) (remaining u l) b (remaining b (l - n))
  unfolding resumed
  opened-back u l sound broken = go (run u l).finished
    where
      go : (c : Bool) → resumed (taken i e s b) (elim c [ true ↦ known i (sides (run u l)) ∷ opens b (l - (run u l).steps) | false ↦ running i ∷ opens u l ])
          ≡ elim c [ true ↦ taken i e (ready (sides (run u l))) (remaining b (l - (run u l).steps)) | false ↦ taken i e (remaining u l) b ]
      go true = ap (taken i e (ready (sides (run u l)))) broken
      go false = ap (λ t. taken i e t b) sound

pub opens-resumed : (t : Tree) → Formed t → (l : ℕ) → resumed t (opens t l) ≡ remaining t l
unfolding opens remaining
opens-resumed (ready k) f l = resumed-none (ready k)
opens-resumed (multiplied k t) f l = resumed-multiplied k t (opens t l) ∙ ap (multiplied k) (opens-resumed t f l)
opens-resumed (fork i w) f zero = resumed-none (fork i w)
opens-resumed (fork i w) f (suc l) = go (w i) (f i).0 (opens-resumed (w i) (f i).1 l)
  where
    go : (t : Tree) → Back w t → resumed t (opens t l) ≡ remaining t l → resumed (fork i w) (opens t l) ≡ remaining t l
    go (taken j e s b) back same = fork-back i w j e s b back s b l ∙ same
    go (ready k) back same = absurd back
    go (multiplied k t) back same = absurd back
    go (fork j v) back same = absurd back
opens-resumed (taken i e s b) f l = opened-back i e s b s l (opens-resumed s f.0 l) (opens-resumed b f.1 (l - (run s l).steps))

-- the open splits of a run put back: what the run leaves, whatever open splits it began with
pub resumed-opens : (t : Tree) → Formed t → (os : List Open) (l : ℕ) → resumed t (opens (resumed t os) l) ≡ remaining (resumed t os) l
unfolding resumed opens remaining run
resumed-opens t f [] l = opens-resumed t f l
resumed-opens (ready k) f (o ∷ os) l = refl
resumed-opens (multiplied k t) f (o ∷ os) l = resumed-multiplied k t (opens (resumed t (o ∷ os)) l) ∙ ap (multiplied k) (resumed-opens t f (o ∷ os) l)
resumed-opens (fork i w) f (o ∷ os) l = go (w (place_of o)) (f (place_of o)).0 o (resumed-opens (w (place_of o)) (f (place_of o)).1 (o ∷ os) l)
  where
    go : (t : Tree) → Back w t → (o : Open) → resumed t (opens (resumed t (o ∷ os)) l) ≡ remaining (resumed t (o ∷ os)) l → resumed (fork i w) (opens (resumed t (o ∷ os)) l) ≡ remaining (resumed t (o ∷ os)) l
    go (taken j e s b) back (running n) same = fork-back i w j e s b back (resumed s os) b l ∙ same
    go (taken j e s b) back (known n k) same = fork-back i w j e s b back (ready k) (resumed b os) l ∙ same
    go (ready k) back o same = absurd back
    go (multiplied k t) back o same = absurd back
    go (fork j v) back o same = absurd back
resumed-opens (taken i e s b) f (running j ∷ os) l =
    let u = resumed s os in
    opened-back i e s b u l (resumed-opens s f.0 os l) (opens-resumed b f.1 (l - (run u l).steps))
resumed-opens (taken i e s b) f (known j k ∷ os) l = ap (taken i e (ready (sides (bounded k 0 true)))) (resumed-opens b f.1 os (l - 0))

-- two sittings are one, whatever open splits the first one begins with
module _ (t : Tree) (formed : Formed t) (os : List Open) (l k : ℕ) where
  pub two-figure : more (run (resumed t os) l).steps (run (resumed t (opens (resumed t os) l)) k) ≡ run (resumed t os) (l + k)
  two-figure = ap (λ u. more (run (resumed t os) l).steps (run u k)) (resumed-opens t formed os l) ∙ adds (resumed t os) l k

  pub two-opens : opens (resumed t (opens (resumed t os) l)) k ≡ opens (resumed t os) (l + k)
  two-opens = ap (λ u. opens u k) (resumed-opens t formed os l) ∙ opens-add (resumed t os) l k
