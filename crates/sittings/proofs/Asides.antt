-- For the engine: what each branch of a split sets aside, and what the split writes.
use Prim.Native.Nat.{ℕ, zero, suc, ◌-◌, ◌*◌, ◌<◌}
use mathlib.Core.Path.{◌≡◌, refl, sym, ap, ap₂, ◌∙◌, subst}
use mathlib.Core.List.{List, [], ◌∷◌}
use mathlib.Core.Bool.{Bool, true, false, cond, ◌&&◌, and-eq-true_iff}
use native.Mathlib.Omega.{arith}
use lib.ListN.{length, set}
use lib.Seq.{sets, set_comm}
use Rattle.reliability.specs.declared.Link.{Link}
use Rattle.reliability.specs.declared.Figure.{Figure}
use Rattle.reliability.specs.Rule.{Remainder, settled, rest, scaled, branches, Tree, ready, multiplied, fork, taken, grown, is_split, tree_of, run}
use Rattle.reliability.specs.Terminals.{Terminals, Chosen, split_at, step_at, tree}
use Rattle.reliability.proofs.Lawful.{Leaves, View, Sized, Lawful, Choice}
use Rattle.reliability.proofs.Runs.{all-taken}
use Rattle.reliability.proofs.TerminalSteps.{view, split-choice}
use Rattle.reliability.proofs.TerminalSums.{lawful as law}
use Rattle.sittings.specs.Sittings.{Open, running, known, sides, opens, aside}
use Rattle.sittings.specs.Entries.{entries, own_entry, own_count}
use Rattle.sittings.proofs.Own.{own-done, own-known, own-running}

pub aside-done : (t : Tree) (l : ℕ) → (run t l).finished ≡ true → aside t l ≡ []
unfolding aside
aside-done t l e = ap (λ c. elim c as (λ x. List Open) [ true ↦ [] | false ↦ opens t l ]) e

pub aside-open : (t : Tree) (l : ℕ) → (run t l).finished ≡ false → aside t l ≡ opens t l
unfolding aside
aside-open t l e = ap (λ c. elim c as (λ x. List Open) [ true ↦ [] | false ↦ opens t l ]) e

-- ---- trees that begin with no taken split

abbrev pub Fresh : Tree → Type 0
Fresh (ready k) = Unit {0}
Fresh (multiplied k t) = Fresh t
Fresh (fork i w) = Unit {0}
Fresh (taken i e s b) = ⊥

pub opens-none : (t : Tree) → Fresh t → opens t 0 ≡ []
unfolding opens
opens-none (ready k) h = refl
opens-none (multiplied k t) h = opens-none t h
opens-none (fork i w) h = refl
opens-none (taken i e s b) h = absurd h

-- under no limit they set nothing aside
pub aside_none : (t : Tree) → Fresh t → aside t 0 ≡ []
unfolding aside
aside_none t h = go (run t 0).finished
  where
    go : (c : Bool) → ◌≡◌ {A = List Open} (elim c [ true ↦ [] | false ↦ opens t 0 ]) []
    go true = refl
    go false = opens-none t h

module _ {N : Type 0} (Valid : N → Type 0) (μ : View N) (step : ℕ → N → Remainder N) (lawful : Lawful Valid μ step) (choose : N → ℕ) (choice : Choice μ choose) where
  grown-fresh : (m : ℕ) → ((h : N) → Sized Valid μ m h → Fresh (tree_of step choose m h)) → (i : ℕ) (w : ℕ → Tree) (r : Remainder N) → Leaves (Sized Valid μ m) r
      → Fresh (cond (is_split r) (fork i w) (grown (tree_of step choose m) i r))
  unfolding grown
  grown-fresh m each i w (settled k) l = tt
  grown-fresh m each i w (rest h) l = each h l
  grown-fresh m each i w (scaled k h) l = each h l.0
  grown-fresh m each i w (branches e x y) l = tt

  fresh-of : (m : ℕ) (g : N) → Sized Valid μ m g → Fresh (tree_of step choose m g)
  unfolding tree_of grown
  fresh-of zero g h = subst (λ (r : Remainder N). Fresh (grown (λ h. ready (λ d. 0)) (choose g) r)) (sym (lawful.none_left g h (choose g)).2) tt
  fresh-of (suc m) g h = grown-fresh m (fresh-of m) (choose g) _ (step (choose g) g) (lawful.left m g h (choose g) (choice g))

pub terminals-fresh : (g : Terminals) → Chosen g → Fresh (tree g)
terminals-fresh g valid = fresh-of Chosen view step_at law split_at split-choice (length g.network.links) g (record { valid = valid; size = refl })

-- ---- a taken split

-- it sets aside nothing, its place and the figures of its sound branch before what the broken one sets aside,
-- or the running mark before what the sound one sets aside
module _ (i : ℕ) (p : Link) (s b : Tree) (l : ℕ) where
  abbrev n : ℕ
  n = (run s l).steps

  abbrev split : Tree
  split = taken i p s b

  pub split_done : (run s l).finished ≡ true → (run b (l - n)).finished ≡ true → aside split l ≡ []
  unfolding run
  split_done e f = aside-done split l ((and-eq-true_iff (run s l).finished (run b (l - n)).finished).1 (e, f))

  pub split-known : (run s l).finished ≡ true → (run b (l - n)).finished ≡ false → aside split l ≡ known i (sides (run s l)) ∷ aside b (l - n)
  unfolding run opens
  split-known e f =
      aside-open split l (ap₂ ◌&&◌ e f) ∙ ap (λ c. elim c as (λ x. List Open) [ true ↦ known i (sides (run s l)) ∷ opens b (l - n) | false ↦ running i ∷ opens s l ]) e
      ∙ ap (λ o. known i (sides (run s l)) ∷ o) (sym (aside-open b (l - n) f))

  pub split-running : (run s l).finished ≡ false → aside split l ≡ running i ∷ aside s l
  unfolding run opens
  split-running e =
      aside-open split l (ap (λ c. c && (run b (l - n)).finished) e) ∙ ap (λ c. elim c as (λ x. List Open) [ true ↦ known i (sides (run s l)) ∷ opens b (l - n) | false ↦ running i ∷ opens s l ]) e
      ∙ ap (λ o. running i ∷ o) (sym (aside-open s l e))

  -- and the broken branch has no step left
  pub none_left : (run s l).finished ≡ false → l - n ≡ 0
  none_left e = omega (arith, all-taken s l e)

  -- so that it sets nothing aside
  pub broken-none : Fresh b → (run s l).finished ≡ false → aside b (l - n) ≡ []
  broken-none h e = ap (aside b) (none_left e) ∙ aside_none b h

-- a split that is taken now sets aside what it does once it is taken
pub taken-now : (i : ℕ) (w : ℕ → Tree) (l : ℕ) → aside (fork i w) (suc l) ≡ aside (w i) l
unfolding aside run opens
taken-now i w l = refl

-- ---- what a split writes

pub entries-length : (os : List Open) → length (entries os) ≡ 3 * length os
unfolding entries
entries-length [] = refl
entries-length (running i ∷ os) = omega (arith, entries-length os)
entries-length (known i k ∷ os) = omega (arith, entries-length os)

-- a number written after those behind it
set-sets : (s l : List ℕ) (i j a : ℕ) → i < j → set (sets l j s) i a ≡ sets (set l i a) j s
set-sets [] l i j a h = refl
set-sets (b ∷ s) l i j a h = set-sets s (set l j b) i (suc j) a (omega arith) ∙ ap (λ r. sets r (suc j) s) (set_comm l j i b a (λ e. absurd (omega arith)))

-- an entry written after those behind it
before : (row xs : List ℕ) (k a b c : ℕ) → sets (sets row (3 * suc k) xs) (3 * k) (a ∷ b ∷ c ∷ []) ≡ sets row (3 * k) (a ∷ b ∷ c ∷ xs)
before row xs k a b c =
    let j = 3 * k in
    let next : 3 * suc k ≡ suc (suc (suc j)) = omega arith in
    let x = set row j a in
    let y = set x (suc j) b in
    ap (λ n. set (set (set (sets row n xs) j a) (suc j) b) (suc (suc j)) c) next
    ∙ ap (λ r. set (set r (suc j) b) (suc (suc j)) c) (set-sets xs row j (suc (suc (suc j))) a (omega arith))
    ∙ ap (λ r. set r (suc (suc j)) c) (set-sets xs x (suc j) (suc (suc (suc j))) b (omega arith))
    ∙ set-sets xs y (suc (suc j)) (suc (suc (suc j))) c (omega arith)

-- the split on link e at place i, with the sound branch's figure f, what it leaves of the limit, and the broken branch's figure h
module _ (i : ℕ) (e : Link) (s b : Tree) (l : ℕ) where
  abbrev f : Figure
  f = run s l

  abbrev m : ℕ
  m = l - (run s l).steps

  abbrev h : Figure
  h = run b m

  pub own-count : own_count f h (length (aside s l)) (length (aside b m)) ≡ length (aside (taken i e s b) l)
  own-count = go f.finished h.finished refl refl
    where
      go : (x y : Bool) → f.finished ≡ x → h.finished ≡ y → own_count f h (length (aside s l)) (length (aside b m)) ≡ length (aside (taken i e s b) l)
      go true true p q = (own-done i f h (length (aside s l)) (length (aside b m)) p q).0 ∙ ap length (sym (split_done i e s b l p q))
      go true false p q = (own-known i f h (length (aside s l)) (length (aside b m)) p q).0 ∙ ap length (sym (split-known i e s b l p q))
      go false y p q = (own-running i f h (length (aside s l)) (length (aside b m)) p).0 ∙ ap length (sym (split-running i e s b l p))

  -- a finished branch sets nothing aside, so of the branches at most one writes
  pub own-written : (f.finished ≡ false → aside b m ≡ []) → (row : List ℕ) (k : ℕ)
      → sets (sets (sets row (3 * suc k) (entries (aside s l))) (3 * suc k) (entries (aside b m))) (3 * k) (own_entry i f h) ≡ sets row (3 * k) (entries (aside (taken i e s b) l))
  unfolding entries
  own-written none row k = go f.finished h.finished refl refl
    where
      written : List Open → List Open → List ℕ → List ℕ
      written x y z = sets (sets (sets row (3 * suc k) (entries x)) (3 * suc k) (entries y)) (3 * k) z

      go : (x y : Bool) → f.finished ≡ x → h.finished ≡ y → written (aside s l) (aside b m) (own_entry i f h) ≡ sets row (3 * k) (entries (aside (taken i e s b) l))
      go true true p q =
          ap₂ (λ x y. written x y (own_entry i f h)) (aside-done s l p) (aside-done b m q) ∙ ap (written [] []) (own-done i f h 0 0 p q).1
          ∙ ap (λ o. sets row (3 * k) (entries o)) (sym (split_done i e s b l p q))
      go true false p q =
          ap₂ (λ x z. written x (aside b m) z) (aside-done s l p) (own-known i f h 0 0 p q).1 ∙ before row (entries (aside b m)) k i f.low f.high
          ∙ ap (λ o. sets row (3 * k) (entries o)) (sym (split-known i e s b l p q))
      go false y p q =
          ap₂ (λ y z. written (aside s l) y z) (none p) (own-running i f h 0 0 p).1 ∙ before row (entries (aside s l)) k i 1 0
          ∙ ap (λ o. sets row (3 * k) (entries o)) (sym (split-running i e s b l p))
