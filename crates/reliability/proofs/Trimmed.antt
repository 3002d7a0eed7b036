-- Pieces without any chosen node: whether their links go one by one or all at once, the work is the same; what is left is connected.
use Prim.Native.Nat.{ℕ, zero, suc, ◌≤◌, ◌<◌}
use mathlib.Core.Path.{◌≡◌, refl, sym, ap, subst, ◌∙◌}
use mathlib.Core.List.Memᴰ
use mathlib.Core.List.{List, [], ◌∷◌, map, Memᴰ}
use mathlib.Core.Bool.{Bool, true, false, not}
use mathlib.Core.Logic.{◌↔◌, ⊎_elim}
use mathlib.Core.Option.{Option, some, none}
use native.Mathlib.Nat.{not-suc-le-zero, le_of_suc-le-suc, le_refl}
use native.Mathlib.Omega.{arith}
use lib.ListN.{length}
use borrow.Author.Tests.{eqb-true, eqb-false, lt-leb}
use Rattle.reliability.specs.declared.Link.{Link}
use Rattle.reliability.specs.Networks.{Ends, ends, link_at, label, connected, Path}
use Rattle.reliability.specs.Rule.{first_at, delete_at, rest}
use Rattle.reliability.specs.Terminals.{Terminals, among, Chosen, astray, split_at, next, broken_left, leaves, tree}
use Rattle.reliability.specs.Simple.{Loopless, Pairless, anchors, Connected, Plain, trimmed}
use Rattle.reliability.proofs.Connection.{Const, join, turn, label-const, connected-means, connected-sound, connected-complete, connected-eq, one_more}
use Rattle.reliability.proofs.Searches.{Answers, Holds, Fails, first-at, nth}
use Rattle.reliability.proofs.States.{idle-connected}
use Rattle.reliability.proofs.TerminalSteps.{AtAstray, not-true, next-by}
use Rattle.reliability.proofs.Unrolled.{Below, tree-rest, below_rest}
use Rattle.reliability.proofs.Dropping.{dropping-none, dropping-delete}
use Rattle.reliability.proofs.Simple.{deleted-loopless, deleted-pairless}

const-links : (χ : ℕ → ℕ) (es : List Link) (i : ℕ) → i < length es
    → Const χ (map ends es) ↔ ((χ (nth es i).a ≡ χ (nth es i).b) × Const χ (map ends (delete_at i es)))
unfolding delete_at
const-links χ [] i h = absurd (not-suc-le-zero h)
const-links χ (e ∷ es) zero h = (λ c. c, λ c. c)
const-links χ (e ∷ es) (suc i) h =
    let k = const-links χ es i (le_of_suc-le-suc h) in
    (λ c. let r = k.0 c.1 in (r.0, (c.0, r.1)), λ c. (c.1.0, k.1 (c.0, c.1.1)))

-- a link astray goes: the chosen nodes are still connected, and the same links are astray
module _ (g : Terminals) (i : ℕ) (h : AtAstray g i) (c : ℕ) (inc : Memᴰ c g.chosen) where
  abbrev es : List Link
  es = g.network.links

  abbrev cs : List ℕ
  cs = g.chosen

  abbrev all : List Ends
  all = map ends es

  abbrev left : List Ends
  left = map ends (delete_at i es)

  abbrev e : Link
  e = link_at g.network i

  apart : (u : ℕ) → Memᴰ u cs → label all u ≡ label all e.a → ⊥
  apart u m q = eqb-false _ _ (sym (one_more e.a u cs all h.whole m) ∙ h.apart) (sym q)

  -- nodes in another piece
  elsewhere : (vs : List ℕ) → ((u : ℕ) → Memᴰ u vs → label all u ≡ label all e.a → ⊥) → connected vs all ≡ connected vs left
  elsewhere vs out =
      let own = (const-links (label all) es i h.place).0 (label-const all) in
      connected-eq vs vs all (ends e ∷ left) (λ conn χ s. conn χ ((const-links χ es i h.place).1 s)) (λ conn χ s. conn χ ((const-links χ es i h.place).0 s))
      ∙ idle-connected vs (label all) (ends e) own.0 out left own.1

  still-whole : connected cs left ≡ true
  still-whole = sym (elsewhere cs apart) ∙ h.whole

  -- fewer links connect less
  less : (vs : List ℕ) → connected vs left ≡ true → connected vs all ≡ true
  less vs t = connected-complete vs all (λ χ s. connected-sound vs left t χ ((const-links χ es i h.place).0 s).1)

  still-astray : (v : ℕ) → connected (v ∷ cs) left ≡ connected (v ∷ cs) all
  still-astray v = go (connected (v ∷ cs) all) (connected (v ∷ cs) left) refl refl
    where
      go : (b d : Bool) → connected (v ∷ cs) all ≡ b → connected (v ∷ cs) left ≡ d → d ≡ b
      go true d t s =
          let same = eqb-true _ _ (sym (one_more v c cs all h.whole inc) ∙ t) in
          sym s ∙ sym (elsewhere (v ∷ cs) (λ u m q. ⊎_elim (λ (p : u ≡ v). apart c inc (sym same ∙ ap (label all) (sym p) ∙ q)) (λ n. apart u n q) (Memᴰ.cases_cons m))) ∙ t
      go false true t s = sym (less (v ∷ cs) s) ∙ t
      go false false t s = refl

  same-trimmed : trimmed (broken_left i g) ≡ trimmed g
  same-trimmed =
      ap (λ l. among cs (record { nodes = g.network.nodes; links = l }))
      (dropping-delete (astray g) (astray (broken_left i g)) (λ f. ap not (still-astray f.a)) es i h.place (ap not h.apart))

some_of : (cs : List ℕ) → 1 < length cs → (c : ℕ) × Memᴰ c cs
some_of [] h = absurd (not-suc-le-zero h)
some_of (c ∷ cs) h = (c, Memᴰ.head refl)

-- no link is astray: they connect the chosen nodes and all ends
all-connected : (g : Terminals) (c : ℕ) → Memᴰ c g.chosen → connected g.chosen (map ends g.network.links) ≡ true → Fails (astray g) g.network.links → Connected g
all-connected g c inc whole none-stray = (connected-means (anchors g) t).1 (λ u w m n. join (to u m) (turn (to w n)))
  where
    t : List Ends
    t = map ends g.network.links

    not-false : (b : Bool) → not b ≡ false → b ≡ true
    not-false true h = refl
    not-false false h = sym h

    -- a path to c
    to : (u : ℕ) → Memᴰ u (anchors g) → Path t u c
    to u m = ⊎_elim
        (λ n. (connected-means g.chosen t).0 whole u c n inc)
        (λ n. let (e, k, q) = Memᴰ.of_map (λ (f : Link). f.a) g.network.links n in
        (connected-means (e.a ∷ g.chosen) t).0 (not-false _ (none-stray e k)) u c (Memᴰ.head (sym q)) (Memᴰ.tail inc))
        (Memᴰ.append_cases g.chosen m)

-- h is what g leaves: it is plain, it is worked alike, and it has no link and no pair that g has not
pub record Left (g h : Terminals) : Type 0 where
  pub plain : Plain h
  pub work : tree g ≡ tree h
  pub few : length h.network.links ≤ length g.network.links
  pub pairless : Pairless g.network → Pairless h.network

module _ (g : Terminals) (valid : Chosen g) (loopless : Loopless g.network) (two : 1 < length g.chosen) (whole : connected g.chosen (map ends g.network.links) ≡ true) where
  stray-leaves : (i : ℕ) → first_at (astray g) g.network.links ≡ some i → leaves g (next g) ≡ rest (broken_left i g)
  unfolding leaves
  stray-leaves i first = ap (leaves g) (next-by (split_at g) g none loopless false (lt-leb (length g.chosen) 1 two) true whole (some i) first _ refl _ refl _ refl)

  abbrev c : ℕ
  c = (some_of g.chosen two).0

  abbrev inc : Memᴰ c g.chosen
  inc = (some_of g.chosen two).1

  by-search : ((i : ℕ) → AtAstray g i → Below g (broken_left i g) → Left (broken_left i g) (trimmed (broken_left i g)))
      → (o : Option ℕ) → first_at (astray g) g.network.links ≡ o → Answers (Holds (astray g) g.network.links) (Fails (astray g) g.network.links) o → Left g (trimmed g)
  by-search further none first a =
      let same : g ≡ trimmed g = ap (λ (l : List Link). among g.chosen (record { nodes = g.network.nodes; links = l })) (dropping-none (astray g) g.network.links a) in
      subst (Left g) same (record { plain = record { valid = valid; loopless = loopless; connected = all-connected g c inc whole a }; work = refl; few = le_refl _; pairless = λ p. p })
  by-search further (some i) first a =
      let h : AtAstray g i = record { place = a.place; whole = whole; apart = not-true _ a.test } in
      let b = below_rest g valid (broken_left i g) (stray-leaves i first) in
      let l = further i h b in
      subst (Left g) (same-trimmed g i h c inc)
      (record { plain = l.plain; work = tree-rest g valid (broken_left i g) (stray-leaves i first) ∙ l.work; few = omega (arith, l.few, b.fewer); pairless = λ p. l.pairless (deleted-pairless g.network loopless p i) })

at_once : (m : ℕ) (g : Terminals) → length g.network.links ≤ m → Chosen g → Loopless g.network → 1 < length g.chosen → connected g.chosen (map ends g.network.links) ≡ true → Left g (trimmed g)
at_once zero g size valid loopless two whole =
    by-search g valid loopless two whole (λ i h b. absurd (omega (arith, h.place))) _ refl (first-at (astray g) g.network.links)
at_once (suc m) g size valid loopless two whole =
    by-search g valid loopless two whole
    (λ i h b. at_once m (broken_left i g) (omega (arith, b.fewer)) b.valid (deleted-loopless g.network loopless i) two (still-whole g i h (some_of g.chosen two).0 (some_of g.chosen two).1))
    _ refl (first-at (astray g) g.network.links)

-- steps 1 to 3 are past: the links astray go all at once, by no split
pub pieces-at-once : (g : Terminals) → Chosen g → Loopless g.network → 1 < length g.chosen → connected g.chosen (map ends g.network.links) ≡ true → Left g (trimmed g)
pieces-at-once g = at_once (length g.network.links) g (le_refl _)
