use Prim.Native.Nat.{ℕ, suc, ◌+◌, ◌-◌, ◌*◌, ◌≤◌, ◌<◌}
use mathlib.Core.Path.{◌≡◌, sym, ap, ◌∙◌, subst}
use mathlib.Core.List.{List}
use mathlib.Core.Bool.{Bool, true, false, cond}
use native.Mathlib.Omega.{arith}
use lib.ListN.{length}
use borrow.Author.Tests.{ne_eqb}
use Rattle.bits.specs.Members.{members}
use Rattle.reliability.specs.declared.Step.TheVariants.{End, Series, Split}
use Rattle.rounding.specs.declared.Direction.{Direction}
use Rattle.reliability.specs.Rule.{multiplied, fork, Tree}
use Rattle.reliability.specs.Terminals.{Terminals, has as listing, sound_left, broken_left, tree}
use Rattle.reliability.specs.Simple.{Plain}
use Rattle.network.specs.declared.Network.{Network}
use Rattle.network.specs.Places.{rank, links_of, terminals_of, chosen_of, index_of, Used, Fitting}
use Rattle.steps.specs.declared.Next.{Next}
use Rattle.steps.specs.declared.Next.TheVariants.{OneNode as One, End as Ended, Series as InSeries, Split as Splitting}
use Rattle.network.specs.Workable.{Workable}
use Rattle.steps.specs.Simple.{step_of, split_on}
use Rattle.network.proofs.Made.{sized_of, fewer, unpaired-work, unpaired-same, unpaired-less, unpaired-few}
use Rattle.steps.proofs.Arms.{one-tree, end_below, end-work, end-tree, series-left, series-below, series-tree, works, at-link, split-work, sound-left, sound-below, broken-below, split-tree}
use Rattle.steps.proofs.Places.{split-used}
use Rattle.sittings.specs.Sittings.{Open, traced}
use Rattle.sittings.specs.Entries.{opens_in}
use Rattle.tracing.proofs.Laws.{traced-factored, traced-none, traced-ready, known_by, traced-elsewhere, traced-here, on-link, off-link}
use Rattle.tracing.proofs.+follow.Goals as goal
use Rattle.simple.specs.declared.Begun.{Begun}
use Rattle.simple.specs.Begins.{Begins}
use Rattle.tracing.proofs.+follow.Goals.{after_deletion-After-start, follow-After-is_known, follow-After-split_on-i, follow-After-step, follow-In-End, follow-In-Series, follow-In-Split}

pub follow-returns-then-left-eq0 : goal.follow-returns-then-left-eq0
follow-returns-then-left-eq0 t c = let s = c.args in traced-none s.row.now s.k _ s.left c.if-left-eq0.true

pub follow-step-requires : goal.follow-step-requires
follow-step-requires t c = c.requires.0

abbrev net : (t : ℕ) → follow-After-step t → Network
net t o = o.args.net.now

abbrev graph : (t : ℕ) → follow-After-step t → Terminals
graph t o = terminals_of (net t o)

abbrev row : (t : ℕ) → follow-After-step t → List ℕ
row t o = o.args.row.now

abbrev place : (t : ℕ) → follow-After-step t → ℕ
place t o = o.args.k

abbrev left : (t : ℕ) → follow-After-step t → ℕ
left t o = o.args.left

abbrev opens : (t : ℕ) → follow-After-step t → List Open
opens t o = opens_in (row t o) (place t o) (left t o)

workable : (t : ℕ) (o : follow-After-step t) → Workable (net t o)
workable t o = o.requires.0

-- the step is s
fitting : (t : ℕ) (o : follow-After-step t) (s : Next) → o.step.result ≡ s → Fitting (net t o) (step_of s)
fitting t o s e = subst (λ (x : Next). Fitting (net t o) (step_of x)) e o.step.ensures

-- it leaves fewer links
less : (t : ℕ) (o : follow-After-step t) (k : ℕ) → k < length (links_of (net t o)) → suc (2 * k) < t
less t o k h = omega (arith, o.decreases, h)

-- the tree is another
same-tree : (t : ℕ) (o : follow-After-step t) (u : Tree) {r : Bool} → tree (graph t o) ≡ u → r ≡ traced u (opens t o) → r ≡ traced (tree (graph t o)) (opens t o)
same-tree t o u e h = h ∙ ap (λ (w : Tree). traced w (opens t o)) (sym e)

-- that of a rest, with a factor or without
rest-tree : (t : ℕ) (o : follow-After-step t) (c : Bool) (v : Direction → ℕ) (u : Tree) {r : Bool} → tree (graph t o) ≡ cond c (multiplied v u) u → r ≡ traced u (opens t o) → r ≡ traced (tree (graph t o)) (opens t o)
rest-tree t o c v u e h = same-tree t o _ e (h ∙ traced-factored c v u (opens t o))

pub follow-returns-in-OneNode : goal.follow-returns-in-OneNode
follow-returns-in-OneNode t c =
    same-tree t (goal.at.follow-returns-in-OneNode t c).After-step _ (one-tree (net t (goal.at.follow-returns-in-OneNode t c).After-step) (workable t (goal.at.follow-returns-in-OneNode t c).After-step) (fitting t (goal.at.follow-returns-in-OneNode t c).After-step One c.in-OneNode.is))
    (sym (ne_eqb (left t (goal.at.follow-returns-in-OneNode t c).After-step) 0 c.if-left-eq0.false) ∙ traced-ready (row t (goal.at.follow-returns-in-OneNode t c).After-step) (place t (goal.at.follow-returns-in-OneNode t c).After-step) _ (left t (goal.at.follow-returns-in-OneNode t c).After-step))

end_fits : (t : ℕ) (k : follow-In-End t) → Fitting (net t (goal.at.follow-In-End t k).After-step) (End k.in-End.v k.in-End.i)
end_fits t k = fitting t (goal.at.follow-In-End t k).After-step (Ended _ _) k.in-End.is

pub follow-after_end-requires : goal.follow-after_end-requires
follow-after_end-requires t c =
    let o = (goal.at.follow-after_end-requires t c).After-step in (
      omega (arith, o.decreases),
      (workable t o, end_fits t (goal.at.follow-after_end-requires t c).In-End, c.requires.1),
    )

pub follow-returns-in-End : goal.follow-returns-in-End
follow-returns-in-End t c =
    let o = (goal.at.follow-returns-in-End t c).After-step in
    rest-tree t o (listing c.in-End.v (chosen_of (net t o))) _ _ (end-tree (net t o) (workable t o) _ _ (end_fits t (goal.at.follow-returns-in-End t c).In-End)) c.after_end.ensures

series-fits : (t : ℕ) (k : follow-In-Series t) → Fitting (net t (goal.at.follow-In-Series t k).After-step) (Series k.in-Series.v k.in-Series.i k.in-Series.j)
series-fits t k = fitting t (goal.at.follow-In-Series t k).After-step (InSeries _ _ _) k.in-Series.is

pub follow-after_series-requires : goal.follow-after_series-requires
follow-after_series-requires t c =
    let o = (goal.at.follow-after_series-requires t c).After-step in (
      omega (arith, o.decreases),
      (workable t o, series-fits t (goal.at.follow-after_series-requires t c).In-Series, c.requires.1),
    )

pub follow-returns-in-Series : goal.follow-returns-in-Series
follow-returns-in-Series t c =
    let o = (goal.at.follow-returns-in-Series t c).After-step in
    rest-tree t o (listing c.in-Series.v (chosen_of (net t o))) _ _ (series-tree (net t o) (workable t o) _ _ _ (series-fits t (goal.at.follow-returns-in-Series t c).In-Series)) c.after_series.ensures

-- an open split is left, and its numbers are in the row
some-in-row : (t : ℕ) (k : follow-In-Split t) → 3 * place t (goal.at.follow-In-Split t k).After-step + 3 ≤ 192
some-in-row t k = omega (arith, k.if-left-eq0.false, k.requires.1)

chosen-fits : (t : ℕ) (k : follow-In-Split t) → Fitting (net t (goal.at.follow-In-Split t k).After-step) (Split k.in-Split.c)
chosen-fits t k = fitting t (goal.at.follow-In-Split t k).After-step (Splitting _) k.in-Split.is

pub follow-split_on-i-requires : goal.follow-split_on-i-requires
follow-split_on-i-requires t c = ((chosen-fits t c).placed.below, omega (arith, some-in-row t c))

abbrev first : (t : ℕ) → follow-After-split_on-i t → ℕ
first t k = k.in-Split.c

abbrev link : (t : ℕ) → follow-After-split_on-i t → ℕ
link t k = k.split_on-i.result

first_fits : (t : ℕ) (k : follow-After-split_on-i t) → Fitting (net t (goal.at.follow-After-split_on-i t k).After-step) (Split (first t k))
first_fits t k = chosen-fits t (goal.at.follow-After-split_on-i t k).In-Split

some_left : (t : ℕ) (k : follow-After-split_on-i t) → 3 * place t (goal.at.follow-After-split_on-i t k).After-step + 3 ≤ 192
some_left t k = some-in-row t (goal.at.follow-After-split_on-i t k).In-Split

used : (t : ℕ) (k : follow-After-split_on-i t) → Used (net t (goal.at.follow-After-split_on-i t k).After-step) (link t k)
used t k = subst (Used (net t (goal.at.follow-After-split_on-i t k).After-step)) (sym k.split_on-i.ensures) (split-used (net t (goal.at.follow-After-split_on-i t k).After-step) (first t k) (first_fits t k).placed (row t (goal.at.follow-After-split_on-i t k).After-step) (place t (goal.at.follow-After-split_on-i t k).After-step) (left t (goal.at.follow-After-split_on-i t k).After-step))

split-is : (t : ℕ) (k : follow-After-split_on-i t) → tree (graph t (goal.at.follow-After-split_on-i t k).After-step) ≡ fork (index_of (net t (goal.at.follow-After-split_on-i t k).After-step) (first t k)) (works (net t (goal.at.follow-After-split_on-i t k).After-step) (workable t (goal.at.follow-After-split_on-i t k).After-step))
split-is t k = split-tree (net t (goal.at.follow-After-split_on-i t k).After-step) (workable t (goal.at.follow-After-split_on-i t k).After-step) (first t k) (first_fits t k)

-- its place
on-is : (t : ℕ) (k : follow-After-split_on-i t) → index_of (net t (goal.at.follow-After-split_on-i t k).After-step) (link t k) ≡ rank (split_on (net t (goal.at.follow-After-split_on-i t k).After-step).alive (first t k) (row t (goal.at.follow-After-split_on-i t k).After-step) (place t (goal.at.follow-After-split_on-i t k).After-step) (left t (goal.at.follow-After-split_on-i t k).After-step)) (members (net t (goal.at.follow-After-split_on-i t k).After-step).alive)
on-is t k = ap (index_of (net t (goal.at.follow-After-split_on-i t k).After-step)) k.split_on-i.ensures

pub follow-place-requires : goal.follow-place-requires
follow-place-requires t c = (used t (goal.at.follow-place-requires t c).After-split_on-i).below

pub follow-returns-then-row-k : goal.follow-returns-then-row-k
follow-returns-then-row-k t c =
    traced-elsewhere (row t (goal.at.follow-returns-then-row-k t c).After-step) (place t (goal.at.follow-returns-then-row-k t c).After-step) (split-is t (goal.at.follow-returns-then-row-k t c).After-split_on-i) (left t (goal.at.follow-returns-then-row-k t c).After-step) c.if-left-eq0.false
    (off-link (net t (goal.at.follow-returns-then-row-k t c).After-step).alive (first t (goal.at.follow-returns-then-row-k t c).After-split_on-i) (row t (goal.at.follow-returns-then-row-k t c).After-step) (place t (goal.at.follow-returns-then-row-k t c).After-step) (left t (goal.at.follow-returns-then-row-k t c).After-step) (omega (arith, c.if-left-eq0.false)) (λ e. c.if-row-k.true (e ∙ sym (on-is t (goal.at.follow-returns-then-row-k t c).After-split_on-i) ∙ sym c.place.ensures)))

pub follow-is_known-requires : goal.follow-is_known-requires
follow-is_known-requires t c = omega (arith, some_left t (goal.at.follow-is_known-requires t c).After-split_on-i)

-- what is left: the open splits behind it
abbrev behind : (t : ℕ) → follow-After-is_known t → List Open
behind t p = opens_in (row t (goal.at.follow-After-is_known t p).After-step) (place t (goal.at.follow-After-is_known t p).After-step + 1) (left t (goal.at.follow-After-is_known t p).After-step - 1)

abbrev broken : (t : ℕ) → follow-After-split_on-i t → Network → Terminals
broken t k n = broken_left (index_of n (link t k)) (terminals_of n)

abbrev sound : (t : ℕ) → follow-After-split_on-i t → Network → Terminals
sound t k n = sound_left (index_of n (link t k)) (terminals_of n)

split-traced : (t : ℕ) (p : follow-After-is_known t) (known : Bool) {r : Bool} → p.is_known.result ≡ known
    → r ≡ traced (cond known (tree (broken t (goal.at.follow-After-is_known t p).After-split_on-i (net t (goal.at.follow-After-is_known t p).After-step))) (tree (sound t (goal.at.follow-After-is_known t p).After-split_on-i (net t (goal.at.follow-After-is_known t p).After-step)))) (behind t p)
    → r ≡ traced (tree (graph t (goal.at.follow-After-is_known t p).After-step)) (opens t (goal.at.follow-After-is_known t p).After-step)
split-traced t p known q h =
    let k = (goal.at.follow-After-is_known t p).After-split_on-i in
    let o = (goal.at.follow-After-is_known t p).After-step in
    let here = p.if-row-k.false ∙ p.place.ensures in
    h ∙ traced-here (row t o) (place t o) (split-is t k) (left t o) p.if-left-eq0.false (split-work (net t o) (workable t o) (first t k) (first_fits t k) (link t k) (used t k)) here
    (on-link (net t o).alive (first t k) (row t o) (place t o) (left t o) (omega (arith, p.if-left-eq0.false)) (here ∙ on-is t k)) known
    (sym (known_by (row t o) (place t o) (left t o) p.if-left-eq0.false) ∙ sym p.is_known.ensures ∙ q)

pub follow-after_deletion-requires : goal.follow-after_deletion-requires
follow-after_deletion-requires t c =
    let o = (goal.at.follow-after_deletion-requires t c).After-step in
    let k = (goal.at.follow-after_deletion-requires t c).After-split_on-i in
    let b = broken-below (net t o) (workable t o) (first t k) (first_fits t k) (link t k) (used t k) in (
      omega (arith, o.decreases),
      (workable t o, used t k, b.fewer, omega (arith, c.if-left-eq0.false, c.requires.1)),
    )

pub follow-returns-then-is_known : goal.follow-returns-then-is_known
follow-returns-then-is_known t c = split-traced t (goal.at.follow-returns-then-is_known t c).After-is_known true c.if-is_known.true c.after_deletion.ensures

pub follow-after_contraction-requires : goal.follow-after_contraction-requires
follow-after_contraction-requires t c =
    let o = (goal.at.follow-after_contraction-requires t c).After-step in
    let k = (goal.at.follow-after_contraction-requires t c).After-split_on-i in
    let b = sound-below (net t o) (workable t o) (first t k) (first_fits t k) (link t k) (used t k) in (
      omega (arith, o.decreases),
      (
        workable t o,
        used t k,
        ne_eqb _ _ (at-link (net t o) (workable t o) (first t k) (first_fits t k) (link t k) (used t k)).differ,
        sound-left (net t o) (workable t o) (first t k) (first_fits t k) (link t k) (used t k),
        b.fewer,
        omega (arith, c.if-left-eq0.false, c.requires.1),
      ),
    )

pub follow-returns-else-is_known : goal.follow-returns-else-is_known
follow-returns-else-is_known t c = split-traced t (goal.at.follow-returns-else-is_known t c).After-is_known false c.if-is_known.false c.after_contraction.ensures

-- what an end leaves, two links in series, a deletion, a contraction
pub after_end-follow-requires : goal.after_end-follow-requires
after_end-follow-requires t c =
    let n = c.args.net.now in
    let w = c.requires.0 in
    let f = c.requires.1 in
    let r = c.end-r in (
      omega (arith, c.decreases, fewer (terminals_of n) r.result r.ensures.0 (end_below n w _ _ f)),
      (end-work n w _ _ f r.result r.ensures.0 (sized_of r.lifetimes r.result r.type_inv) r.ensures.1, c.requires.2),
    )

pub after_end-returns : goal.after_end-returns
after_end-returns t c =
    let a = c.args in
    c.follow.ensures ∙ ap (λ (h : Terminals). traced (tree h) (opens_in a.row.now a.k a.left)) c.end-r.ensures.0

pub after_series-parallel-r-requires : goal.after_series-parallel-r-requires
after_series-parallel-r-requires t c =
    (c.series.ensures.1, (subst Plain (sym c.series.ensures.0) (series-left c.args.net.now c.requires.0 _ _ _ c.requires.1)).loopless)

pub after_series-follow-requires : goal.after_series-follow-requires
after_series-follow-requires t c =
    let n = c.args.net.now in
    let r = c.series in
    let q = c.parallel-r in
    let plain = series-left n c.requires.0 _ _ _ c.requires.1 in (
      omega (arith, c.decreases, unpaired-less plain r.result q.result r.ensures.0 q.ensures.0 (terminals_of n) (series-below n c.requires.0 _ _ _ c.requires.1)),
      (unpaired-work plain r.result q.result r.ensures.0 q.ensures.0 (sized_of q.lifetimes q.result q.type_inv) q.ensures.1, c.requires.2),
    )

pub after_series-returns : goal.after_series-returns
after_series-returns t c =
    let a = c.args in
    let plain = series-left a.net.now c.requires.0 _ _ _ c.requires.1 in
    c.follow.ensures ∙ ap (λ (u : Tree). traced u (opens_in a.row.now a.k a.left)) (sym (unpaired-same plain c.series.result c.parallel-r.result c.series.ensures.0 c.parallel-r.ensures.0))

-- what is left of a deletion once it is made simple
begun : (t : ℕ) (d : after_deletion-After-start t) (b : Begun) → d.start.result ≡ b → Begins d.deleted-broken.result b
begun t d b e = subst (Begins d.deleted-broken.result) e d.start.ensures

pub after_deletion-returns-in-Settled : goal.after_deletion-returns-in-Settled
after_deletion-returns-in-Settled t c =
    let a = c.args in
    let b = begun t (goal.at.after_deletion-returns-in-Settled t c).After-start _ c.in-Settled.is in
    traced-ready a.row.now a.k _ a.behind ∙ ap (λ (u : Tree). traced u (opens_in a.row.now a.k a.behind)) (sym b ∙ ap tree c.deleted-broken.ensures.0)

pub after_deletion-follow-requires : goal.after_deletion-follow-requires
after_deletion-follow-requires t c =
    let b = begun t (goal.at.after_deletion-follow-requires t c).After-start _ c.in-Simple.is in (
      omega (arith, c.decreases, b.2, ap (λ (h : Terminals). length h.network.links) c.deleted-broken.ensures.0, c.requires.2),
      (b.0, c.requires.3),
    )

pub after_deletion-returns-in-Simple : goal.after_deletion-returns-in-Simple
after_deletion-returns-in-Simple t c =
    let a = c.args in
    let b = begun t (goal.at.after_deletion-returns-in-Simple t c).After-start _ c.in-Simple.is in
    c.follow.ensures ∙ ap (λ (u : Tree). traced u (opens_in a.row.now a.k a.behind)) (sym b.1 ∙ ap tree c.deleted-broken.ensures.0)

pub after_contraction-follow-requires : goal.after_contraction-follow-requires
after_contraction-follow-requires t c =
    let plain = c.requires.3 in
    let r = c.contracted in
    let q = c.parallel-r in
    let few = unpaired-few plain r.result q.result r.ensures.0 q.ensures.0 in (
      omega (arith, c.decreases, few, c.requires.4),
      (unpaired-work plain r.result q.result r.ensures.0 q.ensures.0 (sized_of q.lifetimes q.result q.type_inv) q.ensures.1, c.requires.5),
    )

pub after_contraction-returns : goal.after_contraction-returns
after_contraction-returns t c =
    let a = c.args in
    c.follow.ensures ∙ ap (λ (u : Tree). traced u (opens_in a.row.now a.k a.left)) (sym (unpaired-same c.requires.3 c.contracted.result c.parallel-r.result c.contracted.ensures.0 c.parallel-r.ensures.0))
