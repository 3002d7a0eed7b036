use Prim.Native.Nat.{ℕ, ◌≤◌, ◌<◌}
use mathlib.Core.Path.{◌≡◌, refl, sym, ap, ◌∙◌, subst}
use mathlib.Core.List.{List}
use mathlib.Core.Bool.{Bool, cond}
use native.Mathlib.Omega.{arith}
use lib.ListN.{length}
use borrow.Author.Tests.{ne_eqb}
use Rattle.rounding.specs.Rounding.{factor}
use Rattle.reliability.specs.declared.Link.{Link}
use Rattle.reliability.specs.Networks.{value}
use Rattle.reliability.specs.Rule.{across, Tree, multiplied, times}
use Rattle.reliability.specs.Terminals.{Terminals, has as listing, end_left, series_left, broken_left, tree}
use Rattle.reliability.specs.Simple.{Plain, Loopless, Pairless}
use Rattle.search.specs.Searches.{ends_in}
use Rattle.pieces.specs.Pieces.{PieceOf}
use Rattle.simple.specs.Begins.{Several, ChosenPiece}
use Rattle.network.specs.declared.Network.{Network}
use Rattle.network.specs.Places.{network_of, links_of, terminals_of, chosen_of, index_of, link_of, Sized, Fitting}
use Rattle.steps.specs.declared.Next.{Next}
use Rattle.steps.specs.Simple.{step_of}
use Rattle.reliability.proofs.Unrolled.{Below}
use Rattle.network.specs.Workable.{Workable}
use Rattle.network.proofs.Kept.{ends-below, across-below}
use Rattle.network.proofs.Made.{sized_of, fewer, unpaired-work, unpaired-same, unpaired-few}
use Rattle.reliability.proofs.Simple.{deleted-loopless, deleted-pairless}
use Rattle.search.proofs.Sets.{listed_has}
use Rattle.steps.proofs.Arms.{link-within, one-tree, link-is, end_below, end-tree, last_end, end-work, series-left, series-below, series-tree, at-link, sound-left, split-tree, several}
use Rattle.simple.proofs.Keeping.{piece-asked, outside-fits}
use Rattle.simple.proofs.Broken.{broken-apart, broken-work, broken-same, broken-few as links-kept}
use Rattle.sittings.specs.declared.Carried.{Carried}
use Rattle.sittings.specs.Sittings.{resumed}
use Rattle.sittings.specs.Entries.{opens_in}
use Rattle.engine.specs.Carrying.{Carries, Worked, Resumable, Resumes}
use Rattle.engine.proofs.Splits.{ready-worked, stopped-worked, factored-worked}
use Rattle.engine.proofs.Branches.{rest-asked, rest-bounded, Under, row-room, used, below-sound, below-broken, sound-asked, Sounded, known-sounded, ran-sounded, sound-bounded, broken-asked, broken-bounded, split-counts, closed-worked}
use borrow.Author.Rules.{rules}
use Rattle.engine.proofs.+run.Goals as goal
use Rattle.engine.proofs.+run.Goals.{end-After-link_at-e, end-Joined-at_most_one, end-then-at_most_one, end-else-at_most_one, series-After-link_at-h, split-After-is_known-known, split-Joined-known, split-then-known, split-else-known, split-After-link_at-e, after_deletion-After-deleted-rest, after_deletion-After-difference, after_deletion-After-clear}

-- ---- one node is left

pub run-returns-in-OneNode : goal.run-returns-in-OneNode
run-returns-in-OneNode t c =
    let a = c.args in
    let one = subst (λ (x : Next). Fitting a.net.now (step_of x)) c.in-OneNode.is c.step.ensures in
    ready-worked (one-tree a.net.now c.requires.workable.0 one) (opens_in a.row.now a.k a.left) a.limit a.row.now a.k c.whole.result (c.whole.ensures.0 ∙ c.settled.ensures) c.whole.ensures.1

-- ---- an end

pub end-into-joined-requires : goal.end-into-joined-requires
end-into-joined-requires t c =
    let w = c.requires.workable.0 in
    let u = c.requires.workable.1.placed in
    let below = subst (λ (e : Link). (e.a < 32) × (e.b < 32)) (sym c.link_at-e.ensures) (ends-below c.args.net.now w.sized w.holds _ u.1) in
    (across-below _ _ _ below c.across-w.ensures, u.0)

abbrev ended : (t : ℕ) → end-After-link_at-e t → Terminals
ended t e = end_left e.args.v (index_of e.args.net.now e.args.i) (terminals_of e.args.net.now)

below-ended : (t : ℕ) (e : end-After-link_at-e t) → Below (terminals_of e.args.net.now) (ended t e)
below-ended t e = end_below e.args.net.now e.requires.workable.0 _ _ e.requires.workable.1

end-link : (t : ℕ) (e : end-After-link_at-e t) → e.link_at-e.result ≡ link_of e.args.net.now e.args.i
end-link t e = link-is e.args.net.now e.requires.workable.0 _ _ e.requires.workable.1.placed.1 e.link_at-e.ensures

-- whether it multiplies
abbrev end-multiplies : (t : ℕ) → end-After-link_at-e t → Bool
end-multiplies t e = listing e.args.v (chosen_of e.args.net.now)

end-is : (t : ℕ) (e : end-After-link_at-e t) → let u = tree (ended t e) in
    tree (terminals_of e.args.net.now) ≡ cond (end-multiplies t e) (multiplied (λ d. value d (link_of e.args.net.now e.args.i)) u) u
end-is t e = end-tree e.args.net.now e.requires.workable.0 _ _ e.requires.workable.1

pub end-after_end-f-requires : goal.end-after_end-f-requires
end-after_end-f-requires t c =
    let e = (goal.at.end-after_end-f-requires t c).After-link_at-e in
    (omega (arith, c.decreases), (c.requires.workable, rest-asked (below-ended t e) _ _ (end-is t e) c.requires.carries))

-- the figure of the rest, where one chosen node is left and where more are
end-rest : (t : ℕ) (m : end-Joined-at_most_one t) → let a = m.args in Resumes (ended t (goal.at.end-Joined-at_most_one t m).After-link_at-e) a.limit a.row.now a.k a.left m.if-at_most_one.f m.if-at_most_one.row
end-rest t m =
    let a = m.args in
    let e = (goal.at.end-Joined-at_most_one t m).After-link_at-e in
    let neighbour = m.across-w.ensures ∙ ap (across a.v) (end-link t e) in
    let W : Carried → List ℕ → Type 0 = Resumes (ended t e) a.limit a.row.now a.k a.left in
    elim m.if-at_most_one.branch [
      | end-then-at_most_one w ↦
          let one = last_end a.net.now m.requires.workable.0 _ _ m.requires.workable.1 m.across-w.result m.into-joined.result neighbour m.into-joined.ensures (sym m.at_most_one.ensures ∙ w.if-at_most_one.true) in
          subst (λ (r : List ℕ). W m.if-at_most_one.f r) (sym w.row-is) (subst (λ (f : Carried). W f a.row.now) (sym w.f-is)
          (ready-worked one (opens_in a.row.now a.k a.left) a.limit a.row.now a.k w.whole-f.result (w.whole-f.ensures.0 ∙ w.settled.ensures) w.whole-f.ensures.1))
      | end-else-at_most_one w ↦
          subst (λ (r : List ℕ). W m.if-at_most_one.f r) (sym w.row-is) (subst (λ (f : Carried). W f w.after_end-f.new.row) (sym w.f-is) w.after_end-f.ensures)
    ]

pub end-end_of-requires : goal.end-end_of-requires
end-end_of-requires t c =
    let w = c.requires.workable.0 in
    let e = (goal.at.end-end_of-requires t c).After-link_at-e in
    let l = link-within c.args.net.now w.holds w.sized c.link_at-e.result _ c.requires.workable.1.placed.1 (end-link t e) in
    let f = rest-bounded (below-ended t e) _ _ (end-is t e) c.requires.carries (end-rest t (goal.at.end-end_of-requires t c).Joined-at_most_one) in
    (l.0, l.1, f.low, f.high)

pub end-returns : goal.end-returns
end-returns t c =
    let a = c.args in
    let e = (goal.at.end-returns t c).After-link_at-e in
    let f = c.if-at_most_one.f in
    let multiplies = c.has-multiplies.ensures ∙ sym (listed_has a.net.now.chosen a.v) in
    factored-worked (end-multiplies t e) _ _ (end-is t e) (opens_in a.row.now a.k a.left) a.limit a.row.now a.k f _ _ (end-rest t (goal.at.end-returns t c).Joined-at_most_one)
    (c.end_of.ensures ∙ (λ j. cond (multiplies j) (times (λ d. value d (end-link t e j)) f.figure) f.figure)) refl

-- ---- two links in series

abbrev lined : (t : ℕ) → series-After-link_at-h t → Terminals
lined t e = let n = e.args.net.now in series_left e.args.v (index_of n e.args.i) (index_of n e.args.j) (terminals_of n)

below-lined : (t : ℕ) (e : series-After-link_at-h t) → Below (terminals_of e.args.net.now) (lined t e)
below-lined t e = series-below e.args.net.now e.requires.workable.0 _ _ _ e.requires.workable.1

series-first : (t : ℕ) (e : series-After-link_at-h t) → e.link_at-e.result ≡ link_of e.args.net.now e.args.i
series-first t e = link-is e.args.net.now e.requires.workable.0 _ _ e.requires.workable.1.placed.1 e.link_at-e.ensures

series-second : (t : ℕ) (e : series-After-link_at-h t) → e.link_at-h.result ≡ link_of e.args.net.now e.args.j
series-second t e = link-is e.args.net.now e.requires.workable.0 _ _ e.requires.workable.1.placed.2 e.link_at-h.ensures

abbrev series-multiplies : (t : ℕ) → series-After-link_at-h t → Bool
series-multiplies t e = listing e.args.v (chosen_of e.args.net.now)

series-is : (t : ℕ) (e : series-After-link_at-h t) → let n = e.args.net.now in let u = tree (lined t e) in
    tree (terminals_of n) ≡ cond (series-multiplies t e) (multiplied (λ d. factor d (value d (link_of n e.args.i)) (value d (link_of n e.args.j))) u) u
series-is t e = series-tree e.args.net.now e.requires.workable.0 _ _ _ e.requires.workable.1

pub series-after_series-f-requires : goal.series-after_series-f-requires
series-after_series-f-requires t c =
    let e = (goal.at.series-after_series-f-requires t c).After-link_at-h in
    (omega (arith, c.decreases), (c.requires.workable, rest-asked (below-lined t e) _ _ (series-is t e) c.requires.carries))

pub series-series_of-requires : goal.series-series_of-requires
series-series_of-requires t c =
    let w = c.requires.workable.0 in
    let u = c.requires.workable.1.placed in
    let e = (goal.at.series-series_of-requires t c).After-link_at-h in
    let x = link-within c.args.net.now w.holds w.sized _ _ u.1 (series-first t e) in
    let y = link-within c.args.net.now w.holds w.sized _ _ u.2 (series-second t e) in
    let f = rest-bounded (below-lined t e) _ _ (series-is t e) c.requires.carries c.after_series-f.ensures in
    (x.0, x.1, y.0, y.1, f.low, f.high)

pub series-returns : goal.series-returns
series-returns t c =
    let a = c.args in
    let e = (goal.at.series-returns t c).After-link_at-h in
    let f = c.after_series-f.result.figure in
    let multiplies = c.has-multiplies.ensures ∙ sym (listed_has a.net.now.chosen a.v) in
    factored-worked (series-multiplies t e) _ _ (series-is t e) (opens_in a.row.now a.k a.left) a.limit a.row.now a.k c.after_series-f.result _ _ c.after_series-f.ensures
    (c.series_of.ensures ∙ (λ j. cond (multiplies j) (times (λ d. factor d (value d (series-first t e j)) (value d (series-second t e j))) f) f)) refl

-- ---- a split

pub split-split_on-i-requires : goal.split-split_on-i-requires
split-split_on-i-requires t c =
    let fits = c.requires.workable.1 in
    (fits.placed.below, omega (arith, row-room c.args.net.now c.requires.workable.0 _ fits c.requires.carries))

pub split-returns-then-stopped : goal.split-returns-then-stopped
split-returns-then-stopped t c =
    let a = c.args in
    stopped-worked (split-tree a.net.now c.requires.workable.0 a.c c.requires.workable.1) a.row.now a.k a.left a.limit c.whole.result (sym c.stopped.ensures ∙ c.if-stopped.true) (c.whole.ensures.0 ∙ c.unfinished.ensures) c.whole.ensures.1

pub split-is_known-known-requires : goal.split-is_known-known-requires
split-is_known-known-requires t c = row-room c.args.net.now c.requires.workable.0 _ c.requires.workable.1 c.requires.carries

under : (t : ℕ) (q : split-After-is_known-known t) → let a = q.args in Under a.net.now a.row.now a.k a.left a.limit q.split_on-i.result q.behind-inner.result q.own_steps-own.result q.is_known-known.result
under t q = record {
  work = q.requires.workable.0;
  chosen = q.args.c;
  fits = q.requires.workable.1;
  asked = q.requires.carries;
  on = q.split_on-i.ensures;
  behind = q.behind-inner.ensures;
  price = q.own_steps-own.ensures;
  is = q.is_known-known.ensures;
  going = sym q.stopped.ensures ∙ q.if-stopped.false;
}

pub split-known_at-sound-requires : goal.split-known_at-sound-requires
split-known_at-sound-requires t c = row-room c.args.net.now c.requires.workable.0 _ c.requires.workable.1 c.requires.carries

pub split-after_contraction-sound-requires : goal.split-after_contraction-sound-requires
split-after_contraction-sound-requires t c =
    let n = c.args.net.now in
    let w = c.requires.workable.0 in
    let f = c.requires.workable.1 in
    let s = under t (goal.at.split-after_contraction-sound-requires t c).After-is_known-known in (
      omega (arith, c.decreases),
      ((w, used s, ne_eqb _ _ (at-link n w _ f _ (used s)).differ, sound-left n w _ f _ (used s), (below-sound s).fewer, omega (arith, c.requires.workable.2)), sound-asked s c.if-known.false),
    )

-- the sound branch's figure stands in the row, or it is worked
sounded : (t : ℕ) (m : split-Joined-known t) → Sounded (under t (goal.at.split-Joined-known t m).After-is_known-known) m.if-known.sound m.if-known.row
sounded t m =
    let s = under t (goal.at.split-Joined-known t m).After-is_known-known in
    elim m.if-known.branch [
      | split-then-known w ↦
          subst (λ (r : List ℕ). Sounded s m.if-known.sound r) (sym w.row-is) (subst (λ (f : Carried). Sounded s f m.args.row.now) (sym w.sound-is)
          (known-sounded s w.if-known.true w.known_at-sound.result w.known_at-sound.ensures.0 w.known_at-sound.ensures.1))
      | split-else-known w ↦
          subst (λ (r : List ℕ). Sounded s m.if-known.sound r) (sym w.row-is) (subst (λ (f : Carried). Sounded s f w.after_contraction-sound.new.row) (sym w.sound-is)
          (ran-sounded s w.if-known.false w.after_contraction-sound.result w.after_contraction-sound.new.row w.after_contraction-sound.ensures))
    ]

pub split-overflow_sub-remains : goal.split-overflow_sub-remains
split-overflow_sub-remains t c =
    let at = goal.at.split-overflow_sub-remains t c in
    (sound-bounded (under t at.After-is_known-known) (sounded t at.Joined-known)).steps

pub split-after_deletion-broken-requires : goal.split-after_deletion-broken-requires
split-after_deletion-broken-requires t c =
    let at = goal.at.split-after_deletion-broken-requires t c in
    let s = under t at.After-is_known-known in (
      omega (arith, c.decreases),
      ((c.requires.workable.0, used s, several c.args.net.now c.requires.workable.0 _ c.requires.workable.1, (below-broken s).fewer, omega (arith, c.requires.workable.2)), broken-asked s (sounded t at.Joined-known) c.of_broken.ensures),
    )

pub split-link_at-e-requires : goal.split-link_at-e-requires
split-link_at-e-requires t c = (used (under t (goal.at.split-link_at-e-requires t c).After-is_known-known)).below

pub split-place-place-requires : goal.split-place-place-requires
split-place-place-requires t c = (used (under t (goal.at.split-place-place-requires t c).After-is_known-known)).below

split-link : (t : ℕ) (e : split-After-link_at-e t) → e.link_at-e.result ≡ link_of e.args.net.now e.split_on-i.result
split-link t e = link-is e.args.net.now e.requires.workable.0 _ _ (used (under t (goal.at.split-After-link_at-e t e).After-is_known-known)) e.link_at-e.ensures

pub split-closed-requires : goal.split-closed-requires
split-closed-requires t c =
    let at = goal.at.split-closed-requires t c in
    let s = under t at.After-is_known-known in
    let w = c.requires.workable.0 in
    let e = link-within c.args.net.now w.holds w.sized _ _ (used s) (split-link t at.After-link_at-e) in
    let given = sounded t at.Joined-known in
    let f = sound-bounded s given in
    let b = broken-bounded s given c.of_broken.ensures c.after_deletion-broken.ensures in
    record {
      room = row-room c.args.net.now w _ c.requires.workable.1 c.requires.carries;
      chances = (e.0, e.1, f.low, f.high, b.low, b.high);
      counts = split-counts s given c.of_broken.ensures c.after_deletion-broken.ensures c.requires.workable.2;
    }

pub split-returns : goal.split-returns
split-returns t c =
    let at = goal.at.split-returns t c in
    closed-worked (under t at.After-is_known-known) (sounded t at.Joined-known) c.of_broken.ensures c.after_deletion-broken.ensures (split-link t at.After-link_at-e) c.place-place.ensures c.closed.ensures.figure_value c.closed.ensures.aside_value c.closed.ensures.row_after

-- ---- what an end leaves, two links in series, a contraction

pub after_end-run-requires : goal.after_end-run-requires
after_end-run-requires t c =
    let a = c.args in
    let n = a.net.now in
    let w = c.requires.workable.0 in
    let f = c.requires.workable.1 in
    let r = c.end-r in
    let is = r.ensures.0 in
    let few = fewer (terminals_of n) r.result is (end_below n w _ _ f) in (
      omega (arith, c.decreases, few),
      ((end-work n w _ _ f r.result is (sized_of r.lifetimes r.result r.type_inv) r.ensures.1, c.requires.workable.2), subst (λ (h : Terminals). Resumable h a.row.now a.k a.left) (sym is) c.requires.carries),
    )

pub after_series-parallel-r-requires : goal.after_series-parallel-r-requires
after_series-parallel-r-requires t c =
    (c.series.ensures.1, (subst Plain (sym c.series.ensures.0) (series-left c.args.net.now c.requires.workable.0 _ _ _ c.requires.workable.1)).loopless)

pub after_series-run-requires : goal.after_series-run-requires
after_series-run-requires t c =
    let a = c.args in
    let n = a.net.now in
    let w = c.requires.workable.0 in
    let f = c.requires.workable.1 in
    let r = c.series in
    let q = c.parallel-r in
    let plain = series-left n w _ _ _ f in
    let few = unpaired-few plain r.result q.result r.ensures.0 q.ensures.0 in (
      omega (arith, c.decreases, few, (series-below n w _ _ _ f).fewer),
      ((unpaired-work plain r.result q.result r.ensures.0 q.ensures.0 (sized_of q.lifetimes q.result q.type_inv) q.ensures.1, c.requires.workable.2), (omega (arith, few, c.requires.carries.0), subst (λ (u : Tree). Carries u a.row.now a.k a.left) (unpaired-same plain r.result q.result r.ensures.0 q.ensures.0) c.requires.carries.1)),
    )

pub after_series-returns : goal.after_series-returns
after_series-returns t c =
    let a = c.args in
    let plain = series-left a.net.now c.requires.workable.0 _ _ _ c.requires.workable.1 in
    subst (λ (u : Tree). Worked (resumed u (opens_in a.row.now a.k a.left)) a.limit a.row.now a.k c.run.result c.run.new.row) (sym (unpaired-same plain c.series.result c.parallel-r.result c.series.ensures.0 c.parallel-r.ensures.0)) c.run.ensures

pub after_contraction-run-requires : goal.after_contraction-run-requires
after_contraction-run-requires t c =
    let a = c.args in
    let plain = c.requires.workable.3 in
    let r = c.contracted in
    let q = c.parallel-r in
    let few = unpaired-few plain r.result q.result r.ensures.0 q.ensures.0 in (
      omega (arith, c.decreases, few, c.requires.workable.4),
      ((unpaired-work plain r.result q.result r.ensures.0 q.ensures.0 (sized_of q.lifetimes q.result q.type_inv) q.ensures.1, c.requires.workable.5), (omega (arith, few, c.requires.carries.0), subst (λ (u : Tree). Carries u a.row.now a.k a.left) (unpaired-same plain r.result q.result r.ensures.0 q.ensures.0) c.requires.carries.1)),
    )

pub after_contraction-returns : goal.after_contraction-returns
after_contraction-returns t c =
    let a = c.args in
    subst (λ (u : Tree). Worked (resumed u (opens_in a.row.now a.k a.left)) a.limit a.row.now a.k c.run.result c.run.new.row) (sym (unpaired-same c.requires.workable.3 c.contracted.result c.parallel-r.result c.contracted.ensures.0 c.parallel-r.ensures.0)) c.run.ensures

-- ---- what a deletion leaves

-- the network without the link
abbrev out : (t : ℕ) → after_deletion-After-deleted-rest t → Network
out t x = x.deleted-rest.result

out-sized : (t : ℕ) (x : after_deletion-After-deleted-rest t) → Sized (out t x)
out-sized t x = let d = x.deleted-rest in sized_of d.lifetimes d.result d.type_inv

out-several : (t : ℕ) (x : after_deletion-After-deleted-rest t) → Several (out t x)
out-several t x = subst (λ (h : Terminals). 1 < length h.chosen) (sym x.deleted-rest.ensures.0) x.requires.workable.2

out-loopless : (t : ℕ) (x : after_deletion-After-deleted-rest t) → Loopless (network_of (out t x))
out-loopless t x =
    let simple = x.requires.workable.0.simple in
    subst (λ (h : Terminals). Loopless h.network) (sym x.deleted-rest.ensures.0) (deleted-loopless (network_of x.args.net.now) simple.plain.loopless (index_of x.args.net.now x.args.i))

out-pairless : (t : ℕ) (x : after_deletion-After-deleted-rest t) → Pairless (network_of (out t x))
out-pairless t x =
    let simple = x.requires.workable.0.simple in
    subst (λ (h : Terminals). Pairless h.network) (sym x.deleted-rest.ensures.0) (deleted-pairless (network_of x.args.net.now) simple.plain.loopless simple.pairless (index_of x.args.net.now x.args.i))

pub after_deletion-piece_of-piece-requires : goal.after_deletion-piece_of-piece-requires
after_deletion-piece_of-piece-requires t c =
    let x = (goal.at.after_deletion-piece_of-piece-requires t c).After-deleted-rest in
    piece-asked (out t x) (out-sized t x) x.deleted-rest.ensures.1 (out-several t x) _ c.lowest.ensures

out-piece : (t : ℕ) (p : after_deletion-After-difference t) → ChosenPiece p.deleted-rest.result p.piece_of-piece.result
out-piece t p = let n = p.deleted-rest.result in subst (PieceOf p.piece_of-piece.result n.nodes (ends_in n.alive n.a n.b)) p.lowest.ensures p.piece_of-piece.ensures

pub after_deletion-returns-then-difference-ne0 : goal.after_deletion-returns-then-difference-ne0
after_deletion-returns-then-difference-ne0 t c =
    let a = c.args in
    let at = goal.at.after_deletion-returns-then-difference-ne0 t c in
    let x = at.After-deleted-rest in
    let apart = broken-apart (out t x) (out-sized t x) x.deleted-rest.ensures.1 (out-several t x) c.piece_of-piece.result (out-piece t at.After-difference) c.difference.result c.difference.ensures (omega (arith, c.if-difference-ne0.true)) (search rules) in
    ready-worked (ap tree (sym c.deleted-rest.ensures.0) ∙ apart) (opens_in a.row.now a.k a.left) a.limit a.row.now a.k c.whole.result (c.whole.ensures.0 ∙ c.settled.ensures) c.whole.ensures.1

pub after_deletion-clear-requires : goal.after_deletion-clear-requires
after_deletion-clear-requires t c =
    let x = (goal.at.after_deletion-clear-requires t c).After-deleted-rest in
    outside-fits (out t x) (out-sized t x) _ c.difference-2.result c.difference-2.ensures (search rules)

-- what is left of it in one piece with the chosen nodes
abbrev kept : (t : ℕ) → after_deletion-After-clear t → Network
kept t c = let n = c.deleted-rest.result in record { alive = c.clear.result; at = c.clear.new.at; low = n.low; high = n.high; a = n.a; b = n.b; nodes = n.nodes; chosen = n.chosen }

kept-is : (t : ℕ) (c : after_deletion-After-clear t) → Workable (kept t c) × (tree (broken_left (index_of c.args.net.now c.args.i) (terminals_of c.args.net.now)) ≡ tree (terminals_of (kept t c))) × (length (links_of (kept t c)) ≤ length (links_of c.deleted-rest.result))
kept-is t c =
    let x = (goal.at.after_deletion-After-clear t c).After-deleted-rest in
    let n = out t x in
    let sized = out-sized t x in
    let holds = x.deleted-rest.ensures.1 in
    let piece = out-piece t (goal.at.after_deletion-After-clear t c).After-difference in
    let none : c.difference.result ≡ 0 = omega (arith, c.if-difference-ne0.false) in
    let d = c.difference-2 in
    let k = c.clear in (
      broken-work n sized holds (out-several t x) _ piece _ c.difference.ensures none (out-loopless t x) d.result k.result k.new.at d.ensures k.ensures.remaining k.ensures.cleared (out-pairless t x),
      ap tree (sym x.deleted-rest.ensures.0) ∙ broken-same n sized holds (out-several t x) _ piece _ c.difference.ensures none (out-loopless t x) d.result k.result k.new.at d.ensures k.ensures.remaining k.ensures.cleared,
      links-kept n sized holds (out-several t x) _ piece _ c.difference.ensures none (out-loopless t x) d.result k.result k.new.at d.ensures k.ensures.remaining k.ensures.cleared,
    )

pub after_deletion-run-requires : goal.after_deletion-run-requires
after_deletion-run-requires t c =
    let a = c.args in
    let k = kept-is t (goal.at.after_deletion-run-requires t c).After-clear in
    let is = ap (λ (h : Terminals). length h.network.links) c.deleted-rest.ensures.0 in (
      omega (arith, c.decreases, k.2, is, c.requires.workable.3),
      ((k.0, c.requires.workable.4), (omega (arith, k.2, is, c.requires.carries.0), subst (λ (u : Tree). Carries u a.row.now a.k a.left) k.1 c.requires.carries.1)),
    )

pub after_deletion-returns : goal.after_deletion-returns
after_deletion-returns t c =
    let a = c.args in
    let k = kept-is t (goal.at.after_deletion-returns t c).After-clear in
    subst (λ (u : Tree). Worked (resumed u (opens_in a.row.now a.k a.left)) a.limit a.row.now a.k c.run.result c.run.new.row) (sym k.1) c.run.ensures
