use Prim.Native.Nat.{ℕ, ◌<◌}
use mathlib.Core.Path.{◌≡◌, refl, ap, ap₂, ◌∙◌, subst}
use native.Mathlib.Omega.{arith}
use lib.ListN.{length}
use Rattle.reliability.specs.declared.Link.{Link}
use Rattle.reliability.specs.declared.Figure.{Figure}
use Rattle.reliability.specs.Networks.{Network as Graph, Valid, link_at}
use Rattle.reliability.specs.Rule.{deleted, contracted, figure}
use Rattle.reliability.specs.Terminals.{Terminals, among, everywhere, sound_left, broken_left, figure as figureOf}
use Rattle.reliability.proofs.Validity.{proper-at, deleted-valid, contracted-valid}
use Rattle.reliability.proofs.Everywhere.{sound-everywhere, figure-everywhere}
use Rattle.search.specs.Searches.{nodes_in}
use Rattle.reliability.specs.Comparisons.{lessened}
use Rattle.network.specs.declared.Network.{Network}
use Rattle.network.specs.Places.{network_of, terminals_of, index_of, Sized}
use Rattle.network.proofs.Picks.{index-within}
use Rattle.comparisons.proofs.Subtractions.{loop-sound, link-sound, subtracts}
use borrow.Author.Rules.{rules}
use borrow.Author.Tests.{ne_eqb}
use Rattle.comparisons.proofs.importance.Goals as goal
use Rattle.comparisons.proofs.importance.Goals.{Start}

sized : (c : Start) → Sized c.args.net
sized c = search rules

abbrev graph : Start → Graph
graph c = network_of c.args.net

abbrev index : Start → ℕ
index c = index_of c.args.net c.args.i

within : (c : Start) → index c < length (graph c).links
within c = index-within c.args.net (sized c) c.args.i c.requires.1

-- the link that was read is a loop, or is none
a-loop : (c : Start) (e : Link) → e ≡ link_at (graph c) (index c) → e.a ≡ e.b → (link_at (graph c) (index c)).a ≡ (link_at (graph c) (index c)).b
a-loop c e is h = subst (λ (f : Link). f.a ≡ f.b) is h

no_loop : (c : Start) (e : Link) → e ≡ link_at (graph c) (index c) → (e.a ≡ e.b → ⊥) → (link_at (graph c) (index c)).a ≡ (link_at (graph c) (index c)).b → ⊥
no_loop c e is h = subst (λ (f : Link). f.a ≡ f.b → ⊥) is h

-- the figure of a network that stands for h
worked : (c : Start) (n : Network) (f : Figure) (h k : Graph) → f ≡ figureOf (terminals_of n) c.args.limit → terminals_of n ≡ everywhere h → Valid h → h ≡ k → f ≡ figure k c.args.limit
worked c n f h k e d valid s = e ∙ ap (λ (g : Terminals). figureOf g c.args.limit) d ∙ figure-everywhere h valid c.args.limit ∙ ap (λ (g : Graph). figure g c.args.limit) s

-- all nodes are chosen, and stay so
all-chosen : (c : Start) → terminals_of c.args.net ≡ everywhere (graph c)
all-chosen c = ap (λ (s : ℕ). among (nodes_in s) (graph c)) c.requires.3

broken-all : (c : Start) (r : Network) → terminals_of r ≡ broken_left (index c) (terminals_of c.args.net) → terminals_of r ≡ everywhere (deleted (index c) (graph c))
broken-all c r e = e ∙ ap (broken_left (index c)) (all-chosen c)

sound-all : (c : Start) (r : Network) → terminals_of r ≡ sound_left (index c) (terminals_of c.args.net) → ((link_at (graph c) (index c)).a ≡ (link_at (graph c) (index c)).b → ⊥)
    → terminals_of r ≡ everywhere (contracted (link_at (graph c) (index c)) (deleted (index c) (graph c)))
sound-all c r e differ = e ∙ ap (sound_left (index c)) (all-chosen c) ∙ sound-everywhere (graph c) c.requires.0.valid (index c) (record { place = within c; differ = differ })

contracts : (c : Start) → ((link_at (graph c) (index c)).a ≡ (link_at (graph c) (index c)).b → ⊥) → Valid (contracted (link_at (graph c) (index c)) (deleted (index c) (graph c)))
contracts c differ = contracted-valid (deleted (index c) (graph c)) (deleted-valid (graph c) c.requires.0.valid (index c)) (link_at (graph c) (index c)) (proper-at (graph c) c.requires.0.valid (index c) (within c)) differ

pub work-broken-requires : goal.work-broken-requires
work-broken-requires c = (c.deleted.ensures.1, omega arith)

pub lessened-requires : goal.lessened-requires
lessened-requires c =
    let b = c.work-broken.result in
    let loop = loop-sound (graph (goal.at.lessened-requires c).Start) (index (goal.at.lessened-requires c).Start) (a-loop (goal.at.lessened-requires c).Start c.link-e.result c.link-e.ensures c.if-e.true) in
    subtracts (graph (goal.at.lessened-requires c).Start) (index (goal.at.lessened-requires c).Start) c.requires.0.valid (within (goal.at.lessened-requires c).Start) c.args.limit c.requires.2 b b
    (worked (goal.at.lessened-requires c).Start c.deleted.result b _ _ c.work-broken.ensures (broken-all (goal.at.lessened-requires c).Start c.deleted.result c.deleted.ensures.0) (deleted-valid (graph (goal.at.lessened-requires c).Start) c.requires.0.valid (index (goal.at.lessened-requires c).Start)) loop)
    (worked (goal.at.lessened-requires c).Start c.deleted.result b _ _ c.work-broken.ensures (broken-all (goal.at.lessened-requires c).Start c.deleted.result c.deleted.ensures.0) (deleted-valid (graph (goal.at.lessened-requires c).Start) c.requires.0.valid (index (goal.at.lessened-requires c).Start)) refl)

pub returns-then-e : goal.returns-then-e
returns-then-e c =
    let b = c.work-broken.result in
    let loop = loop-sound (graph (goal.at.returns-then-e c).Start) (index (goal.at.returns-then-e c).Start) (a-loop (goal.at.returns-then-e c).Start c.link-e.result c.link-e.ensures c.if-e.true) in
    c.lessened.ensures
    ∙ ap₂ lessened
    (worked (goal.at.returns-then-e c).Start c.deleted.result b _ _ c.work-broken.ensures (broken-all (goal.at.returns-then-e c).Start c.deleted.result c.deleted.ensures.0) (deleted-valid (graph (goal.at.returns-then-e c).Start) c.requires.0.valid (index (goal.at.returns-then-e c).Start)) loop)
    (worked (goal.at.returns-then-e c).Start c.deleted.result b _ _ c.work-broken.ensures (broken-all (goal.at.returns-then-e c).Start c.deleted.result c.deleted.ensures.0) (deleted-valid (graph (goal.at.returns-then-e c).Start) c.requires.0.valid (index (goal.at.returns-then-e c).Start)) refl)

pub contracted-requires : goal.contracted-requires
contracted-requires c =
    (c.requires.0, c.requires.1, ne_eqb _ _ (no_loop (goal.at.contracted-requires c).Start c.link-e.result c.link-e.ensures c.if-e.false))

pub work-sound-requires : goal.work-sound-requires
work-sound-requires c = (c.contracted.ensures.1, omega arith)

pub lessened-requires-2 : goal.lessened-requires-2
lessened-requires-2 c =
    let differ = no_loop (goal.at.lessened-requires-2 c).Start c.link-e.result c.link-e.ensures c.if-e.false in
    subtracts (graph (goal.at.lessened-requires-2 c).Start) (index (goal.at.lessened-requires-2 c).Start) c.requires.0.valid (within (goal.at.lessened-requires-2 c).Start) c.args.limit c.requires.2 c.work-sound.result c.work-broken.result
    (worked (goal.at.lessened-requires-2 c).Start c.contracted.result c.work-sound.result _ _ c.work-sound.ensures (sound-all (goal.at.lessened-requires-2 c).Start c.contracted.result c.contracted.ensures.0 differ) (contracts (goal.at.lessened-requires-2 c).Start differ) (link-sound (graph (goal.at.lessened-requires-2 c).Start) (index (goal.at.lessened-requires-2 c).Start) differ))
    (worked (goal.at.lessened-requires-2 c).Start c.deleted.result c.work-broken.result _ _ c.work-broken.ensures (broken-all (goal.at.lessened-requires-2 c).Start c.deleted.result c.deleted.ensures.0) (deleted-valid (graph (goal.at.lessened-requires-2 c).Start) c.requires.0.valid (index (goal.at.lessened-requires-2 c).Start)) refl)

pub returns : goal.returns
returns c =
    let differ = no_loop (goal.at.returns c).Start c.link-e.result c.link-e.ensures c.if-e.false in
    c.lessened-2.ensures
    ∙ ap₂ lessened
    (worked (goal.at.returns c).Start c.contracted.result c.work-sound.result _ _ c.work-sound.ensures (sound-all (goal.at.returns c).Start c.contracted.result c.contracted.ensures.0 differ) (contracts (goal.at.returns c).Start differ) (link-sound (graph (goal.at.returns c).Start) (index (goal.at.returns c).Start) differ))
    (worked (goal.at.returns c).Start c.deleted.result c.work-broken.result _ _ c.work-broken.ensures (broken-all (goal.at.returns c).Start c.deleted.result c.deleted.ensures.0) (deleted-valid (graph (goal.at.returns c).Start) c.requires.0.valid (index (goal.at.returns c).Start)) refl)
