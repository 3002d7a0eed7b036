use Prim.Native.Nat.{ℕ, ◌<◌}
use mathlib.Core.Path.{◌≡◌, sym, ap, ap₂, ◌∙◌, subst, subst₂}
use mathlib.Core.List.Memᴰ
use mathlib.Core.List.{List, [], ◌∷◌, ◌++◌, map}
use Rattle.reliability.specs.declared.Link.{Link}
use native.Mathlib.Omega.{arith}
use Rattle.reliability.specs.Networks.{Proper}
use Rattle.search.specs.Searches.{from, nodes_in}
use Rattle.network.specs.Places.{Built}
use Rattle.tables.specs.Tables.{rating, AcceptedTable}
use Rattle.tables.proofs.Theorems.{rating-range}
use Rattle.std.specs.Prelude.{Ok}
use Rattle.plan.specs.Plans.{size_n, size_m, verdict, link_in, WellFormed}
use Rattle.plan.proofs.Verdicts.{accepted-means}
use Rattle.plan.proofs.Links.{from_more}
use Rattle.search.proofs.Sets.{from-node}
use Rattle.plan.proofs.Accepted.{plan-valid}
use Rattle.loading.proofs.network_of.Goals as goal
use Rattle.loading.proofs.network_of.Goals.{Start}

proper-in : (table b : List ℕ) (j : ℕ) → AcceptedTable table → verdict b ≡ Ok tt → j < size_m b → Proper (from 0 (size_n b)) (link_in (rating table) b j)
proper-in table b j fine accepted h =
    let f = link_in (rating table) b in
    (plan-valid (rating table) b (rating-range table fine) accepted).proper (f j) (Memᴰ.map f (from-node 0 (size_m b) j (omega arith) (omega arith)))

well : (c : Start) → WellFormed c.args.plan.now
well c = (accepted-means c.args.plan.now).0 c.requires.0

pub sizes_of-s-requires : goal.sizes_of-s-requires
sizes_of-s-requires c = let w = well (goal.at.sizes_of-s-requires c).Start in omega (arith, w.whole)

pub new-net-requires : goal.new-net-requires
new-net-requires c = let w = well (goal.at.new-net-requires c).Start in let e = c.sizes_of-s.ensures.0 in omega (arith, w.nodes, c.from.ensures)

pub loop-i-init : goal.loop-i-init
unfolding from
loop-i-init c =
    let e = c.sizes_of-s.ensures in
    let n = c.new-net.ensures in
    (c.from-i-end.ensures ∙ e.1, omega arith, n.3, n.4, n.0 ∙ ap (from 0) (c.from.ensures ∙ e.0), n.2, n.1)

pub link_at-requires : goal.link_at-requires
link_at-requires c =
    let l = c.loop-i.invariant in
    let p = c.requires in
    (p.0, p.1, omega (arith, l.0))

pub with_link-net-requires : goal.with_link-net-requires
with_link-net-requires c =
    let l = c.loop-i.invariant in
    let w = well (goal.at.with_link-net-requires c).Start in
    (l.3, l.2, omega (arith, l.0, w.links), subst₂ Proper (sym l.4) (sym c.link_at.ensures) (proper-in c.args.table.now c.args.plan.now _ c.requires.1 c.requires.0 (omega (arith, l.0))))

pub loop-i-preserved : goal.loop-i-preserved
loop-i-preserved c =
    let l = c.loop-i.invariant in
    let e = c.with_link-net.ensures in
    let a = c.args in (
      l.0,
      omega arith,
      e.3,
      e.4,
      ap nodes_in e.0 ∙ l.4,
      e.2 ∙ ap₂ (λ (xs : List Link) (x : Link). xs ++ (x ∷ [])) l.5 c.link_at.ensures ∙ sym (from_more (link_in (rating a.table.now) a.plan.now) c.loop-i.i),
      e.1 ∙ l.6 ∙ sym e.0,
    )

pub returns : goal.returns
returns c =
    let l = c.loop-i.invariant in
    let a = c.args in
    let all : c.loop-i.i ≡ size_m a.plan.now = omega (arith, l.0) in
    ((λ j. record { nodes = l.4 j; links = (l.5 ∙ ap (λ k. map (link_in (rating a.table.now) a.plan.now) (from 0 k)) all) j }), subst (Built c.loop-i.net) all l.2, l.3, l.6)
