use Prim.Native.Nat.{ℕ, ◌≤◌, ◌<◌}
use mathlib.Core.Path.{◌≡◌, refl, sym, ap, ◌∙◌}
use mathlib.Core.Bool.{Bool, true, false, cond}
use native.Mathlib.Omega.{arith}
use lib.ListN.{get_or, set}
use Rattle.rounding.specs.Rounding.{S, product as productOf, series as series_of}
use Rattle.rounding.specs.declared.Direction.{Direction}
use Rattle.rounding.specs.declared.Direction.TheVariants.{Down, Up}
use Rattle.reliability.specs.Networks.{value}
use Rattle.reliability.specs.Rule.{without, across}
use Rattle.reliability.specs.Terminals.{among, has as listing, in_line}
use Rattle.search.proofs.Sets.{listed_has}
use Rattle.network.specs.declared.Network.{Network}
use Rattle.network.specs.Places.{nodes_of, chosen_of, Sized}
use Rattle.network.proofs.Picks.{all-even, row, row_at, rows-set, values-within, joined-links}
use Rattle.network.proofs.Kept.{stands, ends-below, series-valid, across-below, turned-over}
use borrow.Author.Rules.{rules}
use Rattle.network.proofs.Network.series.Goals as goal
use Rattle.network.proofs.Network.series.Goals.{Start}

sized : (c : Start) → Sized c.args.self
sized c = search rules

within : (c : Start) (d : Direction) → (value d (row_at c.args.self c.args.i) ≤ S) × (value d (row_at c.args.self c.args.j) ≤ S)
within c = values-within c.args.self (sized c) c.requires.0.valid c.args.i c.args.j c.requires.1.placed.1 c.requires.1.placed.2

ends-i : (c : Start) → (get_or c.args.self.a c.args.i 0 < 32) × (get_or c.args.self.b c.args.i 0 < 32)
ends-i c = ends-below c.args.self (sized c) c.requires.0 c.args.i c.requires.1.placed.1

ends-j : (c : Start) → (get_or c.args.self.a c.args.j 0 < 32) × (get_or c.args.self.b c.args.j 0 < 32)
ends-j c = ends-below c.args.self (sized c) c.requires.0 c.args.j c.requires.1.placed.2

below : (c : Start) → (c.args.i < 64) × (c.args.j < 64)
below c = (c.requires.1.placed.1.below, c.requires.1.placed.2.below)

node-below : (c : Start) → c.args.v < 64
node-below c = let v = c.requires.1.placed.0 in omega arith

-- two links in line, by place
made-line : (n : Network) (v i j : ℕ) {chosen : Bool} {a b low high : ℕ} → chosen ≡ listing v (chosen_of n) → a ≡ across v (row_at n i) → b ≡ across v (row_at n j)
    → low ≡ cond chosen (series_of Down (get_or n.low i 0) (get_or n.low j 0)) (productOf Down (get_or n.low i 0) (get_or n.low j 0))
    → high ≡ cond chosen (series_of Up (get_or n.high i 0) (get_or n.high j 0)) (productOf Up (get_or n.high i 0) (get_or n.high j 0))
    → row a b low high ≡ in_line (listing v (chosen_of n)) v (row_at n i) (row_at n j)
made-line n v i j {chosen} e first second lower upper = (λ t. row (first t) (second t) (lower t) (upper t)) ∙ by chosen ∙ ap (λ c. in_line c v (row_at n i) (row_at n j)) e
  where
    by : (c : Bool) → row (across v (row_at n i)) (across v (row_at n j)) (cond c (series_of Down (get_or n.low i 0) (get_or n.low j 0)) (productOf Down (get_or n.low i 0) (get_or n.low j 0))) (cond c (series_of Up (get_or n.high i 0) (get_or n.high j 0)) (productOf Up (get_or n.high i 0) (get_or n.high j 0)))
        ≡ in_line c v (row_at n i) (row_at n j)
    by true = refl
    by false = refl

pub has-c-requires : goal.has-c-requires
has-c-requires c = node-below c

pub line-requires : goal.line-requires
line-requires c = within (goal.at.line-requires c).Start Down

pub line-requires-2 : goal.line-requires-2
line-requires-2 c = within (goal.at.line-requires-2 c).Start Up

pub unlink-requires : goal.unlink-requires
unlink-requires c =
    let e = ends-j (goal.at.unlink-requires c).Start in
    (omega (arith, e), omega (arith, e), omega (arith, below (goal.at.unlink-requires c).Start))

pub take_out-requires : goal.take_out-requires
take_out-requires c = (c.requires.1.placed.0, omega (arith, below (goal.at.take_out-requires c).Start))

pub returns : goal.returns
returns c =
    let p = c.put_in in
    let three = c.take_out in
    let u = c.unlink in
    let out = u.ensures.out in
    let b = c.across-b in
    let a = c.across-a in
    let high = c.line-2 in
    let low = c.line in
    let chosen = c.has-c in
    let n = c.args.self in
    let i = c.args.i in
    let j = c.args.j in
    let v = c.args.v in
    let r : Network = record { alive = u.result; at = p.new.at; low = set n.low i low.result; high = set n.high i high.result; a = set n.a i a.result; b = set n.b i b.result; nodes = c.without_node.result; chosen = c.without_node-2.result } in
    let listed : chosen.result ≡ listing v (chosen_of n) = chosen.ensures ∙ sym (listed_has n.chosen v) in
    let first : a.result ≡ across v (row_at n i) = a.ensures in
    let second : b.result ≡ across v (row_at n j) = b.ensures in
    let e = row a.result b.result low.result high.result in
    let made : e ≡ in_line (listing v (chosen_of n)) v (row_at n i) (row_at n j) = made-line n v i j listed first second low.ensures high.ensures in
    let written = rows-set (all-even n (sized (goal.at.returns c).Start)) i e in
    let links = joined-links n r.alive j _ c.requires.1.placed.2 u.ensures.left (sized (goal.at.returns c).Start) i e (in_line (listing v (chosen_of n)) v) c.requires.1.placed.1 written made in
    let nodes : nodes_of r ≡ without v (nodes_of n) = c.without_node.ensures in
    let left : chosen_of r ≡ without v (chosen_of n) = c.without_node-2.ensures in
    stands r (λ t. among (left t) (record { nodes = nodes t; links = links t })) (series-valid n c.requires.0 v i j c.requires.1)
    (turned-over n (sized (goal.at.returns c).Start) c.requires.0 v i j c.requires.1 out.half u.new.at three.new.at r.at a.result first {y = b.result} r.alive u.ensures.left out.first out.second three.ensures p.ensures)

pub put_in-requires : goal.put_in-requires
put_in-requires c =
    (omega (arith, across-below _ _ _ (ends-i (goal.at.put_in-requires c).Start) c.across-a.ensures, across-below _ _ _ (ends-j (goal.at.put_in-requires c).Start) c.across-b.ensures), omega (arith, below (goal.at.put_in-requires c).Start))

pub without_node-requires : goal.without_node-requires
without_node-requires c = node-below (goal.at.without_node-requires c).Start

pub without_node-requires-2 : goal.without_node-requires-2
without_node-requires-2 c = node-below (goal.at.without_node-requires-2 c).Start
