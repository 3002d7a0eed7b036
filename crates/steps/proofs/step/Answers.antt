use Prim.Native.Nat.{◌<◌}
use mathlib.Core.Path.{◌≡◌, sym, ◌∙◌}
use mathlib.Core.List.{[]}
use mathlib.Core.Bool.{false}
use native.Mathlib.Omega.{arith}
use lib.Dec.{leb}
use lib.ListN.{get_or}
use Rattle.bits.specs.Members.{members, how_many}
use Rattle.search.specs.Searches.{with_links}
use Rattle.search.proofs.Marks.{counted-some}
use Rattle.search.proofs.Answers.{missed}
use Rattle.network.specs.declared.Network.{Network}
use Rattle.network.proofs.Ends.{bounded}
use Rattle.steps.proofs.Fits.{one_right, end-node, line-node, bounded_at, end-right, series-right, split-right}
use Rattle.steps.proofs.step.Goals as goal
use Rattle.steps.proofs.step.Goals.{Else-at_most_one, In-Some, In-Some-lowest_in_line, In_default, Start}

abbrev net : Start → Network
net s = s.args.net.now

pub returns-then-at_most_one : goal.returns-then-at_most_one
returns-then-at_most_one c =
    one_right (net (goal.at.returns-then-at_most_one c).Start) c.requires (sym c.at_most_one.ensures ∙ c.if-at_most_one.true)

-- ---- what the tests have shown
more : (c : Else-at_most_one) → leb (how_many (members c.args.net.now.chosen)) 1 ≡ false
more c = sym c.at_most_one.ensures ∙ c.if-at_most_one.false

no_end : (t : In_default) → let n = net (goal.at.In_default t).Start in with_links 1 n.at n.nodes ≡ []
no_end t = missed _ (sym t.lowest_end.ensures ∙ t.in_default.is)

pub returns : goal.returns
returns c =
    split-right (net (goal.at.returns c).Start) c.requires (more (goal.at.returns c).Else-at_most_one) (no_end (goal.at.returns c).In_default) (missed _ (sym c.lowest_in_line.ensures ∙ c.in_default-lowest_in_line.is)) c.counts-counts.result c.counts-counts.ensures _ c.largest_sum.ensures

pub largest_sum-requires : goal.largest_sum-requires
largest_sum-requires c = bounded (net (goal.at.largest_sum-requires c).Start) c.requires.sized c.requires.holds.valid

-- the node with one link
one : (c : In-Some) → c.in-Some.v < 32
one c =
    (end-node (net (goal.at.In-Some c).Start) c.requires _ (sym c.lowest_end.ensures ∙ c.in-Some.is)).0

pub offset_bounds-net-v : goal.offset_bounds-net-v
offset_bounds-net-v c = record { fits = omega (arith, one c) }

pub bounds-net-v : goal.bounds-net-v
bounds-net-v c = one (goal.at.bounds-net-v c).In-Some

pub returns-in-Some : goal.returns-in-Some
returns-in-Some c =
    end-right (net (goal.at.returns-in-Some c).Start) c.requires (more (goal.at.returns-in-Some c).Else-at_most_one) _ _ (sym c.lowest_end.ensures ∙ c.in-Some.is) c.lowest.ensures

pub lowest_in_line-requires : goal.lowest_in_line-requires
lowest_in_line-requires c = (c.requires.sized.nodes, bounded_at (net (goal.at.lowest_in_line-requires c).Start) c.requires)

-- the node with two links
two : (c : In-Some-lowest_in_line) → let v = c.in-Some-lowest_in_line.v in (v < 32) × (how_many (members (get_or (net (goal.at.In-Some-lowest_in_line c).Start).at v 0)) ≡ 2)
two c =
    let h = line-node (net (goal.at.In-Some-lowest_in_line c).Start) c.requires _ (sym c.lowest_in_line.ensures ∙ c.in-Some-lowest_in_line.is) in
    (h.0, h.2)

pub offset_bounds-net-v-in-Some-lowest_in_line : goal.offset_bounds-net-v-in-Some-lowest_in_line
offset_bounds-net-v-in-Some-lowest_in_line c = record { fits = omega (arith, (two c).0) }

pub bounds-net-v-in-Some-lowest_in_line : goal.bounds-net-v-in-Some-lowest_in_line
bounds-net-v-in-Some-lowest_in_line c = (two (goal.at.bounds-net-v-in-Some-lowest_in_line c).In-Some-lowest_in_line).0

pub without_lowest-requires : goal.without_lowest-requires
without_lowest-requires c = counted-some _ (omega (arith, (two (goal.at.without_lowest-requires c).In-Some-lowest_in_line).1))

pub returns-in-Some-lowest_in_line : goal.returns-in-Some-lowest_in_line
returns-in-Some-lowest_in_line c =
    series-right (net (goal.at.returns-in-Some-lowest_in_line c).Start) c.requires (more (goal.at.returns-in-Some-lowest_in_line c).Else-at_most_one) (no_end (goal.at.returns-in-Some-lowest_in_line c).In_default) _ _ _ _ (sym c.lowest_in_line.ensures ∙ c.in-Some-lowest_in_line.is) c.lowest-in-Some-lowest_in_line.ensures c.without_lowest.ensures c.lowest-in-Some-lowest_in_line-2.ensures
