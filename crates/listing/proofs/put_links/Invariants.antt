use Prim.Native.Nat.{◌+◌, ◌-◌}
use mathlib.Core.Path.{◌≡◌}
use lib.ListN.{length}
use lib.Seq.{sets}
use Rattle.plan.specs.Plans.{size_m}
use Rattle.listing.specs.Listings.{link_lines}
use Rattle.lines.proofs.Texts.{Remaining}
use Rattle.listing.proofs.put_links.Given as goal

abbrev pub invariant-loop-i : goal.invariant-loop-i
invariant-loop-i l = (l.m ≡ size_m l.plan) × Remaining l.text l.next (link_lines l.plan l.i (l.m - l.i)) (sets l.initial.text l.at (link_lines l.plan 0 l.m)) (l.at + length (link_lines l.plan 0 l.m)) (length l.initial.text)
