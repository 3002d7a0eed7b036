-- How long each line can be.
use Prim.Native.Nat.{ℕ, ◌≤◌}
use lib.ListN.{length}
use Rattle.lines.specs.Lines.{text}
use Rattle.lines.proofs.Theorems.{width, length-filled}
use Rattle.reliability.specs.declared.Link.{Link}
use Rattle.reliability.specs.declared.Figure.{Figure}
use Rattle.plan.specs.declared.Cause.{Cause}
use Rattle.listing_lines.specs.Entries.{sizes_line, figure_line, link_line, limits_line, refused_line}

pub length-sizes : (n m k : ℕ) → length (sizes_line n m k) ≤ 52
unfolding width
length-sizes n m k = length-filled _ (text "nodes 0 links 1 pieces 2\n")

pub length-figure : (f : Figure) → length (figure_line f) ≤ 68
unfolding width
length-figure f = length-filled _ (text "low 0 high 1 steps 2 finished 3\n")

pub length-link : (i : ℕ) (e : Link) (f : Figure) → length (link_line i e f) ≤ 71
unfolding width
length-link i e f = length-filled _ (text "link 0 1 2 3 4 5\n")

pub length-limits : length limits_line ≤ 29
unfolding width
length-limits = length-filled _ (text "limits 0 1\n")

pub length-refused : (c : Cause) → length (refused_line c) ≤ 33
unfolding width
length-refused c = length-filled _ (text "refused 0 at 1\n")
