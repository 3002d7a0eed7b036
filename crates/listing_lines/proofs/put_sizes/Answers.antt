use native.Mathlib.Omega.{arith}
use Rattle.listing_lines.proofs.put_sizes.Goals as goal

pub returns : goal.returns
returns c = rw (← c.from.ensures, ← c.from-2.ensures) c.put_line.ensures

pub put_line-requires : goal.put_line-requires
put_line-requires c = rw (c.from.ensures, c.from-2.ensures) (omega (arith, c.requires))
