-- A factor of two links in series is at most S.
use Rattle.rounding.proofs.Operations.{factor-range}

pub ruleset in_range = (factor-range)
