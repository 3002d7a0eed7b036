-- The steps that can fit a simple network, and the link to split on.
use Rattle.std.specs.Prelude.{ℕ, ◌*◌, List, cond, ◌||◌, eqb, get_or}
use Rattle.bits.specs.Members.{members, first_of}
use Rattle.network.specs.Places.{rank}
use Rattle.reliability.specs.declared.Step.{Step}
use Rattle.reliability.specs.declared.Step.TheVariants.{OneNode, End, Series, Split}
use Rattle.steps.specs.declared.Next.{Next}
use Rattle.steps.specs.declared.Next.TheVariants.{OneNode as One, End as Ended, Series as InSeries, Split as Splitting}

abbrev pub step_of : Next → Step
step_of One = OneNode
step_of (Ended v i) = End v i
step_of (InSeries v i j) = Series v i j
step_of (Splitting i) = Split i

-- the link to split on: the chosen link i, also where the open split at place k of the row is on it; else the first link
abbrev pub split_on : ℕ → ℕ → List ℕ → ℕ → ℕ → ℕ
split_on alive i row k left = cond (eqb left 0 || eqb (get_or row (3 * k) 0) (rank i (members alive))) i (first_of (members alive))
