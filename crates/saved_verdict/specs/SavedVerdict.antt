-- Why saved work is refused: checks 10 and 11.
use Rattle.std.specs.Prelude.{ℕ, List, cond}
use Rattle.reliability.specs.Rule.{Tree}
use Rattle.causes.specs.declared.CallCause.TheVariants.{SavedWork, OpenSplit}
use Rattle.causes.specs.Causes.{CallVerdict}
use Rattle.std.specs.Prelude.{Ok, Err}
use Rattle.sittings.specs.Sittings.{traced}
use Rattle.saved.specs.Format.{opens_of, well_formed}

-- saved work not in its format, then a place that isn't a split of the work t
unfoldable pub saved_verdict : Tree → List ℕ → CallVerdict
saved_verdict t b = cond (well_formed b) (cond (traced t (opens_of b)) (Ok tt) (Err OpenSplit)) (Err SavedWork)
