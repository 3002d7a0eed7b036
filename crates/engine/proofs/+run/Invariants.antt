use Rattle.std.specs.Prelude.{suc, ◌*◌, length}
use Rattle.network.specs.Places.{links_of}
use Rattle.engine.proofs.+run.Given as goal

-- three times the links, one more once the step is known, and two more before
abbrev pub decreases-run : goal.decreases-run
decreases-run l = suc (suc (3 * length (links_of l.net.now)))

abbrev pub decreases-end : goal.decreases-end
decreases-end l = suc (3 * length (links_of l.net.now))

abbrev pub decreases-series : goal.decreases-series
decreases-series l = suc (3 * length (links_of l.net.now))

abbrev pub decreases-split : goal.decreases-split
decreases-split l = suc (3 * length (links_of l.net.now))

abbrev pub decreases-after_end : goal.decreases-after_end
decreases-after_end l = 3 * length (links_of l.net.now)

abbrev pub decreases-after_series : goal.decreases-after_series
decreases-after_series l = 3 * length (links_of l.net.now)

abbrev pub decreases-after_contraction : goal.decreases-after_contraction
decreases-after_contraction l = 3 * length (links_of l.net.now)

abbrev pub decreases-after_deletion : goal.decreases-after_deletion
decreases-after_deletion l = 3 * length (links_of l.net.now)
