use Rattle.std.specs.Prelude.{suc, ◌*◌, length}
use Rattle.network.specs.Places.{links_of}
use Rattle.tracing.proofs.+follow.Given as goal

-- twice the links, and one more before the step is known
abbrev pub decreases-follow : goal.decreases-follow
decreases-follow l = suc (2 * length (links_of l.net.now))

abbrev pub decreases-after_end : goal.decreases-after_end
decreases-after_end l = 2 * length (links_of l.net.now)

abbrev pub decreases-after_series : goal.decreases-after_series
decreases-after_series l = 2 * length (links_of l.net.now)

abbrev pub decreases-after_deletion : goal.decreases-after_deletion
decreases-after_deletion l = 2 * length (links_of l.net.now)

abbrev pub decreases-after_contraction : goal.decreases-after_contraction
decreases-after_contraction l = 2 * length (links_of l.net.now)
