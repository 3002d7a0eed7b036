use Rattle.plan.proofs.Verdicts.{accepted-means}
use Rattle.plan.proofs.link_at.Goals as goal

pub entry_at-e-requires : goal.entry_at-e-requires
entry_at-e-requires c = (c.requires.2, ((accepted-means c.args.plan.now).0 c.requires.0).whole)
