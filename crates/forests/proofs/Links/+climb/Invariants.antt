use Rattle.forests.proofs.Links.+climb.Given as goal

abbrev pub decreases-climb : goal.decreases-climb
decreases-climb l = l.fuel
