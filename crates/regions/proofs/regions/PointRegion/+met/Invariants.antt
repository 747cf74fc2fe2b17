use Rattle.regions.proofs.regions.PointRegion.+met.Given as goal

abbrev pub decreases-met : goal.decreases-met
decreases-met l = l.left
