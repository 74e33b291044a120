use Rattle.transform.proofs.+fold.Given as goal

abbrev pub decreases-fold : goal.decreases-fold
decreases-fold l = l.layer
