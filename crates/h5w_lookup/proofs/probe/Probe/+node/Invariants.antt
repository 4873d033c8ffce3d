use Rattle.h5w_lookup.proofs.probe.Probe.+node.Given as goal

abbrev pub decreases-node : goal.decreases-node
decreases-node l = l.depth
