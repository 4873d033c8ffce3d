use Rattle.h5w_links.proofs.Spelled.{SpelledTo}
use Rattle.h5w_links.proofs.finding.spelled_links.Given as goal

abbrev pub invariant-loop-m : goal.invariant-loop-m
invariant-loop-m l = SpelledTo l.list l.m-index l.seen l.links
