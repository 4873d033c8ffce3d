use Rattle.h5w_text.proofs.refusal.+hex.Given as goal

abbrev pub decreases-hex : goal.decreases-hex
decreases-hex l = l.digits
