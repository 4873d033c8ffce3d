use Rattle.h5w_takeover_reading_laws.proofs.seats_go_on.Goals as goal
use Rattle.h5w_takeover_reading_laws.proofs.SeatLemmas as lemmas

pub returns : goal.returns
returns c = lemmas.seats_go_on
