use Rattle.h5w_writer.proofs.IndexStarts.{both_taken, none_unplaced}
use Rattle.h5w_writer.proofs.planning.take_tops.Goals as goal

pub returns-then-address-eq-UNDEFINED-clause-taken : goal.returns-then-address-eq-UNDEFINED-clause-taken
returns-then-address-eq-UNDEFINED-clause-taken c = both_taken c.args.address c.args.places.now c.take_two.new.places c.take_two.result c.if-address-eq-UNDEFINED.true c.take_two.ensures.taken

pub returns-then-address-eq-UNDEFINED-clause-full : goal.returns-then-address-eq-UNDEFINED-clause-full
returns-then-address-eq-UNDEFINED-clause-full c = none_unplaced c.args.address c.args.places.now c.take_two.result c.if-address-eq-UNDEFINED.true c.take_two.ensures.full
