use Rattle.h5w_make.proofs.BatchLemmas.{append_taken, are_rows, batch_after, flush_taken, place_there, waits_some}
use Rattle.h5w_make.proofs.batch.put_batch.Goals as goal

pub append-requires-clause-rows : goal.append-requires-clause-rows
append-requires-clause-rows c = are_rows c.requires.0 c.args.session.now c.args.image.now c.args.values.now c.requires.2

pub append-requires-clause-no_flush : goal.append-requires-clause-no_flush
append-requires-clause-no_flush c = c.requires.2.no_flush

pub append-requires-clause-taken : goal.append-requires-clause-taken
append-requires-clause-taken c = append_taken c.requires.0 c.args.session.now c.args.image.now c.args.values.now c.requires.2 c.requires.1

pub flush-requires-clause-waits : goal.flush-requires-clause-waits
flush-requires-clause-waits c = waits_some c.requires.0 c.args.values.now c.args.session.now c.append.new.session c.args.image.now c.requires.2 c.in_ok-append.ensures.adds c.requires.1

pub flush-requires-clause-taken : goal.flush-requires-clause-taken
flush-requires-clause-taken c =
    flush_taken c.requires.0 c.args.values.now c.args.session.now c.append.new.session c.args.image.now c.requires.2 c.in_ok-append.ensures.adds c.in_ok-append.ensures.idle

pub flush-requires-clause-places : goal.flush-requires-clause-places
flush-requires-clause-places c =
    place_there c.requires.0 c.args.values.now c.args.session.now c.append.new.session c.args.image.now c.append.new.image c.requires.1 c.requires.2 c.in_ok-append.ensures

pub returns : goal.returns
returns c = λ bs taken h.
    batch_after bs c.args.values.now c.args.session.now c.append.new.session c.flush.new.session c.show_all.new.session c.args.image.now c.append.new.image c.flush.new.image c.show_all.new.image taken h
    c.in_ok-append.ensures c.in_ok-flush.ensures.flushed c.in_ok-flush.ensures.stands c.in_ok-flush.ensures.image
    c.show_all.ensures.session c.show_all.ensures.image c.show_all.ensures.stands
