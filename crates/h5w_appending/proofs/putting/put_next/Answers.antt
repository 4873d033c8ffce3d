use Rattle.std.proofs.Common.{drop}
use Rattle.h5w_writer.proofs.StateLemmas.{oldest}
use Rattle.h5w_appending.proofs.PutLemmas.{one_less, puts_failed, puts_one}
use Rattle.h5w_appending.proofs.putting.put_next.Goals as goal

pub returns-in-Ok-clause-puts : goal.returns-in-Ok-clause-puts
returns-in-Ok-clause-puts g c =
    let s = c.args.session.now in
    let w = c.in-Some.w.now in
    let ws = drop 1 s.pending in
    let pending = oldest w s.pending c.in-Some.ensures.oldest in
    puts_one c.args.file.now s c.written.new.self w ws pending (c.written.ensures.piece w ws pending) (c.written.ensures.stands w ws pending) c.in-Ok.ensures.put

pub returns-in-Ok-clause-one : goal.returns-in-Ok-clause-one
returns-in-Ok-clause-one g c =
    let s = c.args.session.now in
    let w = c.in-Some.w.now in
    let ws = drop 1 s.pending in
    let pending = oldest w s.pending c.in-Some.ensures.oldest in
    one_less s c.written.new.self w ws pending (c.written.ensures.piece w ws pending)

pub returns-in-Err-clause-failed : goal.returns-in-Err-clause-failed
returns-in-Err-clause-failed g c = puts_failed c.args.file.now c.args.session.now c.requires.some c.in-Err.ensures.same c.in-Err.ensures.cause
