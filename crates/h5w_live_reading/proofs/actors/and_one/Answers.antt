use Rattle.std.proofs.Common.{rules}
use Rattle.h5w_live_reading.proofs.ActorLemmas.{err_before, err_last, ok_both}
use Rattle.h5w_live_reading.proofs.actors.and_one.Goals as goal

pub returns-in-Err : goal.returns-in-Err
returns-in-Err c = λ g i before calls readers seen h k. err_before g i before calls readers seen c.args.others c.in-Err.cut c.in-Err.is h

pub returns-in-Err-last : goal.returns-in-Err-last
returns-in-Err-last c = λ g i before calls readers seen h k. err_last g i before calls readers seen c.args.last c.in-Err-last.cut c.in-Err-last.is k

pub returns : goal.returns
returns c = λ g i before calls readers seen h k.
    ok_both g i before calls readers seen c.args.others c.args.last c.in-Ok.all c.in-Ok-last.one (record { lines = c.append.new.self; notes = c.push.new.self }) c.in-Ok.is c.in-Ok-last.is (search rules) (search rules) h k
