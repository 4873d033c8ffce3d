use Rattle.h5w_files.proofs.PollEndLemmas.{polls_broken, polls_done, polls_told, polls_whole}
use Rattle.h5w_files.proofs.polling.poll.Goals as goal

pub returns-in-Ok-clause-polls : goal.returns-in-Ok-clause-polls
returns-in-Ok-clause-polls g c = polls_done c.args.file.now c.args.name.now c.args.polls.times c.args.polls.attempts c.args.polls.values c.in-Ok.ensures

pub returns-in-Err-Error-clause-polls : goal.returns-in-Err-Error-clause-polls
returns-in-Err-Error-clause-polls g c =
    let gives = rw c.in-Err-Error.field-0-is at c.in-Err-Error.ensures in
    polls_told c.args.file.now c.args.name.now c.args.polls.times c.args.polls.attempts c.args.polls.values c.in-Err-Error.error c.tell.result gives c.tell.ensures

pub returns-in-Err-Error-clause-completes : goal.returns-in-Err-Error-clause-completes
returns-in-Err-Error-clause-completes g c = polls_whole c.args.file.now c.args.name.now c.args.polls.times c.args.polls.attempts c.args.polls.values c.tell.result (returns-in-Err-Error-clause-polls g c)

pub returns-in-Err-Sink-clause-polls : goal.returns-in-Err-Sink-clause-polls
returns-in-Err-Sink-clause-polls g c =
    let gives = rw c.in-Err-Sink.field-0-is at c.in-Err-Sink.ensures in
    polls_broken c.args.file.now c.args.name.now c.args.polls.times c.args.polls.attempts c.args.polls.values gives
