use Rattle.h5w_running.specs.Runs.{asked_by}
use Rattle.h5w_running.proofs.EndLemmas.{ends_well, live_tells, tells_ends}
use Rattle.h5w_running.proofs.running.run_live.Goals as goal

pub returns-in-Ok-clause-inside : goal.returns-in-Ok-clause-inside
returns-in-Ok-clause-inside g c =
    tells_ends (asked_by c.args.options.now c.args.readers.count c.args.readers.polls c.args.readers.attempts c.args.readers.mirrors) c.in-Ok.ensures.tells.0 c.in-Ok.text.items c.deref.result.now c.say.result c.in-Ok.ensures.tells.1 c.deref.ensures.value c.say.ensures

pub returns-in-Ok-clause-ran : goal.returns-in-Ok-clause-ran
returns-in-Ok-clause-ran g c = live_tells _ _ (returns-in-Ok-clause-inside g c)

pub returns-in-Err-clause-inside : goal.returns-in-Err-clause-inside
returns-in-Err-clause-inside g c =
    let a = asked_by c.args.options.now c.args.readers.count c.args.readers.polls c.args.readers.attempts c.args.readers.mirrors in
    c.refuse.ensures a (g.S.Source.view c.args.source.now) (g.S.Source.view c.told.new.source) c.in-Err.ensures.refused

pub returns-in-Err-clause-ran : goal.returns-in-Err-clause-ran
returns-in-Err-clause-ran g c = live_tells _ _ (returns-in-Err-clause-inside g c)

pub returns-in-Err-clause-completes : goal.returns-in-Err-clause-completes
returns-in-Err-clause-completes g c =
    let a = asked_by c.args.options.now c.args.readers.count c.args.readers.polls c.args.readers.attempts c.args.readers.mirrors in
    ends_well a c.refuse.result (returns-in-Err-clause-inside g c)
