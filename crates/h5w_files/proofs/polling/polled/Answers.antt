use Rattle.std.proofs.Common.{◌≡◌, ◌<◌, ◌^◌, refl, rules}
use Rattle.h5w_reader.specs.Cores.{reader}
use Rattle.h5w_reader.specs.Readers.{new_reader, reader_rules}
use Rattle.h5w_files.proofs.PollEndLemmas.{polls_calls, polls_failed, polls_missing, polls_wanting}
use Rattle.h5w_files.proofs.ImageLemmas.{reference_looked}
use Rattle.h5w_files.proofs.polling.polled.Goals as goal

pub returns-in-Ok-None : goal.returns-in-Ok-None
returns-in-Ok-None g c =
    let none = rw c.in-Ok-None.field-0-is at c.in-Ok-None.ensures.exact in
    polls_missing c.args.file.now c.args.name.now c.args.polls.times c.args.polls.attempts c.args.polls.values (g.K.Sink.view c.args.sink.now) c.size.ensures.same none

pub returns-in-Err : goal.returns-in-Err
returns-in-Err g c = polls_failed c.args.file.now c.args.name.now c.args.polls.times c.args.polls.attempts c.args.polls.values (g.K.Sink.view c.args.sink.now) c.size.ensures.same c.in-Err.ensures.cause

pub returns-in_default : goal.returns-in_default
returns-in_default g c = polls_wanting c.args.file.now c.args.name.now c.args.polls.times c.args.polls.attempts c.args.polls.values (g.K.Sink.view c.args.sink.now) c.size.ensures.same

pub returns : goal.returns
returns g c =
    let same = reference_looked c.write_times-written.ensures.looked _ _ _ _ refl refl in
    let sized = rw c.in-Ok-Some.field-0-is at c.in-Ok-Some.ensures.exact in
    let small : c.in-Ok-Some.field-0-0 < 2 ^ 64 = search rules in
    let first : reader c.in-Ok.reader ≡ new_reader (reader_rules c.args.name.now c.args.polls.attempts) = search rules in
    let fact =
    polls_calls {u = g.D.Disk.view c.args.disk.now} {v = g.D.Disk.view c.size.new.self} {w = g.D.Disk.view c.write_times-written.new.image.disk.now} _ _ c.args.file.now c.write_times-written.new.image.name.now c.args.name.now c.in-Ok-Some.field-0-0 c.args.polls.times c.args.polls.attempts c.args.polls.values
    (reader c.in-Ok.reader) c.write_times-written.result c.size.ensures.same small sized c.write_times-written.ensures.looked first c.write_times-written.ensures.gives in
    search (rules, same, fact)
