use Rattle.std.proofs.Common.{sym, ap, ◌∙◌}
use Rattle.std.specs.Prelude.{length}
use Rattle.h5w_writer.specs.Sessions.{Session}
use Rattle.h5w_live.proofs.BatchLemmas.{added_writes, append_refuses, flush_refuses, flush_taken, planned_writes, put_flushed, refusal_for, waits_some, writes_still}
use Rattle.h5w_live.proofs.batch.put.Goals as goal

pub plan-requires-clause-waits : goal.plan-requires-clause-waits
plan-requires-clause-waits g c =
    let h = c.requires.flushed in
    let a = c.in-Ok.ensures.added in
    waits_some h.0 h.1 h.2 c.args.session.now c.args.seat.now h.3 h.4 c.add.new.session c.add.new.seat c.args.values.now a.0 c.requires.rows a.1 c.requires.some

pub plan-requires-clause-taken : goal.plan-requires-clause-taken
plan-requires-clause-taken g c =
    let h = c.requires.flushed in
    let a = c.in-Ok.ensures.added in
    flush_taken h.0 h.1 h.2 c.args.session.now c.args.seat.now h.3 h.4 c.add.new.session c.add.new.seat c.args.values.now a.0 a.1

pub plan-requires-clause-created : goal.plan-requires-clause-created
plan-requires-clause-created g c =
    let h = c.requires.flushed in
    let a = c.in-Ok.ensures.added in
    let w = added_writes h.0 c.args.session.now c.add.new.session c.args.seat.now c.add.new.seat c.args.values.now a.0 h.4.writes a.1 in
    (w.log, w.stands, record { file = h.0; is = w.is; log_is = w.new })

pub returns-in-Err-clause-left : goal.returns-in-Err-clause-left
returns-in-Err-clause-left g c = λ f most done lines h. c.in-Err.ensures.left f h.writes

pub returns-in-Err-plan-clause-left : goal.returns-in-Err-plan-clause-left
returns-in-Err-plan-clause-left g c = λ f most done lines h.
    let a = c.in-Ok.ensures.added in
    writes_still f c.add.new.session c.plan.new.session c.add.new.seat c.plan.new.seat
    (added_writes f c.args.session.now c.add.new.session c.args.seat.now c.add.new.seat c.args.values.now a.0 h.writes a.1)
    c.plan.ensures.seat (ap (λ (s : Session). s.name) c.in-Err-plan.ensures.kept.session) (ap (λ (s : Session). s.dataset) c.in-Err-plan.ensures.kept.session) c.in-Err-plan.ensures.left

pub returns-in-Ok-show-clause-flushed : goal.returns-in-Ok-show-clause-flushed
returns-in-Ok-show-clause-flushed g c = λ f most done lines h.
    let a = c.in-Ok.ensures.added in
    put_flushed f most done c.args.session.now c.args.seat.now lines c.args.values.now a.0 c.add.new.session c.plan.new.session c.show.new.session c.add.new.seat c.plan.new.seat c.show.new.seat
    (record { pieces = c.seen.result; rows = c.committed.result }) h c.requires.rows c.requires.some a.1 c.in-Ok.ensures.accepted c.in-Ok-plan.ensures.flushed c.in-Ok-plan.ensures.some
    c.in-Ok-plan.ensures.stands c.plan.ensures.seat c.in-Ok-plan.ensures.room c.in-Ok-show.ensures.session c.in-Ok-show.ensures.seat c.in-Ok-show.ensures.stands c.seen.ensures c.committed.ensures.value

pub returns-in-Ok-show-clause-accepted : goal.returns-in-Ok-show-clause-accepted
returns-in-Ok-show-clause-accepted g c = λ f most done lines h.
    sym (refusal_for f most done c.args.session.now c.args.seat.now lines h c.args.values.now c.requires.rows c.requires.some) ∙ c.in-Ok.ensures.accepted

pub returns-in-Err-show-clause-left : goal.returns-in-Err-show-clause-left
returns-in-Err-show-clause-left g c = λ f most done lines h.
    let a = c.in-Ok.ensures.added in
    c.in-Err-show.ensures.left f
    (planned_writes f c.add.new.session c.plan.new.session c.add.new.seat c.plan.new.seat
    (added_writes f c.args.session.now c.add.new.session c.args.seat.now c.add.new.seat c.args.values.now a.0 h.writes a.1)
    c.plan.ensures.seat c.in-Ok-plan.ensures.flushed (length c.plan.new.session.pending) c.in-Ok-plan.ensures.stands)

pub returns-in-Err-clause-refused : goal.returns-in-Err-clause-refused
returns-in-Err-clause-refused g c = λ f most done lines h.
    append_refuses f most done c.args.session.now c.args.seat.now lines h c.args.values.now c.requires.rows c.requires.some c.in-Err.halt c.in-Err.ensures.refused

pub returns-in-Err-plan-clause-refused : goal.returns-in-Err-plan-clause-refused
returns-in-Err-plan-clause-refused g c = λ f most done lines h.
    let a = c.in-Ok.ensures.added in
    flush_refuses f most done c.args.session.now c.args.seat.now lines h c.args.values.now c.requires.rows c.requires.some c.in-Ok.ensures.accepted a.0 c.add.new.session c.add.new.seat a.1 c.in-Err-plan.halt c.in-Err-plan.ensures.refused

pub returns-in-Err-show-clause-refused : goal.returns-in-Err-show-clause-refused
returns-in-Err-show-clause-refused g c = λ f most done lines h. tt
