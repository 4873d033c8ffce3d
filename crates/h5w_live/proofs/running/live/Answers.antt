use Rattle.std.proofs.Common.{ℕ, ◌+◌, sym, subst, vec_len, []}
use Rattle.h5w_creation.specs.NewFiles.{new_file}
use Rattle.h5w_shared.specs.Seats.{SeatView}
use Rattle.h5w_live_reading.specs.Seats.{rules_of}
use Rattle.h5w_live.specs.Reports.{IsBeside}
use Rattle.h5w_live.specs.Writing.{HasFlushed}
use Rattle.h5w_live.proofs.EndLemmas.{created_seen}
use Rattle.h5w_live.proofs.JoinLemmas.{all_told, ran_of}
use Rattle.h5w_live.proofs.running.live.Goals as goal

pub finish-requires : goal.finish-requires
finish-requires g c =
    let image = c.in-Ok.created.0 in
    let seen = c.in-Ok.created.1.seen in
    let n = vec_len c.in-Ok-seats.seats in
    let flushed = subst (λ (v : SeatView). HasFlushed (new_file c.args.options.now) c.args.options.now.limit [] c.in-Ok.created.2 v []) (sym c.in-Ok-seats.ensures.same) c.in-Ok.ensures.created in
    ran_of image c.run_all-written.result.0 c.run_all-written.result.1 c.run_all-written.result.2 (new_file c.args.options.now) c.args.options.now.limit c.args.batches.now c.as_slice.result.now c.as_slice-2.result.now
    c.args.readers.attempts c.args.readers.count c.args.readers.mirrors c.args.readers.polls n seen c.requires.options.typed c.requires.attempts.some
    (created_seen (new_file c.args.options.now) c.args.options.now.limit c.in-Ok.created.2 c.in-Ok.created.1 [] c.in-Ok.ensures.created) c.as_slice.ensures c.as_slice-2.ensures c.in-Ok-seats.ensures.count
    (c.run_all-written.ensures.written (new_file c.args.options.now) c.args.options.now.limit flushed)
    (c.run_all-written.ensures.ended seen c.in-Ok-seats.ensures.seen)
    (subst (λ (k : ℕ). IsBeside (rules_of (record { name = c.as_slice-2.result; attempts = c.args.readers.attempts; count = c.args.readers.polls })) image n c.args.readers.polls k seen c.run_all-written.result.2) c.in-Ok-seats.ensures.watchers
    (c.run_all-written.ensures.beside seen (c.in-Ok-seats.ensures.others seen c.in-Ok.ensures.has)))

pub returns : goal.returns
returns g c =
    let image = c.in-Ok.created.0 in
    let seen = c.in-Ok.created.1.seen in
    let n = vec_len c.in-Ok-seats.seats in
    let flushed = subst (λ (v : SeatView). HasFlushed (new_file c.args.options.now) c.args.options.now.limit [] c.in-Ok.created.2 v []) (sym c.in-Ok-seats.ensures.same) c.in-Ok.ensures.created in
    let ran =
    ran_of image c.run_all-written.result.0 c.run_all-written.result.1 c.run_all-written.result.2 (new_file c.args.options.now) c.args.options.now.limit c.args.batches.now c.as_slice.result.now c.as_slice-2.result.now
    c.args.readers.attempts c.args.readers.count c.args.readers.mirrors c.args.readers.polls n seen c.requires.options.typed c.requires.attempts.some
    (created_seen (new_file c.args.options.now) c.args.options.now.limit c.in-Ok.created.2 c.in-Ok.created.1 [] c.in-Ok.ensures.created) c.as_slice.ensures c.as_slice-2.ensures c.in-Ok-seats.ensures.count
    (c.run_all-written.ensures.written (new_file c.args.options.now) c.args.options.now.limit flushed)
    (c.run_all-written.ensures.ended seen c.in-Ok-seats.ensures.seen)
    (subst (λ (k : ℕ). IsBeside (rules_of (record { name = c.as_slice-2.result; attempts = c.args.readers.attempts; count = c.args.readers.polls })) image n c.args.readers.polls k seen c.run_all-written.result.2) c.in-Ok-seats.ensures.watchers
    (c.run_all-written.ensures.beside seen (c.in-Ok-seats.ensures.others seen c.in-Ok.ensures.has))) in
    let told = all_told (new_file c.args.options.now) c.args.batches.now c.args.readers.attempts (c.args.readers.count + c.args.readers.mirrors) c.args.readers.polls c.finish.result (c.finish.ensures.reports ran) in
    record { agrees = told.0; whole = told.1; shut = told.2; seats = told.3; accepted = c.finish.ensures.accepted ran; cause = c.finish.ensures.cause ran }
