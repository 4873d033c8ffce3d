use Rattle.std.proofs.Common.{drop, length, ap, arith}
use Rattle.h5w_writer.proofs.LawLemmas.{room_stays}
use Rattle.h5w_steady.specs.Steady.{steady}
use Rattle.h5w_writer.proofs.StateLemmas.{oldest}
use Rattle.h5w_make.proofs.BatchLemmas.{shows_done, shows_first, shows_next, stands_done}
use Rattle.h5w_make.proofs.batch.show_all.Goals as goal
use Rattle.h5w_writer_laws.proofs.PieceLemmas.{after_pending, no_piece}

pub loop-w-init : goal.loop-w-init
loop-w-init c = shows_first c.args.session.now c.args.image.now c.requires.some c.requires.room

pub loop-w-preserved : goal.loop-w-preserved
loop-w-preserved c =
    let t = c.loop-w.session in
    let w = c.in-Some.w.now in
    let ws = drop 1 t.pending in
    let pending = oldest w t.pending c.in-Some.ensures.oldest in
    let piece = c.written.ensures.piece w ws pending in
    shows_next c.args.session.now t c.written.new.self c.args.image.now c.loop-w.image c.put.new.self w ws c.loop-w.invariant pending piece c.put.ensures (c.written.ensures.stands w ws pending)
    (room_stays t c.written.new.self w ws (steady c.loop-w.image) (steady c.put.new.self) pending c.loop-w.invariant.room piece c.put.ensures)

pub loop-w-smaller : goal.loop-w-smaller
loop-w-smaller c =
    let t = c.loop-w.session in
    let w = c.in-Some.w.now in
    let ws = drop 1 t.pending in
    let pending = oldest w t.pending c.in-Some.ensures.oldest in
    omega (arith, ap length pending, ap length (after_pending t c.written.new.self ws (c.written.ensures.piece w ws pending)))

pub returns-clause-image : goal.returns-clause-image
returns-clause-image c =
    shows_done c.args.session.now c.loop-w.session c.args.image.now c.loop-w.image c.loop-w.invariant (no_piece c.loop-w.session.pending c.in_default.ensures.oldest)

pub returns-clause-stands : goal.returns-clause-stands
returns-clause-stands c =
    stands_done c.args.session.now c.loop-w.session c.args.image.now c.loop-w.image c.loop-w.invariant (no_piece c.loop-w.session.pending c.in_default.ensures.oldest)
