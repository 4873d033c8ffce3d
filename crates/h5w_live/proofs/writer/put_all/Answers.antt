use Rattle.std.proofs.Common.{rules, take, []}
use Rattle.h5w_live.proofs.WriterLemmas.{batch_here, explains_here, put_accepted_all, put_first, put_flushed_all, put_more}
use Rattle.h5w_live.proofs.writer.put_all.Goals as goal

pub loop-batch-init : goal.loop-batch-init
loop-batch-init g c = (c.requires.image, λ f most h. put_first f most c.args.batches.now c.args.session.now c.args.seat.now c.new-lines.result.items c.new-lines.ensures.items h)

pub put_next-requires-clause-rows : goal.put_next-requires-clause-rows
put_next-requires-clause-rows g c κs within =
    let h = c.requires.created in
    batch_here h.0 h.1 c.args.batches.now c.loop-batch.batch c.batch_at-values.result.now c.args.session.now c.loop-batch.session c.args.seat.now c.loop-batch.seat c.loop-batch.lines.items c.requires.rows h.2
    (c.loop-batch.invariant.1 h.0 h.1 h.2).flushed (c.batch_at-values.ensures []) c.loop-batch-test.true

pub put_next-requires-clause-flushed : goal.put_next-requires-clause-flushed
put_next-requires-clause-flushed g c κs within =
    let h = c.requires.created in
    (h.0, h.1, take c.loop-batch.batch c.args.batches.now, (c.loop-batch.invariant.1 h.0 h.1 h.2).flushed)

pub loop-batch-preserved : goal.loop-batch-preserved
loop-batch-preserved g c = (
  c.put_next.ensures.image,
  λ f most h.
      let p = c.loop-batch.invariant.1 f most h in
      put_more f most c.args.batches.now c.loop-batch.batch c.batch_at-values.result.now c.loop-batch.session c.put_next.new.session c.loop-batch.seat c.put_next.new.seat c.loop-batch.lines.items c.put_next.new.lines.items (c.batch_at-values.ensures []) c.loop-batch-test.true p
      (c.in-Ok.ensures.flushed f most (take c.loop-batch.batch c.args.batches.now) p.flushed) (c.in-Ok.ensures.accepted f most (take c.loop-batch.batch c.args.batches.now) p.flushed),
)

pub returns-in-Err-clause-refused : goal.returns-in-Err-clause-refused
returns-in-Err-clause-refused g c = λ f most h.
    let p = c.loop-batch.invariant.1 f most h in
    explains_here f most c.args.batches.now c.loop-batch.batch c.batch_at-values.result.now c.in-Err.halt (c.batch_at-values.ensures []) c.loop-batch-test.true p.accepted
    (c.in-Err.ensures.refused f most (take c.loop-batch.batch c.args.batches.now) p.flushed)

pub returns-clause-flushed : goal.returns-clause-flushed
returns-clause-flushed g c = λ f most h.
    put_flushed_all f most c.args.batches.now c.loop-batch.batch c.loop-batch.session c.loop-batch.seat c.loop-batch.lines.items (search rules) (c.loop-batch.invariant.1 f most h)

pub returns-clause-accepted : goal.returns-clause-accepted
returns-clause-accepted g c = λ f most h.
    put_accepted_all f most c.args.batches.now c.loop-batch.batch c.loop-batch.session c.loop-batch.seat c.loop-batch.lines.items (search rules) (c.loop-batch.invariant.1 f most h)
