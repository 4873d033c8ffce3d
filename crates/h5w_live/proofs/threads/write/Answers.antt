use Rattle.std.proofs.Common.{subst, sym}
use Rattle.h5w_shared.specs.Seats.{SeatView}
use Rattle.h5w_live.specs.Reports.{HasPutAll}
use Rattle.h5w_live.proofs.threads.write.Goals as goal

pub put_all-lines-requires-clause-image : goal.put_all-lines-requires-clause-image
put_all-lines-requires-clause-image g c κs within = c.requires.image

pub put_all-lines-requires-clause-rows : goal.put_all-lines-requires-clause-rows
put_all-lines-requires-clause-rows g c κs within = c.requires.rows

pub put_all-lines-requires-clause-created : goal.put_all-lines-requires-clause-created
put_all-lines-requires-clause-created g c κs within = c.requires.created

pub returns : goal.returns
returns g c = λ f most h.
    subst (λ (s : SeatView). HasPutAll f most c.args.writer.batches.now c.args.writer.image.now (record { seat = s; session = c.put_all-lines.new.session; lines = c.put_all-lines.result })) (sym c.send.ensures.same)
    (record {
      image = c.put_all-lines.ensures.image;
      flushed = c.put_all-lines.ensures.flushed f most h;
      accepted = c.put_all-lines.ensures.accepted f most h;
      refused = c.put_all-lines.ensures.refused f most h;
      failed = c.put_all-lines.ensures.failed;
    })
