use Rattle.std.proofs.Common.{rules}
use Rattle.h5w_image.specs.View.{IsThere}
use Rattle.h5w_image.proofs.DiskLemmas.{there_kept, there_when_sized}
use Rattle.h5w_appending.proofs.OpenLemmas.{left_first, left_on, there_on}
use Rattle.h5w_several_appending.proofs.OpenLemmas.{begun_kept, opened_earlier, opened_kept, room_wanting, size_failed}
use Rattle.h5w_several_appending.proofs.opening.open.Goals as goal

pub returns-in-Err : goal.returns-in-Err
returns-in-Err g c = size_failed c.args.terms.file.now c.args.names.now c.size.ensures.same c.in-Err.ensures.cause

pub returns-in-Err-reserve : goal.returns-in-Err-reserve
returns-in-Err-reserve g c = room_wanting c.args.terms.file.now c.args.names.now (left_on c.size.ensures.same c.look_open.ensures.disk c.reserve.ensures.same)

pub returns : goal.returns
returns g c =
    let exact = rw c.in-Ok-Some.field-0-is at c.in-Ok-Some.ensures.exact in
    let sized : IsThere (g.D.Disk.view c.size.new.self) c.args.terms.file.now = there_when_sized c.args.terms.file.now _ c.size.ensures.same exact in
    let there = there_kept 0 c.args.terms.file.now c.reserve.ensures.same (there_on c.args.terms.file.now c.look_open.ensures.disk sized) in (
      opened_kept c.args.terms.file.now c.args.names.now c.args.terms.limit c.in-Ok.session c.retire.new.session c.retire.ensures (opened_earlier c.args.terms.file.now c.args.names.now c.args.terms.limit c.in-Ok.session (left_first c.size.ensures.same) c.in-Ok.ensures.opens.0),
      begun_kept c.args.terms.file.now c.args.names.now c.args.terms.limit c.args.terms.budget c.pending.result c.in-Ok.session c.retire.new.session c.in-Ok.ensures.opens.1 c.retire.ensures there c.pending.ensures c.in-Ok-reserve.ensures.pieces (search rules),
      left_on c.size.ensures.same c.look_open.ensures.disk c.reserve.ensures.same,
    )

pub reserve-requires : goal.reserve-requires
reserve-requires g c =
    let exact = rw c.in-Ok-Some.field-0-is at c.in-Ok-Some.ensures.exact in
    there_on c.args.terms.file.now c.look_open.ensures.disk (there_when_sized c.args.terms.file.now _ c.size.ensures.same exact)
