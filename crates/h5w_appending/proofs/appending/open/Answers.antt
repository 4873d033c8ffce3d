use Rattle.std.proofs.Common.{rules}
use Rattle.h5w_image.specs.View.{IsThere}
use Rattle.h5w_image.proofs.DiskLemmas.{there_kept, there_when_sized}
use Rattle.h5w_appending.proofs.OpenLemmas.{begun_ready, left_first, left_on, opened_begun, there_on, open_failed, open_wanting, opened_before, opened_keeping}
use Rattle.h5w_appending.proofs.appending.open.Goals as goal

pub returns-in-Err : goal.returns-in-Err
returns-in-Err g c = open_failed c.args.terms.file.now c.args.name.now c.size.ensures.same c.in-Err.ensures.cause

pub returns-in-Err-reserve : goal.returns-in-Err-reserve
returns-in-Err-reserve g c = open_wanting c.args.terms.file.now c.args.name.now (left_on c.size.ensures.same c.look_open.ensures.disk c.reserve.ensures.same)

pub returns : goal.returns
returns g c =
    let exact = rw c.in-Ok-Some.field-0-is at c.in-Ok-Some.ensures.exact in
    let sized : IsThere (g.D.Disk.view c.size.new.self) c.args.terms.file.now = there_when_sized c.args.terms.file.now _ c.size.ensures.same exact in
    let there = there_kept 0 c.args.terms.file.now c.reserve.ensures.same (there_on c.args.terms.file.now c.look_open.ensures.disk sized) in (
      opened_keeping c.args.terms.file.now c.args.name.now c.args.terms.limit c.args.terms.budget c.args.terms.keeps c.in-Ok.session c.retire.new.session c.retire.ensures.session c.retire.ensures.stands (opened_before c.args.terms.file.now c.args.name.now c.args.terms.limit c.args.terms.budget c.in-Ok.session (left_first c.size.ensures.same) c.in-Ok.ensures.opens),
      begun_ready c.args.terms.file.now c.args.name.now c.args.terms.limit c.args.terms.budget c.pending.result c.args.terms.keeps c.in-Ok.session c.retire.new.session (opened_begun c.in-Ok.ensures.opens) c.retire.ensures.session there c.pending.ensures c.in-Ok-reserve.ensures.pieces (search rules),
      left_on c.size.ensures.same c.look_open.ensures.disk c.reserve.ensures.same,
    )

pub reserve-requires : goal.reserve-requires
reserve-requires g c =
    let exact = rw c.in-Ok-Some.field-0-is at c.in-Ok-Some.ensures.exact in
    there_on c.args.terms.file.now c.look_open.ensures.disk (there_when_sized c.args.terms.file.now _ c.size.ensures.same exact)
