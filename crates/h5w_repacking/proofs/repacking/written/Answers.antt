use Rattle.std.proofs.Common.{◌≡◌, Err, rules}
use Rattle.h5w_repacking.proofs.PackLemmas.{writes_planned, writes_unplanned}
use Rattle.h5w_repacking.proofs.repacking.written.Goals as goal

pub returns-in_err-packing : goal.returns-in_err-packing
returns-in_err-packing g c =
    let is : c.from_residual.result ≡ Err c.in_err-packing.field-0.0 = search rules in
    rw is (writes_unplanned c.args.rewrite.file.now c.args.rewrite.to.now c.args.rewrite.limit c.args.rewrite.ranges c.args.found.now c.args.text.now.items (g.D.Disk.view c.args.disk.now) c.in_err-packing.field-0.0 c.in_err-packing.ensures)

pub returns : goal.returns
returns g c =
    writes_planned c.args.rewrite.file.now c.args.rewrite.to.now c.args.rewrite.limit c.args.rewrite.ranges c.args.found.now c.fill.new.text.items (g.D.Disk.view c.args.disk.now) (g.D.Disk.view c.fill.new.disk) c.in_ok-packing.packing c.fill.result
    c.in_ok-packing.ensures.0 c.fill.ensures.copies c.fill.ensures.text
