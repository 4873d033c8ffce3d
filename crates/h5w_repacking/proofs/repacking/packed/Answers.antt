use Rattle.std.proofs.Common.{◌≡◌, [], Err, rules}
use Rattle.h5w_repacking.proofs.NewLemmas.{new_apart, new_there}
use Rattle.h5w_repacking.proofs.PackLemmas.{packs_made, packs_unmade}
use Rattle.h5w_repacking.proofs.repacking.packed.Goals as goal

pub written-requires-clause-from : goal.written-requires-clause-from
written-requires-clause-from g c = new_there {u = g.D.Disk.view c.args.disk.now} {v = g.D.Disk.view c.make.new.disk} c.args.rewrite.file.now c.args.rewrite.to.now [] c.requires.from c.in_ok-make.ensures.0

pub written-requires-clause-apart : goal.written-requires-clause-apart
written-requires-clause-apart g c = new_apart {u = g.D.Disk.view c.args.disk.now} {v = g.D.Disk.view c.make.new.disk} c.args.rewrite.file.now c.args.rewrite.to.now [] c.requires.from c.in_ok-make.ensures.0

pub returns-in_err-make : goal.returns-in_err-make
returns-in_err-make g c =
    let is : c.from_residual.result ≡ Err c.in_err-make.field-0.0 = search rules in
    rw is (packs_unmade c.args.rewrite.file.now c.args.rewrite.to.now c.args.rewrite.limit c.args.rewrite.ranges c.args.found.now c.args.text.now.items (g.D.Disk.view c.args.disk.now) (g.D.Disk.view c.make.new.disk) c.in_err-make.field-0.0 c.in_err-make.ensures)

pub returns : goal.returns
returns g c =
    packs_made c.args.rewrite.file.now c.args.rewrite.to.now c.args.rewrite.limit c.args.rewrite.ranges c.args.found.now c.written.new.text.items (g.D.Disk.view c.args.disk.now) (g.D.Disk.view c.make.new.disk) (g.D.Disk.view c.written.new.disk) c.written.result
    c.in_ok-make.ensures.0 c.written.ensures
