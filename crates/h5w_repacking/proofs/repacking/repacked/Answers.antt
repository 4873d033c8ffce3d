use Rattle.std.proofs.Common.{◌≡◌, Err, List, ap, arith, length, rules, subst, sym}
use Rattle.h5w_packing.specs.SoFar.{AreSources}
use Rattle.h5w_packing.specs.declared.source.Source.{Source}
use Rattle.h5w_repack.proofs.RepackLemmas.{are_sources, names_count}
use Rattle.h5w_repacking.specs.Repacks.{PacksTo}
use Rattle.h5w_repacking.proofs.PackLemmas.{repacks_found, repacks_refused}
use Rattle.h5w_repacking.proofs.repacking.repacked.Goals as goal

pub packed-requires-clause-sources : goal.packed-requires-clause-sources
packed-requires-clause-sources g c =
    subst (λ (l : List Source). AreSources l) (sym c.deref.ensures.value) (are_sources c.args.names.now c.in_ok-found.found.items c.requires.names c.in_ok-found.ensures.sound)

pub packed-requires-clause-low : goal.packed-requires-clause-low
packed-requires-clause-low g c = omega (arith, ap length c.deref.ensures.value, names_count c.args.names.now c.in_ok-found.found.items c.in_ok-found.ensures.sound, c.requires.low)

pub returns-in_err-found : goal.returns-in_err-found
returns-in_err-found g c =
    let is : c.from_residual.result ≡ Err c.in_err-found.field-0.0 = search rules in
    rw is (repacks_refused {v = g.D.Disk.view c.args.disk.now} {w = g.D.Disk.view c.surveyed.new.disk} c.args.rewrite.file.now c.args.rewrite.to.now c.args.names.now c.args.rewrite.limit c.in_err-found.field-0.0 c.in_err-found.ensures)

pub returns : goal.returns
returns g c =
    let v = g.D.Disk.view c.surveyed.new.disk in
    let w = g.D.Disk.view c.packed.new.disk in
    repacks_found (g.D.Disk.view c.args.disk.now) v w c.args.rewrite.file.now c.args.rewrite.to.now c.args.names.now c.args.rewrite.limit c.args.rewrite.ranges c.in_ok-found.found c.packed.new.text.items c.in_ok-found.ensures c.packed.result
    (subst (λ (l : List Source). PacksTo c.args.rewrite.file.now c.args.rewrite.to.now c.args.rewrite.limit c.args.rewrite.ranges l v w c.packed.new.text.items c.packed.result) c.deref.ensures.value c.packed.ensures)
