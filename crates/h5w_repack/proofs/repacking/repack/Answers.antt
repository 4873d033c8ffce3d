use Rattle.std.proofs.Common.{◌≡◌, arith, length, List, [], Err, None, inr, ap, sym, ◌∙◌, subst, rules}
use Rattle.h5w_model.specs.Images.{image}
use Rattle.h5w_image.specs.View.{Wrote}
use Rattle.h5w_image.proofs.ViewLemmas.{looked_twice, same_itself, wrote_nothing}
use Rattle.h5w_looks.proofs.ReadLemmas.{still_on}
use Rattle.std.specs.Prelude.{map}
use Rattle.h5w_image.proofs.DiskLemmas.{rose_from}
use Rattle.h5w_packing.specs.Plans.{IsOut, IsPlanned, wanted_of}
use Rattle.h5w_packing.specs.SoFar.{AreSources}
use Rattle.h5w_packing.specs.declared.source.Source.{Source}
use Rattle.h5w_repack.specs.Errors.{of_copy, of_plan, of_survey}
use Rattle.h5w_repack.specs.Packed.{IsPacked}
use Rattle.h5w_repack.specs.Pairs.{PairView}
use Rattle.h5w_repack.specs.declared.error.RepackError.TheVariants as errors
use Rattle.h5w_repack.proofs.RepackLemmas.{are_sources, copy_error, copy_from, copy_to, late_or_none, names_count, out_by, packed_by, plan_error, same_error, unborn_bytes, writes_are, written_bytes, wrote_plain}
use Rattle.h5w_repack.proofs.repacking.repack.Goals as goal

pub plan-requires-clause-sources : goal.plan-requires-clause-sources
plan-requires-clause-sources g c =
    subst (λ (l : List Source). AreSources l) (sym c.deref.ensures.value) (are_sources c.args.names.now c.in_ok-found.found.items c.requires.names c.in_ok-found.ensures.sound)

pub plan-requires-clause-low : goal.plan-requires-clause-low
plan-requires-clause-low g c = omega (arith, ap length c.deref.ensures.value, names_count c.args.names.now c.in_ok-found.found.items c.in_ok-found.ensures.sound, c.requires.low)

pub returns-in_err-found-clause-before : goal.returns-in_err-found-clause-before
returns-in_err-found-clause-before g c =
    let is : c.from_residual.result ≡ Err (of_survey c.in_err-found.field-0.0) = search rules in
    rw is (inr (wrote_nothing (same_itself (g.O.PieceRead.view c.args.images.now.to))))

pub returns-in_err-packing-clause-refused : goal.returns-in_err-packing-clause-refused
returns-in_err-packing-clause-refused g c =
    let names = c.args.names.now in
    let limit = c.args.limit in
    let ss = c.in_ok-found.found.items in
    let e = c.in_err-packing.field-0.0 in
    let is : c.from_residual-in_err-packing.result ≡ Err (of_plan e) = search rules in
    rw is (λ img still. plan_error img names limit e (λ full same. out_by img names limit ss full (c.in_ok-found.ensures.step.exact img still)
    (subst (λ (l : List Source). IsOut (map wanted_of l) limit full) c.deref.ensures.value (c.in_err-packing.ensures.full full (ap Err same)))))

pub returns-in_err-copy-clause-looked : goal.returns-in_err-copy-clause-looked
returns-in_err-copy-clause-looked g c = looked_twice c.survey.ensures.step.looked c.in_err-copy.ensures.partly.carries.from

pub returns-in_err-copy-clause-refused : goal.returns-in_err-copy-clause-refused
returns-in_err-copy-clause-refused g c =
    let is : c.from_residual-in_err-copy.result ≡ Err (of_copy c.in_err-copy.field-0.0) = search rules in
    rw is (λ img still. copy_error img c.args.names.now c.args.limit c.in_err-copy.field-0.0)

pub returns-in_err-copy-clause-unborn : goal.returns-in_err-copy-clause-unborn
returns-in_err-copy-clause-unborn g c =
    let is : c.from_residual-in_err-copy.result ≡ Err (of_copy c.in_err-copy.field-0.0) = search rules in
    let some = c.in_err-copy.ensures.partly in
    let u = g.O.PieceRead.view c.args.images.now.to in
    let v = g.O.PieceRead.view c.copy.new.pair.to in
    rw is (λ b told. unborn_bytes u v some.writes b c.requires.empty some.behind (wrote_plain u v some.writes some.carries.wrote) told)

pub returns-in_err-copy-clause-before : goal.returns-in_err-copy-clause-before
returns-in_err-copy-clause-before g c =
    let e = c.in_err-copy.field-0.0 in
    let is : c.from_residual-in_err-copy.result ≡ Err (of_copy e) = search rules in
    let u = g.O.PieceRead.view c.args.images.now.to in
    let v = g.O.PieceRead.view c.copy.new.pair.to in
    rw is (late_or_none (Wrote [] u v) e (λ same. wrote_plain u v [] (c.in_err-copy.ensures.before (ap Err same)).wrote))

pub returns-in_err-copy-clause-from_fault : goal.returns-in_err-copy-clause-from_fault
returns-in_err-copy-clause-from_fault g c r =
    let e = c.in_err-copy.field-0.0 in
    let is : c.from_residual-in_err-copy.result ≡ Err (of_copy e) = search rules in
    let same = copy_from e (same_error (of_copy e) errors.From (sym is ∙ r)) in
    let u = g.I.PieceRead.view c.args.images.now.from in
    let v = g.I.PieceRead.view c.survey.new.from in
    let w = g.I.PieceRead.view c.copy.new.pair.from in
    rose_from u.faults v.faults w.faults c.survey.ensures.step.looked.faults (c.in_err-copy.ensures.from_fault (ap Err same))

pub returns-in_err-copy-clause-to_fault : goal.returns-in_err-copy-clause-to_fault
returns-in_err-copy-clause-to_fault g c r =
    let e = c.in_err-copy.field-0.0 in
    let is : c.from_residual-in_err-copy.result ≡ Err (of_copy e) = search rules in
    let same = copy_to e (same_error (of_copy e) errors.To (sym is ∙ r)) in
    c.in_err-copy.ensures.to_fault (ap Err same)

pub returns-clause-looked : goal.returns-clause-looked
returns-clause-looked g c = looked_twice c.survey.ensures.step.looked c.in_ok-copy.ensures.copied.carries.from

pub returns-clause-packed : goal.returns-clause-packed
returns-clause-packed g c img b still told =
    let names = c.args.names.now in
    let limit = c.args.limit in
    let ss = c.in_ok-found.found.items in
    let p = c.in_ok-packing.packing in
    let u : PairView = record { from = g.I.PieceRead.view c.survey.new.from; to = record (g.O.PieceRead.view c.args.images.now.to) { disk = None }; name = [] } in
    let v : PairView = record { from = g.I.PieceRead.view c.copy.new.pair.from; to = record (g.O.PieceRead.view c.copy.new.pair.to) { disk = None }; name = [] } in
    let there = still_on img c.survey.ensures.step.looked still in
    let found = c.in_ok-found.ensures.step.exact img still in
    let planned : IsPlanned (map wanted_of ss) limit p = subst (λ (l : List Source). IsPlanned (map wanted_of l) limit p) c.deref.ensures.value c.in_ok-packing.ensures.planned in
    let done = c.in_ok-copy.ensures.copied in
    let to_old = g.O.PieceRead.view c.args.images.now.to in
    let to_new = g.O.PieceRead.view c.copy.new.pair.to in
    let is : b ≡ image [] done.writes = written_bytes to_old to_new done.writes b c.requires.empty (wrote_plain to_old to_new done.writes done.carries.wrote) told in
    let all = is ∙ ap (λ ws. image [] ws) (writes_are img names limit ss p u v there found planned done) in
    subst (λ r. IsPacked img names limit r b) (sym (c.into_ranges.ensures ∙ c.copy.ensures.ranges)) (packed_by img names limit ss p u v b there found planned done all)
