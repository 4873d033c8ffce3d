use Rattle.std.proofs.Common.{◌≡◌, Err, List, drop, refl, sym, ◌∙◌, subst, rules}
use Rattle.h5w_image.proofs.DiskLemmas.{rose_from}
use Rattle.h5w_packing.specs.declared.job.Job.{Job}
use Rattle.h5w_repack.proofs.CopyLemmas.{Copying, copying_ends, copying_fails, copying_first, copying_next, fewer_left, next_fits, next_room}
use Rattle.h5w_repack.proofs.copying.do_all.Goals as goal

pub loop-job-init : goal.loop-job-init
loop-job-init g c = record { copying = copying_first c.args.packing.now.left c.args.packing.now.end (g.P.Pair.view c.args.pair.now) c.requires.pieces c.requires.end; ranges = refl }

pub do_job-requires-clause-sized : goal.do_job-requires-clause-sized
do_job-requires-clause-sized g c = next_fits c.args.packing.now.left c.loop-job.packing.left c.args.packing.now.end c.in-Some.job c.requires.prepared.sized c.loop-job.invariant.copying (sym c.next.ensures ∙ c.in-Some.is)

pub do_job-requires-clause-pieces : goal.do_job-requires-clause-pieces
do_job-requires-clause-pieces g c = next_room c.args.packing.now.left c.loop-job.packing.left c.args.packing.now.end c.in-Some.job c.loop-job.invariant.copying (sym c.next.ensures ∙ c.in-Some.is)

pub returns-in_err-do_job-clause-ranges : goal.returns-in_err-do_job-clause-ranges
returns-in_err-do_job-clause-ranges g c = c.loop-job.invariant.ranges

pub returns-in_err-do_job-clause-partly : goal.returns-in_err-do_job-clause-partly
returns-in_err-do_job-clause-partly g c =
    let is : c.from_residual.result ≡ Err c.in_err-do_job.field-0.0 = search rules in
    let before = c.requires.prepared in
    rw is (copying_fails c.args.packing.now.left c.loop-job.packing.left before.body before.last c.args.packing.now.end c.in-Some.job c.loop-job.invariant.copying (sym c.next.ensures ∙ c.in-Some.is) before.ordered before.behind c.in_err-do_job.ensures.kept)

pub returns-in_err-do_job-clause-from_fault : goal.returns-in_err-do_job-clause-from_fault
returns-in_err-do_job-clause-from_fault g c e =
    let is : c.from_residual.result ≡ Err c.in_err-do_job.field-0.0 = search rules in
    let u = (g.P.Pair.view c.args.pair.now) in
    let v = (g.P.Pair.view c.loop-job.pair) in
    let w = (g.P.Pair.view c.do_job.new.pair) in
    rose_from u.from.faults v.from.faults w.from.faults c.loop-job.invariant.copying.done.carries.from.faults (c.in_err-do_job.ensures.from_fault (sym is ∙ e))

pub returns-in_err-do_job-clause-to_fault : goal.returns-in_err-do_job-clause-to_fault
returns-in_err-do_job-clause-to_fault g c e =
    let is : c.from_residual.result ≡ Err c.in_err-do_job.field-0.0 = search rules in
    let u = (g.P.Pair.view c.args.pair.now) in
    let v = (g.P.Pair.view c.loop-job.pair) in
    let w = (g.P.Pair.view c.do_job.new.pair) in
    rose_from u.to.faults v.to.faults w.to.faults c.loop-job.invariant.copying.done.carries.wrote.faults (c.in_err-do_job.ensures.to_fault (sym is ∙ e))

pub loop-job-smaller : goal.loop-job-smaller
loop-job-smaller g c = fewer_left c.loop-job.packing.left c.done.new.self.left c.in-Some.job (sym c.next.ensures ∙ c.in-Some.is) c.done.ensures.left

pub loop-job-preserved : goal.loop-job-preserved
loop-job-preserved g c =
    let next : Copying c.args.packing.now.left (drop 1 c.loop-job.packing.left) c.args.packing.now.end (g.P.Pair.view c.args.pair.now) (g.P.Pair.view c.do_job.new.pair) =
    copying_next c.args.packing.now.left c.loop-job.packing.left c.args.packing.now.end c.in-Some.job c.loop-job.invariant.copying (sym c.next.ensures ∙ c.in-Some.is) c.in_ok-do_job.ensures.done in
    record {
      copying = subst (λ (left : List Job). Copying c.args.packing.now.left left c.args.packing.now.end (g.P.Pair.view c.args.pair.now) (g.P.Pair.view c.do_job.new.pair)) (sym c.done.ensures.left) next;
      ranges = c.done.ensures.ranges ∙ c.loop-job.invariant.ranges;
    }

pub returns-clause-done : goal.returns-clause-done
returns-clause-done g c = copying_ends c.args.packing.now.left c.loop-job.packing.left c.args.packing.now.end c.loop-job.invariant.copying (sym c.next.ensures ∙ c.in_default.is)

pub returns-clause-ranges : goal.returns-clause-ranges
returns-clause-ranges g c = c.loop-job.invariant.ranges
