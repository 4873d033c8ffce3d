use Rattle.std.proofs.Common.{◌∙◌, arith}
use Rattle.h5w_appending.proofs.PutLemmas.{puts_there}
use Rattle.h5w_appending.proofs.CreateLemmas.{ends_at, few_put, sized_at, up_to_more}
use Rattle.h5w_appending.proofs.creating.put_all.Goals as goal

pub put-requires-clause-there : goal.put-requires-clause-there
put-requires-clause-there g c = puts_there c.args.file.now c.loop-w.invariant.before.puts c.loop-w.invariant.before.disk c.requires.there

pub put-requires-clause-some : goal.put-requires-clause-some
put-requires-clause-some g c = sized_at c.args.writes.now c.loop-w.w-index c.w-item.result c.requires.sized c.loop-w-test.true c.w-item.is

pub put-requires-clause-end : goal.put-requires-clause-end
put-requires-clause-end g c =
    let ends = c.loop-w.invariant.before.ends in
    omega (arith, ends_at ((g.D.Disk.view c.args.disk.now).end c.args.file.now) c.args.writes.now c.loop-w.w-index c.w-item.result c.requires.ends c.loop-w-test.true c.w-item.is, ends)

pub returns-in-Err-clause-few : goal.returns-in-Err-clause-few
returns-in-Err-clause-few g c =
    few_put c.args.file.now c.args.writes.now c.loop-w.w-index c.loop-w-test.true c.loop-w.invariant.before c.in-Err.ensures.same c.in-Err.ensures.cause

pub loop-w-preserved : goal.loop-w-preserved
loop-w-preserved g c =
    let i = c.loop-w.invariant in
    record {
      before = up_to_more c.args.file.now c.args.writes.now c.loop-w.w-index c.w-item.result c.loop-w-test.true c.w-item.is i.calm i.before c.in-Ok.ensures.put;
      calm = c.in-Ok.ensures.calm ∙ i.calm;
    }
