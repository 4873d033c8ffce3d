use Rattle.std.proofs.Common.{◌∙◌, refl, arith}
use Rattle.h5w_appending.proofs.PutLemmas.{none_left, puts_there}
use Rattle.h5w_several_writer_laws.specs.Sessions.{all_pending}
use Rattle.h5w_several_appending.proofs.PutLemmas.{end_left, puts_none, puts_then, room_left, some_then}
use Rattle.h5w_several_appending.proofs.putting.put_pending.Goals as goal

pub loop-init : goal.loop-init
loop-init g c = record { before = puts_none c.args.file.now c.args.session.now (record { told = refl; faults = omega arith; through = refl }) (omega arith) (omega arith); left = omega arith; count = c.pending-end.ensures; calm = refl }

pub put_next-requires-clause-there : goal.put_next-requires-clause-there
put_next-requires-clause-there g c = puts_there c.args.file.now c.loop.invariant.before.puts c.loop.invariant.before.disk c.requires.there

pub put_next-requires-clause-some : goal.put_next-requires-clause-some
put_next-requires-clause-some g c = let i = c.loop.invariant in let sum = i.left in let same = i.count in omega (arith, sum, same, c.loop-test.true)

pub put_next-requires-clause-room : goal.put_next-requires-clause-room
put_next-requires-clause-room g c =
    let i = c.loop.invariant in
    let sum = i.left in
    let same = i.count in
    let room = room_left c.args.file.now c.args.session.now c.loop.session i.before c.requires.room in
    omega (arith, sum, same, room, c.loop-test.true)

pub put_next-requires-clause-end : goal.put_next-requires-clause-end
put_next-requires-clause-end g c = end_left c.args.file.now c.args.session.now c.loop.session c.loop.invariant.before c.requires.end

pub returns-in-Err-clause-failed : goal.returns-in-Err-clause-failed
returns-in-Err-clause-failed g c = some_then c.args.file.now c.args.session.now c.loop.session c.put_next.new.session c.loop.invariant.calm c.loop.invariant.before c.in-Err.ensures.failed

pub loop-preserved : goal.loop-preserved
loop-preserved g c =
    let i = c.loop.invariant in
    let sum = i.left in
    let one = c.in-Ok.ensures.one in
    record {
      before = puts_then c.args.file.now c.args.session.now c.loop.session c.put_next.new.session i.calm i.before c.in-Ok.ensures.puts;
      left = omega (arith, sum, one);
      count = i.count;
      calm = c.in-Ok.ensures.calm ∙ i.calm;
    }

pub returns-clause-puts : goal.returns-clause-puts
returns-clause-puts g c = c.loop.invariant.before

pub returns-clause-all : goal.returns-clause-all
returns-clause-all g c =
    let i = c.loop.invariant in
    let sum = i.left in
    let same = i.count in
    none_left (all_pending c.loop.session.parts) (omega (arith, sum, same, c.loop-test.false))
