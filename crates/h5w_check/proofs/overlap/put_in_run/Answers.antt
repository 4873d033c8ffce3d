use Rattle.std.proofs.Common.{◌<◌, ◌≤◌, arith}
use Rattle.h5w_check.proofs.VerdictLemmas.{runs_first, runs_second}
use Rattle.h5w_check.proofs.overlap.put_in_run.Goals as goal

pub returns-then-r : goal.returns-then-r
returns-then-r c = λ done h.
    let up : c.args.bound ≤ c.max.result = omega (arith, c.max.ensures) in
    let low : c.args.r.place < c.max.result = omega (arith, c.max.ensures, c.from-place.ensures) in
    rw c.in_ok-push.ensures.items (runs_second c.max.result c.args.r h up low)

pub returns : goal.returns
returns c = λ done h.
    let behind : c.args.bound ≤ c.args.r.place = omega (arith, c.from-place.ensures) in
    rw c.in_ok-push-2.ensures.items (runs_first c.args.r h behind)
