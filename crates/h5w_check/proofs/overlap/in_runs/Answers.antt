use Rattle.std.proofs.Common.{◌≡◌, ◌∙◌, ◌<◌, ap, length, take, ◌++◌, List, arith}
use Rattle.h5w_check.specs.declared.ranges.Range.{Range}
use Rattle.h5w_check.proofs.VerdictLemmas.{runs_none, runs_next, runs_end}
use Rattle.h5w_check.proofs.overlap.in_runs.Goals as goal

pub loop-r-init : goal.loop-r-init
loop-r-init c = rw (c.new-runs.ensures.items, c.new-others.ensures.items) runs_none

pub loop-r-preserved : goal.loop-r-preserved
loop-r-preserved c =
    let l = c.loop-r in
    let lt : l.r-index < length c.args.ranges.now = omega arith in
    runs_next _ l.r-index _ c.args.ranges.now _ _ lt (c.in_ok-bound.ensures (take l.r-index c.args.ranges.now) l.invariant)

pub returns : goal.returns
returns c =
    let l = c.loop-r in
    let end : length c.args.ranges.now ≡ l.r-index = omega arith in
    runs_end l.bound l.r-index c.args.ranges.now l.runs.items l.others.items _ end l.invariant
    (c.in_ok-extend_from_slice.ensures.items ∙ ap (λ (xs : List Range). l.runs.items ++ xs) c.deref.ensures.value)
