use Rattle.std.proofs.Common.{rules, ◌<◌, ◌^◌, Bool, true, false, length, subst, sym}
use Rattle.h5w_several_handles.specs.Sets.{IsOpenedSet}
use Rattle.h5w_several_handles.proofs.HoldLemmas.{is_opened_set}
use Rattle.h5w_several_handles.proofs.opening.opened.Goals as goal

pub returns-then-takes : goal.returns-then-takes
returns-then-takes c =
    let short : length c.args.bytes.now < 2 ^ 64 = search rules in
    let r = c.takeover.ensures in
    subst (λ (takes : Bool). IsOpenedSet takes c.args.bytes.now c.args.names.now c.args.limit c.args.budget c.takeover.result) (sym c.if-takes.true)
    (is_opened_set true c.args.bytes.now c.args.names.now c.args.limit c.args.budget c.takeover.result short r.exact r.kinds r.cause r.begun r.stands)

pub returns-else-takes : goal.returns-else-takes
returns-else-takes c =
    let short : length c.args.bytes.now < 2 ^ 64 = search rules in
    let r = c.open.ensures in
    subst (λ (takes : Bool). IsOpenedSet takes c.args.bytes.now c.args.names.now c.args.limit c.args.budget c.open.result) (sym c.if-takes.false)
    (is_opened_set false c.args.bytes.now c.args.names.now c.args.limit c.args.budget c.open.result short r.exact r.kinds r.cause r.begun r.stands)
