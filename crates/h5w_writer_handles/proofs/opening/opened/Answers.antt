use Rattle.std.proofs.Common.{rules, ◌<◌, ◌^◌, length}
use Rattle.h5w_writer_handles.proofs.HoldLemmas.{is_opened}
use Rattle.h5w_writer_handles.proofs.opening.opened.Goals as goal

pub returns : goal.returns
returns c =
    let short : length c.args.bytes.now < 2 ^ 64 = search rules in
    is_opened c.args.bytes.now c.args.name.now c.args.limit c.args.budget c.open.result short c.open.ensures.exact c.open.ensures.kinds c.open.ensures.cause c.open.ensures.begun c.open.ensures.stands
