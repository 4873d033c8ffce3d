use Rattle.std.proofs.Common.{◌∙◌, ap, length}
use Rattle.h5w_several_creation.proofs.SetLemmas.{header_is_long}
use Rattle.h5w_several_creating.proofs.parts.mold_of.Goals as goal

pub returns-clause-mold : goal.returns-clause-mold
returns-clause-mold c =
    let one = c.in_ok-one.ensures in
    record { form = c.requires; grid = one.grid; dataset = one.dataset; long = c.len.ensures.value ∙ ap length one.header ∙ header_is_long c.args.form.now c.requires }
