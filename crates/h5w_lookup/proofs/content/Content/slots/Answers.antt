use Rattle.std.proofs.Common.{length, sym, ap, ◌∙◌}
use Rattle.h5w_model.proofs.ArrayLemmas.{length-numbers_in}
use Rattle.h5w_lookup.specs.Contents.{slots_in}
use Rattle.h5w_lookup.specs.declared.content.Content.{Content}
use Rattle.h5w_lookup.proofs.content.Content.slots.Goals as goal

pub returns-in-Slots : goal.returns-in-Slots
returns-in-Slots c =
    let a = c.in-Slots.addresses in
    sym (ap (λ (x : Content). length (slots_in x)) c.in-Slots.is ∙ length-numbers_in a.bytes.items a.n 18)
