use Rattle.std.proofs.Common.{◌≡◌, length, ap, ◌∙◌, arith}
use Rattle.h5w_model.proofs.ArrayLemmas.{length-numbers_in}
use Rattle.h5w_lookup.specs.Contents.{slots_in}
use Rattle.h5w_lookup.specs.declared.content.Content.{Content}
use Rattle.h5w_lookup.proofs.content.Content.put_slots.Goals as goal

pub put-requires : goal.put-requires
put-requires c =
    let a = c.in-Slots.addresses in
    let count : length (slots_in c.args.self.now) ≡ a.n = ap (λ (x : Content). length (slots_in x)) c.in-Slots.is ∙ length-numbers_in a.bytes.items a.n 18 in
    omega (arith, count, c.requires)
