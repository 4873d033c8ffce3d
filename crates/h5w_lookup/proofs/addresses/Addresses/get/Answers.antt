use Rattle.std.proofs.Common.{◌+◌, ◌*◌, ◌∙◌, ap, sym, arith}
use Rattle.h5w_model.specs.Numbers.{field, undefined}
use Rattle.h5w_lookup.proofs.AddressLemmas.{number_at, number_behind}
use Rattle.h5w_lookup.proofs.addresses.Addresses.get.Goals as goal

pub returns-then-i-self : goal.returns-then-i-self
returns-then-i-self c =
    let s = c.args.self.now in
    c.slot.ensures ∙ ap (λ b. field b (18 + 8 * c.args.i) 8) c.as_slice.ensures.value ∙ sym (number_at s.bytes.items s.n 18 c.args.i undefined (omega arith))

pub returns-else-i-self : goal.returns-else-i-self
returns-else-i-self c =
    let s = c.args.self.now in
    sym (number_behind s.bytes.items s.n 18 c.args.i undefined (omega arith))
