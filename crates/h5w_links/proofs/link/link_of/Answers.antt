use Rattle.std.proofs.Common.{◌≡◌, ◌+◌, length, take, drop, refl, ap, sym, ◌∙◌, arith}
use Rattle.std.proofs.lemmas.List.{drop-drop}
use Rattle.h5w_model.specs.Links.{link_flags, name_length, name_place}
use Rattle.h5w_model.proofs.LinkLemmas.{link_read, some_is}
use Rattle.h5w_links.proofs.link.link_of.Goals as goal

pub returns : goal.returns
returns c =
    let b = c.args.b.now in
    let flags : c.byte-flags.result ≡ link_flags b = c.byte-flags.ensures in
    let place : c.name_length_place-place.result + c.name_length_width-width.result ≡ name_place b = rw (c.name_length_place-place.ensures.exact, c.name_length_width-width.ensures.exact, flags) refl in
    let len : c.number-len.result ≡ name_length b = rw (c.number-len.ensures, c.name_length_place-place.ensures.exact, c.name_length_width-width.ensures.exact, flags) refl in
    let cut : length c.split_at.result.1.now + (c.name_length_place-place.result + c.name_length_width-width.result) ≡ length b = c.split_at.ensures.back_len in
    link_read b c.split_at-2.result.0.now c.split_at-2.result.1.now (c.name_length_place-place.result + c.name_length_width-width.result) c.number-len.result c.kind_of-kind.result c.in_ok-address.address
    (sym c.byte.ensures ∙ c.if-byte-ne1.false) place len c.kind_of-kind.ensures (omega arith) (c.split_at-2.ensures.front ∙ ap (take c.number-len.result) c.split_at.ensures.back)
    (c.split_at-2.ensures.back ∙ ap (drop c.number-len.result) c.split_at.ensures.back ∙ drop-drop c.number-len.result (c.name_length_place-place.result + c.name_length_width-width.result) b)
    c.in_ok-address.ensures.hard (λ z. some_is c.in_ok-address.address 0 (c.in_ok-address.ensures.other z))
