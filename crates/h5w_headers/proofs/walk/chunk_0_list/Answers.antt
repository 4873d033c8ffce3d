use Rattle.std.proofs.Common.{◌≡◌, ◌∙◌, inl, inr, Err, sym, ap, rules}
use Rattle.h5w_headers.specs.Walks.{known_by}
use Rattle.h5w_headers.proofs.KnownLemmas.{known_err}
use Rattle.h5w_headers.proofs.walk.chunk_0_list.Goals as goal

pub returns-in_err-msgs : goal.returns-in_err-msgs
returns-in_err-msgs c =
    let w = c.args.writing in
    let e = c.in_err-msgs.field-0.0 in
    let is : c.from_residual.result ≡ Err e = search rules in
    rw is (elim c.in_err-msgs.ensures.exact [ inl h ↦ inl (sym (known_err w e) ∙ ap (known_by w) h) | inr h ↦ inr h ])

pub returns : goal.returns
returns c = elim c.in_ok-msgs.ensures.exact [ inl h ↦ inl (c.known_by.ensures ∙ ap (known_by c.args.writing) h) | inr h ↦ absurd cc ]
