use Rattle.std.proofs.Common.{sym, ◌∙◌, ap, inl, length}
use Rattle.std.proofs.lemmas.Result.{err_from_is_err_and}
use Rattle.h5w_model.specs.Headers.{msgs_in, messages_at, and_then, all_known}
use Rattle.h5w_ohdr.proofs.Read.{gives_by, refused_header, messages_by}
use Rattle.h5w_ohdr.proofs.reading.messages.Goals as goal

pub returns-in_err-p : goal.returns-in_err-p
returns-in_err-p c =
    let p = err_from_is_err_and c.from_residual.result c.from_residual.ensures.1 in
    record { exact = inl (rw (p.1, p.2) (sym (refused_header c.args.chunk.now c.in_err-p.field-0.0 (sym c.header.ensures.exact ∙ c.in_err-p.was)))) }

pub returns-in_err-walk : goal.returns-in_err-walk
returns-in_err-walk c =
    let p = err_from_is_err_and c.from_residual-in_err-walk.result c.from_residual-in_err-walk.ensures.1 in
    let whole = messages_by c.args.chunk.now c.in_ok-p.p c.inside-bytes.result.now c.before_data.result (sym c.header.ensures.exact ∙ c.in_ok-p.was) c.inside-bytes.ensures.bytes c.inside-bytes.ensures.length c.before_data.ensures.exact in
    record { exact = gives_by c.walk.result (msgs_in (length c.inside-bytes.result.now) c.before_data.result c.in_ok-p.p.at c.inside-bytes.result.now) (messages_at c.args.chunk.now) c.from_residual-in_err-walk.result c.walk.ensures.exact (rw (p.1, p.2) (ap (λ r. and_then r all_known) c.in_err-walk.was)) whole }

pub returns : goal.returns
returns c =
    let whole = messages_by c.args.chunk.now c.in_ok-p.p c.inside-bytes.result.now c.before_data.result (sym c.header.ensures.exact ∙ c.in_ok-p.was) c.inside-bytes.ensures.bytes c.inside-bytes.ensures.length c.before_data.ensures.exact in
    record { exact = gives_by c.walk.result (msgs_in (length c.inside-bytes.result.now) c.before_data.result c.in_ok-p.p.at c.inside-bytes.result.now) (messages_at c.args.chunk.now) c.all_known.result c.walk.ensures.exact (ap (λ r. and_then r all_known) c.in_ok-walk.was ∙ sym c.all_known.ensures) whole }
