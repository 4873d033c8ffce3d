use Rattle.std.proofs.Common.{◌≡◌, ◌∙◌, sym, refl, ap, Ok, Err}
use Rattle.h5w_model.specs.Headers.{prefix_at}
use Rattle.h5w_reader.specs.Walking.{walked}
use Rattle.h5w_lookup.specs.Attempts.{known_of, rules_of}
use Rattle.h5w_reader.specs.Calling.{messages_rest, behind_rest, reached}
use Rattle.h5w_dataset.proofs.ListedLemmas.{prefix_never}
use Rattle.h5w_lookup.proofs.PieceLemmas.{along}
use Rattle.h5w_reader.proofs.CallLemmas.{behind_err, behind_long, behind_ok}
use Rattle.h5w_reader.proofs.behind.Behind.begin.Goals as goal

pub header_refusal-requires-clause-overrun : goal.header_refusal-requires-clause-overrun
header_refusal-requires-clause-overrun c = prefix_never c.as_slice-bytes.result.now c.in-Err.error (sym c.prefix.ensures.exact ∙ c.in-Err.is)

pub returns-in-Err : goal.returns-in-Err
returns-in-Err c =
    let v = c.args.view.now in
    let said : prefix_at v ≡ Err c.in-Err.error = rw (← c.as_slice-bytes.ensures) (sym c.prefix.ensures.exact ∙ c.in-Err.is) in
    rw c.in_ok-error-in-Err.ensures.exact (sym (behind_err (rules_of c.args.rules.now (known_of c.args.known.now)) v c.in-Err.error refl said))

pub returns-then-p : goal.returns-then-p
returns-then-p c =
    let v = c.args.view.now in
    let said : prefix_at v ≡ Ok c.in-Ok.p = rw (← c.as_slice-bytes.ensures) (sym c.prefix.ensures.exact ∙ c.in-Ok.is) in
    sym (behind_long (rules_of c.args.rules.now (known_of c.args.known.now)) v c.in-Ok.p refl said c.if-p.true)

pub returns : goal.returns
returns c =
    let g = rules_of c.args.rules.now (known_of c.args.known.now) in
    let v = c.args.view.now in
    let said : prefix_at v ≡ Ok c.in-Ok.p = rw (← c.as_slice-bytes.ensures) (sym c.prefix.ensures.exact ∙ c.in-Ok.is) in
    along (reached g) c.after_walk.result (messages_rest g (walked c.in_ok-walked.walked)) (behind_rest g v) c.after_walk.ensures
    (ap (messages_rest g) (c.in_ok-walked.ensures ∙ rw c.as_slice-bytes.ensures refl) ∙ sym (behind_ok g v c.in-Ok.p refl said c.if-p.false))
