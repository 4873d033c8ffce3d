use Rattle.std.proofs.Common.{◌≡◌, ◌-◌, ◌∙◌, ◌∷◌, [], ◌++◌, take, sym, ap, length, inr, Ok, Err}
use Rattle.h5w_model.specs.Headers.{prefix_at, zeros}
use Rattle.h5w_model.specs.declared.refusal.HeaderError.TheVariants.{Signature, Version}
use Rattle.h5w_lookup.specs.Looks.{FitsLook}
use Rattle.h5w_lookup.proofs.PieceLemmas.{told}
use Rattle.h5w_reader.proofs.ViewLemmas.{signature_long, version_long, front_short, prefix_more}
use Rattle.h5w_reader.proofs.view.header_view.Goals as goal

pub returns-in-Ok-clause-fits : goal.returns-in-Ok-clause-fits
returns-in-Ok-clause-fits c =
    let look = c.args.look.now in
    let e : prefix_at look ≡ Ok c.in-Ok.p = rw (← c.as_slice-b.ensures.value) (sym c.prefix.ensures.exact ∙ c.in-Ok.is) in
    told c.filled.result (look ++ zeros (512 - length look)) (λ v. FitsLook (prefix_at look) (prefix_at v) (length v) (length look)) (rw (← c.as_slice-b.ensures.value) c.filled.ensures)
    (rw e (inr (c.if-p.true, prefix_more look (zeros (512 - length look)) c.in-Ok.p e)))

pub front-requires : goal.front-requires
front-requires c = signature_long c.as_slice-b.result.now (sym c.prefix.ensures.exact ∙ c.in-Err.is ∙ ap Err c.in-Signature.is)

pub front-requires-in-Version : goal.front-requires-in-Version
front-requires-in-Version c = version_long c.as_slice-b.result.now c.in-Version.field-0 (sym c.prefix.ensures.exact ∙ c.in-Err.is ∙ ap Err c.in-Version.is)

pub returns-in-Signature-clause-fits : goal.returns-in-Signature-clause-fits
returns-in-Signature-clause-fits c =
    let look = c.args.look.now in
    let e : prefix_at look ≡ Err Signature = rw (← c.as_slice-b.ensures.value) (sym c.prefix.ensures.exact ∙ c.in-Err.is ∙ ap Err c.in-Signature.is) in
    let long = signature_long look e in
    told c.front.result (take 5 look ++ 0 ∷ []) (λ v. FitsLook (prefix_at look) (prefix_at v) (length v) (length look)) (rw (← c.as_slice-b.ensures.value) c.front.ensures) (rw e (front_short look long))

pub returns-in-Version-clause-fits : goal.returns-in-Version-clause-fits
returns-in-Version-clause-fits c =
    let look = c.args.look.now in
    let e : prefix_at look ≡ Err (Version c.in-Version.field-0) = rw (← c.as_slice-b.ensures.value) (sym c.prefix.ensures.exact ∙ c.in-Err.is ∙ ap Err c.in-Version.is) in
    let long = version_long look c.in-Version.field-0 e in
    told c.front-in-Version.result (take 5 look ++ 0 ∷ []) (λ v. FitsLook (prefix_at look) (prefix_at v) (length v) (length look)) (rw (← c.as_slice-b.ensures.value) c.front-in-Version.ensures) (rw e (front_short look long))
