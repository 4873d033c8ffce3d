use Rattle.std.proofs.Common.{◌∙◌, ℕ, List, Ok, Err, take, refl, sym, ap, inl}
use Rattle.h5w_model.specs.Numbers.{range}
use Rattle.h5w_model.specs.Headers.{prefix_at}
use Rattle.h5w_model.specs.Programs.{eval}
use Rattle.h5w_model.specs.Datasets.{header_refusal}
use Rattle.h5w_model.specs.declared.refusal.ReadError.TheVariants.{Unsupported}
use Rattle.h5w_headers.specs.Walks.{from_chunk_0_for}
use Rattle.h5w_dataset.proofs.ListedLemmas.{prefix_never}
use Rattle.h5w_headers.proofs.RanLemmas.{ran_end, ran_on, same_value}
use Rattle.h5w_headers.proofs.WalkLemmas.{header_kind, told_header, told_refused}
use Rattle.h5w_headers.proofs.HeaderLemmas.{dataset_short, dataset_long, dataset_err}
use Rattle.h5w_headers.proofs.header.dataset_header.Goals as goal

pub refused_header-requires-clause-overrun : goal.refused_header-requires-clause-overrun
refused_header-requires-clause-overrun g c = prefix_never c.deref.result.now c.in-Err.error (sym c.prefix.ensures.exact ∙ c.in-Err.is)

pub returns-in-Err-clause-kinds : goal.returns-in-Err-clause-kinds
returns-in-Err-clause-kinds g c = rw c.refused_header.ensures (header_kind c.args.place c.in-Err.error)

pub returns-in-Err-clause-ran : goal.returns-in-Err-clause-ran
returns-in-Err-clause-ran g c =
    let place = c.args.place in
    let b = c.in_ok-bytes.bytes.items in
    rw c.refused_header.ensures (ran_end (λ img. Ok (range img place 512)) b (Err (header_refusal place c.in-Err.error)) _ _ c.in_ok-bytes.ensures.ran (told_header _ place c.in-Err.error (inl refl))
    (λ img said. dataset_err img c.args.writing place c.in-Err.error (ap prefix_at (same_value (range img place 512) b said ∙ sym c.deref.ensures.value) ∙ sym c.prefix.ensures.exact ∙ c.in-Err.is)))

pub returns-then-p-clause-ran : goal.returns-then-p-clause-ran
returns-then-p-clause-ran g c =
    let place = c.args.place in
    let b = c.in_ok-bytes.bytes.items in
    let p = c.in-Ok.p in
    rw c.too_long.ensures (ran_end (λ img. Ok (range img place 512)) b (Err (Unsupported (record { 0 = 1 }))) _ _ c.in_ok-bytes.ensures.ran (told_refused _ (Unsupported (record { 0 = 1 })) refl)
    (λ img said. dataset_long img c.args.writing place p (ap prefix_at (same_value (range img place 512) b said ∙ sym c.deref.ensures.value) ∙ sym c.prefix.ensures.exact ∙ c.in-Ok.is) c.if-p.true))

pub returns-clause-ran : goal.returns-clause-ran
returns-clause-ran g c =
    let place = c.args.place in
    let writes = c.args.writing in
    let b = c.in_ok-bytes.bytes.items in
    let p = c.in-Ok.p in
    ran_on (λ img. Ok (range img place 512)) b (λ img. eval img (from_chunk_0_for writes place p c.deref-2.result.now)) _ _ c.in_ok-bytes.ensures.ran c.from_chunk_0.ensures.ran
    (λ img said.
    let e = same_value (range img place 512) b said in
    dataset_short img writes place p (ap prefix_at (e ∙ sym c.deref.ensures.value) ∙ sym c.prefix.ensures.exact ∙ c.in-Ok.is) c.if-p.false
    ∙ ap (λ (x : List ℕ). eval img (from_chunk_0_for writes place p x)) (ap (take p.total) e ∙ sym c.truncate.ensures.items ∙ sym c.deref-2.ensures.value))
