use Rattle.std.proofs.Common.{◌≡◌, ◌∙◌, ℕ, List, Ok, Err, refl, sym, ap, rules, inl}
use Rattle.h5w_model.specs.Numbers.{range}
use Rattle.h5w_model.specs.Headers.{prefix_at}
use Rattle.h5w_model.specs.Programs.{eval}
use Rattle.h5w_model.specs.Datasets.{header_refusal}
use Rattle.h5w_headers.specs.Walks.{from_chunk_0_for}
use Rattle.h5w_headers.specs.Headers.{header_of, whole_chunk_0}
use Rattle.h5w_headers.specs.Ran.{seen}
use Rattle.h5w_dataset.proofs.ListedLemmas.{prefix_never}
use Rattle.h5w_headers.proofs.RanLemmas.{ran_end, ran_on, ran_then_stop, same_value}
use Rattle.h5w_headers.proofs.WalkLemmas.{header_kind, told_header}
use Rattle.h5w_headers.proofs.RootLemmas.{root_ok, root_err}
use Rattle.h5w_headers.proofs.root.root_header.Goals as goal

pub refused_header-requires-clause-overrun : goal.refused_header-requires-clause-overrun
refused_header-requires-clause-overrun g c = prefix_never c.deref.result.now c.in-Err.error (sym c.prefix.ensures.exact ∙ c.in-Err.is)

pub returns-in-Err-clause-kinds : goal.returns-in-Err-clause-kinds
returns-in-Err-clause-kinds g c = rw c.refused_header.ensures (header_kind c.args.place c.in-Err.error)

pub returns-in-Err-clause-ran : goal.returns-in-Err-clause-ran
returns-in-Err-clause-ran g c =
    let place = c.args.place in
    let b = c.in_ok-bytes.bytes.items in
    rw c.refused_header.ensures (ran_end (λ img. Ok (range img place 512)) b (Err (header_refusal place c.in-Err.error)) _ _ c.in_ok-bytes.ensures.ran (told_header _ place c.in-Err.error (inl refl))
    (λ img said. root_err img c.args.writing place c.in-Err.error (ap prefix_at (same_value (range img place 512) b said ∙ sym c.deref.ensures.value) ∙ sym c.prefix.ensures.exact ∙ c.in-Err.is)))

pub returns-in_err-bytes-2-clause-ran : goal.returns-in_err-bytes-2-clause-ran
returns-in_err-bytes-2-clause-ran g c =
    let is : c.from_residual-in_err-bytes-2.result ≡ Err c.in_err-bytes-2.field-0.0 = search rules in
    rw is (ran_then_stop (λ img. Ok (range img c.args.place 512)) c.in_ok-bytes.bytes.items _ c.in_err-bytes-2.field-0.0 _ c.in_ok-bytes.ensures.ran c.in_err-bytes-2.ensures.ran (λ img f said h. absurd cc))

pub returns-clause-ran : goal.returns-clause-ran
returns-clause-ran g c =
    let place = c.args.place in
    let writes = c.args.writing in
    let b = c.in_ok-bytes.bytes.items in
    let p = c.in-Ok.p in
    let says : prefix_at b ≡ Ok p = ap prefix_at (sym c.deref.ensures.value) ∙ sym c.prefix.ensures.exact ∙ c.in-Ok.is in
    let last = ran_on (λ img. Ok (whole_chunk_0 img place p.total b)) c.in_ok-bytes-2.bytes.items
    (λ img. eval img (from_chunk_0_for writes place p c.deref-2.result.now))
    (λ img. eval img (from_chunk_0_for writes place p (whole_chunk_0 img place p.total b))) (seen header_of c.from_chunk_0.result) c.in_ok-bytes-2.ensures.ran c.from_chunk_0.ensures.ran
    (λ img said. ap (λ (x : List ℕ). eval img (from_chunk_0_for writes place p x)) (same_value (whole_chunk_0 img place p.total b) c.in_ok-bytes-2.bytes.items said ∙ sym c.deref-2.ensures.value)) in
    ran_on (λ img. Ok (range img place 512)) b (λ img. eval img (from_chunk_0_for writes place p (whole_chunk_0 img place p.total b))) _ _ c.in_ok-bytes.ensures.ran last
    (λ img said.
    let e = same_value (range img place 512) b said in
    root_ok img writes place p (ap prefix_at e ∙ says) ∙ ap (λ (x : List ℕ). eval img (from_chunk_0_for writes place p (whole_chunk_0 img place p.total x))) e)
