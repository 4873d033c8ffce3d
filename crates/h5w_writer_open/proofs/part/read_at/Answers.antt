use Rattle.std.proofs.Common.{◌≡◌, Ok, Err, refl, ◌∙◌, ap}
use Rattle.std.proofs.lemmas.Result.{err_from_is_err_and}
use Rattle.h5w_headers.specs.Ran.{seen}
use Rattle.h5w_index.specs.Held.{view_of}
use Rattle.h5w_opening.specs.Errors.{refusal_of}
use Rattle.h5w_opening.specs.Openings.{dataset_found}
use Rattle.h5w_opening.specs.Views.{header_fields_of, opened_of}
use Rattle.h5w_opening.specs.declared.finding.Opening.{Opening}
use Rattle.h5w_writer_open.specs.OpenParts.{IsUnread, no_header}
use Rattle.h5w_writer_open.proofs.FrontLemmas.{lacks_front, no_block_quiet}
use Rattle.h5w_writer_open.proofs.OpenStepLemmas.{refusal_map, some_refusal, step_both, step_refused, step_stop, step_then_stop, told_step}
use Rattle.h5w_writer_open.proofs.PartLemmas.{FoundAt, bad_index_at, bad_ranges_at, ranges_are_quiet, read_bad, read_good}
use Rattle.h5w_writer_open.proofs.SessionOver.{known_says}
use Rattle.h5w_writer_open.proofs.part.read_at.Goals as goal

pub returns-in_err-header-clause-step : goal.returns-in_err-header-clause-step
returns-in_err-header-clause-step g c =
    let a = c.args in
    let e = c.in_err-header.field-0.0 in
    let gone = err_from_is_err_and c.from_residual.result c.from_residual.ensures.1 in
    let is : c.from_residual.result ≡ Err e = gone.1 ∙ ap (λ x. Err x) gone.2 in
    rw is (step_stop (read_good a.root a.place) (read_bad a.root a.place) e (told_step (dataset_found a.place) header_fields_of (Err e) c.in_err-header.ensures.ran c.in_err-header.ensures.kinds) (λ img f h s super. no_header f h))

pub index_of-requires : goal.index_of-requires
index_of-requires g c = record { few = (known_says (header_fields_of c.in_ok-header.header) c.in_ok-header.ensures.said).few }

pub returns-in_err-index-clause-step : goal.returns-in_err-index-clause-step
returns-in_err-index-clause-step g c =
    let a = c.args in
    let h = c.in_ok-header.header in
    let o : Opening = record { root = a.root; place = a.place; header = h } in
    let e = c.in_err-index.field-0.0 in
    let gone = err_from_is_err_and c.from_residual-in_err-index.result c.from_residual-in_err-index.ensures.1 in
    let is : c.from_residual-in_err-index.result ≡ Err e = gone.1 ∙ ap (λ x. Err x) gone.2 in
    rw is (step_then_stop (read_good a.root a.place) (read_bad a.root a.place) h e (told_step (dataset_found a.place) header_fields_of (Ok h) c.in_ok-header.ensures.ran tt) c.in_err-index.ensures.step
    (λ img said f bad s super. bad_index_at img a.root a.place (opened_of o) f said bad))

pub returns-in_err-check_block-clause-step : goal.returns-in_err-check_block-clause-step
returns-in_err-check_block-clause-step g c =
    let a = c.args in
    let h = c.in_ok-header.header in
    let o : Opening = record { root = a.root; place = a.place; header = h } in
    let e = c.in_err-check_block.field-0.0 in
    let gone = err_from_is_err_and c.from_residual-in_err-check_block.result c.from_residual-in_err-check_block.ensures.1 in
    let is : c.from_residual-in_err-check_block.result ≡ Err e = gone.1 ∙ ap (λ x. Err x) gone.2 in
    let both = step_both (FoundAt a.place) (read_bad a.root a.place) h c.in_ok-index.index (o, c.in_ok-index.index) (told_step (dataset_found a.place) header_fields_of (Ok h) c.in_ok-header.ensures.ran tt) c.in_ok-index.ensures.step
    (λ img said index. record { header = said; index = index }) in
    rw is (step_refused (read_good a.root a.place) (read_bad a.root a.place) (o, c.in_ok-index.index) e both (no_block_quiet e c.in_err-check_block.ensures.refused)
    (λ img f. some_refusal (read_bad a.root a.place img) e (λ s super. absurd (lacks_front img s (opened_of o) (seen view_of c.in_ok-index.index) (record { closed = c.requires.closed; said = c.in_ok-header.ensures.said }) super f.index c.in_err-check_block.ensures.lacks))))

pub check_ranges-requires : goal.check_ranges-requires
check_ranges-requires g c = record { named = c.in_ok-index.ensures.named; few = (known_says (header_fields_of c.in_ok-header.header) c.in_ok-header.ensures.said).few }

pub returns-in_err-check_ranges-clause-step : goal.returns-in_err-check_ranges-clause-step
returns-in_err-check_ranges-clause-step g c =
    let a = c.args in
    let h = c.in_ok-header.header in
    let o : Opening = record { root = a.root; place = a.place; header = h } in
    let e = c.in_err-check_ranges.field-0.0 in
    let gone = err_from_is_err_and c.from_residual-in_err-check_ranges.result c.from_residual-in_err-check_ranges.ensures.1 in
    let is : c.from_residual-in_err-check_ranges.result ≡ Err e = gone.1 ∙ ap (λ x. Err x) gone.2 in
    let both = step_both (FoundAt a.place) (read_bad a.root a.place) h c.in_ok-index.index (o, c.in_ok-index.index) (told_step (dataset_found a.place) header_fields_of (Ok h) c.in_ok-header.ensures.ran tt) c.in_ok-index.ensures.step
    (λ img said index. record { header = said; index = index }) in
    rw is (step_refused (read_good a.root a.place) (read_bad a.root a.place) (o, c.in_ok-index.index) e both (ranges_are_quiet (opened_of o) (seen view_of c.in_ok-index.index) e c.in_err-check_ranges.ensures.first)
    (λ img f. refusal_map (refusal_of e) (IsUnread img a.root a.place) (read_bad a.root a.place img) (λ x unread s super. unread) (bad_ranges_at img a.root a.place (opened_of o) (seen view_of c.in_ok-index.index) e f.header refl f.index c.in_err-check_ranges.ensures.first)))

pub returns-clause-step : goal.returns-clause-step
returns-clause-step g c =
    let a = c.args in
    let h = c.in_ok-header.header in
    let o : Opening = record { root = a.root; place = a.place; header = h } in
    step_both (read_good a.root a.place) (read_bad a.root a.place) h c.in_ok-index.index (o, c.in_ok-index.index) (told_step (dataset_found a.place) header_fields_of (Ok h) c.in_ok-header.ensures.ran tt) c.in_ok-index.ensures.step
    (λ img said index. record { header = said; is = refl; index = index; within = c.in_ok-check_ranges.ensures.none })

pub returns-clause-well : goal.returns-clause-well
returns-clause-well g c = record {
  found = record { closed = c.requires.closed; said = c.in_ok-header.ensures.said };
  named = c.in_ok-index.ensures.named;
  made = c.in_ok-check_block.ensures.made;
  within = c.in_ok-check_ranges.ensures.none;
}
