use Rattle.std.proofs.Common.{◌≡◌, Err, ◌∙◌, sym, subst, ap}
use Rattle.std.proofs.lemmas.Result.{err_from_is_err_and}
use Rattle.h5w_model.specs.declared.cell.IndexKind.TheVariants.{Array}
use Rattle.h5w_index.specs.Held.{view_of}
use Rattle.h5w_writer.specs.Refusals.{IsUnplaced}
use Rattle.h5w_writer.specs.declared.refusal.FlushError.TheVariants as flushes
use Rattle.h5w_writer.proofs.IndexStarts.{array_begun, end_small, same_full}
use Rattle.h5w_writer.proofs.planning.start_array.Goals as goal

pub returns-in_err-header-clause-full : goal.returns-in_err-header-clause-full
returns-in_err-header-clause-full c full told =
    let e = c.in_err-header.field-0.0 in
    let gone = err_from_is_err_and c.from_residual.result c.from_residual.ensures.1 in
    let is : c.from_residual.result ≡ Err (flushes.Space e) = gone.1 ∙ ap (λ x. Err x) gone.2 in
    subst (IsUnplaced Array c.args.address c.args.places.now) (same_full e full (sym is ∙ told)) c.in_err-header.ensures.full

pub returns-clause-started : goal.returns-clause-started
returns-clause-started c =
    let made = c.in_ok-index.ensures.created in
    let two = c.in_ok-header.ensures in
    let s = c.args.places.now in
    let t = c.take_tops.new.places in
    (array_begun c.args.address s t c.in_ok-header.header c.in_ok-header.block made.0 (view_of c.in_ok-index.index) made.1 made.2 two.taken two.raised two.header two.block (end_small s t _ two.raised c.requires.small c.requires.limit)).started

pub returns-clause-kind : goal.returns-clause-kind
returns-clause-kind c =
    let made = c.in_ok-index.ensures.created in
    let two = c.in_ok-header.ensures in
    let s = c.args.places.now in
    let t = c.take_tops.new.places in
    (array_begun c.args.address s t c.in_ok-header.header c.in_ok-header.block made.0 (view_of c.in_ok-index.index) made.1 made.2 two.taken two.raised two.header two.block (end_small s t _ two.raised c.requires.small c.requires.limit)).is_kind

pub returns-clause-within : goal.returns-clause-within
returns-clause-within c =
    let made = c.in_ok-index.ensures.created in
    let two = c.in_ok-header.ensures in
    let s = c.args.places.now in
    let t = c.take_tops.new.places in
    (array_begun c.args.address s t c.in_ok-header.header c.in_ok-header.block made.0 (view_of c.in_ok-index.index) made.1 made.2 two.taken two.raised two.header two.block (end_small s t _ two.raised c.requires.small c.requires.limit)).within
