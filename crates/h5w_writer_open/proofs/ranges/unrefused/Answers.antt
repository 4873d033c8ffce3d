use Rattle.std.proofs.Common.{◌≡◌, Err, inl, rules, ◌∙◌, ap}
use Rattle.std.proofs.lemmas.Result.{err_from_is_err_and}
use Rattle.h5w_headers.specs.Ran.{seen}
use Rattle.h5w_index.specs.Held.{view_of}
use Rattle.h5w_opening.specs.Views.{opened_of}
use Rattle.h5w_writer_open.proofs.SessionOver.{near_of, refused_next}
use Rattle.h5w_writer_open.proofs.ranges.unrefused.Goals as goal

pub kept_index-requires : goal.kept_index-requires
kept_index-requires c = record { near = near_of (opened_of c.args.found.now) (seen view_of c.args.index) c.requires.named c.in_ok-check_ranges.ensures.none }

pub returns-in_err-check-clause-first : goal.returns-in_err-check-clause-first
returns-in_err-check-clause-first c =
    let e = c.in_err-check.field-0.0 in
    let gone = err_from_is_err_and c.from_residual-in_err-check.result c.from_residual-in_err-check.ensures.1 in
    let is : c.from_residual-in_err-check.result ≡ Err e = gone.1 ∙ ap (λ x. Err x) gone.2 in
    let was : c.check.result ≡ Err e = search rules in
    rw is (inl (refused_next (opened_of c.args.found.now) (seen view_of c.args.index) c.check.result e c.in_ok-check_ranges.ensures.none c.check.ensures was))
