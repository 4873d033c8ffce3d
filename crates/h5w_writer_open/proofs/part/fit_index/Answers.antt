use Rattle.std.proofs.Common.{◌≡◌, ◌⊎◌, Option, Some, None, Err, sym, subst, inl, rules, ◌∙◌, ap}
use Rattle.std.proofs.lemmas.Result.{err_from_is_err_and}
use Rattle.std.specs.Prelude.{IfErr, OnOk}
use Rattle.h5w_headers.specs.Ran.{seen}
use Rattle.h5w_index.specs.Held.{view_of}
use Rattle.h5w_opening.specs.Views.{opened_of}
use Rattle.h5w_opening.specs.declared.error.OpenError.{OpenError}
use Rattle.h5w_opening.specs.declared.error.OpenError.TheVariants.{OutOfMemory}
use Rattle.h5w_writer_open.proofs.PartLemmas.{dataset_first, dataset_passed}
use Rattle.h5w_writer_open.proofs.SessionOver.{near_of}
use Rattle.h5w_writer_open.proofs.part.fit_index.Goals as goal

pub kept_index-requires : goal.kept_index-requires
kept_index-requires c = record { near = near_of (opened_of c.args.found.now) (seen view_of c.args.index) c.requires.read.named c.requires.read.within }

pub returns-in_err-check-clause-first : goal.returns-in_err-check-clause-first
returns-in_err-check-clause-first c =
    let e = c.in_err-check.field-0.0 in
    let gone = err_from_is_err_and c.from_residual.result c.from_residual.ensures.1 in
    let is : c.from_residual.result ≡ Err e = gone.1 ∙ ap (λ x. Err x) gone.2 in
    let was : c.check.result ≡ Err e = search rules in
    rw is (inl (dataset_first (opened_of c.args.found.now) (seen view_of c.args.index) c.check.result e c.check.ensures was))

pub returns-clause-kept : goal.returns-clause-kept
returns-clause-kept c = c.kept_index.ensures.kept

pub returns-clause-none : goal.returns-clause-none
returns-clause-none c =
    let rest = dataset_passed (opened_of c.args.found.now) (seen view_of c.args.index) c.check.result c.check.ensures c.in_ok-check.was in
    subst (λ (o : Option OpenError). OnOk c.kept_index.result (o ≡ None)) (sym rest) c.kept_index.ensures.none

pub returns-clause-first : goal.returns-clause-first
returns-clause-first c =
    let rest = dataset_passed (opened_of c.args.found.now) (seen view_of c.args.index) c.check.result c.check.ensures c.in_ok-check.was in
    subst (λ (o : Option OpenError). IfErr c.kept_index.result (λ e. (o ≡ Some e) ⊎ (e ≡ OutOfMemory))) (sym rest) c.kept_index.ensures.first
