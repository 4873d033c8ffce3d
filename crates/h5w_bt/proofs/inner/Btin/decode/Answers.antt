use Rattle.std.proofs.Common.{Ok, sym, inr, ◌∙◌}
use Rattle.std.proofs.lemmas.Result.{err_from_is_err_and}
use Rattle.h5w_model.specs.Trees.{btin_fields}
use Rattle.h5w_model.proofs.CheckedLemmas.{checked-ok, checked-passed}
use Rattle.h5w_bt.specs.Parts.{btin_tests}
use Rattle.h5w_bt.proofs.Refusals.{refused-other, none}
use Rattle.h5w_bt.proofs.inner.Btin.decode.Goals as goal

pub returns-in_err-check : goal.returns-in_err-check
returns-in_err-check c =
    let p = err_from_is_err_and c.from_residual.result c.from_residual.ensures.1 in
    let b = c.args.b.now in
    let tests = btin_tests b c.args.at c.args.n c.args.depth in
    record { exact = rw (p.1, p.2) (inr (refused-other tests none (btin_fields b c.args.n c.args.depth) c.in_err-check.field-0.0 (sym c.in_err-check.ensures.exact))) }

pub returns : goal.returns
returns c =
    let b = c.args.b.now in
    let tests = btin_tests b c.args.at c.args.n c.args.depth in
    let pass = (checked-passed tests none _ (sym c.in_ok-check.ensures.exact)).0 in
    let r = c.in_ok-read.ensures in
    let s = c.in_ok-read-2.ensures in
    record { exact = checked-ok tests (btin_fields b c.args.n c.args.depth) pass ∙ λ i. Ok (record { records = sym r i; children = sym s i }) }
