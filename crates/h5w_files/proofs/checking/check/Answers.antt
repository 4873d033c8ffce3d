use Rattle.std.proofs.Common.{◌++◌, Ok, Err, ap, ◌∙◌}
use Rattle.h5w_check.specs.Verdicts.{summary_of}
use Rattle.h5w_text.specs.declared.error.ErrorLine.TheVariants as errors
use Rattle.h5w_files.specs.Checks.{valid_text}
use Rattle.h5w_files.proofs.CheckLemmas.{checks_done, checks_told, wants_memory}
use Rattle.h5w_files.proofs.checking.check.Goals as goal

pub returns-in-Err-clause-checks : goal.returns-in-Err-clause-checks
returns-in-Err-clause-checks g c = checks_told c.args.file.now c.args.names.now (Err c.in-Err.error) c.in-Err.error c.tell.result c.in-Err.ensures c.in-Err.ensures c.tell.ensures

pub returns-in-Ok-write_valid-clause-checks : goal.returns-in-Ok-write_valid-clause-checks
returns-in-Ok-write_valid-clause-checks g c =
    checks_done c.args.file.now c.args.names.now (summary_of c.in-Ok.summary) c.deref.result.now c.say.result c.in-Ok.ensures
    (c.deref.ensures.value ∙ c.in-Ok-write_valid.ensures ∙ ap (λ l. l ++ valid_text (summary_of c.in-Ok.summary)) c.new-text.ensures.items) c.say.ensures

pub returns-clause-checks : goal.returns-clause-checks
returns-clause-checks g c =
    checks_told c.args.file.now c.args.names.now (Ok (summary_of c.in-Ok.summary)) errors.Memory c.tell-in-Err-write_valid.result c.in-Ok.ensures (wants_memory c.args.file.now c.args.names.now (Ok (summary_of c.in-Ok.summary)) c.in-Ok.ensures)
    c.tell-in-Err-write_valid.ensures
