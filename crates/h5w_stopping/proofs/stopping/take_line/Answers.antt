use Rattle.std.proofs.Common.{◌≤◌, ◌≡◌, ◌∙◌, Some, ap, subst, sym}
use Rattle.h5w_input.specs.Scripts.{script_line_of}
use Rattle.h5w_input.specs.Words.{line_of_script}
use Rattle.h5w_input.specs.declared.line.TextLine.TheVariants.{Whole}
use Rattle.h5w_core.specs.Worlds.{rules_of}
use Rattle.h5w_playing.proofs.RangeLemmas.{in_range}
use Rattle.h5w_stopping.proofs.TakingLemmas.{long_line, outside_line, refused_line, taken_line}
use Rattle.h5w_stopping.proofs.stopping.take_line.Goals as goal

pub returns-in_default-clause-refused : goal.returns-in_default-clause-refused
returns-in_default-clause-refused c = λ o lines f. long_line o lines c.args.number c.args.line.now c.in_default.is

pub take-requires : goal.take-requires
take-requires c =
    let columns = (rules_of c.args.world.now).cutting.columns in
    let bytes = c.as_slice.result.now in
    let line = line_of_script c.in-Ok.line in
    record {
      rows =
          in_range columns (subst (λ n. 1 ≤ n) c.columns.ensures.value c.columns.ensures.some) bytes line
          (subst (λ n. script_line_of n bytes ≡ Some line) c.columns.ensures.value c.in-Ok.ensures);
      follows = c.requires;
    }

pub returns-in-Ok-clause-taken : goal.returns-in-Ok-clause-taken
returns-in-Ok-clause-taken c = λ o lines f.
    taken_line o lines c.args.world.now c.take.new.world c.args.line.now c.as_slice.result.now c.columns.result c.in-Ok.line c.take.result f (c.in-Whole.is ∙ ap Whole (sym c.as_slice.ensures)) c.columns.ensures.value c.in-Ok.ensures (c.take.ensures.follows o lines f)
    c.take.ensures.writes

pub returns-in-Ok-clause-refused : goal.returns-in-Ok-clause-refused
returns-in-Ok-clause-refused c = λ o lines f.
    refused_line o lines c.args.number c.args.world.now c.args.line.now c.as_slice.result.now c.columns.result c.in-Ok.line c.take.result f (c.in-Whole.is ∙ ap Whole (sym c.as_slice.ensures)) c.columns.ensures.value c.in-Ok.ensures (c.take.ensures.refused o lines f)

pub returns-in-Err-Grammar-clause-refused : goal.returns-in-Err-Grammar-clause-refused
returns-in-Err-Grammar-clause-refused c = λ o lines f.
    outside_line o lines c.args.number c.args.world.now c.args.line.now c.as_slice.result.now c.columns.result f (c.in-Whole.is ∙ ap Whole (sym c.as_slice.ensures)) c.columns.ensures.value (c.in-Err-Grammar.ensures c.in-Err-Grammar.field-0-is)
