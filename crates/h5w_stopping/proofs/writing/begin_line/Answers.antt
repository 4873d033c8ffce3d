use Rattle.std.proofs.Common.{refl, subst, sym}
use Rattle.std.specs.Prelude.{IfErr, OnOk}
use Rattle.h5w_input.specs.Words.{line_of_script}
use Rattle.h5w_input.specs.declared.script.ScriptLine.{ScriptLine}
use Rattle.h5w_stopping.specs.Writing.{IsAmid, Refuses}
use Rattle.h5w_stopping.proofs.WritingLemmas.{no_writing}
use Rattle.h5w_stopping.proofs.writing.begin_line.Goals as goal

pub returns-in-Append-clause-refused : goal.returns-in-Append-clause-refused
returns-in-Append-clause-refused c = λ o lines f.
    subst (λ (l : ScriptLine). IfErr c.append.result (Refuses o lines c.args.number (line_of_script l))) (sym c.in-Append.is) (c.append.ensures.refused o lines f)

pub returns-in-Flush-clause-amid : goal.returns-in-Flush-clause-amid
returns-in-Flush-clause-amid c = λ o lines f.
    subst (λ (l : ScriptLine). OnOk c.flush.result (IsAmid o lines (line_of_script l) c.flush.new.world)) (sym c.in-Flush.is) (c.flush.ensures.amid o lines f)

pub returns-in-Flush-clause-refused : goal.returns-in-Flush-clause-refused
returns-in-Flush-clause-refused c = λ o lines f.
    subst (λ (l : ScriptLine). IfErr c.flush.result (Refuses o lines c.args.number (line_of_script l))) (sym c.in-Flush.is) (c.flush.ensures.refused o lines c.args.number f)

pub returns-in_default-clause-refused : goal.returns-in_default-clause-refused
returns-in_default-clause-refused c = λ o lines f. (refl, no_writing c.args.line c.in_default.not-Append c.in_default.not-Flush)
