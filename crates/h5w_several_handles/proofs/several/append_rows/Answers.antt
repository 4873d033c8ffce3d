use Rattle.std.proofs.Common.{◌∙◌, ℕ, Result, Err, subst}
use Rattle.h5w_writer.specs.declared.refusal.AppendError.{AppendError}
use Rattle.h5w_writer_lines.specs.Lines.{line_text}
use Rattle.h5w_writer_handles.specs.Tellings.{PutsLine}
use Rattle.h5w_several_handles.proofs.several.append_rows.Goals as goal

pub returns-in-Err : goal.returns-in-Err
returns-in-Err c = λ part is.
    let given : Result ℕ AppendError = Err c.in-Err.error in
    record {
      given = given;
      told = c.refuse.ensures.told ∙ c.append_told.ensures;
      line = subst (λ l. PutsLine (line_text l) c.args.text.now c.refuse.new.text) c.append_line.ensures c.refuse.ensures.line;
      appends = c.in-Err.ensures part is;
    }
