use Rattle.std.proofs.Common.{◌∙◌, refl, ap, Option, None, Some}
use Rattle.h5w_model.specs.Tables.{Reading}
use Rattle.h5w_model.specs.Unfinished.{Reader}
use Rattle.h5w_lookup.specs.Attempts.{known_of}
use Rattle.h5w_lookup.specs.Descents.{reading_news}
use Rattle.h5w_reader.specs.Readers.{left_of, reader_rules}
use Rattle.h5w_reader.specs.declared.call.Call.{Call}
use Rattle.h5w_reader.specs.declared.call.Call.TheVariants as calls
use Rattle.h5w_reader.proofs.CoreLemmas.{found_rows}
use Rattle.h5w_reader.proofs.StageLemmas.{rows_want}
use Rattle.h5w_reader.proofs.reader.give_rows.Goals as goal

pub returns-in-Ok-clause-told : goal.returns-in-Ok-clause-told
returns-in-Ok-clause-told c =
    let news = c.in-Ok-Done.news in
    let e = rw (c.in-Ok-Done.field-0-is) at c.in-Ok-Done.ensures in
    let rules = reader_rules c.args.name.now c.args.attempts in
    let at : Option Reading → Option Call → Reader = λ k x. record { rules = rules; known = k; left = left_of c.args.attempts c.args.name.now c.learn.new.known x } in (
      reading_news (known_of c.args.known.now) news,
      found_rows c.args.attempts c.args.name.now c.args.piece.now c.args.known.now (Some (calls.Rows c.args.stage)) c.args.stage news refl e,
      refl,
      ap (at (known_of c.learn.new.known)) c.requires.taken ∙ ap (λ k. at k None) c.in-Ok.ensures.learnt,
    )

pub returns-in-Ok-Looks-clause-wanting : goal.returns-in-Ok-Looks-clause-wanting
returns-in-Ok-Looks-clause-wanting c = λ _. rows_want c.args.attempts c.args.name.now c.args.known.now c.in-Ok-Looks.stage
