use Rattle.std.proofs.Common.{ap}
use Rattle.h5w_model.specs.Checked.{viewed}
use Rattle.h5w_model.specs.Programs.{next_look}
use Rattle.h5w_lookup.specs.Attempts.{rules_of}
use Rattle.h5w_lookup.specs.Descents.{reading_news}
use Rattle.h5w_reader.proofs.CallLemmas.{rows_begin, confirm_begins}
use Rattle.h5w_reader.proofs.stage.Stage.want.Goals as goal

pub returns-in-Header-clause-next : goal.returns-in-Header-clause-next
returns-in-Header-clause-next c = λ most name known. rw (c.in-Header.is, c.look_at.ensures.look) (ap next_look (rows_begin (rules_of c.in-Header.rules known)))

pub returns-in-Confirm-clause-next : goal.returns-in-Confirm-clause-next
returns-in-Confirm-clause-next c = λ most name known.
    let a = c.in-Confirm.attempt in
    rw (c.in-Confirm.is, c.look_at-in-Confirm.ensures.look) (ap next_look (confirm_begins (rules_of a.rules known) a.more a.view (viewed (reading_news known) c.in-Confirm.field-1)))
