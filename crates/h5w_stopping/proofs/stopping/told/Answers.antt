use Rattle.h5w_stopping.proofs.ReportLemmas.{reported, swept_there, told_text}
use Rattle.h5w_stopping.proofs.stopping.told.Goals as goal

pub text_of-requires : goal.text_of-requires
text_of-requires c =
    let runs = swept_there c.args.name.now c.journal.result.now.writes c.args.world.now.journal c.in_ok-report.report c.as_slice.result.now c.journal.ensures.writes c.as_slice.ensures c.in_ok-report.ensures in
    (reported c.requires.0 c.requires.1 c.args.world.now c.requires.2 c.args.name.now c.as_slice.result.now c.requires.3 runs).1

pub returns : goal.returns
returns c = λ o lines f same.
    let runs = swept_there c.args.name.now c.journal.result.now.writes c.args.world.now.journal c.in_ok-report.report c.as_slice.result.now c.journal.ensures.writes c.as_slice.ensures c.in_ok-report.ensures in
    told_text o lines c.args.world.now f c.args.name.now c.as_slice.result.now c.text_of.result (λ text. text.items) same runs c.text_of.ensures
