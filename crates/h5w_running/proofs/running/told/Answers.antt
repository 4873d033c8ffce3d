use Rattle.std.proofs.Common.{ℕ, List, refl, ap, ◌∙◌}
use Rattle.std.specs.Prelude.{Option}
use Rattle.h5w_model.specs.declared.report.FlushLine.{FlushLine}
use Rattle.h5w_model.specs.declared.report.PollLine.{PollLine}
use Rattle.h5w_live_laws.specs.Lines.{rows_told}
use Rattle.h5w_running.specs.Runs.{asked_by}
use Rattle.h5w_running.specs.Texts.{report_text}
use Rattle.h5w_running.proofs.RunLemmas.{tells_of}
use Rattle.h5w_running.proofs.running.told.Goals as goal

pub returns-in-Ok-text_of-clause-tells : goal.returns-in-Ok-text_of-clause-tells
returns-in-Ok-text_of-clause-tells g c =
    let r = c.in-Ok-reported.report in
    let flushes = c.as_slice.ensures in
    let calls = c.as_slice-2.ensures in (
      r,
      tells_of (asked_by c.args.options.now c.args.readers.count c.args.readers.polls c.args.readers.attempts c.args.readers.mirrors) (g.S.Source.view c.args.source.now) (g.S.Source.view c.read.new.source) r c.columns.result c.in-Ok.batches c.in-Ok-text_of.text.items
          c.columns.ensures.some c.columns.ensures.is c.in-Ok.ensures.ok c.in-Ok.ensures.rows c.in-Ok-reported.ensures.accepted c.in-Ok-reported.ensures.reports
          (c.in-Ok-text_of.ensures ∙ ap (λ (fs : List FlushLine). report_text fs c.as_slice-2.result.now c.mirrored_in-mirrored.result (rows_told 0 fs)) flushes ∙ ap (λ (ps : List PollLine). report_text r.flushes ps c.mirrored_in-mirrored.result (rows_told 0 r.flushes)) calls
          ∙ ap (λ (m : Option ℕ). report_text r.flushes r.polls m (rows_told 0 r.flushes)) (c.mirrored_in-mirrored.ensures (asked_by c.args.options.now c.args.readers.count c.args.readers.polls c.args.readers.attempts c.args.readers.mirrors) refl)),
    )
