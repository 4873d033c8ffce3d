use Rattle.std.proofs.Common.{◌≡◌, ◌∙◌, ◌+◌, ◌<◌, Some, ap, arith, subst, sym}
use Rattle.h5w_input.specs.Words.{line_of_script}
use Rattle.h5w_input.specs.declared.line.TextLine.TheVariants.{Whole}
use Rattle.h5w_several_script_laws.specs.Scripts.{asks, takes, uses}
use Rattle.h5w_playing.specs.Lines.{IsWithin, file_line_of, line_of_play}
use Rattle.h5w_playing.specs.declared.line.PlayLine.{PlayLine}
use Rattle.h5w_playing.proofs.LineLemmas.{long_is_none}
use Rattle.h5w_several_playing.specs.Sets.{spelling_in}
use Rattle.h5w_several_playing.proofs.AnswerLemmas.{inside_here, range_here, spelled_here, using_in}
use Rattle.h5w_several_playing.proofs.ScriptLemmas.{asked_in, taken_in}
use Rattle.h5w_several_playing.proofs.script.SeveralScriptMachine.answer.Goals as goal

pub returns-in_default-clause-refused : goal.returns-in_default-clause-refused
returns-in_default-clause-refused c = λ _ bytes is. long_is_none (spelling_in c.args.self.now) c.args.line.now bytes c.in_default.is is

pub take-requires-clause-inside : goal.take-requires-clause-inside
take-requires-clause-inside c =
    let i = c.self.inside in
    let d = c.in-Use.dataset in
    let low : d < c.count.result = subst (λ (l : PlayLine). IsWithin c.count.result l) c.in-Use.is c.in_ok-dataset.ensures.sets in
    inside_here i.world i.used i.columns c.args.self.now c.self.view_is c.count.result c.count.ensures.count d low

pub take-requires-clause-few : goal.take-requires-clause-few
take-requires-clause-few c =
    let d = c.in-Use.dataset in
    let low : d < c.count.result = subst (λ (l : PlayLine). IsWithin c.count.result l) c.in-Use.is c.in_ok-dataset.ensures.sets in
    omega (arith, low, c.count.ensures.few)

pub say_reply-requires : goal.say_reply-requires
say_reply-requires c =
    let i = c.self.inside in
    let bytes = c.as_slice.result.now in
    let line = line_of_script c.in-Asks.line in
    let means : file_line_of (record { columns = i.columns; sets = c.count.result }) bytes ≡ Some (asks line) =
    subst (λ (l : PlayLine). file_line_of (record { columns = i.columns; sets = c.count.result }) bytes ≡ Some (line_of_play l)) c.in-Asks.is c.in_ok-dataset.ensures.means in
    range_here i.world i.used i.columns c.args.self.now c.self.view_is c.count.result c.count.ensures.count bytes line c.self.invariant means

pub returns-in_ok-take-in-Use-clause-answers : goal.returns-in_ok-take-in-Use-clause-answers
returns-in_ok-take-in-Use-clause-answers c = λ bytes given.
    let i = c.self.inside in
    let own = c.as_slice.result.now in
    let d = c.in-Use.dataset in
    let means : file_line_of (record { columns = i.columns; sets = c.count.result }) own ≡ Some (uses (d + 1)) =
    subst (λ (l : PlayLine). file_line_of (record { columns = i.columns; sets = c.count.result }) own ≡ Some (line_of_play l)) c.in-Use.is c.in_ok-dataset.ensures.means in
    let low : d < c.count.result = subst (λ (l : PlayLine). IsWithin c.count.result l) c.in-Use.is c.in_ok-dataset.ensures.sets in
    let spelled = spelled_here i.world i.used i.columns c.args.self.now c.self.view_is c.count.result c.count.ensures.count c.args.line.now own bytes (uses (d + 1)) (c.in-Whole.is ∙ ap Whole (sym c.as_slice.ensures)) means given in
    using_in c.args.self.now c.take.new.self bytes d c.args.text.now.items c.take.new.text.items spelled (inside_here i.world i.used i.columns c.args.self.now c.self.view_is c.count.result c.count.ensures.count d low) c.take.ensures.world c.in_ok-take-in-Use.ensures.used
    c.in_ok-take-in-Use.ensures.text

pub returns-in_ok-say_reply-in-Asks-clause-answers : goal.returns-in_ok-say_reply-in-Asks-clause-answers
returns-in_ok-say_reply-in-Asks-clause-answers c = λ bytes given.
    let i = c.self.inside in
    let own = c.as_slice.result.now in
    let line = line_of_script c.in-Asks.line in
    let means : file_line_of (record { columns = i.columns; sets = c.count.result }) own ≡ Some (asks line) =
    subst (λ (l : PlayLine). file_line_of (record { columns = i.columns; sets = c.count.result }) own ≡ Some (line_of_play l)) c.in-Asks.is c.in_ok-dataset.ensures.means in
    let spelled = spelled_here i.world i.used i.columns c.args.self.now c.self.view_is c.count.result c.count.ensures.count c.args.line.now own bytes (asks line) (c.in-Whole.is ∙ ap Whole (sym c.as_slice.ensures)) means given in
    asked_in c.args.self.now c.say_reply.new.self bytes line c.args.text.now.items c.say_reply.new.text.items spelled c.in_ok-say_reply-in-Asks.ensures.says

pub returns-in_ok-take_over-in-Takeover-clause-answers : goal.returns-in_ok-take_over-in-Takeover-clause-answers
returns-in_ok-take_over-in-Takeover-clause-answers c = λ bytes given.
    let i = c.self.inside in
    let own = c.as_slice.result.now in
    let means : file_line_of (record { columns = i.columns; sets = c.count.result }) own ≡ Some takes =
    subst (λ (l : PlayLine). file_line_of (record { columns = i.columns; sets = c.count.result }) own ≡ Some (line_of_play l)) c.in-Takeover.is c.in_ok-dataset.ensures.means in
    let spelled = spelled_here i.world i.used i.columns c.args.self.now c.self.view_is c.count.result c.count.ensures.count c.args.line.now own bytes takes (c.in-Whole.is ∙ ap Whole (sym c.as_slice.ensures)) means given in
    taken_in c.args.self.now c.take_over.new.self bytes c.args.text.now.items c.take_over.new.text.items spelled c.in_ok-take_over-in-Takeover.ensures.took
