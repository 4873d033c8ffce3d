use Rattle.std.proofs.Common.{◌≡◌, ◌∙◌, ◌+◌, ◌<◌, ◌≤◌, Some, ap, subst, sym}
use Rattle.h5w_input.specs.Scripts.{script_line_of}
use Rattle.h5w_input.specs.Words.{line_of_script}
use Rattle.h5w_input.specs.declared.line.TextLine.TheVariants.{Whole}
use Rattle.h5w_core.specs.Worlds.{rules_of}
use Rattle.h5w_several_script_laws.specs.Scripts.{asks, uses}
use Rattle.h5w_playing.specs.Lines.{IsWithin, file_line_of, line_of_play}
use Rattle.h5w_playing.specs.Ones.{spelling_of}
use Rattle.h5w_playing.specs.declared.line.PlayLine.{PlayLine}
use Rattle.h5w_playing.proofs.LineLemmas.{asked_line, long_is_none}
use Rattle.h5w_playing.proofs.OneLemmas.{asked_alone, spelled_alone, using_alone}
use Rattle.h5w_playing.proofs.RangeLemmas.{in_range}
use Rattle.h5w_several_playing.proofs.alone.answer_own.Goals as goal

pub returns-in_default-clause-refused : goal.returns-in_default-clause-refused
returns-in_default-clause-refused c = λ _ bytes is. long_is_none (spelling_of c.args.world.now) c.args.line.now bytes c.in_default.is is

pub say_reply-requires : goal.say_reply-requires
say_reply-requires c =
    let bytes = c.as_slice.result.now in
    let line = line_of_script c.in-Asks.line in
    let means : file_line_of (record { columns = c.columns.result; sets = 1 }) bytes ≡ Some (asks line) =
    subst (λ (l : PlayLine). file_line_of (record { columns = c.columns.result; sets = 1 }) bytes ≡ Some (line_of_play l)) c.in-Asks.is c.in_ok-dataset.ensures.means in
    in_range (rules_of c.args.world.now).cutting.columns (subst (λ n. 1 ≤ n) c.columns.ensures.value c.columns.ensures.some) bytes line
    (subst (λ n. script_line_of n bytes ≡ Some line) c.columns.ensures.value (asked_line (record { columns = c.columns.result; sets = 1 }) bytes line means))

pub returns-in_ok-say_using-in-Use-clause-said : goal.returns-in_ok-say_using-in-Use-clause-said
returns-in_ok-say_using-in-Use-clause-said c = λ _ bytes is.
    let own = c.as_slice.result.now in
    let d = c.in-Use.dataset in
    let means : file_line_of (record { columns = c.columns.result; sets = 1 }) own ≡ Some (uses (d + 1)) =
    subst (λ (l : PlayLine). file_line_of (record { columns = c.columns.result; sets = 1 }) own ≡ Some (line_of_play l)) c.in-Use.is c.in_ok-dataset.ensures.means in
    let low : d < 1 = subst (λ (l : PlayLine). IsWithin 1 l) c.in-Use.is c.in_ok-dataset.ensures.sets in
    using_alone c.args.world.now bytes d c.args.text.now.items c.say_using.new.text.items
    (spelled_alone c.args.world.now c.args.line.now own bytes c.columns.result (uses (d + 1)) (c.in-Whole.is ∙ ap Whole (sym c.as_slice.ensures)) c.columns.ensures.value means is) low c.in_ok-say_using-in-Use.ensures

pub returns-in_ok-say_reply-in-Asks-clause-said : goal.returns-in_ok-say_reply-in-Asks-clause-said
returns-in_ok-say_reply-in-Asks-clause-said c = λ _ bytes is.
    let own = c.as_slice.result.now in
    let line = line_of_script c.in-Asks.line in
    let means : file_line_of (record { columns = c.columns.result; sets = 1 }) own ≡ Some (asks line) =
    subst (λ (l : PlayLine). file_line_of (record { columns = c.columns.result; sets = 1 }) own ≡ Some (line_of_play l)) c.in-Asks.is c.in_ok-dataset.ensures.means in
    asked_alone c.args.world.now c.say_reply.new.world bytes line c.args.text.now.items c.say_reply.new.text.items
    (spelled_alone c.args.world.now c.args.line.now own bytes c.columns.result (asks line) (c.in-Whole.is ∙ ap Whole (sym c.as_slice.ensures)) c.columns.ensures.value means is) c.in_ok-say_reply-in-Asks.ensures
