use Rattle.std.proofs.Common.{◌≡◌, ◌∙◌, ◌-◌, sym, refl, None}
use Rattle.h5w_model.specs.Calls.{cut_header}
use Rattle.h5w_model.specs.Checked.{viewed}
use Rattle.h5w_lookup.specs.Attempts.{known_of, rules_of}
use Rattle.h5w_lookup.specs.Descents.{reading_news}
use Rattle.h5w_reader.specs.Calling.{came, attempt_rest, confirm_given}
use Rattle.h5w_lookup.proofs.PieceLemmas.{along}
use Rattle.h5w_reader.proofs.CallLemmas.{confirm_cut, confirm_same, confirm_again, confirm_next}
use Rattle.h5w_reader.proofs.stage.Attempt.end.Goals as goal

pub returns-in-Some : goal.returns-in-Some
returns-in-Some c = λ most name.
    let s = c.args.self in
    confirm_cut (rules_of s.rules (known_of c.args.known.now)) s.more s.view (viewed (reading_news (known_of c.args.known.now)) c.args.answer) c.args.last c.in-Some.error (sym c.cut_header.ensures ∙ c.in-Some.is)

pub returns-then-is_same : goal.returns-then-is_same
returns-then-is_same c = λ most name.
    let s = c.args.self in
    let uncut : cut_header s.rules.place c.args.last ≡ None = cc in
    c.answered.ensures most name (known_of c.args.known.now) ∙ confirm_same (rules_of s.rules (known_of c.args.known.now)) s.more s.view (viewed (reading_news (known_of c.args.known.now)) c.args.answer) c.args.last uncut (sym c.is_same.ensures ∙ c.if-is_same.true)

pub returns-then-self-eq0 : goal.returns-then-self-eq0
returns-then-self-eq0 c = λ most name.
    let s = c.args.self in
    let uncut : cut_header s.rules.place c.args.last ≡ None = cc in
    rw (c.again-error.ensures (known_of c.args.known.now)) (confirm_again (rules_of s.rules (known_of c.args.known.now)) s.more s.view (viewed (reading_news (known_of c.args.known.now)) c.args.answer) c.args.last uncut (sym c.is_same.ensures ∙ c.if-is_same.false) c.if-self-eq0.true)

pub returns : goal.returns
returns c = λ most name.
    let s = c.args.self in
    let g = rules_of s.rules (known_of c.args.known.now) in
    let uncut : cut_header s.rules.place c.args.last ≡ None = cc in
    along (came most name (known_of c.args.known.now)) c.begin.result (attempt_rest g (s.more - 1) c.args.last) (confirm_given g s.more s.view (viewed (reading_news (known_of c.args.known.now)) c.args.answer) c.args.last) (c.begin.ensures most name)
    (confirm_next g s.more (s.more - 1) s.view (viewed (reading_news (known_of c.args.known.now)) c.args.answer) c.args.last uncut (sym c.is_same.ensures ∙ c.if-is_same.false) c.if-self-eq0.false refl)
