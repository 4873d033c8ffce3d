use Rattle.std.proofs.Common.{◌≡◌, ◌∙◌, sym, refl, ap, None, Result, Ok}
use Rattle.h5w_model.specs.Programs.{Prog, ret}
use Rattle.h5w_model.specs.Tables.{Reading}
use Rattle.h5w_model.specs.declared.refusal.ReadError.{ReadError}
use Rattle.h5w_model.specs.Calls.{cut_header}
use Rattle.h5w_lookup.specs.Attempts.{known_of, rules_of}
use Rattle.h5w_lookup.specs.Descents.{reading_news}
use Rattle.h5w_reader.specs.Calling.{behind_left}
use Rattle.h5w_reader.proofs.CallLemmas.{attempt_cut, attempt_settled, attempt_refused, attempt_looks}
use Rattle.h5w_reader.proofs.StageLemmas.{behind_looks}
use Rattle.h5w_reader.proofs.IdleLemmas.{header_of}
use Rattle.h5w_reader.proofs.stage.Attempt.begin.Goals as goal

pub returns-in-Some : goal.returns-in-Some
returns-in-Some c = λ most name.
    sym (attempt_cut (rules_of c.args.rules (known_of c.args.known.now)) c.args.more c.args.view c.in-Some.error (sym c.cut_header.ensures ∙ c.in-Some.is))

pub with_view-requires : goal.with_view-requires
with_view-requires c =
    let g = rules_of c.args.rules (known_of c.args.known.now) in
    let uncut : cut_header c.args.rules.place c.args.view ≡ None = cc in
    let e = rw c.in-Done.is at c.in_ok-news.ensures in
    header_of g c.args.view (reading_news (known_of c.args.known.now) c.in-Done.news) refl uncut e

pub returns-in-Done : goal.returns-in-Done
returns-in-Done c = λ most name.
    let g = rules_of c.args.rules (known_of c.args.known.now) in
    let uncut : cut_header c.args.rules.place c.args.view ≡ None = cc in
    let e = rw c.in-Done.is at c.in_ok-news.ensures in
    ap (λ (r : Reading). let p : Prog (Result Reading ReadError) = ret (Ok r) in p) (c.with_view.ensures (known_of c.args.known.now))
    ∙ attempt_settled g c.args.more c.args.view (reading_news (known_of c.args.known.now) c.in-Done.news) uncut e

pub returns-in-Refused : goal.returns-in-Refused
returns-in-Refused c = λ most name.
    let g = rules_of c.args.rules (known_of c.args.known.now) in
    let uncut : cut_header c.args.rules.place c.args.view ≡ None = cc in
    let e = rw c.in-Refused.is at c.in_ok-news.ensures in
    attempt_refused g c.args.more c.args.view c.in-Refused.error uncut e

pub returns-in-Looks : goal.returns-in-Looks
returns-in-Looks c = λ most name.
    let g = rules_of c.args.rules (known_of c.args.known.now) in
    let uncut : cut_header c.args.rules.place c.args.view ≡ None = cc in
    let e = rw c.in-Looks.is at c.in_ok-news.ensures in
    let l = behind_looks g c.in-Looks.behind in
    attempt_looks g c.args.more c.args.view (behind_left g c.in-Looks.behind) l.look uncut e l.next
