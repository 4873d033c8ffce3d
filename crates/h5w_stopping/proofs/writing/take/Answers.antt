use Rattle.std.proofs.Common.{◌≡◌, Result, Err, rules, subst, sym}
use Rattle.std.specs.Prelude.{IfErr}
use Rattle.h5w_text.specs.declared.error.ErrorLine.{ErrorLine}
use Rattle.h5w_stopping.specs.Writing.{Refuses}
use Rattle.h5w_input.specs.Words.{line_of_script}
use Rattle.h5w_stopping.proofs.WritingLemmas.{follows_next, is_writing}
use Rattle.h5w_stopping.proofs.writing.take.Goals as goal

pub show_all-requires : goal.show_all-requires
show_all-requires c =
    let r = c.requires.follows in
    let a = c.in_ok-begin_line.ensures.amid r.0 r.1 r.2 in (a.state, a.fits)

pub returns-clause-follows : goal.returns-clause-follows
returns-clause-follows c = λ o lines f.
    follows_next o lines c.begin_line.new.world c.show_all.new.world (line_of_script c.args.line) (c.in_ok-begin_line.ensures.amid o lines f) c.show_all.ensures

pub returns-clause-writes : goal.returns-clause-writes
returns-clause-writes c =
    let r = c.requires.follows in
    is_writing r.0 r.1 c.begin_line.new.world c.show_all.new.world (line_of_script c.args.line) (c.in_ok-begin_line.ensures.amid r.0 r.1 r.2)

pub returns-in_err-begin_line-clause-refused : goal.returns-in_err-begin_line-clause-refused
returns-in_err-begin_line-clause-refused c = λ o lines f.
    let is : c.from_residual.result ≡ Err c.in_err-begin_line.field-0.0 = search (c.from_residual.ensures, rules) in
    subst (λ (r : Result (Unit {0}) ErrorLine). IfErr r (Refuses o lines c.args.number (line_of_script c.args.line))) (sym is) (c.in_err-begin_line.ensures.refused o lines f)
