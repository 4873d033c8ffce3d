use Rattle.std.proofs.Common.{◌≡◌, ◌≤◌, ◌++◌, ◌∙◌, [], List, ℤ, Err, refl, length, drop, ap, subst, sym, rules, arith}
use Rattle.std.proofs.lemmas.Result.{err_from_is_err_and}
use Rattle.std.proofs.lemmas.Grind.{common_steps}
use Rattle.h5w_input.specs.LinesAhead.{LinesAhead, lines_ahead}
use Rattle.h5w_appending.specs.Appends.{columns_of}
use Rattle.h5w_appending.specs.Appending.{TakesSingles}
use Rattle.h5w_appending.proofs.InputLemmas.{ahead_broke, ahead_none, ahead_whole, singles_taken}
use Rattle.h5w_appending.proofs.appending.take_ahead.Goals as goal

pub returns-in_err-take_run-clause-ahead : goal.returns-in_err-take_run-clause-ahead
returns-in_err-take_run-clause-ahead g c =
    let i = c.args.lines.now.intake.now in
    let s = g.S.Source.view c.args.lines.now.source.now in
    let a = c.values_ahead-bytes.ensures in
    let none : c.reserve.new.self.items ≡ [] = search rules in
    let values = c.deref.result.now in
    let is : values ≡ a.0 = c.deref.ensures.value ∙ a.1 ∙ ap (λ (l : List ℤ). l ++ a.0) none in
    let singles = singles_taken s a.0 i.held (drop c.values_ahead-bytes.result i.held) i.more i.limit a.2.lines in
    let one : columns_of c.args.session.now ≡ 1 = first_of (search rules, grind (arith, common_steps)) in
    let some : 1 ≤ length values = first_of (search rules, grind (arith, common_steps)) in
    let gone = err_from_is_err_and c.from_residual.result c.from_residual.ensures.1 in
    let e : c.from_residual.result ≡ Err c.in_err-take_run.field-0.0 = gone.1 ∙ ap (λ x. Err x) gone.2 in
    let x = lines_ahead s i in
    let z = lines_ahead s (record i { held = drop c.values_ahead-bytes.result i.held }) in
    let taken = subst (λ (vs : List ℤ). TakesSingles vs x z) (sym is) singles in
    rw e (ahead_broke (g.D.Disk.view c.args.disk.now) (g.D.Disk.view c.take_run.new.disk) x x z c.args.target.faults c.args.target.file.now c.args.session.now c.take_run.new.session values c.in_err-take_run.field-0.0 one some taken c.in_err-take_run.ensures)

pub returns-then-branch-clause-ahead : goal.returns-then-branch-clause-ahead
returns-then-branch-clause-ahead g c =
    let i = c.args.lines.now.intake.now in
    let s = g.S.Source.view c.args.lines.now.source.now in
    let a = c.values_ahead-bytes.ensures in
    let none : c.reserve.new.self.items ≡ [] = search rules in
    let values = c.deref.result.now in
    let is : values ≡ a.0 = c.deref.ensures.value ∙ a.1 ∙ ap (λ (l : List ℤ). l ++ a.0) none in
    let singles = singles_taken s a.0 i.held (drop c.values_ahead-bytes.result i.held) i.more i.limit a.2.lines in
    let one : columns_of c.args.session.now ≡ 1 = first_of (search rules, grind (arith, common_steps)) in
    let some : 1 ≤ length values = first_of (search rules, grind (arith, common_steps)) in
    let x = lines_ahead s i in
    let z = lines_ahead s (record i { held = drop c.values_ahead-bytes.result i.held }) in
    let taken = subst (λ (vs : List ℤ). TakesSingles vs x z) (sym is) singles in
    let y = lines_ahead (g.S.Source.view c.pass.new.self.source.now) c.pass.new.self.intake.now in
    let same : z ≡ y = rw (c.pass.ensures.source, c.pass.ensures.intake) refl in
    let count : c.len-then-branch.result ≡ length values = first_of (search rules, grind (arith, common_steps)) in
    let whole = rw c.if-branch.true at c.in_ok-take_run.ensures in
    ahead_whole c.args.target.faults c.args.target.file.now c.args.session.now c.take_run.new.session values c.len-then-branch.result count one some (subst (λ (l : LinesAhead). TakesSingles values x l) same taken) whole

pub returns-clause-ahead : goal.returns-clause-ahead
returns-clause-ahead g c =
    ahead_none _ c.args.target.faults c.args.target.file.now c.args.session.now c.take_run.new.session c.deref.result.now c.requires.ready (rw c.if-branch.false at c.in_ok-take_run.ensures)
