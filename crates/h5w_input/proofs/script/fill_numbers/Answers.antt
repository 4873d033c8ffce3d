use Rattle.std.proofs.Common.{◌≡◌, ◌≤◌, ◌∙◌, rules, length, Some, None, Option, List, [], ℤ, ap, subst, sym, arith}
use Rattle.std.proofs.lemmas.Grind.{common_steps}
use Rattle.std.specs.Result.{MatchResult}
use Rattle.h5w_input.specs.declared.script.TextError.TheVariants.{Grammar}
use Rattle.h5w_input.specs.Scripts.{rows_of}
use Rattle.h5w_input.proofs.ScriptLemmas.{numbers_are, numbers_long, numbers_none}
use Rattle.h5w_input.proofs.script.fill_numbers.Goals as goal

pub returns-then-is_empty : goal.returns-then-is_empty
returns-then-is_empty c =
    let none : length c.args.line.now ≡ 0 = first_of (search rules, grind (arith, common_steps)) in
    let cleared : c.clear.new.self.items ≡ [] = first_of (search rules, grind (arith, common_steps)) in
    numbers_none c.args.columns c.args.line.now none ∙ ap Some (sym cleared)

pub returns-then-line-gt-LINE_LIMIT : goal.returns-then-line-gt-LINE_LIMIT
returns-then-line-gt-LINE_LIMIT c = λ _. numbers_long c.args.columns c.args.line.now c.if-line-gt-LINE_LIMIT.true

pub returns : goal.returns
returns c =
    let some : 1 ≤ length c.args.line.now = first_of (search rules, grind (arith, common_steps)) in
    let is = numbers_are c.args.columns c.args.line.now some c.if-line-gt-LINE_LIMIT.false in
    let words = ap (rows_of c.args.columns) c.of.ensures in
    subst (λ (o : Option (List ℤ)). MatchResult c.fill_rows.result (λ _. o ≡ Some c.fill_rows.new.values.items) (λ e. e ≡ Grammar → o ≡ None)) (words ∙ sym is) c.fill_rows.ensures
