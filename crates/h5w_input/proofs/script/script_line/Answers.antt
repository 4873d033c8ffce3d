use Rattle.std.proofs.Common.{subst, sym, ◌∙◌, Option}
use Rattle.h5w_model.specs.Lawful.{Line}
use Rattle.h5w_input.specs.Words.{Spells}
use Rattle.h5w_input.proofs.ScriptLemmas.{script_long, script_none, script_some}
use Rattle.h5w_input.proofs.script.script_line.Goals as goal

pub returns-then-line-gt-LINE_LIMIT : goal.returns-then-line-gt-LINE_LIMIT
returns-then-line-gt-LINE_LIMIT c = λ _. script_long c.args.columns c.args.line.now c.if-line-gt-LINE_LIMIT.true

pub returns-in-None : goal.returns-in-None
returns-in-None c = λ _. script_none c.args.columns c.args.line.now (sym c.of-words.ensures ∙ c.in-None.ensures.words)

pub returns-in-Some : goal.returns-in-Some
returns-in-Some c = let P : Option Line → Type 0 = λ given. Spells given c.command.result in
    subst P (sym (script_some c.args.columns c.args.line.now c.in-Some.name.now c.next.new.self c.if-line-gt-LINE_LIMIT.false (sym c.of-words.ensures ∙ c.in-Some.ensures.words))) c.command.ensures
