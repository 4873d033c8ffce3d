use Rattle.std.proofs.Common.{rules, arith}
use Rattle.std.proofs.lemmas.Grind.{common_steps}
use Rattle.h5w_input.proofs.ScriptLemmas.{rows_empty, rows_even, rows_uneven}
use Rattle.h5w_input.proofs.script.fill_rows.Goals as goal

pub returns-then-is_empty : goal.returns-then-is_empty
returns-then-is_empty c = λ _. rows_empty c.args.columns c.args.words c.fill_values.new.values.items c.in_ok-fill_values.ensures (first_of (search rules, grind (arith, common_steps)))

pub returns-then-len-columns-ne0 : goal.returns-then-len-columns-ne0
returns-then-len-columns-ne0 c = λ _. rows_uneven c.args.columns c.args.words c.fill_values.new.values.items c.in_ok-fill_values.ensures (first_of (search rules, grind (arith, common_steps)))

pub returns : goal.returns
returns c = rows_even c.args.columns c.args.words c.fill_values.new.values.items c.in_ok-fill_values.ensures (first_of (search rules, grind (arith, common_steps))) (first_of (search rules, grind (arith, common_steps)))
