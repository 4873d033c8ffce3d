use Rattle.h5w_input.proofs.ScriptLemmas.{append_some}
use Rattle.h5w_input.proofs.script.append.Goals as goal

pub returns : goal.returns
returns c = rw c.from_vec.ensures (append_some c.args.columns c.args.words c.fill_rows.new.values.items c.in_ok-fill_rows.ensures)
