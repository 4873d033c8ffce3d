use Rattle.std.proofs.Common.{◌≡◌, ◌++◌, ◌-◌}
use Rattle.h5w_text.specs.Table.{rows_text}
use Rattle.h5w_text.proofs.table.write_rows.Given as goal

abbrev pub invariant-loop : goal.invariant-loop
invariant-loop l = l.out.items ++ rows_text (l.rows - l.counter) l.columns l.rest ≡ l.initial.out.items ++ rows_text l.rows l.columns l.values
