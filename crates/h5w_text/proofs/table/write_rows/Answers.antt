use Rattle.std.proofs.Common.{◌++◌, arith, rules}
use Rattle.h5w_text.specs.Table.{rows_text}
use Rattle.h5w_text.proofs.TableLemmas.{all_rows, more_rows}
use Rattle.h5w_text.proofs.table.write_rows.Goals as goal

pub loop-preserved : goal.loop-preserved
loop-preserved c =
    more_rows c.args.rows c.loop.counter c.args.columns c.loop.rest.now c.split_at.result.0.now c.split_at.result.1.now c.loop.out.items c.write_row.new.out.items (c.args.out.now.items ++ rows_text c.args.rows c.args.columns c.args.values.now)
    (omega arith) (search rules) (search rules) c.in_ok-write_row.ensures c.loop.invariant

pub returns : goal.returns
returns c =
    all_rows c.args.rows c.loop.counter c.args.columns c.loop.rest.now c.loop.out.items (c.args.out.now.items ++ rows_text c.args.rows c.args.columns c.args.values.now) (omega arith) c.loop.invariant
