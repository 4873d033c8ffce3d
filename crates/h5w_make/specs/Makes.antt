-- What is told of a file that was made.
use Rattle.std.specs.Prelude.{◌≡◌, ℕ, [], length, sum}
use Rattle.h5w_model.specs.Images.{image}
use Rattle.h5w_model.specs.Logs.{Log, hist}
use Rattle.h5w_model.specs.Prefixed.{Held, Prefixed}
use Rattle.h5w_model.specs.Tables.{Reads}
use Rattle.h5w_model.specs.Findings.{Summary, Valid}
use Rattle.h5w_writer.specs.Creations.{log_of}
use Rattle.h5w_make.specs.Commands.{AreClosed, batches, data_name, new_file}
use Rattle.h5w_make.specs.Generators.{generated, numbers}
use Rattle.h5w_make.specs.declared.made.Made.{Made}

-- A log has just the commands of n values of the generator that begins with a seed. At each position its image is valid and reads as the
-- rows that are flushed there. What is told are the rows, the sum of the values, the pieces, and the blocks of the last image, which
-- is valid and reads as these values.
pub record IsMade (n seed : ℕ) (made : Made) : Type 0 where
  pub log : Log
  pub is : log ≡ log_of new_file log.events
  pub commands : AreClosed (batches seed n) log.events
  pub prefixed : Prefixed data_name log
  pub held : Held data_name log
  pub summary : Summary
  pub valid : Valid (image [] (hist log.events)) data_name summary
  pub reads : Reads (image [] (hist log.events)) data_name n 1 (generated seed n)
  pub rows : made.rows ≡ n
  pub sum : made.sum ≡ sum (numbers seed n)
  pub pieces : made.pieces ≡ length (hist log.events)
  pub blocks : made.blocks ≡ summary.blocks
