-- Pieces in a wrong order, which are no safe steps.
use Rattle.std.specs.Prelude.{◌≡◌, List, ◌++◌}
use Rattle.h5w_model.specs.Logs.{Log, shows, flushed, and_now}
use Rattle.h5w_model.specs.Findings.{Used}
use Rattle.h5w_model.specs.declared.piece.Write.{Write}
use Rattle.h5w_examples.specs.OneRowFiles.{six_of_ones}
use Rattle.h5w_examples.specs.Readings.{piece_of, data_name}
use Rattle.h5w_step_laws.specs.Moments.{Moment}
use Rattle.h5w_step_laws.specs.Steps.{Step}
use Rattle.h5w_step_laws.specs.Logs.{image_now, Goes}
use Rattle.h5w_session_examples.specs.SevenOfOnes.{third_block}
use Rattle.h5w_session_examples.specs.Moments.{copied_only, copy_named, never_named, ones_of_five, ones_ended, ones_named, behind_five, behind_six}

-- the log has come to a moment, and there is no next one to which this piece leads
pub record Refused (log : Log) (m : Moment) (held : List Used) (w : Write) : Type 0 where
  pub here : Goes data_name log m held
  pub refused : (n : Moment) (after : List Used) → Step (image_now log) m held w n after → n.values ≡ flushed (and_now (shows w) log) → ⊥

-- the header of six rows, where no block in place names the sixth chunk
abbrev pub HeaderTooEarly : Type 0
HeaderTooEarly = Refused never_named ones_ended behind_five (piece_of six_of_ones 106 82)

-- the index block that names a copy past the end-of-file address
abbrev pub BlockTooEarly : Type 0
BlockTooEarly = Refused copied_only ones_of_five behind_five (piece_of six_of_ones 260 298)

-- a write over the first data block, which is named no more, before the header piece lets it go
abbrev pub TakenTooEarly : Type 0
TakenTooEarly = Refused copy_named ones_named (behind_six ++ behind_five) (record { at = 578; piece = third_block })
