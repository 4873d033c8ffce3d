-- A call during the second flush of a log: its looks, the positions at which it takes them, and its answer.
use Rattle.std.specs.Prelude.{ℕ, List, [], ◌∷◌}
use Rattle.h5w_model.specs.Numbers.{range}
use Rattle.h5w_model.specs.Logs.{Log}
use Rattle.h5w_model.specs.Prefixed.{image_at}
use Rattle.h5w_model.specs.Readers.{Placed}
use Rattle.h5w_model.specs.Tables.{format_limits}
use Rattle.h5w_model.specs.Unfinished.{ReaderRules}
use Rattle.h5w_examples.specs.Readings.{data_name, two_flushes}

-- the creation, three rows, one more; readers come after the first flush
abbrev pub after_first_flush : Log
after_first_flush = record two_flushes { first = 11 }

-- a look at a position, at so many bytes from a place on
abbrev pub look_at : ℕ → ℕ → ℕ → Placed
look_at p at n = record { position = p; look = record { place = at; len = n; bytes = range (image_at two_flushes p) at n } }

-- superblock, root header, dataset header and array header after the first flush, the index block between the two pieces of
-- the second flush, and the dataset header again, which has changed
abbrev pub first_attempt : List Placed
first_attempt = look_at 11 0 48 ∷ look_at 11 48 512 ∷ look_at 11 106 512 ∷ look_at 11 188 72 ∷ look_at 12 260 298 ∷ look_at 13 106 512 ∷ []

-- a second attempt, after the second flush
abbrev pub second_attempt : List Placed
second_attempt = look_at 13 188 72 ∷ look_at 13 260 298 ∷ look_at 13 106 512 ∷ []

-- by what a reader of one attempt calls
abbrev pub one_attempt : ReaderRules
one_attempt = record { name = data_name; limits = format_limits; keeps = 0; attempts = 1 }
