-- An attempt that finds what is known.
use Rattle.std.specs.Prelude.{◌≡◌, ℕ, List, Some, None, Ok}
use Rattle.h5w_model.specs.Programs.{ret}
use Rattle.h5w_model.specs.Calls.{CallRules, cut_header}
use Rattle.h5w_model.specs.Tables.{Reading}
use Rattle.h5w_reader.specs.Calling.{behind_rest}

-- the header is whole, and what is known is all that there is behind it
pub record IsIdle (g : CallRules) (view : List ℕ) : Type 0 where
  pub reading : Reading
  pub known : g.known ≡ Some reading
  pub uncut : cut_header g.place view ≡ None
  pub settled : ret (Ok reading) ≡ behind_rest g view
