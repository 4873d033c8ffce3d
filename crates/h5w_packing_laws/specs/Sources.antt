-- A valid file whose dataset is written anew into another: what is known of it.
use Rattle.std.specs.Prelude.{◌≡◌, ◌≢◌, ℕ, ◌+◌, ◌<◌, ◌≤◌, List, get_or, length}
use Rattle.h5w_model.specs.Numbers.{undefined}
use Rattle.h5w_model.specs.Tables.{Reading, Shows, format_limits, limit_of, needed}
use Rattle.h5w_model.specs.Findings.{Summary, Valid, chunk_bytes}

-- Its needed chunks are within the limit and listed; each that is there stands in it whole.
pub record IsSource (img : List ℕ) (r : Reading) : Type 0 where
  pub few : needed r.dataset ≤ limit_of format_limits r.dataset.layout.index
  pub listed : length r.table ≡ needed r.dataset
  pub rows : 0 < r.dataset.layout.chunk_rows
  pub cols : 0 < r.dataset.layout.chunk_cols
  pub size : 0 < r.dataset.int_type.size
  pub some : 0 < chunk_bytes r.dataset
  pub chunks : (n : ℕ) → get_or r.table n undefined ≢ undefined → get_or r.table n undefined + chunk_bytes r.dataset ≤ length img

-- So it is of what any valid file shows.
abbrev pub ValidSource : Type 0
ValidSource = (img name : List ℕ) (s : Summary) (r : Reading) → Valid img name s → Shows format_limits img name r → IsSource img r
