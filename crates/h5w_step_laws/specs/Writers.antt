-- What a writer shows before a block in place or a header is written again, on the image as it is then.
use Rattle.std.specs.Prelude.{◌≡◌, ℕ, ◌*◌, ◌<◌, List, ◌++◌, length, get_or, Ok, ℤ}
use Rattle.h5w_model.specs.Numbers.{range, undefined}
use Rattle.h5w_model.specs.Images.{apply}
use Rattle.h5w_model.specs.Programs.{eval, visits}
use Rattle.h5w_model.specs.Headers.{header_view}
use Rattle.h5w_model.specs.Tables.{InPlace, in_place, address_behind, each_of, table_of, needed_keys, format_limits}
use Rattle.h5w_model.specs.Findings.{Used, checked_dataset, chunk_bytes, index_visit}
use Rattle.h5w_model.specs.Prefixed.{StaysDefined, SameDescribed, SameHeader}
use Rattle.h5w_model.specs.declared.piece.Write.{Write}
use Rattle.h5w_step_laws.specs.Ranges.{AllEndBy, Disjoint, blocks_of}
use Rattle.h5w_step_laws.specs.Indexes.{behind_visit}
use Rattle.h5w_step_laws.specs.Moments.{Moment, all_used, HasCells, Represents}
use Rattle.h5w_step_laws.specs.Steps.{LiesIn, InChunk0, OffAll, Clear, Step}

-- The block in place that is written will say `blocks`; what stands behind it stands there already, and gives the needed
-- chunks that had an address the same. The blocks in place stay, and one more may come behind them: an index block that
-- the array's header names for the first time.
pub record Naming (img : List ℕ) (m : Moment) (w : Write) (blocks : InPlace) (n : Moment) : Type 0 where
  pub is : n ≡ record m { fixed = n.fixed; behind = n.behind; table = n.table }
  pub inside : LiesIn w m.fixed
  pub says : eval (apply w img) (in_place m.dataset) ≡ Ok blocks
  pub fixed : n.fixed ≡ blocks_of (visits (apply w img) (in_place m.dataset))
  pub added : List Used
  pub begins : n.fixed ≡ m.fixed ++ added
  pub ends : AllEndBy m.super.end n.fixed
  pub behind : eval img (behind_visit m.super.end (chunk_bytes m.dataset) blocks) ≡ Ok n.behind
  pub apart : Disjoint (all_used n)
  pub table : eval img (each_of (address_behind blocks) (needed_keys m.dataset)) ≡ Ok n.table
  pub addresses : (k : ℕ) → k < length m.table → StaysDefined (get_or m.table k undefined) (get_or n.table k undefined)
  pub cells : HasCells img n

-- The header that is written says more rows, over cells that are there; the index stays.
pub record Growing (img : List ℕ) (m : Moment) (w : Write) (n : Moment) : Type 0 where
  pub more : List ℤ
  pub is : n ≡ record m { dataset = n.dataset; table = n.table; values = m.values ++ more }
  pub inside : InChunk0 m w
  pub header : eval (apply w img) (checked_dataset format_limits m.super m.place) ≡ Ok (n.dataset, m.header)
  pub chunk_0 : SameHeader (header_view (range img m.place 512)) (header_view (range (apply w img) m.place 512)) m.dataset.layout.address
  pub shape : n.dataset ≡ record (m.dataset) { shape = record (m.dataset.shape) { rows = n.dataset.shape.rows } }
  pub rises : m.dataset.shape.rows < n.dataset.shape.rows
  pub table : eval img (table_of n.dataset (needed_keys n.dataset)) ≡ Ok n.table
  pub count : length n.values ≡ n.dataset.shape.rows * n.dataset.shape.cols
  pub cells : HasCells img n

-- The header that is written names an index that was not there, and says more rows. What it names stands there already.
pub record Starting (img : List ℕ) (m : Moment) (w : Write) (n : Moment) : Type 0 where
  pub more : List ℤ
  pub is : n ≡ record m { dataset = n.dataset; fixed = n.fixed; behind = n.behind; table = n.table; values = m.values ++ more }
  pub inside : InChunk0 m w
  pub header : eval (apply w img) (checked_dataset format_limits m.super m.place) ≡ Ok (n.dataset, m.header)
  pub chunk_0 : SameHeader (header_view (range img m.place 512)) (header_view (range (apply w img) m.place 512)) m.dataset.layout.address
  pub undefined_before : m.dataset.layout.address ≡ undefined
  pub described : SameDescribed m.dataset n.dataset
  pub rises : m.dataset.shape.rows < n.dataset.shape.rows
  pub index : eval img (index_visit m.super.end n.dataset) ≡ Ok (n.fixed ++ n.behind)
  pub fixed : n.fixed ≡ blocks_of (visits img (in_place n.dataset))
  pub apart : Disjoint (all_used n)
  pub table : eval img (table_of n.dataset (needed_keys n.dataset)) ≡ Ok n.table
  pub count : length n.values ≡ n.dataset.shape.rows * n.dataset.shape.cols
  pub cells : HasCells img n

-- ---- Laws

abbrev pub NamingSwitches : Type 0
NamingSwitches = (img name : List ℕ) (m : Moment) (held : List Used) (w : Write) (blocks : InPlace) (n : Moment) → Represents img name m → OffAll held n.fixed → Clear held n
    → Naming img m w blocks n → Step img m held w n (n.behind ++ held)

abbrev pub GrowingCommits : Type 0
GrowingCommits = (img name : List ℕ) (m : Moment) (held : List Used) (w : Write) (n : Moment) → Represents img name m → Growing img m w n → Step img m held w n n.behind

abbrev pub StartingCommits : Type 0
StartingCommits = (img name : List ℕ) (m : Moment) (held : List Used) (w : Write) (n : Moment) → Represents img name m → Starting img m w n → Step img m held w n n.behind
