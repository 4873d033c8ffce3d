-- What a commit makes of chunk 0 of a dataset header that is read.
use Rattle.std.specs.Prelude.{◌≡◌, ℕ, ◌+◌, ◌≤◌, ◌==◌, ◌&&◌, List, length, map, take, find, Some, None, Ok, if◌then◌else◌}
use Rattle.h5w_model.specs.Numbers.{undefined}
use Rattle.h5w_model.specs.Headers.{with_number, prefix_at, header_at, messages_at, header_length, header_view, rows_in_header, index_in_header, index_address_place, with_rows_bytes}
use Rattle.h5w_model.specs.Datasets.{dataspace_kind, layout_kind}
use Rattle.h5w_model.specs.Prefixed.{SameHeader}
use Rattle.h5w_model.specs.declared.message.Msg.{Msg}
use Rattle.h5w_model.specs.declared.message.Prefix.{Prefix}

-- the message of a kind at a place with a number written over 8 bytes of its data; every other message stays
abbrev pub renumbered : ℕ → ℕ → ℕ → ℕ → Msg → Msg
renumbered kind at k number m = if (m.kind == kind) && (m.at == at) then record m { body = with_number m.body k number } else m

-- messages with the dimension 0 of this dataspace changed
abbrev pub with_rows_in : Msg → ℕ → List Msg → List Msg
with_rows_in space rows ms = map (renumbered dataspace_kind space.at 4 rows) ms

-- messages with the index address of this layout changed
abbrev pub with_index_in : Msg → ℕ → List Msg → List Msg
with_index_in layout index ms = map (renumbered layout_kind layout.at (index_address_place layout.body) index) ms

-- What chunk 0 is after a commit: what stands before the messages is the same, these are the messages, and rows and index
-- address have their places.
pub record IsCommitted (old new : List ℕ) (ms : List Msg) : Type 0 where
  pub size : length new ≡ length old
  pub prefix : (p : Prefix) → prefix_at old ≡ Ok p → prefix_at new ≡ Ok p
  pub whole : (p : Prefix) → header_at old ≡ Ok p → header_at new ≡ Ok p
  pub messages : messages_at new ≡ Ok ms
  pub rows_place : rows_in_header new ≡ rows_in_header old
  pub index_place : index_in_header new ≡ index_in_header old
  pub view : (p : Prefix) → prefix_at old ≡ Ok p → p.total ≤ 512 → header_view new ≡ take p.total new

-- ---- Laws

-- Another number of rows. Where no bytes follow the header, only the rows and the sum change.
pub record AreRowsWritten (b new : List ℕ) (ms : List Msg) : Type 0 where
  pub committed : IsCommitted b new ms
  pub same : (address : ℕ) → length b ≡ header_length b → SameHeader b new address

abbrev pub RowsWritten : Type 0
RowsWritten = (b : List ℕ) (ms : List Msg) (space : Msg) (rows : ℕ) → messages_at b ≡ Ok ms → find (λ m. m.kind == dataspace_kind) ms ≡ Some space → 12 ≤ length space.body
    → AreRowsWritten b (with_rows_bytes b rows None) (with_rows_in space rows ms)

-- another number of rows and another index address
pub record IsIndexWritten (b new : List ℕ) (ms : List Msg) : Type 0 where
  pub committed : IsCommitted b new ms
  pub same : length b ≡ header_length b → SameHeader b new undefined

abbrev pub IndexWritten : Type 0
IndexWritten = (b : List ℕ) (ms : List Msg) (space layout : Msg) (rows index : ℕ) → messages_at b ≡ Ok ms → find (λ m. m.kind == dataspace_kind) ms ≡ Some space → 12 ≤ length space.body
    → find (λ m. m.kind == layout_kind) ms ≡ Some layout → index_address_place layout.body + 8 ≤ length layout.body
    → IsIndexWritten b (with_rows_bytes b rows (Some index)) (with_index_in layout index (with_rows_in space rows ms))
