-- The places of rows and index address have one meaning for who reads them and who writes them.
use Rattle.std.specs.Prelude.{◌≡◌, ℕ, ◌+◌, ◌≤◌, ◌==◌, List, length, find, Some, Ok}
use Rattle.h5w_model.specs.Numbers.{field}
use Rattle.h5w_model.specs.Headers.{messages_at, rows_in_header, index_in_header, index_address_place}
use Rattle.h5w_model.specs.Messages.{ShapeFields, IntTypeFields, LayoutFields, shape_at, layout_at}
use Rattle.h5w_model.specs.Datasets.{dataspace_kind, layout_kind}
use Rattle.h5w_model.specs.declared.message.Msg.{Msg}

-- The index address is written where it is read, and its 8 bytes there are inside the message's data.
pub record IsIndexPlace (body : List ℕ) (l : LayoutFields) : Type 0 where
  pub written : index_address_place body ≡ l.place
  pub inside : l.place + 8 ≤ length body
  pub read : field body l.place 8 ≡ l.address

-- of each layout that can be read
abbrev pub OneIndexPlace : Type 0
OneIndexPlace = (body : List ℕ) (s : ShapeFields) (t : IntTypeFields) (l : LayoutFields) → layout_at body s t ≡ Ok l → IsIndexPlace body l

-- Where a commit writes into chunk 0 of a dataset's header, what is there is what a reader reads: the size of dimension 0, and
-- the index address.
pub record HasPlaces (b : List ℕ) (s : ShapeFields) (l : LayoutFields) : Type 0 where
  pub rows : ℕ
  pub rows_written : rows_in_header b ≡ Some rows
  pub rows_read : field b rows 8 ≡ s.rows
  pub index : ℕ
  pub index_written : index_in_header b ≡ Some index
  pub index_read : field b index 8 ≡ l.address

-- of each header that is read, by its first dataspace and its first layout in chunk 0
abbrev pub OneHeaderPlace : Type 0
OneHeaderPlace =
    (b : List ℕ) (ms : List Msg) (space layout : Msg) (s : ShapeFields) (t : IntTypeFields) (l : LayoutFields) → messages_at b ≡ Ok ms
    → find (λ m. m.kind == dataspace_kind) ms ≡ Some space → shape_at space.body ≡ Ok s → find (λ m. m.kind == layout_kind) ms ≡ Some layout
    → layout_at layout.body s t ≡ Ok l → HasPlaces b s l
