-- The header of a dataset as it is created: its four messages in one spelling, for any rank, integer type, fill and layout.
use Rattle.std.specs.Prelude.{◌≡◌, ℕ, ◌+◌, ◌-◌, ◌^◌, ◌<◌, ◌≤◌, false, List, [], ◌∷◌, ◌++◌, length, nat_lt, Some, IfSome, Ok}
use Rattle.h5w_model.specs.Images.{At}
use Rattle.h5w_model.specs.Programs.{eval}
use Rattle.h5w_model.specs.Headers.{messages_at, header_bytes, placed, rows_in_header, index_in_header}
use Rattle.h5w_model.specs.Messages.{IsShape, IsIntType, IsLayout, shape_bytes, int_type_bytes, fill_bytes, layout_bytes}
use Rattle.h5w_model.specs.Datasets.{Described, dataspace_kind, datatype_kind, fill_value_kind, layout_kind}
use Rattle.h5w_model.specs.Tables.{Limits, limit_of, needed}
use Rattle.h5w_model.specs.Findings.{checked_dataset}
use Rattle.h5w_model.specs.declared.message.Msg.{Msg}
use Rattle.h5w_model.specs.declared.root.Super.{Super}
use Rattle.h5w_step_laws.specs.Ranges.{block_at}
use Rattle.h5w_step_laws.specs.Files.{chunk_0, LayoutInChunk0}

abbrev pub message : ℕ → List ℕ → Msg
message number data_bytes = record { kind = number; flags = 0; at = 0; body = data_bytes }

-- dataspace, datatype, fill value, layout
abbrev pub spelled_messages : Described → List Msg
spelled_messages d =
    message dataspace_kind (shape_bytes d.shape) ∷ message datatype_kind (int_type_bytes d.int_type) ∷ message fill_value_kind (fill_bytes d.fill)
    ∷ message layout_kind (layout_bytes d.layout d.shape d.int_type) ∷ []

-- chunk 0 of the header
abbrev pub spelled_header : Described → List ℕ
spelled_header d = header_bytes (spelled_messages d)

-- a dataset that can be spelled: each part can, a fill has the type's size, and the index address is the last of the layout
pub record IsSpellable (d : Described) : Type 0 where
  pub shape : IsShape d.shape
  pub rows : d.shape.rows < 2 ^ 64
  pub cols : d.shape.cols < 2 ^ 64
  pub int_type : IsIntType d.int_type
  pub fill : IfSome d.fill.value (λ bytes. length bytes ≡ d.int_type.size)
  pub layout : IsLayout d.layout d.shape d.int_type
  pub address : d.layout.address < 2 ^ 64
  pub place : d.layout.place ≡ length (layout_bytes d.layout d.shape d.int_type) - 8

-- ---- Laws

-- It is read as these messages, whatever follows it; the rows stand behind 15 bytes, and the index address before the sum.
pub record IsSpelled (d : Described) : Type 0 where
  pub long : length (spelled_header d)
      ≡ 27 + (length (shape_bytes d.shape) + (length (int_type_bytes d.int_type) + (length (fill_bytes d.fill) + length (layout_bytes d.layout d.shape d.int_type))))
  pub short : length (spelled_header d) ≤ 512
  pub messages : (rest : List ℕ) → messages_at (spelled_header d ++ rest) ≡ Ok (placed 7 (spelled_messages d))
  pub alone : messages_at (spelled_header d) ≡ Ok (placed 7 (spelled_messages d))
  pub rows : rows_in_header (spelled_header d) ≡ Some 15
  pub index : index_in_header (spelled_header d) ≡ Some (length (spelled_header d) - 12)

abbrev pub SpelledRead : Type 0
SpelledRead = (d : Described) → IsSpellable d → IsSpelled d

-- where it stands in a file it is read as the dataset, its range is its own, and the layout stands in chunk 0
pub record StandsSpelled (img : List ℕ) (limits : Limits) (s : Super) (place : ℕ) (d : Described) : Type 0 where
  pub header : eval img (checked_dataset limits s place) ≡ Ok (d, block_at place (length (spelled_header d)) ∷ [])
  pub chunk : chunk_0 img place ≡ spelled_header d
  pub layout : LayoutInChunk0 img place

abbrev pub SpelledStands : Type 0
SpelledStands = (img : List ℕ) (limits : Limits) (s : Super) (place : ℕ) (d : Described) → IsSpellable d → At img place (spelled_header d) → place + length (spelled_header d) ≤ s.end
    → nat_lt (limit_of limits d.layout.index) (needed d) ≡ false → StandsSpelled img limits s place d
