-- Object headers of version 2: what stands before the messages, the messages of chunk 0 and of a continuation block,
-- and the one spelling that is written (HDF5 File Format Specification 3.0, "Data Object Header Prefix (Version 2)" and
-- "The Object Header Continuation Message").
use Rattle.std.specs.Prelude.{◌≡◌, ℕ, zero, suc, ◌+◌, ◌-◌, ◌*◌, ◌^◌, min, Bool, true, false, not, ◌&&◌, ◌||◌, ◌==◌, nat_eq, nat_lt, nat_le, bit_and, if◌then◌else◌, List, [], ◌∷◌, ◌++◌, length, take, drop, flat_map, find, Option, Some, None, option_map, option_and_then, unwrap_or, Result, Ok, Err}
use Rattle.std.specs.List.{starts_with, list_any, list_all}
use Rattle.h5w_model.specs.Numbers.{le, range, field}
use Rattle.h5w_model.specs.Checked.{checked}
use Rattle.h5w_model.specs.Checksum.{is_sealed, sums_of, sealed_block}
use Rattle.h5w_model.specs.declared.message.Msg.{Msg}
use Rattle.h5w_model.specs.declared.message.Prefix.{Prefix}
use Rattle.h5w_model.specs.declared.refusal.HeaderError.{HeaderError}
use Rattle.h5w_model.specs.declared.refusal.HeaderError.TheVariants.{Short, Signature, Version, Sum, Overrun, Unknown}

-- what comes next where this was answered, and the refusal otherwise
abbrev pub and_then : {E A B : Type 0} → Result A E → (A → Result B E) → Result B E
and_then (Ok x) next = next x
and_then (Err e) next = Err e

-- whether a bit of some flags is set, the bit given by its value
abbrev pub has : ℕ → ℕ → Bool
has flags bit = not (bit_and flags bit == 0)

-- ---- What stands before the messages of chunk 0

-- "OHDR"
abbrev pub header_signature : List ℕ
header_signature = 79 ∷ 72 ∷ 68 ∷ 82 ∷ []

-- the flags of a header
abbrev pub header_flags : List ℕ → ℕ
header_flags b = field b 5 1

-- how many bytes the size of chunk 0 takes: 1, 2, 4 or 8 by flag bits 0 and 1
abbrev pub size_width : ℕ → ℕ
size_width flags = 2 ^ bit_and flags 3

-- where that size stands: behind four times of 4 bytes with flag bit 5, and two phase values of 2 bytes with flag bit 4
abbrev pub size_place : ℕ → ℕ
size_place flags = 6 + ((if has flags 0x20 then 16 else 0) + (if has flags 0x10 then 4 else 0))

-- where the messages begin
abbrev pub messages_place : ℕ → ℕ
messages_place flags = size_place flags + size_width flags

-- the size of chunk 0: how many bytes the messages and the gap take
abbrev pub chunk_0_size : List ℕ → ℕ
chunk_0_size b = field b (size_place (header_flags b)) (size_width (header_flags b))

-- how long chunk 0 is, with what stands before its messages and the sum behind them
abbrev pub header_length : List ℕ → ℕ
header_length b = messages_place (header_flags b) + chunk_0_size b + 4

-- the tests, in the order in which they are tried, each with its refusal
abbrev pub prefix_tests : List ℕ → List (Bool × HeaderError)
prefix_tests b =
    (nat_le 6 (length b), Short 6 (length b))
    ∷ (starts_with nat_eq b header_signature, Signature)
    ∷ (field b 4 1 == 2, Version (field b 4 1))
    ∷ (nat_le (messages_place (header_flags b)) (length b), Short (messages_place (header_flags b)) (length b))
    ∷ []

-- what it says; messages have creation orders with flag bit 2
abbrev pub prefix_fields : List ℕ → Prefix
prefix_fields b = record {
  total = min (header_length b) (2 ^ 64 - 1);
  at = messages_place (header_flags b);
  len = chunk_0_size b;
  tracked = has (header_flags b) 4;
}

-- the fields, or the first refusal
unfoldable pub prefix_at : List ℕ → Result Prefix HeaderError
prefix_at b = checked (prefix_tests b) (prefix_fields b)

-- ---- Messages

-- a continuation message's type
abbrev pub continuation_kind : ℕ
continuation_kind = 0x10

-- how many bytes stand before a message's data: type, data size, flags, and the creation order where there is one
abbrev pub before_data : Bool → ℕ
before_data tracked = if tracked then 6 else 4

-- the data size of the message that these bytes begin with
abbrev pub data_size : List ℕ → ℕ
data_size b = field b 1 2

-- the message that these bytes begin with, its data behind so many bytes; its place is given
abbrev pub msg_at : ℕ → ℕ → List ℕ → Msg
msg_at before place b = record { kind = field b 0 1; flags = field b 3 1; at = place; body = range b before (data_size b) }

-- its data pass the end, or are too few for the address and the length of a continuation
abbrev pub overruns : ℕ → List ℕ → Bool
overruns before b = nat_lt (length b) (before + data_size b) || ((field b 0 1 == continuation_kind) && nat_lt (data_size b) 16)

-- the messages of these bytes up to the gap, which is shorter than what stands before a message's data. The first byte's place
-- is given. Each message takes a byte or more, so that `fuel` may be the number of bytes.
unfoldable pub msgs_in : ℕ → ℕ → ℕ → List ℕ → Result (List Msg) HeaderError
msgs_in zero before place b = Ok []
msgs_in (suc fuel) before place b =
    elim (nat_lt (length b) before) [
      | true ↦ Ok []
      | false ↦ elim (overruns before b) [
        | true ↦ Err (Overrun place)
        | false ↦ and_then (msgs_in fuel before (place + (before + data_size b)) (drop (before + data_size b) b)) (λ rest. Ok (msg_at before place b ∷ rest))
      ]
    ]

-- the types that are known here: nil, dataspace, link info, datatype, old fill value, fill value, link, layout, group info,
-- filter pipeline, attribute, comment, old modification time, continuation, modification time, attribute info, reference count
abbrev pub known_kinds : List ℕ
known_kinds = 0x00 ∷ 0x01 ∷ 0x02 ∷ 0x03 ∷ 0x04 ∷ 0x05 ∷ 0x06 ∷ 0x08 ∷ 0x0a ∷ 0x0b ∷ 0x0c ∷ 0x0d ∷ 0x0e ∷ 0x10 ∷ 0x12 ∷ 0x15 ∷ 0x16 ∷ []

abbrev pub is_known : ℕ → Bool
is_known kind = list_any (λ k. k == kind) known_kinds

-- the type of the first message that is not known here and has this flag
abbrev pub first_unknown : ℕ → List Msg → Option ℕ
first_unknown bit ms = option_map (λ m. m.kind) (find (λ m. not (is_known m.kind) && has m.flags bit) ms)

-- the messages, unless one of this type is refused
abbrev pub unless_refused : Option ℕ → List Msg → Result (List Msg) HeaderError
unless_refused None ms = Ok ms
unless_refused (Some kind) ms = Err (Unknown kind)

-- with flag bit 7 a message that is not known is refused
abbrev pub all_known : List Msg → Result (List Msg) HeaderError
all_known ms = unless_refused (first_unknown 0x80 ms) ms

-- with flag bit 3 it is refused where the file is open for writing: its type
abbrev pub unknown_for_writing : List Msg → Option ℕ
unknown_for_writing ms = first_unknown 8 ms

-- ---- Chunk 0

-- where a header ends that begins so, its sum included
abbrev pub end_of : Prefix → ℕ
end_of p = p.at + p.len + 4

-- the tests behind those of what stands before the messages
abbrev pub header_tests : List ℕ → Prefix → List (Bool × HeaderError)
header_tests b p =
    (nat_le (end_of p) (length b), Short p.total (length b))
    ∷ (is_sealed (take (end_of p) b), Sum (sums_of (take (end_of p) b)))
    ∷ []

-- what stands before the messages of the whole header that these bytes begin with, or the first refusal
unfoldable pub header_at : List ℕ → Result Prefix HeaderError
header_at b = and_then (prefix_at b) λ p. checked (header_tests b p) p

-- the bytes of its messages and of the gap
abbrev pub inside_of : List ℕ → Prefix → List ℕ
inside_of b p = range b p.at p.len

-- its messages, or the first refusal
unfoldable pub messages_at : List ℕ → Result (List Msg) HeaderError
messages_at b = and_then (header_at b) λ p. and_then (msgs_in p.len (before_data p.tracked) p.at (inside_of b p)) all_known

-- ---- A continuation block

-- "OCHK"
abbrev pub block_signature : List ℕ
block_signature = 79 ∷ 67 ∷ 72 ∷ 75 ∷ []

abbrev pub block_tests : List ℕ → List (Bool × HeaderError)
block_tests b =
    (nat_le 8 (length b), Short 8 (length b))
    ∷ (starts_with nat_eq b block_signature, Signature)
    ∷ (is_sealed b, Sum (sums_of b))
    ∷ []

-- whether they all pass
abbrev pub whole_block : List ℕ → Result (Unit {0}) HeaderError
whole_block b = checked (block_tests b) tt

-- the bytes between signature and sum
abbrev pub inside_block : List ℕ → List ℕ
inside_block b = range b 4 (length b - 8)

-- the messages of the continuation block that these bytes are, or the first refusal; whether there are creation orders is given
unfoldable pub block_at : Bool → List ℕ → Result (List Msg) HeaderError
block_at tracked b = and_then (whole_block b) λ _. and_then (msgs_in (length b - 8) (before_data tracked) 4 (inside_block b)) all_known

-- the address and the length that a continuation message names
abbrev pub cont_of : Msg → List (ℕ × ℕ)
cont_of m = if (m.kind == continuation_kind) && nat_le 16 (length m.body) then (field m.body 0 8, field m.body 8 8) ∷ [] else []

-- those of all continuation messages, in order
abbrev pub conts_of : List Msg → List (ℕ × ℕ)
conts_of ms = flat_map cont_of ms

-- ---- The spelling that is written

-- a message without a creation order
abbrev pub msg_bytes : Msg → List ℕ
msg_bytes m = m.kind ∷ (le 2 (length m.body) ++ m.flags ∷ m.body)

abbrev pub msgs_bytes : List Msg → List ℕ
msgs_bytes ms = flat_map msg_bytes ms

-- what stands before messages of so many bytes: no times, no phase values, flags 00 where the size fits a byte, else 01
unfoldable pub prefix_bytes : ℕ → List ℕ
prefix_bytes size = header_signature ++ 2 ∷ (if nat_le size 255 then 0 ∷ le 1 size else 1 ∷ le 2 size)

-- chunk 0 with these messages and no gap
unfoldable pub header_bytes : List Msg → List ℕ
header_bytes ms = sealed_block (prefix_bytes (length (msgs_bytes ms)) ++ msgs_bytes ms)

-- the messages with the places that they have where they stand one after another from a place on
abbrev pub placed : ℕ → List Msg → List Msg
placed place [] = []
placed place (m ∷ ms) = record m { at = place } ∷ placed (place + (4 + length m.body)) ms

-- whether a message has data enough for the address and the length of a block, if it is a continuation
abbrev pub names_block : Msg → Bool
names_block m = not (m.kind == continuation_kind) || nat_le 16 (length m.body)

-- whose messages whoever reads them takes: each continuation names a block, and none is refused
pub record AreReadable (ms : List Msg) : Type 0 where
  pub complete : list_all names_block ms ≡ true
  pub known : all_known ms ≡ Ok ms

-- what is read of chunk 0 as written
abbrev pub header_messages : List Msg → List Msg
header_messages ms = placed (length (prefix_bytes (length (msgs_bytes ms)))) ms

-- ---- The rows and the index address of a dataset's header

-- the first message of a type, of the header that these bytes begin with
unfoldable pub first_of : ℕ → List ℕ → Option Msg
first_of kind b = elim (messages_at b) [
  | Err e ↦ None
  | Ok ms ↦ find (λ m. m.kind == kind) ms
]

-- where its data begin in the header, and the data
unfoldable pub data_in_header : ℕ → List ℕ → Option (ℕ × List ℕ)
data_in_header kind b = option_map (λ m. (m.at + before_data (has (header_flags b) 4), m.body)) (first_of kind b)

-- where the size of dimension 0 stands: in the first dataspace message, behind version, rank, flags and type
abbrev pub rows_in_data : ℕ × List ℕ → Option ℕ
rows_in_data d = if nat_le 12 (length d.1) then Some (d.0 + 4) else None

unfoldable pub rows_in_header : List ℕ → Option ℕ
rows_in_header b = option_and_then rows_in_data (data_in_header 0x01 b)

-- where the index type stands in a layout's data: behind version, class, flags, the number of sizes, their width, and the sizes
abbrev pub index_type_place : List ℕ → ℕ
index_type_place body = 5 + field body 3 1 * field body 4 1

-- where the index address stands there: behind the 5 parameters of an extensible array, or the 6 bytes of those of a tree
abbrev pub index_address_place : List ℕ → ℕ
index_address_place body = index_type_place body + (if field body (index_type_place body) 1 == 4 then 6 else 7)

-- where the index address stands: in the first layout message
abbrev pub index_in_data : ℕ × List ℕ → Option ℕ
index_in_data d = if nat_le (index_address_place d.1 + 8) (length d.1) then Some (d.0 + index_address_place d.1) else None

unfoldable pub index_in_header : List ℕ → Option ℕ
index_in_header b = option_and_then index_in_data (data_in_header 0x08 b)

-- bytes with the 8 bytes of a number written over them at a place
abbrev pub with_number : List ℕ → ℕ → ℕ → List ℕ
with_number b place number = (take place b ++ le 8 number) ++ drop (place + 8) b

-- the same where a number is given
abbrev pub with_number_if : List ℕ → ℕ → Option ℕ → List ℕ
with_number_if b place None = b
with_number_if b place (Some number) = with_number b place number

-- the bytes with another size of dimension 0, and another index address where one is given
unfoldable pub rows_changed : List ℕ → ℕ → Option ℕ → List ℕ
rows_changed b rows index = with_number_if (with_number b (unwrap_or (rows_in_header b) 0) rows) (unwrap_or (index_in_header b) 0) index

-- the header so changed, with its sum; what follows it stays
unfoldable pub with_rows_bytes : List ℕ → ℕ → Option ℕ → List ℕ
with_rows_bytes b rows index = sealed_block (take (header_length b - 4) (rows_changed b rows index)) ++ drop (header_length b) b

-- ---- A look

-- so many zeros
abbrev pub zeros : ℕ → List ℕ
zeros zero = []
zeros (suc n) = 0 ∷ zeros n

-- What counts of a look of up to 512 bytes at a dataset's header, for whether two looks are equal: all where there is less
-- than what stands before the messages; the first 5 where signature or version is refused, and a zero behind them, so that
-- they are refused as the whole is; the bytes filled up to 512 with zeros where chunk 0 is longer than that; else chunk 0.
unfoldable pub header_view : List ℕ → List ℕ
header_view b = elim (prefix_at b) [
  | Err e ↦ elim e [
    | Signature ↦ take 5 b ++ 0 ∷ []
    | Version n ↦ take 5 b ++ 0 ∷ []
    | _ ↦ b
  ]
  | Ok p ↦ if nat_lt 512 p.total then b ++ zeros (512 - length b) else take p.total b
]
