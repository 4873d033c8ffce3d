-- From the bytes of a file to a dataset: superblock, root header, link, dataset header.
use Rattle.std.specs.Prelude.{ℕ, zero, suc, ◌+◌, ◌-◌, ◌/◌, ◌%◌, Bool, true, false, ◌||◌, List, [], ◌∷◌, ◌++◌, length, map, find, nat_lt, ◌==◌, if◌then◌else◌, Option, Some, None, option_map, Result, Ok, Err}
use Rattle.std.specs.List.{list_any}
use Rattle.h5w_model.specs.Numbers.{field}
use Rattle.h5w_model.specs.Programs.{Prog, ret, whole, counted, and_then}
use Rattle.h5w_model.specs.Superblock.{super_at}
use Rattle.h5w_model.specs.Headers.{prefix_at, messages_at, block_at, header_view, has}
use Rattle.h5w_model.specs.Links.{links_at, find_link}
use Rattle.h5w_model.specs.Messages.{unsupported, ShapeFields, IntTypeFields, FillFields, LayoutFields, shape_at, int_type_at, fill_at, layout_at}
use Rattle.h5w_model.specs.declared.root.Super.{Super}
use Rattle.h5w_model.specs.declared.message.Msg.{Msg}
use Rattle.h5w_model.specs.declared.message.Prefix.{Prefix}
use Rattle.h5w_model.specs.declared.refusal.Unsupported.{Unsupported}
use Rattle.h5w_model.specs.declared.refusal.ReadError.{ReadError}
use Rattle.h5w_model.specs.declared.refusal.ReadError.TheVariants.{Damaged, NotSwmr, Header, Link}
use Rattle.h5w_model.specs.declared.refusal.ReadError.TheVariants as read_errors
use Rattle.h5w_model.specs.declared.refusal.BlockFault.TheVariants as faults
use Rattle.h5w_model.specs.declared.refusal.SuperError.{SuperError}
use Rattle.h5w_model.specs.declared.refusal.SuperError.TheVariants as super_errors
use Rattle.h5w_model.specs.declared.refusal.HeaderError.{HeaderError}
use Rattle.h5w_model.specs.declared.refusal.HeaderError.TheVariants as header_errors

-- what comes next where this was answered, and the refusal otherwise
abbrev pub then_also : {A B E : Type 0} → Result A E → (A → Result B E) → Result B E
then_also (Ok a) f = f a
then_also (Err e) f = Err e

-- the answer, or this refusal
abbrev pub or_refuse : {A E : Type 0} → Option A → E → Result A E
or_refuse (Some a) e = Ok a
or_refuse None e = Err e

-- the answer, or the refusal as a reader words it
abbrev pub refused_as : {A E F : Type 0} → (E → F) → Result A E → Result A F
refused_as f (Ok a) = Ok a
refused_as f (Err e) = Err (f e)

-- ---- The superblock

-- a superblock that is cut or whose sum is wrong is damaged
abbrev pub super_refusal : SuperError → ReadError
super_refusal super_errors.NotHdf5 = read_errors.NotHdf5
super_refusal (super_errors.Short got) = Damaged 0 (faults.Cut 48 got)
super_refusal (super_errors.Sum sums) = Damaged 0 (faults.Sum sums)
super_refusal e = read_errors.Super e

-- open for writing and open for SWMR writing stand together; of version 2 the flags say nothing
abbrev pub is_swmr : Super → Bool
is_swmr s = (s.version == 2) || ((s.flags % 2) == (s.flags / 4 % 2))

abbrev pub super_of : List ℕ → Result Super ReadError
super_of b = then_also (refused_as super_refusal (super_at b)) (λ s. if is_swmr s then Ok s else Err (NotSwmr s.flags))

abbrev pub superblock : Prog (Result Super ReadError)
superblock = whole 0 48 (λ b. ret (super_of b))

-- ---- Object headers with their continuation blocks

-- a message, its place in the image, and whether it stands in chunk 0
pub record FoundMessage : Type 0 where
  pub kind : ℕ
  pub flags : ℕ
  pub place : ℕ
  pub body : List ℕ
  pub in_chunk_0 : Bool

-- a range of the image
pub record Range : Type 0 where
  pub place : ℕ
  pub len : ℕ

-- the messages of a header, each continuation's in place of its message, and its ranges in the order of visit
pub record HeaderFields : Type 0 where
  pub messages : List FoundMessage
  pub ranges : List Range

abbrev pub found_at : ℕ → Bool → List Msg → List FoundMessage
found_at base in_chunk_0 ms = map (λ m. record { kind = m.kind; flags = m.flags; place = base + m.at; body = m.body; in_chunk_0 = in_chunk_0 }) ms

-- A header or continuation block that is cut or whose sum is wrong is damaged. The place of a message that passes
-- the end is that in the image.
abbrev pub header_refusal : ℕ → HeaderError → ReadError
header_refusal place (header_errors.Short need got) = Damaged place (faults.Cut need got)
header_refusal place (header_errors.Sum sums) = Damaged place (faults.Sum sums)
header_refusal place (header_errors.Overrun at) = Header place (header_errors.Overrun (place + at))
header_refusal place e = Header place e

-- a message's address and length of a continuation block
abbrev pub block_place : FoundMessage → ℕ
block_place m = field m.body 0 8

abbrev pub block_len : FoundMessage → ℕ
block_len m = field m.body 8 8

-- the messages of a continuation block of this length, given the bytes found
abbrev pub block_messages : Bool → ℕ → ℕ → List ℕ → Result (List FoundMessage) ReadError
block_messages tracked place len b =
    if nat_lt (length b) len then Err (header_refusal place (header_errors.Short len (length b)))
    else then_also (refused_as (header_refusal place) (block_at tracked b)) (λ ms. Ok (found_at place false ms))

-- Goes through messages. Those up to the first continuation are done; there `at_block` goes on, with the messages before the
-- continuation, the continuation, and those behind it. Without one the header's messages are all that are done.
abbrev pub splice : ((before : List FoundMessage) → FoundMessage → (rest : List FoundMessage) → Prog (Result HeaderFields ReadError)) → List Range → List FoundMessage → List FoundMessage → Prog (Result HeaderFields ReadError)
splice at_block visited done [] = ret (Ok (record { messages = done; ranges = visited }))
splice at_block visited done (m ∷ ms) = if m.kind == 0x10 then at_block done m ms else splice at_block visited (done ++ m ∷ []) ms

-- A header's messages, with at most so many continuation blocks more: each continuation's messages, which stand in its block,
-- come in its place, before those behind it.
abbrev pub walk : ℕ → ℕ → Bool → List Range → List FoundMessage → List FoundMessage → Prog (Result HeaderFields ReadError)
walk zero header tracked visited done ms = splice (λ before m rest. ret (Err (Header header header_errors.Continuations))) visited done ms
walk (suc more) header tracked visited done ms =
    splice (λ before m rest.
    if nat_lt (block_len m) 8 then ret (Err (header_refusal (block_place m) (header_errors.Short 8 (block_len m))))
    else whole (block_place m) (block_len m) (λ b.
    elim (block_messages tracked (block_place m) (block_len m) b) [
      | Ok inside ↦ walk more header tracked (visited ++ record { place = block_place m; len = block_len m } ∷ []) before (inside ++ rest)
      | Err e ↦ ret (Err e)
    ])) visited done ms

-- the messages from chunk 0 on
abbrev pub from_chunk_0 : ℕ → Prefix → List ℕ → Prog (Result HeaderFields ReadError)
from_chunk_0 place p b =
    elim (messages_at b) [
      | Ok ms ↦ walk 32 place p.tracked (record { place = place; len = p.total } ∷ []) [] (found_at place true ms)
      | Err e ↦ ret (Err (header_refusal place e))
    ]

-- what counts of the first look at the root header: all of it where chunk 0 is longer
abbrev pub root_view : List ℕ → List ℕ
root_view b = elim (prefix_at b) [ Ok p ↦ (if nat_lt 512 p.total then b else header_view b) | Err e ↦ header_view b ]

abbrev pub root_header : ℕ → Prog (Result HeaderFields ReadError)
root_header place = counted place root_view (λ first.
    elim (prefix_at first) [
      | Ok p ↦ (if nat_lt 512 p.total then whole (place + 512) (p.total - 512) (λ rest. from_chunk_0 place p (first ++ rest)) else from_chunk_0 place p first)
      | Err e ↦ ret (Err (header_refusal place e))
    ])

-- the address that the root's link of this name gives
abbrev pub linked : List ℕ → List FoundMessage → Result ℕ ReadError
linked name ms = refused_as Link
    (then_also (links_at (map (λ m. record { kind = m.kind; flags = m.flags; at = m.place; body = m.body }) ms)) (λ ls. find_link ls name))

-- ---- Several names

-- the addresses that the links of these names give, or the refusal of the first name that is refused
abbrev pub all_linked : List (List ℕ) → List FoundMessage → Result (List ℕ) ReadError
all_linked [] ms = Ok []
all_linked (name ∷ names) ms = then_also (linked name ms) (λ at. then_also (all_linked names ms) (λ rest. Ok (at ∷ rest)))

-- the number of the first of some addresses that is this one, counted from a number on
abbrev pub number_of : ℕ → ℕ → List ℕ → Option ℕ
number_of at number [] = None
number_of at number (a ∷ rest) = if a == at then Some number else number_of at (number + 1) rest

-- of addresses behind others the first that is one of those before it: the number of the first of these, and its own, from 1 on
abbrev pub same_behind : List ℕ → List ℕ → Option (ℕ × ℕ)
same_behind before [] = None
same_behind before (at ∷ rest) =
    elim (number_of at 1 before) [ Some first ↦ Some (first, length before + 1) | None ↦ same_behind (before ++ at ∷ []) rest ]

-- two names whose links give one address, the least second, and with it the least first; both numbers count from 1
abbrev pub same_link : List ℕ → Option (ℕ × ℕ)
same_link places = same_behind [] places

-- ---- The dataset header

-- the kinds of messages that say what a dataset is, and of a filter pipeline
abbrev pub dataspace_kind : ℕ
dataspace_kind = 0x01

abbrev pub datatype_kind : ℕ
datatype_kind = 0x03

abbrev pub fill_value_kind : ℕ
fill_value_kind = 0x05

abbrev pub layout_kind : ℕ
layout_kind = 0x08

abbrev pub filter_pipeline_kind : ℕ
filter_pipeline_kind = 0x0b

-- the first message of a kind
abbrev pub first_of : ℕ → List FoundMessage → Option FoundMessage
first_of kind ms = find (λ m. m.kind == kind) ms

-- the data of the first message of a kind
abbrev pub body_of : ℕ → List FoundMessage → Option (List ℕ)
body_of kind ms = option_map (λ m. m.body) (first_of kind ms)

abbrev pub is_shared : Option FoundMessage → Bool
is_shared None = false
is_shared (Some m) = has m.flags 2

-- what a dataset's messages say
pub record Described : Type 0 where
  pub shape : ShapeFields
  pub int_type : IntTypeFields
  pub fill : FillFields
  pub layout : LayoutFields

-- the data of the first dataspace message, which stands in chunk 0
abbrev pub dataspace_of : List FoundMessage → Result (List ℕ) Unsupported
dataspace_of ms =
    elim (first_of dataspace_kind ms) [
      | Some m ↦ (if m.in_chunk_0 then Ok m.body else Err (unsupported 4))
      | None ↦ Err (unsupported 4)
    ]

-- without a fill value message the fill is 0
abbrev pub fill_of : List FoundMessage → IntTypeFields → Result FillFields Unsupported
fill_of ms t = elim (body_of fill_value_kind ms) [ Some b ↦ fill_at b t | None ↦ Ok (record { value = None }) ]

-- there is a filter pipeline
abbrev pub is_filtered : List FoundMessage → Bool
is_filtered ms = list_any (λ m. m.kind == filter_pipeline_kind) ms

-- one of the messages that count is shared
abbrev pub shares_a_message : List FoundMessage → Bool
shares_a_message ms =
    is_shared (first_of dataspace_kind ms) || is_shared (first_of datatype_kind ms) || is_shared (first_of fill_value_kind ms) || is_shared (first_of layout_kind ms)

-- What the messages say, or the least number of what is unsupported: a filter pipeline, a shared message, a missing one,
-- and then what dataspace, datatype, fill value and layout say.
abbrev pub described : List FoundMessage → Result Described Unsupported
described ms =
    if is_filtered ms then Err (unsupported 2)
    else if shares_a_message ms then Err (unsupported 3)
    else then_also (dataspace_of ms) (λ space.
    then_also (or_refuse (body_of datatype_kind ms) (unsupported 4)) (λ datatype.
    then_also (or_refuse (body_of layout_kind ms) (unsupported 4)) (λ layout.
    then_also (shape_at space) (λ s.
    then_also (int_type_at datatype) (λ t.
    then_also (fill_of ms t) (λ f.
    then_also (layout_at layout s t) (λ l. Ok (record { shape = s; int_type = t; fill = f; layout = l }))))))))

-- chunk 0 of a dataset header; more than 512 bytes are unsupported right after what stands before the messages
abbrev pub dataset_messages : ℕ → List ℕ → Prog (Result HeaderFields ReadError)
dataset_messages place b =
    elim (prefix_at b) [
      | Ok p ↦ (if nat_lt 512 p.total then ret (Err (read_errors.Unsupported (unsupported 1))) else from_chunk_0 place p b)
      | Err e ↦ ret (Err (header_refusal place e))
    ]

-- the dataset header, given what counts of a look at it
abbrev pub dataset_from : ℕ → List ℕ → Prog (Result Described ReadError)
dataset_from place b = and_then (dataset_messages place b) (λ h. ret (refused_as read_errors.Unsupported (described h.messages)))

abbrev pub dataset : ℕ → Prog (Result Described ReadError)
dataset place = counted place header_view (dataset_from place)

-- from the superblock to the place of the dataset header
abbrev pub dataset_place : List ℕ → Prog (Result ℕ ReadError)
dataset_place name = and_then superblock (λ s. and_then (root_header s.root) (λ h. ret (linked name h.messages)))
