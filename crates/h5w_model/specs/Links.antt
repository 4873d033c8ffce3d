-- The links of the root group, which stand in messages of its header, and the link with a name
-- (HDF5 File Format Specification 3.0, "The Link Info Message", "The Link Message" and "The Group Info Message").
use Rattle.std.specs.Prelude.{ℕ, ◌+◌, Bool, false, not, ◌&&◌, ◌||◌, ◌==◌, nat_eq, nat_le, if◌then◌else◌, List, [], ◌∷◌, ◌++◌, length, map, filter, find, Option, Some, None, Result, Ok, Err}
use Rattle.std.specs.Cmp.Lexicographic.{pointwise}
use Rattle.h5w_model.specs.Numbers.{le, range, field, undefined}
use Rattle.h5w_model.specs.Headers.{has, size_width}
use Rattle.h5w_model.specs.declared.message.Msg.{Msg}
use Rattle.h5w_model.specs.declared.refusal.LinkError.{LinkError}
use Rattle.h5w_model.specs.declared.refusal.LinkError.TheVariants.{Dense, Malformed, NoSuchName, NotHard}

-- a link: its name, its type (0 is hard), and of a hard link the address of the object's header, else 0
pub record LinkFields : Type 0 where
  pub name : List ℕ
  pub kind : ℕ
  pub address : ℕ

-- ---- Link info

-- where the heap address stands: behind version, flags, and the greatest creation order with flag bit 0
abbrev pub heap_place : List ℕ → ℕ
heap_place b = if has (field b 1 1) 1 then 10 else 2

-- how many bytes a link info takes: heap, name index, and the creation order index with flag bit 1
abbrev pub link_info_length : List ℕ → ℕ
link_info_length b = heap_place b + (if has (field b 1 1) 2 then 24 else 16)

-- whether these data are spelled as a link info
abbrev pub is_link_info : List ℕ → Bool
is_link_info b = (field b 0 1 == 0) && nat_le (link_info_length b) (length b)

-- whether it says that links stand in a heap
abbrev pub names_heap : List ℕ → Bool
names_heap b = not (field b (heap_place b) 8 == undefined)

-- ---- Link

abbrev pub link_flags : List ℕ → ℕ
link_flags b = field b 1 1

-- the link's type, hard where the field is left out
abbrev pub link_kind : List ℕ → ℕ
link_kind b = if has (link_flags b) 8 then field b 2 1 else 0

-- where the length of the name stands: behind version, flags, and with flag bits 3, 2 and 4 the link's type, the creation order and
-- the character set
abbrev pub name_length_place : ℕ → ℕ
name_length_place flags = 2 + (if has flags 8 then 1 else 0) + (if has flags 4 then 8 else 0) + (if has flags 0x10 then 1 else 0)

-- its width: 1, 2, 4 or 8 by flag bits 0 and 1
abbrev pub name_length : List ℕ → ℕ
name_length b = field b (name_length_place (link_flags b)) (size_width (link_flags b))

abbrev pub name_place : List ℕ → ℕ
name_place b = name_length_place (link_flags b) + size_width (link_flags b)

-- how many bytes a link takes: behind the name stands the address, if the link is hard
abbrev pub link_length : List ℕ → ℕ
link_length b = name_place b + name_length b + (if link_kind b == 0 then 8 else 0)

-- whether these data are spelled as a link
abbrev pub is_link : List ℕ → Bool
is_link b = (field b 0 1 == 1) && nat_le (link_length b) (length b)

abbrev pub link_fields : List ℕ → LinkFields
link_fields b = record {
  name = range b (name_place b) (name_length b);
  kind = link_kind b;
  address = if link_kind b == 0 then field b (name_place b + name_length b) 8 else 0;
}

-- ---- The links of a list of messages

abbrev pub link_info_kind : ℕ
link_info_kind = 0x02

abbrev pub link_message_kind : ℕ
link_message_kind = 0x06

-- the place of the first message that is not spelled as it has to be: a link, or the first link info. It is told whether there
-- was a link info before these messages.
abbrev pub first_misspelt : Bool → List Msg → Option ℕ
first_misspelt seen [] = None
first_misspelt seen (m ∷ ms) =
    if (m.kind == link_info_kind) && (not seen && not (is_link_info m.body)) then Some m.at
    else if (m.kind == link_message_kind) && not (is_link m.body) then Some m.at
    else first_misspelt (seen || (m.kind == link_info_kind)) ms

-- the links of link messages
abbrev pub link_list : List Msg → List LinkFields
link_list ms = map (λ m. link_fields m.body) (filter (λ m. m.kind == link_message_kind) ms)

-- the links, unless the message at this place is misspelt
abbrev pub unless_misspelt : Option ℕ → List LinkFields → Result (List LinkFields) LinkError
unless_misspelt None links = Ok links
unless_misspelt (Some place) links = Err (Malformed place)

-- the links, where each message is spelled as it has to be
abbrev pub spelled_links : List Msg → Result (List LinkFields) LinkError
spelled_links ms = unless_misspelt (first_misspelt false ms) (link_list ms)

-- what the first link info says: no link info, or one that names a heap, and links stand elsewhere
abbrev pub unless_dense : Option Msg → Result (List LinkFields) LinkError → Result (List LinkFields) LinkError
unless_dense None links = Err Dense
unless_dense (Some info) links = if is_link_info info.body && names_heap info.body then Err Dense else links

-- the links, or the first refusal
unfoldable pub links_at : List Msg → Result (List LinkFields) LinkError
links_at ms = unless_dense (find (λ m. m.kind == link_info_kind) ms) (spelled_links ms)

-- whether a link has this name
abbrev pub is_named : List ℕ → LinkFields → Bool
is_named name link = pointwise nat_eq link.name name

-- the address of a link, if it is hard
abbrev pub address_of : Option LinkFields → Result ℕ LinkError
address_of None = Err NoSuchName
address_of (Some link) = if link.kind == 0 then Ok link.address else Err (NotHard link.kind)

-- that of the first link of a name
unfoldable pub find_link : List LinkFields → List ℕ → Result ℕ LinkError
find_link links name = address_of (find (is_named name) links)

-- ---- The spellings that are written

-- links stand in messages: no greatest creation order, no heap, no name index
abbrev pub link_info_bytes : List ℕ
link_info_bytes = 0 ∷ 0 ∷ (le 8 undefined ++ le 8 undefined)

-- nothing is said of the group
abbrev pub group_info_bytes : List ℕ
group_info_bytes = 0 ∷ 0 ∷ []

-- a hard link; the name, of at most 255 bytes, has its length in one byte
abbrev pub link_bytes : List ℕ → ℕ → List ℕ
link_bytes name address = 1 ∷ 0 ∷ (le 1 (length name) ++ name ++ le 8 address)
