-- A root header that links names to dataset headers, in the order given.
use Rattle.std.specs.Prelude.{ℕ, ◌+◌, ◌<◌, ◌≤◌, ◌^◌, List, [], ◌∷◌, length, map, nat_le, if◌then◌else◌}
use Rattle.std.specs.List.{AllByRecursion}
use Rattle.h5w_model.specs.Links.{link_info_bytes, group_info_bytes, link_bytes, link_info_kind, link_message_kind}
use Rattle.h5w_model.specs.declared.message.Msg.{Msg}
use Rattle.h5w_step_laws.specs.Spelled.{message}
use Rattle.h5w_creation_laws.specs.CreatedFiles.{group_info_kind}

-- a link: a name, and where the header stands to which it leads
abbrev pub names_in : List (List ℕ × ℕ) → List (List ℕ)
names_in ls = map (λ (l : List ℕ × ℕ). l.0) ls

abbrev pub places_in : List (List ℕ × ℕ) → List ℕ
places_in ls = map (λ (l : List ℕ × ℕ). l.1) ls

-- ---- The messages

abbrev pub link_message : List ℕ × ℕ → Msg
link_message l = message link_message_kind (link_bytes l.0 l.1)

abbrev pub link_messages : List (List ℕ × ℕ) → List Msg
link_messages ls = map link_message ls

-- link info, group info, and the links
abbrev pub linking : List (List ℕ × ℕ) → List Msg
linking ls = message link_info_kind link_info_bytes ∷ message group_info_kind group_info_bytes ∷ link_messages ls

-- ---- How long they are

-- a link has 15 bytes beside the name
abbrev pub names_len : List (List ℕ) → ℕ
names_len [] = 0
names_len (name ∷ names) = 15 + length name + names_len names

abbrev pub linking_len : List (List ℕ) → ℕ
linking_len names = 28 + names_len names

-- the size of the messages takes one byte, or two where it is above 255
abbrev pub linking_header_len : List (List ℕ) → ℕ
linking_header_len names = (if nat_le (linking_len names) 255 then 11 else 12) + linking_len names

-- ---- Which can be spelled

-- a name of at most 255 bytes, and a place of 64 bits
pub record IsLink (l : List ℕ × ℕ) : Type 0 where
  pub named : length l.0 ≤ 255
  pub low : l.1 < 2 ^ 64

-- at most 8 links
pub record AreLinks (ls : List (List ℕ × ℕ)) : Type 0 where
  pub few : length ls ≤ 8
  pub each : AllByRecursion IsLink ls
