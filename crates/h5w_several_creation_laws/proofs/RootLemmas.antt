-- The root header of a created file of several datasets is read: the link of each name leads to its dataset's header.
use Rattle.std.proofs.Common.{◌≡◌, ℕ, suc, ◌+◌, ◌^◌, ◌<◌, ◌≤◌, List, [], ◌∷◌, length, Ok, refl, ap, sym, ◌∙◌, subst, arith}
use Rattle.std.specs.List.{AllByRecursion}
use Rattle.std.specs.Prelude.{if◌then◌else◌, nat_le}
use Rattle.h5w_model.specs.Images.{At}
use Rattle.h5w_model.specs.Programs.{eval}
use Rattle.h5w_model.specs.Headers.{header_bytes, msgs_bytes}
use Rattle.h5w_model.specs.Links.{group_info_bytes, link_info_bytes, link_info_kind}
use Rattle.h5w_model.specs.Datasets.{HeaderFields, root_header}
use Rattle.h5w_model.specs.Relations.{AllPaired}
use Rattle.h5w_model.specs.declared.message.Msg.{Msg}
use Rattle.h5w_model.specs.declared.message.Prefix.{Prefix}
use Rattle.h5w_laws.proofs.LinkLemmas.{IsLinked}
use Rattle.h5w_step_laws.specs.Spelled.{message}
use Rattle.h5w_creation_laws.specs.CreatedFiles.{CreatedFile, IsCreatable, group_info_kind, root_place}
use Rattle.h5w_several_creation_laws.specs.Links.{AreLinks, IsLink, link_message, link_messages, linking, linking_header_len, linking_len, names_in, names_len, places_in}
use Rattle.h5w_several_creation_laws.specs.SeveralFiles.{AllNamed, AreCreatable, names_of, end_behind, links_len, messages_len, root_len, first_place, end_from, links_from, root_messages, root_bytes}
use Rattle.h5w_several_creation_laws.proofs.PlaceLemmas.{links_short, end_above}
use Rattle.h5w_several_creation_laws.proofs.LinkLemmas as lists

-- ---- The links of datasets, the first of which stands at a place

abbrev Pair : Type 0
Pair = List ℕ × ℕ

abbrev links_at : ℕ → List CreatedFile → List Pair
links_at place [] = []
links_at place (f ∷ fs) = (f.name, place) ∷ links_at (end_behind place f) fs

abbrev all_links : List CreatedFile → List Pair
all_links fs = links_at (first_place fs) fs

abbrev pub places_from : ℕ → List CreatedFile → List ℕ
places_from place [] = []
places_from place (f ∷ fs) = place ∷ places_from (end_behind place f) fs

names_are : (place : ℕ) (fs : List CreatedFile) → names_in (links_at place fs) ≡ names_of fs
names_are place [] = refl
names_are place (f ∷ fs) = ap (λ (ns : List (List ℕ)). f.name ∷ ns) (names_are (end_behind place f) fs)

places_are : (place : ℕ) (fs : List CreatedFile) → places_in (links_at place fs) ≡ places_from place fs
places_are place [] = refl
places_are place (f ∷ fs) = ap (λ (ns : List ℕ). place ∷ ns) (places_are (end_behind place f) fs)

messages_are : (place : ℕ) (fs : List CreatedFile) → link_messages (links_at place fs) ≡ links_from place fs
messages_are place [] = refl
messages_are place (f ∷ fs) = ap (λ (ms : List Msg). link_message (f.name, place) ∷ ms) (messages_are (end_behind place f) fs)

len_is : (fs : List CreatedFile) → names_len (names_of fs) ≡ links_len fs
len_is [] = refl
len_is (f ∷ fs) = ap (λ n. 15 + length f.name + n) (len_is fs)

linking_is : (fs : List CreatedFile) → linking (all_links fs) ≡ root_messages fs
linking_is fs = ap (λ (ms : List Msg). message link_info_kind link_info_bytes ∷ message group_info_kind group_info_bytes ∷ ms) (messages_are (first_place fs) fs)

linking_long : (fs : List CreatedFile) → linking_len (names_in (all_links fs)) ≡ messages_len fs
linking_long fs = ap linking_len (names_are (first_place fs) fs) ∙ ap (λ n. 28 + n) (len_is fs)

header_len_is : (fs : List CreatedFile) → linking_header_len (names_in (all_links fs)) ≡ root_len fs
header_len_is fs = ap (λ n. (if nat_le n 255 then 11 else 12) + n) (linking_long fs)

count_is : (place : ℕ) (fs : List CreatedFile) → length (links_at place fs) ≡ length fs
count_is place [] = refl
count_is place (f ∷ fs) = ap suc (count_is (end_behind place f) fs)

each_is : (place : ℕ) (fs : List CreatedFile) → AllByRecursion IsCreatable fs → end_from place fs < 2 ^ 64 → AllByRecursion IsLink (links_at place fs)
each_is place [] h low = tt
each_is place (f ∷ fs) h low =
    let one : IsCreatable f = h.0 in
    let short = one.name_bound in
    let above = end_above (end_behind place f) fs in
    (record { named = omega arith; low = omega arith }, each_is (end_behind place f) fs h.1 low)

are_links : (fs : List CreatedFile) → AreCreatable fs → end_from (first_place fs) fs < 2 ^ 64 → AreLinks (all_links fs)
are_links fs h low = let count = count_is (first_place fs) fs in let few = h.few in record { few = omega (arith, count); each = each_is (first_place fs) fs h.each low }

-- ---- The root header

pub messages_long : (fs : List CreatedFile) → length (msgs_bytes (root_messages fs)) ≡ messages_len fs
messages_long fs = ap (λ (ms : List Msg). length (msgs_bytes ms)) (sym (linking_is fs)) ∙ lists.messages_long (all_links fs) ∙ linking_long fs

-- what stands before the messages
abbrev pub root_prefix : List CreatedFile → Prefix
root_prefix fs = lists.root_prefix (all_links fs)

pub prefix_total : (fs : List CreatedFile) → (root_prefix fs).total ≡ root_len fs
prefix_total fs = lists.prefix_total (all_links fs) ∙ header_len_is fs

pub root_long : (fs : List CreatedFile) → length (root_bytes fs) ≡ root_len fs
root_long fs = ap (λ (ms : List Msg). length (header_bytes ms)) (sym (linking_is fs)) ∙ lists.root_long (all_links fs) ∙ header_len_is fs

-- all messages, and one range
abbrev pub root_found : List CreatedFile → HeaderFields
root_found fs = lists.root_found (all_links fs)

pub header_found : (img : List ℕ) (fs : List CreatedFile) → AreCreatable fs → end_from (first_place fs) fs < 2 ^ 64 → At img root_place (root_bytes fs) → eval img (root_header root_place) ≡ Ok (root_found fs)
header_found img fs h low stands = lists.header_found img (all_links fs) (are_links fs h low) (subst (λ (ms : List Msg). At img root_place (header_bytes ms)) (sym (linking_is fs)) stands)

pub all_linked : (fs : List CreatedFile) → AreCreatable fs → end_from (first_place fs) fs < 2 ^ 64 → AllPaired (IsLinked (root_found fs).messages) (names_of fs) (places_from (first_place fs) fs)
all_linked fs h low =
    subst (λ (ns : List (List ℕ)). AllPaired (IsLinked (root_found fs).messages) ns (places_from (first_place fs) fs)) (names_are (first_place fs) fs)
    (subst (λ (ps : List ℕ). AllPaired (IsLinked (root_found fs).messages) (names_in (all_links fs)) ps) (places_are (first_place fs) fs)
    (lists.each_linked (all_links fs) (are_links fs h low) (subst AllNamed (sym (names_are (first_place fs) fs)) h.named)))
