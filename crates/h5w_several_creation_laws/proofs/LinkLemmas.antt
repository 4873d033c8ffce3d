-- A root header that links names to dataset headers is read: the link of each name leads to its header.
use Rattle.std.proofs.Common.{◌≡◌, ◌≢◌, ℕ, ◌+◌, ◌-◌, ◌*◌, ◌≤◌, Bool, true, false, cond, leb, List, [], ◌∷◌, ◌++◌, length, append_assoc, append-nil, Option, Some, None, Result, Ok, refl, ap, sym, ◌∙◌, inl, inr, arith}
use Rattle.std.specs.Prelude.{nat_eq, nat_lt, map, find, ◌&&◌}
use Rattle.std.specs.List.{AllByRecursion, sum_by, list_all}
use Rattle.std.specs.Cmp.Lexicographic.{pointwise}
use Rattle.std.proofs.lemmas.Bool.{cases_Bool, eqb-true, lt-ltb, le-ltb}
use Rattle.std.proofs.lemmas.List.Sums.{sum_by-cons}
use Rattle.h5w_model.specs.Numbers.{num, le, range}
use Rattle.h5w_model.specs.Images.{At}
use Rattle.h5w_model.specs.Programs.{Prog, ret, whole, eval}
use Rattle.h5w_model.specs.Headers.{header_bytes, prefix_at, prefix_bytes, messages_at, msgs_bytes, placed, AreReadable, unless_refused, first_unknown, names_block}
use Rattle.h5w_model.specs.Links.{LinkFields, links_at, link_list, first_misspelt, unless_misspelt, find_link, address_of, is_named, is_link, link_fields, link_bytes, link_info_bytes, group_info_bytes, link_info_kind, link_message_kind}
use Rattle.h5w_model.specs.Datasets.{FoundMessage, HeaderFields, Range, then_also, refused_as, walk, from_chunk_0, header_refusal, root_header, root_view, found_at}
use Rattle.h5w_model.specs.Relations.{AllPaired}
use Rattle.h5w_model.specs.declared.message.Msg.{Msg}
use Rattle.h5w_model.specs.declared.message.Prefix.{Prefix}
use Rattle.h5w_model.specs.declared.refusal.LinkError.{LinkError}
use Rattle.h5w_model.specs.declared.refusal.ReadError.{ReadError}
use Rattle.h5w_model.specs.declared.refusal.ReadError.TheVariants.{Link}
use Rattle.h5w_model.proofs.HeaderLemmas.{length-header_bytes, length-msgs_bytes}
use Rattle.h5w_model.proofs.HeaderRoundTrip.{written_prefix, prefix_at-written, prefix_bytes-small, prefix_bytes-large, behind_prefix, regrouped, messages_at-written}
use Rattle.h5w_model.proofs.LinkLemmas.{link_written}
use Rattle.h5w_laws.proofs.ResultLemmas.{choice_from}
use Rattle.h5w_laws.proofs.PrefixLemmas.{IsRootView, root_view_says}
use Rattle.h5w_laws.proofs.DatasetReads.{look_and_rest, look_says, chunk_in_look, root_view_reads}
use Rattle.h5w_laws.proofs.LinkLemmas.{IsLinked}
use Rattle.h5w_step_laws.specs.Spelled.{message}
use Rattle.h5w_creation_laws.specs.CreatedFiles.{root_place, group_info_kind}
use Rattle.h5w_several_creation_laws.specs.SeveralFiles.{AllNamed}
use Rattle.h5w_several_creation_laws.specs.Links.{AreLinks, IsLink, link_message, link_messages, linking, linking_header_len, linking_len, names_in, names_len, places_in}
use Rattle.h5w_creation_laws.proofs.SizeLemmas.{length_link, length_infos}
use Rattle.h5w_creation_laws.proofs.RootLemmas.{same_name}

-- ---- How long it is

abbrev Pair : Type 0
Pair = List ℕ × ℕ

abbrev weight : Msg → ℕ
weight m = 4 + length m.body

links_long : (ls : List Pair) → sum_by weight (link_messages ls) ≡ names_len (names_in ls)
links_long [] = refl
links_long (l ∷ ls) =
    let one = sum_by-cons weight (link_message l) (link_messages ls) in
    let rest = links_long ls in
    omega (arith, one, rest, length_link l.0 l.1)

pub messages_long : (ls : List Pair) → length (msgs_bytes (linking ls)) ≡ linking_len (names_in ls)
messages_long ls =
    let info = message link_info_kind link_info_bytes in
    let group = message group_info_kind group_info_bytes in
    let links = link_messages ls in
    length-msgs_bytes (linking ls)
    ∙ omega (arith, sum_by-cons weight info (group ∷ links), sum_by-cons weight group links, links_long ls, length_infos.0, length_infos.1)

total_of : (n : ℕ) → length (prefix_bytes n) + n + 4 ≡ cond (leb n 255) 11 12 + n
unfolding le
total_of n = elim (cases_Bool (leb n 255)) [
  | inl e ↦ let long : length (prefix_bytes n) ≡ 7 = ap length (prefix_bytes-small n e) in rw e (omega (arith, long))
  | inr e ↦ let long : length (prefix_bytes n) ≡ 8 = ap length (prefix_bytes-large n e) in rw e (omega (arith, long))
]

names_short : (ls : List Pair) → AllByRecursion IsLink ls → names_len (names_in ls) ≤ 270 * length ls
names_short [] h = omega arith
names_short (l ∷ ls) h = let one : IsLink l = h.0 in let named = one.named in let rest = names_short ls h.1 in omega arith

pub messages_few : (ls : List Pair) → AreLinks ls → linking_len (names_in ls) ≤ 2188
messages_few ls h = let few = h.few in let short = names_short ls h.each in omega arith

-- what stands before the messages
abbrev pub root_prefix : List Pair → Prefix
root_prefix ls = written_prefix (length (msgs_bytes (linking ls)))

pub prefix_total : (ls : List Pair) → (root_prefix ls).total ≡ linking_header_len (names_in ls)
prefix_total ls = total_of (length (msgs_bytes (linking ls))) ∙ ap (λ (n : ℕ). cond (leb n 255) 11 12 + n) (messages_long ls)

pub root_long : (ls : List Pair) → length (header_bytes (linking ls)) ≡ linking_header_len (names_in ls)
root_long ls = length-header_bytes (linking ls) ∙ prefix_total ls

-- ---- Its messages

none_unknown : (ls : List Pair) → first_unknown 0x80 (link_messages ls) ≡ None
none_unknown [] = refl
none_unknown (l ∷ ls) = none_unknown ls

none_continues : (ls : List Pair) → list_all names_block (link_messages ls) ≡ true
none_continues [] = refl
none_continues (l ∷ ls) = none_continues ls

readable : (ls : List Pair) → AreReadable (linking ls)
readable ls = record {
  complete = none_continues ls;
  known = ap (λ (o : Option ℕ). unless_refused o (linking ls)) (none_unknown ls);
}

-- where its first message stands
abbrev pub start_of : List Pair → ℕ
start_of ls = length (prefix_bytes (length (msgs_bytes (linking ls))))

read_alone : (ls : List Pair) → AreLinks ls → messages_at (header_bytes (linking ls)) ≡ Ok (placed (start_of ls) (linking ls))
read_alone ls h =
    let few = messages_few ls h in
    ap messages_at (sym (append-nil (header_bytes (linking ls))))
    ∙ messages_at-written (linking ls) [] (omega (arith, messages_long ls)) (readable ls)

prefix_alone : (ls : List Pair) → AreLinks ls → prefix_at (header_bytes (linking ls)) ≡ Ok (root_prefix ls)
prefix_alone ls h =
    let few = messages_few ls h in
    ap prefix_at (sym (append-nil (header_bytes (linking ls))) ∙ regrouped (linking ls) [])
    ∙ prefix_at-written (length (msgs_bytes (linking ls))) (behind_prefix (linking ls) []) (omega (arith, messages_long ls))

-- ---- What is found

abbrev found_links : ℕ → List Pair → List FoundMessage
found_links at ls = found_at root_place true (placed at (link_messages ls))

abbrev read_header : HeaderFields → Prog (Result HeaderFields ReadError)
read_header h = ret (Ok h)

walked : (visited : List Range) (done : List FoundMessage) (at : ℕ) (ls : List Pair)
    → walk 32 root_place false visited done (found_links at ls) ≡ read_header (record { messages = done ++ found_links at ls; ranges = visited })
walked visited done at [] = ap (λ (ms : List FoundMessage). read_header (record { messages = ms; ranges = visited })) (sym (append-nil done))
walked visited done at (l ∷ ls) =
    let bytes = link_bytes l.0 l.1 in
    let one : FoundMessage = record { kind = link_message_kind; flags = 0; place = root_place + at; body = bytes; in_chunk_0 = true } in
    let rest = found_links (at + (4 + length bytes)) ls in
    walked visited (done ++ one ∷ []) (at + (4 + length bytes)) ls
    ∙ ap (λ (ms : List FoundMessage). read_header (record { messages = ms; ranges = visited })) (append_assoc done (one ∷ []) rest)

-- all messages, and one range
abbrev pub root_found : List Pair → HeaderFields
root_found ls = record {
  messages = found_at root_place true (placed (start_of ls) (linking ls));
  ranges = record { place = root_place; len = (root_prefix ls).total } ∷ [];
}

-- what goes on behind the first look: with another look where chunk 0 is longer
abbrev from_look : ℕ → List ℕ → Prefix → Prog (Result HeaderFields ReadError)
from_look place first p = cond (nat_lt 512 p.total) (whole (place + 512) (p.total - 512) (λ rest. from_chunk_0 place p (first ++ rest))) (from_chunk_0 place p first)

look_is_chunk : (img : List ℕ) (place : ℕ) (p : Prefix) (b : List ℕ) → IsRootView (range img place 512) b p → eval img (from_look place b p) ≡ eval img (from_chunk_0 place p (range img place (p.total)))
look_is_chunk img place p b (inl long) =
    ap (λ (t : Bool). eval img (cond t (whole (place + 512) (p.total - 512) (λ rest. from_chunk_0 place p (b ++ rest))) (from_chunk_0 place p b))) (lt-ltb 512 p.total long.0)
    ∙ ap (λ (xs : List ℕ). eval img (from_chunk_0 place p (xs ++ range img (place + 512) (p.total - 512)))) long.1
    ∙ ap (λ (xs : List ℕ). eval img (from_chunk_0 place p xs)) (look_and_rest img place (p.total) long.0)
look_is_chunk img place p b (inr short) =
    ap (λ (t : Bool). eval img (cond t (whole (place + 512) (p.total - 512) (λ rest. from_chunk_0 place p (b ++ rest))) (from_chunk_0 place p b))) (le-ltb 512 p.total short.0)
    ∙ ap (λ (xs : List ℕ). eval img (from_chunk_0 place p xs)) (short.1 ∙ chunk_in_look img place (p.total) short.0)

pub header_found : (img : List ℕ) (ls : List Pair) → AreLinks ls → At img root_place (header_bytes (linking ls)) → eval img (root_header root_place) ≡ Ok (root_found ls)
header_found img ls h stands =
    let p = root_prefix ls in
    let total : p.total ≡ length (header_bytes (linking ls)) = prefix_total ls ∙ sym (root_long ls) in
    let bytes : range img root_place p.total ≡ header_bytes (linking ls) = ap (range img root_place) total ∙ stands in
    let look = look_says img root_place p (ap prefix_at bytes ∙ prefix_alone ls h) in
    let view = root_view_says (range img root_place 512) p look in
    let ms = placed (start_of ls) (linking ls) in
    let visited : List Range = record { place = root_place; len = p.total } ∷ [] in
    let info : FoundMessage = record { kind = link_info_kind; flags = 0; place = root_place + start_of ls; body = link_info_bytes; in_chunk_0 = true } in
    let second = start_of ls + (4 + length link_info_bytes) in
    let group : FoundMessage = record { kind = group_info_kind; flags = 0; place = root_place + second; body = group_info_bytes; in_chunk_0 = true } in
    let all = walked visited (info ∷ group ∷ []) (second + (4 + length group_info_bytes)) ls in
    let goes : eval img (from_chunk_0 root_place p (range img root_place p.total)) ≡ Ok (root_found ls) =
    ap (λ (b : List ℕ). eval img (from_chunk_0 root_place p b)) bytes
    ∙ choice_from img (messages_at (header_bytes (linking ls))) (λ (xs : List Msg). walk 32 root_place p.tracked visited [] (found_at root_place true xs)) (header_refusal root_place) ms (root_found ls) (read_alone ls h)
    (ap (eval img) all) in
    choice_from img (prefix_at (root_view (range img root_place 512))) (from_look root_place (root_view (range img root_place 512))) (header_refusal root_place) p (root_found ls)
    (root_view_reads (range img root_place 512) p look view) (look_is_chunk img root_place p (root_view (range img root_place 512)) view ∙ goes)

-- ---- The links

-- the messages as links are read from them
abbrev as_messages : List FoundMessage → List Msg
as_messages ms = map (λ (m : FoundMessage). record { kind = m.kind; flags = m.flags; at = m.place; body = m.body }) ms

abbrev fields_of : Pair → LinkFields
fields_of l = record { name = l.0; kind = 0; address = l.1 }

abbrev all_fields : List Pair → List LinkFields
all_fields ls = map fields_of ls

spelled_link : (l : Pair) → IsLink l → (is_link (link_bytes l.0 l.1) ≡ true) × (link_fields (link_bytes l.0 l.1) ≡ fields_of l)
spelled_link l h =
    let bytes = link_bytes l.0 l.1 in
    let short = h.named in
    let written = link_written l.0 [] l.1 (omega arith) h.low in
    let alone : bytes ++ [] ≡ bytes = append-nil bytes in
    (ap is_link (sym alone) ∙ written.0, ap link_fields (sym alone) ∙ sym written.1)

none_misspelt : (at : ℕ) (ls : List Pair) → AllByRecursion IsLink ls → first_misspelt true (as_messages (found_links at ls)) ≡ None
none_misspelt at [] h = refl
none_misspelt at (l ∷ ls) h =
    let one = spelled_link l h.0 in
    rw (one.0) (none_misspelt (at + (4 + length (link_bytes l.0 l.1))) ls h.1)

all_links : (at : ℕ) (ls : List Pair) → AllByRecursion IsLink ls → link_list (as_messages (found_links at ls)) ≡ all_fields ls
all_links at [] h = refl
all_links at (l ∷ ls) h =
    let one = spelled_link l h.0 in
    let rest = all_links (at + (4 + length (link_bytes l.0 l.1))) ls h.1 in
    λ i. one.1 i ∷ rest i

-- a link info and a group info before links
links_behind : (p q : ℕ) (ms : List Msg)
    → links_at (record { kind = 0x02; flags = 0; at = p; body = link_info_bytes } ∷ record { kind = 0x0a; flags = 0; at = q; body = group_info_bytes } ∷ ms)
    ≡ unless_misspelt (first_misspelt true ms) (link_list ms)
unfolding links_at num le
links_behind p q ms = refl

-- ---- The names

both_true : (a b : Bool) → (a && b) ≡ true → (a ≡ true) × (b ≡ true)
both_true true b h = (refl, h)
both_true false b h = absurd cc

is_same : (xs ys : List ℕ) → pointwise nat_eq xs ys ≡ true → xs ≡ ys
is_same [] [] h = refl
is_same [] (y ∷ ys) h = absurd cc
is_same (x ∷ xs) [] h = absurd cc
is_same (x ∷ xs) (y ∷ ys) h =
    let parts = both_true (nat_eq x y) (pointwise nat_eq xs ys) h in
    let first : x ≡ y = eqb-true x y parts.0 in
    let rest = is_same xs ys parts.1 in
    λ i. first i ∷ rest i

other_name : (xs ys : List ℕ) → xs ≢ ys → pointwise nat_eq xs ys ≡ false
other_name xs ys h = elim (cases_Bool (pointwise nat_eq xs ys)) [ inl e ↦ absurd (h (is_same xs ys e)) | inr e ↦ e ]

-- each name's link is the first of the name
abbrev EachFound : List LinkFields → List Pair → Type 0
EachFound fs [] = Unit {0}
EachFound fs (l ∷ ls) = (find (is_named l.0) fs ≡ Some (fields_of l)) × EachFound fs ls

found_behind : (f : LinkFields) (fs : List LinkFields) (ls : List Pair) → AllByRecursion (λ (other : List ℕ). f.name ≢ other) (names_in ls) → EachFound fs ls → EachFound (f ∷ fs) ls
found_behind f fs [] h each = tt
found_behind f fs (l ∷ ls) h each = (rw (other_name f.name l.0 h.0) (each.0), found_behind f fs ls h.1 each.1)

each_found : (ls : List Pair) → AllNamed (names_in ls) → EachFound (all_fields ls) ls
each_found [] h = tt
each_found (l ∷ ls) h = (
  rw (same_name l.0) refl,
  found_behind (fields_of l) (all_fields ls) ls h.0 (each_found ls h.1),
)

find_by : (ls : List LinkFields) (name : List ℕ) (l : LinkFields) → find (is_named name) ls ≡ Some l → find_link ls name ≡ address_of (Some l)
unfolding find_link
find_by ls name l e = ap address_of e

-- ---- Each link

abbrev links_are : List LinkFields → Result (List LinkFields) LinkError
links_are ls = Ok ls

all_read : (ls : List Pair) → AreLinks ls → links_at (as_messages (root_found ls).messages) ≡ links_are (all_fields ls)
all_read ls h =
    let second = start_of ls + (4 + length link_info_bytes) in
    let third = second + (4 + length group_info_bytes) in
    let ms = as_messages (found_links third ls) in
    let none = none_misspelt third ls h.each in
    let all = all_links third ls h.each in
    links_behind (root_place + start_of ls) (root_place + second) ms
    ∙ (λ i. unless_misspelt (none i) (all i))

linked_by : (ms : List FoundMessage) (fs : List LinkFields) (ls : List Pair) → links_at (as_messages ms) ≡ links_are fs → EachFound fs ls → AllPaired (IsLinked ms) (names_in ls) (places_in ls)
linked_by ms fs [] read each = tt
linked_by ms fs (l ∷ ls) read each = (
  ap (λ (r : Result (List LinkFields) LinkError). refused_as Link (then_also r (λ xs. find_link xs l.0))) read
      ∙ ap (refused_as Link) (find_by fs l.0 (fields_of l) each.0),
  linked_by ms fs ls read each.1,
)

pub each_linked : (ls : List Pair) → AreLinks ls → AllNamed (names_in ls) → AllPaired (IsLinked (root_found ls).messages) (names_in ls) (places_in ls)
each_linked ls h named = linked_by (root_found ls).messages (all_fields ls) ls (all_read ls h) (each_found ls named)
