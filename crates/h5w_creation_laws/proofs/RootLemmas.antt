-- The root header of a created file is read: its link leads to the dataset header.
use Rattle.std.proofs.Common.{◌≡◌, ℕ, ◌+◌, ◌-◌, ◌≤◌, true, List, [], ◌∷◌, ◌++◌, length, Result, Ok, Err, refl, ap, sym, ◌∙◌, arith, append-nil}
use Rattle.std.specs.Prelude.{nat_eq, nat_lt, take, drop, if◌then◌else◌}
use Rattle.std.specs.Cmp.Lexicographic.{pointwise}
use Rattle.std.proofs.lemmas.Bool.{le-ltb, eq-eqb}
use Rattle.std.proofs.lemmas.List.{take_at}
use Rattle.std.proofs.Math.Seq.{take-add}
use Rattle.h5w_model.specs.Numbers.{num, le, range}
use Rattle.h5w_model.specs.Images.{At}
use Rattle.h5w_model.specs.Programs.{Prog, whole, ret, eval}
use Rattle.h5w_model.specs.Headers.{prefix_at, header_view, messages_at, msgs_bytes, header_bytes, placed}
use Rattle.h5w_model.specs.Links.{LinkFields, links_at, find_link, is_link, link_fields, link_bytes, link_info_bytes, group_info_bytes}
use Rattle.h5w_model.specs.Datasets.{HeaderFields, then_also, refused_as, walk, from_chunk_0, header_refusal, root_header, root_view, found_at, linked}
use Rattle.h5w_model.specs.Findings.{checked_root}
use Rattle.h5w_model.specs.declared.message.Msg.{Msg}
use Rattle.h5w_model.specs.declared.message.Prefix.{Prefix}
use Rattle.h5w_model.specs.declared.refusal.LinkError.{LinkError}
use Rattle.h5w_model.specs.declared.refusal.ReadError.{ReadError}
use Rattle.h5w_model.specs.declared.refusal.ReadError.TheVariants.{Link}
use Rattle.h5w_model.proofs.LinkLemmas.{link_written}
use Rattle.h5w_model.proofs.HeaderRoundTrip.{written_prefix, prefix_at-written, behind_prefix, regrouped, messages_at-written}
use Rattle.h5w_step_laws.specs.Ranges.{block_at}
use Rattle.h5w_step_laws.proofs.RangeLemmas.{ends_nil, ends_cons}
use Rattle.h5w_step_laws.proofs.HeaderLaws.{root_from}
use Rattle.h5w_creation_laws.specs.CreatedFiles.{CreatedFile, root_place, root_len, header_place, root_messages, root_block, super_of, end_of}
use Rattle.h5w_creation_laws.proofs.SizeLemmas.{root_messages_long, prefix_long, root_long}

-- ---- A look

-- as long as the block
pub look_at : (img : List ℕ) (place n : ℕ) (bytes : List ℕ) → At img place bytes → length bytes ≡ n → range img place n ≡ bytes
look_at img place n bytes stands e = ap (range img place) (sym e) ∙ stands

-- a longer one
look_behind : (img : List ℕ) (place n : ℕ) (bytes : List ℕ) → At img place bytes → length bytes ≤ n
    → range img place n ≡ bytes ++ take (n - length bytes) (drop (length bytes) (drop place img))
look_behind img place n bytes stands h =
    let rest = take (n - length bytes) (drop (length bytes) (drop place img)) in
    ap (range img place) (omega arith)
    ∙ take-add (length bytes) (n - length bytes) (drop place img)
    ∙ ap (λ (b : List ℕ). b ++ rest) stands

-- ---- The header

-- what stands before the messages
abbrev root_prefix : CreatedFile → Prefix
root_prefix f = written_prefix (length (msgs_bytes (root_messages f)))

-- what is found in it
abbrev root_found : CreatedFile → HeaderFields
root_found f = record { messages = found_at root_place true (placed 7 (root_messages f)); ranges = record { place = root_place; len = (root_prefix f).total } ∷ [] }

prefix_total : (f : CreatedFile) → length f.name ≤ 64 → (root_prefix f).total ≡ root_len f
prefix_total f short =
    let n = length (msgs_bytes (root_messages f)) in
    let long = root_messages_long f in
    let seven = prefix_long n (omega arith) in
    omega arith

prefix_read : (f : CreatedFile) (rest : List ℕ) → length f.name ≤ 64 → prefix_at (header_bytes (root_messages f) ++ rest) ≡ Ok (root_prefix f)
prefix_read f rest short =
    let n = length (msgs_bytes (root_messages f)) in
    let long = root_messages_long f in
    ap prefix_at (regrouped (root_messages f) rest) ∙ prefix_at-written n (behind_prefix (root_messages f) rest) (omega arith)

prefix_alone : (f : CreatedFile) → length f.name ≤ 64 → prefix_at (header_bytes (root_messages f)) ≡ Ok (root_prefix f)
prefix_alone f short = ap prefix_at (sym (append-nil (header_bytes (root_messages f)))) ∙ prefix_read f [] short

messages_alone : (f : CreatedFile) → length f.name ≤ 64 → messages_at (header_bytes (root_messages f)) ≡ Ok (placed 7 (root_messages f))
messages_alone f short =
    let n = length (msgs_bytes (root_messages f)) in
    let long = root_messages_long f in
    ap messages_at (sym (append-nil (header_bytes (root_messages f))))
    ∙ messages_at-written (root_messages f) [] (omega arith) (record { complete = refl; known = refl })
    ∙ ap (λ (k : ℕ). Ok (placed k (root_messages f))) (prefix_long n (omega arith))

-- of a header within 512 bytes what counts of the first look is its view, and that is chunk 0
pub root_view-by : (b : List ℕ) (p : Prefix) → prefix_at b ≡ Ok p → p.total ≤ 512 → root_view b ≡ header_view b
root_view-by b p h k = rw (h, root_view, le-ltb 512 p.total k) refl

header_view-by : (b : List ℕ) (p : Prefix) → prefix_at b ≡ Ok p → p.total ≤ 512 → header_view b ≡ take p.total b
unfolding header_view
header_view-by b p h k = rw (h, header_view, le-ltb 512 p.total k) refl

root_look : (img : List ℕ) (f : CreatedFile) → length f.name ≤ 64 → At img root_place (root_block f).1 → root_view (range img root_place 512) ≡ (root_block f).1
root_look img f short stands =
    let b = (root_block f).1 in
    let long = root_long f short in
    let rest = take (512 - length b) (drop (length b) (drop root_place img)) in
    let p = root_prefix f in
    let total = prefix_total f short in
    let read = prefix_read f rest short in
    ap root_view (look_behind img root_place 512 b stands (omega arith))
    ∙ root_view-by (b ++ rest) p read (omega arith)
    ∙ header_view-by (b ++ rest) p read (omega arith)
    ∙ take_at b rest p.total (omega arith)

abbrev root_start : ℕ → List ℕ → Prog (Result HeaderFields ReadError)
root_start place first =
    elim (prefix_at first) [
      | Ok p ↦ (if nat_lt 512 p.total then whole (place + 512) (p.total - 512) (λ rest. from_chunk_0 place p (first ++ rest)) else from_chunk_0 place p first)
      | Err e ↦ ret (Err (header_refusal place e))
    ]

root_start-by : (place : ℕ) (b : List ℕ) (p : Prefix) → prefix_at b ≡ Ok p → p.total ≤ 512 → root_start place b ≡ from_chunk_0 place p b
root_start-by place b p prefix short = rw (prefix, root_start, le-ltb 512 p.total short) refl

from_chunk-by : (place : ℕ) (p : Prefix) (b : List ℕ) (ms : List Msg) → messages_at b ≡ Ok ms
    → from_chunk_0 place p b ≡ walk 32 place p.tracked (record { place = place; len = p.total } ∷ []) [] (found_at place true ms)
from_chunk-by place p b ms read = rw (read, from_chunk_0) refl

header_found : (img : List ℕ) (f : CreatedFile) → length f.name ≤ 64 → At img root_place (root_block f).1 → eval img (root_header root_place) ≡ Ok (root_found f)
header_found img f short stands =
    let b = (root_block f).1 in
    let p = root_prefix f in
    let total = prefix_total f short in
    ap (λ (b : List ℕ). eval img (root_start root_place b)) (root_look img f short stands)
    ∙ ap (eval img) (root_start-by root_place b p (prefix_alone f short) (omega arith) ∙ from_chunk-by root_place p b (placed 7 (root_messages f)) (messages_alone f short))

-- ---- The link

pub same_name : (xs : List ℕ) → pointwise nat_eq xs xs ≡ true
same_name [] = refl
same_name (x ∷ xs) = rw (eq-eqb x x refl) (same_name xs)

-- a link info, a group info and a link, as the links of messages
links_of_three : (bytes : List ℕ) (link : LinkFields) (p q r : ℕ) → is_link bytes ≡ true → link_fields bytes ≡ link
    → links_at (record { kind = 0x02; flags = 0; at = p; body = link_info_bytes } ∷ record { kind = 0x0a; flags = 0; at = q; body = group_info_bytes } ∷ record { kind = 0x06; flags = 0; at = r; body = bytes } ∷ []) ≡ Ok (link ∷ [])
unfolding links_at num le
links_of_three bytes link p q r spelled fields = rw (spelled, fields) refl

found_link : (name : List ℕ) (place : ℕ) → find_link (record { name = name; kind = 0; address = place } ∷ []) name ≡ Ok place
unfolding find_link
found_link name place = rw (same_name name) refl

linked_there : (f : CreatedFile) → length f.name ≤ 64 → linked f.name (root_found f).messages ≡ Ok (header_place f)
linked_there f short =
    let place = header_place f in
    let bytes = link_bytes f.name place in
    let link : LinkFields = record { name = f.name; kind = 0; address = place } in
    let written = link_written f.name [] place (omega arith) (omega arith) in
    let alone : bytes ++ [] ≡ bytes = append-nil bytes in
    let spelled : is_link bytes ≡ true = ap is_link (sym alone) ∙ written.0 in
    let fields : link_fields bytes ≡ link = ap link_fields (sym alone) ∙ sym written.1 in
    let first = root_place + 7 in
    let second = root_place + (7 + (4 + length link_info_bytes)) in
    let third = root_place + (7 + (4 + length link_info_bytes) + (4 + length group_info_bytes)) in
    ap (λ (r : Result (List LinkFields) LinkError). refused_as Link (then_also r (λ ls. find_link ls f.name))) (links_of_three bytes link first second third spelled fields)
    ∙ ap (refused_as Link) (found_link f.name place)

pub root_stands : (img : List ℕ) (f : CreatedFile) → length f.name ≤ 64 → header_place f ≤ end_of f → At img root_place (root_block f).1
    → eval img (checked_root f.name (super_of f)) ≡ Ok (header_place f, block_at root_place (root_len f) ∷ [])
root_stands img f short fits stands =
    let total = prefix_total f short in
    root_from img f.name (super_of f) (header_place f) (root_found f) (header_found img f short stands) (linked_there f short)
    (ends_cons (end_of f) (block_at root_place (root_prefix f).total) [] (omega arith) (ends_nil (end_of f)))
    ∙ ap (λ (n : ℕ). Ok (header_place f, block_at root_place n ∷ [])) total
