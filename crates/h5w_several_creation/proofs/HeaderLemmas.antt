-- A dataset header with another address of the index.
use Rattle.std.proofs.Common.{◌≡◌, ℕ, ◌+◌, ◌-◌, List, [], ◌∷◌, ◌++◌, length, length-append, append_assoc, append-nil, take, refl, ap, sym, ◌∙◌, arith}
use Rattle.std.specs.Prelude.{flat_map}
use Rattle.std.proofs.lemmas.List.{take_at}
use Rattle.h5w_model.specs.Numbers.{le}
use Rattle.h5w_model.specs.Checksum.{sealed_block, sum_of}
use Rattle.h5w_model.specs.Headers.{msg_bytes, prefix_bytes, header_bytes}
use Rattle.h5w_model.specs.Messages.{layout_bytes, layout_width, chunk_sizes, index_bytes, shape_bytes, int_type_bytes, fill_bytes}
use Rattle.h5w_model.specs.Datasets.{Described, dataspace_kind, datatype_kind, fill_value_kind}
use Rattle.h5w_model.proofs.NumberLemmas.{length-le}
use Rattle.h5w_model.proofs.ChecksumLemmas.{length-sealed_block}
use Rattle.h5w_step_laws.specs.Spelled.{message, spelled_header}
use Rattle.h5w_several_creation.specs.Forms.{with_address}

-- the layout's data before the address
abbrev layout_front : Described → List ℕ
layout_front d =
    let l = d.layout in
    let width = layout_width l.chunk_rows l.chunk_cols d.int_type.size in
    4 ∷ 2 ∷ 0 ∷ (d.shape.rank + 1) ∷ width ∷ (flat_map (le width) (chunk_sizes d.shape.rank l.chunk_rows l.chunk_cols d.int_type.size) ++ index_bytes l.index)

layout_parts : (d : Described) → layout_bytes d.layout d.shape d.int_type ≡ layout_front d ++ le 8 d.layout.address
unfolding layout_bytes
layout_parts d =
    let l = d.layout in
    let width = layout_width l.chunk_rows l.chunk_cols d.int_type.size in
    ap (λ (b : List ℕ). 4 ∷ 2 ∷ 0 ∷ (d.shape.rank + 1) ∷ width ∷ b)
    (sym (append_assoc (flat_map (le width) (chunk_sizes d.shape.rank l.chunk_rows l.chunk_cols d.int_type.size)) (index_bytes l.index) (le 8 l.address)))

-- the messages before the layout, and the layout's
abbrev first_of : Described → List ℕ
first_of d = msg_bytes (message dataspace_kind (shape_bytes d.shape))

abbrev second_of : Described → List ℕ
second_of d = msg_bytes (message datatype_kind (int_type_bytes d.int_type))

abbrev third_of : Described → List ℕ
third_of d = msg_bytes (message fill_value_kind (fill_bytes d.fill))

abbrev last_with : List ℕ → List ℕ
last_with b = 8 ∷ (le 2 (length b) ++ 0 ∷ b)

abbrev body_with : Described → List ℕ → List ℕ
body_with d b = first_of d ++ (second_of d ++ (third_of d ++ (last_with b ++ [])))

-- they are those of the header
body_is : (d : Described) → spelled_header d ≡ sealed_block (prefix_bytes (length (body_with d (layout_bytes d.layout d.shape d.int_type))) ++ body_with d (layout_bytes d.layout d.shape d.int_type))
unfolding header_bytes
body_is d = refl

regroup : (p q r x f z : List ℕ) → p ++ (q ++ (r ++ ((8 ∷ (x ++ 0 ∷ (f ++ z))) ++ []))) ≡ (p ++ (q ++ (r ++ (8 ∷ (x ++ 0 ∷ f))))) ++ z
regroup p q r x f z = simp (append_assoc, append-nil)

-- all of the messages before the address, which has 8 bytes
abbrev body_front : Described → List ℕ
body_front d = first_of d ++ (second_of d ++ (third_of d ++ (8 ∷ (le 2 (length (layout_front d) + 8) ++ 0 ∷ layout_front d))))

body_parts : (d : Described) → body_with d (layout_bytes d.layout d.shape d.int_type) ≡ body_front d ++ le 8 d.layout.address
body_parts d =
    let front = layout_front d in
    let address = le 8 d.layout.address in
    let long : length (front ++ address) ≡ length front + 8 = length-append front address ∙ ap (λ (n : ℕ). length front + n) (length-le 8 d.layout.address) in
    ap (body_with d) (layout_parts d)
    ∙ ap (λ (n : ℕ). first_of d ++ (second_of d ++ (third_of d ++ ((8 ∷ (le 2 n ++ 0 ∷ (front ++ address))) ++ [])))) long
    ∙ regroup (first_of d) (second_of d) (third_of d) (le 2 (length front + 8)) front address

-- the header before the address
abbrev header_front : Described → List ℕ
header_front d = prefix_bytes (length (body_front d) + 8) ++ body_front d

pub header_parts : (d : Described) → spelled_header d ≡ sealed_block (header_front d ++ le 8 d.layout.address)
header_parts d =
    let address = le 8 d.layout.address in
    let long : length (body_front d ++ address) ≡ length (body_front d) + 8 = length-append (body_front d) address ∙ ap (λ (n : ℕ). length (body_front d) + n) (length-le 8 d.layout.address) in
    body_is d
    ∙ ap (λ (b : List ℕ). sealed_block (prefix_bytes (length b) ++ b)) (body_parts d)
    ∙ ap (λ (n : ℕ). sealed_block (prefix_bytes n ++ (body_front d ++ address))) long
    ∙ ap sealed_block (sym (append_assoc (prefix_bytes (length (body_front d) + 8)) (body_front d) address))

-- the same dataset by another address
abbrev pub by_address : Described → ℕ → Described
by_address d address = record d { layout = record d.layout { address = address } }

sealed_front : (front behind : List ℕ) → length behind ≡ 8 → take (length (sealed_block (front ++ behind)) - 12) (sealed_block (front ++ behind)) ≡ front
sealed_front front behind eight =
    let long : length (sealed_block (front ++ behind)) - 12 ≡ length front = omega (arith, length-sealed_block (front ++ behind), length-append front behind, eight) in
    ap (take (length (sealed_block (front ++ behind)) - 12)) (append_assoc front behind (le 4 (sum_of (front ++ behind))))
    ∙ take_at front (behind ++ le 4 (sum_of (front ++ behind))) (length (sealed_block (front ++ behind)) - 12) (sym long)

pub moved_header : (d : Described) (address : ℕ) → with_address (spelled_header d) address ≡ spelled_header (by_address d address)
moved_header d address =
    ap (λ (b : List ℕ). with_address b address) (header_parts d)
    ∙ ap (λ (b : List ℕ). sealed_block (b ++ le 8 address)) (sealed_front (header_front d) (le 8 d.layout.address) (length-le 8 d.layout.address))
    ∙ sym (header_parts (by_address d address))
