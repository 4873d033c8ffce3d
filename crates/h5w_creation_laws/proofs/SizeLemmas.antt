-- How long the blocks of a created file are.
use Rattle.std.proofs.Common.{◌≡◌, ℕ, ◌+◌, ◌-◌, ◌≤◌, List, [], ◌∷◌, ◌++◌, length, length-append, Option, Some, None, refl, ap, sym, ◌∙◌, inl, inr, subst, arith}
use Rattle.std.specs.Prelude.{IfSome, map}
use Rattle.std.proofs.lemmas.Bool.{le-leb}
use Rattle.h5w_model.specs.Numbers.{le}
use Rattle.h5w_model.specs.Images.{AllSized}
use Rattle.h5w_model.specs.Headers.{msgs_bytes, prefix_bytes}
use Rattle.h5w_model.specs.Links.{link_info_bytes, group_info_bytes, link_bytes, link_info_kind, link_message_kind}
use Rattle.h5w_model.specs.Messages.{IsLayout, shape_bytes, int_type_bytes, fill_bytes, fill_value_bytes, layout_bytes}
use Rattle.h5w_model.specs.Integers.{fill_cell_value}
use Rattle.h5w_model.specs.Trees.{bthd_bytes, bthd_len}
use Rattle.h5w_model.specs.declared.cell.IndexKind.{IndexKind}
use Rattle.h5w_model.specs.declared.cell.IndexKind.TheVariants.{Array, Tree}
use Rattle.h5w_model.proofs.NumberLemmas.{length-le}
use Rattle.h5w_model.proofs.ChecksumLemmas.{length-sealed_block}
use Rattle.h5w_model.proofs.IntegerLemmas.{int_size_bounds, length-cell_bytes_of, value_at-cell_bytes_of}
use Rattle.h5w_model.proofs.SuperLemmas.{length-super_bytes}
use Rattle.h5w_model.proofs.HeaderLemmas.{length-msg_bytes, length-header_bytes}
use Rattle.h5w_model.proofs.HeaderRoundTrip.{prefix_bytes-small}
use Rattle.h5w_model.proofs.MessageLemmas.{shape_rank, length-shape_bytes, length-int_type_bytes, fill_value_length, fill_none_bytes}
use Rattle.h5w_model.proofs.LayoutLemmas.{length-layout_bytes, layout_length_bound}
use Rattle.h5w_bt.proofs.Spelling.{bthd_body, bthd_bytes-is}
use Rattle.h5w_array_laws.proofs.CreatedLemmas.{header_size, index_size}
use Rattle.h5w_step_laws.specs.Spelled.{message, IsSpellable}
use Rattle.h5w_step_laws.proofs.SpelledLemmas.{spelled_read}
use Rattle.h5w_creation_laws.specs.CreatedFiles.{CreatedFile, IsCreatable, fill_len, layout_len, header_len, root_len, header_place, index_place, block_place, index_len, root_messages, shape_of, layout_of, described_of, super_of, empty_tree, super_block, root_block, header_block, index_blocks, block_write}
use Rattle.h5w_creation_laws.specs.CreationLaws.{FillGiven}

-- ---- The root header

pub length_link : (name : List ℕ) (place : ℕ) → length (link_bytes name place) ≡ 11 + length name
unfolding le
length_link name place = omega (arith, length-append name (le 8 place), length-le 8 place)

length_info : length link_info_bytes ≡ 18
unfolding le
length_info = refl

length_group : length group_info_bytes ≡ 2
length_group = refl

pub root_messages_long : (f : CreatedFile) → length (msgs_bytes (root_messages f)) ≡ 43 + length f.name
root_messages_long f =
    let info = message link_info_kind link_info_bytes in
    let group = message 0x0a group_info_bytes in
    let link = message link_message_kind (link_bytes f.name (header_place f)) in
    omega (arith, length-msg_bytes info (msgs_bytes (group ∷ link ∷ [])), length-msg_bytes group (msgs_bytes (link ∷ [])), length-msg_bytes link [], length_info, length_group, length_link f.name (header_place f))

pub prefix_long : (n : ℕ) → n ≤ 255 → length (prefix_bytes n) ≡ 7
unfolding le
prefix_long n h = ap length (prefix_bytes-small n (le-leb n 255 h))

pub root_long : (f : CreatedFile) → length f.name ≤ 64 → length (root_block f).1 ≡ root_len f
root_long f short =
    let n = length (msgs_bytes (root_messages f)) in
    let long = root_messages_long f in
    let seven : length (prefix_bytes n) ≡ 7 = prefix_long n (omega arith) in
    length-header_bytes (root_messages f) ∙ omega arith

-- ---- The dataset header

pub few_dimensions : (f : CreatedFile) → IsCreatable f → f.rank ≤ 2
few_dimensions f h = elim (shape_rank (shape_of f) h.shaped) [ inl e ↦ omega (arith, e) | inr e ↦ omega (arith, e) ]

laid : (f : CreatedFile) → IsCreatable f → IsLayout (layout_of f) (shape_of f) f.int_type
laid f h =
    let some = h.some_rows in
    let wide = h.some_cols in
    let small = h.small in
    record {
      rows = omega arith;
      cols = omega arith;
      line = h.line;
      small = omega arith;
      index = h.indexed;
    }

fill_long : (value : Option (List ℕ)) → length (fill_value_bytes value) ≡ fill_len value
fill_long None = ap length fill_none_bytes
fill_long (Some bytes) = fill_value_length bytes

fill_short : (value : Option (List ℕ)) (size : ℕ) → size ≤ 8 → IfSome value (λ bytes. length bytes ≡ size) → fill_len value ≤ 14
fill_short None size high h = omega arith
fill_short (Some bytes) size high h = omega (arith, high, h)

layout_long : (f : CreatedFile) → IsCreatable f → length (layout_bytes (layout_of f) (shape_of f) f.int_type) ≡ layout_len f
layout_long f h = length-layout_bytes (layout_of f) (shape_of f) f.int_type h.shaped h.int_type (laid f h)

pub header_short : (f : CreatedFile) → IsCreatable f → header_len f ≤ 145
header_short f h =
    let size = int_size_bounds f.int_type.size h.int_type in
    omega (arith, few_dimensions f h, fill_short f.fill.value f.int_type.size size.1 h.fill, sym (layout_long f h), layout_length_bound (layout_of f) (shape_of f) f.int_type h.shaped h.int_type (laid f h))

pub index_low : (f : CreatedFile) → IsCreatable f → index_place f ≤ 311
index_low f h = omega (arith, header_short f h, h.name_bound)

pub spellable : (f : CreatedFile) → IsCreatable f → IsSpellable (described_of f)
spellable f h =
    let columns = h.columns_bound in
    record {
      shape = h.shaped;
      rows = omega arith;
      cols = omega arith;
      int_type = h.int_type;
      fill = h.fill;
      layout = laid f h;
      address = omega (arith, index_low f h);
      place = ap (λ (n : ℕ). n - 8) (sym (layout_long f h));
    }

pub header_long : (f : CreatedFile) → IsCreatable f → length (header_block f).1 ≡ header_len f
header_long f h =
    (spelled_read (described_of f) (spellable f h)).long
    ∙ (let e : 27 + (length (shape_bytes (shape_of f)) + (length (int_type_bytes f.int_type) + (length (fill_bytes f.fill) + length (layout_bytes (layout_of f) (shape_of f) f.int_type)))) ≡ header_len f =
    omega (arith, length-shape_bytes (shape_of f) h.shaped, length-int_type_bytes f.int_type, fill_long f.fill.value, layout_long f h) in e)

-- ---- The index

pub tree_long : length (bthd_bytes empty_tree) ≡ bthd_len
unfolding le
tree_long = ap length (bthd_bytes-is empty_tree) ∙ length-sealed_block (bthd_body empty_tree)

pub index_lens : (k : IndexKind) → index_len k ≤ 370
index_lens Array = omega arith
index_lens Tree = omega arith

-- ---- All of them

pub sized_by : (k : IndexKind) (f : CreatedFile) → length (header_block f).1 ≡ header_len f → length (root_block f).1 ≡ root_len f → header_len f ≤ 145 → length f.name ≤ 64
    → AllSized (map block_write (index_blocks k f ++ header_block f ∷ root_block f ∷ super_block f ∷ []))
sized_by Array f header root short name =
    let block = index_size (index_place f) in
    let array = header_size (block_place f) in
    let super = length-super_bytes (super_of f) in
    ((omega arith, omega arith), ((omega arith, omega arith), ((omega arith, omega arith), ((omega arith, omega arith), ((omega arith, omega arith), tt)))))
sized_by Tree f header root short name =
    let tree = tree_long in
    let super = length-super_bytes (super_of f) in
    ((omega arith, omega arith), ((omega arith, omega arith), ((omega arith, omega arith), ((omega arith, omega arith), tt))))

-- ---- A fill by its value

pub fill_by_value : FillGiven
fill_by_value v t bytes typed is = record {
  sized = subst (λ (o : Option (List ℕ)). IfSome o (λ bytes. length bytes ≡ t.size)) (sym is) (length-cell_bytes_of v t bytes is);
  value = ap (λ (o : Option (List ℕ)). fill_cell_value o t) is ∙ value_at-cell_bytes_of v t bytes typed is;
}

pub length_infos : (length link_info_bytes ≡ 18) × (length group_info_bytes ≡ 2)
unfolding le
length_infos = (refl, refl)
