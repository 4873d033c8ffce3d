-- The header of a dataset as it is created is read back.
use Rattle.std.proofs.Common.{◌≡◌, ℕ, ◌+◌, ◌-◌, ◌<◌, ◌≤◌, true, cond, List, [], ◌∷◌, ◌++◌, length, Option, Some, None, Ok, refl, ap, sym, ◌∙◌, subst, inl, inr, arith}
use Rattle.std.specs.Prelude.{IfSome}
use Rattle.std.proofs.lemmas.Bool.{le-leb, le-ltb}
use Rattle.std.proofs.lemmas.List.{append-nil}
use Rattle.h5w_model.specs.Numbers.{range, le}
use Rattle.h5w_model.specs.Programs.{eval}
use Rattle.h5w_model.specs.Headers.{prefix_at, header_at, messages_at, msgs_bytes, prefix_bytes, header_bytes, placed, AreReadable, index_address_place}
use Rattle.h5w_model.specs.Messages.{shape_bytes, int_type_bytes, fill_bytes, fill_value_bytes, layout_bytes, shape_at, int_type_at, fill_at, layout_at}
use Rattle.h5w_model.specs.Datasets.{FoundMessage, HeaderFields, Described, found_at, described, first_of, dataspace_kind, layout_kind, dataset_messages, from_chunk_0, header_refusal}
use Rattle.h5w_model.specs.declared.message.Msg.{Msg}
use Rattle.h5w_model.specs.declared.message.Prefix.{Prefix}
use Rattle.h5w_model.proofs.IntegerLemmas.{int_size_bounds}
use Rattle.h5w_model.proofs.HeaderLemmas.{length-msg_bytes, length-header_bytes, header_at-ok}
use Rattle.h5w_model.proofs.HeaderRoundTrip.{written_prefix, prefix_bytes-small, header_at-written, messages_at-written}
use Rattle.h5w_model.proofs.MessageLemmas.{length-shape_bytes, length-int_type_bytes, shape_rank, fill_value_length, fill_none_bytes, shape_at-shape_bytes, int_type_at-int_type_bytes, fill_at-fill_bytes}
use Rattle.h5w_model.proofs.LayoutLemmas.{layout_length_bound, layout_at-layout_bytes}
use Rattle.h5w_laws.proofs.ResultLemmas.{choice_from}
use Rattle.h5w_laws.proofs.PlaceLemmas.{one_index_place}
use Rattle.h5w_laws.proofs.DatasetReads.{look_says}
use Rattle.h5w_step_laws.specs.Ranges.{AllEndBy, block_at}
use Rattle.h5w_step_laws.proofs.RangeLemmas.{ends_nil, ends_cons}
use Rattle.h5w_step_laws.proofs.HeaderVisits.{view_whole, same_header}
use Rattle.h5w_step_laws.proofs.HeaderLaws.{dataset_checked}
use Rattle.h5w_step_laws.specs.Files.{chunk_0}
use Rattle.h5w_step_laws.specs.Spelled.{message, spelled_messages, spelled_header, IsSpellable, SpelledRead, SpelledStands}
use Rattle.h5w_step_laws.proofs.CommitLaws.{rows_place_is, index_place_is, rows_there, index_there}
use Rattle.h5w_step_laws.proofs.MessageLemmas.{is_space}
use Rattle.h5w_step_laws.proofs.HeaderFoundLemmas.{some_found}
use Rattle.h5w_step_laws.proofs.HeaderDescribedLemmas.{from_parts}
use Rattle.h5w_step_laws.proofs.ImageLemmas.{small_from, refused_here, walk_from, own_range}

-- ---- What each message says

shape_said : (d : Described) → IsSpellable d → shape_at (shape_bytes d.shape) ≡ Ok d.shape
shape_said d h = ap shape_at (sym (append-nil (shape_bytes d.shape))) ∙ shape_at-shape_bytes d.shape [] h.shape h.rows h.cols

int_type_said : (d : Described) → IsSpellable d → int_type_at (int_type_bytes d.int_type) ≡ Ok d.int_type
int_type_said d h = ap int_type_at (sym (append-nil (int_type_bytes d.int_type))) ∙ int_type_at-int_type_bytes d.int_type [] h.int_type

fill_fits : (value : Option (List ℕ)) (size : ℕ) → 1 ≤ size → size ≤ 8 → IfSome value (λ bytes. length bytes ≡ size)
    → IfSome value (λ bytes. (0 < length bytes) × (length bytes ≡ size) × (length bytes < 256))
fill_fits None size low high h = tt
fill_fits (Some bytes) size low high h = (omega (arith, low, h), h, omega (arith, high, h))

fill_said : (d : Described) → IsSpellable d → fill_at (fill_bytes d.fill) d.int_type ≡ Ok d.fill
fill_said d h =
    let bounds = int_size_bounds d.int_type.size h.int_type in
    ap (λ b. fill_at b d.int_type) (sym (append-nil (fill_bytes d.fill)))
    ∙ fill_at-fill_bytes d.fill d.int_type [] (fill_fits d.fill.value d.int_type.size bounds.0 bounds.1 h.fill)

layout_said : (d : Described) → IsSpellable d → layout_at (layout_bytes d.layout d.shape d.int_type) d.shape d.int_type ≡ Ok d.layout
layout_said d h =
    let b = layout_bytes d.layout d.shape d.int_type in
    ap (λ x. layout_at x d.shape d.int_type) (sym (append-nil b))
    ∙ layout_at-layout_bytes d.layout d.shape d.int_type [] h.shape h.int_type h.layout h.address
    ∙ ap (λ p. Ok (record { chunk_rows = d.layout.chunk_rows; chunk_cols = d.layout.chunk_cols; index = d.layout.index; address = d.layout.address; place = p })) (sym h.place)

-- all of them, wherever they stand
pub says_all : (d : Described) (place at : ℕ) → IsSpellable d → described (found_at place true (placed at (spelled_messages d))) ≡ Ok d
says_all d place at h = from_parts (found_at place true (placed at (spelled_messages d))) d (record {
  filtered = refl;
  shared = refl;
  space = shape_bytes d.shape;
  space_is = refl;
  datatype = int_type_bytes d.int_type;
  datatype_is = refl;
  layout = layout_bytes d.layout d.shape d.int_type;
  layout_is = refl;
  shape = shape_said d h;
  int_type = int_type_said d h;
  fill = fill_said d h;
  laid = layout_said d h;
})

-- ---- Lengths

fill_short : (value : Option (List ℕ)) (size : ℕ) → size ≤ 8 → IfSome value (λ bytes. length bytes ≡ size) → length (fill_value_bytes value) ≤ 14
fill_short None size high h = omega (arith, ap length fill_none_bytes)
fill_short (Some bytes) size high h = omega (arith, fill_value_length bytes, high, h)

pub messages_long : (d : Described) → length (msgs_bytes (spelled_messages d))
    ≡ 16 + (length (shape_bytes d.shape) + (length (int_type_bytes d.int_type) + (length (fill_bytes d.fill) + length (layout_bytes d.layout d.shape d.int_type))))
messages_long d =
    let s = message dataspace_kind (shape_bytes d.shape) in
    let t = message 3 (int_type_bytes d.int_type) in
    let f = message 5 (fill_bytes d.fill) in
    let l = message layout_kind (layout_bytes d.layout d.shape d.int_type) in
    omega (arith, length-msg_bytes s (msgs_bytes (t ∷ f ∷ l ∷ [])), length-msg_bytes t (msgs_bytes (f ∷ l ∷ [])), length-msg_bytes f (msgs_bytes (l ∷ [])), length-msg_bytes l [])

pub messages_short : (d : Described) → IsSpellable d → length (msgs_bytes (spelled_messages d)) ≤ 255
messages_short d h =
    let bounds = int_size_bounds d.int_type.size h.int_type in
    let shape = length-shape_bytes d.shape h.shape in
    let ranks : d.shape.rank ≤ 2 = elim (shape_rank d.shape h.shape) [ inl e ↦ omega (arith, e) | inr e ↦ omega (arith, e) ] in
    omega (arith, messages_long d, shape, ranks, length-int_type_bytes d.int_type, fill_short d.fill.value d.int_type.size bounds.1 h.fill, layout_length_bound d.layout d.shape d.int_type h.shape h.int_type h.layout)

prefix_long : (n : ℕ) → n ≤ 255 → length (prefix_bytes n) ≡ 7
unfolding le
prefix_long n h = ap length (prefix_bytes-small n (le-leb n 255 h))

-- ---- What is read

-- what stands before the messages
abbrev pub prefix_of : Described → Prefix
prefix_of d = written_prefix (length (msgs_bytes (spelled_messages d)))

readable : (d : Described) → AreReadable (spelled_messages d)
readable d = record { complete = refl; known = refl }

pub spelled_messages_at : (d : Described) (rest : List ℕ) → IsSpellable d → messages_at (spelled_header d ++ rest) ≡ Ok (placed 7 (spelled_messages d))
spelled_messages_at d rest h =
    let short = messages_short d h in
    messages_at-written (spelled_messages d) rest (omega arith) (readable d)
    ∙ ap (λ n. Ok (placed n (spelled_messages d))) (prefix_long (length (msgs_bytes (spelled_messages d))) short)

spelled_alone : (d : Described) → IsSpellable d → messages_at (spelled_header d) ≡ Ok (placed 7 (spelled_messages d))
spelled_alone d h = ap messages_at (sym (append-nil (spelled_header d))) ∙ spelled_messages_at d [] h

spelled_header_at : (d : Described) → IsSpellable d → header_at (spelled_header d) ≡ Ok (prefix_of d)
spelled_header_at d h =
    let short = messages_short d h in
    ap header_at (sym (append-nil (spelled_header d))) ∙ header_at-written (spelled_messages d) [] (omega arith)

pub spelled_read : SpelledRead
spelled_read d h =
    let short = messages_short d h in
    let b = header_bytes (spelled_messages d) in
    let n = length (msgs_bytes (spelled_messages d)) in
    let seven = prefix_long n short in
    let long : length b ≡ 7 + n + 4 = length-header_bytes (spelled_messages d) ∙ omega arith in
    let header = spelled_header_at d h in
    let alone = spelled_alone d h in
    let ms = placed 7 (spelled_messages d) in
    let p = prefix_of d in
    let space : Msg = record { kind = dataspace_kind; flags = 0; at = 7; body = shape_bytes d.shape } in
    let l = layout_bytes d.layout d.shape d.int_type in
    let at = 7 + (4 + length (shape_bytes d.shape)) + (4 + length (int_type_bytes d.int_type)) + (4 + length (fill_bytes d.fill)) in
    let layout : Msg = record { kind = layout_kind; flags = 0; at = at; body = l } in
    let place = one_index_place l d.shape d.int_type d.layout (layout_said d h) in
    let room : index_address_place l + 8 ≤ length l = subst (λ (k : ℕ). k + 8 ≤ length l) (sym place.written) place.inside in
    let last : index_address_place l ≡ length l - 8 = place.written ∙ h.place in
    let all = messages_long d in
    record {
      long = omega arith;
      short = omega arith;
      messages = λ rest. spelled_messages_at d rest h;
      alone = alone;
      rows = rows_place_is b p ms space header alone refl ∙ rows_there p space (is_space (shape_bytes d.shape) d.shape (shape_said d h)).long;
      index =
          index_place_is b p ms header alone ∙ index_there p layout room
          ∙ ap (λ k. Some k) (omega arith);
    }

-- ---- Where it stands

pub spelled_stands : SpelledStands
spelled_stands img limits s place d h stands fits few =
    let short = messages_short d h in
    let b = header_bytes (spelled_messages d) in
    let n = length (msgs_bytes (spelled_messages d)) in
    let long : length b ≡ length (prefix_bytes n) + n + 4 = length-header_bytes (spelled_messages d) in
    let seven = prefix_long n short in
    let p = prefix_of d in
    let ms = placed 7 (spelled_messages d) in
    let begun : prefix_at b ≡ Ok p = (header_at-ok b p (spelled_header_at d h)).prefix in
    let here : range img place p.total ≡ b = ap (λ k. range img place k) (sym long) ∙ stands in
    let look : prefix_at (range img place 512) ≡ Ok p = look_says img place p (ap prefix_at here ∙ begun) in
    let small : p.total ≤ 512 = omega arith in
    let chunk : chunk_0 img place ≡ b = view_whole img place p look small ∙ here in
    let k : HeaderFields = record { messages = found_at place true ms; ranges = own_range place p ∷ [] } in
    let read : eval img (dataset_messages place b) ≡ Ok k =
    choice_from img (prefix_at b) (small_from place b) (header_refusal place) p k begun
    (ap (λ c. eval img (cond c refused_here (from_chunk_0 place p b))) (le-ltb 512 p.total small)
    ∙ choice_from img (messages_at b) (walk_from place p) (header_refusal place) ms k (spelled_alone d h) refl) in
    let ends : AllEndBy s.end (block_at place p.total ∷ []) = ends_cons s.end (block_at place p.total) [] (omega arith) (ends_nil s.end) in
    let checked = dataset_checked img limits s place d k (ap (λ x. eval img (dataset_messages place x)) chunk ∙ read) (says_all d place 7 h) few ends in
    record {
      header = checked ∙ ap (λ n. Ok (d, block_at place n ∷ [])) (sym long);
      chunk = chunk;
      layout = λ g y is found.
          let e : k ≡ g = same_header k g (sym (ap (λ x. eval img (dataset_messages place x)) chunk ∙ read) ∙ is) in
          ap (λ (z : FoundMessage). z.in_chunk_0) (sym (some_found _ y (ap (λ (x : HeaderFields). first_of layout_kind x.messages) e ∙ found)));
    }
