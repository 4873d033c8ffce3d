-- A packed file's cells are those of its source.
use Rattle.std.proofs.Common.{◌≡◌, ◌≢◌, ℕ, ◌+◌, ◌*◌, ◌/◌, ◌%◌, ◌<◌, ◌≤◌, List, get_or, length, Option, Some, None, sym, ◌∙◌, ap, subst, inl, inr, arith}
use Rattle.std.specs.Prelude.{◌==◌, if◌then◌else◌, map, slice_get, unwrap_or, ℤ, pos}
use Rattle.std.specs.List.{range_with_len}
use Rattle.std.proofs.lemmas.Bool.{cond-false, cond-true, eq-eqb, ne_eqb}
use Rattle.std.proofs.lemmas.Bool.Decides.{eqb_tells}
use Rattle.std.proofs.lemmas.List.FromFn.{get_or-map-range_with_len, length-map-range_with_len}
use Rattle.std.proofs.lemmas.Option.{slice_get-get_or}
use Rattle.h5w_model.specs.Numbers.{range, undefined}
use Rattle.h5w_model.specs.Images.{At}
use Rattle.h5w_model.specs.Integers.{fill_value, value_at}
use Rattle.h5w_model.specs.Datasets.{Described}
use Rattle.h5w_model.specs.Tables.{Reading, cell, cell_offset, chunk_number}
use Rattle.h5w_model.specs.Findings.{chunk_bytes}
use Rattle.h5w_model.proofs.ImageLemmas.{At-range, length-range, range-At}
use Rattle.h5w_step_laws.proofs.MomentLemmas.{cell_within, value_of}
use Rattle.h5w_packing_laws.specs.Sources.{IsSource}
use Rattle.h5w_packing_laws.proofs.MapLemmas.{Tells}
use Rattle.h5w_packing.specs.Plans.{SameDataset}

-- the same dataset, whose index stands elsewhere
abbrev pub moved : Described → ℕ → ℕ → Described
moved d address place = record d { layout = record (d.layout) { address = address; place = place } }

pub same_is_moved : (d e : Described) → SameDataset d e → e ≡ moved d e.layout.address e.layout.place
same_is_moved d e s = λ i. record { shape = s.shape i; int_type = s.int_type i; fill = s.fill i; layout = s.layout i }

pub bytes_same : (d e : Described) → SameDataset d e → chunk_bytes e ≡ chunk_bytes d
bytes_same d e s = ap chunk_bytes (same_is_moved d e s)

-- Chunk for chunk the same bytes stand in the new file.
module _ (img to : List ℕ) (r : Reading) (new : List ℕ) (source : IsSource img r) (absent : (n : ℕ) → get_or r.table n undefined ≡ undefined → get_or new n undefined ≡ undefined)
    (there : (n : ℕ) → get_or r.table n undefined ≢ undefined → get_or new n undefined ≢ undefined)
    (stands : (n : ℕ) → get_or r.table n undefined ≢ undefined → At to (get_or new n undefined) (range img (get_or r.table n undefined) (chunk_bytes r.dataset))) where
  abbrev d : Described
  d = r.dataset

  abbrev size : ℕ
  size = d.int_type.size

  abbrev number : ℕ → ℕ → ℕ
  number row column = chunk_number d (row / d.layout.chunk_rows) (column / d.layout.chunk_cols)

  abbrev moved_reading : ℕ → ℕ → ℕ → Reading
  moved_reading q address place = record { place = q; dataset = moved d address place; table = new }

  cell_bytes : (n offset : ℕ) → get_or r.table n undefined ≢ undefined → offset + size ≤ chunk_bytes d
      → range to (get_or new n undefined + offset) size ≡ range img (get_or r.table n undefined + offset) size
  cell_bytes n offset here within =
      let old : ℕ = get_or r.table n undefined in
      let inside = source.chunks n here in
      let bytes : List ℕ = range img old (chunk_bytes d) in
      let long : length bytes ≡ chunk_bytes d = length-range img old (chunk_bytes d) ∙ omega (arith, inside) in
      range-At to (get_or new n undefined) bytes offset size (stands n here) (omega (arith, long, within))
      ∙ sym (range-At img old bytes offset size (At-range img old (chunk_bytes d) inside) (omega (arith, long, within)))

  moved_cell : (q address place row column : ℕ) → cell to (moved_reading q address place) row column ≡ cell img r row column
  moved_cell q address place row column = go (eqb_tells (get_or r.table n undefined) undefined)
    where
      n : ℕ
      n = number row column

      offset : ℕ
      offset = cell_offset d row column

      within : offset + size ≤ chunk_bytes d
      within = cell_within d row column (record { rows = source.rows; cols = source.cols; size = source.size; bytes = source.some })

      go : Tells (get_or r.table n undefined) → cell to (moved_reading q address place) row column ≡ cell img r row column
      go (inl e) =
          cond-true (get_or new n undefined == undefined) (Some (fill_value d.fill d.int_type)) (value_of d (range to (get_or new n undefined + offset) size)) (eq-eqb (get_or new n undefined) undefined (absent n e.1))
          ∙ sym (cond-true (get_or r.table n undefined == undefined) (Some (fill_value d.fill d.int_type)) (value_of d (range img (get_or r.table n undefined + offset) size)) e.0)
      go (inr m) =
          cond-false (get_or new n undefined == undefined) (Some (fill_value d.fill d.int_type)) (value_of d (range to (get_or new n undefined + offset) size)) (ne_eqb (get_or new n undefined) undefined (there n m.1))
          ∙ ap (value_of d) (cell_bytes n offset m.1 within)
          ∙ sym (cond-false (get_or r.table n undefined == undefined) (Some (fill_value d.fill d.int_type)) (value_of d (range img (get_or r.table n undefined + offset) size)) m.0)

  -- whatever the index's address
  pub same_cell : (q : ℕ) (e : Described) → SameDataset d e → (row column : ℕ) → cell to (record { place = q; dataset = e; table = new }) row column ≡ cell img r row column
  same_cell q e same row column =
      subst (λ (x : Described). cell to (record { place = q; dataset = x; table = new }) row column ≡ cell img r row column) (sym (same_is_moved d e same)) (moved_cell q e.layout.address e.layout.place row column)

-- ---- Each cell of the source has a value

some_value : (o : Option ℤ) (v : ℤ) → o ≡ Some v → o ≡ Some (unwrap_or o (pos 0))
some_value o v e = e ∙ ap Some (sym (ap (λ (x : Option ℤ). unwrap_or x (pos 0)) e))

pub cell_there : (img : List ℕ) (r : Reading) → IsSource img r → (row column : ℕ) → cell img r row column ≡ Some (unwrap_or (cell img r row column) (pos 0))
cell_there img r source row column = go (eqb_tells (get_or r.table n undefined) undefined)
  where
    d : Described
    d = r.dataset

    n : ℕ
    n = chunk_number r.dataset (row / r.dataset.layout.chunk_rows) (column / r.dataset.layout.chunk_cols)

    offset : ℕ
    offset = cell_offset r.dataset row column

    size : ℕ
    size = r.dataset.int_type.size

    within : offset + size ≤ chunk_bytes r.dataset
    within = cell_within r.dataset row column (record { rows = source.rows; cols = source.cols; size = source.size; bytes = source.some })

    go : Tells (get_or r.table n undefined) → cell img r row column ≡ Some (unwrap_or (cell img r row column) (pos 0))
    go (inl e) =
        some_value (cell img r row column) (fill_value r.dataset.fill r.dataset.int_type)
        (cond-true (get_or r.table n undefined == undefined) (Some (fill_value r.dataset.fill r.dataset.int_type)) (value_of r.dataset (range img (get_or r.table n undefined + offset) size)) e.0)
    go (inr m) =
        let place : ℕ = get_or r.table n undefined + offset in
        let inside = source.chunks n m.1 in
        let long : length (range img place size) ≡ size = length-range img place size ∙ omega (arith, inside, within) in
        some_value (cell img r row column) (value_at (range img place size) r.dataset.int_type)
        (cond-false (get_or r.table n undefined == undefined) (Some (fill_value r.dataset.fill r.dataset.int_type)) (value_of r.dataset (range img place size)) m.0
        ∙ cond-true (length (range img place size) == size) (Some (value_at (range img place size) r.dataset.int_type)) None (eq-eqb (length (range img place size)) size long))

-- the values of its rows
abbrev value_at_number : List ℕ → Reading → ℕ → ℤ
value_at_number img r k = unwrap_or (cell img r (k / r.dataset.shape.cols) (k % r.dataset.shape.cols)) (pos 0)

abbrev pub values_of : List ℕ → Reading → List ℤ
values_of img r = map (value_at_number img r) (range_with_len 0 (r.dataset.shape.rows * r.dataset.shape.cols))

pub values_long : (img : List ℕ) (r : Reading) → length (values_of img r) ≡ r.dataset.shape.rows * r.dataset.shape.cols
values_long img r = length-map-range_with_len (value_at_number img r) 0 (r.dataset.shape.rows * r.dataset.shape.cols)

pub values_are : (img : List ℕ) (r : Reading) → IsSource img r → (k : ℕ) → k < length (values_of img r) → cell img r (k / r.dataset.shape.cols) (k % r.dataset.shape.cols) ≡ slice_get (values_of img r) k
values_are img r source k low =
    let count : ℕ = r.dataset.shape.rows * r.dataset.shape.cols in
    let below : k < count = omega (arith, low, values_long img r) in
    let number : 0 + k ≡ k = omega arith in
    cell_there img r source (k / r.dataset.shape.cols) (k % r.dataset.shape.cols)
    ∙ ap Some (sym (get_or-map-range_with_len (value_at_number img r) 0 count k k (pos 0) below number))
    ∙ sym (slice_get-get_or (values_of img r) k (pos 0) low)
