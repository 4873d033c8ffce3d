-- Rows that were written before, and rows behind them.
use Rattle.std.proofs.Common.{◌≡◌, ℕ, ◌+◌, ◌-◌, ◌*◌, ◌/◌, ◌%◌, ◌<◌, ◌≤◌, ◌⊎◌, true, false, List, [], ◌∷◌, ◌++◌, length, Some, sym, ◌∙◌, ap, subst, inl, inr, arith}
use Rattle.std.proofs.lemmas.Bool.{cases_lt}
use Rattle.std.proofs.lemmas.Nat.{mul-add-lt}
use Rattle.std.specs.List.{slice_get}
use Rattle.h5w_model.specs.Numbers.{range}
use Rattle.h5w_model.specs.Images.{AllMiss, Apart, At, image}
use Rattle.h5w_model.specs.Datasets.{Described}
use Rattle.h5w_model.specs.Tables.{cell_offset, chunks_across}
use Rattle.h5w_model.specs.declared.piece.Write.{Write}
use Rattle.h5w_model.proofs.ImageLemmas.{Apart-part, At-image_missed, length-range}
use Rattle.h5w_model.proofs.NumberLemmas.{range-append-left, range-append-right}
use Rattle.h5w_chunks.specs.Grids.{IsCut, cell_in, chunk_len, fill_cell}
use Rattle.h5w_chunks.specs.Shares.{chunk_number}
use Rattle.h5w_chunks.specs.Rows.{AllWithin, ChunksApart, IsChunkOf, IsOther, RowsWritten, place_in}
use Rattle.h5w_chunks.specs.Early.{EarlyJoins, GoesOn, RowsStand, WrittenStand, shift_of}
use Rattle.h5w_chunks.specs.declared.grid.ChunkPlace.{ChunkPlace}
use Rattle.h5w_chunks.proofs.Geometry.{band_of_number, cell_fits, cells_fit, div_grows, joined_bands, number_parts, quotient_lt}

pub rows_stand : WrittenStand
rows_stand img d cells from to places ws w apart = record {
  placed = w.placed;
  stands = λ row column p. w.stands img row column p apart;
  filled = λ row column p. w.filled img row column p apart;
  missed = λ row column p. w.missed row column p apart;
  within = w.within;
}

-- ---- Numbers

-- a number counted from an earlier band
shifted : (f m x n c : ℕ) → f ≤ m → m ≤ x → (x - f) * n + c ≡ (m - f) * n + ((x - m) * n + c)
shifted f m x n c low high =
    let split : x - f ≡ (m - f) + (x - m) = omega (arith, low, high) in
    ap (λ y. y * n + c) split ∙ joined_bands (m - f) (x - m) n c

row_end : (r c n m : ℕ) → r < n → c < m → r * m + c < n * m
row_end r c n m row column = let h : r * m + c < m * n = mul-add-lt r m c n row column in omega arith

later_at : (x y m c s : ℕ) → ((x + y) * m + c) * s ≡ x * m * s + (y * m + c) * s
later_at x y m c s = grind arith

-- ---- Writes within chunks

-- what is apart from each of the chunks is missed by writes within them
pub within_miss : (d : Described) (places : List ChunkPlace) (ws : List Write) (place n : ℕ) → AllWithin d places ws → ((k : ℕ) (p : ChunkPlace) → slice_get places k ≡ Some p → Apart p.address (chunk_len d) place n) → AllMiss ws place n
within_miss d places [] place n within apart = tt
within_miss d places (w ∷ ws) place n within apart = (
  Apart-part within.0.1.address (chunk_len d) place n w.at (length w.piece) place n within.0.3 within.0.4 (omega arith) (omega arith) (apart within.0.0 within.0.1 within.0.2),
  within_miss d places ws place n within.1 apart,
)

-- ---- The chunk of a row, among those of the rows from `mid` on

record Later (d : Described) (mid : ℕ) (later : List ChunkPlace) (row column : ℕ) (p : ChunkPlace) : Type 0 where
  q : ChunkPlace
  is : IsChunkOf d mid later row column q
  same : q.address ≡ p.address
  early : row / d.layout.chunk_rows * d.layout.chunk_rows < mid → q.stored ≡ true
  fresh : mid ≤ row / d.layout.chunk_rows * d.layout.chunk_rows → q.stored ≡ p.stored

module _ (img : List ℕ) (d : Described) (old new : List ℕ) (from mid to : ℕ) (some later all : List ChunkPlace) (ws : List Write) (cut : IsCut d) (low_mid : from ≤ mid) (high_mid : mid ≤ to)
    (count : length old ≡ (mid - from) * d.shape.cols * d.int_type.size) (a : RowsStand img d old from mid some []) (w : RowsWritten d new mid to later ws) (g : GoesOn d from mid some later all) (apart : ChunksApart d all) where
  abbrev R : ℕ
  R = d.layout.chunk_rows

  bands : from / R ≤ mid / R
  bands = div_grows from mid R cut.rows low_mid

  -- the band of a chunk by its number
  band_of : (base row column : ℕ) → base / R ≤ row / R → column < chunks_across d * d.layout.chunk_cols → base / R + chunk_number d base row column / chunks_across d ≡ row / R
  band_of base row column band across = band_of_number d base row column cut.cols band across

  number_shifted : (row column : ℕ) → mid / R ≤ row / R → chunk_number d from row column ≡ shift_of d from mid + chunk_number d mid row column
  number_shifted row column band = shifted (from / R) (mid / R) (row / R) (chunks_across d) (column / d.layout.chunk_cols) bands band

  later_of : (row column : ℕ) (p : ChunkPlace) → IsChunkOf d from all row column p → mid / R ≤ row / R → Later d mid later row column p
  later_of row column p c band =
      let k : ℕ = chunk_number d mid row column in
      let n = g.next k p (subst (λ i. slice_get all i ≡ Some p) (number_shifted row column band) c.stands) in
      let is_band : mid / R + k / chunks_across d ≡ row / R = band_of mid row column band c.across in
      record {
        q = n.0;
        is = record { band = band; across = c.across; stands = n.1 };
        same = n.2.address;
        early = λ h. n.2.early (subst (λ b. b * R < mid) (sym is_band) h);
        fresh = λ h. n.2.late (subst (λ b. mid ≤ b * R) (sym is_band) h);
      }

  later_apart : ChunksApart d later
  later_apart j k p q differ e h =
      let x = g.back j p e in
      let y = g.back k q h in
      subst (λ b. Apart b (chunk_len d) q.address (chunk_len d)) (sym x.2.address)
      (subst (λ b. Apart x.0.address (chunk_len d) b (chunk_len d)) (sym y.2.address)
      (apart (shift_of d from mid + j) (shift_of d from mid + k) x.0 y.0 (λ same. differ (omega (arith, same))) x.1 y.1))

  -- a chunk that rows before `mid` touch
  known : (row column : ℕ) (p : ChunkPlace) → IsChunkOf d from all row column p → row / R * R < mid → IsChunkOf d from some row column p
  known row column p c before =
      let is_band : from / R + chunk_number d from row column / chunks_across d ≡ row / R = band_of from row column c.band c.across in
      record { band = c.band; across = c.across; stands = g.known (chunk_number d from row column) p c.stands (subst (λ b. b * R < mid) (sym is_band) before) }

  whole_band : (row : ℕ) → row / R * R / R ≡ row / R
  whole_band row = let parts = number_parts (row / R) R 0 cut.rows in ap (λ x. x / R) (let e : row / R * R ≡ row / R * R + 0 = omega arith in e) ∙ parts.0

  -- the band of a row does not begin before that of `mid`
  behind_mid : (row : ℕ) → mid ≤ row / R * R → mid / R ≤ row / R
  behind_mid row behind = let same = whole_band row in omega (arith, div_grows mid (row / R * R) R cut.rows behind, same)

  -- a cell lies in its chunk
  in_chunk : (row column : ℕ) → cell_offset d row column + d.int_type.size ≤ chunk_len d
  in_chunk row column = cell_fits (row % R) (column % d.layout.chunk_cols) R d.layout.chunk_cols d.int_type.size (let h = cut.rows in omega (arith, h)) (let h = cut.cols in omega (arith, h))

  -- a chunk of an earlier band is none of those
  earlier_off : (row column : ℕ) (p : ChunkPlace) → IsChunkOf d from all row column p → row / R < mid / R → AllMiss ws (place_in d p row column) d.int_type.size
  earlier_off row column p c before = within_miss d later ws (place_in d p row column) d.int_type.size w.within off
    where
      below : chunk_number d from row column < shift_of d from mid
      below =
          let b = c.band in
          row_end (row / R - from / R) (column / d.layout.chunk_cols) (mid / R - from / R) (chunks_across d) (omega (arith, b, before)) (quotient_lt column (chunks_across d) d.layout.chunk_cols cut.cols c.across)

      off : (k : ℕ) (q : ChunkPlace) → slice_get later k ≡ Some q → Apart q.address (chunk_len d) (place_in d p row column) d.int_type.size
      off k q found =
          let x = g.back k q found in
          subst (λ b. Apart b (chunk_len d) (place_in d p row column) d.int_type.size) (sym x.2.address)
          (Apart-part x.0.address (chunk_len d) p.address (chunk_len d) x.0.address (chunk_len d) (place_in d p row column) d.int_type.size (omega arith) (omega arith) (omega arith) (omega (arith, in_chunk row column))
          (apart (shift_of d from mid + k) (chunk_number d from row column) x.0 p (λ same. absurd (omega (arith, same, below))) x.1 c.stands))

  -- another cell of a chunk that rows before `mid` touch is missed
  early_off : (row column : ℕ) (p : ChunkPlace) → IsChunkOf d from all row column p → row / R * R < mid → IsOther d mid to row column → AllMiss ws (place_in d p row column) d.int_type.size
  early_off row column p c before other = elim (cases_lt (row / R) (mid / R)) [
    | inl less ↦ earlier_off row column p c less
    | inr here ↦
        let l = later_of row column p c here in
        subst (λ b. AllMiss ws (b + cell_offset d row column) d.int_type.size) l.same (w.missed row column l.q later_apart l.is other (l.early before))
  ]

  other_later : (row column : ℕ) → IsOther d from to row column → IsOther d mid to row column
  other_later row column (inl before) = inl (omega (arith, before, low_mid))
  other_later row column (inr rest) = inr rest

  other_early : (row column : ℕ) → IsOther d from to row column → IsOther d from mid row column
  other_early row column (inl before) = inl before
  other_early row column (inr (inl past)) = inr (inl (omega (arith, past, high_mid)))
  other_early row column (inr (inr past)) = inr (inr past)

  -- ---- Cells

  old_end : (row column : ℕ) → from ≤ row → row < mid → column < d.shape.cols → ((row - from) * d.shape.cols + column) * d.int_type.size + d.int_type.size ≤ length old
  old_end row column low early inside = omega (arith, cells_fit (row - from) 0 d.shape.cols column 1 d.int_type.size (mid - from) (length old) (omega (arith, low, early)) (omega (arith, inside)) count)

  old_cell : (row column : ℕ) → from ≤ row → row < mid → column < d.shape.cols → cell_in d (old ++ new) from row column ≡ cell_in d old from row column
  old_cell row column low early inside = range-append-left old new (((row - from) * d.shape.cols + column) * d.int_type.size) d.int_type.size (old_end row column low early inside)

  new_cell : (row column : ℕ) → mid ≤ row → cell_in d (old ++ new) from row column ≡ cell_in d new mid row column
  new_cell row column late =
      let m = d.shape.cols in
      let s = d.int_type.size in
      let split : row - from ≡ (mid - from) + (row - mid) = omega (arith, late, low_mid) in
      let place : ((row - from) * m + column) * s ≡ (mid - from) * m * s + ((row - mid) * m + column) * s = ap (λ x. (x * m + column) * s) split ∙ later_at (mid - from) (row - mid) m column s in
      range-append-right old new ((mid - from) * m * s) (((row - from) * m + column) * s) s count (omega (arith, place))
      ∙ ap (λ x. range new x s) (let e : ((row - from) * m + column) * s - (mid - from) * m * s ≡ ((row - mid) * m + column) * s = omega (arith, place) in e)

  -- ---- All

  all_placed : (row column : ℕ) → from ≤ row → row < to → column < d.shape.cols → (p : ChunkPlace) × IsChunkOf d from all row column p
  all_placed row column low high inside = elim (cases_lt row mid) [
    | inl early ↦
        let x = a.placed row column low early inside in
        (x.0, record { band = x.1.band; across = x.1.across; stands = g.first (chunk_number d from row column) x.0 x.1.stands })
    | inr late ↦
        let x = w.placed row column late high inside in
        let y = g.back (chunk_number d mid row column) x.0 x.1.stands in
        let band = x.1.band in
        (y.0, record { band = omega (arith, bands, band); across = x.1.across; stands = subst (λ i. slice_get all i ≡ Some y.0) (sym (number_shifted row column band)) y.1 })
  ]

  all_stand : (row column : ℕ) (p : ChunkPlace) → IsChunkOf d from all row column p → from ≤ row → row < to → column < d.shape.cols → At (image img ws) (place_in d p row column) (cell_in d (old ++ new) from row column)
  all_stand row column p c low high inside = go (cases_lt row mid)
    where
      go : (row < mid) ⊎ (mid ≤ row) → At (image img ws) (place_in d p row column) (cell_in d (old ++ new) from row column)
      go (inl early) =
          let band : row / R * R < mid = omega (arith, early) in
          let there = a.stands row column p (known row column p c band) low early inside in
          let long : length (cell_in d old from row column) ≡ d.int_type.size =
          length-range old (((row - from) * d.shape.cols + column) * d.int_type.size) d.int_type.size ∙ (let ends = old_end row column low early inside in omega (arith, ends)) in
          let miss : AllMiss ws (place_in d p row column) (length (cell_in d old from row column)) = subst (λ n. AllMiss ws (place_in d p row column) n) (sym long) (early_off row column p c band (inl early)) in
          subst (λ b. At (image img ws) (place_in d p row column) b) (sym (old_cell row column low early inside)) (At-image_missed img ws (place_in d p row column) (cell_in d old from row column) miss there)
      go (inr late) =
          let l = later_of row column p c (div_grows mid row R cut.rows late) in
          let there = w.stands img row column l.q later_apart l.is late high inside in
          subst (λ b. At (image img ws) (place_in d p row column) b) (sym (new_cell row column late))
          (subst (λ b. At (image img ws) (b + cell_offset d row column) (cell_in d new mid row column)) l.same there)

  all_filled : (row column : ℕ) (p : ChunkPlace) → IsChunkOf d from all row column p → IsOther d from to row column → p.stored ≡ false → At (image img ws) (place_in d p row column) (fill_cell d)
  all_filled row column p c other fresh = go (cases_lt (row / R * R) mid)
    where
      go : (row / R * R < mid) ⊎ (mid ≤ row / R * R) → At (image img ws) (place_in d p row column) (fill_cell d)
      go (inl before) =
          let there = a.filled row column p (known row column p c before) (other_early row column other) fresh in
          let miss = early_off row column p c before (other_later row column other) in
          At-image_missed img ws (place_in d p row column) (fill_cell d) (subst (λ n. AllMiss ws (place_in d p row column) n) (sym cut.fill) miss) there
      go (inr behind) =
          let here = behind_mid row behind in
          let l = later_of row column p c here in
          subst (λ b. At (image img ws) (b + cell_offset d row column) (fill_cell d)) l.same (w.filled img row column l.q later_apart l.is (other_later row column other) (l.fresh behind ∙ fresh))

  all_missed : (row column : ℕ) (p : ChunkPlace) → IsChunkOf d from all row column p → IsOther d from to row column → p.stored ≡ true → AllMiss ws (place_in d p row column) d.int_type.size
  all_missed row column p c other stored = go (cases_lt (row / R * R) mid)
    where
      go : (row / R * R < mid) ⊎ (mid ≤ row / R * R) → AllMiss ws (place_in d p row column) d.int_type.size
      go (inl before) = early_off row column p c before (other_later row column other)
      go (inr behind) =
          let here = behind_mid row behind in
          let l = later_of row column p c here in
          subst (λ b. AllMiss ws (b + cell_offset d row column) d.int_type.size) l.same (w.missed row column l.q later_apart l.is (other_later row column other) (l.fresh behind ∙ stored))

  all_within : AllWithin d all ws
  all_within = go ws w.within
    where
      go : (vs : List Write) → AllWithin d later vs → AllWithin d all vs
      go [] h = tt
      go (v ∷ vs) h =
          let x = g.back h.0.0 h.0.1 h.0.2 in
          ((shift_of d from mid + h.0.0, x.0, x.1, subst (λ b. b ≤ v.at) x.2.address h.0.3, subst (λ b. v.at + length v.piece ≤ b + chunk_len d) x.2.address h.0.4), go vs h.1)

pub early_joins : EarlyJoins
early_joins img d old new from mid to some later all ws cut low high count a w g apart = record {
  placed = all_placed img d old new from mid to some later all ws cut low high count a w g apart;
  stands = all_stand img d old new from mid to some later all ws cut low high count a w g apart;
  filled = all_filled img d old new from mid to some later all ws cut low high count a w g apart;
  missed = all_missed img d old new from mid to some later all ws cut low high count a w g apart;
  within = all_within img d old new from mid to some later all ws cut low high count a w g apart;
}
