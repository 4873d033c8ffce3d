-- The writes of new rows, on every image.
use Rattle.std.proofs.Common.{◌≡◌, ◌≢◌, ℕ, ◌+◌, ◌-◌, ◌*◌, ◌^◌, ◌<◌, ◌≤◌, ◌⊎◌, Bool, true, false, cond, List, [], ◌∷◌, ◌++◌, length, sym, refl, ap, ◌∙◌, subst, inl, inr, arith, length-append}
use Rattle.std.proofs.lemmas.List.{append_assoc}
use Rattle.std.proofs.lemmas.Nat.{mul-add-lt, mul-le}
use Rattle.std.proofs.lemmas.Bool.{cases_eq, cases_lt, cond-true, cond-false, eq-eqb, ne_eqb}
use Rattle.std.proofs.lemmas.Bool.Decides.{eqb_tells}
use Rattle.std.specs.Prelude.{◌==◌}
use Rattle.h5w_model.specs.Numbers.{range}
use Rattle.h5w_model.specs.Images.{AllMiss, Apart, At, image, pieces}
use Rattle.h5w_model.specs.Datasets.{Described}
use Rattle.h5w_model.specs.declared.piece.Write.{Write}
use Rattle.h5w_model.proofs.ImageLemmas.{At-front, At-part, At-pieces, At-rest, length-range, pieces-miss}
use Rattle.h5w_chunks.specs.Grids.{IsCut, chunk_len, copies, fill_cell, row_len}
use Rattle.h5w_chunks.specs.Shares.{new_chunk, own_row, padded_rows, row_blocks, share_blocks, share_rows, writes_of}
use Rattle.h5w_chunks.specs.Rows.{IsShare}
use Rattle.h5w_chunks.specs.declared.grid.ChunkPlace.{ChunkPlace}
use Rattle.h5w_chunks.specs.declared.share.Share.{Share}
use Rattle.h5w_chunks.proofs.Geometry.{cell_fits}
use Rattle.h5w_chunks.proofs.Loops.{no_copies, run_rows}
use Rattle.h5w_chunks.proofs.BlockLemmas.{AllLong, BlocksIn, copy_there, length-copies, length-padded_rows, padded_row_there, range-range, row_blocks_in, row_blocks_miss, row_there, writes_of-one}

-- ---- One share's blocks

-- a part and the rest of it, in cells
pub part_and_rest : (w all size : ℕ) → w ≤ all → w * size + (all - w) * size ≡ all * size
part_and_rest w all size fits = let whole : (w + (all - w)) * size ≡ all * size = ap (λ (n : ℕ). n * size) (let e : w + (all - w) ≡ all = omega arith in e) in omega arith

three : (a b c n : ℕ) → (a + b + c) * n ≡ a * n + (b * n + c * n)
three a b c n = omega arith

cases_Stored : (b : Bool) → (b ≡ false) ⊎ (b ≡ true)
cases_Stored true = inr refl
cases_Stored false = inl refl

abbrev cases_stored : (p : ChunkPlace) → (p.stored ≡ false) ⊎ (p.stored ≡ true)
cases_stored p = cases_Stored p.stored

module _ (d : Described) (cells : List ℕ) (s : Share) (cut : IsCut d) (is : IsShare d cells s) where
  pub own_long : AllLong (own_row d cells s) 0 s.rows (s.columns * d.int_type.size)
  own_long j few =
      let reach = is.reach j few in
      ap (λ (i : ℕ). length (own_row d cells s i)) (let e : 0 + j ≡ j = omega arith in e)
      ∙ length-range cells (s.at + j * (d.shape.cols * d.int_type.size)) (s.columns * d.int_type.size) ∙ omega arith

  pub length-pad : s.columns * d.int_type.size + length (copies (d.layout.chunk_cols - s.columns) (fill_cell d)) ≡ row_len d
  length-pad =
      let pad : length (copies (d.layout.chunk_cols - s.columns) (fill_cell d)) ≡ (d.layout.chunk_cols - s.columns) * d.int_type.size =
      length-copies (d.layout.chunk_cols - s.columns) (fill_cell d) ∙ ap (λ (n : ℕ). (d.layout.chunk_cols - s.columns) * n) cut.fill in
      ap (λ (n : ℕ). s.columns * d.int_type.size + n) pad ∙ part_and_rest s.columns d.layout.chunk_cols d.int_type.size is.columns

  pub length-share_rows : length (share_rows d cells s) ≡ s.rows * row_len d
  length-share_rows =
      length-padded_rows (own_row d cells s) (copies (d.layout.chunk_cols - s.columns) (fill_cell d)) 0 s.rows (s.columns * d.int_type.size) own_long
      ∙ ap (λ (n : ℕ). s.rows * n) length-pad

  pub length-front : length (copies (s.first * d.layout.chunk_cols) (fill_cell d)) ≡ s.first * row_len d
  length-front =
      length-copies (s.first * d.layout.chunk_cols) (fill_cell d) ∙ ap (λ (n : ℕ). s.first * d.layout.chunk_cols * n) cut.fill ∙ omega arith

  pub length-back : length (copies ((d.layout.chunk_rows - s.first - s.rows) * d.layout.chunk_cols) (fill_cell d)) ≡ (d.layout.chunk_rows - s.first - s.rows) * row_len d
  length-back =
      length-copies ((d.layout.chunk_rows - s.first - s.rows) * d.layout.chunk_cols) (fill_cell d)
      ∙ ap (λ (n : ℕ). (d.layout.chunk_rows - s.first - s.rows) * d.layout.chunk_cols * n) cut.fill ∙ omega arith

  -- a new chunk is written whole
  pub length-new_chunk : length (new_chunk d cells s) ≡ chunk_len d
  length-new_chunk =
      let front = copies (s.first * d.layout.chunk_cols) (fill_cell d) in
      let rows = share_rows d cells s in
      let back = copies ((d.layout.chunk_rows - s.first - s.rows) * d.layout.chunk_cols) (fill_cell d) in
      let whole : (s.first + s.rows + (d.layout.chunk_rows - s.first - s.rows)) * row_len d ≡ d.layout.chunk_rows * row_len d =
      ap (λ (n : ℕ). n * row_len d) (let e : s.first + s.rows + (d.layout.chunk_rows - s.first - s.rows) ≡ d.layout.chunk_rows = (let r = is.rows in omega arith) in e) in
      let spread : (s.first + s.rows + (d.layout.chunk_rows - s.first - s.rows)) * row_len d ≡ s.first * row_len d + (s.rows * row_len d + (d.layout.chunk_rows - s.first - s.rows) * row_len d) =
      three (s.first) s.rows (d.layout.chunk_rows - s.first - s.rows) (row_len d) in
      length-append front (rows ++ back) ∙ ap (λ (n : ℕ). n + length (rows ++ back)) length-front
      ∙ ap (λ (n : ℕ). s.first * row_len d + n) (length-append rows back ∙ ap (λ (n : ℕ). n + length back) length-share_rows ∙ ap (λ (n : ℕ). s.rows * row_len d + n) length-back)
      ∙ sym spread ∙ whole

  -- the rows of a share stand one behind the other in a new chunk, the fill before and behind them
  parts_there : (img : List ℕ) (place : ℕ) → At img place (new_chunk d cells s)
      → At img place (copies (s.first * d.layout.chunk_cols) (fill_cell d))
      × (At img (place + s.first * row_len d) (share_rows d cells s)
      × At img (place + s.first * row_len d + s.rows * row_len d) (copies ((d.layout.chunk_rows - s.first - s.rows) * d.layout.chunk_cols) (fill_cell d)))
  parts_there img place there =
      let front = copies (s.first * d.layout.chunk_cols) (fill_cell d) in
      let rows = share_rows d cells s in
      let back = copies ((d.layout.chunk_rows - s.first - s.rows) * d.layout.chunk_cols) (fill_cell d) in
      let behind : At img (place + s.first * row_len d) (rows ++ back) = subst (λ (n : ℕ). At img (place + n) (rows ++ back)) length-front (At-rest img place front (rows ++ back) there) in (
        At-front img place front (rows ++ back) there,
        (
          At-front img (place + s.first * row_len d) rows back behind,
          subst (λ (n : ℕ). At img (place + s.first * row_len d + n) back) length-share_rows (At-rest img (place + s.first * row_len d) rows back behind),
        ),
      )

  -- row k of a share where its rows stand one behind the other, and the fill behind it
  rows_there : (img : List ℕ) (place k : ℕ) → At img place (share_rows d cells s) → k < s.rows
      → At img (place + k * row_len d) (own_row d cells s k) × At img (place + k * row_len d + s.columns * d.int_type.size) (copies (d.layout.chunk_cols - s.columns) (fill_cell d))
  rows_there img place k there few =
      let pad = copies (d.layout.chunk_cols - s.columns) (fill_cell d) in
      let long = s.columns * d.int_type.size in
      let both = padded_row_there img place (own_row d cells s) pad 0 s.rows long own_long there k few in
      let same : 0 + k ≡ k = omega arith in (
        subst (λ (n : ℕ). At img (place + k * n) (own_row d cells s k)) length-pad (subst (λ (i : ℕ). At img (place + k * (long + length pad)) (own_row d cells s i)) same both.0),
        subst (λ (n : ℕ). At img (place + k * n + long) pad) length-pad both.1,
      )

  -- ---- Which blocks

  blocks_new : (p : ChunkPlace) → p.stored ≡ false → share_blocks d cells s p ≡ (p.address, new_chunk d cells s) ∷ []
  blocks_new p new =
      cond-false p.stored
      (cond (s.columns == d.layout.chunk_cols) ((p.address + s.first * row_len d, share_rows d cells s) ∷ []) (row_blocks (own_row d cells s) (p.address + s.first * row_len d) (row_len d) 0 s.rows))
      ((p.address, new_chunk d cells s) ∷ []) new

  blocks_whole : (p : ChunkPlace) → p.stored ≡ true → (s.columns == d.layout.chunk_cols) ≡ true → share_blocks d cells s p ≡ (p.address + s.first * row_len d, share_rows d cells s) ∷ []
  blocks_whole p old whole =
      cond-true p.stored
      (cond (s.columns == d.layout.chunk_cols) ((p.address + s.first * row_len d, share_rows d cells s) ∷ []) (row_blocks (own_row d cells s) (p.address + s.first * row_len d) (row_len d) 0 s.rows))
      ((p.address, new_chunk d cells s) ∷ []) old
      ∙ cond-true (s.columns == d.layout.chunk_cols) ((p.address + s.first * row_len d, share_rows d cells s) ∷ []) (row_blocks (own_row d cells s) (p.address + s.first * row_len d) (row_len d) 0 s.rows) whole

  blocks_rows : (p : ChunkPlace) → p.stored ≡ true → (s.columns == d.layout.chunk_cols) ≡ false → share_blocks d cells s p ≡ row_blocks (own_row d cells s) (p.address + s.first * row_len d) (row_len d) 0 s.rows
  blocks_rows p old part =
      cond-true p.stored
      (cond (s.columns == d.layout.chunk_cols) ((p.address + s.first * row_len d, share_rows d cells s) ∷ []) (row_blocks (own_row d cells s) (p.address + s.first * row_len d) (row_len d) 0 s.rows))
      ((p.address, new_chunk d cells s) ∷ []) old
      ∙ cond-false (s.columns == d.layout.chunk_cols) ((p.address + s.first * row_len d, share_rows d cells s) ∷ []) (row_blocks (own_row d cells s) (p.address + s.first * row_len d) (row_len d) 0 s.rows) part

  -- the rows of a share end within the chunk
  pub rows_fit : s.first * row_len d + s.rows * row_len d ≤ chunk_len d
  rows_fit = omega (arith, mul-le (s.first + s.rows) (row_len d) d.layout.chunk_rows (row_len d) is.rows (omega arith))

  pub short : s.columns * d.int_type.size ≤ row_len d
  short = mul-le s.columns d.int_type.size d.layout.chunk_cols d.int_type.size is.columns (omega arith)

  -- each block lies in the chunk
  pub blocks_in : (p : ChunkPlace) → BlocksIn p.address (chunk_len d) (share_blocks d cells s p)
  blocks_in p =
      elim (cases_stored p) [
        | inl new ↦
            subst (λ (bs : List (ℕ × List ℕ)). BlocksIn p.address (chunk_len d) bs) (sym (blocks_new p new)) ((omega arith, omega (arith, length-new_chunk)), tt)
        | inr old ↦ elim (eqb_tells s.columns d.layout.chunk_cols) [
          | inl whole ↦
              subst (λ (bs : List (ℕ × List ℕ)). BlocksIn p.address (chunk_len d) bs) (sym (blocks_whole p old whole.0)) ((omega arith, omega (arith, length-share_rows, rows_fit)), tt)
          | inr part ↦
              subst (λ (bs : List (ℕ × List ℕ)). BlocksIn p.address (chunk_len d) bs) (sym (blocks_rows p old part.0))
              (row_blocks_in (own_row d cells s) (p.address + s.first * row_len d) (row_len d) 0 s.rows (s.columns * d.int_type.size) p.address (chunk_len d) own_long short (omega arith) (omega (arith, rows_fit)))
        ]
      ]

  -- where a share has all columns, its rows are one range of the cells
  pub run_is : s.columns ≡ d.layout.chunk_cols → s.columns ≡ d.shape.cols → (share_rows d cells s ≡ range cells s.at (s.rows * row_len d)) × (s.at + s.rows * row_len d ≤ length cells)
  run_is whole all =
      let S = d.int_type.size in
      let pad = copies (d.layout.chunk_cols - s.columns) (fill_cell d) in
      let wide : s.columns * S ≡ row_len d = ap (λ (n : ℕ). n * S) whole in
      let stride : d.shape.cols * S ≡ row_len d = ap (λ (n : ℕ). n * S) (sym all) ∙ wide in
      let empty : pad ≡ [] = no_copies (d.layout.chunk_cols - s.columns) (fill_cell d) (omega arith) in
      let rows : share_rows d cells s ≡ range cells (s.at + 0 * row_len d) (s.rows * row_len d) =
      ap (λ (b : List ℕ). padded_rows (own_row d cells s) b 0 s.rows) empty
      ∙ ap (λ (n : ℕ). padded_rows (λ (j : ℕ). range cells (s.at + j * n) (s.columns * S)) [] 0 s.rows) stride
      ∙ ap (λ (n : ℕ). padded_rows (λ (j : ℕ). range cells (s.at + j * row_len d) n) [] 0 s.rows) wide
      ∙ run_rows cells s.at (row_len d) 0 s.rows in
      let k = s.rows - 1 in
      let some = is.any in
      let last : s.rows ≡ k + 1 = omega arith in
      let times : s.rows * row_len d ≡ k * row_len d + row_len d = ap (λ (n : ℕ). n * row_len d) last ∙ omega arith in
      let reach = is.reach k (omega arith) in
      let far : k * (d.shape.cols * S) ≡ k * row_len d = ap (λ (n : ℕ). k * n) stride in
      (rows ∙ ap (λ (p : ℕ). range cells p (s.rows * row_len d)) (let e : s.at + 0 * row_len d ≡ s.at = omega arith in e), omega (arith, reach, far, wide, times))

  -- a chunk's bytes so far, while a new one is put together
  pub front_fits : s.first * row_len d + s.rows * row_len d ≤ 2 ^ 32
  front_fits = omega (arith, rows_fit, cut.small)

  pub back_fits : s.first * row_len d + (s.rows * row_len d + (d.layout.chunk_rows - s.first - s.rows) * d.layout.chunk_cols * d.int_type.size) ≤ 2 ^ 32
  back_fits =
      let front = copies (s.first * d.layout.chunk_cols) (fill_cell d) in
      let rows = share_rows d cells s in
      let back = copies ((d.layout.chunk_rows - s.first - s.rows) * d.layout.chunk_cols) (fill_cell d) in
      omega (arith, length-new_chunk, length-append front (rows ++ back), length-append rows back, length-front, length-back, length-share_rows, cut.small)

  -- row t ends within the share's rows
  pub row_ends : (t : ℕ) → t < s.rows → t * row_len d + row_len d ≤ s.rows * row_len d
  row_ends t few = omega (arith, mul-le (t + 1) (row_len d) s.rows (row_len d) (omega arith) (omega arith))

  -- what a new chunk is put together from
  pub new_chunk_made : (none front rows all bytes : List ℕ) → none ≡ [] → front ≡ none ++ copies (s.first * d.layout.chunk_cols) (fill_cell d) → rows ≡ front ++ share_rows d cells s
      → all ≡ rows ++ copies ((d.layout.chunk_rows - s.first - s.rows) * d.layout.chunk_cols) (fill_cell d) → bytes ≡ all → bytes ≡ new_chunk d cells s
  new_chunk_made none front rows all bytes nothing first then last same =
      let before = copies (s.first * d.layout.chunk_cols) (fill_cell d) in
      let own = share_rows d cells s in
      let back = copies ((d.layout.chunk_rows - s.first - s.rows) * d.layout.chunk_cols) (fill_cell d) in
      same ∙ last ∙ ap (λ (b : List ℕ). b ++ back) (then ∙ ap (λ (b : List ℕ). b ++ own) (first ∙ ap (λ (b : List ℕ). b ++ before) nothing)) ∙ append_assoc before own back

  -- the writes of each kind of share
  pub writes_new : (p : ChunkPlace) → p.stored ≡ false → writes_of (share_blocks d cells s p) ≡ pieces p.address (new_chunk d cells s)
  writes_new p new = ap writes_of (blocks_new p new) ∙ writes_of-one (p.address, new_chunk d cells s)

  pub writes_whole : (p : ChunkPlace) → p.stored ≡ true → s.columns ≡ d.layout.chunk_cols → writes_of (share_blocks d cells s p) ≡ pieces (p.address + s.first * row_len d) (share_rows d cells s)
  writes_whole p old whole = ap writes_of (blocks_whole p old (eq-eqb s.columns d.layout.chunk_cols whole)) ∙ writes_of-one (p.address + s.first * row_len d, share_rows d cells s)

  pub writes_rows : (p : ChunkPlace) → p.stored ≡ true → s.columns ≢ d.layout.chunk_cols → writes_of (share_blocks d cells s p) ≡ writes_of (row_blocks (own_row d cells s) (p.address + s.first * row_len d) (row_len d) 0 s.rows)
  writes_rows p old part = ap writes_of (blocks_rows p old (ne_eqb s.columns d.layout.chunk_cols part))

  -- ---- Cells

  -- a cell of a share's row
  own_cell : (img : List ℕ) (place k c : ℕ) → k < s.rows → c < s.columns → At img (place + k * row_len d) (own_row d cells s k)
      → At img (place + k * row_len d + c * d.int_type.size) (range cells (s.at + k * (d.shape.cols * d.int_type.size) + c * d.int_type.size) d.int_type.size)
  own_cell img place k c few short_of there =
      let S = d.int_type.size in
      let x = s.at + k * (d.shape.cols * S) in
      let cell_end : c * S + S ≤ s.columns * S = omega (arith, mul-le (c + 1) S s.columns S (omega arith) (omega arith)) in
      let long : length (own_row d cells s k) ≡ s.columns * S = ap (λ (i : ℕ). length (own_row d cells s i)) (let e : k ≡ 0 + k = omega arith in e) ∙ own_long k few in
      let part : At img (place + k * row_len d + c * S) (range (own_row d cells s k) (c * S) S) = At-part img (place + k * row_len d) (own_row d cells s k) (c * S) S there (omega arith) in
      subst (λ (b : List ℕ). At img (place + k * row_len d + c * S) b) (sym (range-range cells x (s.columns * S) (c * S) S (is.reach k few) cell_end)) part

  -- each cell of the share's rows stands at its place, once the share is written
  pub own_there : (img : List ℕ) (p : ChunkPlace) (k c : ℕ) → k < s.rows → c < s.columns
      → At (image img (writes_of (share_blocks d cells s p))) (p.address + ((s.first + k) * d.layout.chunk_cols + c) * d.int_type.size)
      (range cells (s.at + k * (d.shape.cols * d.int_type.size) + c * d.int_type.size) d.int_type.size)
  own_there img p k c few short_of =
      let S = d.int_type.size in
      let at_rows = p.address + s.first * row_len d in
      let cell = range cells (s.at + k * (d.shape.cols * S) + c * S) S in
      let place : at_rows + k * row_len d + c * S ≡ p.address + ((s.first + k) * d.layout.chunk_cols + c) * S = omega arith in
      let there : At (image img (writes_of (share_blocks d cells s p))) (at_rows + k * row_len d + c * S) cell =
      elim (cases_stored p) [
        | inl new ↦
            let i = image img (pieces p.address (new_chunk d cells s)) in
            let parts = parts_there i p.address (At-pieces img p.address (new_chunk d cells s)) in
            subst (λ (ws : List Write). At (image img ws) (at_rows + k * row_len d + c * S) cell) (sym (writes_new p new))
            (own_cell i at_rows k c few short_of (rows_there i at_rows k parts.1.0 few).0)
        | inr old ↦ elim (cases_eq s.columns d.layout.chunk_cols) [
          | inl whole ↦
              let i = image img (pieces at_rows (share_rows d cells s)) in
              subst (λ (ws : List Write). At (image img ws) (at_rows + k * row_len d + c * S) cell) (sym (writes_whole p old whole))
              (own_cell i at_rows k c few short_of (rows_there i at_rows k (At-pieces img at_rows (share_rows d cells s)) few).0)
          | inr part ↦
              let i = image img (writes_of (row_blocks (own_row d cells s) at_rows (row_len d) 0 s.rows)) in
              let row : At i (at_rows + k * row_len d) (own_row d cells s (0 + k)) = row_there img (own_row d cells s) at_rows (row_len d) 0 s.rows (s.columns * S) own_long short k few in
              let same : At i (at_rows + k * row_len d) (own_row d cells s k) = subst (λ (j : ℕ). At i (at_rows + k * row_len d) (own_row d cells s j)) (let e : 0 + k ≡ k = omega arith in e) row in
              subst (λ (ws : List Write). At (image img ws) (at_rows + k * row_len d + c * S) cell) (sym (writes_rows p old part)) (own_cell i at_rows k c few short_of same)
        ]
      ] in
      subst (λ (x : ℕ). At (image img (writes_of (share_blocks d cells s p))) x cell) place there

  -- the cell of row i and column c of the chunk is none of the share's
  abbrev pub IsForeign : ℕ → ℕ → Type 0
  IsForeign i c = (i < s.first) ⊎ ((s.first + s.rows ≤ i) ⊎ (s.columns ≤ c))

  fill_at : (img : List ℕ) (place n k : ℕ) → At img place (copies n (fill_cell d)) → k < n → At img (place + k * d.int_type.size) (fill_cell d)
  fill_at img place n k there few = subst (λ (m : ℕ). At img (place + k * m) (fill_cell d)) cut.fill (copy_there img place n (fill_cell d) there k few)

  new_filled : (img : List ℕ) (a i c : ℕ) → At img a (new_chunk d cells s) → i < d.layout.chunk_rows → c < d.layout.chunk_cols → IsForeign i c
      → At img (a + (i * d.layout.chunk_cols + c) * d.int_type.size) (fill_cell d)
  new_filled img a i c there row column foreign =
      let C = d.layout.chunk_cols in
      let S = d.int_type.size in
      let parts = parts_there img a there in
      elim (cases_lt i s.first) [
        | inl before ↦
            fill_at img a (s.first * C) (i * C + c) parts.0 (omega (arith, mul-add-lt i C c s.first before column))
        | inr from ↦ elim (cases_lt i (s.first + s.rows)) [
          | inl own ↦
              let k = i - s.first in
              let past : s.columns ≤ c = elim foreign [ inl h ↦ absurd (omega arith) | inr h ↦ elim h [ inl g ↦ absurd (omega arith) | inr g ↦ g ] ] in
              let pad = (rows_there img (a + s.first * row_len d) k parts.1.0 (omega arith)).1 in
              let filled : At img (a + s.first * row_len d + k * row_len d + s.columns * S + (c - s.columns) * S) (fill_cell d) =
              fill_at img (a + s.first * row_len d + k * row_len d + s.columns * S) (C - s.columns) (c - s.columns) pad (omega arith) in
              let rest = part_and_rest s.columns c S past in
              let line : (s.first + k) * row_len d ≡ i * row_len d = ap (λ (n : ℕ). n * row_len d) (let e : s.first + k ≡ i = omega arith in e) in
              subst (λ (x : ℕ). At img x (fill_cell d)) (omega (arith, rest, line)) filled
          | inr behind ↦
              let k = i - (s.first + s.rows) in
              let fits = is.rows in
              let index : k * C + c < (d.layout.chunk_rows - s.first - s.rows) * C = omega (arith, mul-add-lt k C c (d.layout.chunk_rows - s.first - s.rows) (omega arith) column) in
              let filled : At img (a + s.first * row_len d + s.rows * row_len d + (k * C + c) * S) (fill_cell d) =
              fill_at img (a + s.first * row_len d + s.rows * row_len d) ((d.layout.chunk_rows - s.first - s.rows) * C) (k * C + c) parts.1.1 index in
              let line : (s.first + s.rows + k) * row_len d ≡ i * row_len d = ap (λ (n : ℕ). n * row_len d) (let e : s.first + s.rows + k ≡ i = omega arith in e) in
              subst (λ (x : ℕ). At img x (fill_cell d)) (omega (arith, line)) filled
        ]
      ]

  -- all other cells of a new chunk have the fill
  pub filled_there : (img : List ℕ) (p : ChunkPlace) (i c : ℕ) → p.stored ≡ false → i < d.layout.chunk_rows → c < d.layout.chunk_cols → IsForeign i c
      → At (image img (writes_of (share_blocks d cells s p))) (p.address + (i * d.layout.chunk_cols + c) * d.int_type.size) (fill_cell d)
  filled_there img p i c new row column foreign =
      subst (λ (ws : List Write). At (image img ws) (p.address + (i * d.layout.chunk_cols + c) * d.int_type.size) (fill_cell d)) (sym (writes_new p new))
      (new_filled (image img (pieces p.address (new_chunk d cells s))) p.address i c (At-pieces img p.address (new_chunk d cells s)) row column foreign)

  -- a cell of row i ends before row j, where that is behind it
  cell_before : (i j c : ℕ) → i < j → c < d.layout.chunk_cols → (i * d.layout.chunk_cols + c) * d.int_type.size + d.int_type.size ≤ j * row_len d
  cell_before i j c behind column = cell_fits i c j d.layout.chunk_cols d.int_type.size behind column

  cell_behind : (i j c : ℕ) → j ≤ i → j * row_len d ≤ (i * d.layout.chunk_cols + c) * d.int_type.size
  cell_behind i j c before = omega (arith, mul-le j (row_len d) i (row_len d) before (omega arith))

  -- and no write meets another cell of a stored chunk
  pub foreign_missed : (p : ChunkPlace) (i c : ℕ) → p.stored ≡ true → c < d.layout.chunk_cols → IsForeign i c
      → AllMiss (writes_of (share_blocks d cells s p)) (p.address + (i * d.layout.chunk_cols + c) * d.int_type.size) d.int_type.size
  foreign_missed p i c old column foreign =
      let C = d.layout.chunk_cols in
      let S = d.int_type.size in
      let cell = p.address + (i * C + c) * S in
      let at_rows = p.address + s.first * row_len d in
      elim (cases_eq s.columns C) [
        | inl whole ↦
            let apart : Apart at_rows (length (share_rows d cells s)) cell S =
            elim foreign [
              | inl before ↦ inr (omega (arith, cell_before i s.first c before column))
              | inr h ↦ elim h [
                | inl behind ↦ inl (omega (arith, length-share_rows, cell_behind i (s.first + s.rows) c behind))
                | inr past ↦ absurd (omega arith)
              ]
            ] in
            subst (λ (ws : List Write). AllMiss ws cell S) (sym (writes_whole p old whole)) (pieces-miss at_rows (share_rows d cells s) cell S apart)
        | inr part ↦
            subst (λ (ws : List Write). AllMiss ws cell S) (sym (writes_rows p old part))
            (row_blocks_miss (own_row d cells s) at_rows (row_len d) 0 s.rows (s.columns * S) cell S own_long
            (λ j few. elim (cases_lt i (s.first + j)) [
              | inl above ↦ inr (omega (arith, cell_before i (s.first + j) c above column))
              | inr h ↦ elim (cases_lt (s.first + j) i) [
                | inl below ↦ inl (omega (arith, short, cell_behind i (s.first + j + 1) c (omega arith)))
                | inr same ↦
                    let past : s.columns ≤ c = elim foreign [ inl g ↦ absurd (omega arith) | inr g ↦ elim g [ inl f ↦ absurd (omega arith) | inr f ↦ f ] ] in
                    let line : (s.first + j) * row_len d ≡ i * row_len d = ap (λ (n : ℕ). n * row_len d) (let e : s.first + j ≡ i = omega arith in e) in
                    inl (omega (arith, line, mul-le s.columns S c S past (omega arith)))
              ]
            ]))
      ]
