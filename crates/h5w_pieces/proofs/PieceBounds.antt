-- How many pieces rows have.
use Rattle.std.proofs.Common.{◌≡◌, ◌⊎◌, ℕ, zero, suc, ◌+◌, ◌-◌, ◌*◌, ◌<◌, ◌≤◌, Bool, true, false, nat_lt, List, [], ◌∷◌, length, ap, inl, inr, arith, length-append, mul-le-mul_right}
use Rattle.std.proofs.lemmas.Bool.{cases_lt, cond-false, cond-true, le-ltb, lt-ltb}
use Rattle.std.specs.Prelude.{◌==◌, if◌then◌else◌}
use Rattle.std.proofs.lemmas.Nat.{mul-le}
use Rattle.h5w_model.specs.Images.{pieces}
use Rattle.h5w_model.specs.Datasets.{Described}
use Rattle.h5w_model.proofs.ImageLemmas.{length-pieces}
use Rattle.h5w_chunks.specs.Grids.{IsCut, chunk_len, row_len}
use Rattle.h5w_chunks.specs.Shares.{new_chunk, new_writes, own_row, row_blocks, share_blocks, share_of, share_rows, touched, writes_from, writes_of}
use Rattle.h5w_chunks.specs.Rows.{IsShare}
use Rattle.h5w_chunks.specs.declared.grid.ChunkPlace.{ChunkPlace}
use Rattle.h5w_chunks.specs.declared.share.Share.{Share}
use Rattle.h5w_chunks.proofs.BlockLemmas.{AllLong, AllLong-first, AllLong-next}
use Rattle.h5w_chunks.proofs.RowLaws.{length-new_chunk, length-share_rows, own_long}
use Rattle.h5w_chunks.proofs.WriteLaws.{is_share}
use Rattle.h5w_pieces.specs.NextPlaces.{next_places, writes_behind}
use Rattle.h5w_pieces.proofs.NextPlaces.{places_count, touched_less}

-- how many bytes some blocks have
abbrev total_len : List (ℕ × List ℕ) → ℕ
total_len [] = 0
total_len (b ∷ bs) = length b.1 + total_len bs

pieces_few : (place : ℕ) (bytes : List ℕ) → length (pieces place bytes) ≤ length bytes
pieces_few place bytes = omega (arith, length-pieces place bytes)

writes_few : (bs : List (ℕ × List ℕ)) → length (writes_of bs) ≤ total_len bs
unfolding writes_of
writes_few [] = omega arith
writes_few (b ∷ bs) = omega (arith, length-append (pieces b.0 b.1) (writes_of bs), pieces_few b.0 b.1, writes_few bs)

rows_len : (row : ℕ → List ℕ) (place stride t n long : ℕ) → AllLong row t n long → total_len (row_blocks row place stride t n) ≡ n * long
unfolding row_blocks
rows_len row place stride t zero long all = omega arith
rows_len row place stride t (suc n) long all =
    let first = AllLong-first row t n long all in
    let rest = rows_len row (place + stride) stride (suc t) n long (AllLong-next row t n long all) in
    let sum : long + n * long ≡ suc n * long = grind arith in
    omega (arith, first, rest, sum)

module _ (d : Described) (cells : List ℕ) (s : Share) (cut : IsCut d) (is : IsShare d cells s) where
  some_rows : s.rows * row_len d ≤ chunk_len d
  some_rows = mul-le s.rows (row_len d) d.layout.chunk_rows (row_len d) (omega (arith, is.rows)) (omega arith)

  own_rows : s.rows * (s.columns * d.int_type.size) ≤ chunk_len d
  own_rows =
      let narrow : s.columns * d.int_type.size ≤ row_len d = mul-le s.columns d.int_type.size d.layout.chunk_cols d.int_type.size is.columns (omega arith) in
      mul-le s.rows (s.columns * d.int_type.size) d.layout.chunk_rows (row_len d) (omega (arith, is.rows)) narrow

  by_columns : (place : ℕ) (whole : Bool)
      → total_len (if whole then (place, share_rows d cells s) ∷ [] else row_blocks (own_row d cells s) place (row_len d) 0 s.rows) ≤ chunk_len d
  by_columns place true = omega (arith, length-share_rows d cells s cut is, some_rows)
  by_columns place false = omega (arith, rows_len (own_row d cells s) place (row_len d) 0 s.rows (s.columns * d.int_type.size) (own_long d cells s cut is), own_rows)

  by_stored : (place address : ℕ) (stored whole : Bool)
      → total_len (if stored then (if whole then (place, share_rows d cells s) ∷ [] else row_blocks (own_row d cells s) place (row_len d) 0 s.rows) else (address, new_chunk d cells s) ∷ []) ≤ chunk_len d
  by_stored place address true whole = by_columns place whole
  by_stored place address false whole = omega (arith, length-new_chunk d cells s cut is)

  share_few : (p : ChunkPlace) → total_len (share_blocks d cells s p) ≤ chunk_len d
  share_few p = by_stored (p.address + s.first * row_len d) p.address p.stored (s.columns == d.layout.chunk_cols)

-- the writes of the touched chunks from chunk k on
from_few : (d : Described) (cells : List ℕ) (from to k : ℕ) (places : List ChunkPlace) → IsCut d → length cells ≡ (to - from) * d.shape.cols * d.int_type.size → k + length places ≤ touched d from to
    → length (writes_from d cells from to k places) ≤ length places * chunk_len d
unfolding writes_from
from_few d cells from to k [] cut count known = omega arith
from_few d cells from to k (p ∷ ps) cut count known =
    let bs = share_blocks d cells (share_of d from to k) p in
    let is = is_share d cells from to k cut count (omega (arith, known)) in
    let first = share_few d cells (share_of d from to k) cut is p in
    let rest = from_few d cells from to (suc k) ps cut count (omega (arith, known)) in
    let sum : chunk_len d + length ps * chunk_len d ≡ suc (length ps) * chunk_len d = grind arith in
    omega (arith, length-append (writes_of bs) (writes_from d cells from to (suc k) ps), writes_few bs, first, rest, sum)

pub new_writes_few : (d : Described) (cells : List ℕ) (from to : ℕ) (places : List ChunkPlace) → IsCut d → length cells ≡ (to - from) * d.shape.cols * d.int_type.size → length places ≡ touched d from to
    → length (new_writes d cells from to places) ≤ length places * chunk_len d
new_writes_few d cells from to places cut count all = from_few d cells from to 0 places cut count (omega (arith, all))

-- so are those behind rows that were written early
pub behind_few : (d : Described) (cells : List ℕ) (from mid to : ℕ) (chunks : List ChunkPlace) → IsCut d → from ≤ mid → length cells ≡ (to - mid) * d.shape.cols * d.int_type.size → length chunks ≡ touched d from to
    → length (writes_behind d cells from mid to chunks) ≤ touched d from to * chunk_len d
behind_few d cells from mid to chunks cut low count all = go (cases_lt mid to)
  where
    places : List ChunkPlace
    places = next_places d from mid chunks

    go : (mid < to) ⊎ (to ≤ mid) → length (writes_behind d cells from mid to chunks) ≤ touched d from to * chunk_len d
    go (inl rises) =
        let each : length places ≡ touched d mid to = places_count d from mid to chunks cut low rises all in
        let few = new_writes_few d cells mid to places cut count each in
        let less : length places * chunk_len d ≤ touched d from to * chunk_len d = mul-le-mul_right (chunk_len d) (omega (arith, each, touched_less d from mid to cut low rises)) in
        omega (arith, ap length (cond-true (nat_lt mid to) (new_writes d cells mid to places) [] (lt-ltb mid to rises)), few, less)
    go (inr none) = omega (arith, ap length (cond-false (nat_lt mid to) (new_writes d cells mid to places) [] (le-ltb mid to none)))
