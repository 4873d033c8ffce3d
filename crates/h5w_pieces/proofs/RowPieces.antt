-- The pieces of new rows are no more than what is reserved for them.
use Rattle.std.proofs.Common.{◌≡◌, ℕ, zero, suc, ◌+◌, ◌-◌, ◌*◌, ◌%◌, ◌<◌, ◌≤◌, min, Bool, true, false, List, [], ◌∷◌, length, drop, get_or, arith, ap, ◌∙◌, length-append}
use Rattle.std.specs.Prelude.{◌==◌, if◌then◌else◌}
use Rattle.std.proofs.lemmas.List.{drop_all}
use Rattle.std.proofs.Math.Seq.{drop-cons}
use Rattle.std.proofs.lemmas.Nat.{mul-le}
use Rattle.h5w_model.specs.Images.{pieces}
use Rattle.h5w_model.specs.Datasets.{Described}
use Rattle.h5w_model.specs.Tables.{chunks_across}
use Rattle.h5w_model.proofs.ImageLemmas.{length-pieces}
use Rattle.h5w_chunks.specs.Grids.{IsCut, chunk_len, row_len}
use Rattle.h5w_chunks.specs.Rows.{IsShare}
use Rattle.h5w_chunks.specs.Shares.{new_chunk, new_writes, own_row, row_blocks, share_blocks, share_of, share_rows, touched, writes_from, writes_of}
use Rattle.h5w_chunks.specs.declared.grid.ChunkPlace.{ChunkPlace}
use Rattle.h5w_chunks.specs.declared.share.Share.{Share}
use Rattle.h5w_chunks.proofs.BlockLemmas.{AllLong, AllLong-first, AllLong-next}
use Rattle.h5w_chunks.proofs.Geometry.{share_numbers}
use Rattle.h5w_chunks.proofs.RowLaws.{length-new_chunk, length-share_rows, own_long}
use Rattle.h5w_chunks.proofs.WriteLaws.{is_share}
use Rattle.h5w_pieces.specs.RowPieces.{chunk_pieces, most_pieces, own_pieces, pieces_in}

-- the first column of a touched chunk is one of the dataset
pub column_fits : (d : Described) (from to k across : ℕ) → IsCut d → k < touched d from to → across ≡ chunks_across d → k % across * d.layout.chunk_cols < d.shape.cols
column_fits d from to k across cut known is = (share_numbers d from to k across cut known is).column

one_block : (place : ℕ) (bytes : List ℕ) → length (writes_of ((place, bytes) ∷ [])) ≡ pieces_in (length bytes)
unfolding writes_of
one_block place bytes = omega (arith, length-append (pieces place bytes) [], length-pieces place bytes)

row_pieces : (row : ℕ → List ℕ) (place stride t n long : ℕ) → AllLong row t n long → length (writes_of (row_blocks row place stride t n)) ≡ n * pieces_in long
unfolding row_blocks writes_of
row_pieces row place stride t zero long all = omega arith
row_pieces row place stride t (suc n) long all =
    let first = AllLong-first row t n long all in
    let rest = row_pieces row (place + stride) stride (suc t) n long (AllLong-next row t n long all) in
    let one : length (pieces place (row t)) ≡ pieces_in long = length-pieces place (row t) ∙ ap pieces_in first in
    let sum : pieces_in long + n * pieces_in long ≡ suc n * pieces_in long = grind arith in
    omega (arith, length-append (pieces place (row t)) (writes_of (row_blocks row (place + stride) stride (suc t) n)), one, rest, sum)

-- a share of some rows has no more rows than these and than the chunk
thin : (d : Described) (from to k : ℕ) → (share_of d from to k).rows ≤ min (to - from) d.layout.chunk_rows
thin d from to k = omega arith

module _ (d : Described) (cells : List ℕ) (from to : ℕ) (s : Share) (cut : IsCut d) (is : IsShare d cells s) (few : s.rows ≤ min (to - from) d.layout.chunk_rows) where
  by_columns : (place : ℕ) (whole : Bool)
      → length (writes_of (if whole then (place, share_rows d cells s) ∷ [] else row_blocks (own_row d cells s) place (row_len d) 0 s.rows))
      ≤ (if whole then pieces_in (min (to - from) d.layout.chunk_rows * row_len d) else min (to - from) d.layout.chunk_rows * pieces_in (s.columns * d.int_type.size))
  by_columns place true =
      let most = mul-le s.rows (row_len d) (min (to - from) d.layout.chunk_rows) (row_len d) few (omega arith) in
      omega (arith, one_block place (share_rows d cells s), length-share_rows d cells s cut is, most)
  by_columns place false =
      let each = row_pieces (own_row d cells s) place (row_len d) 0 s.rows (s.columns * d.int_type.size) (own_long d cells s cut is) in
      let most = mul-le s.rows (pieces_in (s.columns * d.int_type.size)) (min (to - from) d.layout.chunk_rows) (pieces_in (s.columns * d.int_type.size)) few (omega arith) in
      omega (arith, each, most)

  by_stored : (place address : ℕ) (stored whole : Bool)
      → length (writes_of (if stored then (if whole then (place, share_rows d cells s) ∷ [] else row_blocks (own_row d cells s) place (row_len d) 0 s.rows) else (address, new_chunk d cells s) ∷ []))
      ≤ (if stored then (if whole then pieces_in (min (to - from) d.layout.chunk_rows * row_len d) else min (to - from) d.layout.chunk_rows * pieces_in (s.columns * d.int_type.size)) else pieces_in (chunk_len d))
  by_stored place address true whole = by_columns place whole
  by_stored place address false whole = omega (arith, one_block address (new_chunk d cells s), ap pieces_in (length-new_chunk d cells s cut is))

  share_pieces : (p : ChunkPlace) → length (writes_of (share_blocks d cells s p)) ≤ (if p.stored then own_pieces d from to s.columns else pieces_in (chunk_len d))
  share_pieces p = by_stored (p.address + s.first * row_len d) p.address p.stored (s.columns == d.layout.chunk_cols)

-- the writes of the touched chunks from chunk k on
from_pieces : (d : Described) (cells : List ℕ) (from to k : ℕ) (places : List ChunkPlace) → IsCut d → length cells ≡ (to - from) * d.shape.cols * d.int_type.size → k + length places ≤ touched d from to
    → length (writes_from d cells from to k places) ≤ most_pieces d from to k places
unfolding writes_from most_pieces
from_pieces d cells from to k [] cut count known = omega arith
from_pieces d cells from to k (p ∷ ps) cut count known =
    let s = share_of d from to k in
    let bs = share_blocks d cells s p in
    let is = is_share d cells from to k cut count (omega (arith, known)) in
    let first : length (writes_of bs) ≤ chunk_pieces d from to k p = share_pieces d cells from to s cut is (thin d from to k) p in
    let rest = from_pieces d cells from to (suc k) ps cut count (omega (arith, known)) in
    omega (arith, length-append (writes_of bs) (writes_from d cells from to (suc k) ps), first, rest)

pub new_writes_most : (d : Described) (cells : List ℕ) (from to : ℕ) (places : List ChunkPlace) → IsCut d → length cells ≡ (to - from) * d.shape.cols * d.int_type.size → length places ≡ touched d from to
    → length (new_writes d cells from to places) ≤ most_pieces d from to 0 places
new_writes_most d cells from to places cut count all = from_pieces d cells from to 0 places cut count (omega (arith, all))

-- the first of those that are left
pub most_next : (d : Described) (from to : ℕ) (ps : List ChunkPlace) (i : ℕ) (none : ChunkPlace) → i < length ps
    → most_pieces d from to i (drop i ps) ≡ chunk_pieces d from to i (get_or ps i none) + most_pieces d from to (i + 1) (drop (i + 1) ps)
unfolding most_pieces
most_next d from to ps i none inside =
    ap (most_pieces d from to i) (drop-cons ps i none inside)
    ∙ ap (λ (n : ℕ). chunk_pieces d from to i (get_or ps i none) + most_pieces d from to n (drop n ps)) (let e : suc i ≡ i + 1 = omega arith in e)

pub most_last : (d : Described) (from to : ℕ) (ps : List ChunkPlace) (i : ℕ) → length ps ≤ i → most_pieces d from to i (drop i ps) ≡ 0
unfolding most_pieces
most_last d from to ps i past = ap (most_pieces d from to i) (drop_all i ps past)
