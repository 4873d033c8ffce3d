-- Rows that are written early: their bytes, their pieces, and the ends of their chunks.
use Rattle.std.proofs.Common.{◌≡◌, ◌⊎◌, ℕ, zero, suc, ◌+◌, ◌-◌, ◌*◌, ◌/◌, ◌^◌, ◌<◌, ◌≤◌, Bool, true, false, nat_lt, List, [], ◌∷◌, length, take, Some, ap, sym, subst, ◌∙◌, inl, inr, arith, length-append, mul-le-mul_right}
use Rattle.std.proofs.lemmas.Bool.{cases_lt, cond-false, cond-true, le-ltb, lt-ltb}
use Rattle.std.proofs.lemmas.List.{length-take-le}
use Rattle.std.proofs.lemmas.Nat.{mul-le}
use Rattle.std.proofs.Math.Nat.{div-mul-le_self}
use Rattle.std.specs.Prelude.{◌==◌, if◌then◌else◌}
use Rattle.std.specs.List.{slice_get}
use Rattle.h5w_model.specs.Images.{pieces}
use Rattle.h5w_model.specs.Logs.{div_up}
use Rattle.h5w_model.specs.Datasets.{Described}
use Rattle.h5w_model.specs.Tables.{chunks_across}
use Rattle.h5w_model.specs.declared.cell.Key.{Key}
use Rattle.h5w_model.specs.declared.piece.Write.{Write}
use Rattle.h5w_model.proofs.ImageLemmas.{length-pieces}
use Rattle.h5w_space.specs.Space.{Space}
use Rattle.h5w_chunks.specs.Grids.{IsCut, chunk_len, row_len}
use Rattle.h5w_chunks.specs.Shares.{new_chunk, new_writes, own_row, row_blocks, share_blocks, share_of, share_rows, touched, writes_from, writes_of}
use Rattle.h5w_chunks.specs.Rows.{IsShare, RowsWritten}
use Rattle.h5w_chunks.specs.declared.grid.ChunkPlace.{ChunkPlace}
use Rattle.h5w_chunks.specs.declared.share.Share.{Share}
use Rattle.h5w_chunks.proofs.BlockLemmas.{AllLong, AllLong-first}
use Rattle.h5w_chunks.proofs.Geometry.{lt_up}
use Rattle.h5w_chunks.proofs.RowLaws.{length-new_chunk, length-share_rows, own_long}
use Rattle.h5w_chunks.proofs.WriteLaws.{is_share}
use Rattle.h5w_flush_laws.proofs.NewChunkLemmas.{touched_is}
use Rattle.h5w_index.specs.Naming.{AreTakenBehind}
use Rattle.h5w_index.proofs.BehindLemmas.{get_joined}
use Rattle.h5w_pieces.specs.NextPlaces.{next_places, writes_behind}
use Rattle.h5w_writer.specs.Sessions.{ArePieces, row_bytes}
use Rattle.h5w_writer.proofs.EarlyBytes.{length_next, none_touched, touched_more, up_covers}
use Rattle.h5w_pieces.proofs.NextPlaces.{places_all}
use Rattle.h5w_writer.proofs.PieceLemmas.{rows_within}

-- ---- Rows have writes

block_some : (place : ℕ) (bytes : List ℕ) → 0 < length bytes → 0 < length (pieces place bytes)
block_some place bytes some = omega (arith, length-pieces place bytes, some)

blocks_some : (place : ℕ) (bytes : List ℕ) (bs : List (ℕ × List ℕ)) → 0 < length bytes → 0 < length (writes_of ((place, bytes) ∷ bs))
unfolding writes_of
blocks_some place bytes bs some = omega (arith, length-append (pieces place bytes) (writes_of bs), block_some place bytes some)

rows_some : (row : ℕ → List ℕ) (place stride t n long : ℕ) → AllLong row t n long → 0 < n → 0 < long → 0 < length (writes_of (row_blocks row place stride t n))
unfolding row_blocks
rows_some row place stride t zero long all any some = absurd (omega arith)
rows_some row place stride t (suc n) long all any some = blocks_some place (row t) (row_blocks row (place + stride) stride (suc t) n) (omega (arith, AllLong-first row t n long all, some))

module _ (d : Described) (cells : List ℕ) (s : Share) (cut : IsCut d) (is : IsShare d cells s) where
  some_line : 0 < row_len d
  some_line = mul-le 1 1 d.layout.chunk_cols d.int_type.size (omega (arith, cut.cols)) (omega (arith, cut.some))

  some_own : 0 < s.columns * d.int_type.size
  some_own = mul-le 1 1 s.columns d.int_type.size (omega (arith, is.some)) (omega (arith, cut.some))

  some_rows : 0 < s.rows * row_len d
  some_rows = mul-le 1 1 s.rows (row_len d) (omega (arith, is.any)) (omega (arith, some_line))

  some_chunk : 0 < chunk_len d
  some_chunk = mul-le 1 1 d.layout.chunk_rows (row_len d) (omega (arith, cut.rows)) (omega (arith, some_line))

  some_columns : (place : ℕ) (whole : Bool) → 0 < length (writes_of (if whole then (place, share_rows d cells s) ∷ [] else row_blocks (own_row d cells s) place (row_len d) 0 s.rows))
  some_columns place true = blocks_some place (share_rows d cells s) [] (omega (arith, length-share_rows d cells s cut is, some_rows))
  some_columns place false = rows_some (own_row d cells s) place (row_len d) 0 s.rows (s.columns * d.int_type.size) (own_long d cells s cut is) is.any some_own

  some_stored : (place address : ℕ) (stored whole : Bool)
      → 0 < length (writes_of (if stored then (if whole then (place, share_rows d cells s) ∷ [] else row_blocks (own_row d cells s) place (row_len d) 0 s.rows) else (address, new_chunk d cells s) ∷ []))
  some_stored place address true whole = some_columns place whole
  some_stored place address false whole = blocks_some address (new_chunk d cells s) [] (omega (arith, length-new_chunk d cells s cut is, some_chunk))

  share_some : (p : ChunkPlace) → 0 < length (writes_of (share_blocks d cells s p))
  share_some p = some_stored (p.address + s.first * row_len d) p.address p.stored (s.columns == d.layout.chunk_cols)

some_touched : (d : Described) (from to : ℕ) → IsCut d → 0 < chunks_across d → from < to → 0 < touched d from to
some_touched d from to cut across rises =
    let down = div-mul-le_self from d.layout.chunk_rows in
    let past = lt_up (from / d.layout.chunk_rows) to d.layout.chunk_rows cut.rows (omega (arith, down, rises)) in
    let one = mul-le 1 1 (div_up to d.layout.chunk_rows - from / d.layout.chunk_rows) (chunks_across d) (omega (arith, past)) (omega (arith, across)) in
    omega (arith, touched_is d from to rises, one)

some_writes : (d : Described) (cells : List ℕ) (from to : ℕ) (places : List ChunkPlace) → IsCut d → 0 < touched d from to → length cells ≡ (to - from) * d.shape.cols * d.int_type.size → length places ≡ touched d from to
    → 0 < length (new_writes d cells from to places)
unfolding writes_from
some_writes d cells from to [] cut some count all = absurd (omega (arith, some, all))
some_writes d cells from to (p ∷ ps) cut some count all =
    let is = is_share d cells from to 0 cut count some in
    omega (arith, length-append (writes_of (share_blocks d cells (share_of d from to 0) p)) (writes_from d cells from to 1 ps), share_some d cells (share_of d from to 0) cut is p)

pub behind_some : (d : Described) (cells : List ℕ) (from mid to : ℕ) (chunks : List ChunkPlace) (ws : List Write) → IsCut d → 0 < chunks_across d → from ≤ mid → mid < to → length cells ≡ (to - mid) * d.shape.cols * d.int_type.size
    → length chunks ≡ touched d from to → ws ≡ writes_behind d cells from mid to chunks → ws ≡ [] → ⊥
behind_some d cells from mid to chunks ws cut across low rises count all is none =
    let places = next_places d from mid chunks in
    let each = length_next d from mid to chunks cut.rows low rises all in
    let some = some_writes d cells mid to places cut (some_touched d mid to cut across rises) count each in
    let own : ws ≡ new_writes d cells mid to places = is ∙ cond-true (nat_lt mid to) (new_writes d cells mid to places) [] (lt-ltb mid to rises) in
    absurd (omega (arith, some, ap length own, ap length none))

-- ---- Their bytes

pub record PlanBytes (d : Described) (cells : List ℕ) (rows size : ℕ) : Type 0 where
  pub cols : rows * d.shape.cols < 2 ^ 64
  pub small : rows * d.shape.cols * size < 2 ^ 64
  pub inside : rows * d.shape.cols * size ≤ length cells
  pub is : rows * d.shape.cols * size ≡ rows * row_bytes d
  pub same : rows * d.shape.cols * size ≡ rows * d.shape.cols * d.int_type.size
  pub long : length (take (rows * d.shape.cols * size) cells) ≡ rows * d.shape.cols * size

pub plan_bytes : (d : Described) (cells : List ℕ) (mid row to size : ℕ) → IsCut d → size ≡ d.int_type.size → row ≤ to → div_up to d.layout.chunk_rows * chunks_across d ≤ 1000000 → (to - mid) * row_bytes d ≤ length cells → PlanBytes d cells (row - mid) size
plan_bytes d cells mid row to size cut typed low few count =
    let rows = row - mid in
    let bands = div_up to d.layout.chunk_rows in
    let across = chunks_across d in
    let same : rows * d.shape.cols * size ≡ rows * d.shape.cols * d.int_type.size = ap (λ k. rows * d.shape.cols * k) typed in
    let regroup : rows * d.shape.cols * d.int_type.size ≡ rows * row_bytes d = grind arith in
    let less : rows * row_bytes d ≤ (to - mid) * row_bytes d = mul-le-mul_right (row_bytes d) (let e : row - mid ≤ to - mid = omega (arith, low) in e) in
    let high : to ≤ bands * d.layout.chunk_rows = up_covers to d.layout.chunk_rows cut.rows in
    let wide : d.shape.cols ≤ across * d.layout.chunk_cols = up_covers d.shape.cols d.layout.chunk_cols cut.cols in
    let line : row_bytes d ≤ across * d.layout.chunk_cols * d.int_type.size = mul-le-mul_right d.int_type.size wide in
    let all = mul-le rows (row_bytes d) (bands * d.layout.chunk_rows) (across * d.layout.chunk_cols * d.int_type.size) (omega (arith, low, high)) line in
    let product : bands * d.layout.chunk_rows * (across * d.layout.chunk_cols * d.int_type.size) ≡ bands * across * chunk_len d = grind arith in
    let len : chunk_len d < 2 ^ 32 = let small = cut.small in let e : chunk_len d ≡ d.layout.chunk_rows * d.layout.chunk_cols * d.int_type.size = grind arith in omega (arith, e, small) in
    let most : bands * across * chunk_len d ≤ 1000000 * chunk_len d = mul-le-mul_right (chunk_len d) few in
    let one : rows * d.shape.cols * 1 ≤ rows * d.shape.cols * d.int_type.size = mul-le (rows * d.shape.cols) 1 (rows * d.shape.cols) d.int_type.size (omega arith) (omega (arith, cut.some)) in
    let total : rows * d.shape.cols * d.int_type.size < 2 ^ 64 = omega (arith, regroup, all, product, most, len) in
    let inside : rows * d.shape.cols * size ≤ length cells = omega (arith, same, regroup, less, count) in
    record {
      cols = omega (arith, one, total);
      small = omega (arith, same, total);
      inside = inside;
      is = same ∙ regroup;
      same = same;
      long = length-take-le (rows * d.shape.cols * size) cells inside;
    }

pub few_touched : (d : Described) (from row to : ℕ) → IsCut d → row ≤ to → div_up to d.layout.chunk_rows * chunks_across d ≤ 1000000 → touched d from row ≤ 1000000
few_touched d from row to cut low few =
    elim (cases_lt from to) [
      | inl rises ↦
          let bands : div_up to d.layout.chunk_rows - from / d.layout.chunk_rows ≤ div_up to d.layout.chunk_rows = omega arith in
          let all = mul-le-mul_right (chunks_across d) bands in
          omega (arith, touched_more d from row to cut.rows low, touched_is d from to rises, all, few)
      | inr none ↦ omega (arith, none_touched d from row (omega (arith, low, none)))
    ]

-- ---- Their chunks and pieces

pub chunk_ends : (d : Described) (old : Key → ℕ) (early : List ChunkPlace) (s t : Space) (chunks : List ChunkPlace) → AreTakenBehind d old early s chunks t → ((k : ℕ) (p : ChunkPlace) → slice_get early k ≡ Some p → p.address + chunk_len d ≤ s.end)
    → (k : ℕ) (p : ChunkPlace) → slice_get chunks k ≡ Some p → p.address + chunk_len d ≤ t.end
chunk_ends d old early s t chunks x ends k p at =
    elim (get_joined early x.later k p (subst (λ (cs : List ChunkPlace). slice_get cs k ≡ Some p) x.all at)) [
      | inl known ↦ omega (arith, ends k p known, x.raised.rises)
      | inr later ↦ x.inside later.0 p later.1
    ]

pub behind_pieces : (d : Described) (cells : List ℕ) (from mid to end : ℕ) (chunks : List ChunkPlace) (ws : List Write) → ((k : ℕ) (p : ChunkPlace) → slice_get chunks k ≡ Some p → p.address + chunk_len d ≤ end)
    → ws ≡ writes_behind d cells from mid to chunks → (mid < to → RowsWritten d cells mid to (next_places d from mid chunks) ws) → ArePieces end ws
behind_pieces d cells from mid to end chunks ws ends is does = go (cases_lt mid to)
  where
    go : (mid < to) ⊎ (to ≤ mid) → ArePieces end ws
    go (inl more) =
        let w = does more in
        record { sized = w.sized; within = rows_within d end (next_places d from mid chunks) ws (places_all d from mid chunks (λ n. n + chunk_len d ≤ end) ends) w.within }
    go (inr none) =
        let no_writes : ws ≡ [] = is ∙ cond-false (nat_lt mid to) (new_writes d cells mid to (next_places d from mid chunks)) [] (le-ltb mid to none) in
        subst (ArePieces end) (sym no_writes) (record { sized = tt; within = tt })
