-- The ranges of a packed file, as tiles and as a check tells them.
use Rattle.std.proofs.Common.{◌≡◌, ◌≢◌, ◌⊎◌, ℕ, ◌+◌, ◌<◌, true, false, List, [], ◌∷◌, ◌++◌, refl, sym, ◌∙◌, ap, inl, inr, arith}
use Rattle.std.specs.Prelude.{◌==◌, ◌%◌, if◌then◌else◌, map}
use Rattle.std.proofs.lemmas.Bool.{cases_Bool, cond-false, cond-true}
use Rattle.std.proofs.lemmas.Bool.Decides.{eqb_tells}
use Rattle.std.proofs.lemmas.List.{map-append}
use Rattle.h5w_model.specs.Numbers.{undefined}
use Rattle.h5w_model.specs.Datasets.{Described}
use Rattle.h5w_model.specs.Findings.{Used}
use Rattle.h5w_model.specs.Tiles.{TileFields, TiledFrom}
use Rattle.h5w_model.specs.declared.cell.IndexKind.{IndexKind}
use Rattle.h5w_model.specs.declared.cell.IndexKind.TheVariants.{Array, Tree}
use Rattle.h5w_laws.specs.Tiles.{used_of}
use Rattle.h5w_step_laws.specs.Ranges.{block_at, chunk_at}
use Rattle.h5w_cache.specs.declared.moves.Move.{Move}
use Rattle.h5w_array_laws.specs.ArrayPlans.{fresh}
use Rattle.h5w_array_laws.specs.ArrayStores.{chunks_in}
use Rattle.h5w_array_laws.proofs.AmongLemmas.{chunks_some, chunks_undefined}
use Rattle.h5w_array_laws.proofs.FreshLemmas.{fresh_copy, fresh_in_place}
use Rattle.h5w_packing_laws.specs.Growing.{RangesFrom}
use Rattle.h5w_packing_laws.specs.Packing.{tops_of}
use Rattle.h5w_packing_laws.proofs.MapLemmas.{Tells}
use Rattle.h5w_packing.specs.Plans.{block_kind, chunk_tiles, chunks_end, copied_from, front_tiles, index_tiles, move_tiles, packed_table, tile}
use Rattle.h5w_packing.specs.Whole.{chunk_kind}
use Rattle.h5w_packing.specs.declared.job.Copied.{Copied}
use Rattle.h5w_packing.proofs.TableLemmas.{copied_absent, copied_there, end_absent, end_rises, end_there, table_absent, table_there}

abbrev used : TileFields → Used
used = used_of chunk_kind

pub tiles_from : (from end : ℕ) (ts : List TileFields) → RangesFrom from (map (used_of chunk_kind) ts) end → TiledFrom from ts end
tiles_from from end [] h = h
tiles_from from end (t ∷ ts) h = (h.0, tiles_from (from + t.len) end ts h.1)

index_used : (k : IndexKind) (at block : ℕ) → map used (index_tiles k at block) ≡ tops_of k at block
index_used Array at block = refl
index_used Tree at block = refl

chunks_used : (bytes at : ℕ) (table : List ℕ) → chunks_end bytes at table < undefined → 0 < bytes → map used (chunk_tiles (copied_from bytes at table)) ≡ chunks_in bytes (packed_table bytes at table)
chunks_used bytes at [] low some = refl
chunks_used bytes at (a ∷ rest) low some = go (eqb_tells a undefined) (λ place high. chunks_used bytes place rest high some)
  where
    go : Tells a → ((place : ℕ) → chunks_end bytes place rest < undefined → map used (chunk_tiles (copied_from bytes place rest)) ≡ chunks_in bytes (packed_table bytes place rest)) → map used (chunk_tiles (copied_from bytes at (a ∷ rest))) ≡ chunks_in bytes (packed_table bytes at (a ∷ rest))
    go (inl e) later =
        ap (λ (cs : List Copied). map used (chunk_tiles cs)) (copied_absent bytes at a rest e.1)
        ∙ later at (omega (arith, low, end_absent bytes at a rest e.1))
        ∙ sym (ap (chunks_in bytes) (table_absent bytes at a rest e.1) ∙ chunks_undefined bytes undefined (packed_table bytes at rest) refl)
    go (inr n) later =
        let high : chunks_end bytes (at + bytes) rest < undefined = omega (arith, low, end_there bytes at a rest n.1) in
        let here : at ≢ undefined = λ e. absurd (omega (arith, e, high, end_rises bytes (at + bytes) rest)) in
        ap (λ (cs : List Copied). map used (chunk_tiles cs)) (copied_there bytes at a rest n.1)
        ∙ ap (λ (us : List Used). chunk_at at bytes ∷ us) (later (at + bytes) high)
        ∙ sym (ap (chunks_in bytes) (table_there bytes at a rest n.1) ∙ chunks_some bytes at (packed_table bytes (at + bytes) rest) here)

other_kind : (k : IndexKind) (n : ℕ) → (block_kind k n == chunk_kind) ≡ false
other_kind Array n = go (cases_Bool (n % 65 == 64))
  where
    go : ((n % 65 == 64) ≡ true) ⊎ ((n % 65 == 64) ≡ false) → ((if n % 65 == 64 then 5 else 6) == 8) ≡ false
    go (inl e) = ap (λ x. x == 8) (cond-true (n % 65 == 64) 5 6 e)
    go (inr e) = ap (λ x. x == 8) (cond-false (n % 65 == 64) 5 6 e)
other_kind Tree n = refl

moves_used : (k : IndexKind) (ms : List Move) → map used (move_tiles k ms) ≡ fresh ms
moves_used k [] = refl
moves_used k (m ∷ ms) = go (cases_Bool m.in_place) (moves_used k ms)
  where
    one : used (tile m.new m.len (block_kind k m.number)) ≡ block_at m.new m.len
    one = ap (λ b. let u : Used = record { place = m.new; len = m.len; chunk = b } in u) (other_kind k m.number)

    go : (m.in_place ≡ true) ⊎ (m.in_place ≡ false) → map used (move_tiles k ms) ≡ fresh ms → map used (move_tiles k (m ∷ ms)) ≡ fresh (m ∷ ms)
    go (inl e) later = ap (map used) (cond-true m.in_place _ _ e) ∙ later ∙ sym (fresh_in_place m ms e)
    go (inr e) later = ap (map used) (cond-false m.in_place _ _ e) ∙ (λ i. one i ∷ later i) ∙ sym (fresh_copy m ms e)

-- ---- Of a dataset

pub front_used : (header : ℕ) (d : Described) (place block : ℕ) → map (used_of chunk_kind) (front_tiles header d place block) ≡ block_at place header ∷ tops_of d.layout.index d.layout.address block
front_used header d place block = ap (λ (us : List Used). block_at place header ∷ us) (index_used d.layout.index d.layout.address block)

pub behind_used : (k : IndexKind) (bytes first : ℕ) (table : List ℕ) (ms : List Move) → chunks_end bytes first table < undefined → 0 < bytes
    → map (used_of chunk_kind) (chunk_tiles (copied_from bytes first table) ++ move_tiles k ms) ≡ chunks_in bytes (packed_table bytes first table) ++ fresh ms
behind_used k bytes first table ms low some =
    map-append used (chunk_tiles (copied_from bytes first table)) (move_tiles k ms) ∙ (λ j. chunks_used bytes first table low some j ++ moves_used k ms j)
