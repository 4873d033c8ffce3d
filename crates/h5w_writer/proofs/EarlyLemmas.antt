-- What is known of rows that were written early.
use Rattle.std.proofs.Common.{◌≡◌, ◌≢◌, ℕ, zero, suc, ◌+◌, ◌*◌, ◌/◌, ◌%◌, ◌-◌, ◌<◌, ◌≤◌, Bool, true, false, nat_lt, if◌then◌else◌, List, [], ◌∷◌, length, ℤ, Option, Some, None, refl, sym, ap, ◌∙◌, subst, arith, inl}
use Rattle.std.proofs.lemmas.Bool.{le-ltb, cond-false}
use Rattle.std.proofs.lemmas.List.{nil_from_length}
use Rattle.std.specs.List.{slice_get}
use Rattle.h5w_model.specs.Images.{At, Misses, apply, image}
use Rattle.h5w_model.specs.Logs.{div_up}
use Rattle.h5w_model.specs.Datasets.{Described}
use Rattle.h5w_model.specs.Findings.{Used, chunk_bytes, the_superblock}
use Rattle.h5w_model.specs.Tables.{chunks_across}
use Rattle.h5w_model.specs.declared.cell.Key.{Key}
use Rattle.h5w_model.specs.declared.piece.Write.{Write}
use Rattle.h5w_model.proofs.ImageLemmas.{At-apply_missed}
use Rattle.h5w_space.specs.Space.{Space}
use Rattle.h5w_step_laws.specs.Needed.{AreFew}
use Rattle.h5w_step_laws.specs.Ranges.{AreApart, chunk_at}
use Rattle.h5w_chunks.specs.Grids.{cells_of}
use Rattle.h5w_chunks.specs.Shares.{chunk_number, touched}
use Rattle.h5w_chunks.specs.Rows.{IsChunkOf}
use Rattle.h5w_chunks.specs.Early.{RowsStand}
use Rattle.h5w_chunks.specs.declared.grid.ChunkPlace.{ChunkPlace}
use Rattle.h5w_step_laws.specs.Moments.{Moment, all_used}
use Rattle.h5w_flush_laws.specs.EarlyRows.{IsEarlyPlace}
use Rattle.h5w_flush_laws.specs.Knowledge.{Knows}
use Rattle.h5w_flush_laws.proofs.ChunkPlaceLemmas.{place_off}
use Rattle.h5w_index.specs.Naming.{AreTaken}
use Rattle.h5w_index.proofs.BehindLemmas.{taken_none}
use Rattle.h5w_writer.specs.Early.{HasEarly}
use Rattle.h5w_writer.specs.Sessions.{with_rows}

-- ---- No rows

abbrev no_chunk_places : List ChunkPlace
no_chunk_places = []

no_place : (k : ℕ) (p : ChunkPlace) → slice_get (no_chunk_places) k ≡ Some p → ⊥
no_place k p at = let clash : ◌≡◌ {A = Option ChunkPlace} None (Some p) = at in cc

-- no chunk is touched by none
pub none_touched : (d : Described) (from : ℕ) → touched d from (from + 0) ≡ 0
none_touched d from = cond-false (nat_lt from (from + 0)) ((div_up (from + 0) d.layout.chunk_rows - from / d.layout.chunk_rows) * chunks_across d) 0 (le-ltb from (from + 0) (omega arith))

pub no_rows_stand : (d : Described) (from : ℕ) (img cells : List ℕ) → RowsStand img d cells from (from + 0) [] []
no_rows_stand d from img cells = record {
  placed = λ row column low high. absurd (omega (arith, low, high));
  stands = λ row column p is low high. absurd (omega (arith, low, high));
  filled = λ row column p is. absurd (no_place (chunk_number d from row column) p is.stands);
  missed = λ row column p is. absurd (no_place (chunk_number d from row column) p is.stands);
  within = tt;
}

-- so nothing is to be known of them
pub nothing_early : (d : Described) (places : Space) (img : List ℕ) (address : Key → ℕ) → AreFew (with_rows (d.shape.rows + 0) d) → HasEarly d 0 [] places img address places []
nothing_early d places img address few = record {
  all = sym (none_touched d d.shape.rows);
  taken = taken_none d address places places (record { end = refl; free = refl; retired = refl; limit = refl });
  placed = λ k p at. absurd (no_place k p at);
  stand = no_rows_stand d d.shape.rows img (cells_of d []);
  count = omega arith;
  few = few;
  none = λ e. refl;
}

-- no chunk is there where no row was written early
pub no_chunks : (d : Described) (early : ℕ) (chunks : List ChunkPlace) → length chunks ≡ touched d d.shape.rows (d.shape.rows + early) → early ≡ 0 → chunks ≡ []
no_chunks d early chunks all none = nil_from_length chunks (all ∙ ap (λ (n : ℕ). touched d d.shape.rows (d.shape.rows + n)) none ∙ none_touched d d.shape.rows)

-- places become free, or are forgotten, where none was taken since the file came to rest
pub early_freed : (d : Described) (early : ℕ) (chunks : List ChunkPlace) (s t : Space) (img : List ℕ) (address : Key → ℕ) (rest : Space) (values : List ℤ) → early ≡ 0 → HasEarly d early chunks s img address rest values
    → HasEarly d early chunks t img address t values
early_freed d early chunks s t img address rest values none h = record {
  all = h.all;
  taken = subst (λ (ps : List ChunkPlace). AreTaken d address t ps t) (sym (no_chunks d early chunks h.all none)) (taken_none d address t t (record { end = refl; free = refl; retired = refl; limit = refl }));
  placed = h.placed;
  stand = h.stand;
  count = h.count;
  few = h.few;
  none = λ e. refl;
}

-- ---- The superblock is written again

-- what meets no byte of the superblock, and has a byte, stands behind it
behind_superblock : (place len : ℕ) → 0 < len → AreApart (chunk_at place len) the_superblock → 48 ≤ place
behind_superblock place len some apart = omega (arith, some, apart)

module _ (d : Described) (early : ℕ) (chunks : List ChunkPlace) (places : Space) (img name : List ℕ) (m : Moment) (address : Key → ℕ) (rest : Space) (values : List ℤ) (same : d ≡ m.dataset) (k : Knows img name m address rest)
    (bytes : 0 < chunk_bytes d) (h : HasEarly d early chunks places img address rest values) where
  chunk_behind : (n : ℕ) (p : ChunkPlace) → slice_get chunks n ≡ Some p → 48 ≤ p.address
  chunk_behind n p at = go early refl
    where
      go : (e : ℕ) → early ≡ e → 48 ≤ p.address
      go zero none = absurd (no_place n p (subst (λ (ps : List ChunkPlace). slice_get ps n ≡ Some p) (no_chunks d early chunks h.all none) at))
      go (suc e) some =
          let taken : AreTaken m.dataset address rest chunks places = subst (λ (x : Described). AreTaken x address rest chunks places) same h.taken in
          let off : AreApart (chunk_at p.address (chunk_bytes m.dataset)) the_superblock =
          place_off img name m address rest places (d.shape.rows + early) chunks k taken.taken
          (subst (λ (x : Described). x.shape.rows < d.shape.rows + early) same (omega (arith, some)))
          (subst (λ (x : Described). AreFew (with_rows (d.shape.rows + early) x)) same h.few)
          (subst (λ (x : Described). length chunks ≡ touched x x.shape.rows (d.shape.rows + early)) same h.all)
          (λ j q here. (subst (λ (x : Described). IsEarlyPlace x address x.shape.rows j q) same (h.placed j q here)).kept)
          n p at the_superblock (inl refl) (λ defined e. let clash : true ≡ false = ap (λ (u : Used). u.chunk) e in cc) in
          behind_superblock p.address (chunk_bytes d) bytes (subst (λ (x : Described). AreApart (chunk_at p.address (chunk_bytes x)) the_superblock) (sym same) off)

  -- a piece over it leaves what stands in these chunks
  pub early_missed : (w : Write) → w.at ≡ 0 → length w.piece ≡ 48 → HasEarly d early chunks places (apply w img) address rest values
  early_missed w at long =
      let off : (n place len : ℕ) (p : ChunkPlace) → slice_get chunks n ≡ Some p → p.address ≤ place → Misses w place len = λ n place len p here less. let low = chunk_behind n p here in inl (omega (arith, at, long, low, less)) in
      record {
        all = h.all;
        taken = h.taken;
        placed = h.placed;
        stand = record {
          placed = h.stand.placed;
          stands = λ row column p is low high wide. At-apply_missed w img _ _ (off _ _ _ p is.stands (omega arith)) (h.stand.stands row column p is low high wide);
          filled = λ row column p is other new. At-apply_missed w img _ _ (off _ _ _ p is.stands (omega arith)) (h.stand.filled row column p is other new);
          missed = h.stand.missed;
          within = h.stand.within;
        };
        count = h.count;
        few = h.few;
        none = h.none;
      }
