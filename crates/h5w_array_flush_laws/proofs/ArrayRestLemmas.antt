-- An array once all pieces of a flush are shown.
use Rattle.std.proofs.Common.{◌≡◌, ℕ, List, [], ◌∷◌, ◌++◌, length, None, refl, sym, subst}
use Rattle.std.specs.Prelude.{ℤ}
use Rattle.h5w_model.specs.Images.{image}
use Rattle.h5w_model.specs.Findings.{Used, chunk_bytes}
use Rattle.h5w_model.specs.declared.cell.Key.{Key}
use Rattle.h5w_model.specs.declared.piece.Write.{Write}
use Rattle.h5w_step_laws.specs.Ranges.{Among, block_at}
use Rattle.h5w_step_laws.proofs.RangeLemmas.{among_right}
use Rattle.h5w_space.specs.Space.{Space, Commits}
use Rattle.h5w_cache.specs.Stores.{Store, place_of}
use Rattle.h5w_cache.specs.Plans.{bytes_in}
use Rattle.h5w_cache.specs.StoreLaws.{Standing, range_of}
use Rattle.h5w_cache.specs.declared.moves.Move.{Move}
use Rattle.h5w_step_laws.specs.Files.{commit_at}
use Rattle.h5w_step_laws.specs.Moments.{Moment}
use Rattle.h5w_step_laws.proofs.MomentLemmas.{parts_of}
use Rattle.h5w_array_laws.specs.ArrayStores.{header_place}
use Rattle.h5w_array_laws.specs.ArrayImages.{StandsArray, BehindStands}
use Rattle.h5w_array_laws.specs.ArrayPlans.{IsArrayPlan}
use Rattle.h5w_array_laws.specs.ArrayWrites.{MissArray, MissBehind}
use Rattle.h5w_array_laws.proofs.WriteLemmas.{writes_leave, in_place_stands}
use Rattle.h5w_array_laws.proofs.ArrayPlanLemmas.{plans_array}
use Rattle.h5w_flush_laws.specs.Knowledge.{HeldMissed, Knows}
use Rattle.h5w_flush_laws.specs.Parts.{IsFlush, block_writes, pieces_of}
use Rattle.h5w_flush_laws.specs.Chunks.{AreChunks}
use Rattle.h5w_flush_laws.proofs.SpaceLemmas.{committed_live}
use Rattle.h5w_flush_laws.proofs.FlushLemmas.{end_misses, supers_miss}
use Rattle.h5w_flush_laws.proofs.FlushLaws.{final_image, index_missed_by_header}
use Rattle.h5w_array_flush_laws.specs.ArrayFlushes.{IsArrayPart, array_parts, ArrayRestsAgain, ArrayRestsThen}
use Rattle.h5w_array_flush_laws.proofs.ArrayFlushLemmas.{placed_range, stands_copies, behind_copies, block_in_file, at_after}

module _ (img name : List ℕ) (m : Moment) (old : Key → ℕ) (s b t : Space) (v w : Store) (ms : List Move) (rows : ℕ) (more : List ℤ) (writes : List Write) (chunks : List Used) (copies : List (ℕ × List ℕ))
    (supers fixed : List Write) (last : ℕ) (k : Knows img name m old s) (are : AreChunks chunks) (i : IsFlush img m old s (array_parts (chunk_bytes m.dataset) w rows more writes chunks copies supers last fixed) t)
    (missed : HeldMissed k.held writes) (x : IsArrayPart img m v b ms w t chunks copies fixed) where
  planned : IsArrayPlan v b ms (block_writes copies) fixed w t
  planned = plans_array v b ms (block_writes copies) fixed w t x.plan.before x.plan.plan x.plan.keeps

  at : m.dataset.layout.address ≡ header_place w
  at = at_after img name m old s b i.between t v w ms writes chunks copies supers last fixed k i.taken i.end i.super i.written.unseen are i.index.kept x

  -- the superblock meets no block of the array, as it was and as it is to be
  supers_miss_before : MissArray v supers
  supers_miss_before n placed =
      let u : Used = block_at (place_of v n) (length (bytes_in v.blocks n)) in
      let among : Among u (m.fixed ++ m.behind) =
      block_in_file img name m old s b i.between t v w ms writes chunks copies supers last fixed k i.taken i.end i.super i.written.unseen are i.index.kept x u refl (placed_range (chunk_bytes m.dataset) v n x.plan.before placed) in
      end_misses m.super last supers u i.super ((parts_of m k.file.apart).super u (among_right u m.root (m.header ++ (m.fixed ++ m.behind)) (among_right u m.header (m.fixed ++ m.behind) among)))

  supers_miss_after : MissBehind w supers
  supers_miss_after n placed low =
      supers_miss img name m old s t (array_parts (chunk_bytes m.dataset) w rows more writes chunks copies supers last fixed) k i missed (block_at (place_of w n) (length (bytes_in w.blocks n)))
      (placed_range (chunk_bytes m.dataset) w n x.plan.after placed)

  before_fixed : StandsArray v (image (image (image img writes) (block_writes copies)) supers)
  before_fixed =
      writes_leave.array v (image (image img writes) (block_writes copies)) supers x.plan.before supers_miss_before
      (stands_copies img name m old s b i.between t v w ms writes chunks copies supers last fixed k i.taken i.end i.super i.written.unseen are i.index.kept x)

  behind_fixed : BehindStands w (image (image (image img writes) (block_writes copies)) supers)
  behind_fixed =
      writes_leave.behind w (image (image img writes) (block_writes copies)) supers supers_miss_after
      (behind_copies img name m old s b i.between t v w ms writes chunks copies supers last fixed k i.taken i.end i.super i.written.unseen are i.index.kept x)

  before_header : StandsArray w (image (image (image (image img writes) (block_writes copies)) supers) fixed)
  before_header = in_place_stands v b ms (block_writes copies) fixed w t (image (image (image img writes) (block_writes copies)) supers) x.plan before_fixed behind_fixed

  header_piece_misses : MissArray w (commit_at (image (image (image (image img writes) (block_writes copies)) supers) fixed) m.place rows None ∷ [])
  header_piece_misses n placed = (
    index_missed_by_header img name m old s t (array_parts (chunk_bytes m.dataset) w rows more writes chunks copies supers last fixed) k i missed (block_at (place_of w n) (length (bytes_in w.blocks n)))
        (placed_range (chunk_bytes m.dataset) w n x.plan.after placed),
    tt,
  )

  all_stands : StandsArray w (image img (pieces_of img m (array_parts (chunk_bytes m.dataset) w rows more writes chunks copies supers last fixed)))
  all_stands =
      subst (λ (y : List ℕ). StandsArray w y) (sym (final_image img name m old s t (array_parts (chunk_bytes m.dataset) w rows more writes chunks copies supers last fixed) k i missed))
      (writes_leave.array w (image (image (image (image img writes) (block_writes copies)) supers) fixed) (commit_at (image (image (image (image img writes) (block_writes copies)) supers) fixed) m.place rows None ∷ []) x.plan.after header_piece_misses before_header)

pub array_rests_then : ArrayRestsThen
array_rests_then img name m old s b t v w ms rows more writes chunks copies supers fixed last k are i missed x = record {
  kind = x.kind;
  at = at img name m old s b t v w ms rows more writes chunks copies supers fixed last k are i missed x;
  array = x.plan.after;
  clean = (planned img name m old s b t v w ms rows more writes chunks copies supers fixed last k are i missed x).clean;
  stands = all_stands img name m old s b t v w ms rows more writes chunks copies supers fixed last k are i missed x;
  standing = x.plan.keeps.standing x.plan.standing;
  fixed = refl;
  behind = refl;
  map = λ key. refl;
}

-- an array whose blocks are live stays so where what was let go becomes free
pub standing_freed : (v : Store) (t u : Space) → Commits t u → Standing v t → Standing v u
standing_freed v t u c standing = record { live = λ n placed. committed_live t u c (range_of v n) (standing.live n placed); some = standing.some; apart = standing.apart }

pub array_rests_again : ArrayRestsAgain
array_rests_again img name m old s b t u v w ms rows more writes chunks copies supers fixed last k are i missed x c =
    let then = array_rests_then img name m old s b t v w ms rows more writes chunks copies supers fixed last k are i missed x in
    record {
      kind = then.kind;
      at = then.at;
      array = then.array;
      clean = then.clean;
      stands = then.stands;
      standing = standing_freed w t u c then.standing;
      fixed = then.fixed;
      behind = then.behind;
      map = then.map;
    }
