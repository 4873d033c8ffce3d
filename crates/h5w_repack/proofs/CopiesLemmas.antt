-- A packed file in words of the bytes of both files.
use Rattle.std.proofs.Common.{◌≡◌, ◌∙◌, ℕ, ◌≤◌, List, length, arith, subst, sym}
use Rattle.h5w_model.specs.Tiles.{TileFields}
use Rattle.h5w_space.specs.declared.Full.{Full}
use Rattle.h5w_packing.specs.Shown.{ShowsCopies}
use Rattle.h5w_packing.proofs.ShownLemmas.{out_past, packed_shows}
use Rattle.h5w_repack.specs.Packed.{HasCopies, IsOutOf, IsPacked, PassesLimit}

pub packed_copies : (img : List ℕ) (names : List (List ℕ)) (limit : ℕ) (ranges : List TileFields) (to : List ℕ) → IsPacked img names limit ranges to → HasCopies img names limit ranges to
packed_copies img names limit ranges to x = record {
  source = x.source;
  file = x.file;
  copies = subst (λ (ts : List TileFields). ShowsCopies img names x.source ts to) (sym x.ranges_are) (packed_shows img names x.source x.wanted limit x.packing to x.are x.planned x.packed);
  within = omega (arith, x.packed.end, x.planned.ends, x.planned.within);
}

pub out_passes : (img : List ℕ) (names : List (List ℕ)) (limit : ℕ) (full : Full) → IsOutOf img names limit full → PassesLimit img names limit full
out_passes img names limit full x = record { source = x.source; file = x.file; past = out_past x.wanted limit full x.out }
