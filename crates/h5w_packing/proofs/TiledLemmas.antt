-- Ranges that follow one another, one by one.
use Rattle.std.proofs.Common.{◌≡◌, ◌≢◌, ◌⊎◌, ℕ, ◌+◌, ◌<◌, ◌≤◌, List, [], ◌∷◌, length, map, sym, ap, subst, inl, inr, arith}
use Rattle.std.specs.Prelude.{drop, slice_index_or}
use Rattle.std.proofs.lemmas.List.{drop_all, drop_more}
use Rattle.h5w_model.specs.Tiles.{TileFields, Tiled, TiledFrom}
use Rattle.h5w_packing.specs.Tiles.{tile_of}
use Rattle.h5w_packing.specs.declared.ranges.Range.{Range}

-- all of them do exactly where the others do from here on
pub record IsTiling (all others : List TileFields) (at end : ℕ) : Type 0 where
  pub low : at ≤ end
  pub there : Tiled all end → TiledFrom at others end
  pub back : TiledFrom at others end → Tiled all end

pub tiling_start : (all : List TileFields) (end : ℕ) → IsTiling all all 0 end
tiling_start all end = record { low = omega arith; there = λ h. h; back = λ h. h }

tiled_low : (at end : ℕ) (ts : List TileFields) → TiledFrom at ts end → at ≤ end
tiled_low at end [] h = omega (arith, h)
tiled_low at end (t ∷ ts) h = omega (arith, tiled_low (at + t.len) end ts h.1)

module _ (all : List TileFields) (rs : List Range) (i at end : ℕ) (r : Range) (h : IsTiling all (map tile_of (drop i rs)) at end) (inside : i < length rs) where
  abbrev x : Range
  x = slice_index_or rs i r

  split : map tile_of (drop i rs) ≡ tile_of x ∷ map tile_of (drop (i + 1) rs)
  split = ap (map tile_of) (drop_more rs i r inside)

  pub tiling_more : x.at ≡ at → at + x.len ≤ end → IsTiling all (map tile_of (drop (i + 1) rs)) (at + x.len) end
  tiling_more is fits = record {
    low = fits;
    there = λ t. (subst (λ (ts : List TileFields). TiledFrom at ts end) split (h.there t)).1;
    back = λ t. h.back (subst (λ (ts : List TileFields). TiledFrom at ts end) (sym split) (is, t));
  }

  -- where the next one begins elsewhere or passes the end they do not
  pub tiling_not : (x.at ≢ at) ⊎ (end < at + x.len) → Tiled all end → ⊥
  tiling_not (inl other) t = other (subst (λ (ts : List TileFields). TiledFrom at ts end) split (h.there t)).0
  tiling_not (inr past) t =
      absurd (omega (arith, past, tiled_low (at + x.len) end (map tile_of (drop (i + 1) rs)) (subst (λ (ts : List TileFields). TiledFrom at ts end) split (h.there t)).1))

pub tiling_end : (all : List TileFields) (rs : List Range) (i at end : ℕ) → IsTiling all (map tile_of (drop i rs)) at end → length rs ≤ i → (at ≡ end → Tiled all end) × (Tiled all end → at ≡ end)
tiling_end all rs i at end h past =
    let none : map tile_of (drop i rs) ≡ [] = ap (map tile_of) (drop_all i rs past) in
    ((λ e. h.back (subst (λ (ts : List TileFields). TiledFrom at ts end) (sym none) e)), (λ t. subst (λ (ts : List TileFields). TiledFrom at ts end) none (h.there t)))
