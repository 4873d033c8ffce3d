-- Tiles fill an image, and do not meet.
use Rattle.std.proofs.Common.{◌≡◌, ℕ, ◌+◌, ◌≤◌, List, [], ◌∷◌, ◌++◌, length, refl, sym, ◌∙◌, ap, inl, arith}
use Rattle.std.specs.Prelude.{map, take, drop, flat_map, sum_by}
use Rattle.std.specs.List.{AllByRecursion}
use Rattle.std.proofs.lemmas.List.{take-append-drop, drop-drop, drop_all}
use Rattle.std.proofs.lemmas.List.Sums.{sum_by-cons}
use Rattle.h5w_model.specs.Numbers.{range}
use Rattle.h5w_model.specs.Images.{Holds}
use Rattle.h5w_model.specs.Findings.{Used}
use Rattle.h5w_model.specs.Relations.{AllPaired}
use Rattle.h5w_model.specs.Tiles.{TileFields, TiledFrom}
use Rattle.h5w_laws.specs.Ranges.{EndsBy, AreApart, AllApart}
use Rattle.h5w_laws.specs.Tiles.{used_of, IsTileOf, TileLaws}
use Rattle.h5w_laws.proofs.ApartLemmas.{all_as}

abbrev parts_of : List ℕ → List TileFields → List ℕ
parts_of img ts = flat_map (λ (t : TileFields). range img t.place t.len) ts

abbrev bytes_of : List (ℕ × List ℕ) → List ℕ
bytes_of blocks = flat_map (λ (b : ℕ × List ℕ). b.1) blocks

tiled_from : (img : List ℕ) (from : ℕ) (ts : List TileFields) → TiledFrom from ts (length img) → drop from img ≡ parts_of img ts
tiled_from img from [] end = drop_all from img (omega (arith, end))
tiled_from img from (t ∷ ts) tiled =
    let n : ℕ = t.len in
    let here : take n (drop from img) ≡ range img t.place t.len = ap (λ p. take n (drop p img)) (sym tiled.0) in
    let rest : drop n (drop from img) ≡ parts_of img ts = drop-drop n from img ∙ tiled_from img (from + n) ts tiled.1 in
    sym (take-append-drop n (drop from img)) ∙ ap (λ (xs : List ℕ). xs ++ drop n (drop from img)) here ∙ ap (λ (xs : List ℕ). range img t.place t.len ++ xs) rest

-- what stands in the tiles
held_bytes : (img : List ℕ) (ts : List TileFields) (blocks : List (ℕ × List ℕ)) → AllPaired IsTileOf ts blocks → Holds img blocks → parts_of img ts ≡ bytes_of blocks
held_bytes img [] [] are holds = refl
held_bytes img [] (b ∷ bs) are holds = absurd are
held_bytes img (t ∷ ts) [] are holds = absurd are
held_bytes img (t ∷ ts) (b ∷ bs) are holds =
    let here : range img t.place t.len ≡ b.1 = ap (λ p. range img p t.len) are.0.0 ∙ ap (λ n. range img b.0 n) are.0.1 ∙ holds.0 in
    ap (λ (xs : List ℕ). xs ++ parts_of img ts) here ∙ ap (λ (xs : List ℕ). b.1 ++ xs) (held_bytes img ts bs are.1 holds.1)

tiled_sum : (from end : ℕ) (ts : List TileFields) → TiledFrom from ts end → from + sum_by (λ (t : TileFields). t.len) ts ≡ end
tiled_sum from end [] tiled = omega (arith, tiled)
tiled_sum from end (t ∷ ts) tiled =
    let one = sum_by-cons (λ (x : TileFields). x.len) t ts in
    let rest = tiled_sum (from + t.len) end ts tiled.1 in
    omega (arith, one, rest)

-- no tile begins before the first one
tiled_low : (chunks from end : ℕ) (ts : List TileFields) → TiledFrom from ts end → AllByRecursion (λ (u : Used). from ≤ u.place) (map (used_of chunks) ts)
tiled_low chunks from end [] tiled = tt
tiled_low chunks from end (t ∷ ts) tiled =
    let low : from ≤ t.place = omega (arith, tiled.0) in (
      low,
      all_as (λ (u : Used). from + t.len ≤ u.place) (λ (u : Used). from ≤ u.place) (map (used_of chunks) ts) (λ u low. omega (arith, low)) (tiled_low chunks (from + t.len) end ts tiled.1),
    )

tiled_apart : (chunks from end : ℕ) (ts : List TileFields) → TiledFrom from ts end → AllApart (map (used_of chunks) ts)
tiled_apart chunks from end [] tiled = tt
tiled_apart chunks from end (t ∷ ts) tiled =
    let begins : t.place ≡ from = tiled.0 in (
      all_as (λ (u : Used). from + t.len ≤ u.place) (AreApart (used_of chunks t)) (map (used_of chunks) ts)
          (λ u low. let ends : t.place + t.len ≤ u.place = omega (arith, low, begins) in inl ends) (tiled_low chunks (from + t.len) end ts tiled.1),
      tiled_apart chunks (from + t.len) end ts tiled.1,
    )

tiled_within : (chunks from end : ℕ) (ts : List TileFields) → TiledFrom from ts end → AllByRecursion (EndsBy end) (map (used_of chunks) ts)
tiled_within chunks from end [] tiled = tt
tiled_within chunks from end (t ∷ ts) tiled =
    let begins : t.place ≡ from = tiled.0 in
    let rest = tiled_sum (from + t.len) end ts tiled.1 in
    let ends : t.place + t.len ≤ end = omega (arith, begins, rest) in
    (ends, tiled_within chunks (from + t.len) end ts tiled.1)

pub tile_laws : TileLaws
tile_laws = record {
  image = λ img ts tiled. tiled_from img 0 ts tiled;
  blocks = λ img ts blocks tiled are holds. tiled_from img 0 ts tiled ∙ held_bytes img ts blocks are holds;
  sum = λ end ts tiled. omega (arith, tiled_sum 0 end ts tiled);
  apart = λ chunks end ts tiled. tiled_apart chunks 0 end ts tiled;
  within = λ chunks end ts tiled. tiled_within chunks 0 end ts tiled;
}
