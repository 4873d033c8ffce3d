-- Lists that a loop puts together.
use Rattle.std.proofs.Common.{◌≡◌, ℕ, ◌+◌, ◌<◌, ◌≤◌, true, false, List, [], ◌∷◌, ◌++◌, length, sym, ◌∙◌, ap, append-nil, append_assoc}
use Rattle.std.specs.Prelude.{drop, slice_index_or}
use Rattle.std.proofs.lemmas.Bool.{cond-false, cond-true}
use Rattle.std.proofs.lemmas.List.{drop_all, drop_more}
use Rattle.h5w_model.specs.Tiles.{TileFields}
use Rattle.h5w_model.specs.declared.cell.IndexKind.{IndexKind}
use Rattle.h5w_cache.specs.declared.moves.Move.{Move}
use Rattle.h5w_packing.specs.Plans.{block_kind, chunk_tiles, move_tiles, tile}
use Rattle.h5w_packing.specs.declared.job.Copied.{Copied}

-- one more comes behind those that were put
pub one_put : {X : Type 0} (old : List X) (x : X) (rest : List X) → (old ++ x ∷ []) ++ rest ≡ old ++ x ∷ rest
one_put old x rest = append_assoc old (x ∷ []) rest

pub chunk_put : (cs : List Copied) (i : ℕ) (c : Copied) (old new all : List TileFields) → i < length cs → old ++ chunk_tiles (drop i cs) ≡ all → new ≡ old ++ tile (slice_index_or cs i c).to (slice_index_or cs i c).len 8 ∷ []
    → new ++ chunk_tiles (drop (i + 1) cs) ≡ all
chunk_put cs i c old new all inside so is =
    ap (λ (ts : List TileFields). ts ++ chunk_tiles (drop (i + 1) cs)) is
    ∙ one_put old (tile (slice_index_or cs i c).to (slice_index_or cs i c).len 8) (chunk_tiles (drop (i + 1) cs))
    ∙ sym (ap (λ (l : List Copied). old ++ chunk_tiles l) (drop_more cs i c inside))
    ∙ so

pub chunks_put : (cs : List Copied) (i : ℕ) (new all : List TileFields) → length cs ≤ i → new ++ chunk_tiles (drop i cs) ≡ all → new ≡ all
chunks_put cs i new all past so = sym (append-nil new) ∙ sym (ap (λ (l : List Copied). new ++ chunk_tiles l) (drop_all i cs past)) ∙ so

pub move_put : (k : IndexKind) (ms : List Move) (i : ℕ) (m : Move) (old new all : List TileFields) → i < length ms → old ++ move_tiles k (drop i ms) ≡ all → (slice_index_or ms i m).in_place ≡ false
    → new ≡ old ++ tile (slice_index_or ms i m).new (slice_index_or ms i m).len (block_kind k (slice_index_or ms i m).number) ∷ [] → new ++ move_tiles k (drop (i + 1) ms) ≡ all
move_put k ms i m old new all inside so away is =
    let x : Move = slice_index_or ms i m in
    ap (λ (ts : List TileFields). ts ++ move_tiles k (drop (i + 1) ms)) is
    ∙ one_put old (tile x.new x.len (block_kind k x.number)) (move_tiles k (drop (i + 1) ms))
    ∙ ap (λ (ts : List TileFields). old ++ ts) (sym (cond-false x.in_place _ _ away))
    ∙ sym (ap (λ (l : List Move). old ++ move_tiles k l) (drop_more ms i m inside))
    ∙ so

pub move_passed : (k : IndexKind) (ms : List Move) (i : ℕ) (m : Move) (old new all : List TileFields) → i < length ms → old ++ move_tiles k (drop i ms) ≡ all → (slice_index_or ms i m).in_place ≡ true → new ≡ old
    → new ++ move_tiles k (drop (i + 1) ms) ≡ all
move_passed k ms i m old new all inside so stays is =
    let x : Move = slice_index_or ms i m in
    ap (λ (ts : List TileFields). ts ++ move_tiles k (drop (i + 1) ms)) is
    ∙ ap (λ (ts : List TileFields). old ++ ts) (sym (cond-true x.in_place _ _ stays))
    ∙ sym (ap (λ (l : List Move). old ++ move_tiles k l) (drop_more ms i m inside))
    ∙ so

pub moves_put : (k : IndexKind) (ms : List Move) (i : ℕ) (new all : List TileFields) → length ms ≤ i → new ++ move_tiles k (drop i ms) ≡ all → new ≡ all
moves_put k ms i new all past so = sym (append-nil new) ∙ sym (ap (λ (l : List Move). new ++ move_tiles k l) (drop_all i ms past)) ∙ so
