-- What makes a planned file: pieces of chunks are copied, and then pieces of blocks are written.
use Rattle.std.specs.Prelude.{◌≡◌, ℕ, zero, suc, ◌+◌, ◌-◌, ◌/◌, ◌<◌, ◌≤◌, ◌^◌, min, List, [], ◌∷◌, ◌++◌, length, map, flat_map, Option, None, Some}
use Rattle.std.specs.List.{All}
use Rattle.h5w_model.specs.Numbers.{range, undefined}
use Rattle.h5w_model.specs.Tiles.{TileFields}
use Rattle.h5w_model.specs.declared.piece.Write.{Write}
use Rattle.h5w_packing.specs.declared.job.Copied.{Copied}
use Rattle.h5w_packing.specs.declared.job.Job.{Job}
use Rattle.h5w_packing.specs.declared.job.Job.TheVariants.{Chunk, Block}

-- ---- Of a chunk

-- so many bytes behind an address, as far as addresses go
abbrev pub behind_address : ℕ → ℕ → ℕ
behind_address from n = min (from + n) undefined

-- the first k pieces of a chunk from a byte of it on, of which so many bytes are left
unfoldable pub first_jobs : ℕ → ℕ → ℕ → ℕ → ℕ → List Job
first_jobs zero from to at left = []
first_jobs (suc k) from to at left = Chunk (behind_address from at) (to + at) (min 512 left) ∷ first_jobs k from to (at + 512) (left - 512)

-- how many pieces so many bytes are
abbrev pub piece_count : ℕ → ℕ
piece_count n = (n + 511) / 512

-- the pieces of a chunk, from a byte of it on
abbrev pub jobs_from : ℕ → Copied → List Job
jobs_from at c = first_jobs (piece_count (c.len - at)) c.from c.to at (c.len - at)

-- all of them
abbrev pub chunk_jobs : Copied → List Job
chunk_jobs c = jobs_from 0 c

-- those of chunks of which the first is copied up to a byte
abbrev pub chunks_left : ℕ → List Copied → List Job
chunks_left at [] = []
chunks_left at (c ∷ cs) = jobs_from at c ++ flat_map chunk_jobs cs

-- a byte of the first, where there is one
abbrev pub IsByteOf : ℕ → List Copied → Type 0
IsByteOf at [] = Unit {0}
IsByteOf at (c ∷ cs) = at < c.len

-- it has some byte, and its new place ends low
pub record EndsLow (c : Copied) : Type 0 where
  pub some : 0 < c.len
  pub low : c.to + c.len < 2 ^ 63

-- ---- Of all

abbrev pub block_jobs : List Write → List Job
block_jobs ws = map Block ws

-- chunks, one behind the other, and then blocks
abbrev pub all_jobs : List Copied → List Write → List Job
all_jobs cs ws = flat_map chunk_jobs cs ++ block_jobs ws

-- how many pieces chunks are
abbrev pub pieces_in : List Copied → ℕ
pieces_in [] = 0
pieces_in (c ∷ cs) = piece_count c.len + pieces_in cs

-- what contracts see of a planned file: what is left to do, its ranges, and where it ends
pub record PackingView : Type 0 where
  pub left : List Job
  pub ranges : List TileFields
  pub end : ℕ

abbrev pub first_job : List Job → Option Job
first_job [] = None
first_job (j ∷ js) = Some j

-- ---- What it writes

-- the write of a job, where the source has these bytes
abbrev pub write_of : List ℕ → Job → Write
write_of img (Chunk from to len) = record { at = to; piece = range img from len }
write_of img (Block w) = w

abbrev pub writes_of : List ℕ → List Job → List Write
writes_of img js = map (write_of img) js

-- where a job writes, and how many bytes
abbrev pub place_of : Job → ℕ
place_of (Chunk from to len) = to
place_of (Block w) = w.at

abbrev pub size_of : Job → ℕ
size_of (Chunk from to len) = len
size_of (Block w) = length w.piece

-- a piece that ends by the end
pub record IsJobIn (end : ℕ) (j : Job) : Type 0 where
  pub some : 1 ≤ size_of j
  pub piece : size_of j ≤ 512
  pub high : place_of j + size_of j ≤ end

-- it is behind the superblock's place
abbrev pub IsJobBehind : Job → Type 0
IsJobBehind j = 48 ≤ place_of j

-- What is left is pieces that end by the end, the superblock's is the last, and all others are behind its place.
pub record IsPrepared (p : PackingView) : Type 0 where
  pub sized : All (IsJobIn p.end) p.left
  pub body : List Job
  pub last : Job
  pub ordered : p.left ≡ body ++ last ∷ []
  pub behind : All IsJobBehind body
