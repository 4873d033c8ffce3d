-- The pieces of a packed file, as writes.
use Rattle.std.proofs.Common.{◌≡◌, ℕ, zero, suc, ◌+◌, ◌-◌, ◌*◌, ◌<◌, ◌≤◌, ◌^◌, List, [], ◌∷◌, ◌++◌, length, length-append, length-drop, length-take, flat_map, refl, sym, ◌∙◌, ap, inl, inr, arith}
use Rattle.std.specs.Prelude.{drop, min, take}
use Rattle.std.specs.List.{All}
use Rattle.std.proofs.lemmas.Bool.{cases_lt}
use Rattle.std.proofs.lemmas.List.{drop-drop, drop-take, map-append, nil_from_length, take_all, take-take}
use Rattle.std.proofs.lemmas.List.Elements.{All-head, All-tail}
use Rattle.h5w_model.specs.Numbers.{range}
use Rattle.h5w_model.specs.Images.{first_pieces, image, pieces}
use Rattle.h5w_model.specs.declared.piece.Write.{Write}
use Rattle.h5w_model.proofs.ImageLemmas.{length-apply, length-range}
use Rattle.h5w_flush_laws.specs.Parts.{block_writes}
use Rattle.h5w_array_laws.proofs.FixedLemmas.{one_piece}
use Rattle.h5w_packing_laws.specs.Growing.{IsPiece, own_blocks}
use Rattle.h5w_packing.specs.Jobs.{all_jobs, behind_address, block_jobs, chunk_jobs, chunks_left, first_jobs, jobs_from, piece_count, pieces_in, write_of, writes_of}
use Rattle.h5w_packing.specs.declared.job.Copied.{Copied}
use Rattle.h5w_packing.specs.declared.job.Job.{Job}
use Rattle.h5w_packing.specs.declared.job.Job.TheVariants.{Chunk}
use Rattle.h5w_packing.proofs.TableLemmas.{StandsIn, chunk_blocks}

-- ---- How many

pub first_long : (k from to at left : ℕ) → length (first_jobs k from to at left) ≡ k
unfolding first_jobs
first_long zero from to at left = refl
first_long (suc k) from to at left = ap suc (first_long k from to (at + 512) (left - 512))

pub chunks_long : (cs : List Copied) → length (flat_map chunk_jobs cs) ≡ pieces_in cs
chunks_long [] = refl
chunks_long (c ∷ cs) =
    let rest : List Job = flat_map chunk_jobs cs in
    let one : length (chunk_jobs c) ≡ piece_count c.len = first_long (piece_count (c.len - 0)) c.from c.to 0 (c.len - 0) ∙ ap piece_count (let e : c.len - 0 ≡ c.len = omega arith in e) in
    omega (arith, length-append (chunk_jobs c) rest, one, chunks_long cs)

-- a chunk of which nothing is copied
pub none_copied : (cs : List Copied) → chunks_left 0 cs ≡ flat_map chunk_jobs cs
none_copied [] = refl
none_copied (c ∷ cs) = refl

-- ---- The first piece and the others

-- where some bytes are left
pub more_left : (at : ℕ) (c : Copied) → at < c.len
    → jobs_from at c ≡ Chunk (behind_address c.from at) (c.to + at) (min 512 (c.len - at)) ∷ first_jobs (piece_count (c.len - at) - 1) c.from c.to (at + 512) (c.len - at - 512)
unfolding first_jobs
more_left at c some =
    let more : piece_count (c.len - at) ≡ suc (piece_count (c.len - at) - 1) = omega (arith, some) in
    ap (λ k. first_jobs k c.from c.to at (c.len - at)) more

-- the others are those of the chunk from there on
pub rest_left : (at : ℕ) (c : Copied) → at < c.len → first_jobs (piece_count (c.len - at) - 1) c.from c.to (at + 512) (c.len - at - 512) ≡ jobs_from (at + 512) c
rest_left at c some =
    let left : c.len - at - 512 ≡ c.len - (at + 512) = omega arith in
    let count : piece_count (c.len - at) - 1 ≡ piece_count (c.len - (at + 512)) = omega (arith, some) in
    (λ i. first_jobs (count i) c.from c.to (at + 512) (left i))

-- none are left where the last has been
pub none_left : (at : ℕ) (c : Copied) → c.len ≤ at → jobs_from at c ≡ []
unfolding first_jobs
none_left at c done =
    let none : piece_count (c.len - at) ≡ 0 = omega (arith, done) in
    ap (λ k. first_jobs k c.from c.to at (c.len - at)) none

-- ---- What they write

drop_take : (n size : ℕ) (xs : List ℕ) → drop n (take size xs) ≡ take (size - n) (drop n xs)
drop_take n size xs = elim (cases_lt n size) [
  | inl h ↦ ap (λ m. drop n (take m xs)) (let e : size ≡ n + (size - n) = omega (arith, h) in e) ∙ drop-take n (size - n) xs
  | inr h ↦ nil_from_length (drop n (take size xs)) (omega (arith, length-drop n (take size xs), length-take size xs, h)) ∙ sym (nil_from_length (take (size - n) (drop n xs)) (omega (arith, length-take (size - n) (drop n xs), h)))
]

pub drop_range : (n place size : ℕ) (img : List ℕ) → drop n (range img place size) ≡ range img (place + n) (size - n)
drop_range n place size img = drop_take n size (drop place img) ∙ ap (take (size - n)) (drop-drop n place img)

take_range : (n place size : ℕ) (img : List ℕ) → take n (range img place size) ≡ range img place (min n size)
take_range n place size img = elim (cases_lt n size) [
  | inl h ↦ take-take n size (drop place img) (omega (arith, h)) ∙ ap (λ m. take m (drop place img)) (let e : n ≡ min n size = omega (arith, h) in e)
  | inr h ↦ take_all n (take size (drop place img)) (omega (arith, length-take size (drop place img), h)) ∙ ap (λ m. take m (drop place img)) (let e : size ≡ min n size = omega (arith, h) in e)
]

pub first_writes : (img : List ℕ) (k from to at left : ℕ) → 512 * k < left + 512 → (0 < k → from + at + left < 2 ^ 64) → writes_of img (first_jobs k from to at left) ≡ first_pieces k (to + at) (range img (from + at) left)
unfolding first_jobs first_pieces
first_writes img zero from to at left few low = refl
first_writes img (suc k) from to at left few low =
    let here : behind_address from at ≡ from + at = omega (arith, few, low (omega arith)) in
    let bytes : range img (behind_address from at) (min 512 left) ≡ take 512 (range img (from + at) left) = ap (λ n. range img n (min 512 left)) here ∙ sym (take_range 512 (from + at) left img) in
    let rest : drop 512 (range img (from + at) left) ≡ range img (from + (at + 512)) (left - 512) = drop_range 512 (from + at) left img ∙ ap (λ n. range img n (left - 512)) (let e : from + at + 512 ≡ from + (at + 512) = omega arith in e) in
    let place : to + (at + 512) ≡ to + at + 512 = omega arith in
    let later = first_writes img k from to (at + 512) (left - 512) (omega (arith, few)) (λ some. let all = low (omega arith) in omega (arith, few, some, all)) in
    (λ i. record { at = to + at; piece = bytes i } ∷ later i)
    ∙ (λ i. record { at = to + at; piece = take 512 (range img (from + at) left) } ∷ first_pieces k (place i) (sym rest i))

pub chunk_writes : (img : List ℕ) (c : Copied) → c.from + c.len ≤ length img → length img < 2 ^ 64 → writes_of img (chunk_jobs c) ≡ pieces c.to (range img c.from c.len)
unfolding pieces
chunk_writes img c inside low =
    let len : ℕ = c.len in
    let long : length (range img c.from len) ≡ len = length-range img c.from len ∙ omega (arith, inside) in
    let start : c.to + 0 ≡ c.to = omega arith in
    let from : c.from + 0 ≡ c.from = omega arith in
    let all : len - 0 ≡ len = omega arith in
    (λ i. writes_of img (first_jobs (piece_count (all i)) c.from c.to 0 (all i)))
    ∙ first_writes img (piece_count len) c.from c.to 0 len (omega arith) (λ some. omega (arith, inside, low))
    ∙ (λ i. first_pieces (piece_count len) (start i) (range img (from i) len))
    ∙ ap (λ n. first_pieces (piece_count n) c.to (range img c.from len)) (sym long)

pub copy_writes : (img : List ℕ) (cs : List Copied) → All (StandsIn img) cs → length img < 2 ^ 64 → writes_of img (flat_map chunk_jobs cs) ≡ block_writes (chunk_blocks img cs)
copy_writes img [] inside low = refl
copy_writes img (c ∷ cs) inside low =
    map-append (write_of img) (chunk_jobs c) (flat_map chunk_jobs cs)
    ∙ (λ i. chunk_writes img c (All-head (StandsIn img) c cs inside).inside low i ++ copy_writes img cs (All-tail (StandsIn img) c cs inside) low i)

pub own_writes : (img : List ℕ) (ws : List Write) → writes_of img (block_jobs ws) ≡ ws
own_writes img [] = refl
own_writes img (w ∷ ws) = ap (λ (l : List Write). w ∷ l) (own_writes img ws)

pub all_writes : (img : List ℕ) (cs : List Copied) (ws : List Write) → All (StandsIn img) cs → length img < 2 ^ 64 → writes_of img (all_jobs cs ws) ≡ block_writes (chunk_blocks img cs) ++ ws
all_writes img cs ws inside low =
    map-append (write_of img) (flat_map chunk_jobs cs) (block_jobs ws) ∙ (λ i. copy_writes img cs inside low i ++ own_writes img ws i)

-- ---- Pieces of a piece's size are blocks of their own

pub own_pieces : (ws : List Write) → All IsPiece ws → ws ≡ block_writes (own_blocks ws)
own_pieces [] h = refl
own_pieces (w ∷ ws) h =
    let one = All-head IsPiece w ws h in
    let first : w ∷ [] ≡ pieces w.at w.piece = sym (one_piece w.at w.piece one.some one.short) in
    (λ i. w ∷ own_pieces ws (All-tail IsPiece w ws h) i) ∙ ap (λ (l : List Write). l ++ block_writes (own_blocks ws)) first

-- ---- Where they end

pub image_short : (end : ℕ) (ws : List Write) (start : List ℕ) → length start ≤ end → All (λ (w : Write). w.at + length w.piece ≤ end) ws → length (image start ws) ≤ end
image_short end [] start low h = low
image_short end (w ∷ ws) start low h =
    image_short end ws _ (omega (arith, low, length-apply w start, All-head (λ (w : Write). w.at + length w.piece ≤ end) w ws h)) (All-tail (λ (w : Write). w.at + length w.piece ≤ end) w ws h)
