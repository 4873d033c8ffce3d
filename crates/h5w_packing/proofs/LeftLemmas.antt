-- What is left to do of a planned file, and its first piece.
use Rattle.std.proofs.Common.{◌≡◌, ℕ, ◌+◌, ◌-◌, ◌*◌, ◌<◌, ◌≤◌, List, [], ◌∷◌, ◌++◌, length, length-append, flat_map, sym, ◌∙◌, ap, arith, subst}
use Rattle.std.specs.Prelude.{drop, min, slice_index_or}
use Rattle.std.specs.List.{All}
use Rattle.std.proofs.lemmas.List.{drop_all, drop_more, length-map}
use Rattle.std.proofs.lemmas.List.Elements.{All-drop, All-head, All-tail}
use Rattle.h5w_model.specs.declared.piece.Write.{Write}
use Rattle.h5w_packing.specs.Jobs.{EndsLow, IsByteOf, behind_address, block_jobs, chunk_jobs, chunks_left, first_jobs, piece_count, pieces_in}
use Rattle.h5w_packing.specs.declared.job.Copied.{Copied}
use Rattle.h5w_packing.specs.declared.job.Job.{Job}
use Rattle.h5w_packing.specs.declared.job.Job.TheVariants.{Chunk, Block}
use Rattle.h5w_packing.proofs.JobLemmas.{chunks_long, more_left, none_copied, none_left, rest_left}

abbrev pub left_of : ℕ → List Copied → List Write → List Job
left_of at cs ws = chunks_left at cs ++ block_jobs ws

-- a chunk's pieces behind the first
abbrev rest_of : ℕ → Copied → List Job
rest_of at c = first_jobs (piece_count (c.len - at) - 1) c.from c.to (at + 512) (c.len - at - 512)

abbrev pub none : Copied
none = record { from = 0; to = 0; len = 0 }

-- the byte is one of the chunk that is next
pub byte_of : (at : ℕ) (cs : List Copied) (k : ℕ) (c : Copied) → k < length cs → IsByteOf at (drop k cs) → at < (slice_index_or cs k c).len
byte_of at cs k c inside h = subst (IsByteOf at) (drop_more cs k c inside) h

-- whichever is next, where each has some byte
pub first_byte : (cs : List Copied) (k : ℕ) → All EndsLow cs → IsByteOf 0 (drop k cs)
first_byte cs k h = go (drop k cs) (All-drop EndsLow k cs h)
  where
    go : (cs : List Copied) → All EndsLow cs → IsByteOf 0 cs
    go [] h = tt
    go (c ∷ cs) h = (All-head EndsLow c cs h).some

-- where some chunk is not copied its next piece is the first
pub left_chunk : (at : ℕ) (cs : List Copied) (ws : List Write) (k : ℕ) (c : Copied) → k < length cs → at < (slice_index_or cs k c).len
    → left_of at (drop k cs) ws ≡ Chunk (behind_address (slice_index_or cs k c).from at) ((slice_index_or cs k c).to + at) (min 512 ((slice_index_or cs k c).len - at)) ∷ ((rest_of at (slice_index_or cs k c) ++ flat_map chunk_jobs (drop (k + 1) cs)) ++ block_jobs ws)
left_chunk at cs ws k c inside some =
    ap (λ (l : List Copied). left_of at l ws) (drop_more cs k c inside)
    ∙ ap (λ (js : List Job). (js ++ flat_map chunk_jobs (drop (k + 1) cs)) ++ block_jobs ws) (more_left at (slice_index_or cs k c) some)

-- behind it more of the chunk is left
pub left_more : (at : ℕ) (cs : List Copied) (ws : List Write) (k : ℕ) (c : Copied) → k < length cs → at < (slice_index_or cs k c).len → left_of (at + 512) (drop k cs) ws ≡ drop 1 (left_of at (drop k cs) ws)
left_more at cs ws k none inside some =
    let c : Copied = slice_index_or cs k none in
    ap (λ (l : List Copied). left_of (at + 512) l ws) (drop_more cs k none inside)
    ∙ ap (λ (js : List Job). (js ++ flat_map chunk_jobs (drop (k + 1) cs)) ++ block_jobs ws) (sym (rest_left at c some))
    ∙ sym (ap (drop 1) (left_chunk at cs ws k none inside some))

-- so it has a byte more
pub more_bytes : (at : ℕ) (cs : List Copied) (k : ℕ) (c : Copied) → k < length cs → at < (slice_index_or cs k c).len → IsByteOf at (drop k cs)
more_bytes at cs k c inside more = subst (IsByteOf at) (sym (drop_more cs k c inside)) more

-- or it was the last of the chunk
pub left_next : (at : ℕ) (cs : List Copied) (ws : List Write) (k : ℕ) (c : Copied) → k < length cs → at < (slice_index_or cs k c).len → (slice_index_or cs k c).len ≤ at + 512 → left_of 0 (drop (k + 1) cs) ws ≡ drop 1 (left_of at (drop k cs) ws)
left_next at cs ws k none inside some last =
    let c : Copied = slice_index_or cs k none in
    let nothing : rest_of at c ≡ [] = rest_left at c some ∙ none_left (at + 512) c last in
    ap (λ (js : List Job). js ++ block_jobs ws) (none_copied (drop (k + 1) cs))
    ∙ ap (λ (js : List Job). (js ++ flat_map chunk_jobs (drop (k + 1) cs)) ++ block_jobs ws) (sym nothing)
    ∙ sym (ap (drop 1) (left_chunk at cs ws k none inside some))

-- where all chunks are copied the next block's piece is the first
pub left_block : (at : ℕ) (cs : List Copied) (ws : List Write) (k n : ℕ) (w : Write) → length cs ≤ k → n < length ws
    → left_of at (drop k cs) (drop n ws) ≡ Block (slice_index_or ws n w) ∷ block_jobs (drop (n + 1) ws)
left_block at cs ws k n w past inside =
    ap (λ (l : List Copied). left_of at l (drop n ws)) (drop_all k cs past) ∙ ap block_jobs (drop_more ws n w inside)

pub left_written : (at : ℕ) (cs : List Copied) (ws : List Write) (k n : ℕ) → length cs ≤ k → n < length ws → left_of at (drop k cs) (drop (n + 1) ws) ≡ drop 1 (left_of at (drop k cs) (drop n ws))
left_written at cs ws k n past inside =
    ap (λ (l : List Copied). left_of at l (drop (n + 1) ws)) (drop_all k cs past) ∙ sym (ap (drop 1) (left_block at cs ws k n (record { at = 0; piece = [] }) past inside))

-- how many are left
pub left_long : (cs : List Copied) (ws : List Write) → length (left_of 0 cs ws) ≡ pieces_in cs + length ws
left_long cs ws =
    length-append (chunks_left 0 cs) (block_jobs ws) ∙ (λ i. (ap length (none_copied cs) ∙ chunks_long cs) i + length-map ws Block i)

-- one less
pub one_less : (js ks : List Job) (n : ℕ) → n ≡ length js → ks ≡ drop 1 js → 1 ≤ n → n - 1 ≡ length ks
one_less [] ks n e is some = absurd (omega (arith, e, some))
one_less (j ∷ js) ks n e is some = omega (arith, e, ap length is)

-- of what has a first one some is left
pub some_left : (js : List Job) (j : Job) (ks : List Job) (n : ℕ) → n ≡ length js → js ≡ j ∷ ks → 1 ≤ n
some_left js j ks n e is = omega (arith, e, ap length is)
