-- An image is a list of bytes. A write puts a piece at a place of it; a history is a list of writes, the oldest first.
use Rattle.std.specs.Prelude.{ℕ, zero, suc, ◌+◌, ◌-◌, ◌/◌, ◌≤◌, ◌≡◌, ◌⊎◌, List, [], ◌∷◌, ◌++◌, length, take, drop, replicate}
use Rattle.h5w_model.specs.Numbers.{range}
use Rattle.h5w_model.specs.declared.piece.Write.{Write}

-- the image after a write: the write's bytes at its place, zeros between the old end and the place
unfoldable pub apply : Write → List ℕ → List ℕ
apply w img = ((take w.at img ++ replicate (w.at - length img) 0) ++ w.piece) ++ drop (w.at + length w.piece) img

-- the image after a history that began with these bytes
abbrev pub image : List ℕ → List Write → List ℕ
image start [] = start
image start (w ∷ ws) = image (apply w start) ws

-- these bytes stand at this place of the image
abbrev pub At : List ℕ → ℕ → List ℕ → Type 0
At img place bytes = range img place (length bytes) ≡ bytes

-- the m bytes from place a on and the n bytes from place b on do not meet
abbrev pub Apart : ℕ → ℕ → ℕ → ℕ → Type 0
Apart a m b n = (a + m ≤ b) ⊎ (b + n ≤ a)

-- the write meets none of the n bytes from this place on
abbrev pub Misses : Write → ℕ → ℕ → Type 0
Misses w place n = Apart w.at (length w.piece) place n

-- each write of the history misses them
abbrev pub AllMiss : List Write → ℕ → ℕ → Type 0
AllMiss [] place n = Unit {0}
AllMiss (w ∷ ws) place n = Misses w place n × AllMiss ws place n

-- each block, a place and its bytes, stands in the image
abbrev pub Holds : List ℕ → List (ℕ × List ℕ) → Type 0
Holds img [] = Unit {0}
Holds img (block ∷ blocks) = At img block.0 block.1 × Holds img blocks

-- the n bytes from a place on meet none of the blocks
abbrev pub ApartEach : ℕ → ℕ → List (ℕ × List ℕ) → Type 0
ApartEach place n [] = Unit {0}
ApartEach place n (block ∷ blocks) = Apart place n block.0 (length block.1) × ApartEach place n blocks

-- the write meets none of the blocks
abbrev pub MissesEach : Write → List (ℕ × List ℕ) → Type 0
MissesEach w blocks = ApartEach w.at (length w.piece) blocks

-- no write of the history meets one of the blocks
abbrev pub AllMissEach : List Write → List (ℕ × List ℕ) → Type 0
AllMissEach [] blocks = Unit {0}
AllMissEach (w ∷ ws) blocks = MissesEach w blocks × AllMissEach ws blocks

-- each write has a piece's size, 1 to 512 bytes
abbrev pub AllSized : List Write → Type 0
AllSized [] = Unit {0}
AllSized (w ∷ ws) = ((1 ≤ length w.piece) × (length w.piece ≤ 512)) × AllSized ws

-- the first k pieces of some bytes, 512 bytes each, at rising places
unfoldable pub first_pieces : ℕ → ℕ → List ℕ → List Write
first_pieces zero place bytes = []
first_pieces (suc k) place bytes = record { at = place; piece = take 512 bytes } ∷ first_pieces k (place + 512) (drop 512 bytes)

-- the writes that put some bytes at a place: pieces of 512 bytes and a rest, at rising places
unfoldable pub pieces : ℕ → List ℕ → List Write
pieces place bytes = first_pieces ((length bytes + 511) / 512) place bytes
