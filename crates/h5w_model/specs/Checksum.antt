-- The metadata checksum: Bob Jenkins' lookup3 with initial value 0
-- (HDF5 File Format Specification 3.0, the fields named Checksum).
-- `x -= y` is `minus x y`, `x += y` is `plus x y`, `rot(x, k)` is `rotate_left w32 x k`.
use Rattle.std.specs.Prelude.{ℕ, zero, suc, ◌+◌, ◌-◌, ◌/◌, ◌%◌, ◌^◌, Bool, List, [], ◌∷◌, ◌++◌, length, take, drop, bit_xor, ◌==◌}
use Rattle.std.specs.Int.{w32, rotate_left}
use Rattle.h5w_model.specs.Numbers.{num, le, field}
use Rattle.h5w_model.specs.declared.refusal.Sums.{Sums}

-- three words below 2^32
pub record Words : Type 0 where
  pub a : ℕ
  pub b : ℕ
  pub c : ℕ

abbrev pub plus : ℕ → ℕ → ℕ
plus x y = (x + y) % 2 ^ 32

abbrev pub minus : ℕ → ℕ → ℕ
minus x y = (x + (2 ^ 32 - y)) % 2 ^ 32

-- a line of the mixing: a -= c; a ^= rot(c, k); c += b. The next line is this one with a for c, b for a, c for b:
-- so the words are renamed after it, and have their names again after three lines
unfoldable pub mix_line : ℕ → Words → Words
mix_line k w = record { a = w.b; b = plus w.c w.b; c = bit_xor (minus w.a w.c) (rotate_left w32 w.c k) }

-- the mixing, from the first line (4) to the last (4)
unfoldable pub mixed : Words → Words
mixed w = mix_line 4 (mix_line 19 (mix_line 16 (mix_line 8 (mix_line 6 (mix_line 4 w)))))

-- a line of the finish: c ^= b; c -= rot(b, k). The next line is this one with a for c, b for a, c for b
unfoldable pub finish_line : ℕ → Words → Words
finish_line k w = record { a = w.b; b = minus (bit_xor w.c w.b) (rotate_left w32 w.b k); c = w.a }

-- the finish, from the first line (14) to the last (24), and the word that the last line makes, which is c
unfoldable pub finished : Words → ℕ
finished w =
    (finish_line 24 (finish_line 14 (finish_line 4 (finish_line 16 (finish_line 25 (finish_line 11 (finish_line 14 w))))))).b

-- the words with the first twelve bytes added, four to each; where bytes are missing they count as zeros
unfoldable pub added : Words → List ℕ → Words
added w bytes = record { a = plus w.a (field bytes 0 4); b = plus w.b (field bytes 4 4); c = plus w.c (field bytes 8 4) }

-- n rounds of twelve bytes each are mixed in, and the bytes behind them end the sum
unfoldable pub rounds : ℕ → Words → List ℕ → ℕ
rounds zero w bytes = finished (added w bytes)
rounds (suc n) w bytes = rounds n (mixed (added w bytes)) (drop 12 bytes)

-- what the three words are for n bytes, before any of them counts
abbrev pub begun : ℕ → Words
begun n = let start = plus 0xDEADBEEF n in record { a = start; b = start; c = start }

-- the checksum of some bytes: rounds as long as more than twelve bytes are left
unfoldable pub sum_of : List ℕ → ℕ
sum_of [] = (begun 0).c
sum_of (byte ∷ rest) = rounds (length rest / 12) (begun (length (byte ∷ rest))) (byte ∷ rest)

-- the sum that a block of at least 4 bytes ends with, and that of the bytes before it
abbrev pub stored_sum : List ℕ → ℕ
stored_sum block = num (drop (length block - 4) block)

abbrev pub computed_sum : List ℕ → ℕ
computed_sum block = sum_of (take (length block - 4) block)

abbrev pub is_sealed : List ℕ → Bool
is_sealed block = stored_sum block == computed_sum block

abbrev pub sums_of : List ℕ → Sums
sums_of block = record { stored = stored_sum block; computed = computed_sum block }

-- a body with its sum behind it
abbrev pub sealed_block : List ℕ → List ℕ
sealed_block body = body ++ le 4 (sum_of body)
