-- Files of some rows, columns and values, byte by byte, and what they show. Made by hand, by an independent program.
use Rattle.std.specs.Prelude.{ℕ, ◌++◌, List, [], ◌∷◌, replicate, Some, None}
use Rattle.h5w_model.specs.Numbers.{undefined}
use Rattle.h5w_model.specs.Tables.{Reading}
use Rattle.h5w_vector_examples.specs.Readings.{line, grid, signed_byte, unsigned_byte, signed_big_16}

-- two rows of two
abbrev pub square_file : List ℕ
square_file =
    (137 ∷ 72 ∷ 68 ∷ 70 ∷ 13 ∷ 10 ∷ 26 ∷ 10 ∷ 3 ∷ 8 ∷ 8 ∷ [])
    ++ replicate 9 0
    ++ (255 ∷ 255 ∷ 255 ∷ 255 ∷ 255 ∷ 255 ∷ 255 ∷ 255 ∷ 206 ∷ 0 ∷ 0 ∷ 0 ∷ 0 ∷ 0 ∷ 0 ∷ 0 ∷
    48 ∷ 0 ∷ 0 ∷ 0 ∷ 0 ∷ 0 ∷ 0 ∷ 0 ∷ 136 ∷ 71 ∷ 233 ∷ 190 ∷ 79 ∷ 72 ∷ 68 ∷ 82 ∷
    2 ∷ 0 ∷ 47 ∷ 2 ∷ 18 ∷ 0 ∷ 0 ∷ 0 ∷ 0 ∷ [])
    ++ replicate 16 255
    ++ (10 ∷ 2 ∷ 0 ∷ 0 ∷ 0 ∷ 0 ∷ 6 ∷ 15 ∷ 0 ∷ 0 ∷ 1 ∷ 0 ∷ 4 ∷ 100 ∷ 97 ∷ 116 ∷
    97 ∷ 106 ∷ 0 ∷ 0 ∷ 0 ∷ 0 ∷ 0 ∷ 0 ∷ 0 ∷ 226 ∷ 193 ∷ 120 ∷ 148 ∷ 79 ∷ 72 ∷ 68 ∷
    82 ∷ 2 ∷ 0 ∷ 89 ∷ 1 ∷ 36 ∷ 0 ∷ 0 ∷ 2 ∷ 2 ∷ 1 ∷ 1 ∷ 2 ∷ 0 ∷ 0 ∷ 0 ∷
    0 ∷ 0 ∷ 0 ∷ 0 ∷ 2 ∷ 0 ∷ 0 ∷ 0 ∷ 0 ∷ 0 ∷ 0 ∷ 0 ∷ [])
    ++ replicate 16 255
    ++ (3 ∷ 12 ∷ 0 ∷ 0 ∷ 48 ∷ 8 ∷ 0 ∷ 0 ∷ 1 ∷ 0 ∷ 0 ∷ 0 ∷ 0 ∷ 0 ∷ 8 ∷ 0 ∷
    5 ∷ 2 ∷ 0 ∷ 0 ∷ 3 ∷ 11 ∷ 8 ∷ 23 ∷ 0 ∷ 0 ∷ 4 ∷ 2 ∷ 0 ∷ 3 ∷ 1 ∷ 1 ∷
    1 ∷ 1 ∷ 5 ∷ 0 ∷ 8 ∷ 0 ∷ 0 ∷ 100 ∷ 40 ∷ 255 ∷ 255 ∷ 255 ∷ 255 ∷ 255 ∷ 255 ∷ 255 ∷
    255 ∷ 137 ∷ 213 ∷ 205 ∷ 70 ∷ [])

abbrev pub square_reading : Reading
square_reading = record { place = 106; dataset = grid 2 2 1 1 signed_byte None undefined; table = undefined ∷ undefined ∷ undefined ∷ undefined ∷ [] }

-- four rows of one
abbrev pub column_file : List ℕ
column_file =
    (137 ∷ 72 ∷ 68 ∷ 70 ∷ 13 ∷ 10 ∷ 26 ∷ 10 ∷ 3 ∷ 8 ∷ 8 ∷ [])
    ++ replicate 9 0
    ++ (255 ∷ 255 ∷ 255 ∷ 255 ∷ 255 ∷ 255 ∷ 255 ∷ 255 ∷ 206 ∷ 0 ∷ 0 ∷ 0 ∷ 0 ∷ 0 ∷ 0 ∷ 0 ∷
    48 ∷ 0 ∷ 0 ∷ 0 ∷ 0 ∷ 0 ∷ 0 ∷ 0 ∷ 136 ∷ 71 ∷ 233 ∷ 190 ∷ 79 ∷ 72 ∷ 68 ∷ 82 ∷
    2 ∷ 0 ∷ 47 ∷ 2 ∷ 18 ∷ 0 ∷ 0 ∷ 0 ∷ 0 ∷ [])
    ++ replicate 16 255
    ++ (10 ∷ 2 ∷ 0 ∷ 0 ∷ 0 ∷ 0 ∷ 6 ∷ 15 ∷ 0 ∷ 0 ∷ 1 ∷ 0 ∷ 4 ∷ 100 ∷ 97 ∷ 116 ∷
    97 ∷ 106 ∷ 0 ∷ 0 ∷ 0 ∷ 0 ∷ 0 ∷ 0 ∷ 0 ∷ 226 ∷ 193 ∷ 120 ∷ 148 ∷ 79 ∷ 72 ∷ 68 ∷
    82 ∷ 2 ∷ 0 ∷ 89 ∷ 1 ∷ 36 ∷ 0 ∷ 0 ∷ 2 ∷ 2 ∷ 1 ∷ 1 ∷ 4 ∷ 0 ∷ 0 ∷ 0 ∷
    0 ∷ 0 ∷ 0 ∷ 0 ∷ 1 ∷ 0 ∷ 0 ∷ 0 ∷ 0 ∷ 0 ∷ 0 ∷ 0 ∷ [])
    ++ replicate 16 255
    ++ (3 ∷ 12 ∷ 0 ∷ 0 ∷ 48 ∷ 8 ∷ 0 ∷ 0 ∷ 1 ∷ 0 ∷ 0 ∷ 0 ∷ 0 ∷ 0 ∷ 8 ∷ 0 ∷
    5 ∷ 2 ∷ 0 ∷ 0 ∷ 3 ∷ 11 ∷ 8 ∷ 23 ∷ 0 ∷ 0 ∷ 4 ∷ 2 ∷ 0 ∷ 3 ∷ 1 ∷ 1 ∷
    1 ∷ 1 ∷ 5 ∷ 0 ∷ 8 ∷ 0 ∷ 0 ∷ 100 ∷ 40 ∷ 255 ∷ 255 ∷ 255 ∷ 255 ∷ 255 ∷ 255 ∷ 255 ∷
    255 ∷ 57 ∷ 8 ∷ 3 ∷ 67 ∷ [])

abbrev pub column_reading : Reading
column_reading = record { place = 106; dataset = grid 4 1 1 1 signed_byte None undefined; table = undefined ∷ undefined ∷ undefined ∷ undefined ∷ [] }

-- five rows of none
abbrev pub no_columns_file : List ℕ
no_columns_file =
    (137 ∷ 72 ∷ 68 ∷ 70 ∷ 13 ∷ 10 ∷ 26 ∷ 10 ∷ 3 ∷ 8 ∷ 8 ∷ [])
    ++ replicate 9 0
    ++ (255 ∷ 255 ∷ 255 ∷ 255 ∷ 255 ∷ 255 ∷ 255 ∷ 255 ∷ 200 ∷ 0 ∷ 0 ∷ 0 ∷ 0 ∷ 0 ∷ 0 ∷ 0 ∷
    48 ∷ 0 ∷ 0 ∷ 0 ∷ 0 ∷ 0 ∷ 0 ∷ 0 ∷ 93 ∷ 61 ∷ 104 ∷ 31 ∷ 79 ∷ 72 ∷ 68 ∷ 82 ∷
    2 ∷ 0 ∷ 47 ∷ 2 ∷ 18 ∷ 0 ∷ 0 ∷ 0 ∷ 0 ∷ [])
    ++ replicate 16 255
    ++ (10 ∷ 2 ∷ 0 ∷ 0 ∷ 0 ∷ 0 ∷ 6 ∷ 15 ∷ 0 ∷ 0 ∷ 1 ∷ 0 ∷ 4 ∷ 100 ∷ 97 ∷ 116 ∷
    97 ∷ 106 ∷ 0 ∷ 0 ∷ 0 ∷ 0 ∷ 0 ∷ 0 ∷ 0 ∷ 226 ∷ 193 ∷ 120 ∷ 148 ∷ 79 ∷ 72 ∷ 68 ∷
    82 ∷ 2 ∷ 0 ∷ 83 ∷ 1 ∷ 36 ∷ 0 ∷ 0 ∷ 2 ∷ 2 ∷ 1 ∷ 1 ∷ 5 ∷ [])
    ++ replicate 15 0
    ++ replicate 16 255
    ++ (3 ∷ 12 ∷ 0 ∷ 0 ∷ 48 ∷ 8 ∷ 0 ∷ 0 ∷ 1 ∷ 0 ∷ 0 ∷ 0 ∷ 0 ∷ 0 ∷ 8 ∷ 0 ∷
    8 ∷ 23 ∷ 0 ∷ 0 ∷ 4 ∷ 2 ∷ 0 ∷ 3 ∷ 1 ∷ 1 ∷ 1 ∷ 1 ∷ 5 ∷ 0 ∷ 8 ∷ 0 ∷
    0 ∷ 100 ∷ 40 ∷ 255 ∷ 255 ∷ 255 ∷ 255 ∷ 255 ∷ 255 ∷ 255 ∷ 255 ∷ 80 ∷ 165 ∷ 234 ∷ 11 ∷ [])

abbrev pub no_columns_reading : Reading
no_columns_reading = record { place = 106; dataset = grid 5 0 1 1 signed_byte None undefined; table = [] }

-- two rows of three in chunks of 2 x 2: cells stand row by row in a chunk
abbrev pub edge_chunk_file : List ℕ
edge_chunk_file =
    (137 ∷ 72 ∷ 68 ∷ 70 ∷ 13 ∷ 10 ∷ 26 ∷ 10 ∷ 3 ∷ 8 ∷ 8 ∷ [])
    ++ replicate 9 0
    ++ (255 ∷ 255 ∷ 255 ∷ 255 ∷ 255 ∷ 255 ∷ 255 ∷ 255 ∷ 90 ∷ 9 ∷ 0 ∷ 0 ∷ 0 ∷ 0 ∷ 0 ∷ 0 ∷
    48 ∷ 0 ∷ 0 ∷ 0 ∷ 0 ∷ 0 ∷ 0 ∷ 0 ∷ 163 ∷ 87 ∷ 160 ∷ 89 ∷ 79 ∷ 72 ∷ 68 ∷ 82 ∷
    2 ∷ 0 ∷ 47 ∷ 2 ∷ 18 ∷ 0 ∷ 0 ∷ 0 ∷ 0 ∷ [])
    ++ replicate 16 255
    ++ (10 ∷ 2 ∷ 0 ∷ 0 ∷ 0 ∷ 0 ∷ 6 ∷ 15 ∷ 0 ∷ 0 ∷ 1 ∷ 0 ∷ 4 ∷ 100 ∷ 97 ∷ 116 ∷
    97 ∷ 106 ∷ 0 ∷ 0 ∷ 0 ∷ 0 ∷ 0 ∷ 0 ∷ 0 ∷ 226 ∷ 193 ∷ 120 ∷ 148 ∷ 79 ∷ 72 ∷ 68 ∷
    82 ∷ 2 ∷ 0 ∷ 89 ∷ 1 ∷ 36 ∷ 0 ∷ 0 ∷ 2 ∷ 2 ∷ 1 ∷ 1 ∷ 2 ∷ 0 ∷ 0 ∷ 0 ∷
    0 ∷ 0 ∷ 0 ∷ 0 ∷ 3 ∷ 0 ∷ 0 ∷ 0 ∷ 0 ∷ 0 ∷ 0 ∷ 0 ∷ [])
    ++ replicate 16 255
    ++ (3 ∷ 12 ∷ 0 ∷ 0 ∷ 48 ∷ 8 ∷ 0 ∷ 0 ∷ 1 ∷ 0 ∷ 0 ∷ 0 ∷ 0 ∷ 0 ∷ 8 ∷ 0 ∷
    5 ∷ 2 ∷ 0 ∷ 0 ∷ 3 ∷ 11 ∷ 8 ∷ 23 ∷ 0 ∷ 0 ∷ 4 ∷ 2 ∷ 0 ∷ 3 ∷ 1 ∷ 2 ∷
    2 ∷ 1 ∷ 5 ∷ 0 ∷ 8 ∷ 0 ∷ 0 ∷ 100 ∷ 40 ∷ 44 ∷ 1 ∷ 0 ∷ 0 ∷ 0 ∷ 0 ∷ 0 ∷
    0 ∷ 125 ∷ 201 ∷ 225 ∷ 91 ∷ [])
    ++ replicate 94 0
    ++ (66 ∷ 84 ∷ 72 ∷ 68 ∷ 0 ∷ 10 ∷ 0 ∷ 8 ∷ 0 ∷ 0 ∷ 24 ∷ 0 ∷ 0 ∷ 0 ∷ 100 ∷ 40 ∷
    82 ∷ 1 ∷ 0 ∷ 0 ∷ 0 ∷ 0 ∷ 0 ∷ 0 ∷ 2 ∷ 0 ∷ 2 ∷ 0 ∷ 0 ∷ 0 ∷ 0 ∷ 0 ∷
    0 ∷ 0 ∷ 170 ∷ 242 ∷ 252 ∷ 38 ∷ 66 ∷ 84 ∷ 76 ∷ 70 ∷ 0 ∷ 10 ∷ 82 ∷ 9 ∷ [])
    ++ replicate 22 0
    ++ (86 ∷ 9 ∷ [])
    ++ replicate 14 0
    ++ (1 ∷ 0 ∷ 0 ∷ 0 ∷ 0 ∷ 0 ∷ 0 ∷ 0 ∷ 7 ∷ 4 ∷ 62 ∷ 145 ∷ [])
    ++ replicate 1990 0
    ++ (1 ∷ 2 ∷ 4 ∷ 5 ∷ 3 ∷ 0 ∷ 6 ∷ 0 ∷ [])

abbrev pub edge_chunk_reading : Reading
edge_chunk_reading = record { place = 106; dataset = grid 2 3 2 2 signed_byte None 300; table = 2386 ∷ 2390 ∷ [] }

-- no index, and a fill of -2 in 16 bits, big-endian
abbrev pub big_endian_fill_file : List ℕ
big_endian_fill_file =
    (137 ∷ 72 ∷ 68 ∷ 70 ∷ 13 ∷ 10 ∷ 26 ∷ 10 ∷ 3 ∷ 8 ∷ 8 ∷ [])
    ++ replicate 9 0
    ++ (255 ∷ 255 ∷ 255 ∷ 255 ∷ 255 ∷ 255 ∷ 255 ∷ 255 ∷ 194 ∷ 0 ∷ 0 ∷ 0 ∷ 0 ∷ 0 ∷ 0 ∷ 0 ∷
    48 ∷ 0 ∷ 0 ∷ 0 ∷ 0 ∷ 0 ∷ 0 ∷ 0 ∷ 204 ∷ 152 ∷ 146 ∷ 203 ∷ 79 ∷ 72 ∷ 68 ∷ 82 ∷
    2 ∷ 0 ∷ 47 ∷ 2 ∷ 18 ∷ 0 ∷ 0 ∷ 0 ∷ 0 ∷ [])
    ++ replicate 16 255
    ++ (10 ∷ 2 ∷ 0 ∷ 0 ∷ 0 ∷ 0 ∷ 6 ∷ 15 ∷ 0 ∷ 0 ∷ 1 ∷ 0 ∷ 4 ∷ 100 ∷ 97 ∷ 116 ∷
    97 ∷ 106 ∷ 0 ∷ 0 ∷ 0 ∷ 0 ∷ 0 ∷ 0 ∷ 0 ∷ 226 ∷ 193 ∷ 120 ∷ 148 ∷ 79 ∷ 72 ∷ 68 ∷
    82 ∷ 2 ∷ 0 ∷ 77 ∷ 1 ∷ 20 ∷ 0 ∷ 0 ∷ 2 ∷ 1 ∷ 1 ∷ 1 ∷ 3 ∷ 0 ∷ 0 ∷ 0 ∷
    0 ∷ 0 ∷ 0 ∷ 0 ∷ 255 ∷ 255 ∷ 255 ∷ 255 ∷ 255 ∷ 255 ∷ 255 ∷ 255 ∷ 3 ∷ 12 ∷ 0 ∷ 0 ∷
    48 ∷ 9 ∷ 0 ∷ 0 ∷ 2 ∷ 0 ∷ 0 ∷ 0 ∷ 0 ∷ 0 ∷ 16 ∷ 0 ∷ 5 ∷ 8 ∷ 0 ∷ 0 ∷
    3 ∷ 43 ∷ 2 ∷ 0 ∷ 0 ∷ 0 ∷ 255 ∷ 254 ∷ 8 ∷ 21 ∷ 0 ∷ 0 ∷ 4 ∷ 2 ∷ 0 ∷ 2 ∷
    1 ∷ 1 ∷ 2 ∷ 4 ∷ 32 ∷ 4 ∷ 4 ∷ 16 ∷ 10 ∷ 255 ∷ 255 ∷ 255 ∷ 255 ∷ 255 ∷ 255 ∷ 255 ∷
    255 ∷ 175 ∷ 71 ∷ 177 ∷ 150 ∷ [])

abbrev pub big_endian_fill_reading : Reading
big_endian_fill_reading = record { place = 106; dataset = line 3 1 signed_big_16 (Some (255 ∷ 254 ∷ [])) undefined 13; table = undefined ∷ undefined ∷ undefined ∷ [] }

-- no index, and a fill of 255 without a sign
abbrev pub unsigned_fill_file : List ℕ
unsigned_fill_file =
    (137 ∷ 72 ∷ 68 ∷ 70 ∷ 13 ∷ 10 ∷ 26 ∷ 10 ∷ 3 ∷ 8 ∷ 8 ∷ [])
    ++ replicate 9 0
    ++ (255 ∷ 255 ∷ 255 ∷ 255 ∷ 255 ∷ 255 ∷ 255 ∷ 255 ∷ 193 ∷ 0 ∷ 0 ∷ 0 ∷ 0 ∷ 0 ∷ 0 ∷ 0 ∷
    48 ∷ 0 ∷ 0 ∷ 0 ∷ 0 ∷ 0 ∷ 0 ∷ 0 ∷ 192 ∷ 28 ∷ 17 ∷ 208 ∷ 79 ∷ 72 ∷ 68 ∷ 82 ∷
    2 ∷ 0 ∷ 47 ∷ 2 ∷ 18 ∷ 0 ∷ 0 ∷ 0 ∷ 0 ∷ [])
    ++ replicate 16 255
    ++ (10 ∷ 2 ∷ 0 ∷ 0 ∷ 0 ∷ 0 ∷ 6 ∷ 15 ∷ 0 ∷ 0 ∷ 1 ∷ 0 ∷ 4 ∷ 100 ∷ 97 ∷ 116 ∷
    97 ∷ 106 ∷ 0 ∷ 0 ∷ 0 ∷ 0 ∷ 0 ∷ 0 ∷ 0 ∷ 226 ∷ 193 ∷ 120 ∷ 148 ∷ 79 ∷ 72 ∷ 68 ∷
    82 ∷ 2 ∷ 0 ∷ 76 ∷ 1 ∷ 20 ∷ 0 ∷ 0 ∷ 2 ∷ 1 ∷ 1 ∷ 1 ∷ 1 ∷ 0 ∷ 0 ∷ 0 ∷
    0 ∷ 0 ∷ 0 ∷ 0 ∷ 255 ∷ 255 ∷ 255 ∷ 255 ∷ 255 ∷ 255 ∷ 255 ∷ 255 ∷ 3 ∷ 12 ∷ 0 ∷ 0 ∷
    48 ∷ 0 ∷ 0 ∷ 0 ∷ 1 ∷ 0 ∷ 0 ∷ 0 ∷ 0 ∷ 0 ∷ 8 ∷ 0 ∷ 5 ∷ 7 ∷ 0 ∷ 0 ∷
    3 ∷ 43 ∷ 1 ∷ 0 ∷ 0 ∷ 0 ∷ 255 ∷ 8 ∷ 21 ∷ 0 ∷ 0 ∷ 4 ∷ 2 ∷ 0 ∷ 2 ∷ 1 ∷
    1 ∷ 1 ∷ 4 ∷ 32 ∷ 4 ∷ 4 ∷ 16 ∷ 10 ∷ 255 ∷ 255 ∷ 255 ∷ 255 ∷ 255 ∷ 255 ∷ 255 ∷ 255 ∷
    32 ∷ 78 ∷ 84 ∷ 35 ∷ [])

abbrev pub unsigned_fill_reading : Reading
unsigned_fill_reading = record { place = 106; dataset = line 1 1 unsigned_byte (Some (255 ∷ [])) undefined 13; table = undefined ∷ [] }

-- chunks of 300 rows, so that sizes take two bytes
abbrev pub wide_sizes_file : List ℕ
wide_sizes_file =
    (137 ∷ 72 ∷ 68 ∷ 70 ∷ 13 ∷ 10 ∷ 26 ∷ 10 ∷ 3 ∷ 8 ∷ 8 ∷ [])
    ++ replicate 9 0
    ++ (255 ∷ 255 ∷ 255 ∷ 255 ∷ 255 ∷ 255 ∷ 255 ∷ 255 ∷ 190 ∷ 0 ∷ 0 ∷ 0 ∷ 0 ∷ 0 ∷ 0 ∷ 0 ∷
    48 ∷ 0 ∷ 0 ∷ 0 ∷ 0 ∷ 0 ∷ 0 ∷ 0 ∷ 154 ∷ 246 ∷ 179 ∷ 77 ∷ 79 ∷ 72 ∷ 68 ∷ 82 ∷
    2 ∷ 0 ∷ 47 ∷ 2 ∷ 18 ∷ 0 ∷ 0 ∷ 0 ∷ 0 ∷ [])
    ++ replicate 16 255
    ++ (10 ∷ 2 ∷ 0 ∷ 0 ∷ 0 ∷ 0 ∷ 6 ∷ 15 ∷ 0 ∷ 0 ∷ 1 ∷ 0 ∷ 4 ∷ 100 ∷ 97 ∷ 116 ∷
    97 ∷ 106 ∷ 0 ∷ 0 ∷ 0 ∷ 0 ∷ 0 ∷ 0 ∷ 0 ∷ 226 ∷ 193 ∷ 120 ∷ 148 ∷ 79 ∷ 72 ∷ 68 ∷
    82 ∷ 2 ∷ 0 ∷ 73 ∷ 1 ∷ 20 ∷ 0 ∷ 0 ∷ 2 ∷ 1 ∷ 1 ∷ 1 ∷ 45 ∷ 1 ∷ 0 ∷ 0 ∷
    0 ∷ 0 ∷ 0 ∷ 0 ∷ 255 ∷ 255 ∷ 255 ∷ 255 ∷ 255 ∷ 255 ∷ 255 ∷ 255 ∷ 3 ∷ 12 ∷ 0 ∷ 0 ∷
    48 ∷ 8 ∷ 0 ∷ 0 ∷ 1 ∷ 0 ∷ 0 ∷ 0 ∷ 0 ∷ 0 ∷ 8 ∷ 0 ∷ 5 ∷ 2 ∷ 0 ∷ 0 ∷
    3 ∷ 11 ∷ 8 ∷ 23 ∷ 0 ∷ 0 ∷ 4 ∷ 2 ∷ 0 ∷ 2 ∷ 2 ∷ 44 ∷ 1 ∷ 1 ∷ 0 ∷ 4 ∷
    32 ∷ 4 ∷ 4 ∷ 16 ∷ 10 ∷ 255 ∷ 255 ∷ 255 ∷ 255 ∷ 255 ∷ 255 ∷ 255 ∷ 255 ∷ 70 ∷ 164 ∷ 183 ∷
    197 ∷ [])

abbrev pub wide_sizes_reading : Reading
wide_sizes_reading = record { place = 106; dataset = line 301 300 signed_byte None undefined 15; table = undefined ∷ undefined ∷ [] }
