-- Files with a tree, byte by byte, as an independent program made them: 8-bit integers, two columns, one value in a chunk, three
-- rows, and a chunk for each value but the last.
use Rattle.std.specs.Prelude.{ℕ, ◌-◌, List, [], ◌∷◌, ◌++◌, length, replicate}

-- a node takes 2,048 bytes
abbrev pub padded : List ℕ → List ℕ
padded node = node ++ replicate (2048 - length node) 0

-- superblock, root header, dataset header, and the header of a tree of depth 1
abbrev pub front_of_one : List ℕ
front_of_one =
    137 ∷ 72 ∷ 68 ∷ 70 ∷ 13 ∷ 10 ∷ 26 ∷ 10 ∷ 3 ∷ 8 ∷ 8 ∷ 5 ∷ 0 ∷ 0 ∷ 0 ∷ 0 ∷
    0 ∷ 0 ∷ 0 ∷ 0 ∷ 255 ∷ 255 ∷ 255 ∷ 255 ∷ 255 ∷ 255 ∷ 255 ∷ 255 ∷ 249 ∷ 32 ∷ 0 ∷ 0 ∷
    0 ∷ 0 ∷ 0 ∷ 0 ∷ 48 ∷ 0 ∷ 0 ∷ 0 ∷ 0 ∷ 0 ∷ 0 ∷ 0 ∷ 163 ∷ 28 ∷ 4 ∷ 178 ∷
    79 ∷ 72 ∷ 68 ∷ 82 ∷ 2 ∷ 0 ∷ 47 ∷ 2 ∷ 18 ∷ 0 ∷ 0 ∷ 0 ∷ 0 ∷ 255 ∷ 255 ∷ 255 ∷
    255 ∷ 255 ∷ 255 ∷ 255 ∷ 255 ∷ 255 ∷ 255 ∷ 255 ∷ 255 ∷ 255 ∷ 255 ∷ 255 ∷ 255 ∷ 10 ∷ 2 ∷ 0 ∷
    0 ∷ 0 ∷ 0 ∷ 6 ∷ 15 ∷ 0 ∷ 0 ∷ 1 ∷ 0 ∷ 4 ∷ 100 ∷ 97 ∷ 116 ∷ 97 ∷ 106 ∷ 0 ∷
    0 ∷ 0 ∷ 0 ∷ 0 ∷ 0 ∷ 0 ∷ 226 ∷ 193 ∷ 120 ∷ 148 ∷ 79 ∷ 72 ∷ 68 ∷ 82 ∷ 2 ∷ 0 ∷
    89 ∷ 1 ∷ 36 ∷ 0 ∷ 0 ∷ 2 ∷ 2 ∷ 1 ∷ 1 ∷ 3 ∷ 0 ∷ 0 ∷ 0 ∷ 0 ∷ 0 ∷ 0 ∷
    0 ∷ 2 ∷ 0 ∷ 0 ∷ 0 ∷ 0 ∷ 0 ∷ 0 ∷ 0 ∷ 255 ∷ 255 ∷ 255 ∷ 255 ∷ 255 ∷ 255 ∷ 255 ∷
    255 ∷ 255 ∷ 255 ∷ 255 ∷ 255 ∷ 255 ∷ 255 ∷ 255 ∷ 255 ∷ 3 ∷ 12 ∷ 0 ∷ 0 ∷ 48 ∷ 8 ∷ 0 ∷
    0 ∷ 1 ∷ 0 ∷ 0 ∷ 0 ∷ 0 ∷ 0 ∷ 8 ∷ 0 ∷ 5 ∷ 2 ∷ 0 ∷ 0 ∷ 3 ∷ 11 ∷ 8 ∷
    23 ∷ 0 ∷ 0 ∷ 4 ∷ 2 ∷ 0 ∷ 3 ∷ 1 ∷ 1 ∷ 1 ∷ 1 ∷ 5 ∷ 0 ∷ 8 ∷ 0 ∷ 0 ∷
    100 ∷ 40 ∷ 206 ∷ 0 ∷ 0 ∷ 0 ∷ 0 ∷ 0 ∷ 0 ∷ 0 ∷ 35 ∷ 156 ∷ 161 ∷ 117 ∷ 66 ∷ 84 ∷
    72 ∷ 68 ∷ 0 ∷ 10 ∷ 0 ∷ 8 ∷ 0 ∷ 0 ∷ 24 ∷ 0 ∷ 1 ∷ 0 ∷ 100 ∷ 40 ∷ 244 ∷ 0 ∷
    0 ∷ 0 ∷ 0 ∷ 0 ∷ 0 ∷ 0 ∷ 2 ∷ 0 ∷ 5 ∷ 0 ∷ 0 ∷ 0 ∷ 0 ∷ 0 ∷ 0 ∷ 0 ∷
    43 ∷ 197 ∷ 4 ∷ 90 ∷ []

-- its root: two records, and three leaves of one record each
abbrev pub node_of_two : List ℕ
node_of_two =
    66 ∷ 84 ∷ 73 ∷ 78 ∷ 0 ∷ 10 ∷ 245 ∷ 32 ∷ 0 ∷ 0 ∷ 0 ∷ 0 ∷ 0 ∷ 0 ∷ 0 ∷ 0 ∷
    0 ∷ 0 ∷ 0 ∷ 0 ∷ 0 ∷ 0 ∷ 1 ∷ 0 ∷ 0 ∷ 0 ∷ 0 ∷ 0 ∷ 0 ∷ 0 ∷ 247 ∷ 32 ∷
    0 ∷ 0 ∷ 0 ∷ 0 ∷ 0 ∷ 0 ∷ 1 ∷ 0 ∷ 0 ∷ 0 ∷ 0 ∷ 0 ∷ 0 ∷ 0 ∷ 1 ∷ 0 ∷
    0 ∷ 0 ∷ 0 ∷ 0 ∷ 0 ∷ 0 ∷ 244 ∷ 8 ∷ 0 ∷ 0 ∷ 0 ∷ 0 ∷ 0 ∷ 0 ∷ 1 ∷ 244 ∷
    16 ∷ 0 ∷ 0 ∷ 0 ∷ 0 ∷ 0 ∷ 0 ∷ 1 ∷ 244 ∷ 24 ∷ 0 ∷ 0 ∷ 0 ∷ 0 ∷ 0 ∷ 0 ∷
    1 ∷ 107 ∷ 172 ∷ 49 ∷ 43 ∷ []

-- the leaves
abbrev pub first_leaf : List ℕ
first_leaf =
    66 ∷ 84 ∷ 76 ∷ 70 ∷ 0 ∷ 10 ∷ 244 ∷ 32 ∷ 0 ∷ 0 ∷ 0 ∷ 0 ∷ 0 ∷ 0 ∷ 0 ∷ 0 ∷
    0 ∷ 0 ∷ 0 ∷ 0 ∷ 0 ∷ 0 ∷ 0 ∷ 0 ∷ 0 ∷ 0 ∷ 0 ∷ 0 ∷ 0 ∷ 0 ∷ 21 ∷ 70 ∷
    79 ∷ 24 ∷ []

abbrev pub second_leaf : List ℕ
second_leaf =
    66 ∷ 84 ∷ 76 ∷ 70 ∷ 0 ∷ 10 ∷ 246 ∷ 32 ∷ 0 ∷ 0 ∷ 0 ∷ 0 ∷ 0 ∷ 0 ∷ 1 ∷ 0 ∷
    0 ∷ 0 ∷ 0 ∷ 0 ∷ 0 ∷ 0 ∷ 0 ∷ 0 ∷ 0 ∷ 0 ∷ 0 ∷ 0 ∷ 0 ∷ 0 ∷ 128 ∷ 244 ∷
    235 ∷ 169 ∷ []

abbrev pub third_leaf : List ℕ
third_leaf =
    66 ∷ 84 ∷ 76 ∷ 70 ∷ 0 ∷ 10 ∷ 248 ∷ 32 ∷ 0 ∷ 0 ∷ 0 ∷ 0 ∷ 0 ∷ 0 ∷ 2 ∷ 0 ∷
    0 ∷ 0 ∷ 0 ∷ 0 ∷ 0 ∷ 0 ∷ 0 ∷ 0 ∷ 0 ∷ 0 ∷ 0 ∷ 0 ∷ 0 ∷ 0 ∷ 122 ∷ 87 ∷
    133 ∷ 105 ∷ []

-- the chunks, of one byte each
abbrev pub five_chunks : List ℕ
five_chunks = 1 ∷ 2 ∷ 3 ∷ 4 ∷ 5 ∷ []

-- a tree of depth 1 with this root
abbrev pub file_of_one : List ℕ → List ℕ
file_of_one root = front_of_one ++ padded root ++ padded first_leaf ++ padded second_leaf ++ padded third_leaf ++ five_chunks

-- the root with another count of the second leaf's records
abbrev pub node_of_miscounted : List ℕ
node_of_miscounted =
    66 ∷ 84 ∷ 73 ∷ 78 ∷ 0 ∷ 10 ∷ 245 ∷ 32 ∷ 0 ∷ 0 ∷ 0 ∷ 0 ∷ 0 ∷ 0 ∷ 0 ∷ 0 ∷
    0 ∷ 0 ∷ 0 ∷ 0 ∷ 0 ∷ 0 ∷ 1 ∷ 0 ∷ 0 ∷ 0 ∷ 0 ∷ 0 ∷ 0 ∷ 0 ∷ 247 ∷ 32 ∷
    0 ∷ 0 ∷ 0 ∷ 0 ∷ 0 ∷ 0 ∷ 1 ∷ 0 ∷ 0 ∷ 0 ∷ 0 ∷ 0 ∷ 0 ∷ 0 ∷ 1 ∷ 0 ∷
    0 ∷ 0 ∷ 0 ∷ 0 ∷ 0 ∷ 0 ∷ 244 ∷ 8 ∷ 0 ∷ 0 ∷ 0 ∷ 0 ∷ 0 ∷ 0 ∷ 1 ∷ 244 ∷
    16 ∷ 0 ∷ 0 ∷ 0 ∷ 0 ∷ 0 ∷ 0 ∷ 2 ∷ 244 ∷ 24 ∷ 0 ∷ 0 ∷ 0 ∷ 0 ∷ 0 ∷ 0 ∷
    1 ∷ 22 ∷ 251 ∷ 110 ∷ 148 ∷ []

-- the root with the keys of its records swapped
abbrev pub node_of_swapped : List ℕ
node_of_swapped =
    66 ∷ 84 ∷ 73 ∷ 78 ∷ 0 ∷ 10 ∷ 245 ∷ 32 ∷ 0 ∷ 0 ∷ 0 ∷ 0 ∷ 0 ∷ 0 ∷ 1 ∷ 0 ∷
    0 ∷ 0 ∷ 0 ∷ 0 ∷ 0 ∷ 0 ∷ 1 ∷ 0 ∷ 0 ∷ 0 ∷ 0 ∷ 0 ∷ 0 ∷ 0 ∷ 247 ∷ 32 ∷
    0 ∷ 0 ∷ 0 ∷ 0 ∷ 0 ∷ 0 ∷ 0 ∷ 0 ∷ 0 ∷ 0 ∷ 0 ∷ 0 ∷ 0 ∷ 0 ∷ 1 ∷ 0 ∷
    0 ∷ 0 ∷ 0 ∷ 0 ∷ 0 ∷ 0 ∷ 244 ∷ 8 ∷ 0 ∷ 0 ∷ 0 ∷ 0 ∷ 0 ∷ 0 ∷ 1 ∷ 244 ∷
    16 ∷ 0 ∷ 0 ∷ 0 ∷ 0 ∷ 0 ∷ 0 ∷ 1 ∷ 244 ∷ 24 ∷ 0 ∷ 0 ∷ 0 ∷ 0 ∷ 0 ∷ 0 ∷
    1 ∷ 237 ∷ 70 ∷ 226 ∷ 161 ∷ []

-- the same up to the header of a tree of depth 2
abbrev pub front_of_two : List ℕ
front_of_two =
    137 ∷ 72 ∷ 68 ∷ 70 ∷ 13 ∷ 10 ∷ 26 ∷ 10 ∷ 3 ∷ 8 ∷ 8 ∷ 5 ∷ 0 ∷ 0 ∷ 0 ∷ 0 ∷
    0 ∷ 0 ∷ 0 ∷ 0 ∷ 255 ∷ 255 ∷ 255 ∷ 255 ∷ 255 ∷ 255 ∷ 255 ∷ 255 ∷ 249 ∷ 40 ∷ 0 ∷ 0 ∷
    0 ∷ 0 ∷ 0 ∷ 0 ∷ 48 ∷ 0 ∷ 0 ∷ 0 ∷ 0 ∷ 0 ∷ 0 ∷ 0 ∷ 32 ∷ 9 ∷ 196 ∷ 151 ∷
    79 ∷ 72 ∷ 68 ∷ 82 ∷ 2 ∷ 0 ∷ 47 ∷ 2 ∷ 18 ∷ 0 ∷ 0 ∷ 0 ∷ 0 ∷ 255 ∷ 255 ∷ 255 ∷
    255 ∷ 255 ∷ 255 ∷ 255 ∷ 255 ∷ 255 ∷ 255 ∷ 255 ∷ 255 ∷ 255 ∷ 255 ∷ 255 ∷ 255 ∷ 10 ∷ 2 ∷ 0 ∷
    0 ∷ 0 ∷ 0 ∷ 6 ∷ 15 ∷ 0 ∷ 0 ∷ 1 ∷ 0 ∷ 4 ∷ 100 ∷ 97 ∷ 116 ∷ 97 ∷ 106 ∷ 0 ∷
    0 ∷ 0 ∷ 0 ∷ 0 ∷ 0 ∷ 0 ∷ 226 ∷ 193 ∷ 120 ∷ 148 ∷ 79 ∷ 72 ∷ 68 ∷ 82 ∷ 2 ∷ 0 ∷
    89 ∷ 1 ∷ 36 ∷ 0 ∷ 0 ∷ 2 ∷ 2 ∷ 1 ∷ 1 ∷ 3 ∷ 0 ∷ 0 ∷ 0 ∷ 0 ∷ 0 ∷ 0 ∷
    0 ∷ 2 ∷ 0 ∷ 0 ∷ 0 ∷ 0 ∷ 0 ∷ 0 ∷ 0 ∷ 255 ∷ 255 ∷ 255 ∷ 255 ∷ 255 ∷ 255 ∷ 255 ∷
    255 ∷ 255 ∷ 255 ∷ 255 ∷ 255 ∷ 255 ∷ 255 ∷ 255 ∷ 255 ∷ 3 ∷ 12 ∷ 0 ∷ 0 ∷ 48 ∷ 8 ∷ 0 ∷
    0 ∷ 1 ∷ 0 ∷ 0 ∷ 0 ∷ 0 ∷ 0 ∷ 8 ∷ 0 ∷ 5 ∷ 2 ∷ 0 ∷ 0 ∷ 3 ∷ 11 ∷ 8 ∷
    23 ∷ 0 ∷ 0 ∷ 4 ∷ 2 ∷ 0 ∷ 3 ∷ 1 ∷ 1 ∷ 1 ∷ 1 ∷ 5 ∷ 0 ∷ 8 ∷ 0 ∷ 0 ∷
    100 ∷ 40 ∷ 206 ∷ 0 ∷ 0 ∷ 0 ∷ 0 ∷ 0 ∷ 0 ∷ 0 ∷ 35 ∷ 156 ∷ 161 ∷ 117 ∷ 66 ∷ 84 ∷
    72 ∷ 68 ∷ 0 ∷ 10 ∷ 0 ∷ 8 ∷ 0 ∷ 0 ∷ 24 ∷ 0 ∷ 2 ∷ 0 ∷ 100 ∷ 40 ∷ 244 ∷ 0 ∷
    0 ∷ 0 ∷ 0 ∷ 0 ∷ 0 ∷ 0 ∷ 0 ∷ 0 ∷ 5 ∷ 0 ∷ 0 ∷ 0 ∷ 0 ∷ 0 ∷ 0 ∷ 0 ∷
    183 ∷ 80 ∷ 106 ∷ 80 ∷ []

-- its root: no record, and one child, under which five records stand
abbrev pub node_of_none : List ℕ
node_of_none =
    66 ∷ 84 ∷ 73 ∷ 78 ∷ 0 ∷ 10 ∷ 244 ∷ 8 ∷ 0 ∷ 0 ∷ 0 ∷ 0 ∷ 0 ∷ 0 ∷ 2 ∷ 5 ∷
    0 ∷ 205 ∷ 55 ∷ 245 ∷ 131 ∷ []

-- the same where six are said to stand
abbrev pub node_of_wrong_total : List ℕ
node_of_wrong_total =
    66 ∷ 84 ∷ 73 ∷ 78 ∷ 0 ∷ 10 ∷ 244 ∷ 8 ∷ 0 ∷ 0 ∷ 0 ∷ 0 ∷ 0 ∷ 0 ∷ 2 ∷ 6 ∷
    0 ∷ 209 ∷ 11 ∷ 22 ∷ 235 ∷ []

-- that child: two records, and three leaves of one record each
abbrev pub inner_of_two : List ℕ
inner_of_two =
    66 ∷ 84 ∷ 73 ∷ 78 ∷ 0 ∷ 10 ∷ 245 ∷ 40 ∷ 0 ∷ 0 ∷ 0 ∷ 0 ∷ 0 ∷ 0 ∷ 0 ∷ 0 ∷
    0 ∷ 0 ∷ 0 ∷ 0 ∷ 0 ∷ 0 ∷ 1 ∷ 0 ∷ 0 ∷ 0 ∷ 0 ∷ 0 ∷ 0 ∷ 0 ∷ 247 ∷ 40 ∷
    0 ∷ 0 ∷ 0 ∷ 0 ∷ 0 ∷ 0 ∷ 1 ∷ 0 ∷ 0 ∷ 0 ∷ 0 ∷ 0 ∷ 0 ∷ 0 ∷ 1 ∷ 0 ∷
    0 ∷ 0 ∷ 0 ∷ 0 ∷ 0 ∷ 0 ∷ 244 ∷ 16 ∷ 0 ∷ 0 ∷ 0 ∷ 0 ∷ 0 ∷ 0 ∷ 1 ∷ 244 ∷
    24 ∷ 0 ∷ 0 ∷ 0 ∷ 0 ∷ 0 ∷ 0 ∷ 1 ∷ 244 ∷ 32 ∷ 0 ∷ 0 ∷ 0 ∷ 0 ∷ 0 ∷ 0 ∷
    1 ∷ 108 ∷ 228 ∷ 170 ∷ 62 ∷ []

-- its leaves
abbrev pub leaf_of_first : List ℕ
leaf_of_first =
    66 ∷ 84 ∷ 76 ∷ 70 ∷ 0 ∷ 10 ∷ 244 ∷ 40 ∷ 0 ∷ 0 ∷ 0 ∷ 0 ∷ 0 ∷ 0 ∷ 0 ∷ 0 ∷
    0 ∷ 0 ∷ 0 ∷ 0 ∷ 0 ∷ 0 ∷ 0 ∷ 0 ∷ 0 ∷ 0 ∷ 0 ∷ 0 ∷ 0 ∷ 0 ∷ 162 ∷ 219 ∷
    130 ∷ 186 ∷ []

abbrev pub leaf_of_second : List ℕ
leaf_of_second =
    66 ∷ 84 ∷ 76 ∷ 70 ∷ 0 ∷ 10 ∷ 246 ∷ 40 ∷ 0 ∷ 0 ∷ 0 ∷ 0 ∷ 0 ∷ 0 ∷ 1 ∷ 0 ∷
    0 ∷ 0 ∷ 0 ∷ 0 ∷ 0 ∷ 0 ∷ 0 ∷ 0 ∷ 0 ∷ 0 ∷ 0 ∷ 0 ∷ 0 ∷ 0 ∷ 90 ∷ 0 ∷
    177 ∷ 156 ∷ []

abbrev pub leaf_of_third : List ℕ
leaf_of_third =
    66 ∷ 84 ∷ 76 ∷ 70 ∷ 0 ∷ 10 ∷ 248 ∷ 40 ∷ 0 ∷ 0 ∷ 0 ∷ 0 ∷ 0 ∷ 0 ∷ 2 ∷ 0 ∷
    0 ∷ 0 ∷ 0 ∷ 0 ∷ 0 ∷ 0 ∷ 0 ∷ 0 ∷ 0 ∷ 0 ∷ 0 ∷ 0 ∷ 0 ∷ 0 ∷ 79 ∷ 169 ∷
    247 ∷ 232 ∷ []

-- a tree of depth 2 with this root
abbrev pub file_of_two : List ℕ → List ℕ
file_of_two root = front_of_two ++ padded root ++ padded inner_of_two ++ padded leaf_of_first ++ padded leaf_of_second ++ padded leaf_of_third ++ five_chunks
