-- What a reader's call looks at and answers: programs of looks of at most 512 bytes.
use Rattle.std.specs.Prelude.{ℕ, zero, suc, ◌+◌, ◌-◌, ◌*◌, ◌/◌, ◌%◌, ◌^◌, min, max, Bool, true, false, ◌||◌, ◌&&◌, List, [], ◌∷◌, length, take, map, flat_map, slice_index_or, nat_eq, nat_lt, ◌==◌, if◌then◌else◌, Option, Some, None, Result, Ok, Err, ℤ}
use Rattle.std.specs.Cmp.Lexicographic.{pointwise}
use Rattle.std.specs.List.{range_with_len}
use Rattle.h5w_model.specs.Numbers.{range, undefined}
use Rattle.h5w_model.specs.Programs.{Prog, ret, whole, counted, stored, bind, and_then, lowered, below_end}
use Rattle.h5w_model.specs.Headers.{prefix_at, header_view}
use Rattle.h5w_model.specs.Integers.{value_at, fill_value}
use Rattle.h5w_model.specs.Datasets.{Described, dataset_place, dataset_from}
use Rattle.h5w_model.specs.Tables.{Limits, Reading, InPlace, limit_of, needed, needed_keys, in_place, address_behind, each_of, chunk_address, chunks_across, cell_offset}
use Rattle.h5w_model.specs.declared.cell.Key.{Key}
use Rattle.h5w_model.specs.declared.refusal.ReadError.{ReadError}
use Rattle.h5w_model.specs.declared.refusal.ReadError.TheVariants.{Damaged, TooManyChunks, Shrunk, Again}
use Rattle.h5w_model.specs.declared.refusal.BlockFault.TheVariants.{Cut}
use Rattle.h5w_model.specs.declared.refusal.HeaderError.TheVariants.{Short}

-- ---- Attempts

-- By what a call for rows goes: the limits on chunks, the blocks that an attempt keeps, the attempts, the dataset header's
-- place, and what is known of the dataset from earlier calls.
pub record CallRules : Type 0 where
  pub limits : Limits
  pub keeps : ℕ
  pub attempts : ℕ
  pub place : ℕ
  pub known : Option Reading

-- the rows that were seen
abbrev pub rows_seen : Option Reading → ℕ
rows_seen None = 0
rows_seen (Some r) = r.dataset.shape.rows

-- the rows are cut into chunks alike
abbrev pub same_cut : Described → Described → Bool
same_cut a b = (a.shape.cols == b.shape.cols) && (a.layout.chunk_rows == b.layout.chunk_rows) && (a.layout.chunk_cols == b.layout.chunk_cols)

-- the addresses that are known of a dataset's first chunks
abbrev pub known_table : Option Reading → Described → List ℕ
known_table None d = []
known_table (Some r) d = if same_cut r.dataset d then r.table else []

-- some key has no known address
abbrev pub some_unknown : List ℕ → List Key → Bool
some_unknown known [] = false
some_unknown [] (k ∷ ks) = true
some_unknown (a ∷ rest) (k ∷ ks) = (a == undefined) || some_unknown rest ks

-- the address of a key, unless it is known
abbrev pub address_or : InPlace → ℕ → Key → Prog (Result ℕ ReadError)
address_or p a k = if a == undefined then address_behind p k else ret (Ok a)

-- the addresses of some keys, the first of which may be known
abbrev pub each_unknown : InPlace → List ℕ → List Key → Prog (Result (List ℕ) ReadError)
each_unknown p known [] = ret (Ok [])
each_unknown p [] (k ∷ ks) = and_then (address_behind p k) (λ a. and_then (each_unknown p [] ks) (λ rest. ret (Ok (a ∷ rest))))
each_unknown p (a ∷ known) (k ∷ ks) = and_then (address_or p a k) (λ b. and_then (each_unknown p known ks) (λ rest. ret (Ok (b ∷ rest))))

-- The addresses of some chunks: only where one is not known are the blocks in place looked at, and behind them the blocks on
-- the way to each such chunk.
abbrev pub table_from : List ℕ → Described → List Key → Prog (Result (List ℕ) ReadError)
table_from known d ks = if some_unknown known ks then and_then (in_place d) (λ p. each_unknown p known ks) else ret (Ok (take (length ks) known))

-- the addresses of the needed chunks, within the limits
abbrev pub needed_from : Limits → List ℕ → Described → Prog (Result (List ℕ) ReadError)
needed_from limits known d =
    if nat_lt (limit_of limits d.layout.index) (needed d) then ret (Err (TooManyChunks (needed d) (limit_of limits d.layout.index)))
    else table_from known d (needed_keys d)

-- a look at the dataset header, of which what counts is handed on
abbrev pub header_look : {A : Type 0} → ℕ → (List ℕ → Prog A) → Prog A
header_look place next = whole place (below_end place 512) (λ b. next (header_view b))

-- what counts of a look at a header is less than its chunk 0, which has at most 512 bytes
abbrev pub cut_header : ℕ → List ℕ → Option ReadError
cut_header place v =
    elim (prefix_at v) [
      | Ok p ↦ (if nat_lt 512 p.total then None else if nat_lt (length v) p.total then Some (Damaged place (Cut p.total (length v))) else None)
      | Err e ↦ elim e [ Short need got ↦ Some (Damaged place (Cut need got)) | _ ↦ None ]
    ]

-- fewer rows than were seen before are refused
abbrev pub not_shrunk : ℕ → Described → Result Described ReadError
not_shrunk seen d = if nat_lt d.shape.rows seen then Err (Shrunk seen d.shape.rows) else Ok d

-- what the header says, and the addresses of the needed chunks
abbrev pub behind_header : CallRules → List ℕ → Prog (Result Reading ReadError)
behind_header g v =
    and_then (dataset_from g.place v) (λ d.
    and_then (ret (not_shrunk (rows_seen g.known) d)) (λ d.
    and_then (needed_from g.limits (known_table g.known d) d) (λ t. ret (Ok (record { place = g.place; dataset = d; table = t })))))

-- the first place at which two headers differ, and both bytes there; a missing byte counts as 0
pub record Difference : Type 0 where
  pub place : ℕ
  pub first : ℕ
  pub last : ℕ

abbrev pub difference_from : ℕ → List ℕ → List ℕ → Difference
difference_from p [] [] = record { place = p; first = 0; last = 0 }
difference_from p [] (y ∷ ys) = record { place = p; first = 0; last = y }
difference_from p (x ∷ xs) [] = record { place = p; first = x; last = 0 }
difference_from p (x ∷ xs) (y ∷ ys) = if x == y then difference_from (p + 1) xs ys else record { place = p; first = x; last = y }

abbrev pub again : CallRules → List ℕ → List ℕ → ReadError
again g v w = let d = difference_from g.place v w in Again g.attempts d.place d.first d.last

-- another look at the header: where it is the same this is the answer, else it begins what comes next
abbrev pub confirmed : CallRules → List ℕ → (List ℕ → Prog (Result Reading ReadError)) → Result Reading ReadError → Prog (Result Reading ReadError)
confirmed g v differs answer =
    header_look g.place (λ w.
    elim (cut_header g.place w) [
      | Some e ↦ ret (Err e)
      | None ↦ (if pointwise nat_eq w v then ret answer else differs w)
    ])

-- an attempt that looked at nothing but the header, and refuses nothing, needs no other look
abbrev pub is_settled : Prog (Result Reading ReadError) → Bool
is_settled (ret (Ok r)) = true
is_settled (ret (Err e)) = false
is_settled (whole at n next) = false
is_settled (counted at counts next) = false
is_settled (stored kind at n next) = false

-- an attempt from its first look at the header on; `differs` goes on where the header changed
abbrev pub one_attempt : CallRules → (List ℕ → Prog (Result Reading ReadError)) → List ℕ → Prog (Result Reading ReadError)
one_attempt g differs v =
    elim (cut_header g.place v) [
      | Some e ↦ ret (Err e)
      | None ↦ (let p = lowered g.keeps [] (behind_header g v) in
          if is_settled p then p else bind p (confirmed g v differs))
    ]

-- an attempt, and at most so many more; the last look of one is the first of the next
abbrev pub attempts_from : CallRules → ℕ → List ℕ → Prog (Result Reading ReadError)
attempts_from g zero v = one_attempt g (λ w. ret (Err (again g v w))) v
attempts_from g (suc more) v = one_attempt g (attempts_from g more) v

-- a call for rows of a reader that knows the dataset header's place
abbrev pub rows_call : CallRules → Prog (Result Reading ReadError)
rows_call g = header_look g.place (attempts_from g (g.attempts - 1))

-- by what an open goes, once the dataset header's place is known
abbrev pub open_rules : Limits → ℕ → ℕ → ℕ → CallRules
open_rules chunk_limits kept most at = record { limits = chunk_limits; keeps = kept; attempts = most; place = at; known = None }

-- an open: superblock, root header, link, and then attempts
abbrev pub open_call : Limits → ℕ → ℕ → List ℕ → Prog (Result Reading ReadError)
open_call chunk_limits kept most name =
    and_then (lowered kept [] (dataset_place name)) (λ at. rows_call (open_rules chunk_limits kept most at))

-- ---- Values

-- the rows from `first` up to but not including `last` that lie in band i
abbrev pub first_in_band : Described → ℕ → ℕ → ℕ
first_in_band d i from = max from (i * d.layout.chunk_rows)

abbrev pub last_in_band : Described → ℕ → ℕ → ℕ
last_in_band d i to = min to ((i + 1) * d.layout.chunk_rows)

-- the column behind the last of a chunk
abbrev pub last_column : Described → ℕ → ℕ
last_column d j = min d.shape.cols ((j + 1) * d.layout.chunk_cols)

-- where in a chunk the touched cells begin, and where they end, in bytes
abbrev pub touched_from : Described → ℕ → ℕ → ℕ → ℕ
touched_from d i j from = cell_offset d (first_in_band d i from) (j * d.layout.chunk_cols)

abbrev pub touched_to : Described → ℕ → ℕ → ℕ → ℕ
touched_to d i j to = cell_offset d (last_in_band d i to - 1) (last_column d j - 1) + d.int_type.size

-- no byte of a look
abbrev pub none_of : List ℕ → List ℕ
none_of b = []

-- A range of a chunk: none of a chunk without an address; one that the image does not have whole is damaged. Of one that
-- passes 2^64, which no image has, there is a look at the chunk.
abbrev pub chunk_range : Reading → ℕ → ℕ → ℕ → ℕ → Prog (Result (Option (List ℕ)) ReadError)
chunk_range r i j from to =
    let address = chunk_address r (i * r.dataset.layout.chunk_rows) (j * r.dataset.layout.chunk_cols) in
    let start = touched_from r.dataset i j from in
    let len = touched_to r.dataset i j to - start in
    if address == undefined then ret (Ok None)
    else if nat_lt (2 ^ 64) (address + start + len) then counted address none_of (λ b. ret (Err (Damaged address (Cut len 0))))
    else whole (address + start) len (λ b.
    ret (if nat_lt (length b) len then Err (Damaged (address + start) (Cut len (length b))) else Ok (Some b)))

-- the touched bands, and the chunks side by side in each
abbrev pub touched_keys : Reading → ℕ → ℕ → List (ℕ × ℕ)
touched_keys r from to =
    flat_map (λ i. map (λ j. (i, j)) (range_with_len 0 (chunks_across r.dataset)))
    (range_with_len (from / r.dataset.layout.chunk_rows) ((to - 1) / r.dataset.layout.chunk_rows + 1 - from / r.dataset.layout.chunk_rows))

-- the value of a cell, from the range of its chunk
abbrev pub value_from : Reading → ℕ → Option (List ℕ) → ℕ → ℕ → ℤ
value_from r from None row column = fill_value r.dataset.fill r.dataset.int_type
value_from r from (Some b) row column =
    let d = r.dataset in
    value_at (range b (cell_offset d row column - touched_from d (row / d.layout.chunk_rows) (column / d.layout.chunk_cols) from) d.int_type.size) d.int_type

-- the values of the rows from `from` up to but not including `to`, one after another, from the ranges of their chunks
abbrev pub values_from : Reading → ℕ → ℕ → List (Option (List ℕ)) → List ℤ
values_from r from to ranges =
    map (λ k. let row = k / r.dataset.shape.cols in
    let column = k % r.dataset.shape.cols in
    value_from r from
    (slice_index_or ranges ((row / r.dataset.layout.chunk_rows - from / r.dataset.layout.chunk_rows) * chunks_across r.dataset + column / r.dataset.layout.chunk_cols) None)
    row column)
    (range_with_len (from * r.dataset.shape.cols) ((to - from) * r.dataset.shape.cols))

-- a call for `count` rows from `from` on, of a reader that knows its chunks; at least one row is asked for
abbrev pub values_call : Reading → ℕ → ℕ → Prog (Result (List ℤ) ReadError)
values_call r from count =
    lowered 0 [] (and_then (each_of (λ k. chunk_range r k.0 k.1 from (from + count)) (touched_keys r from (from + count)))
    (λ ranges. ret (Ok (values_from r from (from + count) ranges))))
