-- How many looks a read of values takes before its answer.
use Rattle.std.proofs.Common.{◌≡◌, ℕ, ◌+◌, ◌-◌, ◌*◌, ◌/◌, ◌%◌, ◌^◌, ◌<◌, ◌≤◌, cond, List, [], ◌∷◌, ◌++◌, length, Option, Some, None, Result, Ok, Err, sym, ◌∙◌, ap, subst, arith, length-append}
use Rattle.std.specs.Prelude.{◌==◌, nat_lt, ℤ}
use Rattle.std.specs.List.{AllByRecursion}
use Rattle.std.proofs.lemmas.Bool.{cond_both, cond-true, lt-ltb}
use Rattle.std.proofs.Math.Nat.{add-zero, mul-le-mul_right, mod-lt, div-mul-le_self, lt-div-mul-add}
use Rattle.h5w_model.specs.Numbers.{undefined}
use Rattle.h5w_model.specs.Programs.{Prog, ret, whole, counted, and_then}
use Rattle.h5w_model.specs.Logs.{div_up, touched_chunks}
use Rattle.h5w_model.specs.Datasets.{Described}
use Rattle.h5w_model.specs.Tables.{Reading, format_limits, chunks_across, chunk_address, each_of}
use Rattle.h5w_model.specs.Calls.{last_in_band, last_column, touched_from, touched_to, none_of, chunk_range, touched_keys, values_from, values_call}
use Rattle.h5w_model.specs.declared.refusal.ReadError.{ReadError}
use Rattle.h5w_model.specs.declared.refusal.ReadError.TheVariants.{Damaged}
use Rattle.h5w_model.specs.declared.refusal.BlockFault.TheVariants.{Cut}
use Rattle.h5w_laws.specs.Programs.{looks_on}
use Rattle.h5w_laws.proofs.LookLemmas.{plain_lowered, plain_rest, lowered_ends}
use Rattle.h5w_reader_laws.specs.Bounds.{cutting_of, ReadsInLooks}
use Rattle.h5w_reader_laws.proofs.MomentLemmas.{steps}
use Rattle.h5w_reader_laws.proofs.KeyLemmas.{sound_shown}
use Rattle.h5w_reader_laws.proofs.ChunkLemmas.{quotient_is}
use Rattle.h5w_reader_laws.proofs.CountLemmas.{AtMost, AnyOf, at_most_then, at_most_each, any_answered, taken_at_most}
use Rattle.h5w_reader_laws.proofs.EndLemmas.{looks_left}
use Rattle.h5w_reader_laws.proofs.DescentLemmas.{grid_length}

-- a cell ends within its chunk
within_chunk : (rows cols size row col : ℕ) → 0 < rows → 0 < cols → (row % rows * cols + col % cols) * size + size ≤ rows * cols * size
within_chunk rows cols size row col some_rows some_cols =
    let a : row % rows + 1 ≤ rows = let l : row % rows < rows = mod-lt row some_rows in omega arith in
    let b : (row % rows + 1) * cols ≤ rows * cols = mul-le-mul_right cols a in
    let c : col % cols < cols = mod-lt col some_cols in
    let e : row % rows * cols + col % cols + 1 ≤ rows * cols = omega arith in
    let f : (row % rows * cols + col % cols + 1) * size ≤ rows * cols * size = mul-le-mul_right size e in
    omega arith

chunk_looks : (r : Reading) (i j first to : ℕ) → 0 < r.dataset.layout.chunk_rows → 0 < r.dataset.layout.chunk_cols
    → AtMost AnyOf (r.dataset.layout.chunk_rows * r.dataset.layout.chunk_cols * r.dataset.int_type.size / 512 + 1) (chunk_range r i j first to)
chunk_looks r i j first to rows cols =
    let d : Described = r.dataset in
    let all : ℕ = d.layout.chunk_rows * d.layout.chunk_cols * d.int_type.size in
    let address : ℕ = chunk_address r (i * d.layout.chunk_rows) (j * d.layout.chunk_cols) in
    let start : ℕ = touched_from d i j first in
    let len : ℕ = touched_to d i j to - start in
    let few : touched_to d i j to ≤ all = within_chunk d.layout.chunk_rows d.layout.chunk_cols d.int_type.size (last_in_band d i to - 1) (last_column d j - 1) rows cols in
    let reads : Prog (Result (Option (List ℕ)) ReadError) =
    whole (address + start) len (λ b. ret (cond (nat_lt (length b) len) (Err (Damaged (address + start) (Cut len (length b)))) (Ok (Some b)))) in
    cond_both (address == undefined) (ret (Ok None)) (cond (nat_lt (2 ^ 64) (address + start + len)) (counted address none_of (λ b. ret (Err (Damaged address (Cut len 0))))) reads)
    (λ (p : Prog (Result (Option (List ℕ)) ReadError)). AtMost AnyOf (all / 512 + 1) p)
    (λ t. tt)
    (λ t. cond_both (nat_lt (2 ^ 64) (address + start + len)) (counted address none_of (λ b. ret (Err (Damaged address (Cut len 0))))) reads (λ (p : Prog (Result (Option (List ℕ)) ReadError)). AtMost AnyOf (all / 512 + 1) p)
    (λ u. (0, omega arith, λ b. tt)) (λ u. (0, omega arith, λ b. tt)))

all_any : {X : Type 0} (xs : List X) → AllByRecursion AnyOf xs
all_any [] = tt
all_any (x ∷ xs) = (tt, all_any xs)

-- rows up to one that is not counted, in bands
pub up_to : (to n : ℕ) → 0 < n → 0 < to → (to + n - 1) / n ≡ (to - 1) / n + 1
up_to to n some more =
    let q : ℕ = (to - 1) / n in
    let a : q * n ≤ to - 1 = div-mul-le_self (to - 1) n in
    let b : to - 1 < q * n + n = lt-div-mul-add {a = to - 1} some in
    quotient_is (q + 1) n (to + n - 1) (omega arith) (omega arith)

keys_length : (r : Reading) (first to : ℕ) → 0 < r.dataset.layout.chunk_rows → first < to → length (touched_keys r first to) ≡ touched_chunks (cutting_of r.dataset) first to
keys_length r first to some_rows some =
    let d : Described = r.dataset in
    let rows : ℕ = d.layout.chunk_rows in
    let across : ℕ = chunks_across d in
    grid_length {X = ℕ × ℕ} (λ i j. (i, j)) across (first / rows) ((to - 1) / rows + 1 - first / rows)
    ∙ ap (λ n. (n - first / rows) * across) (sym (up_to to rows some_rows (omega arith)))
    ∙ sym (cond-true (nat_lt first to) ((div_up to rows - first / rows) * across) 0 (lt-ltb first to some))

-- the looks at the touched chunks, each all of it
abbrev pub read_looks : Reading → ℕ → ℕ → ℕ
read_looks r first to = touched_chunks (cutting_of r.dataset) first to * (r.dataset.layout.chunk_rows * r.dataset.layout.chunk_cols * r.dataset.int_type.size / 512 + 1)

-- a read in ranges
abbrev pub values_read : Reading → ℕ → ℕ → Prog (Result (List ℤ) ReadError)
values_read r first to = and_then (each_of (λ k. chunk_range r k.0 k.1 first to) (touched_keys r first to)) (λ ranges. ret (Ok (values_from r first to ranges)))

-- a read of any reading whose chunks have rows and columns
pub read_few : (r : Reading) (first to : ℕ) → 0 < r.dataset.layout.chunk_rows → 0 < r.dataset.layout.chunk_cols → first < to → AtMost AnyOf (read_looks r first to) (values_read r first to)
read_few r first to rows cols some =
    let d : Described = r.dataset in
    let most : ℕ = d.layout.chunk_rows * d.layout.chunk_cols * d.int_type.size / 512 + 1 in
    let keys : List (ℕ × ℕ) = touched_keys r first to in
    let each : Prog (Result (List (Option (List ℕ))) ReadError) = each_of (λ k. chunk_range r k.0 k.1 first to) keys in
    let done : List (Option (List ℕ)) → Prog (Result (List ℤ) ReadError) = λ ranges. ret (Ok (values_from r first to ranges)) in
    let few : AtMost AnyOf (length keys * most + 0) (and_then each done) =
    at_most_then AnyOf (length keys * most) 0 each done
    (any_answered (length keys * most) each (at_most_each {K = ℕ × ℕ} (λ k. chunk_range r k.0 k.1 first to) AnyOf most keys (all_any keys) (λ k any. chunk_looks r k.0 k.1 first to rows cols)))
    (λ ranges any. tt) in
    let are : length keys * most + 0 ≡ read_looks r first to = ap (λ n. n * most + 0) (keys_length r first to rows some) ∙ add-zero (read_looks r first to) in
    subst (λ n. AtMost AnyOf n (and_then each done)) are few

pub reads_in_looks : ReadsInLooks
reads_in_looks img name r first count ls q shows some left unfinished =
    let to : ℕ = first + count in
    let s = steps format_limits img name r shows in
    let sound = sound_shown img name r.place r.dataset s.place s.header in
    let read : Prog (Result (List ℤ) ReadError) = values_read r first to in
    let few = read_few r first to sound.rows sound.cols (omega arith) in
    let all = taken_at_most AnyOf (read_looks r first to) 0 [] read (ls ++ looks_on [] q) _ few (lowered_ends [] 0 [] read ls q left) in
    let more = looks_left [] q (plain_rest (values_call r first count) ls q (plain_lowered 0 [] read) left) unfinished in
    omega (arith, all, more, length-append ls (looks_on [] q))
