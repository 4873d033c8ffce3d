-- Calls for values.
use Rattle.std.proofs.Common.{◌≡◌, ◌≢◌, ℕ, ◌+◌, ◌-◌, ◌*◌, ◌^◌, ◌<◌, ◌≤◌, cond, List, [], ◌∷◌, length, take, drop, Option, Some, None, Result, Ok, Err, sym, ◌∙◌, ap, subst, arith}
use Rattle.std.specs.Prelude.{◌==◌, ℤ, nat_lt}
use Rattle.std.specs.List.{AllByRecursion}
use Rattle.std.proofs.lemmas.Bool.{cond_both, cond-false, eqb-true, eqb-false, le-ltb}
use Rattle.h5w_model.specs.Numbers.{range, undefined}
use Rattle.h5w_model.specs.Integers.{value_at}
use Rattle.h5w_model.specs.Programs.{Prog, ret, whole, counted, and_then, lowered, Takes}
use Rattle.h5w_model.specs.Logs.{Log, hist, appended}
use Rattle.h5w_model.specs.Datasets.{Described}
use Rattle.h5w_model.specs.Tables.{Reading, cell, cell_offset, chunk_address, each_of}
use Rattle.h5w_model.specs.Prefixed.{image_at}
use Rattle.h5w_model.specs.Readers.{Placed, IsCall, looks_of}
use Rattle.h5w_model.specs.Calls.{first_in_band, last_in_band, last_column, touched_from, touched_to, none_of, chunk_range, touched_keys, values_from, values_call}
use Rattle.h5w_model.specs.declared.refusal.ReadError.{ReadError}
use Rattle.h5w_model.specs.declared.refusal.ReadError.TheVariants.{Damaged}
use Rattle.h5w_model.specs.declared.refusal.BlockFault.TheVariants.{Cut}
use Rattle.h5w_laws.proofs.LookLemmas.{takes_ret}
use Rattle.h5w_reader_laws.specs.Headline.{Served, ReadsValues}
use Rattle.h5w_reader_laws.proofs.MomentLemmas.{Moment, moment, shown_is}
use Rattle.h5w_reader_laws.proofs.BlockLemmas.{onward}
use Rattle.h5w_reader_laws.proofs.SpanLemmas.{and_then_twice}
use Rattle.h5w_reader_laws.proofs.KeyLemmas.{Sound, sound_shown}
use Rattle.h5w_reader_laws.proofs.ChunkLemmas.{IsBand, IsTouched, corners, cell_in_range}
use Rattle.h5w_reader_laws.proofs.CellLemmas.{has_value, IsValueAt, cell_later}
use Rattle.h5w_reader_laws.proofs.PieceLemmas.{HasRange, cut_read}
use Rattle.h5w_reader_laws.proofs.RangeLemmas.{some_size, same_address, IsPart, none_part, some_part, Parts, keys_touched, values_told}

-- ---- One chunk

-- a reading that was shown before a call, and rows of it
record Asked (name : List ℕ) (log : Log) (p from first to : ℕ) : Type 0 where
  served : Served name log
  here : Moment name log p
  before : p ≤ from
  some : first < to
  within : to ≤ here.shown.dataset.shape.rows

sound : (name : List ℕ) (log : Log) (p : ℕ) (m : Moment name log p) → Sound m.shown.dataset
sound name log p m = sound_shown (image_at log p) name m.shown.place m.shown.dataset m.steps.place m.steps.header

record ChunkTaken (B : Type 0) (name : List ℕ) (log : Log) (p from first to : ℕ) (m : Moment name log p) (key : ℕ × ℕ) (f : Option (List ℕ) → Prog (Result B ReadError)) (a : Result B ReadError) : Type 0 where
  part : Option (List ℕ)
  is : IsPart (image_at log p) m.shown first to key part
  rest : List Placed
  call : IsCall log from rest
  takes : Takes (lowered 0 [] (f part)) (looks_of rest) a

-- the moment of a position from the call's beginning on
later_moment : (name : List ℕ) (log : Log) (p u : ℕ) (m : Moment name log p) → Served name log → p ≤ u → u ≤ length (hist log.events) → Moment name log u
later_moment name log p u m served low high = moment name log u served (record { begun = omega (arith, m.position.begun); reached = high })

-- where the cell of touched rows and its value are at each later position
cell_is : (name : List ℕ) (log : Log) (p from first to i j u row col : ℕ) (v : ℤ) (q : Asked name log p from first to) → p ≤ u → u ≤ length (hist log.events)
    → row < to → col < q.here.shown.dataset.shape.cols → IsBand i q.here.shown.dataset.layout.chunk_rows row → IsBand j q.here.shown.dataset.layout.chunk_cols col
    → chunk_address q.here.shown (i * q.here.shown.dataset.layout.chunk_rows) (j * q.here.shown.dataset.layout.chunk_cols) ≢ undefined
    → cell (image_at log p) q.here.shown row col ≡ Some v
    → IsValueAt (image_at log u) q.here.shown.dataset
    (chunk_address q.here.shown (i * q.here.shown.dataset.layout.chunk_rows) (j * q.here.shown.dataset.layout.chunk_cols) + cell_offset q.here.shown.dataset row col) v
cell_is name log p from first to i j u row col v q low high below inside rows cols defined shown =
    let r : Reading = q.here.shown in
    let d : Described = r.dataset in
    let good = sound name log p q.here in
    let is : chunk_address r row col ≡ chunk_address r (i * d.layout.chunk_rows) (j * d.layout.chunk_cols) = same_address r i j row col good.rows good.cols rows cols in
    let size : 0 < d.int_type.size = some_size d.int_type.size good.size in
    subst (λ a. IsValueAt (image_at log u) d (a + cell_offset d row col) v) is
    (cell_later name log p u q.here (later_moment name log p u q.here q.served low high) row col v q.served low (omega (arith, q.within)) inside size (λ n. defined (sym is ∙ n)) shown)

-- no image ends before the range of a touched chunk does
range_there : (name : List ℕ) (log : Log) (p from first to i j u : ℕ) (q : Asked name log p from first to) → p ≤ u → u ≤ length (hist log.events)
    → IsTouched q.here.shown.dataset first to i j
    → chunk_address q.here.shown (i * q.here.shown.dataset.layout.chunk_rows) (j * q.here.shown.dataset.layout.chunk_cols) ≢ undefined
    → chunk_address q.here.shown (i * q.here.shown.dataset.layout.chunk_rows) (j * q.here.shown.dataset.layout.chunk_cols) + touched_from q.here.shown.dataset i j first
    + (touched_to q.here.shown.dataset i j to - touched_from q.here.shown.dataset i j first) ≤ length (image_at log u)
range_there name log p from first to i j u q low high touched defined =
    let d : Described = q.here.shown.dataset in
    let good = sound name log p q.here in
    let c = corners d first to i j good q.some touched in
    let row : ℕ = last_in_band d i to - 1 in
    let col : ℕ = last_column d j - 1 in
    let value = has_value name log p q.here row col (omega (arith, c.below, q.within)) c.inside in
    let v = cell_is name log p from first to i j u row col value.value q low high c.below c.inside c.last_row c.last_col defined value.shown in
    let at_row : ℕ = first_in_band d i first in
    let first_cell = cell_in_range d first to i j row col good q.some touched (omega (arith, c.first_row.high, c.last_row.low, q.some)) c.below c.inside c.last_row c.last_col in
    omega (arith, v.inside, first_cell.above)

chunk_taken : {B : Type 0} (name : List ℕ) (log : Log) (p from first to i j : ℕ) (q : Asked name log p from first to) (f : Option (List ℕ) → Prog (Result B ReadError)) (ts : List Placed) (a : Result B ReadError)
    → IsTouched q.here.shown.dataset first to i j → IsCall log from ts
    → Takes (lowered 0 [] (and_then (chunk_range q.here.shown i j first to) f)) (looks_of ts) a → ChunkTaken B name log p from first to q.here (i, j) f a
chunk_taken {B} name log p from first to i j q f ts a touched call takes =
    let r : Reading = q.here.shown in
    let d : Described = r.dataset in
    let address : ℕ = chunk_address r (i * d.layout.chunk_rows) (j * d.layout.chunk_cols) in
    let start : ℕ = touched_from d i j first in
    let len : ℕ = touched_to d i j to - start in
    let told : List ℕ → Result (Option (List ℕ)) ReadError = λ b. cond (nat_lt (length b) len) (Err (Damaged (address + start) (Cut len (length b)))) (Ok (Some b)) in
    let reads : Prog (Result (Option (List ℕ)) ReadError) = whole (address + start) len (λ b. ret (told b)) in
    let refuses : Prog (Result (Option (List ℕ)) ReadError) = counted address none_of (λ b. ret (Err (Damaged address (Cut len 0)))) in
    cond_both (address == undefined) (ret (Ok None)) (cond (nat_lt (2 ^ 64) (address + start + len)) refuses reads)
    (λ (x : Prog (Result (Option (List ℕ)) ReadError)). Takes (lowered 0 [] (and_then x f)) (looks_of ts) a → ChunkTaken B name log p from first to q.here (i, j) f a)
    (λ none s. record { part = None; is = none_part (image_at log p) r first to i j (sound name log p q.here) (eqb-true address undefined none); rest = ts; call = call; takes = s })
    (λ there s.
    let defined : address ≢ undefined = eqb-false address undefined there in
    let here : address + start + len ≤ length (image_at log p) = range_there name log p from first to i j p q (omega arith) q.here.position.reached touched defined in
    let fits : address + start + len ≤ 2 ^ 64 = omega (arith, here, q.here.fits) in
    let goes = subst (λ (x : Prog (Result (Option (List ℕ)) ReadError)). Takes (lowered 0 [] (and_then x f)) (looks_of ts) a)
    (cond-false (nat_lt (2 ^ 64) (address + start + len)) refuses reads (le-ltb (2 ^ 64) (address + start + len) fits)) s in
    let has : HasRange log from (address + start) len = (λ u low high. range_there name log p from first to i j u q (omega (arith, q.before)) high touched defined) in
    let read = cut_read log from (address + start) len (λ b. lowered 0 [] (onward f (told b))) ts a fits call has goes in
    let all : told read.bytes ≡ Ok (Some read.bytes) =
    cond-false (nat_lt (length read.bytes) len) (Err (Damaged (address + start) (Cut len (length read.bytes)))) (Ok (Some read.bytes))
    (le-ltb (length read.bytes) len (omega (arith, read.full))) in
    record {
      part = Some read.bytes;
      is = some_part (image_at log p) r first to i j read.bytes (λ row col v low high inside rows cols shown.
          let good = sound name log p q.here in
          let size : ℕ = d.int_type.size in
          let offset : ℕ = cell_offset d row col in
          let c = cell_in_range d first to i j row col good q.some touched low high inside rows cols in
          let at = read.parts c.look (offset - start) size (some_size size good.size) c.low c.high c.within in
          let there_too = cell_is name log p from first to i j at.at row col v q (omega (arith, at.low, q.before)) at.high high inside rows cols defined shown in
          let place : address + start + (offset - start) ≡ address + offset = omega (arith, c.above) in
          ap (λ (b : List ℕ). value_at b d.int_type) (at.is ∙ ap (λ x. range (image_at log at.at) x size) place) ∙ there_too.is);
      rest = read.rest;
      call = read.call;
      takes = subst (λ (x : Result (Option (List ℕ)) ReadError). Takes (lowered 0 [] (onward f x)) (looks_of read.rest) a) all read.takes;
    })
    takes

-- ---- All touched chunks

record ChunksTaken (B : Type 0) (name : List ℕ) (log : Log) (p from first to : ℕ) (m : Moment name log p) (keys : List (ℕ × ℕ)) (f : List (Option (List ℕ)) → Prog (Result B ReadError)) (a : Result B ReadError) : Type 0 where
  ranges : List (Option (List ℕ))
  are : Parts (image_at log p) m.shown first to keys ranges
  rest : List Placed
  call : IsCall log from rest
  takes : Takes (lowered 0 [] (f ranges)) (looks_of rest) a

chunks_taken : {B : Type 0} (name : List ℕ) (log : Log) (p from first to : ℕ) (q : Asked name log p from first to) (keys : List (ℕ × ℕ)) (f : List (Option (List ℕ)) → Prog (Result B ReadError)) (ts : List Placed) (a : Result B ReadError)
    → AllByRecursion (λ k. IsTouched q.here.shown.dataset first to k.0 k.1) keys → IsCall log from ts
    → Takes (lowered 0 [] (and_then (each_of (λ k. chunk_range q.here.shown k.0 k.1 first to) keys) f)) (looks_of ts) a → ChunksTaken B name log p from first to q.here keys f a
chunks_taken name log p from first to q [] f ts a touched call takes = record { ranges = []; are = tt; rest = ts; call = call; takes = takes }
chunks_taken {B} name log p from first to q (k ∷ ks) f ts a touched call takes =
    let each : ℕ × ℕ → Prog (Result (Option (List ℕ)) ReadError) = λ k. chunk_range q.here.shown k.0 k.1 first to in
    let later : Option (List ℕ) → Prog (Result (List (Option (List ℕ))) ReadError) = λ o. and_then (each_of each ks) (λ os. ret (Ok (o ∷ os))) in
    let one = chunk_taken name log p from first to k.0 k.1 q (λ o. and_then (later o) f) ts a touched.0 call
    (subst (λ (x : Prog (Result B ReadError)). Takes (lowered 0 [] x) (looks_of ts) a) (and_then_twice (each k) later f) takes) in
    let others = chunks_taken name log p from first to q ks (λ os. f (one.part ∷ os)) one.rest a touched.1 one.call
    (subst (λ (x : Prog (Result B ReadError)). Takes (lowered 0 [] x) (looks_of one.rest) a) (and_then_twice (each_of each ks) (λ os. ret (Ok (one.part ∷ os))) f) one.takes) in
    record { ranges = one.part ∷ others.ranges; are = (one.is, others.are); rest = others.rest; call = others.call; takes = others.takes }

-- ---- The values

values_read : (name : List ℕ) (log : Log) (p from first to : ℕ) (q : Asked name log p from first to) (ts : List Placed) (a : Result (List ℤ) ReadError) → IsCall log from ts
    → Takes (lowered 0 [] (and_then (each_of (λ k. chunk_range q.here.shown k.0 k.1 first to) (touched_keys q.here.shown first to)) (λ ranges. ret (Ok (values_from q.here.shown first to ranges))))) (looks_of ts) a
    → a ≡ Ok (take ((to - first) * q.here.shown.dataset.shape.cols) (drop (first * q.here.shown.dataset.shape.cols) (appended log)))
values_read name log p from first to q ts a call takes =
    let r : Reading = q.here.shown in
    let d : Described = r.dataset in
    let cols : ℕ = d.shape.cols in
    let c = chunks_taken name log p from first to q (touched_keys r first to) (λ ranges. ret (Ok (values_from r first to ranges))) ts a
    (keys_touched d first to q.some (sound name log p q.here)) call takes in
    let told : a ≡ Ok (values_from r first to c.ranges) = (takes_ret (Ok (values_from r first to c.ranges)) (looks_of c.rest) a c.takes).1 in
    told ∙ ap Ok (values_told (image_at log p) r (appended log) first to c.ranges (sound name log p q.here) q.some
    (λ row col from low inside. has_value name log p q.here row col (omega (arith, q.within)) inside) c.are)

pub reads_values : ReadsValues
reads_values name log seen r from first count ls a served at before shows call some within takes =
    let m = moment name log seen served at in
    let is : r ≡ m.shown = shown_is name log seen m r shows in
    let q : Asked name log seen from first (first + count) = record {
      served = served;
      here = m;
      before = before;
      some = omega arith;
      within = subst (λ (x : Reading). first + count ≤ x.dataset.shape.rows) is within;
    } in
    let n : first + count - first ≡ count = omega arith in
    subst (λ (x : Reading). a ≡ Ok (take (count * x.dataset.shape.cols) (drop (first * x.dataset.shape.cols) (appended log)))) (sym is)
    (values_read name log seen from first (first + count) q ls a call (subst (λ (x : Reading). Takes (values_call x first count) (looks_of ls) a) is takes)
    ∙ ap (λ k. Ok (take (k * m.shown.dataset.shape.cols) (drop (first * m.shown.dataset.shape.cols) (appended log)))) n)
