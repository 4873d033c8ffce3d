-- What rows that are written early take, by the load of their log.
use Rattle.std.proofs.Common.{◌≡◌, ℕ, ◌+◌, ◌-◌, ◌*◌, ◌≤◌, false, List, [], ◌++◌, length, length-append, take, None, ap, ◌∙◌, arith}
use Rattle.std.proofs.lemmas.List.{length-take}
use Rattle.std.proofs.Math.Nat.{mul-le-mul_right}
use Rattle.h5w_model.specs.Lawful.{first_outside}
use Rattle.h5w_model.specs.Logs.{Log, load}
use Rattle.h5w_model.specs.Datasets.{Described}
use Rattle.h5w_model.specs.Findings.{chunk_bytes}
use Rattle.h5w_types.proofs.RunLemmas.{length-run_bytes}
use Rattle.h5w_chunks.specs.Grids.{chunk_len}
use Rattle.h5w_chunks.specs.Shares.{touched}
use Rattle.h5w_index.specs.Marks.{IsRaised}
use Rattle.h5w_index.proofs.RaisedLemmas.{raised_more}
use Rattle.h5w_pieces.specs.NextPlaces.{next_places}
use Rattle.h5w_writer.specs.Early.{WritesEarly, dirty_of}
use Rattle.h5w_writer.specs.Sessions.{Session, cutting_of, next_row, row_bytes, rows_of}
use Rattle.h5w_writer.specs.Stands.{Running, Stands}
use Rattle.h5w_writer.proofs.EarlyBytes.{length_next, touched_behind, touched_more, unwritten_low}
use Rattle.h5w_writer.proofs.ValueLemmas.{others_fit}
use Rattle.h5w_writer.proofs.LoadLemmas.{Counts, counted, load_is, more_times}
use Rattle.h5w_pieces.proofs.PieceBounds.{new_writes_few}
use Rattle.h5w_writer.proofs.StandLemmas.{none_anywhere}

-- ---- By the load

module _ (s : Session) (log : Log) (running : s.stopped ≡ false) (idle : s.pending ≡ []) (st : Stands s log) (r : Running s [] log) where
  abbrev d : Described
  d = s.dataset

  counts : Counts s
  counts = counted s r.past.counted

  -- so many chunks of some rows that wait are within it
  within_load : (n : ℕ) → n ≤ touched d d.shape.rows (rows_of s) → n * chunk_bytes d + 1000 ≤ load (cutting_of s) log
  within_load n few =
      let all = mul-le-mul_right (chunk_bytes d) few in
      let split = more_times (touched d d.shape.rows (rows_of s)) (chunk_bytes d) in
      omega (arith, load_is s log running idle st, all, split)

  pub dirty_low : length s.header ≤ 512 → dirty_of s ≤ load (cutting_of s) log
  dirty_low short =
      let low = unwritten_low d (next_row s) (rows_of s) counts.cut in
      let some = counts.cut.rows in
      let few = touched_behind d d.shape.rows (next_row s) (rows_of s) some (omega arith) in
      let top = within_load (touched d (next_row s) (rows_of s)) few in
      let same : touched d (next_row s) (rows_of s) * chunk_len d ≡ touched d (next_row s) (rows_of s) * chunk_bytes d = ap (λ k. touched d (next_row s) (rows_of s) * k) counts.same in
      omega (arith, low, top, same, short)

  module _ (t : Session) (x : WritesEarly s t) where
    early_few : length x.taken.later ≤ touched d d.shape.rows (rows_of s)
    early_few =
        let more = touched_more d d.shape.rows x.to (rows_of s) counts.cut.rows x.bound in
        omega (arith, ap length x.taken.all, later_few s.chunks x.taken.later, x.all, more)
      where
        later_few : {A : Type 0} (xs ys : List A) → length ys ≤ length (xs ++ ys)
        later_few xs ys = omega (arith, length-append xs ys)

    -- their pieces
    pub early_pieces : length t.pending ≤ load (cutting_of s) log
    early_pieces =
        let some = x.some in
        let cells = take ((x.to - next_row s) * row_bytes d) s.waiting in
        let places = next_places d d.shape.rows (next_row s) t.chunks in
        let each : length places ≡ touched d (next_row s) x.to = length_next d d.shape.rows (next_row s) x.to t.chunks counts.cut.rows (omega arith) some x.all in
        let few = new_writes_few d cells (next_row s) x.to places counts.cut count each in
        let more = touched_more d (next_row s) x.to (rows_of s) counts.cut.rows x.bound in
        let front = touched_behind d d.shape.rows (next_row s) (rows_of s) counts.cut.rows (omega arith) in
        let top = within_load (touched d (next_row s) x.to) (omega (arith, more, front)) in
        let size : length places * chunk_len d ≡ touched d (next_row s) x.to * chunk_bytes d = ap (λ k. k * chunk_len d) each ∙ ap (λ k. touched d (next_row s) x.to * k) counts.same in
        omega (arith, ap length x.exact, few, size, top)
      where
        count : length (take ((x.to - next_row s) * row_bytes d) s.waiting) ≡ (x.to - next_row s) * d.shape.cols * d.int_type.size
        count =
            let bound = x.bound in
            let low = x.some in
            let own : first_outside d.int_type 0 r.more ≡ None = let o = others_fit d.int_type 0 r.early r.more r.fit in none_anywhere d.int_type o.0 0 r.more o.1 in
            let all : length s.waiting ≡ (s.waits - s.early) * d.shape.cols * d.int_type.size = ap length r.waiting ∙ length-run_bytes d.int_type 0 r.more own ∙ ap (λ k. k * d.int_type.size) r.count in
            let part : (x.to - next_row s) * row_bytes d ≤ (s.waits - s.early) * row_bytes d = mul-le-mul_right (row_bytes d) (let less : x.to - next_row s ≤ s.waits - s.early = omega (arith, bound, low) in less) in
            let regroup : (s.waits - s.early) * row_bytes d ≡ (s.waits - s.early) * d.shape.cols * d.int_type.size = omega arith in
            let own_bytes : (x.to - next_row s) * row_bytes d ≡ (x.to - next_row s) * d.shape.cols * d.int_type.size = omega arith in
            length-take ((x.to - next_row s) * row_bytes d) s.waiting ∙ omega (arith, all, part, regroup, own_bytes)

    pub early_raised : IsRaised s.places t.places (load (cutting_of s) log)
    early_raised = raised_more s.places t.places (length x.taken.later * chunk_bytes d) (load (cutting_of s) log) (let top = within_load (length x.taken.later) early_few in omega (arith, top)) x.taken.raised
