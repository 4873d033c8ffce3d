-- After a flush each needed chunk has an address, where each had one before.
use Rattle.std.proofs.Common.{◌≡◌, ◌≢◌, ℕ, zero, suc, ◌+◌, ◌-◌, ◌*◌, ◌/◌, ◌<◌, ◌≤◌, List, [], ℤ, get_or, false, sym, ap, ◌∙◌, subst, inl, inr, arith}
use Rattle.std.specs.Prelude.{map}
use Rattle.std.proofs.lemmas.Bool.{cases_lt}
use Rattle.std.proofs.lemmas.Nat.{le-div}
use Rattle.std.proofs.lemmas.Option.{slice_get-get_or}
use Rattle.std.proofs.Math.Nat.{div-zero, div-mul-le_self, mul-le-mul_right}
use Rattle.h5w_model.specs.Numbers.{undefined}
use Rattle.h5w_model.specs.Logs.{Log, div_up}
use Rattle.h5w_model.specs.Datasets.{Described}
use Rattle.h5w_model.specs.Tables.{chunks_across, index_key, needed, needed_keys}
use Rattle.h5w_model.specs.declared.cell.Key.{Key}
use Rattle.h5w_chunks.specs.Shares.{touched, touched_key}
use Rattle.h5w_chunks.specs.declared.grid.ChunkPlace.{ChunkPlace}
use Rattle.h5w_chunks.proofs.KeyLemmas.{bands_between, line_high}
use Rattle.h5w_space.specs.Space.{Space}
use Rattle.h5w_step_laws.specs.Moments.{reading_of}
use Rattle.h5w_step_laws.specs.Logs.{image_now}
use Rattle.h5w_step_laws.proofs.MomentLemmas.{few}
use Rattle.h5w_flush_laws.proofs.KeyLemmas.{found_table, needed_at}
use Rattle.h5w_flush_laws.proofs.NewChunkLemmas.{touched_is}
use Rattle.h5w_first_flush_laws.specs.FirstFlushes.{no_chunk}
use Rattle.h5w_index.specs.Views.{IndexView, address_in}
use Rattle.h5w_writer.specs.Sessions.{Session, rows_of}
use Rattle.h5w_writer.specs.Flushes.{ArePlanned, IsFlushed}
use Rattle.h5w_writer.specs.Starts.{IsStartFlushed}
use Rattle.h5w_writer.specs.Past.{AllAddressed}
use Rattle.h5w_writer.specs.Stands.{Running}
use Rattle.h5w_writer.proofs.FlushLemmas.{after_flush, index_now, others_then, placed_then}
use Rattle.h5w_writer.proofs.StartKinds.{first_named}

band_low : (n per : ℕ) → n / per ≤ div_up n per
band_low n zero = omega (arith, div-zero n, div-zero (n + 0 - 1))
band_low n (suc per) = le-div (n / suc per) (n + suc per - 1) (suc per) (omega arith) (omega (arith, div-mul-le_self n (suc per)))

-- a number below the first of two is below the second
below_more : (n a b : ℕ) → n < a → a ≤ b → n < b
below_more n a b low more = omega (arith, low, more)

-- a number counted from the first of some
counted_from : (n before all own : ℕ) → n < all → before ≤ n → own ≡ all - before → n - before < own
counted_from n before all own low high is = omega (arith, low, high, is)

back : (n before : ℕ) → before ≤ n → before + (n - before) ≡ n
back n before high = omega (arith, high)

no_place : ChunkPlace
no_place = record { address = 0; stored = false }

-- of a flush over an index and places
module _ (s : Session) (v : IndexView) (first : Space) (w : IndexView) (t : Space) (x : ArePlanned s v first w t) where
  abbrev d : Described
  d = s.dataset

  -- the chunks of the bands before that of the next row
  abbrev before : ℕ
  before = d.shape.rows / d.layout.chunk_rows * chunks_across d

  -- of one that the new rows go into
  touched_defined : (k : ℕ) → k < touched d d.shape.rows (rows_of s) → address_in w (touched_key d d.shape.rows k) ≢ undefined
  touched_defined k low e =
      let found = slice_get-get_or x.chunks k no_place (omega (arith, low, x.all)) in
      let placed = placed_then s v first w t x k (get_or x.chunks k no_place) found in
      placed.defined (sym placed.named ∙ e)

  pub number_defined : ((n : ℕ) → n < needed d → address_in v (index_key d n) ≢ undefined) → (n : ℕ) → n < div_up (rows_of s) d.layout.chunk_rows * chunks_across d → address_in w (index_key d n) ≢ undefined
  number_defined each n low =
      elim (cases_lt n before) [
        | inl less ↦ λ e.
            let more : before ≤ needed d = mul-le-mul_right (chunks_across d) (band_low d.shape.rows d.layout.chunk_rows) in
            let kept = others_then s v first w t x (index_key d n) (inl (line_high d (d.shape.rows / d.layout.chunk_rows) n x.fits.some less)) in
            each n (below_more n before (needed d) less more) (sym kept ∙ e)
        | inr more ↦ λ e.
            let some : d.shape.rows < rows_of s = let waits = x.some in omega arith in
            let bands : ℕ = div_up (rows_of s) d.layout.chunk_rows in
            let own : touched d d.shape.rows (rows_of s) ≡ bands * chunks_across d - before = touched_is d d.shape.rows (rows_of s) some ∙ bands_between (d.shape.rows / d.layout.chunk_rows) bands (chunks_across d) in
            touched_defined (n - before) (counted_from n before (bands * chunks_across d) (touched d d.shape.rows (rows_of s)) low more own)
            (ap (λ (m : ℕ). address_in w (index_key d m)) (back n before more) ∙ e)
      ]

-- of a chunk that the file had before
module _ (s : Session) (log : Log) (r : Running s [] log) (bare : log.values ≡ []) where
  pub before_defined : (n : ℕ) → n < needed s.dataset → r.address (index_key s.dataset n) ≢ undefined
  before_defined =
      let f : Described = r.after.dataset in
      let table : r.after.table ≡ map r.address (needed_keys f) = found_table (image_now log) f r.address r.after.table (few (image_now log) s.name r.after r.knows.file) r.knows.index r.knows.file.table in
      subst (λ (d : Described). (n : ℕ) → n < needed d → r.address (index_key d n) ≢ undefined) r.keeps.dataset
      (λ n low e. r.past.next bare n low (ap (λ (t : List ℕ). get_or t n undefined) table ∙ needed_at r.address f n low ∙ e))

-- ---- A flush into an index that is there

module _ (old new : Session) (log : Log) (x : IsFlushed old new) (r : Running old [] log) (bare : log.values ≡ []) where
  pub next_addressed : AllAddressed (reading_of (after_flush old new log x r))
  next_addressed k below e =
      let d : Described = old.dataset in
      let f : Described = (after_flush old new log x r).dataset in
      let map_then : Key → ℕ = λ key. address_in new.index key in
      let same : r.after.dataset ≡ d = r.keeps.dataset in
      let low : k < div_up (rows_of old) d.layout.chunk_rows * chunks_across d = subst (λ (g : Described). k < div_up (rows_of old) g.layout.chunk_rows * chunks_across g) same below in
      let each : (n : ℕ) → n < needed d → address_in old.index (index_key d n) ≢ undefined = λ n there g. before_defined old log r bare n there ((index_now old new log x r).map (index_key d n) ∙ g) in
      number_defined old old.index old.places new.index new.places x.planned each k low
      (ap (λ (g : Described). address_in new.index (index_key g k)) (sym same) ∙ sym (needed_at map_then f k below) ∙ e)

-- ---- A first flush

-- an index that is not there has no chunk, so none was needed
module _ (old new : Session) (log : Log) (x : IsStartFlushed old new) (r : Running old [] log) (bare : log.values ≡ []) (blank : r.address ≡ no_chunk) where
  start_each : (n : ℕ) → n < needed old.dataset → address_in x.made (index_key old.dataset n) ≢ undefined
  start_each n there e = before_defined old log r bare n there (ap (λ (f : Key → ℕ). f (index_key old.dataset n)) blank)

  pub start_addressed : (more : List ℤ) → AllAddressed (reading_of (first_named r.after x.naming new.index (rows_of old) more new.places.end))
  start_addressed more k below e =
      let d : Described = old.dataset in
      let f : Described = (first_named r.after x.naming new.index (rows_of old) more new.places.end).dataset in
      let map_then : Key → ℕ = λ key. address_in new.index key in
      let same : r.after.dataset ≡ d = r.keeps.dataset in
      let low : k < div_up (rows_of old) d.layout.chunk_rows * chunks_across d = subst (λ (g : Described). k < div_up (rows_of old) g.layout.chunk_rows * chunks_across g) same below in
      number_defined old x.made x.first new.index new.places x.planned start_each k low
      (ap (λ (g : Described). address_in new.index (index_key g k)) (sym same) ∙ sym (needed_at map_then f k below) ∙ e)
