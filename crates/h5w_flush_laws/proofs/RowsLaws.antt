-- New rows in chunks as a part of a flush.
use Rattle.std.proofs.Common.{◌≡◌, ◌≢◌, ◌⊎◌, ℕ, suc, ◌+◌, ◌-◌, ◌*◌, ◌/◌, ◌%◌, ◌<◌, ◌≤◌, Bool, true, false, eqb, List, [], ◌∷◌, ◌++◌, length, get_or, Some, sym, ◌∙◌, ap, subst, inl, inr, arith, length-append}
use Rattle.std.specs.Prelude.{ℤ, pos, slice_get}
use Rattle.std.proofs.lemmas.Bool.{cases_lt, cases_Bool}
use Rattle.std.proofs.lemmas.Bool.Decides.{eqb_tells}
use Rattle.std.proofs.lemmas.Option.{slice_get-get_or, slice_get_within}
use Rattle.h5w_model.specs.Numbers.{undefined}
use Rattle.h5w_model.specs.Images.{image, Apart, AllMiss, At}
use Rattle.h5w_model.specs.Integers.{cell_bytes_of}
use Rattle.h5w_model.specs.Logs.{div_up}
use Rattle.h5w_model.specs.Datasets.{Described}
use Rattle.h5w_model.specs.Tables.{bands, chunks_across, keys_across, cell_offset}
use Rattle.h5w_model.specs.Findings.{Used, chunk_bytes}
use Rattle.h5w_model.specs.Prefixed.{StaysDefined}
use Rattle.h5w_model.specs.declared.cell.Key.{Key}
use Rattle.h5w_model.proofs.ImageLemmas.{Apart-part, At-fits}
use Rattle.h5w_model.proofs.IntegerLemmas.{length-cell_bytes_of, value_at-cell_bytes_of}
use Rattle.h5w_chunks.specs.Grids.{cell_key, chunk_len, fill_cell, grid_number}
use Rattle.h5w_chunks.specs.Shares.{first_line, touched_band, touched_key, chunk_number}
use Rattle.h5w_chunks.specs.Rows.{IsChunkOf, IsOther, place_in}
use Rattle.h5w_chunks.specs.declared.grid.ChunkPlace.{ChunkPlace}
use Rattle.h5w_chunks.proofs.EarlyLemmas.{within_miss}
use Rattle.h5w_chunks.proofs.Geometry.{band_of_number, number_parts, quotient_of, row_is, div_grows}
use Rattle.h5w_chunks.proofs.KeyLemmas.{asked_is_touched, cell_before, cell_lines, cell_touched, first_line_grows, number_of}
use Rattle.h5w_step_laws.specs.Ranges.{Among, AreApart, chunk_at}
use Rattle.h5w_step_laws.specs.Indexes.{IsNamed}
use Rattle.h5w_step_laws.specs.Headers.{IsSized}
use Rattle.h5w_step_laws.specs.Needed.{AreFew}
use Rattle.h5w_space.specs.Space.{Space}
use Rattle.h5w_step_laws.specs.Files.{with_rows}
use Rattle.h5w_step_laws.specs.Moments.{Moment, all_used, Represents, HasCells, row_of, column_of, chunk_of, cell_place}
use Rattle.h5w_step_laws.proofs.MomentLemmas.{nested, cell_within, few, header_of, in_behind}
use Rattle.h5w_step_laws.proofs.PlanLaws.{plan_leads}
use Rattle.h5w_flush_laws.specs.Spaces.{Taken}
use Rattle.h5w_flush_laws.specs.Knowledge.{HeldMissed, IsAsked, IsOnce, Knows}
use Rattle.h5w_flush_laws.specs.Parts.{Parts, AllUnseen, committed, flushed_to}
use Rattle.h5w_flush_laws.specs.Rows.{new_chunks, ArePlaced, RowsFlush}
use Rattle.h5w_flush_laws.proofs.ChunkPlaceLemmas as chunk_places
use Rattle.h5w_flush_laws.proofs.KeyLemmas.{found_table}
use Rattle.h5w_flush_laws.proofs.EarlyLemmas.{unseen_each, unseen_stage}
use Rattle.h5w_flush_laws.proofs.OnceLaws.{file_once}
use Rattle.h5w_flush_laws.proofs.CellLemmas.{IsCell, below_up, cell_of_value, chunk_by, cell_by, first_values}
use Rattle.h5w_flush_laws.proofs.ValueLemmas.{fill_read, cell_there, cell_absent, cell_of}
use Rattle.h5w_flush_laws.proofs.NewChunkLemmas.{few_named, new_from, same_len, touched_parts}

-- ---- Numbers

pub row_parts : (from r cols column : ℕ) → (from + r) * cols + column ≡ from * cols + (r * cols + column)
row_parts from r cols column = grind arith

-- the last cell of a chunk ends with it
pub last_cell : (rows cols size : ℕ) → 0 < rows → 0 < cols → ((rows - 1) * cols + (cols - 1)) * size + size ≡ rows * cols * size
last_cell rows cols size some any =
    let r : ℕ = rows - 1 in
    let c : ℕ = cols - 1 in
    let is_rows : rows ≡ r + 1 = omega (arith, some) in
    let is_cols : cols ≡ c + 1 = omega (arith, any) in
    let step : (r * cols + c) * size + size ≡ (r * cols + (c + 1)) * size = grind arith in
    let whole : r * cols + cols ≡ (r + 1) * cols = grind arith in
    step ∙ ap (λ n. (r * cols + n) * size) (sym is_cols) ∙ ap (λ n. n * size) whole ∙ ap (λ n. n * cols * size) (sym is_rows)

pub later_values : (vs more : List ℤ) (i : ℕ) → slice_get (vs ++ more) (length vs + i) ≡ slice_get more i
later_values [] more i = ap (λ k. slice_get more k) (let e : 0 + i ≡ i = omega arith in e)
later_values (v ∷ vs) more i = ap (λ k. slice_get (v ∷ (vs ++ more)) k) (let e : suc (length vs) + i ≡ suc (length vs + i) = omega arith in e) ∙ later_values vs more i

-- the place of a key's chunk among those that the rows touch
pub record HasPlace (d : Described) (old address : Key → ℕ) (from : ℕ) (places : List ChunkPlace) (key : Key) : Type 0 where
  pub number : ℕ
  pub place : ChunkPlace
  pub found : slice_get places number ≡ Some place
  pub is : touched_key d from number ≡ key
  pub named : address key ≡ place.address
  pub defined : place.address ≢ undefined
  pub kept : StaysDefined (old key) place.address
  pub stored : place.stored ≡ true → old key ≢ undefined
  pub whole : place.stored ≡ false → old key ≢ undefined → from ≤ touched_band d from number * d.layout.chunk_rows

-- the cell of a row that is new, as it stands in an image
pub record OwnCell (img : List ℕ) (d : Described) (more : List ℤ) (from row column : ℕ) (p : ChunkPlace) : Type 0 where
  pub value : ℤ
  pub is : slice_get more ((row - from) * d.shape.cols + column) ≡ Some value
  pub bytes : List ℕ
  pub spelled : cell_bytes_of value d.int_type ≡ Some bytes
  pub there : At img (place_in d p row column) bytes

module _ (img name : List ℕ) (m : Moment) (old : Key → ℕ) (s t : Space) (f : Parts) (places : List ChunkPlace) (k : Knows img name m old s) (taken : Taken s f.chunks t) (rises : m.dataset.shape.rows < f.rows)
    (small : AreFew (with_rows f.rows m.dataset)) (count : length (m.values ++ f.more) ≡ f.rows * m.dataset.shape.cols) (a : ArePlaced img m old f places) where
  sized : IsSized m.dataset
  sized = (header_of img name m k.file).sized

  once : IsOnce m.dataset old
  once = file_once img name m old k.file k.index

  few_now : AreFew m.dataset
  few_now = few img name m k.file

  taken_new : Taken s (new_chunks m.dataset old m.dataset.shape.rows 0 places) t
  taken_new = subst (λ (us : List Used). Taken s us t) a.chunks taken

  keeps : (n : ℕ) (p : ChunkPlace) → slice_get places n ≡ Some p → StaysDefined (old (touched_key m.dataset m.dataset.shape.rows n)) p.address
  keeps n p found = (a.placed n p found).kept

  -- ---- The touched chunks

  number_asked : (n : ℕ) (p : ChunkPlace) → slice_get places n ≡ Some p → IsAsked m.dataset (touched_key m.dataset m.dataset.shape.rows n)
  number_asked = chunk_places.number_asked img name m old s t f.rows places k taken_new rises small a.all keeps

  old_chunk : (key : Key) → IsNamed m.dataset key → old key ≢ undefined → Among (chunk_at (old key) (chunk_bytes m.dataset)) m.behind
  old_chunk = chunk_places.old_chunk img name m old s t f.rows places k taken_new rises small a.all keeps

  -- each is apart from another range of the file
  place_off : (n : ℕ) (p : ChunkPlace) → slice_get places n ≡ Some p → (v : Used) → Among v (all_used m)
      → (old (touched_key m.dataset m.dataset.shape.rows n) ≢ undefined → chunk_at p.address (chunk_bytes m.dataset) ≢ v) → AreApart (chunk_at p.address (chunk_bytes m.dataset)) v
  place_off = chunk_places.place_off img name m old s t f.rows places k taken_new rises small a.all keeps

  -- and from what readers may hold
  place_off_held : (n : ℕ) (p : ChunkPlace) → slice_get places n ≡ Some p → (v : Used) → Among v k.held → v.chunk ≡ false → AreApart (chunk_at p.address (chunk_bytes m.dataset)) v
  place_off_held = chunk_places.place_off_held img name m old s t f.rows places k taken_new rises small a.all keeps

  abbrev first : ℕ
  first = first_line m.dataset (m.dataset.shape.rows / m.dataset.layout.chunk_rows)

  abbrev last : ℕ
  last = first_line m.dataset (div_up f.rows m.dataset.layout.chunk_rows)

  has_place : (key : Key) → key.j < keys_across m.dataset → first ≤ key.i → key.i < last
      → HasPlace m.dataset old f.address m.dataset.shape.rows places key
  has_place key across low high =
      let h = asked_is_touched m.dataset m.dataset.shape.rows f.rows key rises across low high in
      let number : ℕ = number_of m.dataset m.dataset.shape.rows key in
      let none : ChunkPlace = record { address = 0; stored = false } in
      let place : ChunkPlace = get_or places number none in
      let found : slice_get places number ≡ Some place = slice_get-get_or places number none (omega (arith, h.low, a.all)) in
      let p = a.placed number place found in
      record {
        number = number;
        place = place;
        found = found;
        is = h.is;
        named = ap f.address (sym h.is) ∙ p.named;
        defined = p.defined;
        kept = subst (λ (x : Key). StaysDefined (old x) place.address) h.is p.kept;
        stored = subst (λ (x : Key). place.stored ≡ true → old x ≢ undefined) h.is p.stored;
        whole = subst (λ (x : Key). place.stored ≡ false → old x ≢ undefined → m.dataset.shape.rows ≤ touched_band m.dataset m.dataset.shape.rows number * m.dataset.layout.chunk_rows) h.is p.whole;
      }

  -- what the map says of any key: as before, or the place of a new chunk
  classify : (key : Key) → IsAsked m.dataset key → (f.address key ≡ old key) ⊎ (HasPlace m.dataset old f.address m.dataset.shape.rows places key × (old key ≡ undefined))
  classify key asked = before (cases_lt key.i first)
    where
      by_old : HasPlace m.dataset old f.address m.dataset.shape.rows places key → ((eqb (old key) undefined ≡ true) × (old key ≡ undefined)) ⊎ ((eqb (old key) undefined ≡ false) × (old key ≢ undefined))
          → (f.address key ≡ old key) ⊎ (HasPlace m.dataset old f.address m.dataset.shape.rows places key × (old key ≡ undefined))
      by_old h (inl e) = inr (h, e.1)
      by_old h (inr e) = inl (h.named ∙ h.kept e.1)

      behind : first ≤ key.i → (key.i < last) ⊎ (last ≤ key.i)
          → (f.address key ≡ old key) ⊎ (HasPlace m.dataset old f.address m.dataset.shape.rows places key × (old key ≡ undefined))
      behind low (inl high) = by_old (has_place key asked.across low high) (eqb_tells (old key) undefined)
      behind low (inr past) = inl (a.others key asked (inr past))

      before : (key.i < first) ⊎ (first ≤ key.i)
          → (f.address key ≡ old key) ⊎ (HasPlace m.dataset old f.address m.dataset.shape.rows places key × (old key ≡ undefined))
      before (inl low) = inl (a.others key asked (inl low))
      before (inr low) = behind low (cases_lt key.i last)

  stays : (key : Key) → IsAsked m.dataset key → StaysDefined (old key) (f.address key)
  stays key asked defined = elim (classify key asked) [ inl e ↦ e | inr h ↦ absurd (defined h.1) ]

  -- ---- The writes are unseen

  rows_miss_blocks : (u : Used) → Among u (all_used m) → u.chunk ≡ false → AllMiss f.writes u.place u.len
  rows_miss_blocks u b block =
      within_miss m.dataset places f.writes u.place u.len a.written.within
      (λ n p found. subst (λ c. Apart p.address c u.place u.len) (sym (same_len m.dataset)) (place_off n p found u b (λ d e. never (ap (λ (x : Used). x.chunk) e ∙ block))))
    where
      never : ◌≡◌ {A = Bool} true false → ⊥
      never e = cc

  rows_miss_held : HeldMissed k.held f.writes
  rows_miss_held u b block =
      within_miss m.dataset places f.writes u.place u.len a.written.within (λ n p found. subst (λ c. Apart p.address c u.place u.len) (sym (same_len m.dataset)) (place_off_held n p found u b block))

  -- a value's row and column, and the key of its chunk
  is_cell : (n : ℕ) → n < length m.values → IsCell m.dataset (row_of m n) (column_of m n)
  is_cell n low = cell_of_value m.dataset n (subst (λ c. n < c) k.file.count low)

  side : (column : ℕ) → column < m.dataset.shape.cols → column / m.dataset.layout.chunk_cols < chunks_across m.dataset
  side column inside = below_up column m.dataset.shape.cols m.dataset.layout.chunk_cols sized.cols inside

  asked_cell : (row column : ℕ) → IsCell m.dataset row column → IsAsked m.dataset (cell_key m.dataset row column)
  asked_cell row column is =
      let lines = cell_lines m.dataset row column (side column is.in_columns) in
      let band = below_up row m.dataset.shape.rows m.dataset.layout.chunk_rows sized.rows is.in_rows in
      let grows = first_line_grows m.dataset (row / m.dataset.layout.chunk_rows + 1) (bands m.dataset) (omega (arith, band)) in
      record { named = few_named m.dataset few_now (cell_key m.dataset row column) (omega (arith, lines.high, grows)); across = lines.side }

  -- a cell of the bands of the new rows has a chunk among those that they touch
  cell_has_place : (row column : ℕ) → row < f.rows → column < m.dataset.shape.cols → m.dataset.shape.rows / m.dataset.layout.chunk_rows ≤ row / m.dataset.layout.chunk_rows
      → HasPlace m.dataset old f.address m.dataset.shape.rows places (cell_key m.dataset row column)
  cell_has_place row column high inside band =
      let lines = cell_lines m.dataset row column (side column inside) in
      let up = below_up row f.rows m.dataset.layout.chunk_rows sized.rows high in
      let begin = first_line_grows m.dataset (m.dataset.shape.rows / m.dataset.layout.chunk_rows) (row / m.dataset.layout.chunk_rows) band in
      let end = first_line_grows m.dataset (row / m.dataset.layout.chunk_rows + 1) (div_up f.rows m.dataset.layout.chunk_rows) (omega (arith, up)) in
      has_place (cell_key m.dataset row column) lines.side (omega (arith, lines.low, begin)) (omega (arith, lines.high, end))

  chunk_is : (n : ℕ) → n < length m.values → chunk_of m n ≡ old (cell_key m.dataset (row_of m n) (column_of m n))
  chunk_is n low =
      ap (λ (xs : List ℕ). get_or xs (grid_number m.dataset (row_of m n) (column_of m n)) undefined) (found_table img m.dataset old m.table few_now k.index k.file.table)
      ∙ chunk_by m.dataset old (row_of m n) (column_of m n) sized (is_cell n low)

  -- the number of a cell's chunk, and its band
  number_is : (row column : ℕ) → column < m.dataset.shape.cols → m.dataset.shape.rows / m.dataset.layout.chunk_rows ≤ row / m.dataset.layout.chunk_rows
      → (h : HasPlace m.dataset old f.address m.dataset.shape.rows places (cell_key m.dataset row column)) → h.number ≡ chunk_number m.dataset m.dataset.shape.rows row column
  number_is row column inside band h = cell_touched m.dataset m.dataset.shape.rows row column h.number (let some = side column inside in omega (arith, some)) band h.is

  in_chunks : (column : ℕ) → column < m.dataset.shape.cols → column < chunks_across m.dataset * m.dataset.layout.chunk_cols
  in_chunks column inside = quotient_of column (chunks_across m.dataset) m.dataset.layout.chunk_cols sized.cols (side column inside)

  band_is : (row column : ℕ) → column < m.dataset.shape.cols → m.dataset.shape.rows / m.dataset.layout.chunk_rows ≤ row / m.dataset.layout.chunk_rows
      → (h : HasPlace m.dataset old f.address m.dataset.shape.rows places (cell_key m.dataset row column)) → touched_band m.dataset m.dataset.shape.rows h.number ≡ row / m.dataset.layout.chunk_rows
  band_is row column inside band h =
      ap (λ n. touched_band m.dataset m.dataset.shape.rows n) (number_is row column inside band h)
      ∙ band_of_number m.dataset m.dataset.shape.rows row column sized.cols band (in_chunks column inside)

  -- the chunk of a cell by its place
  chunk_of_place : (row column : ℕ) → column < m.dataset.shape.cols → m.dataset.shape.rows / m.dataset.layout.chunk_rows ≤ row / m.dataset.layout.chunk_rows
      → (h : HasPlace m.dataset old f.address m.dataset.shape.rows places (cell_key m.dataset row column)) → IsChunkOf m.dataset m.dataset.shape.rows places row column h.place
  chunk_of_place row column inside band h = record {
    band = band;
    across = in_chunks column inside;
    stands = subst (λ n. slice_get places n ≡ Some h.place) (number_is row column inside band h) h.found;
  }

  -- what is apart from a cell's chunk is apart from the cell
  off_old_cell : (n place len : ℕ) → n < length m.values → Apart place len (chunk_of m n) (chunk_bytes m.dataset) → Apart place len (cell_place m n) m.dataset.int_type.size
  off_old_cell n place len low apart =
      let within = cell_within m.dataset (row_of m n) (column_of m n) sized in
      Apart-part place len (chunk_of m n) (chunk_bytes m.dataset) place len (cell_place m n) m.dataset.int_type.size (omega arith) (omega arith) (omega arith) (omega (arith, within)) apart

  rows_miss_cells : (n : ℕ) → n < length m.values → chunk_of m n ≢ undefined → AllMiss f.writes (cell_place m n) m.dataset.int_type.size
  rows_miss_cells n low defined = go (cases_lt (row_of m n / m.dataset.layout.chunk_rows) (m.dataset.shape.rows / m.dataset.layout.chunk_rows))
    where
      key : Key
      key = cell_key m.dataset (row_of m n) (column_of m n)

      known : old key ≢ undefined
      known e = defined (chunk_is n low ∙ e)

      u : Used
      u = chunk_at (chunk_of m n) (chunk_bytes m.dataset)

      among : Among u m.behind
      among = subst (λ x. Among (chunk_at x (chunk_bytes m.dataset)) m.behind) (sym (chunk_is n low)) (old_chunk key (asked_cell (row_of m n) (column_of m n) (is_cell n low)).named known)

      -- of an earlier band no chunk is touched
      other : row_of m n / m.dataset.layout.chunk_rows < m.dataset.shape.rows / m.dataset.layout.chunk_rows → (j : ℕ) (q : ChunkPlace) → slice_get places j ≡ Some q → old (touched_key m.dataset m.dataset.shape.rows j) ≢ undefined
          → chunk_at q.address (chunk_bytes m.dataset) ≢ u
      other before j q found d same =
          let together : old (touched_key m.dataset m.dataset.shape.rows j) ≡ old key = sym ((a.placed j q found).kept d) ∙ ap (λ (x : Used). x.place) same ∙ chunk_is n low in
          let one : touched_key m.dataset m.dataset.shape.rows j ≡ key = once key (touched_key m.dataset m.dataset.shape.rows j) (asked_cell (row_of m n) (column_of m n) (is_cell n low)) (number_asked j q found) known together in
          let band = cell_before m.dataset m.dataset.shape.rows (row_of m n) (column_of m n) j (side (column_of m n) (is_cell n low).in_columns) one in
          absurd (omega (arith, before, band))

      in_touched : (h : HasPlace m.dataset old f.address m.dataset.shape.rows places key) → m.dataset.shape.rows / m.dataset.layout.chunk_rows ≤ row_of m n / m.dataset.layout.chunk_rows → (h.place.stored ≡ true) ⊎ (h.place.stored ≡ false)
          → AllMiss f.writes (cell_place m n) m.dataset.int_type.size
      in_touched h band (inl stored) =
          let same : h.place.address ≡ chunk_of m n = h.kept known ∙ sym (chunk_is n low) in
          subst (λ x. AllMiss f.writes (x + cell_offset m.dataset (row_of m n) (column_of m n)) m.dataset.int_type.size) same
          (a.written.missed (row_of m n) (column_of m n) h.place (chunk_of_place (row_of m n) (column_of m n) (is_cell n low).in_columns band h) (inl (is_cell n low).in_rows) stored)
      in_touched h band (inr new) =
          let past = h.whole new known in
          let own = band_is (row_of m n) (column_of m n) (is_cell n low).in_columns band h in
          let start : m.dataset.shape.rows ≤ row_of m n / m.dataset.layout.chunk_rows * m.dataset.layout.chunk_rows = subst (λ x. m.dataset.shape.rows ≤ x * m.dataset.layout.chunk_rows) own past in
          let parts = row_is (row_of m n) m.dataset.layout.chunk_rows sized.rows in
          let inside = (is_cell n low).in_rows in
          absurd (omega (arith, start, parts.0, inside))

      go : (row_of m n / m.dataset.layout.chunk_rows < m.dataset.shape.rows / m.dataset.layout.chunk_rows) ⊎ (m.dataset.shape.rows / m.dataset.layout.chunk_rows ≤ row_of m n / m.dataset.layout.chunk_rows)
          → AllMiss f.writes (cell_place m n) m.dataset.int_type.size
      go (inl before) =
          within_miss m.dataset places f.writes (cell_place m n) m.dataset.int_type.size a.written.within
          (λ j q found. off_old_cell n q.address (chunk_len m.dataset) low
          (subst (λ c. Apart q.address c (chunk_of m n) (chunk_bytes m.dataset)) (sym (same_len m.dataset)) (place_off j q found u (in_behind m u among) (other before j q found))))
      go (inr band) =
          let inside = (is_cell n low).in_rows in
          let h = cell_has_place (row_of m n) (column_of m n) (omega (arith, inside, rises)) (is_cell n low).in_columns band in
          in_touched h band (cases_Bool h.place.stored)

  rows_unseen : AllUnseen m f.writes
  rows_unseen = unseen_each m m.behind f.writes (rows_miss_blocks, λ u b block. rows_miss_blocks u (in_behind m u b) block, rows_miss_cells)

  file_rows : Represents (image img f.writes) name m
  file_rows = plan_leads img name m m k.held k.held f.writes k.file (unseen_stage img name m k.held f.writes k.file rows_unseen rows_miss_held).plan

  -- ---- The cells of new rows

  own_cell : (row column : ℕ) (p : ChunkPlace) → m.dataset.shape.rows ≤ row → row < f.rows → column < m.dataset.shape.cols → IsChunkOf m.dataset m.dataset.shape.rows places row column p
      → OwnCell (image img f.writes) m.dataset f.more m.dataset.shape.rows row column p
  own_cell row column p low high inside c =
      let cols : ℕ = m.dataset.shape.cols in
      let from : ℕ = m.dataset.shape.rows in
      let i : ℕ = (row - from) * cols + column in
      let below : i < (f.rows - from) * cols = nested (row - from) column (f.rows - from) cols (omega (arith, low, high)) inside in
      let parts = row_parts from (f.rows - from) cols 0 in
      let whole : from + (f.rows - from) ≡ f.rows = omega (arith, rises) in
      let all : f.rows * cols ≡ from * cols + (f.rows - from) * cols = ap (λ n. n * cols) (sym whole) ∙ omega (arith, parts) in
      let many : i < length f.more = omega (arith, below, all, count, k.file.count, length-append m.values f.more) in
      let is = slice_get-get_or f.more i (pos 0) many in
      let own = cell_of m.dataset f.more i (get_or f.more i (pos 0)) a.fit is in
      record {
        value = get_or f.more i (pos 0);
        is = is;
        bytes = own.bytes;
        spelled = own.spelled;
        there = subst (λ (b : List ℕ). At (image img f.writes) (place_in m.dataset p row column) b) own.there (a.written.stands row column p c low high inside);
      }

  -- the cell of a new row is read as its value
  new_value : (n row column : ℕ) → n ≡ row * m.dataset.shape.cols + column → m.dataset.shape.rows ≤ row → row < f.rows → column < m.dataset.shape.cols
      → cell_by (image img f.writes) m.dataset (f.address (cell_key m.dataset row column)) row column ≡ slice_get (m.values ++ f.more) n
  new_value n row column is low high inside =
      let cols : ℕ = m.dataset.shape.cols in
      let from : ℕ = m.dataset.shape.rows in
      let band = div_grows from row m.dataset.layout.chunk_rows sized.rows low in
      let h = cell_has_place row column high inside band in
      let own = own_cell row column h.place low high inside (chunk_of_place row column inside band h) in
      let read = cell_there (image img f.writes) m.dataset h.place.address row column own.bytes h.defined own.there (length-cell_bytes_of own.value m.dataset.int_type own.bytes own.spelled) in
      let i : ℕ = (row - from) * cols + column in
      let whole : from + (row - from) ≡ row = omega (arith, low) in
      let number : n ≡ length m.values + i = is ∙ ap (λ r. r * cols + column) (sym whole) ∙ row_parts from (row - from) cols column ∙ ap (λ c. c + i) (sym k.file.count) in
      ap (λ x. cell_by (image img f.writes) m.dataset x row column) h.named
      ∙ read
      ∙ ap Some (value_at-cell_bytes_of own.value m.dataset.int_type own.bytes a.typed own.spelled)
      ∙ sym own.is
      ∙ sym (later_values m.values f.more i)
      ∙ ap (λ j. slice_get (m.values ++ f.more) j) (sym number)

  -- the cell of a row that was there is read as before
  old_value : (n : ℕ) → n < length m.values
      → cell_by (image img f.writes) m.dataset (f.address (cell_key m.dataset (row_of m n) (column_of m n))) (row_of m n) (column_of m n) ≡ slice_get m.values n
  old_value n low = go (classify key (asked_cell (row_of m n) (column_of m n) (is_cell n low)))
    where
      key : Key
      key = cell_key m.dataset (row_of m n) (column_of m n)

      was : cell_by (image img f.writes) m.dataset (chunk_of m n) (row_of m n) (column_of m n) ≡ slice_get m.values n
      was = file_rows.cells n low

      filled : (h : HasPlace m.dataset old f.address m.dataset.shape.rows places key) → old key ≡ undefined → m.dataset.shape.rows / m.dataset.layout.chunk_rows ≤ row_of m n / m.dataset.layout.chunk_rows
          → (h.place.stored ≡ true) ⊎ (h.place.stored ≡ false) → cell_by (image img f.writes) m.dataset (f.address key) (row_of m n) (column_of m n) ≡ slice_get m.values n
      filled h e band (inl stored) = absurd (h.stored stored e)
      filled h e band (inr new) =
          let there = a.written.filled (row_of m n) (column_of m n) h.place (chunk_of_place (row_of m n) (column_of m n) (is_cell n low).in_columns band h) (inl (is_cell n low).in_rows) new in
          ap (λ x. cell_by (image img f.writes) m.dataset x (row_of m n) (column_of m n)) h.named
          ∙ cell_there (image img f.writes) m.dataset h.place.address (row_of m n) (column_of m n) (fill_cell m.dataset) h.defined there a.filled
          ∙ ap Some (fill_read m.dataset a.typed)
          ∙ sym (cell_absent (image img f.writes) m.dataset (chunk_of m n) (row_of m n) (column_of m n) (chunk_is n low ∙ e))
          ∙ was

      -- its band is touched, since its place has that number
      band_of : (h : HasPlace m.dataset old f.address m.dataset.shape.rows places key) → m.dataset.shape.rows / m.dataset.layout.chunk_rows ≤ row_of m n / m.dataset.layout.chunk_rows
      band_of h = cell_before m.dataset m.dataset.shape.rows (row_of m n) (column_of m n) h.number (side (column_of m n) (is_cell n low).in_columns) h.is

      go : (f.address key ≡ old key) ⊎ (HasPlace m.dataset old f.address m.dataset.shape.rows places key × (old key ≡ undefined)) → cell_by (image img f.writes) m.dataset (f.address key) (row_of m n) (column_of m n) ≡ slice_get m.values n
      go (inl e) = ap (λ x. cell_by (image img f.writes) m.dataset x (row_of m n) (column_of m n)) (e ∙ sym (chunk_is n low)) ∙ was
      go (inr h) = filled h.0 h.1 (band_of h.0) (cases_Bool h.0.place.stored)

  all_cells : HasCells (image img f.writes) (flushed_to m f)
  all_cells n low =
      ap (λ x. cell_by (image img f.writes) m.dataset x (n / m.dataset.shape.cols) (n % m.dataset.shape.cols))
      (chunk_by (committed m.dataset f.rows f.named) f.address (n / m.dataset.shape.cols) (n % m.dataset.shape.cols) sized_too there)
      ∙ go (cases_lt (n / m.dataset.shape.cols) m.dataset.shape.rows)
    where
      sized_too : IsSized (committed m.dataset f.rows f.named)
      sized_too = record { rows = sized.rows; cols = sized.cols; size = sized.size; bytes = sized.bytes }

      there : IsCell (committed m.dataset f.rows f.named) (n / m.dataset.shape.cols) (n % m.dataset.shape.cols)
      there = cell_of_value (committed m.dataset f.rows f.named) n (subst (λ c. n < c) count low)

      some : 0 < m.dataset.shape.cols
      some = let c = there.in_columns in omega (arith, c)

      go : (n / m.dataset.shape.cols < m.dataset.shape.rows) ⊎ (m.dataset.shape.rows ≤ n / m.dataset.shape.cols)
          → cell_by (image img f.writes) m.dataset (f.address (cell_key m.dataset (n / m.dataset.shape.cols) (n % m.dataset.shape.cols))) (n / m.dataset.shape.cols) (n % m.dataset.shape.cols) ≡ slice_get (m.values ++ f.more) n
      go (inl before) =
          let was : n < length m.values = subst (λ c. n < c) (sym k.file.count) (quotient_of n m.dataset.shape.rows m.dataset.shape.cols some before) in
          old_value n was ∙ sym (first_values m.values f.more n was)
      go (inr behind) = new_value n (n / m.dataset.shape.cols) (n % m.dataset.shape.cols) (row_is n m.dataset.shape.cols some).0 behind there.in_rows there.in_columns

  -- ---- New chunks are written to their ends

  new_whole : (u : Used) → Among u f.chunks → u.place + u.len ≤ length (image img f.writes)
  new_whole u b =
      let from = new_from m.dataset old m.dataset.shape.rows 0 places u (subst (λ (us : List Used). Among u us) a.chunks b) in
      subst (λ (x : Used). x.place + x.len ≤ length (image img f.writes)) (sym from.is)
      (place_whole from.number from.place from.found (ap (λ j. old (touched_key m.dataset m.dataset.shape.rows j)) (let h : from.number ≡ 0 + from.number = omega arith in h) ∙ from.absent))
    where
      place_whole : (n : ℕ) (p : ChunkPlace) → slice_get places n ≡ Some p → old (touched_key m.dataset m.dataset.shape.rows n) ≡ undefined → p.address + chunk_bytes m.dataset ≤ length (image img f.writes)
      place_whole n p found absent = last_there (cases_lt last_row m.dataset.shape.rows) (cases_lt last_row f.rows) (cases_lt last_column m.dataset.shape.cols)
        where
          R : ℕ
          R = m.dataset.layout.chunk_rows

          C : ℕ
          C = m.dataset.layout.chunk_cols

          band : ℕ
          band = touched_band m.dataset m.dataset.shape.rows n

          place : ℕ
          place = n % chunks_across m.dataset

          last_row : ℕ
          last_row = band * R + (R - 1)

          last_column : ℕ
          last_column = place * C + (C - 1)

          row_number : (last_row / R ≡ band) × (last_row % R ≡ R - 1)
          row_number = number_parts band R (R - 1) (let some = sized.rows in omega (arith, some))

          column_number : (last_column / C ≡ place) × (last_column % C ≡ C - 1)
          column_number = number_parts place C (C - 1) (let some = sized.cols in omega (arith, some))

          across : place < chunks_across m.dataset
          across = (touched_parts m.dataset m.dataset.shape.rows f.rows n rises (let low = slice_get_within places n p found in let all = a.all in omega (arith, low, all))).column

          number : chunk_number m.dataset m.dataset.shape.rows last_row last_column ≡ n
          number =
              ap (λ x. (x - m.dataset.shape.rows / R) * chunks_across m.dataset + last_column / C) row_number.0
              ∙ ap (λ x. (band - m.dataset.shape.rows / R) * chunks_across m.dataset + x) column_number.0
              ∙ ap (λ x. x * chunks_across m.dataset + place) (let e : band - m.dataset.shape.rows / R ≡ n / chunks_across m.dataset = omega arith in e)
              ∙ sym (row_is n (chunks_across m.dataset) (omega (arith, across))).0

          is_chunk : IsChunkOf m.dataset m.dataset.shape.rows places last_row last_column p
          is_chunk = record {
            band = let e = row_number.0 in omega (arith, e);
            across = quotient_of last_column (chunks_across m.dataset) C sized.cols (subst (λ x. x < chunks_across m.dataset) (sym column_number.0) across);
            stands = subst (λ x. slice_get places x ≡ Some p) (sym number) found;
          }

          new : p.stored ≡ false
          new = elim (cases_Bool p.stored) [ inl e ↦ absurd ((a.placed n p found).stored e absent) | inr e ↦ e ]

          reaches : (bytes : List ℕ) → At (image img f.writes) (place_in m.dataset p last_row last_column) bytes → length bytes ≡ m.dataset.int_type.size → p.address + chunk_bytes m.dataset ≤ length (image img f.writes)
          reaches bytes there long =
              let some = sized.size in
              let fits = At-fits (image img f.writes) (place_in m.dataset p last_row last_column) bytes there (omega (arith, long, some)) in
              let offset : cell_offset m.dataset last_row last_column ≡ ((R - 1) * C + (C - 1)) * m.dataset.int_type.size =
              ap (λ x. (x * C + last_column % C) * m.dataset.int_type.size) row_number.1 ∙ ap (λ x. ((R - 1) * C + x) * m.dataset.int_type.size) column_number.1 in
              let whole = last_cell R C m.dataset.int_type.size sized.rows sized.cols in
              omega (arith, fits, offset, whole, long)

          other : IsOther m.dataset m.dataset.shape.rows f.rows last_row last_column → p.address + chunk_bytes m.dataset ≤ length (image img f.writes)
          other o = reaches (fill_cell m.dataset) (a.written.filled last_row last_column p is_chunk o new) a.filled

          own : m.dataset.shape.rows ≤ last_row → last_row < f.rows → last_column < m.dataset.shape.cols → p.address + chunk_bytes m.dataset ≤ length (image img f.writes)
          own low high inside =
              let c = own_cell last_row last_column p low high inside is_chunk in
              reaches c.bytes c.there (length-cell_bytes_of c.value m.dataset.int_type c.bytes c.spelled)

          last_there : (last_row < m.dataset.shape.rows) ⊎ (m.dataset.shape.rows ≤ last_row) → (last_row < f.rows) ⊎ (f.rows ≤ last_row) → (last_column < m.dataset.shape.cols) ⊎ (m.dataset.shape.cols ≤ last_column)
              → p.address + chunk_bytes m.dataset ≤ length (image img f.writes)
          last_there (inl low) second third = other (inl low)
          last_there (inr low) (inr high) third = other (inr (inl high))
          last_there (inr low) (inl high) (inr past) = other (inr (inr past))
          last_there (inr low) (inl high) (inl inside) = own low high inside

pub rows_flush : RowsFlush
rows_flush img name m old s t f places k taken rises small count a = record {
  flushed = record {
    unseen = rows_unseen img name m old s t f places k taken rises small count a;
    whole = new_whole img name m old s t f places k taken rises small count a;
    cells = all_cells img name m old s t f places k taken rises small count a;
  };
  off_held = rows_miss_held img name m old s t f places k taken rises small count a;
  kept = stays img name m old s t f places k taken rises small count a;
}
