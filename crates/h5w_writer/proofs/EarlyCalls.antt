-- What the plan of rows that are written early asks for, and the session that it leaves.
use Rattle.std.proofs.Common.{◌≡◌, ◌≢◌, ◌⊎◌, ℕ, zero, suc, ◌+◌, ◌-◌, ◌*◌, ◌/◌, ◌%◌, ◌<◌, ◌≤◌, ◌^◌, nat_lt, List, [], ◌∷◌, ◌++◌, length, take, drop, Some, sym, ap, ◌∙◌, subst, inl, inr, arith}
use Rattle.std.proofs.lemmas.Bool.{cases_lt, cond-true, lt-ltb}
use Rattle.std.proofs.lemmas.List.{length-drop}
use Rattle.std.proofs.Math.Nat.{mul-le-mul_right}
use Rattle.std.specs.List.{slice_get}
use Rattle.h5w_model.specs.Logs.{div_up}
use Rattle.h5w_model.specs.Datasets.{Described}
use Rattle.h5w_model.specs.Tables.{chunks_across}
use Rattle.h5w_model.specs.declared.cell.IndexKind.{IndexKind}
use Rattle.h5w_model.specs.declared.cell.IndexKind.TheVariants.{Array, Tree}
use Rattle.h5w_model.specs.declared.cell.Key.{Key}
use Rattle.h5w_model.specs.declared.piece.Write.{Write}
use Rattle.h5w_space.specs.Space.{Space}
use Rattle.h5w_chunks.specs.Grids.{IsCut, chunk_len}
use Rattle.h5w_chunks.specs.Rows.{RowsWritten}
use Rattle.h5w_chunks.specs.Shares.{first_line, new_writes, touched}
use Rattle.h5w_chunks.specs.declared.grid.ChunkPlace.{ChunkPlace}
use Rattle.h5w_flush_laws.specs.EarlyRows.{IsEarlyPlace}
use Rattle.h5w_index.specs.Naming.{AreTakenBehind}
use Rattle.h5w_index.specs.Views.{TakesKey, address_in}
use Rattle.h5w_pieces.specs.NextPlaces.{next_places, writes_behind}
use Rattle.h5w_writer.specs.ChunkPlaces.{AreBandsPlaced, AreEarlyWrites, CanPlace}
use Rattle.h5w_writer.specs.Early.{HasNoBandPlace, IsBandFull, IsEarlyRow, IsWithin, WritesEarly, unwritten}
use Rattle.h5w_writer.specs.Sessions.{IsSession, Session, bands_of, most_lines, next_row, row_bytes, rows_of}
use Rattle.h5w_writer.proofs.CarriedLemmas.{values_few}
use Rattle.h5w_writer.proofs.EarlyBytes.{up_more}
use Rattle.h5w_writer.proofs.FlushedLemmas.{chunks_few, lines_few, takes_keys}

-- the lines of fewer bands are no more
lines_more : (d : Described) (a b : ℕ) → a ≤ b → first_line d a ≤ first_line d b
lines_more d a b few = by_kind d.layout.index
  where
    by_kind : (k : IndexKind) → elim k [ Array ↦ a * chunks_across d | Tree ↦ a ] ≤ elim k [ Array ↦ b * chunks_across d | Tree ↦ b ]
    by_kind Array = mul-le-mul_right (chunks_across d) few
    by_kind Tree = few

-- each place of a list is of its first part or of the others
places_joined : (P : ChunkPlace → Type 0) (early later : List ChunkPlace) → ((k : ℕ) (p : ChunkPlace) → slice_get early k ≡ Some p → P p) → ((k : ℕ) (p : ChunkPlace) → slice_get later k ≡ Some p → P p)
    → (k : ℕ) (p : ChunkPlace) → slice_get (early ++ later) k ≡ Some p → P p
places_joined P [] later first others k p at = others k p at
places_joined P (x ∷ xs) later first others zero p at = first zero p at
places_joined P (x ∷ xs) later first others (suc k) p at = places_joined P xs later (λ j q found. first (suc j) q found) others k p at

module _ (v : Session) (is : IsSession v) (cut : IsCut v.dataset) where
  abbrev d : Described
  d = v.dataset

  module _ (to : ℕ) (row : IsEarlyRow v to) where
    bands : div_up to d.layout.chunk_rows ≤ bands_of v
    bands = up_more to (rows_of v) d.layout.chunk_rows cut.rows row.bound

    lines : first_line d (div_up to d.layout.chunk_rows) ≤ first_line d (bands_of v)
    lines = lines_more d (div_up to d.layout.chunk_rows) (bands_of v) bands

    early_room : (to - d.shape.rows) * d.shape.cols < 2 ^ 64
    early_room =
        let bound = row.bound in
        let some = row.some in
        let few : (to - d.shape.rows) * d.shape.cols ≤ v.waits * d.shape.cols = mul-le-mul_right d.shape.cols (let less : to - d.shape.rows ≤ v.waits = omega (arith, bound) in less) in
        omega (arith, few, values_few v is cut)

    early_lines : first_line d (div_up to d.layout.chunk_rows) ≤ most_lines d
    early_lines = omega (arith, lines, lines_few v is)

    pub early_chunks : div_up to d.layout.chunk_rows * chunks_across d ≤ 1000000
    early_chunks = let few = mul-le-mul_right (chunks_across d) bands in omega (arith, few, chunks_few v is)

    early_takes : (key : Key) → key.i < first_line d (div_up to d.layout.chunk_rows) → TakesKey v.index key
    early_takes key low = takes_keys v is key (omega (arith, low, lines))

    pub early_can : CanPlace d v.index to v.places
    early_can = record {
      order = let some = row.some in omega (arith, some);
      room = early_room;
      few = early_lines;
      sound = is.sound;
      fits = is.fits;
      takes = early_takes;
      inside = is.inside;
      small = is.small;
      limit = is.limit;
    }

    early_count : (to - next_row v) * row_bytes d ≤ length v.waiting
    early_count =
        let bound = row.bound in
        let some = is.early in
        let few : (to - next_row v) * row_bytes d ≤ (v.waits - v.early) * row_bytes d = mul-le-mul_right (row_bytes d) (let less : to - next_row v ≤ v.waits - v.early = omega (arith, bound, some) in less) in
        omega (arith, few, is.cells)

    pub early_cells : (mid : ℕ) (cells : List ℕ) → mid ≡ next_row v → cells ≡ v.waiting → (to - mid) * row_bytes d ≤ length cells
    early_cells mid cells mid_is cells_are = subst (λ (n : ℕ). (to - n) * row_bytes d ≤ length cells) (sym mid_is) (subst (λ (bs : List ℕ). (to - next_row v) * row_bytes d ≤ length bs) (sym cells_are) early_count)

  module _ (t : Session) (idle : v.pending ≡ []) (small : t.places.end < 2 ^ 64) (x : WritesEarly v t) where
    pub early_is : IsSession t
    early_is = subst IsSession (sym x.session) (record {
      some_columns = is.some_columns;
      cells = cells;
      few = is.few;
      version = is.version;
      begun = omega (arith, is.begun, rises);
      kind = is.kind;
      sound = is.sound;
      fits = is.fits;
      header = is.header;
      addressed = is.addressed;
      header_ends = omega (arith, is.header_ends, rises);
      small = small;
      limit = omega (arith, is.limit, x.taken.raised.limit);
      inside = λ k from named. omega (arith, is.inside k from named, rises);
      tops = λ whole u among. omega (arith, is.tops (record { named = whole.named; made = whole.made }) u among, rises);
      head = λ named lacking. omega (arith, is.head named lacking, rises);
      blank = is.blank;
      live = λ unmade. x.taken.taken.stays_live _ (is.live unmade);
      early = let bound = x.bound in omega (arith, bound);
      chunks = x.all ∙ ap (touched d d.shape.rows) sum;
      placed = x.placed;
      ends = ends;
      flushing = λ e. absurd (is.busy e idle);
      busy = λ e. absurd (is.busy e idle);
      budget_low = is.budget_low;
      budget_high = is.budget_high;
    })
      where
        rises : v.places.end ≤ t.places.end
        rises = x.taken.raised.rises

        ends : (k : ℕ) (p : ChunkPlace) → slice_get t.chunks k ≡ Some p → p.address + chunk_len d ≤ t.places.end
        ends = subst (λ (ps : List ChunkPlace). (k : ℕ) (p : ChunkPlace) → slice_get ps k ≡ Some p → p.address + chunk_len d ≤ t.places.end) (sym x.taken.all)
            (places_joined (λ (p : ChunkPlace). p.address + chunk_len d ≤ t.places.end) v.chunks x.taken.later (λ k p at. omega (arith, is.ends k p at, rises)) x.taken.inside)

        sum : x.to ≡ d.shape.rows + (x.to - d.shape.rows)
        sum = let some = x.some in omega (arith, some)

        cells : length (drop ((x.to - next_row v) * row_bytes d) v.waiting) ≡ (v.waits - (x.to - d.shape.rows)) * row_bytes d
        cells =
            let bound = x.bound in
            let some = x.some in
            let early = is.early in
            let parts : (x.to - next_row v) + (v.waits - (x.to - d.shape.rows)) ≡ v.waits - v.early = omega (arith, bound, some, early) in
            let split : ((x.to - next_row v) + (v.waits - (x.to - d.shape.rows))) * row_bytes d ≡ (x.to - next_row v) * row_bytes d + (v.waits - (x.to - d.shape.rows)) * row_bytes d = omega arith in
            let all = ap (λ (n : ℕ). n * row_bytes d) parts in
            length-drop ((x.to - next_row v) * row_bytes d) v.waiting ∙ omega (arith, is.cells, split, all)

-- ---- The session that it leaves

abbrev pub early_session : (v : Session) (at : ℕ) (chunks : List ChunkPlace) (places : Space) (writes : List Write) (rest : List ℕ) → Session
early_session v at chunks places writes rest = record v { early = at - v.dataset.shape.rows; waiting = rest; chunks = chunks; places = places; pending = writes }

planned_whole : (v : Session) (to at : ℕ) → IsEarlyRow v to → next_row v < at → (at ≡ next_row v) ⊎ ((at ≡ to) ⊎ (at % v.dataset.layout.chunk_rows ≡ 0)) → (at ≡ rows_of v) ⊎ (at % v.dataset.layout.chunk_rows ≡ 0)
planned_whole v to at row rises (inl same) = absurd (omega (arith, rises, same))
planned_whole v to at row rises (inr (inl same)) = subst (λ (n : ℕ). (n ≡ rows_of v) ⊎ (n % v.dataset.layout.chunk_rows ≡ 0)) (sym same) row.whole
planned_whole v to at row rises (inr (inr whole)) = inr whole

-- in the words of the code: of the rows from `mid` on, whose cells these are
pub writes_early : (v : Session) (to at n : ℕ) (chunks : List ChunkPlace) (places : Space) (writes : List Write) (rest : List ℕ) (mid : ℕ) (cells : List ℕ) → IsSession v → IsEarlyRow v to → mid ≡ next_row v → cells ≡ v.waiting → mid < at
    → rest ≡ drop n v.waiting → AreBandsPlaced v.dataset (λ key. address_in v.index key) mid to v.chunks v.places at chunks places → AreEarlyWrites v.dataset cells mid at chunks places.end n writes → WritesEarly v (early_session v at chunks places writes rest)
writes_early v to at n chunks places writes rest mid cells is row mid_is cells_are rises rest_is placed planned =
    let x : AreBandsPlaced v.dataset (λ key. address_in v.index key) (next_row v) to v.chunks v.places at chunks places = subst (λ (m : ℕ). AreBandsPlaced v.dataset (λ key. address_in v.index key) m to v.chunks v.places at chunks places) mid_is placed in
    let p : AreEarlyWrites v.dataset v.waiting (next_row v) at chunks places.end n writes =
    subst (λ (bs : List ℕ). AreEarlyWrites v.dataset bs (next_row v) at chunks places.end n writes) cells_are (subst (λ (m : ℕ). AreEarlyWrites v.dataset cells m at chunks places.end n writes) mid_is planned) in
    let some : next_row v < at = subst (λ (m : ℕ). m < at) mid_is rises in
    let new = take ((at - next_row v) * row_bytes v.dataset) v.waiting in
    record {
      to = at;
      some = some;
      bound = let bound = row.bound in let up = x.high in omega (arith, bound, up);
      whole = planned_whole v to at row some x.whole;
      taken = x.taken;
      all = x.all;
      placed = x.placed is.placed;
      exact = p.exact ∙ cond-true (nat_lt (next_row v) at) (new_writes v.dataset new (next_row v) at (next_places v.dataset v.dataset.shape.rows (next_row v) chunks)) [] (lt-ltb (next_row v) at some);
      written = p.does some;
      pieces = p.some some;
      session = ap (λ (bs : List ℕ). early_session v at chunks places writes bs) (rest_is ∙ ap (λ (k : ℕ). drop k v.waiting) p.bytes);
    }

-- what waits then is within the budget, or has no place
pub early_within : (v : Session) (to : ℕ) → IsEarlyRow v to → (early : ℕ) (waiting : List ℕ) (chunks : List ChunkPlace) (places : Space) (pending : List Write) → v.dataset.shape.rows + early ≤ to
    → (v.dataset.shape.rows + early < to → IsBandFull v.dataset (λ key. address_in v.index key) chunks places)
    → IsWithin (record v { early = early; waiting = waiting; chunks = chunks; places = places; pending = pending })
early_within v to row early waiting chunks places pending bound full =
    elim (cases_lt (v.dataset.shape.rows + early) to) [
      | inl less ↦ inr (record { waits = let most = row.bound in omega (arith, less, most); band = full less })
      | inr none ↦
          let same : v.dataset.shape.rows + early ≡ to = omega (arith, none, bound) in
          inl (subst (λ (n : ℕ). unwritten v.dataset n (rows_of v) + length v.header ≤ v.budget) (sym same) row.within)
    ]
