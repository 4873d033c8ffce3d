-- What the code of a flush shows, in its own words.
use Rattle.std.proofs.Common.{◌≡◌, ℕ, ◌+◌, ◌-◌, ◌*◌, ◌^◌, ◌<◌, ◌≤◌, true, List, [], ◌∷◌, ◌++◌, length, drop, Option, Some, None, IsSome, Result, Err, refl, ap, sym, ◌∙◌, subst, arith, inl, inr, length-append}
use Rattle.std.specs.List.{slice_get}
use Rattle.std.proofs.lemmas.Bool.{cases_lt}
use Rattle.std.proofs.lemmas.Nat.{mul-le}
use Rattle.h5w_model.specs.Logs.{div_up}
use Rattle.h5w_model.specs.Tables.{chunks_across}
use Rattle.h5w_model.specs.Messages.{IsIntType}
use Rattle.h5w_model.specs.Headers.{rows_in_header, with_rows_bytes}
use Rattle.h5w_model.specs.declared.cell.Key.{Key}
use Rattle.h5w_model.specs.declared.root.Super.{Super}
use Rattle.h5w_model.specs.declared.piece.Write.{Write}
use Rattle.h5w_space.specs.Space.{Space}
use Rattle.h5w_cache.specs.declared.moves.Move.{Move}
use Rattle.h5w_chunks.specs.Grids.{IsCut, chunk_len, fill_cell}
use Rattle.h5w_chunks.specs.Rows.{RowsWritten}
use Rattle.h5w_chunks.specs.Shares.{first_line, touched}
use Rattle.h5w_chunks.specs.declared.grid.ChunkPlace.{ChunkPlace}
use Rattle.h5w_chunks.proofs.Geometry.{lt_up}
use Rattle.h5w_flush_laws.specs.EarlyRows.{IsEarlyPlace}
use Rattle.h5w_flush_laws.specs.Parts.{AreEnded}
use Rattle.h5w_model.proofs.HeaderLemmas.{messages_at-ok}
use Rattle.h5w_step_laws.proofs.CommitLaws.{rows_place_is, rows_there}
use Rattle.h5w_step_laws.specs.Ranges as ranges
use Rattle.h5w_index.specs.Views.{IndexView, IsSound, TakesKey, address_in}
use Rattle.h5w_index.specs.Blocks.{has_no_block}
use Rattle.h5w_index.specs.Steps.{IsPlan}
use Rattle.h5w_index.specs.Told.{HeldTold}
use Rattle.h5w_index.specs.Naming.{AreNamed, AreTakenBehind}
use Rattle.h5w_index.specs.Placing.{AreInside, Fits, IsPartly}
use Rattle.h5w_index.proofs.PlacingLemmas.{placing_laws}
use Rattle.h5w_pieces.specs.Joined.{option_list}
use Rattle.h5w_writer.specs.Backlogs.{IsPlanned}
use Rattle.h5w_writer.specs.declared.backlog.Backlog.{Backlog}
use Rattle.h5w_writer.proofs.BacklogLemmas.{pending_is}
use Rattle.h5w_writer.specs.Sessions.{AllEndBy, ArePieces, IsRoomy, IsSession, IsUnmade, IsWhole, IsWritable, Session, bands_of, most_lines, next_row, row_bytes, rows_of, with_rows}
use Rattle.h5w_pieces.specs.NextPlaces.{next_places, writes_behind}
use Rattle.h5w_writer.specs.ChunkPlaces.{AllEarly, CanPrepare}
use Rattle.h5w_writer.specs.Flushes.{ArePlanned, IsFlushed, SameBut, flushed_of, header_piece}
use Rattle.h5w_writer.proofs.HeaderAlone.{never, same_block}
use Rattle.h5w_writer.proofs.FlushedLemmas.{chunks_few, fits_same, flushed_is, flushed_pieces, lines_few, shown_flushed, takes_keys}

-- the rows have a place in the header
pub has_rows : (b : List ℕ) → IsWritable b → IsSome (rows_in_header b)
has_rows b w =
    let h = messages_at-ok b w.list w.read in
    subst (λ (o : Option ℕ). IsSome o) (sym (rows_place_is b h.0 w.list w.space h.1.header w.read w.first ∙ rows_there h.0 w.space w.long)) refl

-- ---- What the places of a flush ask for

-- of a session, up to row `to`
pub record AsksFor (v : Session) (to : ℕ) : Type 0 where
  pub few : div_up to v.dataset.layout.chunk_rows * chunks_across v.dataset ≤ 1000000
  pub takes : (key : Key) → key.i < first_line v.dataset (div_up to v.dataset.layout.chunk_rows) → TakesKey v.index key
  pub lines : first_line v.dataset (div_up to v.dataset.layout.chunk_rows) ≤ most_lines v.dataset

pub asks_for : (v : Session) (to : ℕ) → IsSession v → to ≡ rows_of v → AsksFor v to
asks_for v to is e = subst (AsksFor v) (sym e) (record { few = chunks_few v is; takes = takes_keys v is; lines = lines_few v is })

-- so many have no more than their parts
within_parts : (n part : ℕ) → 0 < part → n ≤ div_up n part * part
within_parts n part some = elim (cases_lt (div_up n part * part) n) [
  | inl past ↦ absurd (omega (arith, lt_up (div_up n part) n part some past))
  | inr h ↦ h
]

-- the values of the rows that wait are few, as their chunks are
pub values_few : (v : Session) → IsSession v → IsCut v.dataset → v.waits * v.dataset.shape.cols < 2 ^ 64
values_few v is cut =
    let d = v.dataset in
    let R = d.layout.chunk_rows in
    let C = d.layout.chunk_cols in
    let across = chunks_across d in
    let rows : v.waits ≤ bands_of v * R = omega (arith, within_parts (rows_of v) R cut.rows) in
    let columns : d.shape.cols ≤ across * C = within_parts d.shape.cols C cut.cols in
    let all : v.waits * d.shape.cols ≤ (bands_of v * R) * (across * C) = mul-le v.waits d.shape.cols (bands_of v * R) (across * C) rows columns in
    let same : (bands_of v * R) * (across * C) ≡ (bands_of v * across) * (R * C) = grind arith in
    let cells : (bands_of v * across) * (R * C) ≤ 1000000 * (R * C) = mul-le (bands_of v * across) (R * C) 1000000 (R * C) (chunks_few v is) (omega arith) in
    let bytes : (R * C) * 1 ≤ (R * C) * d.int_type.size = mul-le (R * C) 1 (R * C) d.int_type.size (omega arith) cut.some in
    omega (arith, all, same, cells, bytes, cut.small)

-- So a flush of them can be prepared, over an index that takes their keys and from places at which they are: in the words of the code.
pub can_prepare : (v : Session) → IsSession v → IsCut v.dataset → 0 < v.waits → (w : IndexView) (mid to : ℕ) (cells : List ℕ) (early : List ChunkPlace) (s : Space) → mid ≡ next_row v → to ≡ rows_of v → cells ≡ v.waiting → early ≡ v.chunks
    → IsSound w → Fits v.dataset w → ((key : Key) → key.i < first_line v.dataset (div_up to v.dataset.layout.chunk_rows) → TakesKey w key) → AreInside v.dataset s.end w → s.end < 2 ^ 64 → s.limit ≤ 2 ^ 40
    → AllEarly v.dataset (λ key. address_in w key) v.chunks → ((k : ℕ) (p : ChunkPlace) → slice_get v.chunks k ≡ Some p → p.address + chunk_len v.dataset ≤ s.end) → CanPrepare v.dataset w mid to cells early s
can_prepare v is cut some w mid to cells early s mid_is to_is cells_are early_are sound fits takes inside small limit placed ends =
    let d = v.dataset in
    let low = is.early in
    let less : to - d.shape.rows ≡ v.waits = omega (arith, to_is) in
    let all : to - mid ≡ v.waits - v.early = omega (arith, to_is, mid_is) in
    let regroup : (to - mid) * d.shape.cols * d.int_type.size ≡ (to - mid) * row_bytes d = grind arith in
    record {
      can = record {
        order = omega (arith, to_is, some);
        room = subst (λ (n : ℕ). n * d.shape.cols < 2 ^ 64) (sym less) (values_few v is cut);
        few = (asks_for v to is to_is).lines;
        sound = sound;
        fits = fits;
        takes = takes;
        inside = inside;
        small = small;
        limit = limit;
      };
      first = omega (arith, mid_is);
      last = omega (arith, mid_is, to_is, low);
      count = ap length cells_are ∙ is.cells ∙ ap (λ (n : ℕ). n * row_bytes d) (sym all) ∙ sym regroup;
      known = ap length early_are ∙ is.chunks ∙ ap (touched d d.shape.rows) (sym mid_is);
      placed = subst (λ (ps : List ChunkPlace). AllEarly d (λ key. address_in w key) ps) (sym early_are) placed;
      ends = subst (λ (ps : List ChunkPlace). (k : ℕ) (p : ChunkPlace) → slice_get ps k ≡ Some p → p.address + chunk_len d ≤ s.end) (sym early_are) ends;
    }

-- ---- What its calls make

-- the calls, of a session v, up to row `to`; r, b and q are the superblock, the header and the backlog then
pub record Carried (v : Session) (to : ℕ) (t : Space) (w : IndexView) (ws : List Write) (r : Super) (b : List ℕ) (q : Backlog) : Type 0 where
  pub there : IsWhole v
  pub some : 0 < v.waits
  pub to_is : to ≡ rows_of v
  pub small : to < 2 ^ 52
  pub typed : IsIntType v.dataset.int_type
  pub filled : length (fill_cell v.dataset) ≡ v.dataset.int_type.size
  pub chunks : List ChunkPlace
  pub added : List Key
  pub between : Space
  pub named : IndexView
  pub places : Space
  pub places_are : places ≡ v.places
  pub names : AreNamed v.dataset to v.index chunks added named
  pub early : List ChunkPlace
  pub early_are : early ≡ v.chunks
  pub taken : AreTakenBehind v.dataset (λ key. address_in v.index key) early places chunks between
  pub all : length chunks ≡ touched v.dataset v.dataset.shape.rows to
  pub roomy : IsRoomy v.dataset v.index → IsRoomy v.dataset named
  pub cells : List ℕ
  pub cells_are : cells ≡ v.waiting
  pub rows : List Write
  pub mid : ℕ
  pub mid_is : mid ≡ next_row v
  pub exact : rows ≡ writes_behind v.dataset cells v.dataset.shape.rows mid to chunks
  pub written : mid < to → RowsWritten v.dataset cells mid to (next_places v.dataset v.dataset.shape.rows mid chunks) rows
  pub moves : List Move
  pub copies : List Write
  pub fixed : List Write
  pub plan : IsPlan named between moves copies fixed w t
  pub supers : List Write
  pub end : ℕ
  pub end_is : end ≡ t.end
  pub end_small : end < 2 ^ 64
  pub ended : AreEnded v.root end supers
  pub unraised : end ≡ v.root.end → supers ≡ []
  pub root : r ≡ record (v.root) { end = end }
  pub header : b ≡ with_rows_bytes v.header to None
  pub last : Write
  pub last_is : last ≡ record { at = v.place; piece = b }
  pub items : ws ≡ rows ++ (copies ++ (supers ++ (fixed ++ last ∷ [])))
  pub header_short : length v.header ≤ 512
  pub planned : IsPlanned ws q

module _ (v : Session) (to : ℕ) (t : Space) (w : IndexView) (ws : List Write) (r : Super) (b : List ℕ) (q : Backlog) (x : Carried v to t w ws r b q) (is : IsSession v) where
  carried_planned : ArePlanned v v.index v.places w t
  carried_planned =
      let d = v.dataset in
      let from = d.shape.rows in
      let rows = rows_of v in
      record {
        fits = is.fits;
        some = x.some;
        small = omega (arith, x.small, x.to_is);
        few = is.few;
        typed = x.typed;
        filled = x.filled;
        chunks = x.chunks;
        added = x.added;
        named = x.named;
        between = x.between;
        names = subst (λ (row : ℕ). AreNamed d row v.index x.chunks x.added x.named) x.to_is x.names;
        taken =
            subst (λ (s : Space). AreTakenBehind d (λ key. address_in v.index key) v.chunks s x.chunks x.between) x.places_are
            (subst (λ (early : List ChunkPlace). AreTakenBehind d (λ key. address_in v.index key) early x.places x.chunks x.between) x.early_are x.taken);
        all = subst (λ (row : ℕ). length x.chunks ≡ touched d from row) x.to_is x.all;
        rows = x.rows;
        exact =
            x.exact
            ∙ ap (λ (row : ℕ). writes_behind d x.cells from x.mid row x.chunks) x.to_is
            ∙ ap (λ (row : ℕ). writes_behind d x.cells from row rows x.chunks) x.mid_is
            ∙ ap (λ (c : List ℕ). writes_behind d c from (next_row v) rows x.chunks) x.cells_are;
        written =
            subst (λ (c : List ℕ). next_row v < rows → RowsWritten d c (next_row v) rows (next_places d from (next_row v) x.chunks) x.rows) x.cells_are
            (subst (λ (row : ℕ). row < rows → RowsWritten d x.cells row rows (next_places d from row x.chunks) x.rows) x.mid_is
            (subst (λ (row : ℕ). x.mid < row → RowsWritten d x.cells x.mid row (next_places d from x.mid x.chunks) x.rows) x.to_is x.written));
        moves = x.moves;
        copies = x.copies;
        fixed = x.fixed;
        plan = x.plan;
        supers = x.supers;
        ended = subst (λ (n : ℕ). AreEnded v.root n x.supers) x.end_is x.ended;
        unraised = subst (λ (n : ℕ). n ≡ v.root.end → x.supers ≡ []) x.end_is x.unraised;
        roomy = x.roomy;
      }

  carried_small : t.end < 2 ^ 64
  carried_small = omega (arith, x.end_is, x.end_small)

  carried_joined : ws ≡ x.rows ++ (x.copies ++ (x.supers ++ (x.fixed ++ header_piece v ∷ [])))
  carried_joined =
      let put : List ℕ → Write = λ p. record { at = v.place; piece = p } in
      let same : x.last ≡ header_piece v = x.last_is ∙ ap put (x.header ∙ ap (λ (n : ℕ). with_rows_bytes v.header n None) x.to_is) in
      x.items ∙ ap (λ (h : Write). x.rows ++ (x.copies ++ (x.supers ++ (x.fixed ++ h ∷ [])))) same

  abbrev carried : Session
  carried = record v {
    root = r;
    header = b;
    dataset = with_rows to v.dataset;
    places = t;
    waiting = q.waiting;
    waits = q.waits;
    pending = drop q.shown q.plan.items;
    early = q.early;
    chunks = q.chunks.items;
    flushing = q.flushing;
    index = w;
  }

  carried_after : carried ≡ flushed_of v t ws w
  carried_after =
      let rows = rows_of v in
      let p = x.planned in
      let root : r ≡ record (v.root) { end = t.end } = x.root ∙ ap (λ (n : ℕ). record (v.root) { end = n }) x.end_is in
      let header : b ≡ with_rows_bytes v.header rows None = x.header ∙ ap (λ (n : ℕ). with_rows_bytes v.header n None) x.to_is in
      let pending = pending_is ws q p in
      λ i. record v {
        root = root i;
        header = header i;
        dataset = with_rows (x.to_is i) v.dataset;
        places = t;
        waiting = p.waiting i;
        waits = p.waits i;
        pending = pending i;
        early = p.early i;
        chunks = p.chunks i;
        flushing = p.flushing i;
        index = w;
      }

  pub carried_is : IsSession carried
  unfolding carried_planned
  carried_is = subst IsSession (sym carried_after) (flushed_is v is x.there t w ws carried_planned carried_small carried_joined x.header_short)

  pub carried_pieces : ArePieces t.end ws
  unfolding carried_planned
  carried_pieces = flushed_pieces v is x.there t w ws carried_planned carried_small carried_joined x.header_short

  -- the list of them all is of such pieces, and so is what is pending
  pub carried_list : ArePieces t.end q.plan.items
  carried_list = subst (ArePieces t.end) (sym x.planned.plan) carried_pieces

  pub carried_ends : AllEndBy t.end (drop q.shown q.plan.items)
  carried_ends = subst (AllEndBy t.end) (sym (pending_is ws q x.planned)) carried_pieces.within

  pub carried_flushed : (s : Session) → v ≡ s → IsFlushed s carried
  unfolding carried_planned
  carried_flushed s e' =
      subst (λ (u : Session). IsFlushed u carried) e'
      (subst (λ (u : Session). IsFlushed v u) (sym carried_after) (shown_flushed v is x.there t w ws carried_planned carried_small carried_joined x.header_short))

-- ---- A refused flush

module _ (v : Session) (to : ℕ) (u : IndexView) (to_is : to ≡ rows_of v) (p : IsPartly v.dataset to v.index [] u) where
  partly_now : IsPartly v.dataset (rows_of v) v.index [] u
  partly_now = subst (λ (n : ℕ). IsPartly v.dataset n v.index [] u) to_is p

  -- what is not there is not there before
  lacked : HeldTold v.index u → IsUnmade (record v { index = u }) → IsUnmade v
  lacked kept (inl none) = inl none
  lacked kept (inr lacking) = inr (sym (same_block v.index u kept.like.fixed) ∙ lacking)

  pub refused_is : IsSession v → IsSession (record v { index = u })
  refused_is is =
      let kept : HeldTold v.index u = placing_laws.kept v.dataset to v.index u p in
      record {
        some_columns = is.some_columns;
        cells = is.cells;
        few = is.few;
        version = is.version;
        begun = is.begun;
        kind = is.kind ∙ sym kept.like.kind;
        sound = kept.like.sound;
        fits = fits_same v.dataset v.index u kept.like.kind is.fits;
        header = is.header;
        addressed = is.addressed;
        header_ends = is.header_ends;
        small = is.small;
        limit = is.limit;
        inside = placing_laws.carried v.dataset v.places.end v.places.end v.index u kept.map (omega arith) is.inside;
        tops = λ whole. subst (λ us. ranges.AllEndBy v.places.end us) (sym kept.like.fixed) (is.tops (record { named = whole.named; made = sym (same_block v.index u kept.like.fixed) ∙ whole.made }));
        head = λ named lacking. is.head named (sym (same_block v.index u kept.like.fixed) ∙ lacking);
        blank = λ lacks key. kept.map key ∙ is.blank (lacked kept lacks) key;
        live = λ lacks. is.live (lacked kept lacks);
        early = is.early;
        chunks = is.chunks;
        placed = λ k p at. subst (λ (f : Key → ℕ). IsEarlyPlace v.dataset f v.dataset.shape.rows k p) (λ i key. sym (kept.map key) i) (is.placed k p at);
        ends = is.ends;
        flushing = is.flushing;
        busy = is.busy;
        budget_low = is.budget_low;
        budget_high = is.budget_high;
      }

  pub refused_same : IsWhole v → (IsRoomy v.dataset v.index → IsRoomy v.dataset u) → (s : Session) → v ≡ s → SameBut s (record v { index = u })
  refused_same there roomy s e =
      let own : SameBut v (record v { index = u }) = record { session = refl; held = partly_now; unmade = λ lacks. elim lacks [ inl none ↦ absurd (there.named none) | inr lacking ↦ never (has_no_block v.index) lacking there.made ]; roomy = roomy } in
      subst (λ (t : Session). SameBut t (record v { index = u })) e own

pub same_error : {T U E : Type 0} (e x : E) → ◌≡◌ {A = Result T E} (Err e) (Err x) → ◌≡◌ {A = Result U E} (Err e) (Err x)
same_error {T} {U} e x is = let same : e ≡ x = cc in ap Err same

-- ---- Room

pub lengths_joined : (a b c d : List Write) (h : Write) → length (a ++ (b ++ (c ++ (d ++ h ∷ [])))) ≡ length a + length b + length c + length d + 1
lengths_joined a b c d h = omega (arith, length-append a (b ++ (c ++ (d ++ h ∷ []))), length-append b (c ++ (d ++ h ∷ [])), length-append c (d ++ h ∷ []), length-append d (h ∷ []))

pub one_at_most : (o : Option Write) → length (option_list o) ≤ 1
one_at_most None = omega arith
one_at_most (Some w) = omega arith
