-- What the code of a first flush makes of a session.
use Rattle.std.proofs.Common.{◌≡◌, ◌≢◌, ℕ, ◌+◌, ◌^◌, ◌<◌, ◌≤◌, true, List, [], length, drop, Option, Some, ap, sym, ◌∙◌, subst, arith, inl, inr}
use Rattle.std.specs.List.{slice_get}
use Rattle.h5w_model.specs.Arrays.{eahd_len}
use Rattle.h5w_model.specs.Numbers.{undefined}
use Rattle.h5w_model.specs.declared.cell.IndexKind.TheVariants.{Tree}
use Rattle.h5w_model.specs.Headers.{with_rows_bytes}
use Rattle.h5w_model.specs.Logs.{div_up}
use Rattle.h5w_model.specs.Messages.{IsIntType}
use Rattle.h5w_model.specs.declared.cell.Key.{Key}
use Rattle.h5w_model.specs.declared.piece.Write.{Write}
use Rattle.h5w_model.specs.declared.root.Super.{Super}
use Rattle.h5w_space.specs.Space.{Space}
use Rattle.h5w_space.specs.declared.Full.{Full}
use Rattle.h5w_cache.specs.declared.moves.Move.{Move}
use Rattle.h5w_chunks.specs.Grids.{chunk_len, fill_cell}
use Rattle.h5w_chunks.specs.Rows.{RowsWritten}
use Rattle.h5w_chunks.specs.Shares.{first_line, touched, touched_key}
use Rattle.h5w_chunks.specs.declared.grid.ChunkPlace.{ChunkPlace}
use Rattle.h5w_step_laws.specs.Files.{with_index}
use Rattle.h5w_flush_laws.specs.EarlyRows.{IsEarlyPlace}
use Rattle.h5w_flush_laws.specs.Parts.{AreEnded}
use Rattle.h5w_index.specs.Blocks.{has_no_block}
use Rattle.h5w_index.specs.Views.{IndexView, IsSound, TakesKey, address_in, an_array, a_tree, kind_of}
use Rattle.h5w_index.specs.Steps.{IsPlan}
use Rattle.h5w_index.specs.Full.{IsFullPart}
use Rattle.h5w_index.specs.Naming.{AreNamed, AreTakenBehind}
use Rattle.h5w_index.specs.Placing.{AreInside, Fits}
use Rattle.h5w_writer.specs.Backlogs.{IsPlanned}
use Rattle.h5w_writer.specs.declared.backlog.Backlog.{Backlog}
use Rattle.h5w_writer.proofs.BacklogLemmas.{pending_is}
use Rattle.h5w_writer.specs.Sessions.{AllEndBy, ArePieces, IsRoomy, IsSession, IsUnmade, Session, next_row, rows_of, with_rows}
use Rattle.h5w_pieces.specs.NextPlaces.{next_places, writes_behind}
use Rattle.h5w_writer.specs.Flushes.{ArePlanned}
use Rattle.h5w_writer.specs.Refusals.{IsStartFull, IsUnfilled, IsUnplaced}
use Rattle.h5w_pieces.specs.Joined.{AreJoined, IsNaming}
use Rattle.h5w_writer.specs.Starts.{IsStartFlushed, IsStartedAt, naming_piece, started_of}
use Rattle.h5w_writer.proofs.StartKinds.{made_none}
use Rattle.h5w_writer.proofs.StartingLemmas.{made_fits, made_inside, made_takes, shown_started, started_is, started_pieces}

-- ---- What the places of such a flush ask for

-- of the index that is made at places, up to row `to`
pub record AsksOfMade (v : Session) (to : ℕ) (made : IndexView) (first : Space) : Type 0 where
  pub sound : IsSound made
  pub fits : Fits v.dataset made
  pub takes : (key : Key) → key.i < first_line v.dataset (div_up to v.dataset.layout.chunk_rows) → TakesKey made key
  pub inside : AreInside v.dataset first.end made
  pub small : first.end < 2 ^ 64
  pub limit : first.limit ≤ 2 ^ 40
  -- the chunks that were written early are new ones: the index names none, as that which is not there did not
  pub placed : (k : ℕ) (p : ChunkPlace) → slice_get v.chunks k ≡ Some p → IsEarlyPlace v.dataset (λ key. address_in made key) v.dataset.shape.rows k p
  pub ends : (k : ℕ) (p : ChunkPlace) → slice_get v.chunks k ≡ Some p → p.address + chunk_len v.dataset ≤ first.end

pub asks_of_made : (v : Session) (to : ℕ) (places : Space) (at : ℕ) (made : IndexView) (first : Space) → IsSession v → IsUnmade v → to ≡ rows_of v → places ≡ v.places → v.dataset.layout.index ≡ kind_of made
    → IsStartedAt v.dataset.layout.address places at made first → AsksOfMade v to made first
asks_of_made v to places at made first is unmade e places_are kind start = record {
  sound = start.sound;
  fits = made_fits v is made kind;
  takes = subst (λ (n : ℕ). (key : Key) → key.i < first_line v.dataset (div_up n v.dataset.layout.chunk_rows) → TakesKey made key) (sym e) (made_takes v is made kind);
  inside = made_inside v.dataset first.end v.dataset.layout.address places at made first start;
  small =
      let end : places.end ≡ v.places.end = ap (λ (s : Space). s.end) places_are in
      let most : places.limit ≡ v.places.limit = ap (λ (s : Space). s.limit) places_are in
      omega (arith, end, most, start.raised.fits, start.raised.limit, is.small, is.limit);
  limit = subst (λ (n : ℕ). n ≤ 2 ^ 40) (sym (start.raised.limit ∙ ap (λ (s : Space). s.limit) places_are)) is.limit;
  placed = λ k p here.
      let place = is.placed k p here in
      let key = touched_key v.dataset v.dataset.shape.rows k in
      let none : address_in made key ≡ undefined = made_none v.dataset.layout.address places at made first start.made key in
      record { defined = place.defined; kept = λ there. absurd (there none); stored = λ stored. absurd (place.stored stored (is.blank unmade key)); whole = λ new there. absurd (there none) };
  ends = λ k p here. let end : places.end ≡ v.places.end = ap (λ (s : Space). s.end) places_are in omega (arith, end, start.raised.rises, is.ends k p here);
}

-- what the places of the index's blocks in place ask for
pub record AsksOfStart (v : Session) (places : Space) : Type 0 where
  pub head : v.dataset.layout.address ≢ undefined → v.dataset.layout.address + eahd_len ≤ places.end
  pub tree : v.dataset.layout.index ≡ Tree → v.dataset.layout.address ≡ undefined

pub asks_of_start : (v : Session) (places : Space) → IsSession v → IsUnmade v → places ≡ v.places → AsksOfStart v places
asks_of_start v places is (inl none) places_are = record { head = λ named. absurd (named none); tree = λ tree. none }
asks_of_start v places is (inr lacking) places_are = record {
  head = λ named. subst (λ (s : Space). v.dataset.layout.address + eahd_len ≤ s.end) (sym places_are) (is.head named lacking);
  tree = λ tree. absurd (no_tree v.index (sym is.kind ∙ tree) lacking);
}
  where
    no_tree : (w : IndexView) → kind_of w ≡ Tree → has_no_block w ≡ true → ⊥
    no_tree (an_array w) kind none = absurd cc
    no_tree (a_tree p w) kind none = absurd cc

-- ---- What its calls make

-- the calls, of a session v, up to row `to`; r, b and q are the superblock, the header and the backlog then
pub record StartCarried (v : Session) (to : ℕ) (t : Space) (w : IndexView) (ws : List Write) (r : Super) (b : List ℕ) (q : Backlog) (at : ℕ) : Type 0 where
  pub unmade : IsUnmade v
  pub some : 0 < v.waits
  pub to_is : to ≡ rows_of v
  pub small : to < 2 ^ 52
  pub typed : IsIntType v.dataset.int_type
  pub filled : length (fill_cell v.dataset) ≡ v.dataset.int_type.size
  pub places : Space
  pub places_are : places ≡ v.places
  pub first : Space
  pub made : IndexView
  pub kind : v.dataset.layout.index ≡ kind_of made
  pub start : IsStartedAt v.dataset.layout.address places at made first
  pub chunks : List ChunkPlace
  pub added : List Key
  pub between : Space
  pub named : IndexView
  pub names_are : AreNamed v.dataset to made chunks added named
  pub early : List ChunkPlace
  pub early_are : early ≡ v.chunks
  pub taken : AreTakenBehind v.dataset (λ key. address_in made key) early first chunks between
  pub all : length chunks ≡ touched v.dataset v.dataset.shape.rows to
  pub roomy : IsRoomy v.dataset made → IsRoomy v.dataset named
  pub cells : List ℕ
  pub cells_are : cells ≡ v.waiting
  pub rows : List Write
  pub mid : ℕ
  pub mid_is : mid ≡ next_row v
  pub exact : rows ≡ writes_behind v.dataset cells v.dataset.shape.rows mid to chunks
  pub written : mid < to → RowsWritten v.dataset cells mid to (next_places v.dataset v.dataset.shape.rows mid chunks) rows
  pub moves : List Move
  pub copies : List Write
  pub fixed : List Write
  pub plan : IsPlan named between moves copies fixed w t
  pub supers : List Write
  pub end : ℕ
  pub end_is : end ≡ t.end
  pub end_small : end < 2 ^ 64
  pub ended : AreEnded v.root end supers
  pub unraised : end ≡ v.root.end → supers ≡ []
  pub root : r ≡ record (v.root) { end = end }
  pub naming : Option ℕ
  pub names : IsNaming v.dataset.layout.address at naming
  pub header : b ≡ with_rows_bytes v.header to naming
  pub last : Write
  pub last_is : last ≡ record { at = v.place; piece = b }
  pub items : AreJoined naming rows copies fixed supers last ws
  pub header_short : length v.header ≤ 512
  pub planned : IsPlanned ws q

module _ (v : Session) (to : ℕ) (t : Space) (w : IndexView) (ws : List Write) (r : Super) (b : List ℕ) (q : Backlog) (at : ℕ) (x : StartCarried v to t w ws r b q at) (is : IsSession v) where
  start_now : IsStartedAt v.dataset.layout.address v.places at x.made x.first
  start_now = subst (λ (s : Space). IsStartedAt v.dataset.layout.address s at x.made x.first) x.places_are x.start

  carried_planned : ArePlanned v x.made x.first w t
  carried_planned =
      let d = v.dataset in
      let from = d.shape.rows in
      let rows = rows_of v in
      record {
        fits = made_fits v is x.made x.kind;
        some = x.some;
        small = omega (arith, x.small, x.to_is);
        few = is.few;
        typed = x.typed;
        filled = x.filled;
        chunks = x.chunks;
        added = x.added;
        named = x.named;
        between = x.between;
        names = subst (λ (n : ℕ). AreNamed d n x.made x.chunks x.added x.named) x.to_is x.names_are;
        taken = subst (λ (early : List ChunkPlace). AreTakenBehind d (λ key. address_in x.made key) early x.first x.chunks x.between) x.early_are x.taken;
        all = subst (λ (n : ℕ). length x.chunks ≡ touched d from n) x.to_is x.all;
        rows = x.rows;
        exact =
            x.exact
            ∙ ap (λ (n : ℕ). writes_behind d x.cells from x.mid n x.chunks) x.to_is
            ∙ ap (λ (n : ℕ). writes_behind d x.cells from n rows x.chunks) x.mid_is
            ∙ ap (λ (c : List ℕ). writes_behind d c from (next_row v) rows x.chunks) x.cells_are;
        written =
            subst (λ (c : List ℕ). next_row v < rows → RowsWritten d c (next_row v) rows (next_places d from (next_row v) x.chunks) x.rows) x.cells_are
            (subst (λ (n : ℕ). n < rows → RowsWritten d x.cells n rows (next_places d from n x.chunks) x.rows) x.mid_is
            (subst (λ (n : ℕ). x.mid < n → RowsWritten d x.cells x.mid n (next_places d from x.mid x.chunks) x.rows) x.to_is x.written));
        moves = x.moves;
        copies = x.copies;
        fixed = x.fixed;
        plan = x.plan;
        supers = x.supers;
        ended = subst (λ (n : ℕ). AreEnded v.root n x.supers) x.end_is x.ended;
        unraised = subst (λ (n : ℕ). n ≡ v.root.end → x.supers ≡ []) x.end_is x.unraised;
        roomy = x.roomy;
      }

  carried_small : t.end < 2 ^ 64
  carried_small = omega (arith, x.end_is, x.end_small)

  carried_joined : AreJoined x.naming x.rows x.copies x.fixed x.supers (naming_piece v x.naming) ws
  carried_joined =
      let put : List ℕ → Write = λ p. record { at = v.place; piece = p } in
      let same : x.last ≡ naming_piece v x.naming = x.last_is ∙ ap put (x.header ∙ ap (λ (n : ℕ). with_rows_bytes v.header n x.naming) x.to_is) in
      subst (λ (h : Write). AreJoined x.naming x.rows x.copies x.fixed x.supers h ws) same x.items

  abbrev carried : Session
  carried = record v {
    root = r;
    header = b;
    dataset = with_index at (with_rows to v.dataset);
    places = t;
    waiting = q.waiting;
    waits = q.waits;
    pending = drop q.shown q.plan.items;
    early = q.early;
    chunks = q.chunks.items;
    flushing = q.flushing;
    index = w;
  }

  carried_after : carried ≡ started_of v at x.naming t ws w
  carried_after =
      let rows = rows_of v in
      let p = x.planned in
      let root : r ≡ record (v.root) { end = t.end } = x.root ∙ ap (λ (n : ℕ). record (v.root) { end = n }) x.end_is in
      let header : b ≡ with_rows_bytes v.header rows x.naming = x.header ∙ ap (λ (n : ℕ). with_rows_bytes v.header n x.naming) x.to_is in
      let pending = pending_is ws q p in
      λ i. record v {
        root = root i;
        header = header i;
        dataset = with_index at (with_rows (x.to_is i) v.dataset);
        places = t;
        waiting = p.waiting i;
        waits = p.waits i;
        pending = pending i;
        early = p.early i;
        chunks = p.chunks i;
        flushing = p.flushing i;
        index = w;
      }

  pub start_carried_is : IsSession carried
  unfolding carried_planned
  start_carried_is = subst IsSession (sym carried_after) (started_is v is at x.made x.first x.kind start_now x.unmade x.naming x.names t w ws carried_planned carried_small carried_joined x.header_short)

  pub start_carried_pieces : ArePieces t.end ws
  unfolding carried_planned
  start_carried_pieces = started_pieces v is at x.made x.first x.kind start_now x.unmade x.naming x.names t w ws carried_planned carried_small carried_joined x.header_short

  -- the list of them all is of such pieces, and so is what is pending
  pub start_carried_list : ArePieces t.end q.plan.items
  start_carried_list = subst (ArePieces t.end) (sym x.planned.plan) start_carried_pieces

  pub start_carried_ends : AllEndBy t.end (drop q.shown q.plan.items)
  start_carried_ends = subst (AllEndBy t.end) (sym (pending_is ws q x.planned)) start_carried_pieces.within

  pub start_carried_flushed : (s : Session) → v ≡ s → IsStartFlushed s carried
  unfolding carried_planned
  start_carried_flushed s e' =
      subst (λ (u : Session). IsStartFlushed u carried) e'
      (subst (λ (u : Session). IsStartFlushed v u) (sym carried_after) (shown_started v is at x.made x.first x.kind start_now x.unmade x.naming x.names t w ws carried_planned carried_small carried_joined x.header_short))

-- ---- A file that has no place

pub start_unplaced : (v : Session) (places : Space) (full : Full) → places ≡ v.places → IsUnplaced v.dataset.layout.index v.dataset.layout.address places full → (s : Session) → v ≡ s → IsStartFull s full
start_unplaced v places full places_are none s e =
    let now : IsUnplaced v.dataset.layout.index v.dataset.layout.address v.places full = subst (λ (t : Space). IsUnplaced v.dataset.layout.index v.dataset.layout.address t full) places_are none in
    subst (λ (u : Session). IsStartFull u full) e (inl now)

pub start_unfilled : (v : Session) (to : ℕ) (places : Space) (at : ℕ) (made : IndexView) (first : Space) (full : Full) → to ≡ rows_of v → places ≡ v.places → v.dataset.layout.index ≡ kind_of made → IsStartedAt v.dataset.layout.address places at made first
    → (early : List ChunkPlace) → early ≡ v.chunks → IsFullPart v.dataset to made early first full → (s : Session) → v ≡ s → IsStartFull s full
start_unfilled v to places at made first full to_is places_are kind start early early_are part s e =
    let now : IsUnfilled v full = record {
      at = at;
      first = first;
      made = made;
      kind = kind;
      start = subst (λ (t : Space). IsStartedAt v.dataset.layout.address t at made first) places_are start;
      none = subst (λ (cs : List ChunkPlace). IsFullPart v.dataset (rows_of v) made cs first full) early_are (subst (λ (n : ℕ). IsFullPart v.dataset n made early first full) to_is part);
    } in
    subst (λ (u : Session). IsStartFull u full) e (inr now)
