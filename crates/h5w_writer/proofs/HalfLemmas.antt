-- Between the halves of a flush: a session again, which the second half takes on, or which is given up.
use Rattle.std.proofs.Common.{◌≡◌, ℕ, ◌+◌, ◌-◌, ◌^◌, ◌<◌, ◌≤◌, max, List, [], ◌∷◌, length, drop, None, Result, Ok, Err, refl, ap, sym, ◌∙◌, subst, inl, inr, arith}
use Rattle.std.specs.Prelude.{IfOk, vec_len, vec_capacity}
use Rattle.std.specs.Global.{Vec}
use Rattle.h5w_model.specs.Messages.{IsIntType}
use Rattle.h5w_model.specs.Headers.{with_rows_bytes}
use Rattle.h5w_model.specs.Tables.{needed}
use Rattle.h5w_model.specs.Findings.{Used}
use Rattle.h5w_model.specs.declared.cell.Key.{Key}
use Rattle.h5w_model.specs.declared.root.Super.{Super}
use Rattle.h5w_model.specs.declared.piece.Write.{Write}
use Rattle.h5w_step_laws.specs.Ranges as ranges
use Rattle.h5w_step_laws.proofs.RangeLemmas.{ends_later}
use Rattle.h5w_space.specs.Space.{Space}
use Rattle.h5w_chunks.specs.Grids.{fill_cell}
use Rattle.h5w_chunks.specs.Rows.{RowsWritten}
use Rattle.h5w_chunks.specs.Shares.{new_writes, touched}
use Rattle.h5w_chunks.specs.declared.grid.ChunkPlace.{ChunkPlace}
use Rattle.h5w_pieces.specs.NextPlaces.{next_places, writes_behind}
use Rattle.h5w_flush_laws.specs.Parts.{AreEnded}
use Rattle.h5w_index.specs.Views.{IndexView, IsSound, an_array, a_tree, fixed_of}
use Rattle.h5w_index.specs.Blocks.{has_no_block}
use Rattle.h5w_index.specs.Marks.{IsRaised}
use Rattle.h5w_index.specs.Steps.{IsBegun, copy_pieces, in_place_pieces}
use Rattle.h5w_index.specs.Naming.{AreNamed}
use Rattle.h5w_index.specs.Placing.{AreInside, IsPartly}
use Rattle.h5w_index.specs.declared.flush.IndexFlush.{IndexFlush}
use Rattle.h5w_index.specs.declared.flush.IndexFlush.TheVariants.{Array, Tree}
use Rattle.h5w_index.proofs.ArrayBoundLemmas.{moves_raised}
use Rattle.h5w_index.proofs.TreeBoundLemmas.{nodes_raised}
use Rattle.h5w_index.proofs.RaisedLemmas.{raised_none, retired_raised}
use Rattle.h5w_index.proofs.PlacingLemmas.{placing_laws}
use Rattle.h5w_writer.specs.Backlogs.{AreIn, IsEmptied}
use Rattle.h5w_writer.specs.declared.backlog.Backlog.{Backlog}
use Rattle.h5w_writer.specs.declared.planned.Prepared.{Prepared}
use Rattle.h5w_writer.specs.declared.planned.Growing.{Growing}
use Rattle.h5w_writer.specs.declared.planned.Starting.{Starting}
use Rattle.h5w_writer.specs.Halves.{IsReady, PlansAlone, PlansGrowth, PlansStart, ShowsPrepared, grown_of}
use Rattle.h5w_writer.specs.Sessions.{AllEndBy, ArePieces, IsRoomy, IsSession, IsUnmade, IsWhole, Session, chunk_limit, next_row, rows_of, with_rows}
use Rattle.h5w_writer.specs.Flushes.{IsFlushed, IsPrepared, SameBut}
use Rattle.h5w_writer.specs.Lent.{IsFurther}
use Rattle.h5w_writer.proofs.CarriedLemmas.{Carried, carried_ends, carried_flushed, carried_is, carried_list, refused_is, refused_same}
use Rattle.h5w_writer.proofs.EarlyLemmas.{none_touched}
use Rattle.h5w_writer.proofs.FlushedLemmas.{fits_same}
use Rattle.h5w_writer.proofs.HeaderAlone.{never, same_block}
use Rattle.h5w_writer.proofs.PastLemmas.{ends_later as pieces_later}

-- ---- The places of a plan that is begun

pub further : (s t : Space) (most : ℕ) → IsRaised s t most → IsFurther s t
further s t most r = record { rises = r.rises; limit = r.limit; fits = omega (arith, r.fits, r.limit) }

pub further_on : (s t u : Space) → IsFurther s t → IsFurther t u → IsFurther s u
further_on s t u a b = record { rises = omega (arith, a.rises, b.rises); limit = b.limit ∙ a.limit; fits = omega (arith, a.fits, b.fits, a.limit) }

pub begun_further : (v : IndexView) (s : Space) (b : IndexFlush) (t : Space) → IsSound v → IsBegun v s b t → IsFurther s t
begun_further (an_array v) s (Array b) t is x =
    let moved = further s x.taken.taken _ (moves_raised v is s b.moves x.taken.taken x.taken.moves) in
    let roomy = further x.taken.taken x.roomy 0 (raised_none x.taken.taken x.roomy (ap (λ (u : Space). u.end) x.taken.roomy) (ap (λ (u : Space). u.limit) x.taken.roomy)) in
    further_on s x.roomy t (further_on s x.taken.taken x.roomy moved roomy) (further x.roomy t 0 (retired_raised x.roomy b.moves t x.retired))
begun_further (a_tree p v) s (Tree b) t is x =
    let moved = further s x.taken.taken _ (nodes_raised s b.moves x.taken.taken x.taken.moves) in
    let roomy = further x.taken.taken x.roomy 0 (raised_none x.taken.taken x.roomy (ap (λ (u : Space). u.end) x.taken.roomy) (ap (λ (u : Space). u.limit) x.taken.roomy)) in
    further_on s x.roomy t (further_on s x.taken.taken x.roomy moved roomy) (further x.roomy t 0 (retired_raised x.roomy b.moves t x.retired))
begun_further (an_array v) s (Tree b) t is x = absurd x
begun_further (a_tree p v) s (Array b) t is x = absurd x

-- ---- What the first half shows

-- in the words of the code
pub ready_of : (s : Session) (v : IndexView) (before : Space) (mid to : ℕ) (cells : List ℕ) (early : List ChunkPlace) (places : Space) (p : Prepared) (chunks : List ChunkPlace) (added : List Key) (named : IndexView) (t : Space)
    → mid ≡ next_row s → to ≡ rows_of s → cells ≡ s.waiting → early ≡ s.chunks → places ≡ before
    → (IsRoomy s.dataset v → IsRoomy s.dataset named) → ShowsPrepared s.dataset v mid to cells early places p chunks added named t → IsReady s v before p added named t
ready_of s v before mid to cells early places p chunks added named t mid_is to_is cells_are early_are places_are roomy x =
    let d = s.dataset in
    let from = d.shape.rows in
    let rows = rows_of s in
    record {
      chunks = chunks;
      prepared =
          subst (λ (n : ℕ). IsPrepared d n v s.chunks before chunks added named p.begun t) to_is
          (subst (λ (u : Space). IsPrepared d to v s.chunks u chunks added named p.begun t) places_are (subst (λ (es : List ChunkPlace). IsPrepared d to v es places chunks added named p.begun t) early_are x.prepared));
      all = subst (λ (n : ℕ). length chunks ≡ touched d from n) to_is x.all;
      exact =
          x.exact
          ∙ ap (λ (n : ℕ). writes_behind d cells from mid n chunks) to_is
          ∙ ap (λ (n : ℕ). writes_behind d cells from n rows chunks) mid_is
          ∙ ap (λ (c : List ℕ). writes_behind d c from (next_row s) rows chunks) cells_are;
      written =
          subst (λ (c : List ℕ). next_row s < rows → RowsWritten d c (next_row s) rows (next_places d from (next_row s) chunks) p.writes.items) cells_are
          (subst (λ (n : ℕ). n < rows → RowsWritten d cells n rows (next_places d from n chunks) p.writes.items) mid_is
          (subst (λ (n : ℕ). mid < n → RowsWritten d cells mid n (next_places d from mid chunks) p.writes.items) to_is x.written));
      roomy = roomy;
      after = x.after;
      room = x.room;
      end = x.end;
    }

-- the writes of rows that go into one chunk, for a session and what it is seen as
pub alone_exact : {E : Type 0} (v s : Session) (p : ChunkPlace) (r : Result (Vec Write) E) (to : ℕ) (cells : List ℕ) → v ≡ s → to ≡ rows_of s → cells ≡ v.waiting → IfOk r (λ ws. ws.items ≡ new_writes v.dataset cells v.dataset.shape.rows to (p ∷ []))
    → IfOk r (λ ws. ws.items ≡ new_writes s.dataset s.waiting s.dataset.shape.rows (rows_of s) (p ∷ []))
alone_exact v s p (Ok ws) to cells seen to_is cells_are is =
    is
    ∙ ap (λ (n : ℕ). new_writes v.dataset cells v.dataset.shape.rows n (p ∷ [])) (to_is ∙ ap rows_of (sym seen))
    ∙ ap (λ (c : List ℕ). new_writes v.dataset c v.dataset.shape.rows (rows_of v) (p ∷ [])) cells_are
    ∙ ap (λ (u : Session). new_writes u.dataset u.waiting u.dataset.shape.rows (rows_of u) (p ∷ [])) seen
alone_exact v s p (Err e) to cells seen to_is cells_are is = tt

pub alone_written : {E : Type 0} (v s : Session) (p : ChunkPlace) (r : Result (Vec Write) E) (to : ℕ) (cells : List ℕ) → v ≡ s → to ≡ rows_of s → cells ≡ v.waiting → IfOk r (λ ws. RowsWritten v.dataset cells v.dataset.shape.rows to (p ∷ []) ws.items)
    → IfOk r (λ ws. RowsWritten s.dataset s.waiting s.dataset.shape.rows (rows_of s) (p ∷ []) ws.items)
alone_written v s p (Ok ws) to cells seen to_is cells_are is =
    subst (λ (u : Session). RowsWritten u.dataset u.waiting u.dataset.shape.rows (rows_of u) (p ∷ []) ws.items) seen
    (subst (λ (c : List ℕ). RowsWritten v.dataset c v.dataset.shape.rows (rows_of v) (p ∷ []) ws.items) cells_are
    (subst (λ (n : ℕ). RowsWritten v.dataset cells v.dataset.shape.rows n (p ∷ []) ws.items) (to_is ∙ ap rows_of (sym seen)) is))
alone_written v s p (Err e) to cells seen to_is cells_are is = tt

-- ---- The session between

-- what the code makes of it
abbrev pub after_growth : Session → ℕ → IndexView → Space → Backlog → Session
after_growth s to v t q = record s {
  dataset = with_rows to s.dataset;
  places = t;
  waiting = q.waiting;
  waits = q.waits;
  pending = drop q.shown q.plan.items;
  early = q.early;
  chunks = q.chunks.items;
  flushing = q.flushing;
  index = v;
}

pub grown_now : (s : Session) (to : ℕ) (v : IndexView) (t : Space) (b q : Backlog) → to ≡ rows_of s → IsEmptied b q → s.pending ≡ drop b.shown b.plan.items → s.flushing ≡ b.flushing → after_growth s to v t q ≡ grown_of s v t
grown_now s to v t b q to_is e pending flushing =
    let was : drop q.shown q.plan.items ≡ s.pending = ap (λ (n : ℕ). drop n q.plan.items) e.shown ∙ ap (λ (ws : Vec Write). drop b.shown ws.items) e.plan ∙ sym pending in
    let same : q.flushing ≡ s.flushing = e.flushing ∙ sym flushing in
    λ i. record s {
      dataset = with_rows (to_is i) s.dataset;
      places = t;
      waiting = e.waiting i;
      waits = e.waits i;
      pending = was i;
      early = e.early i;
      chunks = e.chunks i;
      flushing = same i;
      index = v;
    }

module _ (s : Session) (is : IsSession s) (there : IsWhole s) (p : Prepared) (added : List Key) (named : IndexView) (t : Space) (r : IsReady s s.index s.places p added named t) where
  names : AreNamed s.dataset (rows_of s) s.index r.chunks added named
  names = r.prepared.names

  behind : IsFurther r.prepared.between t
  behind = begun_further named r.prepared.between p.begun t names.partly.like.sound r.prepared.begun

  pub far : IsFurther s.places t
  far = further_on s.places r.prepared.between t (further s.places r.prepared.between _ r.prepared.taken.raised) behind

  pub grown_rises : s.places.end ≤ t.end
  grown_rises = far.rises

  -- the index is there then
  whole : IsUnmade (grown_of s named t) → ⊥
  whole (inl none) = there.named none
  whole (inr lacking) = never (has_no_block named) lacking (same_block s.index named names.partly.like.fixed ∙ there.made)

  inside : AreInside (with_rows (rows_of s) s.dataset) t.end named
  inside =
      let d = s.dataset in
      let placed : AreInside (with_rows (rows_of s) d) r.prepared.between.end named = placing_laws.inside_behind d (rows_of s) s.index named s.places r.prepared.between s.chunks r.chunks added (omega arith) is.inside is.ends names r.prepared.taken in
      placing_laws.carried (with_rows (rows_of s) d) r.prepared.between.end t.end named named (λ key. refl) behind.rises placed

  pub grown_is : IsSession (grown_of s named t)
  grown_is =
      let d = s.dataset in
      let rows = rows_of s in
      let none : rows ≡ rows + 0 = omega arith in
      let f = fits_same d s.index named names.partly.like.kind is.fits in
      record {
        some_columns = is.some_columns;
        cells = omega arith;
        few = subst (λ (n : ℕ). needed (with_rows n d) ≤ chunk_limit s) none is.few;
        version = is.version;
        begun = omega (arith, is.begun, far.rises);
        kind = is.kind ∙ sym names.partly.like.kind;
        sound = names.partly.like.sound;
        fits = record { kind = f.kind; some = f.some };
        header = is.header;
        addressed = λ none. absurd (there.named none);
        header_ends = omega (arith, is.header_ends, far.rises);
        small = omega (arith, far.fits, is.small, is.limit);
        limit = subst (λ (n : ℕ). n ≤ 2 ^ 40) (sym far.limit) is.limit;
        inside = inside;
        tops = λ whole. subst (λ (us : List Used). ranges.AllEndBy t.end us) (sym names.partly.like.fixed) (ends_later s.places.end t.end (fixed_of s.index) far.rises (is.tops there));
        head = λ named lacking. absurd (whole (inr lacking));
        blank = λ lacks key. absurd (whole lacks);
        live = λ lacks. absurd (whole lacks);
        early = omega arith;
        chunks = sym (none_touched (with_rows rows d) rows);
        placed = λ k p at. absurd cc;
        ends = λ k p at. absurd cc;
        flushing = λ e. refl;
        busy = is.busy;
        budget_low = is.budget_low;
        budget_high = is.budget_high;
      }

  -- pieces that are within the file are so then
  pub grown_pieces : (ws : List Write) → ArePieces s.places.end ws → ArePieces t.end ws
  grown_pieces ws x = record { sized = x.sized; within = pieces_later s.places.end t.end ws far.rises x.within }

-- ---- The second half

-- what it makes of a session, whose fields these are: up to row `to`, with this end and superblock; r and b are the superblock and the header then
pub record Raises (m : Session) (to end : ℕ) (supers : List Write) (r : Super) (b : List ℕ) (last : Write) : Type 0 where
  pub to_is : to ≡ rows_of m
  pub typed : IsIntType m.dataset.int_type
  pub filled : length (fill_cell m.dataset) ≡ m.dataset.int_type.size
  pub ended : AreEnded m.root end supers
  pub unraised : end ≡ m.root.end → supers ≡ []
  pub root : r ≡ record (m.root) { end = end }
  pub header : b ≡ with_rows_bytes m.header to None
  pub last_is : last ≡ record { at = m.place; piece = b }
  pub header_short : length m.header ≤ 512

module _ (old mid : Session) (p : Growing) (g : PlansGrowth old mid p) where
  -- over the session between it is so over the first one
  pub raises_grown : (to end : ℕ) (supers : List Write) (r : Super) (b : List ℕ) (last : Write) → Raises mid to end supers r b last → Raises (grown_of old mid.index mid.places) to end supers r b last
  raises_grown to end supers r b last x = subst (λ (m : Session). Raises m to end supers r b last) g.grown x

  module _ (w : IndexView) (ws : List Write) (r : Super) (b : List ℕ) (q : Backlog) (x : Carried old (rows_of old) mid.places w ws r b q) where
    abbrev after : Session → Session
    after m = record m {
      root = r;
      header = b;
      waiting = q.waiting;
      waits = q.waits;
      pending = drop q.shown q.plan.items;
      early = q.early;
      chunks = q.chunks.items;
      flushing = q.flushing;
      index = w;
    }

    pub grown_carried : IsSession (after mid)
    grown_carried = subst IsSession (sym (ap after g.grown)) (carried_is old (rows_of old) mid.places w ws r b q x g.session)

    pub grown_list : ArePieces mid.places.end q.plan.items
    grown_list = carried_list old (rows_of old) mid.places w ws r b q x g.session

    pub grown_ends : AllEndBy mid.places.end (drop q.shown q.plan.items)
    grown_ends = carried_ends old (rows_of old) mid.places w ws r b q x g.session

    pub grown_flushed : IsFlushed old (after mid)
    grown_flushed = subst (λ (n : Session). IsFlushed old n) (sym (ap after g.grown)) (carried_flushed old (rows_of old) mid.places w ws r b q x g.session old refl)

  -- ---- A flush that is given up

  module _ (u : IndexView) (q : Backlog) (rows : AreIn q p.rows) (idle : drop q.shown q.plan.items ≡ []) (flushing : q.flushing ≡ mid.flushing) (partly : IsPartly old.dataset (rows_of old) old.index [] u) where
    abbrev back : Session → Session
    back m = record m {
      dataset = with_rows (m.dataset.shape.rows - p.rows.waits) m.dataset;
      places = p.before;
      waiting = q.waiting;
      waits = q.waits;
      pending = drop q.shown q.plan.items;
      early = q.early;
      chunks = q.chunks.items;
      flushing = q.flushing;
      index = u;
    }

    back_is : back mid ≡ record old { index = u }
    back_is =
        let flush : q.flushing ≡ old.flushing = flushing ∙ ap (λ (m : Session). m.flushing) g.grown in
        let less : rows_of old - p.rows.waits ≡ old.dataset.shape.rows = omega (arith, g.rows.waits) in
        let waits = sym rows.waits ∙ g.rows.waits in
        let waiting = sym rows.waiting ∙ g.rows.waiting in
        let early = sym rows.early ∙ g.rows.early in
        let chunks = sym rows.chunks ∙ g.rows.chunks in
        let pending = idle ∙ sym g.idle in
        ap back g.grown ∙ (λ i. record old {
          dataset = with_rows (less i) old.dataset;
          places = g.before i;
          waiting = waiting i;
          waits = waits i;
          pending = pending i;
          early = early i;
          chunks = chunks i;
          flushing = flush i;
          index = u;
        })

    pub back_session : IsSession (back mid)
    back_session = subst IsSession (sym back_is) (refused_is old (rows_of old) u refl partly g.session)

    pub back_same : (IsRoomy old.dataset old.index → IsRoomy old.dataset u) → SameBut old (back mid)
    back_same roomy = subst (λ (n : Session). SameBut old n) (sym back_is) (refused_same old (rows_of old) u refl partly g.there roomy old refl)

-- a flush that has not changed the session yet
pub alone_kept : (old mid : Session) (ws : Vec Write) → mid ≡ old → PlansAlone old ws → SameBut old mid
alone_kept old mid ws same a =
    let own : SameBut old old = record { session = refl; held = a.placing.partly; unmade = λ lacks. refl; roomy = λ r. r } in
    subst (λ (s : Session). SameBut old s) (sym same) own

pub same_kept : (s : Session) → IsSession s → SameBut s s
same_kept s is =
    let none = placing_laws.none s.dataset (rows_of s) s.index s.places s.places is.sound refl refl refl refl in
    record { session = refl; held = none.partly; unmade = λ lacks. refl; roomy = λ r. r }

pub start_kept : (old mid : Session) (p : Starting) → mid ≡ old → PlansStart old p → SameBut old mid
start_kept old mid p same x = subst (λ (s : Session). SameBut old s) (sym same) (same_kept old x.session)
