-- The creation of a file, and its close.
use Rattle.std.proofs.Common.{◌≡◌, ◌⊎◌, ℕ, ◌+◌, ◌-◌, ◌*◌, ◌/◌, ◌<◌, ◌≤◌, false, List, [], ◌∷◌, ◌++◌, length, map, take, ℤ, Ok, sym, refl, ap, ◌∙◌, subst, arith, inl, inr, length-append}
use Rattle.std.proofs.lemmas.Bool.{cases_lt}
use Rattle.std.proofs.lemmas.List.{take-append-le, take_all}
use Rattle.h5w_model.specs.Agrees.{rows_after, values_in}
use Rattle.h5w_model.specs.declared.cell.IndexKind.{IndexKind}
use Rattle.h5w_model.specs.declared.cell.IndexKind.TheVariants.{Array, Tree}
use Rattle.h5w_model.specs.Datasets.{Described}
use Rattle.h5w_model.specs.Logs.{Happening, Log, events_at, flushed_at, flushed_in, hist, shown, shows}
use Rattle.h5w_model.specs.Superblock.{super_at, super_bytes}
use Rattle.h5w_model.specs.declared.piece.Write.{Write}
use Rattle.h5w_model.specs.declared.report.FlushLine.{FlushLine}
use Rattle.h5w_model.specs.declared.root.Super.{Super}
use Rattle.h5w_laws.proofs.LogLemmas.{events_at_earlier, events_at_now, length_hist}
use Rattle.h5w_creation_laws.specs.CreatedFiles.{CreatedFile, IsCreatable, block_write, created_log, created_writes, described_of, header_block, index_blocks, root_block, super_block}
use Rattle.h5w_writer.specs.Creations.{IsCreated, log_of}
use Rattle.h5w_writer.specs.Sessions.{AfterPiece, Session, cleared, closed_of, closed_root, with_rows}
use Rattle.h5w_writer.specs.Stands.{Stands}
use Rattle.h5w_shared.specs.Seats.{HasMadeRoom, ImageId, SeatView}
use Rattle.h5w_live.specs.Reports.{before_close}
use Rattle.h5w_live.specs.Writing.{HasClosed, HasFlushed, HasRoom, HasWritten}
use Rattle.h5w_reader_laws.specs.Showing.{showing}
use Rattle.h5w_live.proofs.FlushedLemmas.{flushed_level, rows_all}
use Rattle.h5w_live.proofs.BatchLemmas.{log_rows, rows_flushed}
use Rattle.h5w_live.proofs.RowLemmas.{none_needed, rows_in_values}
use Rattle.h5w_reader_laws.proofs.ShowingLemmas.{appended_showing, events_among, flushed_showing, hist_showing}
use Rattle.h5w_writer_laws.proofs.LeavingLemmas.{piece_leaves}

-- ---- The creation

-- the index's pieces, of an array or of a tree, and those of the headers and the superblock
some_blocks : (k : IndexKind) (f : CreatedFile) → 1 ≤ length (map block_write (index_blocks k f ++ header_block f ∷ root_block f ∷ super_block f ∷ []))
some_blocks Array f = omega arith
some_blocks Tree f = omega arith

pub some_pieces : (f : CreatedFile) (most : ℕ) (s : Session) → IsCreated f most s → 1 ≤ length s.pending
some_pieces f most s made = omega (arith, ap (λ (x : Session). length x.pending) made.session, some_blocks f.index f)

-- no rows are flushed by pieces alone
none_flushed : (f : CreatedFile) (ws : List Write) (p : ℕ) → 1 ≤ f.columns → p ≤ length ws → flushed_at (log_of f (showing ws [])) p ≡ 0
none_flushed f ws p some within =
    let there : events_at (0 + p) (showing ws []) ≡ showing (take p ws) [] = events_among p ws [] within in
    let here : events_at p (showing ws []) ≡ showing (take p ws) [] = ap (λ q. events_at q (showing ws [])) (let e : p ≡ 0 + p = omega arith in e) ∙ there in
    let none : flushed_in 0 [] (events_at p (showing ws [])) ≡ [] = ap (flushed_in 0 []) here ∙ flushed_showing 0 [] (take p ws) [] in
    ap (λ (vs : List ℤ). length vs / f.columns) none ∙ rows_in_values 0 0 f.columns some (omega arith)

-- room that was asked for what is pending and one piece more
pub has_room : (s : Session) (v w : SeatView) (pieces end : ℕ) → pieces ≡ length s.pending → end ≡ s.places.end → HasMadeRoom (pieces + 1) end v w → HasRoom s w
has_room s v w pieces end count place made = record { pieces = omega (arith, count, made.asked); end = omega (arith, place, made.asked_end) }

pub created_flushed : (f : CreatedFile) (most : ℕ) (s t : Session) (v w : SeatView) → IsCreatable f → IsCreated f most s → Stands s (created_log f) → v.image.start ≡ [] → v.seen ≡ [] → HasRoom s v → AfterPiece s [] t → HasWritten s.pending v w
    → ((log : Log) → Stands s log → Stands t (record log { events = showing s.pending log.events })) → HasFlushed f most [] t w []
created_flushed f most s t v w by made stood start none room after wrote stands =
    let is = made.session in
    let pending : s.pending ≡ created_writes f = ap (λ (x : Session). x.pending) is in
    let es : List Happening = showing (created_writes f) [] in
    let facts = piece_leaves s t [] after in
    let settled : s.flushing ≡ false = ap (λ (x : Session). x.flushing) is in
    let only : t ≡ record s { pending = [] } = facts.still settled in
    let seen : w.seen ≡ created_writes f = wrote.seen ∙ ap (λ (l : List Write). l ++ s.pending) none ∙ pending in
    let left : t.pending ≡ [] = facts.pending in
    let count : length (hist es) ≡ length (created_writes f) = ap length (hist_showing (created_writes f) []) in
    let dataset : t.dataset ≡ described_of f = facts.dataset ∙ ap (λ (x : Session). x.dataset) is in
    let no_rows : t.dataset.shape.rows ≡ 0 = ap (λ (d : Described). d.shape.rows) dataset in
    record {
      writes = record {
        log = log_of f es;
        stands = subst (λ (ws : List Write). Stands t (log_of f (showing ws []))) pending (stands (log_of f []) stood);
        is = by;
        new = refl;
        seat = record { start = sym (ap (λ (i : ImageId). i.start) wrote.image ∙ start); pieces = hist_showing (created_writes f) [] ∙ sym seen };
        begun = omega (arith, ap length seen);
        name = facts.name ∙ ap (λ (x : Session). x.name) is;
        dataset = dataset ∙ sym (ap (λ (d : Described). with_rows d.shape.rows (described_of f)) dataset);
      };
      put = refl;
      batches = tt;
      rows = (let e : 0 ≡ 0 * f.columns = omega arith in e) ∙ ap (λ (n : ℕ). n * f.columns) (sym no_rows);
      few = none_needed f t.dataset.shape.rows by no_rows;
      waits = facts.waits ∙ ap (λ (x : Session). x.waits) is;
      pending = left;
      settled = ap (λ (x : Session). x.flushing) only ∙ settled;
      committed = ap (λ (x : Session). x.committed) only ∙ ap (λ (x : Session). x.committed) is ∙ sym no_rows;
      going = facts.stopped ∙ ap (λ (x : Session). x.stopped) is;
      flags = ap (λ (x : Super). x.flags) facts.root ∙ ap (λ (x : Session). x.root.flags) is;
      limit = facts.limit ∙ ap (λ (x : Session). x.places.limit) is;
      room = record { pieces = omega (arith, room.pieces, wrote.pieces, ap length left); end = omega (arith, room.end, wrote.end, facts.end) };
      appended = appended_showing (created_writes f) [];
      fit = refl;
      agree = tt;
      tells = λ p within. none_flushed f (created_writes f) p by.some_columns (omega (arith, within, count));
      last = omega (arith, ap length seen);
      told = sym no_rows;
    }

-- then the seat has seen the pieces of the creation, and no others
pub created_seen : (f : CreatedFile) (most : ℕ) (s : Session) (v : SeatView) (lines : List FlushLine) → HasFlushed f most [] s v lines → v.seen ≡ created_writes f
created_seen f most s v lines h = sym h.writes.seat.pieces ∙ ap hist h.put ∙ hist_showing (created_writes f) []

-- ---- The close

without_last : (ws : List Write) (x : Write) → before_close (ws ++ x ∷ []) ≡ ws
without_last ws x =
    let count : length (ws ++ x ∷ []) - 1 ≡ length ws = omega (arith, length-append ws (x ∷ [])) in
    ap (λ n. take n (ws ++ x ∷ [])) count ∙ take-append-le (length ws) ws (x ∷ []) (omega arith) ∙ take_all (length ws) ws (omega arith)

-- the close writes one piece
pub closed_last : (s t : Session) (v w : SeatView) → t ≡ closed_of s → HasWritten t.pending v w → before_close w.seen ≡ v.seen
closed_last s t v w is wrote =
    let x : Write = record { at = 0; piece = super_bytes (closed_root s) } in
    let seen : w.seen ≡ v.seen ++ x ∷ [] = wrote.seen ∙ ap (λ (y : Session). v.seen ++ y.pending) is in
    ap before_close seen ∙ without_last v.seen x

pub closed_after : (f : CreatedFile) (most : ℕ) (done : List (List ℤ)) (s t u : Session) (v w : SeatView) (lines : List FlushLine) → HasFlushed f most done s v lines → t ≡ closed_of s → super_at (super_bytes (closed_root s)) ≡ Ok (closed_root s)
    → ((log : Log) → Stands s log → Stands t log) → AfterPiece t [] u → HasWritten t.pending v w → ((log : Log) → Stands t log → Stands u (record log { events = showing t.pending log.events })) → HasClosed f done u w lines
closed_after f most done s t u v w lines h is reads stands1 after wrote stands2 =
    let facts = piece_leaves t u [] after in
    let only : u ≡ record t { pending = [] } = facts.still (ap (λ (y : Session). y.flushing) is ∙ h.settled) in
    let x : Write = record { at = 0; piece = super_bytes (closed_root s) } in
    let pending : t.pending ≡ x ∷ [] = ap (λ (y : Session). y.pending) is in
    let es : List Happening = shows x ∷ h.writes.log.events in
    let seen : w.seen ≡ v.seen ++ x ∷ [] = wrote.seen ∙ ap (λ (l : List Write). v.seen ++ l) pending in
    let dataset : u.dataset ≡ s.dataset = facts.dataset ∙ ap (λ (y : Session). y.dataset) is in
    record {
      writes = record {
        log = record (h.writes.log) { events = es };
        stands = subst (λ (ws : List Write). Stands u (record (h.writes.log) { events = showing ws h.writes.log.events })) pending (stands2 h.writes.log (stands1 h.writes.log h.writes.stands));
        is = h.writes.is;
        new = ap (λ (l : Log). record l { events = es }) h.writes.new;
        seat = record { start = h.writes.seat.start ∙ ap (λ (i : ImageId). i.start) (sym wrote.image); pieces = ap (λ (l : List Write). l ++ x ∷ []) h.writes.seat.pieces ∙ sym seen };
        begun = omega (arith, h.writes.begun, ap length seen, length-append v.seen (x ∷ []));
        name = facts.name ∙ ap (λ (y : Session). y.name) is ∙ h.writes.name;
        dataset = dataset ∙ h.writes.dataset ∙ ap (λ (d : Described). with_rows d.shape.rows (described_of f)) (sym dataset);
      };
      stopped = facts.stopped ∙ ap (λ (y : Session). y.stopped) is;
      pending = facts.pending;
      batches = h.batches;
      rows = h.rows ∙ ap (λ (n : ℕ). n * f.columns) (sym (ap (λ (y : Session). y.committed) only ∙ ap (λ (y : Session). y.committed) is ∙ h.committed));
      appended = h.appended;
      fit = h.fit;
      agree = h.agree;
      tells = λ p within. tells_closed x p (cases_lt p (shown es)) within;
      last = omega (arith, h.last, ap length seen, length-append v.seen (x ∷ []));
      before = v.seen;
      root = closed_root s;
      pieces = seen;
      reads = reads;
      flags = ap cleared h.flags;
    }
  where
    tells_closed : (x : Write) (p : ℕ) → (p < shown (shows x ∷ h.writes.log.events)) ⊎ (shown (shows x ∷ h.writes.log.events) ≤ p) → p ≤ length (hist (shows x ∷ h.writes.log.events))
        → flushed_at (record (h.writes.log) { events = shows x ∷ h.writes.log.events }) p ≡ rows_after 0 p lines
    tells_closed x p (inl less) within =
        ap (λ (es : List Happening). length (flushed_in 0 h.writes.log.values es) / h.writes.log.columns) (events_at_earlier p (shows x) h.writes.log.events less)
        ∙ h.tells p (omega (arith, less, length_hist h.writes.log.events))
    tells_closed x p (inr more) within =
        let all : length (flushed_in 1 h.writes.log.values h.writes.log.events) ≡ length (values_in done) =
        flushed_level 1 h.writes.log.values h.writes.log.events (length (values_in done)) (rows_flushed f most done s v lines h) (ap length h.appended) in
        let seen : shown h.writes.log.events ≡ length v.seen = sym (length_hist h.writes.log.events) ∙ ap length h.writes.seat.pieces in
        let told : rows_after 0 p lines ≡ s.dataset.shape.rows = rows_all f.columns (length (created_writes f)) 0 0 p done lines h.agree (omega (arith, h.last, more, seen)) ∙ h.told in
        ap (λ (es : List Happening). length (flushed_in 0 h.writes.log.values es) / h.writes.log.columns) (events_at_now p (shows x ∷ h.writes.log.events) more)
        ∙ ap (λ (k : ℕ). k / h.writes.log.columns) all ∙ log_rows f most done s v lines h ∙ sym told
