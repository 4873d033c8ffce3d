-- How an append ends: the session that is closed, and what the file then is.
use Rattle.std.proofs.Common.{◌≡◌, ℕ, ◌*◌, ◌/◌, ◌≤◌, List, [], ◌∷◌, ◌++◌, length, ℤ, Option, Some, None, Result, Ok, Err, sym, ap, ◌∙◌, subst, arith, append-nil}
use Rattle.std.specs.Prelude.{option_map}
use Rattle.std.specs.Option.{unwrap_or}
use Rattle.h5w_model.specs.Datasets.{Described}
use Rattle.h5w_model.specs.Findings.{Summary, Valid}
use Rattle.h5w_model.specs.Images.{apply, image}
use Rattle.h5w_model.specs.Logs.{Log, flushed, hist}
use Rattle.h5w_model.specs.Superblock.{super_at, super_bytes}
use Rattle.h5w_model.specs.Tables.{Reads}
use Rattle.h5w_model.specs.declared.piece.Write.{Write}
use Rattle.h5w_model.specs.declared.root.Super.{Super}
use Rattle.h5w_image.specs.View.{DiskState, DiskView, file, put}
use Rattle.h5w_image.proofs.Names.{get-insert_same}
use Rattle.h5w_writer.specs.Openings.{opened_log}
use Rattle.h5w_writer.specs.Sessions.{Session, cleared, closed_of, closed_root, rows_of}
use Rattle.h5w_writer.specs.Stands.{Stands}
use Rattle.h5w_writer.proofs.LawLemmas.{standing_laws}
use Rattle.h5w_text.specs.Streams.{SourceView, SinkView}
use Rattle.h5w_text.specs.declared.error.ErrorLine.{ErrorLine}
use Rattle.h5w_files.specs.Images.{LeavesFiles, told_bytes}
use Rattle.h5w_batches.specs.Batches.{Batches, after_lines, close_batch, no_batches}
use Rattle.h5w_appending.specs.Taken.{of_all, rows_after, values_of}
use Rattle.h5w_appending.specs.Puts.{after_puts, counts_of, writes_of}
use Rattle.h5w_appending.specs.Appends.{Holds, IsHalted, IsLogOf, OfEachLog, OfValid, columns_of}
use Rattle.h5w_appending.specs.Appending.{ClosesBy, IsReady, PutsAll, PutsBy, PutsHalted, Settles, TakesInput, Told}
use Rattle.h5w_appending.specs.declared.batching.Ending.{Ending}
use Rattle.h5w_appending.specs.declared.batching.Ending.TheVariants as endings
use Rattle.h5w_appending.proofs.PutLemmas.{are_both, are_of, writes-append}
use Rattle.h5w_appending.proofs.StoreLemmas.{agrees, first_planned, first_whole, puts_more, rose_halted, same_log, settled_log, writes_both}

-- ---- The close

-- the session was closed, and its piece was put
pub shut_whole : {v w : DiskView} (n : ℕ) (name : List ℕ) (s t r : Session) → s.pending ≡ [] → t ≡ closed_of s → super_at (super_bytes (closed_root s)) ≡ Ok (closed_root s) → ((log : Log) → Stands s log → Stands t log) → PutsAll n name t r v w → ClosesBy n name s v w (Ok tt)
shut_whole {v} {w} n name s t r idle closed reads stands q = λ first b u counted h.
    let ps = q.puts in
    let piece : Write = record { at = 0; piece = super_bytes (closed_root s) } in
    let one : writes_of ps.puts ≡ piece ∷ [] = sym (append-nil (writes_of ps.puts)) ∙ ap (λ (x : List Write). writes_of ps.puts ++ x) (sym q.all) ∙ sym ps.pieces ∙ ap (λ (x : Session). x.pending) closed in
    let session = ps.session in
    record {
      puts = h.puts ++ ps.puts;
      disk = puts_more name h.puts ps.puts h.disk ps.disk;
      since = are_both u.faults h.puts ps.puts h.since (are_of v.faults u.faults (counts_of ps.puts) (q.before ∙ sym counted) ps.since);
      calm = q.calm ∙ sym counted;
      begins = first_whole first.pending s h.puts ps.puts idle h.begins;
      front = writes_of h.puts;
      root = closed_root s;
      last = writes-append h.puts ps.puts ∙ ap (λ (x : List Write). writes_of h.puts ++ x) one;
      reads = reads;
      root_is = ap (λ (x : Super). record x { end = s.root.end; flags = cleared x.flags }) h.taken.root;
      logs = λ img columns xs begun.
          let l = settled_log img columns xs t r (writes_of h.puts) (writes_of ps.puts) b ps.stands (same_log img columns xs s t (writes_of h.puts) b stands (h.logs img columns xs begun)) in
          record {
            session = r;
            stopped = ap (λ (x : Session). x.stopped) session ∙ ap (λ (x : Session). x.stopped) closed;
            named = ap (λ (x : Session). x.name) session ∙ ap (λ (x : Session). x.name) closed ∙ h.taken.name;
            of = writes_both (λ ws. IsLogOf img columns xs r ws b) h.puts ps.puts l.of;
          };
    }

-- the disk failed at it
pub shut_broke : {v w : DiskView} (n : ℕ) (name : List ℕ) (s t r : Session) → s.pending ≡ [] → t ≡ closed_of s → ((log : Log) → Stands s log → Stands t log) → PutsHalted n name t r v w → ClosesBy n name s v w (Err endings.Disk)
shut_broke {v} {w} n name s t r idle closed stands q = λ first b u counted h.
    let ps = q.puts in
    record {
      puts = h.puts ++ ps.puts;
      disk = puts_more name h.puts ps.puts h.disk ps.disk;
      since = are_both u.faults h.puts ps.puts h.since (are_of n u.faults (counts_of ps.puts) (sym counted) q.since);
      rose = rose_halted u.faults v.faults n w.faults counted h.disk.faults q.rose;
      begins = agrees first.pending (writes_of (h.puts ++ ps.puts)) q.middle.pending (first_planned first.pending s q.middle h.puts ps.puts idle h.begins);
      logs = λ img columns xs begun.
          let l = settled_log img columns xs t q.middle (writes_of h.puts) (writes_of ps.puts) b ps.stands (same_log img columns xs s t (writes_of h.puts) b stands (h.logs img columns xs begun)) in
          record {
            session = r;
            stopped = ap (λ (x : Session). x.stopped) q.halted.session;
            named = ap (λ (x : Session). x.name) q.halted.session ∙ ap (λ (x : Session). x.name) ps.session ∙ ap (λ (x : Session). x.name) closed ∙ h.taken.name;
            of = writes_both (λ ws. IsLogOf img columns xs r ws b) h.puts ps.puts (record {
              log = l.of.log;
              stands = q.halted.stands l.of.log l.of.stands;
              begun = l.of.begun;
              pieces = l.of.pieces;
              flushed_are = l.of.flushed_are;
              appended_are = l.of.appended_are;
            });
          };
    }

-- by the result of the puts
pub shut_by : (v w : DiskView) (n : ℕ) (name : List ℕ) (s t r : Session) (q : Result (Unit {0}) Ending) → s.pending ≡ [] → t ≡ closed_of s → super_at (super_bytes (closed_root s)) ≡ Ok (closed_root s) → ((log : Log) → Stands s log → Stands t log) → PutsBy n name t r v w q
    → ClosesBy n name s v w q
shut_by v w n name s t r (Ok a) idle closed reads stands q = shut_whole n name s t r idle closed reads stands q
shut_by v w n name s t r (Err (endings.Refused e)) idle closed reads stands q = absurd q
shut_by v w n name s t r (Err endings.Disk) idle closed reads stands q = shut_broke n name s t r idle closed stands q
shut_by v w n name s t r (Err endings.Sink) idle closed reads stands q = absurd q

-- ---- Behind what was taken

pub none_waiting : (c n : ℕ) → 1 ≤ c → 0 ≡ n * c → n ≡ 0
none_waiting c n some e = grind (arith, e, some)

-- how many rows there are behind all batches
pub all_rows : {u w : DiskView} {k l : SinkView} (name : List ℕ) (first t : Session) (b : Batches) → IsReady name t w → Told name first t (close_batch b) u w k l → rows_of t ≡ rows_after (columns_of first) first.dataset.shape.rows (close_batch b).closed
all_rows name first t b ready told =
    let h = told.stored.taken in
    let some : 1 ≤ columns_of first = subst (λ n. 1 ≤ n) (ap (λ (d : Described). d.shape.cols) h.dataset) ready.columns in
    let none : t.waits ≡ 0 = none_waiting (columns_of first) t.waits some h.waits in
    let rows = h.rows in
    omega (arith, rows, none)

-- all was, and the session was closed or the disk failed
pub settles_all : {u v : DiskView} {k l : SinkView} {x y : SourceView} (w : DiskView) (n : ℕ) (name : List ℕ) (first s : Session) (r : Result (Unit {0}) Ending) → u.faults ≡ n → IsReady name s v → ClosesBy n name s v w r → TakesInput name first s x y u v k l (Ok tt) → Settles name (rows_of s) first x y u w k l r
settles_all {u} {v} w n name first s (Ok a) counted ready c h =
    (h.0, h.1, c first (close_batch (after_lines no_batches h.0)) u counted h.2.stored, h.2.gave, all_rows name first s (after_lines no_batches h.0) ready h.2)
settles_all w n name first s (Err (endings.Refused e)) counted ready c h = absurd c
settles_all {u} w n name first s (Err endings.Disk) counted ready c h =
    let b = close_batch (after_lines no_batches h.0) in (b, of_all h.0 h.1, record { broke = c first b u counted h.2.stored; gave = h.2.gave })
settles_all w n name first s (Err endings.Sink) counted ready c h = absurd c

-- a refusal
pub settles_some : {u v w : DiskView} {k l : SinkView} {x y : SourceView} (n : ℕ) (name : List ℕ) (first s : Session) (e : ErrorLine) → u.faults ≡ n → ClosesBy n name s v w (Ok tt) → TakesInput name first s x y u v k l (Err (endings.Refused e))
    → Settles name (rows_of s) first x y u w k l (Err (endings.Refused e))
settles_some {u} n name first s e counted c h = (h.0, h.1, h.2, c first h.0 u counted h.3.stored, h.3.gave)

pub settles_broke : {u v : DiskView} {k l : SinkView} {x y : SourceView} (w : DiskView) (n : ℕ) (name : List ℕ) (first s : Session) (e : ErrorLine) (r : Ending) → u.faults ≡ n → ClosesBy n name s v w (Err r) → TakesInput name first s x y u v k l (Err (endings.Refused e))
    → Settles name (rows_of s) first x y u w k l (Err r)
settles_broke w n name first s e (endings.Refused f) counted c h = absurd c
settles_broke {u} w n name first s e endings.Disk counted c h = (h.0, h.1, record { broke = c first h.0 u counted h.3.stored; gave = h.3.gave })
settles_broke w n name first s e endings.Sink counted c h = absurd c

-- its bytes behind some puts
pub bytes_after : (name : List ℕ) (ps : List (Write × ℕ)) (img : List ℕ) (t : Option DiskState) → told_bytes t name ≡ Some img → told_bytes (option_map (after_puts name ps) t) name ≡ Some (image img (writes_of ps))
bytes_after name ps img None e = absurd (cc)
bytes_after name ps img (Some d) e = go ps img d e
  where
    go : (ps : List (Write × ℕ)) (img : List ℕ) (d : DiskState) → file d name ≡ Some img → file (after_puts name ps d) name ≡ Some (image img (writes_of ps))
    go [] img d e = e
    go (p ∷ ps) img d e =
        go ps (apply p.0 img) (put name p.0 p.1 d)
        (get-insert_same d.files name (apply p.0 (unwrap_or (file d name) [])) ∙ ap (λ (o : Option (List ℕ)). Some (apply p.0 (unwrap_or o []))) e)

-- what a log of a stopped session says of it
log_holds : (name at img : List ℕ) (columns : ℕ) (values : List ℤ) (w : DiskView) (ws : List Write) (b : Batches) → told_bytes w.told name ≡ Some (image img ws) → IsHalted img columns values at ws b → Holds name at w columns (values ++ values_of b.closed)
log_holds name at img columns values w ws b told h =
    let log = h.of.log in
    let begun = h.of.begun in
    let now = standing_laws.stopped h.session log h.of.stands h.stopped (subst (λ (x : Log). x.first ≤ length (hist log.events)) (sym begun) (omega arith)) in
    let start : log.start ≡ img = ap (λ (x : Log). x.start) begun in
    let cols : log.columns ≡ columns = ap (λ (x : Log). x.columns) begun in
    let bytes : image log.start (hist log.events) ≡ image img ws = ap (λ (x : List ℕ). image x (hist log.events)) start ∙ ap (image img) h.of.pieces in
    let reads : Reads (image img ws) at (length (flushed log) / log.columns) log.columns (flushed log) =
    subst (λ (n : List ℕ). Reads (image img ws) n (length (flushed log) / log.columns) log.columns (flushed log)) h.named
    (subst (λ (x : List ℕ). Reads x h.session.name (length (flushed log) / log.columns) log.columns (flushed log)) bytes now.reads) in
    let counted = subst (λ (c : ℕ). Reads (image img ws) at (length (flushed log) / c) c (flushed log)) cols reads in
    record {
      bytes = image img ws;
      told = told;
      summary = now.summary;
      valid = subst (λ (n : List ℕ). Valid (image img ws) n now.summary) h.named (subst (λ (x : List ℕ). Valid x h.session.name now.summary) bytes now.valid);
      reads = subst (λ (vs : List ℤ). Reads (image img ws) at (length vs / columns) columns vs) h.of.flushed_are counted;
    }

-- where the file was valid
pub holds_after : {v w : DiskView} (name at : List ℕ) (first : Session) (b : Batches) (ps : List (Write × ℕ)) → first.name ≡ at → ((img : List ℕ) (rows columns : ℕ) (values : List ℤ) (sm : Summary) → told_bytes v.told name ≡ Some img → Valid img at sm → Reads img at rows columns values
    → Stands first (opened_log img columns values)) → LeavesFiles (option_map (after_puts name ps) v.told) v w → OfEachLog first (λ img columns values. IsHalted img columns values first.name (writes_of ps) b)
    → OfValid name at v (λ columns values. Holds name at w columns (values ++ values_of b.closed))
holds_after {v} {w} name at first b ps named stands p logs = λ img rows columns values sm told valid reads.
    log_holds name at img columns values w (writes_of ps) b (ap (λ t. told_bytes t name) p.told ∙ bytes_after name ps img v.told told)
    (subst (λ (n : List ℕ). IsHalted img columns values n (writes_of ps) b) named (logs img columns values (stands img rows columns values sm told valid reads)))
