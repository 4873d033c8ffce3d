-- What a flush takes, by the load of its log: its pieces, the rise of the file's end, and the place that a full file does not have.
use Rattle.std.proofs.Common.{◌≡◌, ℕ, ◌+◌, ◌-◌, ◌*◌, ◌/◌, ◌<◌, ◌≤◌, false, nat_lt, List, [], ◌∷◌, ◌++◌, length, sym, ap, ◌∙◌, subst, inl, arith, length-append}
use Rattle.std.proofs.lemmas.Bool.{cond-true, lt-ltb}
use Rattle.std.proofs.lemmas.Nat.{mul-le}
use Rattle.h5w_model.specs.Logs.{Log, appended, div_up, flushed, load, plans, touched_chunks, and_now}
use Rattle.h5w_model.specs.Datasets.{Described}
use Rattle.h5w_model.specs.Findings.{chunk_bytes}
use Rattle.h5w_model.specs.Tables.{chunks_across, keys_across}
use Rattle.h5w_model.specs.declared.piece.Write.{Write}
use Rattle.h5w_model.specs.declared.root.Super.{Super}
use Rattle.h5w_space.specs.Space.{Space}
use Rattle.h5w_space.specs.declared.Full.{Full}
use Rattle.h5w_cache.specs.Plans.{IsRefused}
use Rattle.h5w_chunks.specs.Grids.{IsCut, chunk_len}
use Rattle.h5w_chunks.proofs.Geometry.{lt_up}
use Rattle.h5w_step_laws.specs.Files.{with_index}
use Rattle.h5w_flush_laws.specs.Parts.{AreEnded}
use Rattle.h5w_index.specs.Views.{IndexView}
use Rattle.h5w_index.specs.Marks.{IsMarked, IsRaised}
use Rattle.h5w_index.specs.Full.{IsFullPart, most_of}
use Rattle.h5w_index.specs.Placing.{IsOwn}
use Rattle.h5w_index.proofs.DepthLemmas.{depth_laws}
use Rattle.h5w_index.proofs.MarkLemmas.{plan_bounds}
use Rattle.h5w_index.proofs.PartlyLemmas.{own_laws}
use Rattle.h5w_index.proofs.PlacingLemmas.{placing_laws}
use Rattle.h5w_index.proofs.RaisedLemmas.{raised_more, raised_on}
use Rattle.h5w_writer.specs.Flushes.{ArePlanned, IsFlushed, flushed_of, header_piece, touched_by}
use Rattle.h5w_writer.specs.PartLaws.{HasNoPlace}
use Rattle.h5w_writer.specs.Past.{IsCounted, IsMadeHere, Past}
use Rattle.h5w_writer.specs.Sessions.{IsRoomy, Session, AllEndBy, AreReached, cutting_of, most_lines, next_row, rows_of, with_rows}
use Rattle.h5w_step_laws.specs.Logs.{image_now}
use Rattle.h5w_writer.specs.Stands.{Running, Stands}
use Rattle.h5w_writer.specs.PartOf.{FlushShows, IsPartOf}
use Rattle.h5w_writer.proofs.FlushLemmas.{after_flush, cut_of, shows_part, told_of}
use Rattle.h5w_writer.proofs.HeaderAlone.{same_block}
use Rattle.h5w_writer.proofs.FlushStands.{flush_stands, idle_running}
use Rattle.h5w_writer.proofs.LawLemmas.{standing_laws}
use Rattle.h5w_writer.proofs.NextLemmas.{next_addressed}
use Rattle.h5w_writer.proofs.PastLemmas.{IsLike, past_planned}
use Rattle.h5w_pieces.proofs.PieceBounds.{behind_few}
use Rattle.h5w_writer.proofs.PlannedRows.{other_bytes}
use Rattle.h5w_writer.proofs.ReachedLemmas.{any_reached}

-- ---- Numbers

-- so many are no more than another number that is this one
pub at_most : (a b c : ℕ) → a ≤ b → c ≡ b → a ≤ c
at_most a b c less same = omega (arith, less, same)

between_same : (a b c e : ℕ) → a ≡ b → b ≤ c → c ≡ e → a ≤ e
between_same a b c e first less last = omega (arith, first, less, last)

-- a product of no fewer
pub more_times : (n b : ℕ) → n * (b + 20000) ≡ n * b + n * 20000
more_times n b = grind arith

-- what the pieces of a flush into n chunks of b bytes come to
all_few : (n b rows copies supers fixed : ℕ) → rows ≤ n * b → copies + fixed ≤ n * 34 + 34 → supers ≤ 1 → rows + (copies + (supers + (fixed + 1))) ≤ 1000 + n * (b + 20000)
all_few n b rows copies supers fixed few index ends = omega (arith, few, index, ends, more_times n b)

-- ---- The load of a log

pub load_is : (s : Session) (log : Log) → s.stopped ≡ false → s.pending ≡ [] → Stands s log → load (cutting_of s) log ≡ 1000 + most_of s.dataset (rows_of s)
load_is s log running idle st =
    let columns : log.columns ≡ s.dataset.shape.cols = standing_laws.columns s log st in
    let old : length (flushed log) / s.dataset.shape.cols ≡ s.dataset.shape.rows =
    ap (λ (n : ℕ). length (flushed log) / n) (sym columns) ∙ standing_laws.planned_rows s log st running idle in
    let new : length (appended log) / s.dataset.shape.cols ≡ rows_of s =
    ap (λ (n : ℕ). length (appended log) / n) (sym columns) ∙ sym (standing_laws.appended_rows s log st) in
    let of_chunks : ℕ → ℕ → ℕ = λ from to. 1000 + touched_chunks (cutting_of s) from to * (chunk_bytes s.dataset + 20000) in
    ap (λ (n : ℕ). of_chunks n (length (appended log) / s.dataset.shape.cols)) old ∙ ap (λ (n : ℕ). of_chunks s.dataset.shape.rows n) new

-- ---- The dataset of a session

pub record Counts (s : Session) : Type 0 where
  pub cut : IsCut s.dataset
  pub across : 0 < chunks_across s.dataset
  pub bytes : 1 ≤ chunk_bytes s.dataset
  pub same : chunk_len s.dataset ≡ chunk_bytes s.dataset

pub counted : (s : Session) → IsCounted s.dataset → Counts s
counted s c =
    let d = s.dataset in
    let cells : 1 * 1 ≤ d.layout.chunk_rows * d.layout.chunk_cols = mul-le 1 1 d.layout.chunk_rows d.layout.chunk_cols (omega (arith, c.rows)) (omega (arith, c.cols)) in
    let bytes : 1 * 1 ≤ d.layout.chunk_rows * d.layout.chunk_cols * d.int_type.size = mul-le 1 1 (d.layout.chunk_rows * d.layout.chunk_cols) d.int_type.size (omega (arith, cells)) (omega (arith, c.some)) in
    record {
      cut = cut_of d c;
      across = c.across;
      bytes = omega (arith, bytes);
      same = grind arith;
    }

-- some rows wait, so that some chunks are touched
pub some_touched : (s : Session) → Counts s → 0 < s.waits → 0 < touched_by s
some_touched s c waits =
    let from = s.dataset.shape.rows in
    let to = rows_of s in
    let per = s.dataset.layout.chunk_rows in
    let across = chunks_across s.dataset in
    let bands = div_up to per - from / per in
    let low : from / per * per < to = omega arith in
    let high : from / per < div_up to per = lt_up (from / per) to per c.cut.rows low in
    let some : 1 * 1 ≤ bands * across = mul-le 1 1 bands across (omega (arith, high)) (omega (arith, c.across)) in
    let chunks : touched_by s ≡ bands * across = cond-true (nat_lt from to) (bands * across) 0 (lt-ltb from to (omega arith)) in
    subst (λ (n : ℕ). 0 < n) (sym chunks) (omega (arith, some))

-- ---- What any flush plans

pub supers_few : (s : Super) (e : ℕ) (ws : List Write) → AreEnded s e ws → length ws ≤ 1
supers_few s e [] ended = omega arith
supers_few s e (w ∷ ws) ended = omega (arith, ap length ended.1)

module _ (s : Session) (v : IndexView) (before : Space) (w : IndexView) (t : Space) (x : ArePlanned s v before w t) where
  -- an index that was made here stays one
  pub planned_own : IsOwn v → IsOwn w
  planned_own own = own_laws.planned x.named x.between x.moves x.copies x.fixed w t x.names.partly.like.sound x.plan (x.names.partly.own own)

  -- an index that had room has it still
  pub planned_roomy : IsRoomy s.dataset v → IsRoomy s.dataset w
  planned_roomy roomy = depth_laws.planned (most_lines s.dataset) (keys_across s.dataset) x.named x.between x.moves x.copies x.fixed w t x.plan (x.roomy roomy)

  module _ (marks : IsMarked s.dataset s.dataset.shape.rows (rows_of s) v) where
    pub planned_raised : IsRaised before t (most_of s.dataset (rows_of s))
    planned_raised = placing_laws.raised s.dataset (rows_of s) v x.named w before x.between t s.chunks x.chunks x.added x.moves x.copies x.fixed x.all marks x.names x.taken x.plan

    module _ (log : Log) (r : Running s [] log) where
      rows_few : length x.rows ≤ touched_by s * chunk_bytes s.dataset
      rows_few =
          let d = s.dataset in
          let counts = counted s r.past.counted in
          let count = other_bytes (image_now log) s v before w t x r.address r.rest r.early r.more r.written r.some r.waiting r.fit r.count counts.cut in
          let few = behind_few d s.waiting d.shape.rows (next_row s) (rows_of s) x.chunks counts.cut (omega arith) count x.all in
          let size : touched_by s * chunk_len d ≡ touched_by s * chunk_bytes d = ap (λ (n : ℕ). touched_by s * n) counts.same in
          between_same (length x.rows) _ _ (touched_by s * chunk_bytes d) (ap length x.exact) few size

      -- all pieces, with the header's
      pub planned_few : length x.rows + (length x.copies + (length x.supers + (length x.fixed + 1))) ≤ 1000 + most_of s.dataset (rows_of s)
      planned_few =
          let d = s.dataset in
          let index = plan_bounds d d.shape.rows (rows_of s) x.named x.between x.moves x.copies x.fixed w t x.names.partly.like.sound (x.names.partly.marks marks) x.plan in
          all_few (touched_by s) (chunk_bytes d) (length x.rows) (length x.copies) (length x.supers) (length x.fixed) rows_few index.pieces (supers_few s.root t.end x.supers x.ended)

-- ---- A flush into a file whose index is there

like_flushed : (old new : Session) → new ≡ flushed_of old new.places new.pending new.index → new.places.limit ≡ old.places.limit → (IsMadeHere old.index → IsMadeHere new.index) → AreReached new → (IsRoomy old.dataset old.index → IsRoomy old.dataset new.index) → IsLike old new
like_flushed old new e limit own reached roomy =
    let same : new.dataset ≡ with_rows (rows_of old) old.dataset = ap (λ (t : Session). t.dataset) e in
    record {
      name = ap (λ (t : Session). t.name) e;
      place = ap (λ (t : Session). t.place) e;
      dataset = same ∙ ap (λ (d : Described). with_index d.layout.address (with_rows d.shape.rows old.dataset)) (sym same);
      address = λ named. ap (λ (d : Described). d.layout.address) same;
      limit = limit;
      own = own;
      reach = λ first img before more. reached;
      roomy = λ before. subst (λ (d : Described). IsRoomy d new.index) (sym same) (roomy before);
    }

module _ (old new : Session) (log : Log) (x : IsFlushed old new) (running : old.stopped ≡ false) (idle : old.pending ≡ []) (st : Stands old log) (r : Running old [] log) where
  pub flush_raised : IsRaised old.places new.places (load (cutting_of old) log)
  flush_raised =
      let most = most_of old.dataset (rows_of old) in
      raised_more old.places new.places most (load (cutting_of old) log) (at_most most (1000 + most) (load (cutting_of old) log) (omega arith) (load_is old log running idle st))
      (planned_raised old old.index old.places new.index new.places x.planned r.marks)

  -- the pieces of a flush are no more than the load
  pieces_few : length new.pending ≤ load (cutting_of old) log
  pieces_few =
      let p = x.planned in
      let header = header_piece old ∷ [] in
      let total : length new.pending ≡ length p.rows + (length p.copies + (length p.supers + (length p.fixed + 1))) =
      ap length x.pending ∙ length-append p.rows (p.copies ++ (p.supers ++ (p.fixed ++ header)))
      ∙ ap (λ (k : ℕ). length p.rows + k) (length-append p.copies (p.supers ++ (p.fixed ++ header)) ∙ ap (λ (k : ℕ). length p.copies + k) (length-append p.supers (p.fixed ++ header) ∙ ap (λ (k : ℕ). length p.supers + k) (length-append p.fixed header))) in
      between_same (length new.pending) _ _ (load (cutting_of old) log) total (planned_few old old.index old.places new.index new.places p r.marks log r) (sym (load_is old log running idle st))

  -- what it keeps of the past
  pub past_flushed : AllEndBy new.places.end new.pending → Past new new.pending (and_now (plans (length new.pending)) log) (after_flush old new log x r)
  past_flushed within =
      past_planned old new (length new.pending) new.pending log r.after (after_flush old new log x r) (like_flushed old new x.session flush_raised.limit (λ o. (planned_own old old.index old.places new.index new.places x.planned o.0, same_block old.index new.index ((told_of old old.index old.places new.index new.places x.planned).stay ∙ x.planned.names.partly.like.fixed) ∙ o.1)) (any_reached old new (inl x)) (planned_roomy old old.index old.places new.index new.places x.planned)) flush_raised
      within (λ bare. next_addressed old new log x r bare) r.past

-- the pieces of a flush, and what is left of the relation to the log
pub flush_bound : (old new : Session) (log : Log) → IsFlushed old new → old.stopped ≡ false → old.pending ≡ [] → Stands old log → length new.pending ≤ load (cutting_of old) log
flush_bound old new log x running idle st = pieces_few old new log x running idle st (idle_running old log running idle st)

pub flush_carries : (old new : Session) (log : Log) → IsFlushed old new → old.stopped ≡ false → old.pending ≡ [] → AllEndBy new.places.end new.pending → Stands old log → Stands new (and_now (plans (length new.pending)) log)
flush_carries old new log x running idle within st = flush_stands old new log x running idle (λ r. past_flushed old new log x running idle st r within) st

-- so in the words of h5w_flush_laws
pub flush_shows : FlushShows
flush_shows old new log x running idle within st r =
    let own = subst (λ (s : Session). Past s new.pending (and_now (plans (length new.pending)) log) (after_flush old new log x r)) x.session (past_flushed old new log x running idle st r within) in
    subst (λ (s : Session). IsPartOf old s log r) (sym x.session) (shows_part old new log x r own)

-- ---- A full file

pub refused_bound : (s : Session) (log : Log) (t : Space) (n size : ℕ) (full : Full) → IsRaised s.places t n → n ≤ load (cutting_of s) log → IsRefused t size full → 1 ≤ size → size ≤ load (cutting_of s) log → HasNoPlace s log full
refused_bound s log t n size full raised few refused some small =
    let at : full.at ≡ t.end = ap (λ (f : Full). f.at) refused.is in
    let bytes : full.size ≡ size = ap (λ (f : Full). f.size) refused.is in
    let limit : full.limit ≡ t.limit = ap (λ (f : Full). f.limit) refused.is in
    record {
      some = omega (arith, bytes, some);
      limit = limit ∙ raised.limit;
      past = omega (arith, at, bytes, limit, refused.no_room);
      size_bound = omega (arith, bytes, small);
      at_bound = omega (arith, at, raised.bound, few);
    }

-- Where rows that wait have no place for their first new chunk that has none, or else for the first block in turn: then the place that
-- is not there is bounded, also where the blocks of an index without chunks took places first.
pub part_no_place : (s : Session) (log : Log) → s.stopped ≡ false → s.pending ≡ [] → Stands s log → 0 < s.waits → (full : Full) (v : IndexView) → IsMarked s.dataset s.dataset.shape.rows (rows_of s) v → (base : Space) (taken : ℕ)
    → taken ≤ 1000 → IsRaised s.places base taken → IsFullPart s.dataset (rows_of s) v s.chunks base full → HasNoPlace s log full
part_no_place s log running idle st waits full v marks base taken little risen none =
    let r = idle_running s log running idle st in
    let c = counted s r.past.counted in
    let most = most_of s.dataset (rows_of s) in
    let top = load (cutting_of s) log in
    let loads = load_is s log running idle st in
    let b = placing_laws.full s.dataset (rows_of s) v s.chunks base full (let bytes = c.bytes in let same = c.same in omega (arith, bytes, same)) (some_touched s c waits) marks none in
    refused_bound s log b.before (taken + most) b.size full (raised_on s.places base b.before taken most risen b.raised) (at_most (taken + most) (1000 + most) top (omega (arith, little)) loads)
    b.refused b.some (at_most b.size (1000 + most) top (let few = b.few in omega (arith, few)) loads)
