-- The steps of an append: batches that are closed, and lines that are taken.
use Rattle.std.proofs.Common.{◌≡◌, ◌≢◌, ◌⊎◌, ℕ, ◌+◌, ◌*◌, ◌≤◌, true, false, List, [], ◌∷◌, ◌++◌, length, ℤ, Some, Result, Ok, Err, refl, sym, ap, ◌∙◌, subst, inl, inr, arith, append-nil}
use Rattle.std.specs.Prelude.{IfSome, IsSome, OnOk}
use Rattle.h5w_model.specs.Causes.{Rose}
use Rattle.h5w_model.specs.Datasets.{Described}
use Rattle.h5w_model.specs.declared.piece.Write.{Write}
use Rattle.h5w_image.specs.View.{DiskView, IsThere, file}
use Rattle.h5w_writer.specs.Sessions.{Session, rows_of}
use Rattle.h5w_input.specs.Scripts.{number_line_of}
use Rattle.h5w_text.specs.Streams.{SinkView, Gave, GaveSome}
use Rattle.h5w_text.specs.declared.error.ErrorLine.{ErrorLine}
use Rattle.h5w_text.specs.declared.error.ErrorLine.TheVariants as errors
use Rattle.h5w_batches.specs.Batches.{Batches, after_line, close_batch}
use Rattle.h5w_appending.specs.Appends.{HasTaken, Stored, columns_of, last_line_of, lines_of}
use Rattle.h5w_appending.specs.Appending.{AppendsAll, AppendsBy, Closes, FlushRefused, FlushesBy, Halted, HasNone, IsReady, LineRefused, Planned, PutsAll, PutsBy, PutsHalted, ReadyUnlessDisk, RunsOn, Steps, StepsOn, TakesLine, Told, Unflushed, Unput, ValuesRefused}
use Rattle.h5w_files.specs.Polls.{count_text}
use Rattle.h5w_appending.specs.Puts.{writes_of}
use Rattle.h5w_appending.specs.declared.batching.Ending.{Ending}
use Rattle.h5w_appending.specs.declared.batching.Ending.TheVariants as endings
use Rattle.h5w_appending.proofs.BatchLemmas.{batch_lines, batch_rows, nothing_closes, some_batch}
use Rattle.h5w_appending.proofs.PutLemmas.{length-writes, puts_there}
use Rattle.h5w_files.proofs.SinkLemmas.{gave_both}
use Rattle.h5w_appending.proofs.StoreLemmas.{broke_batch, broke_before, broke_puts, stored_batch, stored_puts, stored_same, stored_unflushed, stored_values}

-- ---- Refusals that a session gives which is ready

there_unput : {v w : DiskView} (name : List ℕ) → Unput name v w → IsThere v name → IsThere w name
there_unput name p there = subst (λ t. IfSome t (λ d. IsSome (file d name))) (sym p.disk.told) there

-- one whose pieces were all put, where there was room for one more
pub ready_put : {v w : DiskView} (n : ℕ) (name : List ℕ) (s t : Session) → IsThere v name → s.stopped ≡ false → 1 ≤ s.dataset.shape.cols → length s.pending + 1 ≤ v.pieces → s.places.end ≤ v.end name → PutsAll n name s t v w → IsReady name t w
ready_put {v} {w} n name s t there running columns room low q =
    let ps = q.puts in
    let same = ps.session in
    let count : length s.pending ≡ length (writes_of ps.puts) = ap length ps.pieces ∙ ap (λ (ws : List Write). length (writes_of ps.puts ++ ws)) q.all ∙ ap length (append-nil (writes_of ps.puts)) in
    let puts = length-writes ps.puts in
    let end = ps.end in
    let ends = ps.ends in
    let left = ps.room in
    record {
      there = puts_there name ps.puts ps.disk there;
      running = ap (λ (y : Session). y.stopped) same ∙ running;
      columns = subst (λ n. 1 ≤ n) (sym (ap (λ (y : Session). y.dataset.shape.cols) same)) columns;
      idle = q.all;
      room = omega (arith, count, puts, room, left);
      end = omega (arith, end, low, ends);
    }

pub ready_values : {v x w : DiskView} (n : ℕ) (name : List ℕ) (s t r : Session) (values : List ℤ) → Unput name v x → AppendsAll name s t values x → PutsAll n name t r x w → IsReady name s v → IsReady name r w
ready_values n name s t r values p a q ready =
    let is = a.added.session in
    ready_put n name t r (there_unput name p ready.there) (ap (λ (y : Session). y.stopped) is ∙ ready.running) (subst (λ n. 1 ≤ n) (sym (ap (λ (y : Session). y.dataset.shape.cols) is)) ready.columns) a.room a.end q

pub ready_batch : {v x w : DiskView} (n : ℕ) (name : List ℕ) (s t r : Session) → Unput name v x → Planned name s t x → PutsAll n name t r x w → IsReady name s v → IsReady name r w
ready_batch n name s t r p plan q ready =
    ready_put n name t r (there_unput name p ready.there) (plan.rows.stopped ∙ ready.running) (subst (λ n. 1 ≤ n) (sym (ap (λ (d : Described). d.shape.cols) plan.rows.dataset)) ready.columns) plan.room plan.end q

-- one that stays
pub ready_unput : {v w : DiskView} (name : List ℕ) (s : Session) → Unput name v w → IsReady name s v → IsReady name s w
ready_unput name s p ready =
    let room = p.room in
    let before = ready.room in
    let end = p.end in
    let low = ready.end in
    record { there = there_unput name p ready.there; running = ready.running; columns = ready.columns; idle = ready.idle; room = omega (arith, room, before); end = omega (arith, end, low) }

-- ---- Batches

columns_same : (first s : Session) (b : Batches) → HasTaken first s b → s.dataset.shape.cols ≡ columns_of first
columns_same first s b h = ap (λ (d : Described). d.shape.cols) h.dataset

some_columns : {v : DiskView} (name : List ℕ) (first s : Session) (b : Batches) → HasTaken first s b → IsReady name s v → 1 ≤ columns_of first
some_columns name first s b h r = subst (λ n. 1 ≤ n) (columns_same first s b h) r.columns

pub told_unput : {u v w : DiskView} {k l : SinkView} (name : List ℕ) (first s : Session) (b : Batches) → Unput name v w → Told name first s b u v k l → Told name first s b u w k l
told_unput name first s b p t = record { stored = stored_same name first s b p t.stored; gave = t.gave }

pub nothing_put : (v : DiskView) (name : List ℕ) → Unput name v v
nothing_put v name = record { disk = record { told = refl; faults = omega arith; through = refl }; room = omega arith; end = omega arith }

-- the line of a batch
batch_line : (name : List ℕ) (first s : Session) (b : Batches) (bytes : List ℕ) → 1 ≤ columns_of first → 1 ≤ s.waits → HasTaken first s b → bytes ≡ count_text (rows_of s) → last_line_of first (close_batch b).closed ≡ bytes
batch_line name first s b bytes some waits h is =
    ap count_text (batch_rows (columns_of first) first.dataset.shape.rows s.waits b some waits h.waits ∙ ap (λ n. n + s.waits) (sym h.rows)) ∙ sym is

-- it stands behind those before it
batch_text : (name : List ℕ) (first s : Session) (b : Batches) (bytes : List ℕ) → 1 ≤ columns_of first → 1 ≤ s.waits → HasTaken first s b → bytes ≡ count_text (rows_of s)
    → lines_of first (close_batch b).closed ≡ lines_of first b.closed ++ bytes
batch_text name first s b bytes some waits h is =
    batch_lines (columns_of first) first.dataset.shape.rows s.waits b some waits h.waits
    ∙ ap (λ (t : List ℕ). lines_of first b.closed ++ t) (ap count_text (ap (λ n. n + s.waits) (sym h.rows)) ∙ sym is)

-- its flush was refused
pub close_refused : {v w : DiskView} {k : SinkView} (n : ℕ) (name : List ℕ) (s t : Session) (e : ErrorLine) → Unput name v w → Unflushed s t → FlushRefused s e → StepsOn n name s t Closes (FlushRefused s) v w k k (Err (endings.Refused e))
close_refused n name s t e p a cause = λ first b u m counted told. (record { stored = stored_unflushed name first s t b a p told.stored; gave = told.gave }, cause)

-- the image failed
pub close_failed : {v w : DiskView} {k : SinkView} (n : ℕ) (name : List ℕ) (s c t : Session) → Unput name v w → Unflushed s c → Halted c t → Rose v.faults w.faults → StepsOn n name s t Closes (FlushRefused s) v w k k (Err endings.Disk)
close_failed {v} {w} n name s c t p a halted rose =
    λ first b u m counted told. (b, inl refl, record { broke = broke_before name first c t b halted p rose (stored_unflushed name first s c b a (nothing_put v name) told.stored); gave = told.gave })

-- no row waits
pub close_none : {v w : DiskView} {k : SinkView} (n : ℕ) (name : List ℕ) (s t : Session) → Unput name v w → HasNone s t → StepsOn n name s t Closes (FlushRefused s) v w k k (Ok tt)
close_none {v} {w} {k} n name s t p none = λ first b u m counted told.
    let same : close_batch b ≡ b = nothing_closes b (columns_of first) s.waits none.0 told.stored.taken.waits in (
      close_batch b,
      refl,
      subst (λ (x : Session). Told name first x (close_batch b) u w m k) (sym none.1) (subst (λ (x : Batches). Told name first s x u w m k) (sym same) (told_unput name first s b p told)),
    )

-- the disk failed at a piece
pub close_broke : {v x w : DiskView} {k : SinkView} (n : ℕ) (name : List ℕ) (s t r : Session) → IsReady name s v → Unput name v x → Planned name s t x → PutsHalted n name t r x w → StepsOn n name s r Closes (FlushRefused s) v w k k (Err endings.Disk)
close_broke n name s t r ready p plan q =
    λ first b u m counted told. (b, inl refl, record { broke = broke_batch n name first s t r b counted (some_columns name first s b told.stored.taken ready) ready.idle p plan q told.stored; gave = told.gave })

-- all was put, and its line was written
pub close_whole : {v x w : DiskView} {k l : SinkView} (n : ℕ) (name : List ℕ) (s t r : Session) (bytes : List ℕ) → IsReady name s v → Unput name v x → Planned name s t x → PutsAll n name t r x w → bytes ≡ count_text (rows_of s)
    → Gave bytes k l → StepsOn n name s r Closes (FlushRefused s) v w k l (Ok tt)
close_whole {v} {x} {w} {k} {l} n name s t r bytes ready p plan q is gave = λ first b u m counted told.
    let some = some_columns name first s b told.stored.taken ready in (
      close_batch b,
      refl,
      record {
        stored = stored_batch n name first s t r b counted some ready.idle p plan q told.stored;
        gave = subst (λ (y : List ℕ). Gave y m l) (sym (batch_text name first s b bytes some plan.waits told.stored.taken is)) (gave_both (lines_of first b.closed) bytes told.gave gave);
      },
    )

-- and the sink failed at its line
pub close_half : {v x w : DiskView} {k l : SinkView} (n : ℕ) (name : List ℕ) (s t r : Session) (bytes : List ℕ) → IsReady name s v → Unput name v x → Planned name s t x → PutsAll n name t r x w → bytes ≡ count_text (rows_of s)
    → Rose k.faults l.faults → GaveSome bytes k l → StepsOn n name s r Closes (FlushRefused s) v w k l (Err endings.Sink)
close_half {v} {x} {w} {k} {l} n name s t r bytes ready p plan q is rose gave = λ first b u m counted told.
    let some = some_columns name first s b told.stored.taken ready in (
      close_batch b,
      refl,
      record {
        stored = stored_batch n name first s t r b counted some ready.idle p plan q told.stored;
        stops = record {
          before = b.closed;
          last = b.waiting;
          closed = ap (λ (x : List (List ℤ)). b.closed ++ x) (some_batch (columns_of first) s.waits b.waiting some plan.waits told.stored.taken.waits);
          waiting = refl;
          middle = k;
          gave = told.gave;
          rose = rose;
          some = subst (λ (y : List ℕ). GaveSome y k l) (sym (batch_line name first s b bytes some plan.waits told.stored.taken is)) gave;
        };
      },
    )

-- ---- Lines

-- a line that closes a batch has no values
pub line_closes : {v : DiskView} {k : SinkView} (w : DiskView) (l : SinkView) (n : ℕ) (name : List ℕ) (s t : Session) (line : List ℕ) (number : ℕ) (r : Result (Unit {0}) Ending) → number_line_of (columns_of s) line ≡ Some [] → StepsOn n name s t Closes (FlushRefused s) v w k l r
    → StepsOn n name s t (TakesLine line) (LineRefused line number s) v w k l r
line_closes {v} {k} w l n name s t line number r spelled steps = λ first b u m counted told. cases first b u m (subst (λ c. number_line_of c line ≡ Some []) (columns_same first s b told.stored.taken) spelled) r (steps first b u m counted told)
  where
    refused : (e : ErrorLine) → FlushRefused s e → LineRefused line number s e
    refused errors.Usage c = absurd c
    refused errors.Missing c = absurd c
    refused errors.Exists c = absurd c
    refused (errors.Read e) c = absurd c
    refused (errors.Finding kind at) c = absurd c
    refused (errors.Overlap at len other other_len) c = absurd c
    refused (errors.Cut end size) c = absurd c
    refused (errors.WriterVersion version) c = absurd c
    refused errors.Layout c = absurd c
    refused (errors.ChunkBytes bytes) c = absurd c
    refused errors.NoColumns c = absurd c
    refused (errors.Same one other) c = absurd c
    refused (errors.FullChunks chunks limit) c = absurd c
    refused (errors.FullSpace at size limit) c = (spelled, c)
    refused errors.Deep c = (spelled, c)
    refused (errors.Line n) c = absurd c
    refused (errors.Range n i x) c = absurd c
    refused (errors.Input limit) c = absurd c
    refused errors.Disk c = absurd c
    refused errors.Image c = absurd c
    refused errors.Source c = absurd c
    refused errors.Memory c = tt

    cases : (first : Session) (b : Batches) (u : DiskView) (m : SinkView) → number_line_of (columns_of first) line ≡ Some [] → (r : Result (Unit {0}) Ending) → Steps name first t b (Closes first b) (FlushRefused s) u w m l r
        → Steps name first t b (TakesLine line first b) (LineRefused line number s) u w m l r
    cases first b u m is (Ok a) h = (h.0, record { values = []; spelled = is; next_is = h.1 }, h.2)
    cases first b u m is (Err (endings.Refused e)) h = (h.0, refused e h.1)
    cases first b u m is (Err endings.Disk) h = (h.0, elim h.1 [ inl same ↦ inl same | inr next ↦ inr (record { values = []; spelled = is; next_is = next }) ], h.2)
    cases first b u m is (Err endings.Sink) h = (h.0, record { values = []; spelled = is; next_is = h.1 }, h.2)

nonempty_line : (b : Batches) (values : List ℤ) → 1 ≤ length values → after_line b values ≡ record b { waiting = b.waiting ++ values }
nonempty_line b [] h = absurd (omega (arith, h))
nonempty_line b (x ∷ xs) h = refl

-- they close no batch
lines_still : {k m : SinkView} (first : Session) (b : Batches) (values : List ℤ) → 1 ≤ length values → Gave (lines_of first b.closed) m k → Gave (lines_of first (after_line b values).closed) m k
lines_still {k} {m} first b values some gave = subst (λ (y : Batches). Gave (lines_of first y.closed) m k) (sym (nonempty_line b values some)) gave

-- What was stored before a line, and the line's values behind it: its early pieces are pending.
values_told : {u v x : DiskView} {k m : SinkView} (name : List ℕ) (first s t : Session) (b : Batches) (values : List ℤ) (n : ℕ) → IsReady name s v → Unput name v x → 1 ≤ length values → length values ≡ n * s.dataset.shape.cols → AppendsAll name s t values x
    → Told name first s b u v m k → Stored name first t (after_line b values) u x
values_told {u} {v} {x} name first s t b values n ready p some rows a told =
    subst (λ (y : Batches). Stored name first t y u x) (sym (nonempty_line b values some))
    (stored_values name first s t b values n (some_columns name first s b told.stored.taken ready) rows ready.idle a p told.stored)

-- a line of these values leads to the batches with them
takes_values : {u v : DiskView} {k m : SinkView} (name : List ℕ) (first s : Session) (b : Batches) (line : List ℕ) (values : List ℤ) → number_line_of (columns_of s) line ≡ Some values → Told name first s b u v m k → TakesLine line first b (after_line b values)
takes_values name first s b line values spelled told =
    record { values = values; spelled = subst (λ c. number_line_of c line ≡ Some values) (columns_same first s b told.stored.taken) spelled; next_is = refl }

-- its values are appended, and their early pieces put
pub line_whole : {v x w : DiskView} (k : SinkView) (faults : ℕ) (name : List ℕ) (s t r : Session) (line : List ℕ) (number n : ℕ) (values : List ℤ) → IsReady name s v → Unput name v x → number_line_of (columns_of s) line ≡ Some values
    → 1 ≤ length values → length values ≡ n * s.dataset.shape.cols → AppendsAll name s t values x → PutsAll faults name t r x w → StepsOn faults name s r (TakesLine line) (LineRefused line number s) v w k k (Ok tt)
line_whole k faults name s t r line number n values ready p spelled some rows a q = λ first b u m counted told. (
  after_line b values,
  takes_values name first s b line values spelled told,
  record { stored = stored_puts name first t r (after_line b values) (q.before ∙ sym counted) q.puts (values_told name first s t b values n ready p some rows a told); gave = lines_still first b values some told.gave },
)

-- the disk failed at one of those
pub line_broke : {v x : DiskView} (w : DiskView) (k : SinkView) (faults : ℕ) (name : List ℕ) (s t r : Session) (line : List ℕ) (number n : ℕ) (values : List ℤ) (e : Ending) → IsReady name s v → Unput name v x → number_line_of (columns_of s) line ≡ Some values
    → 1 ≤ length values → length values ≡ n * s.dataset.shape.cols → AppendsAll name s t values x → PutsBy faults name t r x w (Err e) → StepsOn faults name s r (TakesLine line) (LineRefused line number s) v w k k (Err e)
line_broke w k faults name s t r line number n values (endings.Refused e) ready p spelled some rows a q = absurd q
line_broke w k faults name s t r line number n values endings.Disk ready p spelled some rows a q = λ first b u m counted told. (
  after_line b values,
  inr (takes_values name first s b line values spelled told),
  record { broke = broke_puts faults name first t r (after_line b values) counted q (values_told name first s t b values n ready p some rows a told); gave = lines_still first b values some told.gave },
)
line_broke w k faults name s t r line number n values endings.Sink ready p spelled some rows a q = absurd q

-- they are refused, or the image failed
pub line_refused : {v w : DiskView} (k : SinkView) (faults : ℕ) (name : List ℕ) (s t : Session) (line : List ℕ) (number : ℕ) (values : List ℤ) (e : Ending) → Unput name v w → number_line_of (columns_of s) line ≡ Some values
    → AppendsBy name number values s t v w (Err e) → StepsOn faults name s t (TakesLine line) (LineRefused line number s) v w k k (Err e)
line_refused {v} {w} k faults name s t line number values (endings.Refused e) p spelled h = λ first b u m counted told.
    (subst (λ (x : Session). Told name first x b u w m k) (sym h.0) (told_unput name first s b p told), refused e h.1)
  where
    refused : (e : ErrorLine) → ValuesRefused number s values e → LineRefused line number s e
    refused errors.Usage c = absurd c
    refused errors.Missing c = absurd c
    refused errors.Exists c = absurd c
    refused (errors.Read e) c = absurd c
    refused (errors.Finding kind at) c = absurd c
    refused (errors.Overlap at len other other_len) c = absurd c
    refused (errors.Cut end size) c = absurd c
    refused (errors.WriterVersion version) c = absurd c
    refused errors.Layout c = absurd c
    refused (errors.ChunkBytes bytes) c = absurd c
    refused errors.NoColumns c = absurd c
    refused (errors.Same one other) c = absurd c
    refused (errors.FullChunks chunks limit) c = (values, spelled, c)
    refused (errors.FullSpace at size limit) c = absurd c
    refused errors.Deep c = absurd c
    refused (errors.Line n) c = absurd c
    refused (errors.Range n i x) c = (values, spelled, c)
    refused (errors.Input limit) c = absurd c
    refused errors.Disk c = absurd c
    refused errors.Image c = absurd c
    refused errors.Source c = absurd c
    refused errors.Memory c = tt
line_refused k faults name s t line number values endings.Disk p spelled h = λ first b u m counted told. (b, inl refl, record { broke = broke_before name first s t b h.0 p h.1 told.stored; gave = told.gave })
line_refused k faults name s t line number values endings.Sink p spelled h = absurd h

-- ---- By results

pub flush_ended : {v w : DiskView} (k : SinkView) (n : ℕ) (name : List ℕ) (s t : Session) (e : Ending) → Unput name v w → FlushesBy name s t v w (Err e) → StepsOn n name s t Closes (FlushRefused s) v w k k (Err e)
flush_ended k n name s t (endings.Refused e) p h = close_refused n name s t e p h.0 h.1
flush_ended k n name s t endings.Disk p h = close_failed n name s h.0 t p h.1 h.2 h.3
flush_ended k n name s t endings.Sink p h = absurd h

pub none_planned : {x : DiskView} (name : List ℕ) (s t : Session) → HasNone s t ⊎ Planned name s t x → length t.pending ≡ 0 → HasNone s t
none_planned name s t (inl h) e = h
none_planned name s t (inr p) e = let some = p.some in absurd (omega (arith, some, e))

pub some_planned : {v x : DiskView} (name : List ℕ) (s t : Session) → IsReady name s v → HasNone s t ⊎ Planned name s t x → length t.pending ≢ 0 → Planned name s t x
some_planned name s t ready (inl h) some = absurd (some (ap (λ (y : Session). length y.pending) h.1 ∙ ap length ready.idle))
some_planned name s t ready (inr p) some = p

pub puts_ended : {v x : DiskView} (w : DiskView) (k : SinkView) (n : ℕ) (name : List ℕ) (s t r : Session) (e : Ending) → IsReady name s v → Unput name v x → Planned name s t x → PutsBy n name t r x w (Err e) → StepsOn n name s r Closes (FlushRefused s) v w k k (Err e)
puts_ended w k n name s t r (endings.Refused e) ready p plan h = absurd h
puts_ended w k n name s t r endings.Disk ready p plan h = close_broke n name s t r ready p plan h
puts_ended w k n name s t r endings.Sink ready p plan h = absurd h

-- ---- A line whose values were appended, by the result of its puts

pub line_ready : {v x : DiskView} (w : DiskView) (faults : ℕ) (name : List ℕ) (s t r : Session) (values : List ℤ) (q : Result (Unit {0}) Ending) → IsReady name s v → Unput name v x → AppendsAll name s t values x → PutsBy faults name t r x w q → ReadyUnlessDisk name r w q
line_ready w faults name s t r values (Ok e) ready p a q = ready_values faults name s t r values p a q ready
line_ready w faults name s t r values (Err (endings.Refused e)) ready p a q = absurd q
line_ready w faults name s t r values (Err endings.Disk) ready p a q = tt
line_ready w faults name s t r values (Err endings.Sink) ready p a q = absurd q

pub line_columns : {x : DiskView} (w : DiskView) (faults : ℕ) (name : List ℕ) (s t r : Session) (values : List ℤ) (q : Result (Unit {0}) Ending) → AppendsAll name s t values x → PutsBy faults name t r x w q → OnOk q (columns_of r ≡ columns_of s)
line_columns w faults name s t r values (Ok e) a q = ap (λ (y : Session). y.dataset.shape.cols) q.puts.session ∙ ap (λ (y : Session). y.dataset.shape.cols) a.added.session
line_columns w faults name s t r values (Err e) a q = tt

pub line_appends : {v x : DiskView} (w : DiskView) (k : SinkView) (faults : ℕ) (name : List ℕ) (s t r : Session) (line : List ℕ) (number n : ℕ) (values : List ℤ) (q : Result (Unit {0}) Ending) → IsReady name s v → Unput name v x → number_line_of (columns_of s) line ≡ Some values
    → 1 ≤ length values → length values ≡ n * s.dataset.shape.cols → AppendsAll name s t values x → PutsBy faults name t r x w q → StepsOn faults name s r (TakesLine line) (LineRefused line number s) v w k k q
line_appends w k faults name s t r line number n values (Ok e) ready p spelled some rows a q = line_whole k faults name s t r line number n values ready p spelled some rows a q
line_appends w k faults name s t r line number n values (Err e) ready p spelled some rows a q = line_broke w k faults name s t r line number n values e ready p spelled some rows a q

-- ---- Values that are appended at once, by the result of their puts

pub run_whole : {v x w : DiskView} (faults : ℕ) (name : List ℕ) (s t r : Session) (n : ℕ) (values : List ℤ) → IsReady name s v → Unput name v x → 1 ≤ length values → length values ≡ n * s.dataset.shape.cols → AppendsAll name s t values x → PutsAll faults name t r x w
    → RunsOn faults name s r values v w (Ok true)
run_whole faults name s t r n values ready p some rows a q = (
  ready_values faults name s t r values p a q ready,
  line_columns _ faults name s t r values (Ok tt) a q,
  λ first b u k m counted told. record { stored = stored_puts name first t r (after_line b values) (q.before ∙ sym counted) q.puts (values_told name first s t b values n ready p some rows a told); gave = lines_still first b values some told.gave },
)

pub run_broke : {v x : DiskView} (w : DiskView) (faults : ℕ) (name : List ℕ) (s t r : Session) (n : ℕ) (values : List ℤ) (e : Ending) → IsReady name s v → Unput name v x → 1 ≤ length values → length values ≡ n * s.dataset.shape.cols → AppendsAll name s t values x
    → PutsBy faults name t r x w (Err e) → RunsOn faults name s r values v w (Err e)
run_broke w faults name s t r n values (endings.Refused e) ready p some rows a q = absurd q
run_broke w faults name s t r n values endings.Disk ready p some rows a q = λ first b u k m counted told. (
  after_line b values,
  inr refl,
  record { broke = broke_puts faults name first t r (after_line b values) counted q (values_told name first s t b values n ready p some rows a told); gave = lines_still first b values some told.gave },
)
run_broke w faults name s t r n values endings.Sink ready p some rows a q = absurd q

pub run_failed : {v w : DiskView} (faults : ℕ) (name : List ℕ) (s t : Session) (values : List ℤ) → Unput name v w → AppendsBy name 0 values s t v w (Err endings.Disk) → RunsOn faults name s t values v w (Err endings.Disk)
run_failed faults name s t values p h = λ first b u k m counted told. (b, inl refl, record { broke = broke_before name first s t b h.0 p h.1 told.stored; gave = told.gave })
