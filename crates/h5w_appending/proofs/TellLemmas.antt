-- An append's end in words of the file and of a log, from what a session leaves.
use Rattle.std.proofs.Common.{◌≡◌, ◌⊎◌, ℕ, ◌+◌, ◌-◌, ◌/◌, ◌^◌, ◌<◌, ◌≤◌, Bool, true, false, if◌then◌else◌, nat_lt, max, List, length, ℤ, Option, Some, None, Result, Ok, Err, refl, sym, ap, ◌∙◌, subst, inl, inr, arith}
use Rattle.std.proofs.lemmas.Bool.{cases_lt, lt-ltb, le-ltb}
use Rattle.std.specs.Option.{option_or}
use Rattle.std.specs.Prelude.{IfSome, option_map}
use Rattle.h5w_model.specs.Datasets.{Described}
use Rattle.h5w_model.specs.Lawful.{first_outside}
use Rattle.h5w_model.specs.Logs.{Log, hist, load, spent}
use Rattle.h5w_model.specs.Prefixed.{Held, Prefixed, ReadsNow, Still, image_at}
use Rattle.h5w_model.specs.Tables.{format_limits, limit_of, needed}
use Rattle.h5w_model.specs.declared.piece.Write.{Write}
use Rattle.h5w_model.specs.declared.refusal.BlockFault.TheVariants.{Cut}
use Rattle.h5w_image.specs.View.{DiskState, DiskView, file}
use Rattle.h5w_space.specs.declared.Extent.{Extent}
use Rattle.h5w_space.specs.declared.Full.{Full}
use Rattle.h5w_opening.specs.Openings.{Opened, refused_dataset}
use Rattle.h5w_opening.specs.declared.error.OpenError.{OpenError}
use Rattle.h5w_opening.specs.declared.error.OpenError.TheVariants as opens
use Rattle.h5w_writer.specs.Loads.{NoPlace, first_end_of}
use Rattle.h5w_writer.specs.Openings.{opened_log}
use Rattle.h5w_writer.specs.Refusals.{chunks_refusal}
use Rattle.h5w_writer.specs.Sessions.{Session, chunk_limit, chunks_with, cutting_of, rows_of, with_rows}
use Rattle.h5w_writer.specs.declared.refusal.AppendError.{AppendError}
use Rattle.h5w_writer.specs.declared.refusal.AppendError.TheVariants as appends
use Rattle.h5w_writer.proofs.LawLemmas.{standing_laws}
use Rattle.h5w_step_laws.specs.Files.{chunk_0}
use Rattle.h5w_several_open.specs.Beginnings.{IsBegunOver, IsNotBegun, is_damaged, is_refused, not_found}
use Rattle.h5w_several_open.proofs.BeginningLemmas.{begun_dataset}
use Rattle.h5w_writer_open.specs.OpenParts.{refused_part}
use Rattle.h5w_writer_open.specs.OpenRanges.{cut_at, ranges_refused, refused_index, refused_open}
use Rattle.h5w_writer_open.specs.declared.index.NoIndex.{NoIndex}
use Rattle.h5w_writer_open.specs.declared.index.NoIndex.TheVariants.{Unnamed, Empty, WrongTotals, Unordered}
use Rattle.h5w_index.specs.Views.{IndexView}
use Rattle.h5w_text.specs.Streams.{SourceView, SinkView}
use Rattle.h5w_text.specs.declared.error.ErrorLine.{ErrorLine}
use Rattle.h5w_text.specs.declared.error.ErrorLine.TheVariants as errors
use Rattle.h5w_text.specs.declared.status.Status.{Status}
use Rattle.h5w_batches.specs.Batches.{Batches}
use Rattle.h5w_several_open.specs.declared.beginning.Beginning.{Beginning}
use Rattle.h5w_appending.specs.Taken.{rows_after}
use Rattle.h5w_appending.specs.Puts.{writes_of}
use Rattle.h5w_appending.specs.Appends.{AppendEnds, AppendsCut, AppendsTo, Broken, Closed, InputRefuses, IsFree, IsHalted, IsLogOf, IsOpenOver, NeedsChunks, NeedsDepth, NeedsPlace, NotOpened, columns_of}
use Rattle.h5w_appending.specs.Tells.{Closes, HasDataset, IsBehind, IsBroken, IsClosed, IsDatasetIn, IsLogOver, IsUnopened, IsWhy, LacksChunks, LacksRoom, TellsCut, TellsEnd, TellsTo, TellsWhy, of_block, of_dataset, of_headers, of_index, of_tree}
use Rattle.h5w_appending.proofs.AppendLemmas.{first_named}

-- ---- The file that is opened

none_behind : {E : Type 0} (a b c : Option E) → option_or a (option_or b c) ≡ None → b ≡ None
none_behind None None c h = refl
none_behind None (Some e) c h = absurd (cc)
none_behind (Some e) b c h = absurd (cc)

dataset_in : {by : Beginning} (img at : List ℕ) (limit budget : ℕ) (s : Session) → IsBegunOver by img (length img) at limit budget s → IsDatasetIn by img at s.dataset
dataset_in {by = by} img at limit budget s h = record {
  found = h.found;
  is = h.is;
  unrefused = none_behind (ranges_refused h.found h.index) (refused_dataset h.found) (refused_index h.found.header.dataset h.index) h.unrefused;
  dataset = sym (ap (λ (x : Session). x.dataset) h.session ∙ begun_dataset by h.found (chunk_0 img h.found.place) h.kept at limit budget);
}

has_dataset : {v : DiskView} {by : Beginning} (name at : List ℕ) (limit budget : ℕ) (keeps : Bool) (first : Session) → IsOpenOver by name at limit budget keeps v first → HasDataset by name at v first.dataset
has_dataset {by = by} name at limit budget keeps first h =
    let same : h.opened.dataset ≡ first.dataset = sym (ap (λ (x : Session). x.dataset) h.is) in
    record { there = h.there; is = λ img told. subst (λ (d : Described). IsDatasetIn by img at d) same (dataset_in img at limit budget h.opened (h.exact img told)) }

-- ---- Why it is not opened

range_behind : (o : Opened) (end : ℕ) (x y : Option Extent) (e : OpenError) → option_or (option_map (cut_at 0) x) (option_map (cut_at end) y) ≡ Some e → IsBehind o e
range_behind o end (Some r) y e h = let is : cut_at 0 r ≡ e = cc in subst (λ (q : OpenError). IsBehind o q) is (of_block r.at (Cut r.size (0 - r.at)))
range_behind o end None (Some r) e h = let is : cut_at end r ≡ e = cc in subst (λ (q : OpenError). IsBehind o q) is (of_block r.at (Cut r.size (end - r.at)))
range_behind o end None None e h = absurd (cc)

index_behind : (o : Opened) (d : Described) (a : Result IndexView NoIndex) (e : OpenError) → refused_index d a ≡ Some e → IsBehind o e
index_behind o d (Ok v) e h = absurd (cc)
index_behind o d (Err Unnamed) e h = absurd (cc)
index_behind o d (Err Empty) e h = absurd (cc)
index_behind o d (Err WrongTotals) e h = let is : opens.Finding 15 d.layout.address ≡ e = cc in subst (λ (q : OpenError). IsBehind o q) is (of_tree 15 d.layout.address)
index_behind o d (Err Unordered) e h = let is : opens.Finding 16 d.layout.address ≡ e = cc in subst (λ (q : OpenError). IsBehind o q) is (of_tree 16 d.layout.address)

-- by a range of its header or of its index
pub ranges_behind : (o : Opened) (a : Result IndexView NoIndex) (e : OpenError) → ranges_refused o a ≡ Some e → IsBehind o e
ranges_behind o a e h = range_behind o _ _ _ e h

-- by what is appended to
pub part_behind : (o : Opened) (a : Result IndexView NoIndex) (e : OpenError) → refused_part o a ≡ Some e → IsBehind o e
part_behind o a e h = second (refused_dataset o) refl h
  where
    second : (x : Option OpenError) → refused_dataset o ≡ x → option_or x (refused_index o.header.dataset a) ≡ Some e → IsBehind o e
    second (Some f) is h = of_dataset e (is ∙ h)
    second None is h = index_behind o o.header.dataset a e h

open_behind : (o : Opened) (a : Result IndexView NoIndex) (e : OpenError) → refused_open o a ≡ Some e → IsBehind o e
open_behind o a e h = first (ranges_refused o a) refl h
  where
    first : (x : Option OpenError) → ranges_refused o a ≡ x → option_or x (refused_part o a) ≡ Some e → IsBehind o e
    first (Some f) is h = ranges_behind o a e (is ∙ h)
    first None is h = part_behind o a e h

unopened_in : {by : Beginning} (img at : List ℕ) (e : OpenError) → IsNotBegun by img (length img) at e → IsUnopened by img at e
unopened_in img at e (not_found f is) = of_headers is
unopened_in img at e (is_damaged o place f is bad) = of_index o is (of_block place f)
unopened_in img at e (is_refused o a f is index behind) = of_index o is (open_behind o a f behind)

why_in : (by : Beginning) (at : List ℕ) (t : Option (List ℕ)) (e : ErrorLine) → NotOpened by at t e → TellsWhy by at t e
why_in by at None e h = h
why_in by at (Some img) e h = (h.0, h.1, unopened_in img at h.0 h.2)

why_told : (by : Beginning) (name at : List ℕ) (t : Option DiskState) (e : ErrorLine) → IfSome t (λ d. IsFree e ⊎ NotOpened by at (file d name) e) → IfSome t (λ d. IsFree e ⊎ TellsWhy by at (file d name) e)
why_told by name at None e h = tt
why_told by name at (Some d) e (inl free) = inl free
why_told by name at (Some d) e (inr why) = inr (why_in by at (file d name) e why)

-- ---- The log

most_of_two : (n a b c : ℕ) → n ≤ max a b → a ≤ c → n ≤ max c b
most_of_two n a b c h low = omega (arith, h, low)

log_over : (img at : List ℕ) (columns : ℕ) (values : List ℤ) (ws : List Write) (b : Batches) → IsHalted img columns values at ws b → IsLogOver img at columns values ws b
log_over img at columns values ws b h =
    let log = h.of.log in
    let stands = h.of.stands in
    let begun = h.of.begun in
    let start : log.start ≡ img = ap (λ (x : Log). x.start) begun in
    let now = standing_laws.stopped h.session log stands h.stopped (subst (λ (x : Log). x.first ≤ length (hist log.events)) (sym begun) (omega arith)) in
    record {
      log = log;
      begun = begun;
      pieces = h.of.pieces;
      flushed_are = h.of.flushed_are;
      appended_are = h.of.appended_are;
      prefixed = subst (λ (n : List ℕ). Prefixed n log) h.named (standing_laws.prefixed h.session log stands);
      still = subst (λ (n : List ℕ). Still n log) h.named (standing_laws.still h.session log stands);
      held = subst (λ (n : List ℕ). Held n log) h.named (standing_laws.held h.session log stands);
      fits = λ p at_p. subst (λ (x : List ℕ). length (image_at log p) ≤ max (2 ^ 40) (length x)) start
          (most_of_two (length (image_at log p)) h.session.places.limit (length log.start) (2 ^ 40) (standing_laws.fits h.session log p stands at_p) (standing_laws.limited h.session log stands));
      now = subst (λ (n : List ℕ). ReadsNow n log) h.named now;
    }

-- ---- What is left

is_closed : {v w : DiskView} {by : Beginning} (name at : List ℕ) (limit budget : ℕ) (keeps : Bool) (first : Session) (b : Batches) → IsOpenOver by name at limit budget keeps v first → Closed by name at first b v w → IsClosed by name at b v w
is_closed name at limit budget keeps first b opened c =
    let puts = c.closed.puts in
    record {
      puts = puts;
      disk = c.closed.disk;
      calm = c.closed.calm;
      holds = λ img rows columns values sm told valid reads. c.holds img rows columns values sm told valid reads;
      logs = λ img rows columns values sm told valid reads.
          log_over img at columns values (writes_of puts) b
          (subst (λ (n : List ℕ). IsHalted img columns values n (writes_of puts) b) (first_named name at limit budget keeps first opened) (c.closed.logs img columns values (opened.stands img rows columns values sm told valid reads)));
      shut = c.shut;
    }

is_broken : {v w : DiskView} {by : Beginning} (name at : List ℕ) (limit budget : ℕ) (keeps : Bool) (first : Session) (b : Batches) → IsOpenOver by name at limit budget keeps v first → Broken name at first b v w → IsBroken name at b v w
is_broken name at limit budget keeps first b opened c =
    let puts = c.broke.puts in
    record {
      puts = puts;
      disk = c.broke.disk;
      rose = c.broke.rose;
      holds = λ img rows columns values sm told valid reads. c.holds img rows columns values sm told valid reads;
      logs = λ img rows columns values sm told valid reads.
          log_over img at columns values (writes_of puts) b
          (subst (λ (n : List ℕ). IsHalted img columns values n (writes_of puts) b) (first_named name at limit budget keeps first opened) (c.broke.logs img columns values (opened.stands img rows columns values sm told valid reads)));
    }

-- ---- Why an input is not taken to its end

pub other_refusal : (a b : Bool) (n : ℕ) (o : Option (ℕ × ℤ)) (more : Option AppendError) (chunks most : ℕ)
    → (if a then Some appends.Stopped else if b then Some (appends.Busy n) else elim o as (λ _. Option AppendError) [ Some x ↦ Some (appends.OutOfRange x.0 x.1) | None ↦ more ]) ≡ Some (appends.Chunks chunks most) → more ≡ Some (appends.Chunks chunks most)
other_refusal true b n o more chunks most h = absurd (cc)
other_refusal false true n o more chunks most h = absurd (cc)
other_refusal false false n (Some x) more chunks most h = absurd (cc)
other_refusal false false n None more chunks most h = h

-- the chunks that are needed, their limit, and which is more
pub record ArePast (a b chunks most : ℕ) : Type 0 where
  chunks_are : chunks ≡ b
  limit_is : most ≡ a
  past : a < b

past_limit : (a b chunks most : ℕ) → (if nat_lt a b then Some (appends.Chunks b a) else None) ≡ Some (appends.Chunks chunks most) → ArePast a b chunks most
past_limit a b chunks most h =
    elim (cases_lt a b) [
      | inl many ↦
          let test : Some (appends.Chunks b a) ≡ Some (appends.Chunks chunks most) = sym (ap (λ (t : Bool). if t then Some (appends.Chunks b a) else None) (lt-ltb a b many)) ∙ h in
          record { chunks_are = cc; limit_is = cc; past = many }
      | inr few ↦
          let clash : None ≡ Some (appends.Chunks chunks most) = sym (ap (λ (t : Bool). if t then Some (appends.Chunks b a) else None) (le-ltb a b few)) ∙ h in
          absurd (cc)
    ]

lacks_chunks : (first : Session) (s : SourceView) (b : Batches) (chunks most : ℕ) → NeedsChunks first s b chunks most → LacksChunks first.dataset s b chunks most
lacks_chunks first s b chunks most h =
    let t = h.session in
    let taken = h.taken in
    let more = length h.values / columns_of t in
    let past = past_limit (chunk_limit t) (chunks_with t more) chunks most (other_refusal t.stopped (nat_lt 0 (length t.pending)) (length t.pending) (first_outside t.dataset.int_type 0 h.values) (chunks_refusal t more) chunks most h.refused) in
    let columns : columns_of t ≡ columns_of first = ap (λ (d : Described). d.shape.cols) taken.dataset in
    let rows : rows_of t ≡ rows_after (columns_of first) first.dataset.shape.rows b.closed + t.waits = ap (λ n. n + t.waits) taken.rows in
    let same : needed (with_rows (rows_of t + more) t.dataset) ≡ needed (with_rows (rows_of t + more) first.dataset) = ap (λ (d : Described). needed (with_rows (rows_of t + more) d)) taken.dataset in
    let counted : needed (with_rows (rows_of t + more) first.dataset) ≡ needed (with_rows (rows_after (columns_of first) first.dataset.shape.rows b.closed + t.waits + length h.values / columns_of first) first.dataset) =
    ap (λ n. needed (with_rows (n + more) first.dataset)) rows ∙ ap (λ n. needed (with_rows (rows_after (columns_of first) first.dataset.shape.rows b.closed + t.waits + length h.values / n) first.dataset)) columns in
    let limit : chunk_limit t ≡ limit_of format_limits first.dataset.layout.index = ap (λ (d : Described). limit_of format_limits d.layout.index) taken.dataset in
    let above = past.past in
    let limit_is = past.limit_is in
    let chunks_are = past.chunks_are in
    record {
      number = h.number;
      values = h.values;
      at = h.at;
      waits = t.waits;
      waiting = taken.waits;
      chunks_are = chunks_are ∙ same ∙ counted;
      limit_is = limit_is ∙ limit;
      past = omega (arith, above, limit_is, chunks_are);
    }

lacks_room : {v : DiskView} {by : Beginning} (name at : List ℕ) (limit budget : ℕ) (keeps : Bool) (first : Session) (s t : SourceView) (b : Batches) (full : Full) → IsOpenOver by name at limit budget keeps v first → NeedsPlace name first s t b v full → LacksRoom name at limit first.dataset s t b v full
lacks_room name at limit budget keeps first s t b full opened h = record {
  closes = record { numbers = h.numbers; batches = h.batches; read = h.read };
  lacks = λ img rows columns values sm told valid reads.
      let of : IsLogOf img columns values h.session (writes_of h.stored.puts) b = (h.stored.logs img columns values (opened.stands img rows columns values sm told valid reads)).of in
      let log = of.log in
      let none : NoPlace h.session log full = h.bounds log of.stands in
      let cut : cutting_of h.session ≡ cutting_of first = ap (λ (d : Described). cutting_of (record first { dataset = d })) h.stored.taken.dataset in
      let limited : first.places.limit ≡ limit = ap (λ (x : Session). x.places.limit) opened.is ∙ opened.begun.limited in
      let end : first_end_of log ≡ first_end_of (opened_log img columns values) = ap (λ (x : Log). first_end_of x) of.begun in
      record {
        log = log;
        begun = of.begun;
        flushed_are = of.flushed_are;
        appended_are = of.appended_are;
        some = none.some;
        limited = none.limit ∙ h.stored.taken.limit ∙ limited;
        past = none.past;
        size_bound = subst (λ c. full.size ≤ load c log) cut none.size_bound;
        at_bound = subst (λ n. full.at ≤ n + spent (cutting_of first) log + load (cutting_of first) log) end (subst (λ c. full.at ≤ first_end_of log + spent c log + load c log) cut none.at_bound);
      };
}

lacks_depth : {v : DiskView} (name : List ℕ) (first : Session) (s t : SourceView) (b : Batches) → NeedsDepth name first s t b v → Closes (columns_of first) s t b
lacks_depth name first s t b h = record { numbers = h.numbers; batches = h.batches; read = h.read }

is_why : {v : DiskView} {by : Beginning} (name at : List ℕ) (limit budget : ℕ) (keeps : Bool) (first : Session) (s t : SourceView) (b : Batches) (e : ErrorLine) → IsOpenOver by name at limit budget keeps v first → InputRefuses name first s t b v e → IsWhy name at limit first.dataset s t b v e
is_why name at limit budget keeps first s t b (errors.Line n) opened h = h
is_why name at limit budget keeps first s t b (errors.Range n i x) opened h = h
is_why name at limit budget keeps first s t b (errors.FullChunks chunks most) opened h = lacks_chunks first s b chunks most h
is_why name at limit budget keeps first s t b (errors.FullSpace place size most) opened h = lacks_room name at limit budget keeps first s t b (record { at = place; size = size; limit = most }) opened h
is_why name at limit budget keeps first s t b errors.Deep opened h = lacks_depth name first s t b h
is_why name at limit budget keeps first s t b (errors.Input most) opened h = h
is_why name at limit budget keeps first s t b errors.Source opened h = h
is_why name at limit budget keeps first s t b errors.Memory opened h = tt
is_why name at limit budget keeps first s t b errors.Usage opened h = absurd h
is_why name at limit budget keeps first s t b errors.Missing opened h = absurd h
is_why name at limit budget keeps first s t b errors.Exists opened h = absurd h
is_why name at limit budget keeps first s t b (errors.Read e) opened h = absurd h
is_why name at limit budget keeps first s t b (errors.Finding kind place) opened h = absurd h
is_why name at limit budget keeps first s t b (errors.Overlap place len other other_len) opened h = absurd h
is_why name at limit budget keeps first s t b (errors.Cut end size) opened h = absurd h
is_why name at limit budget keeps first s t b (errors.WriterVersion version) opened h = absurd h
is_why name at limit budget keeps first s t b errors.Layout opened h = absurd h
is_why name at limit budget keeps first s t b (errors.ChunkBytes bytes) opened h = absurd h
is_why name at limit budget keeps first s t b errors.NoColumns opened h = absurd h
is_why name at limit budget keeps first s t b (errors.Same one other) opened h = absurd h
is_why name at limit budget keeps first s t b errors.Disk opened h = absurd h
is_why name at limit budget keeps first s t b errors.Image opened h = absurd h

-- ---- The whole append

tells_to : (by : Beginning) (v w : DiskView) (name at : List ℕ) (limit budget : ℕ) (keeps : Bool) (s t : SourceView) (r : Result (Unit {0}) ErrorLine) (front last : List ℕ) → AppendsTo by name at limit budget keeps s t v w r front last → TellsTo by name at limit s t v w r front last
tells_to by v w name at limit budget keeps s t (Ok a) front last h = record {
  d = h.first.dataset;
  dataset = has_dataset name at limit budget keeps h.first h.opened;
  numbers = h.numbers;
  read = h.read;
  closed = is_closed name at limit budget keeps h.first _ h.opened h.closed;
  holds = λ img rows columns values sm told valid reads. h.holds img rows columns values sm told valid reads;
  front_is = h.front_is;
  last_is = h.last_is;
}
tells_to by v w name at limit budget keeps s t (Err e) front last (inl h) = inl (record {
  disk = h.unopened.disk;
  exact = why_told by name at v.told e h.unopened.exact;
  kinds = h.unopened.kinds;
  cause = h.unopened.cause;
  unread = h.unread;
  front_is = h.front_is;
  last_is = h.last_is;
})
tells_to by v w name at limit budget keeps s t (Err e) front last (inr (inl h)) = inr (inl (record {
  d = h.first.dataset;
  dataset = has_dataset name at limit budget keeps h.first h.opened;
  batches = h.batches;
  taken = h.taken;
  refused = is_why name at limit budget keeps h.first s t h.batches e h.opened h.refused;
  closed = is_closed name at limit budget keeps h.first h.batches h.opened h.closed;
  front_is = h.front_is;
  last_is = h.last_is;
}))
tells_to by v w name at limit budget keeps s t (Err e) front last (inr (inr h)) = inr (inr (
  h.0,
  record {
    d = h.1.first.dataset;
    dataset = has_dataset name at limit budget keeps h.1.first h.1.opened;
    batches = h.1.batches;
    taken = h.1.taken;
    broken = is_broken name at limit budget keeps h.1.first h.1.batches h.1.opened h.1.broken;
    front_is = h.1.front_is;
    last_is = h.1.last_is;
  },
))

tells_cut : {v w : DiskView} {k l : SinkView} {by : Beginning} (name at : List ℕ) (limit budget : ℕ) (keeps : Bool) (s t : SourceView) → AppendsCut by name at limit budget keeps s t v w k l → TellsCut by name at s t v w k l
tells_cut {v = v} {w = w} {by = by} name at limit budget keeps s t h = record {
  d = h.first.dataset;
  dataset = has_dataset name at limit budget keeps h.first h.opened;
  batches = h.batches;
  taken = h.taken;
  stops = h.stops;
  left = cases h.left;
}
  where
    cases : Closed by name at h.first h.batches v w ⊎ Broken name at h.first h.batches v w → IsClosed by name at h.batches v w ⊎ IsBroken name at h.batches v w
    cases (inl c) = inl (is_closed name at limit budget keeps h.first h.batches h.opened c)
    cases (inr c) = inr (is_broken name at limit budget keeps h.first h.batches h.opened c)

-- an append's end in words of the file and of a log
pub tells_end : {s t : SourceView} {v w : DiskView} {k l : SinkView} {by : Beginning} (name at : List ℕ) (limit budget : ℕ) (keeps : Bool) (status : Status) → AppendEnds by name at limit budget keeps s t v w status k l → TellsEnd by name at limit s t v w status k l
tells_end {s = s} {t = t} {v = v} {w = w} {by = by} name at limit budget keeps status (inl h) = inl (record {
  answer = h.answer;
  front = h.front;
  last = h.last;
  comes = tells_to by v w name at limit budget keeps s t h.answer h.front h.last h.comes;
  middle = h.middle;
  gave = h.gave;
  said = h.said;
})
tells_end {s = s} {t = t} {by = by} name at limit budget keeps status (inr h) = inr (h.0, tells_cut name at limit budget keeps s t h.1)
