-- What each call makes of a session that is one of several over a file.
use Rattle.std.proofs.Common.{◌≡◌, ◌≢◌, ◌⊎◌, ℕ, zero, suc, ◌+◌, ◌<◌, ◌≤◌, Bool, true, false, nat_lt, List, [], ◌∷◌, ◌++◌, length, ℤ, None, Ok, refl, sym, ap, ◌∙◌, subst, inl, inr, arith}
use Rattle.h5w_model.specs.Images.{apply, image}
use Rattle.h5w_model.specs.Lawful.{first_outside}
use Rattle.h5w_model.specs.Superblock.{super_at, super_bytes}
use Rattle.h5w_model.specs.Datasets.{is_swmr}
use Rattle.h5w_model.specs.Findings.{Summary, Used, Valid, the_superblock}
use Rattle.h5w_model.specs.Logs.{Log, appends, shows, plans, and_now, flushed_in}
use Rattle.h5w_model.specs.Tables.{Reads}
use Rattle.h5w_model.specs.declared.cell.Key.{Key}
use Rattle.h5w_model.specs.declared.piece.Write.{Write}
use Rattle.h5w_model.specs.declared.root.Super.{Super}
use Rattle.h5w_model.proofs.SuperLemmas.{length-super_bytes}
use Rattle.h5w_step_laws.specs.Files.{chunk_0}
use Rattle.h5w_step_laws.specs.Ranges.{Among, AreApart, MissesBlocks}
use Rattle.h5w_step_laws.proofs.RangeLemmas.{among_left, among_right, among_split}
use Rattle.h5w_space.specs.Space.{Space, IsLive}
use Rattle.h5w_space.specs.declared.Full.{Full}
use Rattle.h5w_step_laws.specs.Moments.{Moment, Represents, all_used, front_of}
use Rattle.h5w_step_laws.specs.Steps.{Ends, OffAll, ends}
use Rattle.h5w_step_laws.specs.Logs.{Goes, image_now}
use Rattle.h5w_step_laws.specs.Plans.{Plan}
use Rattle.h5w_step_laws.proofs.SessionLaws.{goes_runs, opened_goes}
use Rattle.h5w_step_laws.proofs.StepRepresents.{ends_missed}
use Rattle.h5w_flush_laws.specs.Knowledge.{KnownHeld, Knows}
use Rattle.h5w_flush_laws.specs.Spaces.{AllLive, extent_of}
use Rattle.h5w_flush_laws.proofs.KnownLaws.{end_known}
use Rattle.h5w_index.specs.Views.{address_in}
use Rattle.h5w_writer.specs.Early.{WrittenEarly, dirty_of}
use Rattle.h5w_writer.specs.Flushes.{IsFlushed, SameBut}
use Rattle.h5w_writer.specs.Indexes.{IsKeptIndex}
use Rattle.h5w_writer.specs.Openings.{IsOver, flagged, flagged_root, opened_log}
use Rattle.h5w_writer.specs.PartLaws.{ArePassed, HasNoPlace, IsPartFlushed, PartLaws, RunsAs, rooted, super_piece}
use Rattle.h5w_writer.specs.Past.{Past, most_of}
use Rattle.h5w_writer.specs.Refusals.{IsFullFor, append_refusal}
use Rattle.h5w_writer.specs.Sessions.{AfterPiece, AllEndBy, AreRows, Freed, Session, Settles, stopped_of, with_values}
use Rattle.h5w_writer.specs.Stands.{Keeps, Running, Stands}
use Rattle.h5w_writer.specs.Starts.{HasFlushed}
use Rattle.h5w_writer.specs.Told.{IsTold, moved_to, told_log, told_of}
use Rattle.h5w_writer.proofs.EarlyLemmas.{early_freed}
use Rattle.h5w_writer.proofs.FlushLemmas.{after_flush, part_flushed}
use Rattle.h5w_writer.proofs.FlushStands.{nothing_as, refused_as}
use Rattle.h5w_writer.proofs.IndexLemmas.{freed_kept, super_kept}
use Rattle.h5w_writer.proofs.LoadLemmas.{flush_bound, flush_raised, past_flushed}
use Rattle.h5w_writer.proofs.OpenedLemmas.{over_as}
use Rattle.h5w_writer.proofs.PassedLemmas.{all_passed, early_elsewhere, kept_placed}
use Rattle.h5w_writer.proofs.PastLemmas.{like_itself, past_more, past_same}
use Rattle.h5w_writer.proofs.StandLemmas.{either, flagged_as, freed_keeps, freed_or_kept, last_as, more_as, resting, stop_as, unplanned_as, values_running}
use Rattle.h5w_writer.proofs.StartLoads.{full_bounded, part_started}
use Rattle.h5w_writer.proofs.StateLemmas.{accepted_by}
use Rattle.h5w_writer.proofs.ToldLemmas.{told_as}

-- ---- A session that runs

running_stands : (s : Session) (left : List Write) (log : Log) → left ≡ s.pending → Running s left log → Stands s log
running_stands s left log same r =
    let goes = r.runs.goes in
    record { left = left; dropped = inl same; phase = inr r; prefixed = goes.prefixed; still = goes.still }

-- ---- An append

values_unwritten : (s t : Session) (values : List ℤ) → WrittenEarly (with_values s values) t → (t.pending ≢ [] → s.budget < dirty_of (with_values s values)) → dirty_of (with_values s values) ≤ s.budget → t ≡ with_values s values
values_unwritten s t values (inl same) over few = same
values_unwritten s t values (inr x) over few = absurd (let more = over x.pieces in omega (arith, more, few))

values_as : (s : Session) (values : List ℤ) (log : Log) (r : Running s [] log) (some : 1 ≤ s.dataset.shape.cols) → AreRows s values → first_outside s.dataset.int_type 0 values ≡ None
    → RunsAs (with_values s values) [] (and_now (appends values) log) r.after r.address r.held r.rest
unfolding values_running
values_as s values log r some rows fit = record { running = values_running s values log some rows fit r; after = refl; address_is = refl; held_is = refl; rest_is = refl }

-- ---- A piece became visible

piece_as : (s t : Session) (w : Write) (ws : List Write) (log : Log) (r : Running s (w ∷ ws) log) → s.pending ≡ w ∷ ws → s.flushing ≡ true → AfterPiece s ws t → RunsAs t ws (and_now (shows w) log) r.after r.address r.held t.places
piece_as s t w [] log r pending flushes next =
    let settles : Settles true s t = subst (λ (b : Bool). Settles b s t) flushes next in
    subst (λ (u : Session). RunsAs u [] (and_now (shows w) log) r.after r.address r.held t.places) (sym settles.1) (last_as s w log r t.places flushes settles.0)
piece_as s t w (x ∷ xs) log r pending flushes next =
    let rest : r.rest ≡ t.places = r.written.none (r.flushing flushes) ∙ ap (λ (u : Session). u.places) (sym next) in
    subst (λ (u : Session). RunsAs u (x ∷ xs) (and_now (shows w) log) r.after r.address r.held t.places) (sym next)
    (subst (λ (u : Space). RunsAs (record s { pending = x ∷ xs }) (x ∷ xs) (and_now (shows w) log) r.after r.address r.held u) rest (more_as s w x xs log r pending))

alone_as : (s t : Session) (w : Write) (log : Log) (r : Running s (w ∷ []) log) → s.flushing ≡ false → s.committed ≡ s.dataset.shape.rows → AfterPiece s [] t → RunsAs t [] (and_now (shows w) log) r.after r.address r.held r.rest
alone_as s t w log r unplanned rows next =
    let settles : Settles false s t = subst (λ (b : Bool). Settles b s t) unplanned next in
    subst (λ (u : Session). RunsAs u [] (and_now (shows w) log) r.after r.address r.held r.rest) (sym settles) (unplanned_as s w log r rows)

-- ---- Pieces of others

passed_told : (s : Session) (log : Log) (r : Running s [] log) (ws : List Write) (root : Super) (t : Space) → s.early ≡ 0 → Plan (image_now log) r.after r.held ws (moved_to root r.after) r.held
    → (k : Knows (image (image_now log) ws) s.name (moved_to root r.after) r.address t) → k.held ≡ r.held → ArePassed (image_now log) s.name r.after ws
    → t.limit ≡ s.places.limit → t.end ≤ most_of s log → AllEndBy (most_of s log) ws → (x : IsTold s log r ws root t) × (x.rest ≡ t)
passed_told s log r ws root t none plan k held passed limit fits within =
    let img = image_now log in
    let m = r.after in
    let new : List ℕ = image img ws in
    let all = all_passed img s.name m r.address r.rest s.index ws r.knows.file passed in
    let at : m.place ≡ s.place = r.keeps.place in
    let live : AllLive t (m.fixed ++ m.behind) = λ u a. k.live u (inr (among_right u m.root (m.header ++ (m.fixed ++ m.behind)) (among_right u m.header (m.fixed ++ m.behind) a))) in (
      record {
        plan = plan;
        rest = t;
        knows = k;
        holds = held;
        header = ap (λ (p : ℕ). chunk_0 new p) (sym at) ∙ all.header ∙ ap (λ (p : ℕ). chunk_0 img p) at ∙ r.keeps.header;
        index = super_kept new m root r.address t s.index (kept_placed new m r.address r.rest t s.index live (all.index r.index));
        written = early_elsewhere s.dataset s.early s.chunks s.places t img new r.address r.rest r.early none r.written;
        limit = limit;
        fits = fits;
        ends = within;
      },
      refl,
    )

super_told : (s : Session) (log : Log) (r : Running s [] log) (flags : ℕ) → s.early ≡ 0 → super_at (super_bytes (flagged_root flags s)) ≡ Ok (flagged_root flags s) → is_swmr (flagged_root flags s) ≡ true
    → (x : IsTold s log r (super_piece (flagged_root flags s) ∷ []) (flagged_root flags s) s.places) × (x.rest ≡ s.places)
super_told s log r flags none reads swmr =
    let m = r.after in
    let img = image_now log in
    let root = flagged_root flags s in
    let w : Write = super_piece root in
    let n : Moment = moved_to root m in
    let same : m.super ≡ s.root = r.keeps.root in
    let end : m.super.end ≡ root.end = ap (λ (x : Super). x.end) same in
    let raised : Ends img m w n = record {
      is = refl;
      place = refl;
      len = length-super_bytes root;
      reads = reads;
      root = ap (λ (x : Super). x.root) (sym same);
      swmr = swmr;
      rises = omega (arith, end);
      there = omega (arith, end, r.knows.ended, r.knows.covered);
    } in
    let off = ends_missed img m n w r.knows.file.apart raised in
    let known = end_known img s.name m n r.address r.rest w r.knows raised (omega (arith, end, r.knows.ended)) in
    let here = subst (λ (x : Space). KnownHeld (apply w img) s.name n r.address x r.knows.held) (r.written.none none) known in
    passed_told s log r (w ∷ []) root s.places none (n, r.held, ends raised refl, refl, (refl, refl)) here.knows (here.is ∙ r.holds)
    ((λ u a block. off u (among_right u m.root (m.header ++ (m.fixed ++ m.behind)) a)), root, here.knows.file, tt) refl r.past.fits (omega (arith, length-super_bytes root, r.past.limit_low), tt)

-- ---- Ranges of others

module _ (s : Session) (log : Log) (r : Running s [] log) (us : List Used) (file : Represents (image_now log) s.name (rooted us r.after)) (off : OffAll r.held us) (live : AllLive r.rest us) where
  abbrev m : Moment
  m = r.after

  abbrev n : Moment
  n = rooted us r.after

  was : Goes s.name log m r.held
  was = resting s.name log m r.held r.runs

  off_front : OffAll r.held (front_of n)
  off_front u v a b = first b
    where
      second : Among v us ⊎ Among v (m.header ++ m.fixed) → AreApart u v
      second (inl c) = off u v a c
      second (inr c) = was.off_front u v a (inr (among_right v m.root (m.header ++ m.fixed) c))

      first : (the_superblock ≡ v) ⊎ Among v (us ++ (m.header ++ m.fixed)) → AreApart u v
      first (inl c) = was.off_front u v a (inl c)
      first (inr c) = second (among_split v us (m.header ++ m.fixed) c)

  all_live : AllLive r.rest (all_used n)
  all_live u a = first a
    where
      second : Among u us ⊎ Among u (m.header ++ (m.fixed ++ m.behind)) → IsLive r.rest (extent_of u)
      second (inl c) = live u c
      second (inr c) = r.knows.live u (inr (among_right u m.root (m.header ++ (m.fixed ++ m.behind)) c))

      first : (the_superblock ≡ u) ⊎ Among u (us ++ (m.header ++ (m.fixed ++ m.behind))) → IsLive r.rest (extent_of u)
      first (inl c) = r.knows.live u (inl c)
      first (inr c) = second (among_split u us (m.header ++ (m.fixed ++ m.behind)) c)

  goes_rooted : Goes s.name log n r.held
  goes_rooted = record {
    begun = was.begun;
    now = file;
    values = was.values;
    some_columns = was.some_columns;
    columns = was.columns;
    reaches = was.reaches;
    past = λ p x low high seen. let before = was.past p x low high seen in record { rows = before.rows; reached = before.reached };
    off_front = off_front;
    ends = was.ends;
    some = was.some;
    clear = was.clear;
    prefixed = was.prefixed;
    still = was.still;
  }

  others_as : RunsAs s [] log n r.address r.held r.rest
  others_as =
      let k = r.knows in
      let h = k.holding in
      let running : Running s [] log = record {
        after = n;
        address = r.address;
        held = r.held;
        runs = goes_runs s.name log n r.held goes_rooted (λ j. r.runs.flushed j ∙ either (nat_lt j 0) r.runs.before.values m.values (ap (λ (x : Moment). x.values) (sym r.runs.flush.0)));
        rest = r.rest;
        knows = record {
          file = file;
          index = k.index;
          live = all_live;
          ended = k.ended;
          covered = k.covered;
          held = k.held;
          holding = record { reaches = h.reaches; off_front = h.off_front; clear = h.clear; some = h.some; live = h.live };
          layout = k.layout;
        };
        holds = r.holds;
        keeps = record { root = r.keeps.root; place = r.keeps.place; dataset = r.keeps.dataset; header = r.keeps.header };
        index = go r.index;
        marks = r.marks;
        early = r.early;
        written = r.written;
        some = r.some;
        flushing = r.flushing;
        more = r.more;
        waiting = r.waiting;
        fit = r.fit;
        count = r.count;
        appended = r.appended;
        committed = r.committed;
        planned = r.planned;
        columns = r.columns;
        past = past_more s s [] log m n (like_itself s) refl tt refl r.past;
      } in
      record { running = running; after = refl; address_is = refl; held_is = refl; rest_is = refl }
    where
      go : IsKeptIndex (image_now log) m r.address r.rest s.index → IsKeptIndex (image_now log) n r.address r.rest s.index
      go (inl i) = inl (record { kind = i.kind; at_place = i.at_place; sound = i.sound; stands = i.stands; stays = i.stays; fixed = i.fixed; behind = i.behind; map = i.map })
      go (inr none) = inr (record { kind = none.kind; lacks = none.lacks; sound = none.sound; blank = none.blank; map = none.map })

-- ---- A flush

whole_part : (old new : Session) (log : Log) → IsFlushed old new → old.stopped ≡ false → old.pending ≡ [] → AllEndBy new.places.end new.pending → (r : Running old [] log) → IsPartFlushed old new log r
whole_part old new log x running idle within r =
    let st = running_stands old [] log (sym idle) r in
    let past = subst (λ (s : Session). Past s new.pending (and_now (plans (length new.pending)) log) (after_flush old new log x r)) x.session (past_flushed old new log x running idle st r within) in
    subst (λ (s : Session). IsPartFlushed old s log r) (sym x.session) (part_flushed old new log x r past (flush_bound old new log x running idle st) (flush_raised old new log x running idle st r))

flush_part : (old new : Session) (log : Log) → HasFlushed old new → old.stopped ≡ false → old.pending ≡ [] → AllEndBy new.places.end new.pending → (r : Running old [] log) → IsPartFlushed old new log r
flush_part old new log (inl x) running idle within r = whole_part old new log x running idle within r
flush_part old new log (inr x) running idle within r = part_started old new log x running idle (running_stands old [] log (sym idle) r) r within

freed_as : (s : Session) (log : Log) (r : Running s [] log) (keep : Bool) (t : Space) → s.early ≡ 0 → Freed keep r.rest t → RunsAs (told_of s s.root t) [] log r.after r.address r.held t
freed_as s log r keep t none freed =
    let img = image_now log in
    let known = freed_or_kept keep img s.name r.after r.address r.rest t r.held freed (record { knows = r.knows; is = r.holds }) in
    let kept = freed_keeps keep s.places t (subst (λ (x : Space). Freed keep x t) (r.written.none none) freed) in
    let running : Running (told_of s s.root t) [] log = record {
      after = r.after;
      address = r.address;
      held = r.held;
      runs = r.runs;
      rest = t;
      knows = known.knows;
      holds = known.is;
      keeps = record { root = r.keeps.root; place = r.keeps.place; dataset = r.keeps.dataset; header = r.keeps.header };
      index = freed_kept keep img r.after r.address r.rest t s.index freed r.index;
      marks = r.marks;
      early = r.early;
      written = early_freed s.dataset s.early s.chunks s.places t img r.address r.rest r.early none r.written;
      some = r.some;
      flushing = r.flushing;
      more = r.more;
      waiting = r.waiting;
      fit = r.fit;
      count = r.count;
      appended = r.appended;
      committed = r.committed;
      planned = r.planned;
      columns = r.columns;
      past = past_same s (told_of s s.root t) [] log r.after (record { name = refl; place = refl; dataset = refl; address = λ named. refl; limit = kept.1; own = λ o. o; reach = λ first x h. h; roomy = λ o. o }) kept.0 r.past;
    } in
    record { running = running; after = refl; address_is = refl; held_is = refl; rest_is = refl }

-- ---- All of it

pub part_laws : PartLaws
part_laws = record {
  stands = running_stands;
  over = λ img name rows columns values sm valid reads some.
      let g = opened_goes img name rows columns values sm valid reads some in
      let log : Log = opened_log img columns values in (
        g.0,
        g.2.now,
        λ s named over.
            let own : (n : List ℕ) → s.name ≡ n → Valid img n sm → Reads img n rows columns values → Goes n log g.0 g.0.behind → RunsAs s [] log g.0 (λ key. address_in s.index key) g.0.behind s.places = λ n e v x goes.
            over_as s img rows columns values sm g.0 (subst (λ (y : List ℕ). Valid img y sm) (sym e) v) (subst (λ (y : List ℕ). Reads img y rows columns values) (sym e) x) some g.1
            (subst (λ (y : List ℕ). Goes y log g.0 g.0.behind) (sym e) goes) over in
            own name named valid reads g.2,
      );
  unwritten = values_unwritten;
  appends = λ s values log r rows none.
      let by = accepted_by s values none in
      let some = r.past.counted.columns in
      values_as s values log r (omega (arith, some)) rows by.fit;
  piece = piece_as;
  alone = alone_as;
  told = λ s log r ws root t x. (suc t.end, told_as s log r ws root t x);
  passed = passed_told;
  super = super_told;
  flags = flagged_as;
  others = λ s log r us file off live. others_as s log r us file off live;
  flush = flush_part;
  nothing = nothing_as;
  refused = refused_as;
  full = λ s log full running idle waits r x. full_bounded s log running idle (running_stands s [] log (sym idle) r) waits full x;
  freed = freed_as;
  stopped = stop_as;
}
