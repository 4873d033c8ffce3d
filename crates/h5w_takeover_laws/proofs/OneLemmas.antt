-- Another writer takes over the file of a session of one dataset, and goes on with its log.
use Rattle.std.proofs.Common.{◌≡◌, ◌^◌, ℕ, ◌*◌, ◌≤◌, ◌<◌, max, List, [], ◌∷◌, length, Ok, Err, refl, sym, ap, ◌∙◌, subst, inl, inr, arith, append-nil}
use Rattle.std.specs.Prelude.{slice_get, take}
use Rattle.std.specs.List.{AllByRecursion}
use Rattle.std.proofs.lemmas.List.{take_all}
use Rattle.h5w_model.specs.Images.{image}
use Rattle.h5w_model.specs.Logs.{Log, Happening, flushed_rows, hist}
use Rattle.h5w_model.specs.Numbers.{range}
use Rattle.h5w_model.specs.Prefixed.{IsPosition, image_at}
use Rattle.h5w_model.specs.Relations.{AllPaired}
use Rattle.h5w_model.specs.Several.{Begun, FileLog, file_log, log_of, pieces_in, shown_in, takes_over}
use Rattle.h5w_model.specs.Superblock.{super_at}
use Rattle.h5w_model.specs.Tables.{Shows, format_limits}
use Rattle.h5w_model.specs.declared.piece.Write.{Write}
use Rattle.h5w_model.specs.declared.root.Super.{Super}
use Rattle.h5w_space.specs.Space.{Space}
use Rattle.h5w_step_laws.specs.Logs.{Goes, image_now}
use Rattle.h5w_step_laws.specs.Moments.{Moment, Represents, reading_of}
use Rattle.h5w_step_laws.proofs.FoundLemmas.{moment_shows}
use Rattle.h5w_step_laws.proofs.GoesLemmas.{reads_now}
use Rattle.h5w_several_laws.specs.Together.{IsAllValid, summary_of}
use Rattle.h5w_several_laws.specs.Turns.{Entry}
use Rattle.h5w_several_laws.proofs.SeenLemmas.{seen_laws}
use Rattle.h5w_several_laws.proofs.SettledLemmas.{settled_pieces}
use Rattle.h5w_several_laws.proofs.TogetherLemmas.{all_found}
use Rattle.h5w_opening.specs.Errors.{refusal_of}
use Rattle.h5w_opening.specs.declared.error.OpenError.{OpenError}
use Rattle.h5w_writer.specs.Loads.{end_in, first_end_of}
use Rattle.h5w_writer.specs.Past.{IsNew, most_of}
use Rattle.h5w_writer.specs.Sessions.{AllEndBy, Session}
use Rattle.h5w_writer.specs.Stands.{Running, Stands}
use Rattle.h5w_writer.proofs.LawLemmas.{standing_laws}
use Rattle.h5w_writer.proofs.PastLemmas.{ends_front, ends_later}
use Rattle.h5w_several_writer.specs.Opened.{places_from}
use Rattle.h5w_several_writer_laws.specs.Began.{IsAmple, began_end, end_among}
use Rattle.h5w_several_writer_laws.specs.Courses.{AreAt, stands_of}
use Rattle.h5w_several_writer_laws.specs.Sessions.{Sessions, all_pending}
use Rattle.h5w_several_writer_laws.specs.Standing.{HasRun, StandsAll, and_then, end_now, most_in}
use Rattle.h5w_several_writer_laws.specs.Valid.{AreValidFrom}
use Rattle.h5w_several_writer_laws.proofs.GiveLemmas.{standing_all}
use Rattle.h5w_several_writer_laws.proofs.PastLemmas.{run_end}
use Rattle.h5w_several_writer_laws.proofs.SeenLemmas.{length_pieces}
use Rattle.h5w_several_open.specs.Sessions.{BeginsWith}
use Rattle.h5w_several_open.specs.Taken.{HasTakenAll, IsNotTakenBy, IsTakenAll}
use Rattle.h5w_reopening_laws.proofs.SinceLemmas.{file_at}
use Rattle.h5w_takeover_laws.specs.One.{AnswersOne, CarriesFile, CarriesOne, CreatedTold, ToldOfCreated}
use Rattle.h5w_takeover_laws.specs.Refused.{IsLeftOpen}
use Rattle.h5w_takeover_laws.specs.Several.{IsAlike}
use Rattle.h5w_takeover_laws.proofs.AlikeLemmas.{both_cut}
use Rattle.h5w_takeover_laws.proofs.AllRefusedLemmas.{CanTake, IsLeftFile, left_file, nothing_refuses}
use Rattle.h5w_takeover_laws.proofs.CarryAllLemmas.{begins_there}
use Rattle.h5w_takeover_laws.proofs.CarryLemmas.{HadPast, carries_from, file_now}
use Rattle.h5w_takeover_laws.proofs.CarryOneLemmas.{goes_on}
use Rattle.h5w_takeover_laws.proofs.RefusedLemmas.{none_of, not_opened, written}

-- ---- The file

module _ (log : Log) where
  abbrev file : FileLog
  file = file_log log

  abbrev set : Begun
  set = record { columns = log.columns; values = log.values }

  -- its one dataset sees all
  view_is : log_of 0 set file ≡ log
  view_is = ap (λ (es : List Happening). record log { events = es }) (seen_laws.one log.events)

  pieces_are : pieces_in file.events ≡ hist log.events
  pieces_are = sym (seen_laws.pieces 0 file.events) ∙ ap hist (seen_laws.one log.events)

  shown_is : shown_in file.events ≡ length (hist log.events)
  shown_is = sym (length_pieces file.events) ∙ ap length pieces_are

  image_is : file_now file ≡ image_now log
  image_is = ap (image log.start) pieces_are

  last_image : image_at log (length (hist log.events)) ≡ image_now log
  last_image = ap (image log.start) (take_all (length (hist log.events)) (hist log.events) (omega arith))

-- a dataset by itself is valid for its name alone
one_valid : (img name : List ℕ) (m : Moment) → Represents img name m → IsAllValid img (name ∷ [])
one_valid img name m here =
    let e : Entry = record { name = name; moment = m; address = λ key. 0; held = [] } in
    (summary_of m.super here.root.own (e ∷ []), all_found img e [] (here, tt) (tt, tt))

-- ---- The session before

module _ (s : Session) (log : Log) (st : Stands s log) (new : IsNew log) (begun : log.first ≤ length (hist log.events)) where
  abbrev r : Running s st.left log
  r = goes_on s log st begun

  started : log.start ≡ []
  started = ap (λ (l : Log). l.start) new.log_is

  first_end : first_end_of log ≡ 1024
  first_end = ap first_end_of new.log_is

  told : ToldOfCreated s log
  told =
      let g = r.runs.goes in
      let found = reads_now s.name log r.runs.before g.now g.values g.some_columns g.columns in
      record {
        created = elim r.past.begun [ inl b ↦ b | inr o ↦ absurd (not_opened s log new o) ];
        low = r.past.limit_low;
        high = r.past.limit_high;
        first_end = first_end;
        grew = r.past.grew;
        whole = found.reads.count ∙ ap (λ (n : ℕ). n * found.reads.shown.dataset.shape.cols) found.reads.rows_are ∙ ap (λ (n : ℕ). flushed_rows log * n) found.reads.columns_are;
      }

  -- the end-of-file address is no more than the end of its places
  now_ends : end_in (super_at (range (image_now log) 0 48)) ≤ s.places.end
  now_ends =
      let e : Entry = record { name = s.name; moment = r.after; address = r.address; held = r.held } in
      let run : HasRun s.name log st.left e = record {
        due = length st.left;
        runs = record {
          before = r.runs.before;
          held = r.runs.held;
          goes = r.runs.goes;
          own = st.left;
          others = [];
          cut = sym (append-nil st.left);
          due_is = refl;
          middle = r.after;
          now = r.held;
          flush = r.runs.flush;
          plan = (refl, refl);
          flushed = r.runs.flushed;
        };
      } in
      let low = run_end s.name log st.left e run in
      let ended = r.knows.ended in
      let rises = r.written.taken.raised.rises in
      omega (arith, low, ended, rises)

-- ---- The session that takes over

-- it has one part
record HasOne (budget : ℕ) (root : Super) (name : List ℕ) (ss : List Session) : Type 0 where
  part : Session
  parts : ss ≡ part ∷ []
  begins : BeginsWith budget root name part

only_one : (budget : ℕ) (root : Super) (name : List ℕ) (ss : List Session) → AllPaired (BeginsWith budget root) (name ∷ []) ss → HasOne budget root name ss
only_one budget root name [] h = absurd h
only_one budget root name (s ∷ []) h = record { part = s; parts = refl; begins = h.0 }
only_one budget root name (s ∷ t ∷ ss) h = absurd h.1

module _ (s : Session) (T : Sessions) (log : Log) (limit budget : ℕ) (st : Stands s log) (new : IsNew log) (begun : log.first ≤ length (hist log.events)) (wide : s.places.limit ≤ limit) (high : limit ≤ 2 ^ 40)
    (taken : IsTakenAll (image_now log) (length (image_now log)) (s.name ∷ []) limit budget T) (has : HasTakenAll (s.name ∷ []) limit budget T) where
  abbrev f : FileLog
  f = file_log log

  abbrev run : Running s st.left log
  run = goes_on s log st begun

  at : AreAt f (stands_of 0 f.sets (s.name ∷ []))
  at = record {
    entries = record { name = s.name; moment = run.runs.before; address = run.address; held = run.runs.held } ∷ [];
    each = (record { named = refl; goes = subst (λ (l : Log). Goes s.name l run.runs.before run.runs.held) (sym (view_is log)) run.runs.goes }, tt);
    off = (tt, tt);
  }

  had : AllPaired (HadPast f) f.sets (s.name ∷ [])
  had = (
    record {
      raised = inl (started s log st new begun);
      addressed = λ bare p x first last shows.
          run.past.addressed bare p x (record { begun = first; reached = omega (arith, last, shown_is log) }) (subst (λ (ws : List Write). Shows format_limits (image log.start (take p ws)) s.name x) (pieces_are log) shows);
    },
    tt,
  )

  here : IsTakenAll (file_now f) (length (file_now f)) (s.name ∷ []) limit budget T
  here = subst (λ (i : List ℕ). IsTakenAll i (length i) (s.name ∷ []) limit budget T) (sym (image_is log)) taken

  abbrev root : Super
  root = here.front.root

  abbrev t : Space
  t = places_from root.end limit

  end_is : end_now f ≡ root.end
  end_is = ap end_in here.super

  root_ends : root.end ≤ s.places.end
  root_ends =
      let same = ap (λ (i : List ℕ). end_in (super_at (range i 0 48))) (image_is log) in
      let now = now_ends s log st new begun in
      omega (arith, end_is, same, now)

  began : began_end f ≡ 1024
  began = ap (λ (i : List ℕ). end_among 1 (super_at (range i 0 48))) (started s log st new begun)

  within : s.places.end ≤ limit
  within = let fits = run.past.fits in let low = run.past.limit_low in let end = first_end s log st new begun in omega (arith, fits, low, end, wide)

  enough : 1024 ≤ limit
  enough = let low = run.past.limit_low in omega (arith, low, wide)

  fits : root.end ≤ most_in t f
  fits = omega (arith, root_ends, within)

  ample : IsAmple t f
  ample = omega (arith, began, enough)

  most : max limit (end_now f) ≡ max limit (began_end f)
  most = omega (arith, end_is, root_ends, within, began, enough)

  ends : AllEndBy (most_in t f) (pieces_in f.events)
  ends =
      let end = first_end s log st new begun in
      let later : most_of s log ≤ most_in t f = omega (arith, end, enough, wide) in
      subst (AllEndBy (most_in t f)) (sym (pieces_are log)) (ends_later (most_of s log) (most_in t f) (hist log.events) later (ends_front (most_of s log) (hist log.events) st.left run.past.ends))

  whole : AreValidFrom f.first f.start (s.name ∷ []) (pieces_in f.events)
  whole = λ p first last.
      let x = file_at s log p st (record { begun = first; reached = omega (arith, last, ap length (pieces_are log)) }) in
      subst (λ (ws : List Write). IsAllValid (image log.start (take p ws)) (s.name ∷ [])) (sym (pieces_are log)) (one_valid (image_at log p) s.name x.moment x.file)

  valid : IsAllValid (file_now f) (s.name ∷ [])
  valid = subst (λ (i : List ℕ). IsAllValid i (s.name ∷ [])) (sym (image_is log)) (one_valid (image_now log) s.name run.runs.before run.runs.goes.now)

  own : StandsAll T (and_then takes_over f)
  own = carries_from f (s.name ∷ []) valid.0 limit budget T (begins_there limit f most) (omega (arith, begun, shown_is log)) had at refl valid.1 here enough high fits ample ends whole

  abbrev one : HasOne budget T.root s.name T.parts
  one = only_one budget T.root s.name T.parts has.each

  alike : IsAlike s one.part
  alike =
      let m = run.runs.before in
      let l : Log = log_of 0 (set log) (and_then takes_over f) in
      let ws = hist log.events in
      let last : ℕ = length ws in
      let same : hist l.events ≡ ws = settled_pieces 0 (log_of 0 (set log) f).events ∙ seen_laws.pieces 0 f.events ∙ pieces_are log in
      let shows = moment_shows (image_now log) s.name m run.runs.goes.now in
      let old = subst (λ (i : List ℕ). Shows format_limits i s.name (reading_of m)) (sym (last_image log)) shows in
      let named = subst (λ (n : List ℕ). Shows format_limits (image_now log) n (reading_of m)) (sym one.begins.named) shows in
      let later = subst (λ (i : List ℕ). Shows format_limits i one.part.name (reading_of m)) (sym (ap (λ (xs : List Write). image log.start (take last xs)) same ∙ last_image log)) named in
      let tells = standing_all.tells T (and_then takes_over f) own 0 (set log) one.part refl (ap (λ (ss : List Session). slice_get ss 0) one.parts) in
      both_cut s one.part (reading_of m) (standing_laws.dataset s log last (reading_of m) st (record { begun = begun; reached = omega arith }) old)
      (tells.dataset last (reading_of m) (record { begun = begun; reached = omega (arith, ap length same) }) later)

  carried : CarriesFile s T log
  carried = record {
    stands = own;
    end = let same = ap (λ (x : Sessions). x.places.end) here.session in omega (arith, same, root_ends);
    part = one.part;
    parts = one.parts;
    name = one.begins.named;
    alike = alike;
    pending = sym (append-nil one.part.pending) ∙ ap all_pending (sym one.parts) ∙ has.idle;
  }

pub created_told : CreatedTold
created_told s log st new begun = told s log st new begun

pub carries_one : CarriesOne
carries_one s T log limit budget st new begun wide high taken has = carried s T log limit budget st new begun wide high taken has

-- ---- Nothing refuses it

module _ (s : Session) (log : Log) (p : ℕ) (st : Stands s log) (new : IsNew log) (at : IsPosition log p) (left : IsLeftOpen (image_at log p)) where
  abbrev img : List ℕ
  img = image_at log p

  refuses_none : (e : OpenError) → IsNotTakenBy img (length img) (s.name ∷ []) e → ⊥
  refuses_none e why =
      let here = file_at s log p st at in
      let some : 0 < here.moment.dataset.shape.cols = let known = standing_laws.columns s log st in let more = standing_laws.some_columns s log st in omega (arith, here.columns, known, more) in
      let can : CanTake img s.name = record { moment = here.moment; file = here.file; written = written s log p st at (λ o. absurd (not_opened s log new o)); some = some } in
      let none = ap (λ (l : Log). length l.start) new.log_is in
      let short : length img < 2 ^ 64 = let fits = standing_laws.fits s log p st at in let limited = standing_laws.limited s log st in omega (arith, fits, limited, none) in
      let valid = one_valid img s.name here.moment here.file in
      let each : AllByRecursion (IsLeftFile img) (s.name ∷ []) = (left_file img s.name left can, tt) in
      nothing_refuses img (s.name ∷ []) valid.0 valid.1 left each short (omega arith) e why

pub answers_one : AnswersOne
answers_one s log limit budget (Ok T) st new begun left is = tt
answers_one s log limit budget (Err e) st new begun left is =
    let p : ℕ = length (hist log.events) in
    let back = sym (last_image log) in
    let there = subst IsLeftOpen back left in
    none_of (refusal_of e) (IsNotTakenBy (image_now log) (length (image_now log)) (s.name ∷ [])) is
    (λ x why. refuses_none s log p st new (record { begun = begun; reached = omega arith }) there x (subst (λ (i : List ℕ). IsNotTakenBy i (length i) (s.name ∷ []) x) back why))
