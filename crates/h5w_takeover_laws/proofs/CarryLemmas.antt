-- A session of several datasets that takes its file over stands for the log of before, with the takeover.
use Rattle.std.proofs.Common.{◌≡◌, ◌^◌, ℕ, suc, ◌<◌, ◌≤◌, true, false, List, [], ◌∷◌, ◌++◌, length, Ok, refl, sym, ap, ◌∙◌, subst, inl, inr, arith, append-nil}
use Rattle.std.specs.Prelude.{◌⊎◌, take}
use Rattle.std.proofs.lemmas.List.{take_all}
use Rattle.h5w_model.specs.Images.{image}
use Rattle.h5w_model.specs.Datasets.{HeaderFields, linked}
use Rattle.h5w_model.specs.Findings.{AllSummary, AllValid, Part, Used, Valid, checked_root}
use Rattle.h5w_model.specs.Logs.{Log, flushed, flushed_rows}
use Rattle.h5w_model.specs.Numbers.{range}
use Rattle.h5w_model.specs.Prefixed.{ReadsNow}
use Rattle.h5w_model.specs.Programs.{eval}
use Rattle.h5w_model.specs.Relations.{AllPaired}
use Rattle.h5w_model.specs.Several.{Begun, FileLog, log_of, pieces_in, settled_log, shown_in, takes_over}
use Rattle.h5w_model.specs.Superblock.{super_at}
use Rattle.h5w_model.specs.Tables.{Reading, Reads, Shows, format_limits}
use Rattle.h5w_model.specs.declared.piece.Write.{Write}
use Rattle.h5w_model.specs.declared.root.Super.{Super}
use Rattle.h5w_step_laws.specs.Ranges.{AllAmong, Among}
use Rattle.h5w_step_laws.proofs.RangeLemmas.{among_left, among_right, among_split}
use Rattle.h5w_space.specs.Space.{Space}
use Rattle.h5w_step_laws.specs.Logs.{Goes, image_now}
use Rattle.h5w_step_laws.specs.Moments.{Moment, Represents, front_of, reading_of}
use Rattle.h5w_step_laws.specs.Sessions.{Runs}
use Rattle.h5w_step_laws.specs.Steps.{OffAll}
use Rattle.h5w_step_laws.proofs.FoundLemmas.{moment_shows}
use Rattle.h5w_step_laws.proofs.GoesLemmas.{reads_now}
use Rattle.h5w_step_laws.proofs.MomentLemmas.{super_parts}
use Rattle.h5w_step_laws.proofs.SessionLaws.{rests}
use Rattle.h5w_flush_laws.specs.Knowledge.{Knows}
use Rattle.h5w_headers.specs.Walks.{root_header_for}
use Rattle.h5w_index.specs.Views.{address_in}
use Rattle.h5w_several_laws.specs.Beside.{own_of, with_root}
use Rattle.h5w_several_laws.specs.Together.{names_of}
use Rattle.h5w_several_laws.specs.Turns.{AreKnown, AreOff, Entry, IsApart, IsOff}
use Rattle.h5w_several_laws.proofs.BesideLemmas.{settled_apart}
use Rattle.h5w_several_laws.proofs.SeenLemmas.{seen_laws}
use Rattle.h5w_several_laws.proofs.SettledLemmas.{settled_pieces}
use Rattle.h5w_writer.specs.Openings.{IsOver}
use Rattle.h5w_writer.specs.Past.{AllAddressed}
use Rattle.h5w_writer.specs.PartLaws.{RunsAs}
use Rattle.h5w_writer.specs.Sessions.{AllEndBy, Session}
use Rattle.h5w_writer.specs.Told.{told_of}
use Rattle.h5w_writer_open.proofs.OverFile.{same_answer}
use Rattle.h5w_several_writer.specs.Opened.{places_from, rested, sessions_at_rest}
use Rattle.h5w_several_writer_laws.specs.Began.{IsAmple, began_end}
use Rattle.h5w_several_writer_laws.specs.Courses.{AreAt, AreThrough, IsAt, stands_of}
use Rattle.h5w_several_writer_laws.specs.Seen.{IsOwn}
use Rattle.h5w_several_writer_laws.specs.Sessions.{Sessions, all_pending}
use Rattle.h5w_several_writer_laws.specs.Standing.{AreStandingParts, HasPast, IsDone, StandsAll, end_now, and_then, last_image, most_in}
use Rattle.h5w_several_writer_laws.specs.Valid.{AreValidFrom}
use Rattle.h5w_several_writer_laws.proofs.FlushAllLemmas.{stands_all}
use Rattle.h5w_several_writer_laws.proofs.SeenLemmas.{length_pieces}
use Rattle.h5w_several_writer_laws.proofs.RunLemmas.{rest_run}
use Rattle.h5w_several_open.specs.Begins.{ReadsIt}
use Rattle.h5w_several_open.specs.Datasets.{HasMoments}
use Rattle.h5w_several_open.specs.Progress.{AreSessionsAt, IsSessionAt, a_session, no_session}
use Rattle.h5w_several_open.specs.Taken.{IsTakenAll, closed_front}
use Rattle.h5w_several_open.proofs.BeginLemmas.{own_is}
use Rattle.h5w_several_open.proofs.DatasetLemmas.{all_have}
use Rattle.h5w_several_open.proofs.StandLemmas.{none_rested}
use Rattle.h5w_several_open.proofs.TakeAnswers.{written_tells}
use Rattle.h5w_several_open.proofs.TakenLemmas.{at_rest, over_here, plain, some_here}
use Rattle.h5w_takeover_laws.specs.Restarts.{IsTakenAs, taken_log}
use Rattle.h5w_takeover_laws.proofs.RestartLemmas.{taken_runs}

-- the image of a file now
abbrev pub file_now : FileLog → List ℕ
file_now log = image log.start (pieces_in log.events)

-- ---- Told of no other

goes_untold : (name : List ℕ) (log : Log) (m : Moment) (held us : List Used) → Goes name log m held → Represents (image_now log) name (with_root us m) → AllAmong us m.root → Goes name log (with_root us m) held
goes_untold name log m held us g file inside = record {
  begun = g.begun;
  now = file;
  values = g.values;
  some_columns = g.some_columns;
  columns = g.columns;
  reaches = g.reaches;
  past = λ p r low high seen. (let past = g.past p r low high seen in record { rows = past.rows; reached = past.reached });
  off_front = λ u v a b. g.off_front u v a (front v b);
  ends = g.ends;
  some = g.some;
  clear = g.clear;
  prefixed = g.prefixed;
  still = g.still;
}
  where
    front : (v : Used) → Among v (front_of (with_root us m)) → Among v (front_of m)
    front v (inl same) = inl same
    front v (inr a) = elim (among_split v us (m.header ++ m.fixed) a) [
      | inl b ↦ inr (among_left v m.root (m.header ++ m.fixed) (inside v b))
      | inr b ↦ inr (among_right v m.root (m.header ++ m.fixed) b)
    ]

-- ---- One dataset

-- It is known by a moment told of no other, with the superblock and the places of the new session, and runs over a log of its own.
record CarriesPart (log : FileLog) (root : Super) (t : Space) (d : ℕ) (b : Begun) (name : List ℕ) (s : Session) (a e : Entry) : Type 0 where
  entry_name : e.name ≡ name
  knows : Knows (file_now log) e.name e.moment e.address t
  held_is : knows.held ≡ e.held
  untold : e.moment.root ≡ knows.file.root.own
  super_is : e.moment.super ≡ root
  cols : 0 < e.moment.dataset.shape.cols
  named : s.name ≡ name
  early : s.early ≡ 0
  going : s.stopped ≡ false
  own : RunsAs (told_of (record s { pending = [] }) root t) [] (taken_log (log_of d b log)) e.moment e.address e.held t
  all : Runs name (settled_log (log_of d b log)) [] e.moment e.held
  ranges : own_of a.moment ≡ own_of e.moment
  holds : a.held ≡ e.held

module _ (log : FileLog) (d : ℕ) (b : Begun) (name : List ℕ) (root : Super) (place : ℕ) (s : Session) (limit budget : ℕ) (x : IsSessionAt (file_now log) (closed_front root) limit budget name place s) (h : HeaderFields)
    (super : super_at (range (file_now log) 0 48) ≡ Ok root) (root_read : eval (file_now log) (root_header_for true root.root) ≡ Ok h) (link : linked name h.messages ≡ Ok place) (low : 1024 ≤ limit) (high : limit ≤ 2 ^ 40) (a : Entry) (at : IsAt log (record { number = d; begun = b; name = name }) a) where
  abbrev img : List ℕ
  img = file_now log

  abbrev view : Log
  view = log_of d b log

  abbrev t : Space
  t = places_from root.end limit

  same : image_now view ≡ img
  same = ap (image log.start) (seen_laws.pieces d log.events)

  told_goes : Goes name view a.moment a.held
  told_goes = subst (λ (n : List ℕ). Goes n view a.moment a.held) at.named at.goes

  abbrev us : List Used
  us = told_goes.now.root.own

  abbrev m : Moment
  m = with_root us a.moment

  goes : Goes name view m a.held
  goes = goes_untold name view a.moment a.held us told_goes (settled_apart.untold (image_now view) name a.moment told_goes.now)
      (λ u c. subst (λ (vs : List Used). Among u vs) (sym told_goes.now.root.is) (among_left u us told_goes.now.root.others c))

  abbrev now_begun : Begun
  now_begun = record { columns = b.columns; values = flushed view }

  found : ReadsNow name view
  found = reads_now name view m goes.now goes.values goes.some_columns goes.columns

  reading : ReadsIt img name now_begun
  reading = (flushed_rows view, subst (λ (i : List ℕ). Reads i name (flushed_rows view) b.columns (flushed view)) same found.reads)

  valid : Valid img name found.summary
  valid = subst (λ (i : List ℕ). Valid i name found.summary) same found.valid

  file : Represents img name m
  file = subst (λ (i : List ℕ). Represents i name m) same goes.now

  abbrev bare : Session
  bare = plain img name now_begun root place s limit budget found.summary valid reading x h super root_read link low high

  super_is : m.super ≡ root
  super_is = same_answer (super_at (range img 0 48)) m.super root (super_parts (length img) (range img 0 48) m.super file.super).read super

  taken : IsTakenAs bare view m a.held
  taken =
      taken_runs bare view m a.held goes
      (λ n r. subst (λ (i : List ℕ). IsOver bare i n) (sym same) (over_here img name now_begun root place s limit budget found.summary valid reading x h super root_read link low high n (subst (λ (i : List ℕ). Represents i name n) same r)))
      (record { end = ap (λ (r : Super). r.end) (sym super_is); none_free = refl; none_retired = refl })

  abbrev entry : Entry
  entry = record { name = name; moment = m; address = λ key. address_in bare.index key; held = a.held }

  same_then : image_now (settled_log view) ≡ img
  same_then = ap (image log.start) (settled_pieces 0 view.events) ∙ same

  record HasKnown : Type 0 where
    knows : Knows img name m entry.address t
    is : knows.held ≡ a.held

  known : HasKnown
  known = as_known (subst (λ (i : List ℕ). (k : Knows i name m entry.address t) × (k.held ≡ a.held)) same_then (taken.all.knows, taken.held_is))
    where
      as_known : (k : Knows img name m entry.address t) × (k.held ≡ a.held) → HasKnown
      as_known k = record { knows = k.0; is = k.1 }

  carries_part : CarriesPart log root t d b name s a entry
  carries_part = record {
    entry_name = refl;
    knows = known.knows;
    held_is = known.is;
    untold = own_is img name m.super m.place us known.knows.file.root.own
        (subst (λ (i : List ℕ). eval i (checked_root name m.super) ≡ Ok (m.place, us)) same told_goes.now.root.checked) known.knows.file.root.checked;
    super_is = super_is;
    cols = some_here img name now_begun root place s limit budget found.summary valid reading x h super root_read link low high m file;
    named = ap (λ (y : Session). y.name) x.over.session;
    early = ap (λ (y : Session). y.early) x.over.session;
    going = ap (λ (y : Session). y.stopped) x.over.session;
    own = subst (λ (y : Session). RunsAs y [] (taken_log view) m entry.address a.held t) (sym (at_rest img name now_begun root place s limit budget found.summary valid reading x h super root_read link low high)) taken.own;
    all = subst (λ (vs : List Used). Runs name (settled_log view) [] m vs) taken.held_is taken.all.runs;
    ranges = refl;
    holds = refl;
  }

-- ---- All of them

data EachCarries (log : FileLog) (root : Super) (t : Space) : ℕ → List (List ℕ) → List Begun → List Session → List Entry → List Entry → Type 0 where
  none_carried : (d : ℕ) → EachCarries log root t d [] [] [] [] []
  one_carried : (d : ℕ) (name : List ℕ) (b : Begun) (s : Session) (a e : Entry) (names : List (List ℕ)) (bs : List Begun) (ss : List Session) (old es : List Entry) → CarriesPart log root t d b name s a e → EachCarries log root t (suc d) names bs ss old es
      → EachCarries log root t d (name ∷ names) (b ∷ bs) (s ∷ ss) (a ∷ old) (e ∷ es)

record AreCarried (log : FileLog) (root : Super) (t : Space) (d : ℕ) (names : List (List ℕ)) (bs : List Begun) (ss : List Session) (old : List Entry) : Type 0 where
  entries : List Entry
  each : EachCarries log root t d names bs ss old entries

module _ (log : FileLog) (root : Super) (limit budget : ℕ) (h : HeaderFields) (super : super_at (range (file_now log) 0 48) ≡ Ok root) (root_read : eval (file_now log) (root_header_for true root.root) ≡ Ok h) (low : 1024 ≤ limit) (high : limit ≤ 2 ^ 40) where
  abbrev places : Space
  places = places_from root.end limit

  are_carried : (d : ℕ) (names : List (List ℕ)) (ps : List ℕ) (ss : List Session) (bs : List Begun) (old : List Entry) → length bs ≡ length names → AreSessionsAt (file_now log) (closed_front root) limit budget names ps ss
      → AllPaired (λ (name : List ℕ) (p : ℕ). linked name h.messages ≡ Ok p) names ps → AllPaired (IsAt log) (stands_of d bs names) old → AreCarried log root places d names bs ss old
  are_carried d _ _ _ [] [] many no_session links at = record { entries = []; each = none_carried d }
  are_carried d _ _ _ [] (a ∷ old) many no_session links at = absurd at
  are_carried d _ _ _ (b ∷ bs) old many no_session links at = absurd (omega (arith, many))
  are_carried d _ _ _ [] old many (a_session name p s names ps ss x rest) links at = absurd (omega (arith, many))
  are_carried d _ _ _ (b ∷ bs) [] many (a_session name p s names ps ss x rest) links at = absurd at
  are_carried d _ _ _ (b ∷ bs) (a ∷ old) many (a_session name p s names ps ss x rest) links at =
      let one = carries_part log d b name root p s limit budget x h super root_read links.0 low high a at.0 in
      let more = are_carried (suc d) names ps ss bs old (omega (arith, many)) rest links.1 at.1 in
      record { entries = _ ∷ more.entries; each = one_carried d name b s a _ names bs ss old more.entries one more.each }

carried_names : (log : FileLog) (root : Super) (t : Space) (d : ℕ) (names : List (List ℕ)) (bs : List Begun) (ss : List Session) (old es : List Entry) → EachCarries log root t d names bs ss old es → names_of es ≡ names
carried_names log root t d _ _ _ _ _ (none_carried _) = refl
carried_names log root t d _ _ _ _ _ (one_carried _ name b s a e names bs ss old es p rest) =
    ap (λ (n : List ℕ). n ∷ names_of es) p.entry_name ∙ ap (λ (ns : List (List ℕ)). name ∷ ns) (carried_names log root t (suc d) names bs ss old es rest)

-- known with the ranges of the root header
carried_known : (log : FileLog) (root s : Super) (t : Space) (vs : List Used) (d : ℕ) (names : List (List ℕ)) (ps : List Part) (bs : List Begun) (ss : List Session) (old es : List Entry) → EachCarries log root t d names bs ss old es
    → AllPaired (HasMoments s vs (file_now log)) names ps → AreKnown (file_now log) t root vs es
carried_known log root s t vs d _ ps _ _ _ _ (none_carried _) has = tt
carried_known log root s t vs d _ [] _ _ _ _ (one_carried _ name b y a e names bs ss old es p rest) has = absurd has
carried_known log root s t vs d _ (q ∷ ps) _ _ _ _ (one_carried _ name b y a e names bs ss old es p rest) has =
    let own = subst (λ (n : List ℕ). HasMoments s vs (file_now log) n q) (sym p.entry_name) has.0 in
    let is = own e.moment p.knows.file in
    (record { knows = p.knows; super_is = p.super_is; root_is = p.untold ∙ is.root_is; held_is = p.held_is; cols = p.cols }, carried_known log root s t vs (suc d) names ps bs ss old es rest has.1)

-- what one has is off what another has, old it was
off_as : (a c e f : Entry) → own_of a.moment ≡ own_of e.moment → a.held ≡ e.held → own_of c.moment ≡ own_of f.moment → c.held ≡ f.held → IsApart c a → IsApart f e
off_as a c e f own held other holds x = record {
  own = subst (λ (us : List Used). OffAll us (own_of e.moment)) other (subst (λ (us : List Used). OffAll (own_of c.moment) us) own x.own);
  held = subst (λ (us : List Used). OffAll us (own_of e.moment)) holds (subst (λ (us : List Used). OffAll c.held us) own x.held);
  other = subst (λ (us : List Used). OffAll us (own_of f.moment)) held (subst (λ (us : List Used). OffAll a.held us) other x.other);
}

carried_one_off : (log : FileLog) (root : Super) (t : Space) (a e : Entry) → own_of a.moment ≡ own_of e.moment → a.held ≡ e.held → (d : ℕ) (names : List (List ℕ)) (bs : List Begun) (ss : List Session) (old es : List Entry) → EachCarries log root t d names bs ss old es → IsOff a old → IsOff e es
carried_one_off log root t a e own held d _ _ _ _ _ (none_carried _) off = tt
carried_one_off log root t a e own held d _ _ _ _ _ (one_carried _ name b s c f names bs ss old es p rest) off =
    (off_as a c e f own held p.ranges p.holds off.0, carried_one_off log root t a e own held (suc d) names bs ss old es rest off.1)

carried_off : (log : FileLog) (root : Super) (t : Space) (d : ℕ) (names : List (List ℕ)) (bs : List Begun) (ss : List Session) (old es : List Entry) → EachCarries log root t d names bs ss old es → AreOff old → AreOff es
carried_off log root t d _ _ _ _ _ (none_carried _) off = tt
carried_off log root t d _ _ _ _ _ (one_carried _ name b s a e names bs ss old es p rest) off =
    (carried_one_off log root t a e p.ranges p.holds (suc d) names bs ss old es rest off.0, carried_off log root t (suc d) names bs ss old es rest off.1)

-- the log with the takeover
abbrev pub taken_file : FileLog → FileLog
taken_file log = and_then takes_over log

-- a part's own log begins there
abbrev pub BeginsThere : ℕ → FileLog → Type 0
BeginsThere limit log = (d : ℕ) (b : Begun) → IsOwn limit (taken_file log) d b (taken_log (log_of d b log)) []

-- what a session tells of the end of its file and of the chunks of a dataset
pub record HadPast (log : FileLog) (b : Begun) (name : List ℕ) : Type 0 where
  pub raised : (log.start ≡ []) ⊎ (began_end log ≤ end_now log)
  pub addressed : b.values ≡ [] → (p : ℕ) (r : Reading) → log.first ≤ p → p ≤ shown_in log.events → Shows format_limits (image log.start (take p (pieces_in log.events))) name r → AllAddressed r

-- it is so of the session that takes over
past_carried : (log : FileLog) (b : Begun) (name : List ℕ) (e : Entry) → log.first ≤ shown_in log.events → e.name ≡ name → Represents (file_now log) e.name e.moment → HadPast log b name → HasPast (taken_file log) b e
past_carried log b name e begun named file x = record {
  raised = x.raised;
  addressed = there;
  next = λ bare.
      let all = take_all (shown_in log.events) (pieces_in log.events) (omega (arith, length_pieces log.events)) in
      there bare (shown_in log.events) (reading_of e.moment) begun (omega arith) (subst (λ (ws : List Write). Shows format_limits (image log.start ws) e.name (reading_of e.moment)) (sym all) (moment_shows (file_now log) e.name e.moment file));
}
  where
    there : b.values ≡ [] → (p : ℕ) (r : Reading) → log.first ≤ p → p ≤ shown_in log.events → Shows format_limits (image log.start (take p (pieces_in log.events))) e.name r → AllAddressed r
    there bare p r low high shows = x.addressed bare p r low high (subst (λ (n : List ℕ). Shows format_limits (image log.start (take p (pieces_in log.events))) n r) named shows)

module _ (log : FileLog) (root : Super) (t : Space) (us : List Used) (seen : BeginsThere t.limit log) (begun : log.first ≤ shown_in log.events) where
  carried_parts : (d : ℕ) (names : List (List ℕ)) (bs : List Begun) (ss : List Session) (old es : List Entry) (before : List Write) → EachCarries log root t d names bs ss old es → AllPaired (HadPast log) bs names
      → AreStandingParts root t us [] (taken_file log) d bs before (rested root t ss) es
  carried_parts d _ _ _ _ _ before (none_carried _) had = tt
  carried_parts d _ _ _ _ _ before (one_carried _ name b s a e names bs ss old es p rest) had =
      let u : Session = told_of (record s { pending = [] }) root t in
      let named : name ≡ u.name = sym p.named in
      let view = log_of d b (taken_file log) in
      let runs : Runs u.name view [] e.moment e.held = subst (λ (n : List ℕ). Runs n view [] e.moment e.held) named p.all in
      let done : IsDone root t [] (taken_file log) d b u e = record { calm = inl refl; own = taken_log (log_of d b log); seen = seen d b; runs = p.own } in (
        record { name = p.entry_name ∙ named; early = p.early; going = p.going; each = (rests u.name view e.moment e.held runs).goes.prefixed; run = inl (rest_run u.name view e runs); past = past_carried log b name e begun p.entry_name p.knows.file had.0; phase = inl done },
        carried_parts (suc d) names bs ss old es (before ++ []) rest had.1,
      )

-- Each dataset has come to a moment, and what readers of one may hold is off what another has. The session that takes the file over stands for the
-- log with the takeover, where its limit is no less than what the file has come to.
pub carries_from : (log : FileLog) (names : List (List ℕ)) (summary : AllSummary) (limit budget : ℕ) (T : Sessions) → BeginsThere limit log → log.first ≤ shown_in log.events → AllPaired (HadPast log) log.sets names → AreAt log (stands_of 0 log.sets names) → length log.sets ≡ length names → AllValid (file_now log) names summary
    → (taken : IsTakenAll (file_now log) (length (file_now log)) names limit budget T) → 1024 ≤ limit → limit ≤ 2 ^ 40 → taken.front.root.end ≤ most_in (places_from taken.front.root.end limit) log → IsAmple (places_from taken.front.root.end limit) log
    → AllEndBy (most_in (places_from taken.front.root.end limit) log) (pieces_in log.events) → AreValidFrom log.first log.start names (pieces_in log.events) → StandsAll T (taken_file log)
carries_from log names summary limit budget T seen begun had at many valid taken low high fits ample ends whole =
    let root = taken.front.root in
    let ss = taken.parts in
    let t : Space = places_from root.end limit in
    let f = written_tells (file_now log) (length (file_now log)) root names taken.front.places taken.is in
    let c = are_carried log root limit budget f.header taken.super f.read low high 0 names taken.front.places ss log.sets at.entries many taken.each f.each at.each in
    let has = all_have (file_now log) names summary valid in
    let us = has.root in
    let es = c.entries in
    let next = taken_file log in
    let left : List Write = all_pending (rested root t ss) in
    let none : [] ≡ left = sym (none_rested root t ss) in
    let named = carried_names log root t 0 names log.sets ss at.entries es c.each in
    let nothing : pieces_in log.events ++ [] ≡ pieces_in log.events = append-nil (pieces_in log.events) in
    let own = stands_all (sessions_at_rest root limit ss) next (record {
      ranges = us;
      entries = es;
      known = subst (λ (ws : List Write). AreKnown (last_image next ws) t root us es) none (subst (λ (ws : List Write). AreKnown (image log.start ws) t root us es) (sym nothing) (carried_known log root has.super t us 0 names has.parts log.sets ss at.entries es c.each has.each));
      off = carried_off log root t 0 names log.sets ss at.entries es c.each at.off;
      blocks = has.blocks;
      parts = subst (λ (ws : List Write). AreStandingParts root t us ws next 0 log.sets [] (rested root t ss) es) none (carried_parts log root t us seen begun 0 names log.sets ss at.entries es [] c.each had);
      fits = fits;
      low = ample;
      ends = subst (λ (ws : List Write). AllEndBy (most_in t log) (pieces_in log.events ++ ws)) none (subst (λ (ws : List Write). AllEndBy (most_in t log) ws) (sym nothing) ends);
      going = refl;
      valid = subst (λ (ns : List (List ℕ)). AreValidFrom log.first log.start ns (pieces_in log.events ++ left)) (sym named)
          (subst (λ (ws : List Write). AreValidFrom log.first log.start names (pieces_in log.events ++ ws)) none (subst (λ (ws : List Write). AreValidFrom log.first log.start names ws) (sym nothing) whole));
      course = subst (λ (ws : List Write). AreThrough next (stands_of 0 log.sets (names_of es)) ws) none tt;
    }) in
    subst (λ (y : Sessions). StandsAll y next) (sym taken.session) own
