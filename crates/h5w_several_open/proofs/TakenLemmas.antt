-- A session of several datasets that takes over a file which is valid for all of them stands for its log.
use Rattle.std.proofs.Common.{◌≡◌, ℕ, suc, ◌^◌, ◌<◌, ◌≤◌, true, false, List, [], ◌∷◌, ◌++◌, length, None, Ok, refl, sym, ap, ◌∙◌, subst, inl, arith}
use Rattle.std.specs.List.{AllByRecursion}
use Rattle.std.specs.Prelude.{take}
use Rattle.h5w_model.specs.Images.{image}
use Rattle.h5w_model.specs.Datasets.{Described, HeaderFields, linked}
use Rattle.h5w_model.specs.Findings.{Summary, Used, Valid}
use Rattle.h5w_model.specs.Logs.{Log}
use Rattle.h5w_model.specs.Numbers.{range}
use Rattle.h5w_model.specs.Prefixed.{PrefixedEach}
use Rattle.h5w_model.specs.Programs.{eval}
use Rattle.h5w_model.specs.Relations.{AllPaired}
use Rattle.h5w_model.specs.Several.{Begun, FileLog, log_of}
use Rattle.h5w_model.specs.Superblock.{super_at}
use Rattle.h5w_model.specs.declared.cell.Key.{Key}
use Rattle.h5w_model.specs.declared.piece.Write.{Write}
use Rattle.h5w_model.specs.declared.root.Super.{Super}
use Rattle.h5w_laws.proofs.SeveralLemmas.{each_valid}
use Rattle.h5w_step_laws.specs.Files.{chunk_0}
use Rattle.h5w_space.specs.Space.{Space}
use Rattle.h5w_step_laws.specs.Moments.{Moment, Represents, all_used}
use Rattle.h5w_step_laws.specs.Steps.{OffAll}
use Rattle.h5w_step_laws.proofs.FoundLemmas.{opens}
use Rattle.h5w_flush_laws.specs.Knowledge.{KnownHeld}
use Rattle.h5w_flush_laws.specs.Spaces.{AllLive}
use Rattle.h5w_headers.specs.Walks.{root_header_for}
use Rattle.h5w_index.specs.Views.{address_in}
use Rattle.h5w_several_laws.specs.Together.{IsAllValid, names_of}
use Rattle.h5w_several_laws.specs.Turns.{AreKnown, Entry}
use Rattle.h5w_several_laws.proofs.BesideLemmas.{settled_apart}
use Rattle.h5w_opening.specs.Openings.{Opened, dataset_found, refused_dataset}
use Rattle.h5w_opening.proofs.FoundParts.{HeaderFound, header_found_by}
use Rattle.h5w_writer.specs.Openings.{IsOver, opened_log}
use Rattle.h5w_writer.specs.PartLaws.{RunsAs, rooted}
use Rattle.h5w_writer.specs.Sessions.{Session, AllEndBy as WritesEndBy}
use Rattle.h5w_writer.specs.Told.{told_of}
use Rattle.h5w_writer.proofs.PartLemmas.{part_laws}
use Rattle.h5w_writer_open.specs.OpenAnswers.{session_over}
use Rattle.h5w_writer_open.specs.OpenParts.{opened_at}
use Rattle.h5w_writer_open.specs.OpenRanges.{refused_open}
use Rattle.h5w_writer_open.proofs.OverFile.{HasParts, dataset_same, super_same}
use Rattle.h5w_writer_open.proofs.PartLemmas.{kept_at, open_part}
use Rattle.h5w_writer_open.proofs.SessionOver.{some_columns, unrefused_parts}
use Rattle.h5w_several_writer.specs.Opened.{places_from, rested, sessions_at_rest}
use Rattle.h5w_several_writer_laws.specs.Began.{began_end, end_among}
use Rattle.h5w_several_writer_laws.specs.Sessions.{Sessions, all_pending}
use Rattle.h5w_several_writer_laws.proofs.RunLemmas.{rest_run, runs_of}
use Rattle.h5w_several_writer_laws.specs.Courses.{AreThrough, stands_of}
use Rattle.h5w_several_writer_laws.specs.Standing.{AreStandingParts, IsDone, StandsAll, last_image, most_in}
use Rattle.h5w_several_writer_laws.specs.Valid.{AreValidFrom}
use Rattle.h5w_several_writer_laws.proofs.FlushAllLemmas.{stands_all}
use Rattle.h5w_several_writer_laws.proofs.PastLemmas.{past_opened}
use Rattle.h5w_several_writer_laws.proofs.SightLemmas.{seen_opened}
use Rattle.h5w_several_open.specs.Begins.{ReadsIt}
use Rattle.h5w_several_open.specs.Datasets.{IsEntry}
use Rattle.h5w_several_open.specs.Progress.{AreSessionsAt, IsSessionAt, a_session, no_session}
use Rattle.h5w_several_open.specs.Stands.{opened_file}
use Rattle.h5w_several_open.specs.Taken.{TakesStanding, closed_front}
use Rattle.h5w_several_open.proofs.BeginLemmas.{HasSummary, known_of, live_own, off_own, over_by, own_is, runs_as, valid_names}
use Rattle.h5w_several_open.proofs.DatasetLemmas.{all_apart}
use Rattle.h5w_several_open.proofs.StandLemmas.{none_rested, opened_ample, opened_end}
use Rattle.h5w_several_open.proofs.TakeAnswers.{written_tells}

-- ---- One dataset

-- It is known by a moment that has the file's superblock and is told of no other; the session over it, with nothing pending, runs over the log of the
-- file.
record RestsPart (img : List ℕ) (root : Super) (t : Space) (name : List ℕ) (b : Begun) (s : Session) (e : Entry) : Type 0 where
  entry : IsEntry img t name e
  super_is : e.moment.super ≡ root
  named : s.name ≡ name
  early : s.early ≡ 0
  going : s.stopped ≡ false
  prefixed : PrefixedEach name (opened_log img b.columns b.values)
  runs : RunsAs (told_of (record s { pending = [] }) root t) [] (opened_log img b.columns b.values) e.moment e.address e.held t

module _ (img name : List ℕ) (b : Begun) (root : Super) (place : ℕ) (s : Session) (limit budget : ℕ) (sm : Summary) (valid : Valid img name sm) (reads : ReadsIt img name b) (x : IsSessionAt img (closed_front root) limit budget name place s) (h : HeaderFields)
    (super : super_at (range img 0 48) ≡ Ok root) (root_read : eval img (root_header_for true root.root) ≡ Ok h) (link : linked name h.messages ≡ Ok place) (low : 1024 ≤ limit) (high : limit ≤ 2 ^ 40) where
  abbrev pub t : Space
  t = places_from root.end limit

  -- what was found, with the file's own superblock
  abbrev pub o : Opened
  o = opened_at root place x.found.header

  header : HeaderFound img place x.found.header
  header = header_found_by img place x.found.header x.read.header

  found : HasParts img name o
  found = record { super = super; root = h; root_read = root_read; link = link; header = header.header; header_read = header.read; says = header.says; len = header.len; in_chunk = header.in_chunk }

  unrefused : refused_open o x.index ≡ None
  unrefused = ap (λ (y : Opened). refused_open y x.index) (sym x.read.is) ∙ open_part x.found x.index x.read.within ∙ x.over.fit

  dataset_fit : refused_dataset o ≡ None
  dataset_fit = (unrefused_parts o x.index unrefused).dataset

  abbrev pub plain : Session
  plain = session_over o (chunk_0 img place) x.over.kept name limit budget

  -- the session that was begun, told of this superblock and with nothing pending
  pub at_rest : told_of (record s { pending = [] }) root t ≡ plain
  at_rest =
      let resting : Session → Session = λ y. told_of (record y { pending = [] }) root t in
      let with_header : ℕ → List ℕ → Session = λ p front. record plain { place = p; header = front } in
      let at = ap (λ (y : Opened). y.place) x.read.is in
      let here : dataset_found x.found.place img ≡ Ok x.found.header = ap (λ (p : ℕ). dataset_found p img) at ∙ x.read.header in
      ap resting x.over.session ∙ ap (with_header x.found.place) (kept_at img x.found here).same ∙ ap (λ (p : ℕ). with_header p (chunk_0 img p)) at

  columns : 0 < b.columns
  columns =
      let first = opens img name reads.0 b.columns b.values sm valid reads.1 in
      let same : o.header.dataset.shape.cols ≡ b.columns = ap (λ (d : Described). d.shape.cols) (sym (dataset_same img name o first.0 found first.1)) ∙ first.4 in
      let some = some_columns o dataset_fit in
      omega (arith, some, same)

  -- it has what the file has, at whatever moment that is
  pub over_here : (m : Moment) → Represents img name m → IsOver plain img m
  over_here m file = over_by img name limit budget o x.over.kept found low high x.index x.read.index x.over.is_kept unrefused m file

  pub some_here : (m : Moment) → Represents img name m → 0 < m.dataset.shape.cols
  some_here m file = subst (λ (d : Described). 0 < d.shape.cols) (sym (dataset_same img name o m found file)) (some_columns o dataset_fit)

  rests_at : (m : Moment) → (file : Represents img name m) → RunsAs plain [] (opened_log img b.columns b.values) m (λ key. address_in x.over.kept key) m.behind plain.places → (e : Entry) × RestsPart img root t name b s e
  rests_at m file r =
      let own : List Used = file.root.own in
      let a : Key → ℕ = λ key. address_in x.over.kept key in
      let log : Log = opened_log img b.columns b.values in
      let n : Moment = rooted own m in
      let untold : RunsAs plain [] log n a m.behind t =
      runs_as plain log (rooted own r.running.after) n r.running.address a r.running.held m.behind r.running.rest t
      (part_laws.others plain log r.running own (subst (λ (y : Moment). Represents img name (rooted own y)) (sym r.after) (settled_apart.untold img name m file))
      (subst (λ (us : List Used). OffAll us own) (sym r.held_is) (off_own img name m file))
      (live_own img name m r.running.rest file (subst (λ (y : Moment). AllLive r.running.rest (all_used y)) r.after r.running.knows.live)))
      (ap (rooted own) r.after) r.address_is r.held_is r.rest_is in
      let e : Entry = record { name = name; moment = n; address = a; held = m.behind } in
      let known : KnownHeld img name n a t m.behind = known_of plain log n a m.behind t untold in
      let columns_here : 0 < m.dataset.shape.cols = subst (λ (d : Described). 0 < d.shape.cols) (sym (dataset_same img name o m found file)) (some_columns o dataset_fit) in (
        e,
        record {
          entry = record {
            name_is = refl;
            knows = known.knows;
            untold = own_is img name m.super m.place own known.knows.file.root.own file.root.checked known.knows.file.root.checked;
            held_is = known.is;
            behind = refl;
            cols = columns_here;
          };
          super_is = super_same img name o m found file;
          named = ap (λ (y : Session). y.name) x.over.session;
          early = ap (λ (y : Session). y.early) x.over.session;
          going = ap (λ (y : Session). y.stopped) x.over.session;
          prefixed = (part_laws.stands plain [] log refl untold.running).prefixed;
          runs = subst (λ (y : Session). RunsAs y [] log n a m.behind t) (sym at_rest) untold;
        },
      )

  part_rests : (e : Entry) × RestsPart img root t name b s e
  part_rests =
      let k = part_laws.over img name reads.0 b.columns b.values sm valid reads.1 columns in
      rests_at k.0 k.1 (k.2 plain refl (over_by img name limit budget o x.over.kept found low high x.index x.read.index x.over.is_kept unrefused k.0 k.1))

-- ---- All of them

data EachRests (img : List ℕ) (root : Super) (t : Space) : List (List ℕ) → List Begun → List Session → List Entry → Type 0 where
  no_rest : EachRests img root t [] [] [] []
  a_rest : (name : List ℕ) (b : Begun) (s : Session) (e : Entry) (names : List (List ℕ)) (bs : List Begun) (ss : List Session) (es : List Entry) → RestsPart img root t name b s e → EachRests img root t names bs ss es
      → EachRests img root t (name ∷ names) (b ∷ bs) (s ∷ ss) (e ∷ es)

-- with their entries
record AreRests (img : List ℕ) (root : Super) (t : Space) (names : List (List ℕ)) (bs : List Begun) (ss : List Session) : Type 0 where
  entries : List Entry
  each : EachRests img root t names bs ss entries
  here : AllPaired (IsEntry img t) names entries

module _ (img : List ℕ) (root : Super) (limit budget : ℕ) (h : HeaderFields) (super : super_at (range img 0 48) ≡ Ok root) (root_read : eval img (root_header_for true root.root) ≡ Ok h) (low : 1024 ≤ limit) (high : limit ≤ 2 ^ 40) where
  abbrev places : Space
  places = places_from root.end limit

  are_rests : (names : List (List ℕ)) (ps : List ℕ) (ss : List Session) (bs : List Begun) → AreSessionsAt img (closed_front root) limit budget names ps ss → AllByRecursion (HasSummary img) names
      → AllPaired (λ (name : List ℕ) (p : ℕ). linked name h.messages ≡ Ok p) names ps → AllPaired (ReadsIt img) names bs → AreRests img root places names bs ss
  are_rests _ _ _ [] no_session valid links reads = record { entries = []; each = no_rest; here = tt }
  are_rests _ _ _ (b ∷ bs) no_session valid links reads = absurd reads
  are_rests _ _ _ [] (a_session name p s names ps ss x rest) valid links reads = absurd reads
  are_rests _ _ _ (b ∷ bs) (a_session name p s names ps ss x rest) valid links reads =
      let one = part_rests img name b root p s limit budget valid.0.0 valid.0.1 reads.0 x h super root_read links.0 low high in
      let more = are_rests names ps ss bs rest valid.1 links.1 reads.1 in
      record { entries = one.0 ∷ more.entries; each = a_rest name b s one.0 names bs ss more.entries one.1 more.each; here = ((one.1).entry, more.here) }

rest_names : (img : List ℕ) (root : Super) (t : Space) (names : List (List ℕ)) (bs : List Begun) (ss : List Session) (es : List Entry) → EachRests img root t names bs ss es → names_of es ≡ names
rest_names img root t _ _ _ _ no_rest = refl
rest_names img root t _ _ _ _ (a_rest name b s e names bs ss es p rest) = ap (λ (n : List ℕ). n ∷ names_of es) p.entry.name_is ∙ ap (λ (ns : List (List ℕ)). name ∷ ns) (rest_names img root t names bs ss es rest)

-- the superblock by which all are known is the file's
rest_root : (img : List ℕ) (root super : Super) (t : Space) (us : List Used) (names : List (List ℕ)) (bs : List Begun) (ss : List Session) (es : List Entry) → EachRests img root t names bs ss es → AreKnown img t super us es → AreKnown img t root us es
rest_root img root super t us _ _ _ _ no_rest k = tt
rest_root img root super t us _ _ _ _ (a_rest name b s e names bs ss es p rest) k = subst (λ (r : Super). AreKnown img t r us (e ∷ es)) (sym k.0.super_is ∙ p.super_is) k

module _ (img : List ℕ) (root : Super) (t : Space) (us : List Used) (all : List Begun) (read : super_at (range img 0 48) ≡ Ok root) where
  abbrev log : FileLog
  log = opened_file img all

  -- each stands, at rest
  rest_parts : (d : ℕ) (names : List (List ℕ)) (bs : List Begun) (ss : List Session) (es : List Entry) (before : List Write) → EachRests img root t names bs ss es → AreStandingParts root t us [] log d bs before (rested root t ss) es
  rest_parts d _ _ _ _ before no_rest = tt
  rest_parts d _ _ _ _ before (a_rest name b s e names bs ss es p rest) =
      let own : Log = opened_log img b.columns b.values in
      let u : Session = told_of (record s { pending = [] }) root t in
      let named : name ≡ u.name = sym p.named in
      let done : IsDone root t [] log d b u e = record { calm = inl refl; own = own; seen = seen_opened t.limit img all d b 0 [] (opened_end img all b root read); runs = p.runs } in (
        record { name = p.entry.name_is ∙ named; early = p.early; going = p.going; each = subst (λ (n : List ℕ). PrefixedEach n (log_of d b log)) named p.prefixed; run = inl (rest_run u.name (log_of d b log) e (runs_of u [] own e.moment e.address e.held t p.runs)); past = past_opened img all b root read u 0 [] e t p.runs (p.entry.name_is ∙ named); phase = inl done },
        rest_parts (suc d) names bs ss es (before ++ []) rest,
      )

pub takes_standing : TakesStanding
takes_standing img size names summary bs limit budget S valid reads taken begun some low high =
    let root = taken.front.root in
    let ss = taken.parts in
    let t : Space = places_from root.end limit in
    let f = written_tells img size root names taken.front.places taken.is in
    let r = are_rests img root limit budget f.header taken.super f.read low high names taken.front.places ss bs taken.each (valid_names img summary names summary.rows (each_valid img names summary valid)) f.each reads in
    let apart = all_apart img names summary t r.entries valid r.here in
    let es = r.entries in
    let us = apart.root in
    let log : FileLog = opened_file img bs in
    let left : List Write = all_pending (rested root t ss) in
    let none : [] ≡ left = sym (none_rested root t ss) in
    let named = rest_names img root t names bs ss es r.each in
    let ends_at : began_end log ≡ root.end = ap (end_among (length bs)) taken.super in
    let here : IsAllValid img (names_of es) = subst (λ (ns : List (List ℕ)). IsAllValid img ns) (sym named) (summary, valid) in
    let whole : AreValidFrom 0 img (names_of es) [] = λ p first last. (let first_alone : p ≡ 0 = omega (arith, last) in subst (λ (n : ℕ). IsAllValid (image img (take n [])) (names_of es)) (sym first_alone) here) in
    let own = stands_all (sessions_at_rest root limit ss) log (record {
      ranges = us;
      entries = es;
      known = subst (λ (ws : List Write). AreKnown (last_image log ws) t root us es) none (rest_root img root apart.super t us names bs ss es r.each apart.known);
      off = apart.off;
      blocks = apart.blocks;
      parts = subst (λ (ws : List Write). AreStandingParts root t us ws log 0 bs [] (rested root t ss) es) none (rest_parts img root t us bs taken.super 0 names bs ss es [] r.each);
      fits = omega (arith, ends_at);
      low = opened_ample img names summary valid bs t;
      ends = subst (λ (ws : List Write). WritesEndBy (most_in t log) ws) none tt;
      going = refl;
      valid = subst (λ (ws : List Write). AreValidFrom 0 img (names_of es) ws) none whole;
      course = subst (λ (ws : List Write). AreThrough log (stands_of 0 bs (names_of es)) ws) none tt;
    }) in
    subst (λ (y : Sessions). StandsAll y log) (sym taken.session) own
