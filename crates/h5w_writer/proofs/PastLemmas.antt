-- What a session keeps of the past, event by event.
use Rattle.std.proofs.Common.{◌≡◌, ℕ, zero, suc, ◌+◌, ◌≤◌, max, ◌⊎◌, Option, Some, None, List, [], ◌∷◌, ◌++◌, length, take, ℤ, refl, sym, ap, ◌∙◌, subst, inl, inr, arith, length-append}
use Rattle.std.proofs.lemmas.Bool.{cases_lt}
use Rattle.std.proofs.lemmas.List.{append_assoc, append-nil, length-map, length-replicate, length-take, take-append-le, take_all}
use Rattle.std.specs.Prelude.{IfSome, replicate}
use Rattle.std.specs.Option.{unwrap_or}
use Rattle.h5w_model.proofs.IntegerLemmas.{int_size_bounds}
use Rattle.h5w_model.specs.Findings.{Used, Valid}
use Rattle.h5w_model.specs.Images.{apply, image}
use Rattle.h5w_model.specs.Logs.{Log, Cutting, Happening, appends, plans, shows, hist, rows_in, shown, load, spent, spent_in, and_now}
use Rattle.h5w_model.specs.Datasets.{Described}
use Rattle.h5w_model.specs.Prefixed.{IsPosition, image_at}
use Rattle.h5w_model.specs.Tables.{Reading, Reads, Shows, format_limits, needed}
use Rattle.h5w_model.specs.declared.piece.Write.{Write}
use Rattle.h5w_model.proofs.ImageLemmas.{length-apply}
use Rattle.h5w_laws.proofs.LogLemmas.{image_earlier, length_hist}
use Rattle.h5w_step_laws.specs.Moments.{Moment, Represents, reading_of}
use Rattle.h5w_step_laws.specs.Logs.{image_now}
use Rattle.h5w_step_laws.specs.Sessions.{Runs}
use Rattle.h5w_step_laws.proofs.FoundLemmas.{moment_shows}
use Rattle.h5w_step_laws.proofs.GoesLemmas.{image_last, image_pushed}
use Rattle.h5w_step_laws.proofs.StepRepresents.{step_represents}
use Rattle.h5w_index.specs.Marks.{IsRaised}
use Rattle.h5w_index.proofs.ReachLemmas.{reach_laws}
use Rattle.h5w_creation_laws.specs.CreatedFiles.{CreatedFile, IsCreatable, block_write, created_blocks, created_writes, described_of, end_of, header_block, header_place, index_blocks, index_place, root_block, super_block}
use Rattle.h5w_creation_laws.proofs.CreatedLaws.{created_sizes}
use Rattle.h5w_writer.specs.Creations.{IsLimit, log_of}
use Rattle.h5w_writer.specs.Loads.{first_end_of}
use Rattle.h5w_writer.specs.Past.{AllAddressed, HasCreated, HasOpened, IsCounted, IsMadeHere, IsNew, Past, most_of}
use Rattle.h5w_writer.specs.Reaches.{ReachedFrom}
use Rattle.h5w_writer.specs.Sessions.{IsRoomy, Session, AllEndBy, cutting_of, with_rows, IsNamed}
use Rattle.h5w_writer.proofs.AddressedLemmas.{shown_addressed, step_addressed}
use Rattle.h5w_step_laws.specs.Files.{with_index}
use Rattle.h5w_writer.proofs.StateLemmas.{up_some}

-- ---- Lists of writes

pub ends_joined : (end : ℕ) (ws vs : List Write) → AllEndBy end ws → AllEndBy end vs → AllEndBy end (ws ++ vs)
ends_joined end [] vs first second = second
ends_joined end (w ∷ ws) vs first second = (first.0, ends_joined end ws vs first.1 second)

pub ends_front : (end : ℕ) (ws vs : List Write) → AllEndBy end (ws ++ vs) → AllEndBy end ws
ends_front end [] vs all = tt
ends_front end (w ∷ ws) vs all = (all.0, ends_front end ws vs all.1)

pub ends_take : (end n : ℕ) (ws : List Write) → AllEndBy end ws → AllEndBy end (take n ws)
ends_take end zero ws all = tt
ends_take end (suc n) [] all = tt
ends_take end (suc n) (w ∷ ws) all = (all.0, ends_take end n ws all.1)

pub ends_later : (end later : ℕ) (ws : List Write) → end ≤ later → AllEndBy end ws → AllEndBy later ws
ends_later end later [] less all = tt
ends_later end later (w ∷ ws) less all = (omega (arith, all.0), ends_later end later ws less all.1)

-- ---- The loads of a log

-- they rest on what it began with alone
pub spent_in-events : (c : Cutting) (log : Log) (other es : List Happening) → spent_in c (record log { events = other }) es ≡ spent_in c log es
spent_in-events c log other [] = refl
spent_in-events c log other (appends vs ∷ es) = ap (λ n. n + load c (record log { events = appends vs ∷ es })) (spent_in-events c log other es)
spent_in-events c log other (plans k ∷ es) = ap (λ n. n + load c (record log { events = es })) (spent_in-events c log other es)
spent_in-events c log other (shows w ∷ es) = spent_in-events c log other es

-- ---- How the log began

-- Another session with the same name, place, limit and dataset, but for its rows and an index address that was not there, whose index is one
-- as it is made here where it was before, and has room where it had before, and whose chunks are looked for where they were before.
pub record IsLike (s t : Session) : Type 0 where
  pub name : t.name ≡ s.name
  pub place : t.place ≡ s.place
  pub dataset : t.dataset ≡ with_index t.dataset.layout.address (with_rows t.dataset.shape.rows s.dataset)
  pub address : IsNamed s.dataset → t.dataset.layout.address ≡ s.dataset.layout.address
  pub limit : t.places.limit ≡ s.places.limit
  pub own : IsMadeHere s.index → IsMadeHere t.index
  pub reach : (first : ℕ) (img : List ℕ) → ReachedFrom first img s → ReachedFrom first img t
  pub roomy : IsRoomy s.dataset s.index → IsRoomy t.dataset t.index

pub like_itself : (s : Session) → IsLike s s
like_itself s = record { name = refl; place = refl; dataset = refl; address = λ named. refl; limit = refl; own = λ o. o; reach = λ first img h. h; roomy = λ o. o }

-- where the layout names the index the rows alone are others
like_named : (s t : Session) → IsLike s t → IsNamed s.dataset → t.dataset ≡ with_rows t.dataset.shape.rows s.dataset
like_named s t like named = like.dataset ∙ ap (λ (n : ℕ). with_index n (with_rows t.dataset.shape.rows s.dataset)) (like.address named)

-- a new file's layout names its index
pub created_named : (s : Session) (log : Log) → HasCreated s log → IsNamed s.dataset
created_named s log b none =
    let at : s.dataset.layout.address ≡ index_place b.file = ap (λ (d : Described). d.layout.address) b.dataset in
    let small = (created_sizes b.file b.is).end in
    absurd (omega (arith, at, none, small))

first_kept : (first : List Write) (e : Happening) (es : List Happening) → take (length first) (hist es) ≡ first → take (length first) (hist (e ∷ es)) ≡ first
first_kept first (appends vs) es pieces = pieces
first_kept first (plans k) es pieces = pieces
first_kept first (shows w) es pieces =
    let count : length first ≤ length (hist es) = omega (arith, ap length pieces, length-take (length first) (hist es)) in
    take-append-le (length first) (hist es) (w ∷ []) count ∙ pieces

created_later : (s t : Session) (e : Happening) (log : Log) → IsLike s t → HasCreated s log → HasCreated t (and_now e log)
created_later s t e log like b = record {
  file = b.file;
  is = b.is;
  log_is = ap (and_now e) b.log_is;
  pieces = first_kept (created_writes b.file) e log.events b.pieces;
  name = like.name ∙ b.name;
  place = like.place ∙ b.place;
  dataset = like_named s t like (created_named s log b) ∙ ap (with_rows t.dataset.shape.rows) b.dataset;
}

created_still : (s t : Session) (log : Log) → IsLike s t → HasCreated s log → HasCreated t log
created_still s t log like b = record {
  file = b.file;
  is = b.is;
  log_is = b.log_is;
  pieces = b.pieces;
  name = like.name ∙ b.name;
  place = like.place ∙ b.place;
  dataset = like_named s t like (created_named s log b) ∙ ap (with_rows t.dataset.shape.rows) b.dataset;
}

opened_still : (s t : Session) (e : Happening) (log : Log) → IsLike s t → HasOpened s log → HasOpened t log × HasOpened t (and_now e log)
opened_still s t e log like b =
    let valid = subst (λ (name : List ℕ). Valid log.start name b.summary) (sym like.name) b.valid in
    let reads = subst (λ (name : List ℕ). Reads log.start name b.rows log.columns log.values) (sym like.name) b.reads in (
      record { summary = b.summary; valid = valid; rows = b.rows; reads = reads; some_columns = b.some_columns; first = b.first },
      record { summary = b.summary; valid = valid; rows = b.rows; reads = reads; some_columns = b.some_columns; first = b.first },
    )

begun_later : (s t : Session) (e : Happening) (log : Log) → IsLike s t → HasCreated s log ⊎ HasOpened s log → HasCreated t (and_now e log) ⊎ HasOpened t (and_now e log)
begun_later s t e log like (inl b) = inl (created_later s t e log like b)
begun_later s t e log like (inr b) = inr (opened_still s t e log like b).1

begun_still : (s t : Session) (log : Log) → IsLike s t → HasCreated s log ⊎ HasOpened s log → HasCreated t log ⊎ HasOpened t log
begun_still s t log like (inl b) = inl (created_still s t log like b)
begun_still s t log like (inr b) = inr (opened_still s t (plans 0) log like b).0

-- a new file has blocks
pub some_blocks : (f : CreatedFile) → 3 ≤ length (created_blocks f)
some_blocks f = omega (arith, length-append (index_blocks f.index f) (header_block f ∷ root_block f ∷ super_block f ∷ []))

-- each is one piece
pub one_each : (f : CreatedFile) → length (created_writes f) ≡ length (created_blocks f)
one_each f = length-map (created_blocks f) block_write

pub new_named : (s : Session) (ws : List Write) (log : Log) (m : Moment) → IsNew log → Past s ws log m → IsNamed s.dataset
new_named s ws log m new past =
    elim past.begun [
      | inl b ↦ created_named s log b
      | inr b ↦
          let first : 0 ≡ length (created_blocks new.file) = sym b.first ∙ ap (λ (l : Log). l.first) new.log_is in
          absurd (omega (arith, first, some_blocks new.file))
    ]

-- a dataset is counted with whatever its rows are
counted_rows : (n : ℕ) (d : Described) → IsCounted d → IsCounted (with_rows n d)
counted_rows n d c = record { rows = c.rows; cols = c.cols; some = c.some; few = c.few; small = c.small; fill = c.fill; columns = c.columns; across = c.across }

counted_alike : (s t : Session) → IsLike s t → IsCounted s.dataset → IsCounted t.dataset
counted_alike s t like c =
    let k = counted_rows t.dataset.shape.rows s.dataset c in
    subst IsCounted (sym like.dataset) (record { rows = k.rows; cols = k.cols; some = k.some; few = k.few; small = k.small; fill = k.fill; columns = k.columns; across = k.across })

-- the log is new where it was before
new_before : (e : Happening) (log : Log) → IsNew (and_now e log) → IsNew log
new_before e log new = record { file = new.file; is = new.is; log_is = ap (λ (l : Log). record l { events = log.events }) new.log_is }

-- the rows do not tell how they are cut
cut_alike : (s t : Session) → IsLike s t → cutting_of t ≡ cutting_of s
cut_alike s t like = ap (λ d. record { chunk_rows = d.layout.chunk_rows; chunk_columns = d.layout.chunk_cols; columns = d.shape.cols; value_size = d.int_type.size }) like.dataset

-- ---- Events

-- the positions are those of before an event that shows no piece
same_positions : (e : Happening) (log : Log) (name : List ℕ) → shown (e ∷ log.events) ≡ shown log.events
    → ((p : ℕ) (r : Reading) → IsPosition log p → Shows format_limits (image_at log p) name r → AllAddressed r)
    → (p : ℕ) (r : Reading) → IsPosition (and_now e log) p → Shows format_limits (image_at (and_now e log) p) name r → AllAddressed r
same_positions e log name same each p r at seen =
    let high : p ≤ shown log.events = omega (arith, at.reached, length_hist (e ∷ log.events), same) in
    each p r (record { begun = at.begun; reached = omega (arith, high, length_hist log.events) }) (subst (λ (img : List ℕ). Shows format_limits img name r) (image_earlier e log p high) seen)

-- what the needed chunks of each position of a log have
abbrev EachAddressed : List ℕ → Log → Type 0
EachAddressed name log = (p : ℕ) (r : Reading) → IsPosition log p → Shows format_limits (image_at log p) name r → AllAddressed r

module _ (s t : Session) (log : Log) (like : IsLike s t) where
  most_alike : most_of t log ≡ most_of s log
  most_alike = ap (λ (limit : ℕ). max limit (first_end_of log)) like.limit

  fits_alike : (end : ℕ) → end ≤ most_of s log → t.places.end ≡ end → t.places.end ≤ most_of t log
  fits_alike end fits same = omega (arith, fits, same, most_alike)

  ends_alike : (ws : List Write) → AllEndBy (most_of s log) ws → AllEndBy (most_of t log) ws
  ends_alike ws ends = subst (λ (n : ℕ). AllEndBy n ws) (sym most_alike) ends

  grew_alike : (later : Log) (end : ℕ) → end ≤ first_end_of log + spent (cutting_of s) later → t.places.end ≡ end → t.places.end ≤ first_end_of log + spent (cutting_of t) later
  grew_alike later end grew same = subst (λ (c : Cutting). t.places.end ≤ first_end_of log + spent c later) (sym (cut_alike s t like)) (omega (arith, grew, same))

-- rows are appended
pub past_values : (s t : Session) (vs : List ℤ) (log : Log) (m : Moment) → IsLike s t → t.places.end ≡ s.places.end → Past s [] log m → Past t [] (and_now (appends vs) log) m
past_values s t vs log m like end past =
    let e = appends vs in record {
      begun = begun_later s t e log like past.begun;
      counted = counted_alike s t like past.counted;
      limit_low = omega (arith, past.limit_low, like.limit);
      limit_high = omega (arith, past.limit_high, like.limit);
      addressed = λ bare. subst (λ (name : List ℕ). EachAddressed name (and_now e log)) (sym like.name) (same_positions e log s.name refl (past.addressed bare));
      next = past.next;
      own = λ new. like.own (past.own (new_before e log new));
      reach = like.reach (rows_in log log.values) log.start past.reach;
      grew =
          let more = spent_in-events (cutting_of s) log (e ∷ log.events) log.events in
          grew_alike s t log like (and_now e log) s.places.end (omega (arith, past.grew, more)) end;
      fits = fits_alike s t log like s.places.end past.fits end;
      ends = ends_alike s t log like (hist log.events ++ []) past.ends;
      roomy = λ new. like.roomy (past.roomy (new_before e log new));
    }

-- rows are appended, of which some are written early: the file rises by no more than their load
pub past_early : (s t : Session) (vs : List ℤ) (ws : List Write) (log : Log) (m : Moment) → IsLike s t → IsRaised s.places t.places (load (cutting_of s) (and_now (appends vs) log)) → AllEndBy t.places.end ws → Past s [] log m
    → Past t ws (and_now (appends vs) log) m
past_early s t vs ws log m like raised within past =
    let e = appends vs in
    let fits : t.places.end ≤ most_of t log = omega (arith, raised.fits, past.fits, most_alike s t log like, raised.limit) in
    record {
      begun = begun_later s t e log like past.begun;
      counted = counted_alike s t like past.counted;
      limit_low = omega (arith, past.limit_low, like.limit);
      limit_high = omega (arith, past.limit_high, like.limit);
      addressed = λ bare. subst (λ (name : List ℕ). EachAddressed name (and_now e log)) (sym like.name) (same_positions e log s.name refl (past.addressed bare));
      next = past.next;
      own = λ new. like.own (past.own (new_before e log new));
      reach = like.reach (rows_in log log.values) log.start past.reach;
      grew =
          let more = spent_in-events (cutting_of s) log (e ∷ log.events) log.events in
          grew_alike s t log like (and_now e log) t.places.end (omega (arith, past.grew, raised.bound, more)) refl;
      fits = fits;
      ends = ends_joined (most_of t log) (hist log.events) ws (ends_alike s t log like (hist log.events) (ends_front (most_of s log) (hist log.events) [] past.ends)) (ends_later t.places.end (most_of t log) ws fits within);
      roomy = λ new. like.roomy (past.roomy (new_before e log new));
    }

-- a flush is planned, and all needed chunks of the file after it have addresses
pub past_planned : (s t : Session) (k : ℕ) (ws : List Write) (log : Log) (m n : Moment) → IsLike s t → IsRaised s.places t.places (load (cutting_of s) log) → AllEndBy t.places.end ws
    → (log.values ≡ [] → AllAddressed (reading_of n)) → Past s [] log m → Past t ws (and_now (plans k) log) n
past_planned s t k ws log m n like raised within next past =
    let e = plans k in
    let fits : t.places.end ≤ most_of t log = omega (arith, raised.fits, past.fits, most_alike s t log like, raised.limit) in
    record {
      begun = begun_later s t e log like past.begun;
      counted = counted_alike s t like past.counted;
      limit_low = omega (arith, past.limit_low, like.limit);
      limit_high = omega (arith, past.limit_high, like.limit);
      addressed = λ bare. subst (λ (name : List ℕ). EachAddressed name (and_now e log)) (sym like.name) (same_positions e log s.name refl (past.addressed bare));
      next = next;
      own = λ new. like.own (past.own (new_before e log new));
      reach = like.reach (rows_in log log.values) log.start past.reach;
      grew =
          let more = spent_in-events (cutting_of s) log (e ∷ log.events) log.events in
          grew_alike s t log like (and_now e log) t.places.end (omega (arith, past.grew, raised.bound, more)) refl;
      fits = fits;
      ends = ends_joined (most_of t log) (hist log.events) ws (ends_alike s t log like (hist log.events) (ends_front (most_of s log) (hist log.events) [] past.ends)) (ends_later t.places.end (most_of t log) ws fits within);
      roomy = λ new. like.roomy (past.roomy (new_before e log new));
    }

-- Pieces are planned that bring no rows and take no place, as the superblock with other flags.
pub past_more : (s t : Session) (ws : List Write) (log : Log) (m n : Moment) → IsLike s t → t.places.end ≡ s.places.end → AllEndBy t.places.limit ws → reading_of n ≡ reading_of m → Past s [] log m → Past t ws log n
past_more s t ws log m n like end fits same past = record {
  begun = begun_still s t log like past.begun;
  counted = counted_alike s t like past.counted;
  limit_low = omega (arith, past.limit_low, like.limit);
  limit_high = omega (arith, past.limit_high, like.limit);
  addressed = λ bare. subst (λ (name : List ℕ). EachAddressed name log) (sym like.name) (past.addressed bare);
  next = λ bare. subst AllAddressed (sym same) (past.next bare);
  own = λ new. like.own (past.own new);
  reach = like.reach (rows_in log log.values) log.start past.reach;
  grew = grew_alike s t log like log s.places.end past.grew end;
  fits = fits_alike s t log like s.places.end past.fits end;
  ends = ends_joined (most_of t log) (hist log.events) ws (ends_alike s t log like (hist log.events) (ends_front (most_of s log) (hist log.events) [] past.ends)) (ends_later t.places.limit (most_of t log) ws (omega arith) fits);
  roomy = λ new. like.roomy (past.roomy new);
}

-- a session of which nothing else is told by places, name and dataset
pub past_same : (s t : Session) (ws : List Write) (log : Log) (m : Moment) → IsLike s t → t.places.end ≡ s.places.end → Past s ws log m → Past t ws log m
past_same s t ws log m like end past = record {
  begun = begun_still s t log like past.begun;
  counted = counted_alike s t like past.counted;
  limit_low = omega (arith, past.limit_low, like.limit);
  limit_high = omega (arith, past.limit_high, like.limit);
  addressed = λ bare. subst (λ (name : List ℕ). EachAddressed name log) (sym like.name) (past.addressed bare);
  next = past.next;
  own = λ new. like.own (past.own new);
  reach = like.reach (rows_in log log.values) log.start past.reach;
  grew = grew_alike s t log like log s.places.end past.grew end;
  fits = fits_alike s t log like s.places.end past.fits end;
  ends = ends_alike s t log like (hist log.events ++ ws) past.ends;
  roomy = λ new. like.roomy (past.roomy new);
}

-- ---- A piece becomes visible

-- at the moment now the needed chunks have addresses
pub now_addressed : (s : Session) (ws : List Write) (log : Log) (m : Moment) → log.values ≡ [] → Past s ws log m → (now : Moment) → log.first ≤ shown log.events → Represents (image_now log) s.name now → AllAddressed (reading_of now)
now_addressed s ws log m bare past now begun here =
    let p = shown log.events in
    let at : IsPosition log p = record { begun = begun; reached = omega (arith, length_hist log.events) } in
    past.addressed bare p (reading_of now) at (subst (λ (img : List ℕ). Shows format_limits img s.name (reading_of now)) (sym (image_last log p (omega arith))) (moment_shows (image_now log) s.name now here))

between_addressed : (s : Session) (w : Write) (ws : List Write) (log : Log) (n : Moment) (held : List Used) → log.values ≡ [] → (r : Runs s.name log (w ∷ ws) n held) → Past s (w ∷ ws) log n → AllAddressed (reading_of r.flush.0)
between_addressed s w [] log n held bare r past = subst (λ (x : Moment). AllAddressed (reading_of x)) r.flush.4.0 (past.next bare)
between_addressed s w (x ∷ xs) log n held bare r past =
    let g = r.goes in
    step_addressed (image_now log) s.name r.before r.held w r.flush.0 r.flush.1 g.now (omega (arith, g.columns, g.some_columns)) r.flush.2 (r.flush.3 (λ e. cc)) (now_addressed s (w ∷ x ∷ xs) log n bare past r.before g.begun g.now)

pub past_shown : (s t : Session) (w : Write) (ws : List Write) (log : Log) (n : Moment) (held : List Used) → IsLike s t → t.places.end ≡ s.places.end → Runs s.name log (w ∷ ws) n held → Past s (w ∷ ws) log n
    → Past t ws (and_now (shows w) log) n
past_shown s t w ws log n held like end r past =
    let e = shows w in
    let next = and_now e log in
    let g = r.goes in
    let between = r.flush.0 in
    let here : Represents (image_now next) s.name between = subst (λ (img : List ℕ). Represents img s.name between) (sym (image_pushed log w)) (step_represents (image_now log) s.name r.before r.held w between r.flush.1 g.now r.flush.2) in
    let addressed : log.values ≡ [] → EachAddressed s.name next = λ bare p x at seen.
    elim (cases_lt (shown log.events) p) [
      | inl last ↦
          let img : image_at next p ≡ image_now next = image_last next p (omega (arith, last)) in
          shown_addressed (image_now next) s.name between x here (between_addressed s w ws log n held bare r past) (subst (λ (i : List ℕ). Shows format_limits i s.name x) img seen)
      | inr early ↦
          past.addressed bare p x (record { begun = at.begun; reached = omega (arith, early, length_hist log.events) })
          (subst (λ (i : List ℕ). Shows format_limits i s.name x) (image_earlier (shows w) log p early) seen)
    ] in
    record {
      begun = begun_later s t e log like past.begun;
      counted = counted_alike s t like past.counted;
      limit_low = omega (arith, past.limit_low, like.limit);
      limit_high = omega (arith, past.limit_high, like.limit);
      addressed = λ bare. subst (λ (name : List ℕ). EachAddressed name next) (sym like.name) (addressed bare);
      next = past.next;
      own = λ new. like.own (past.own (new_before e log new));
      reach = like.reach (rows_in log log.values) log.start past.reach;
      grew =
          let more = spent_in-events (cutting_of s) log (e ∷ log.events) log.events in
          grew_alike s t log like next s.places.end (omega (arith, past.grew, more)) end;
      fits = fits_alike s t log like s.places.end past.fits end;
      ends = subst (AllEndBy (most_of t log)) (sym (append_assoc (hist log.events) (w ∷ []) ws)) (ends_alike s t log like (hist log.events ++ (w ∷ ws)) past.ends);
      roomy = λ new. like.roomy (past.roomy (new_before e log new));
    }

-- ---- A new file

-- the dataset of a new file
fill_sized : (value : Option (List ℕ)) (size : ℕ) → IfSome value (λ (b : List ℕ). length b ≡ size) → length (unwrap_or value (replicate size 0)) ≡ size
fill_sized None size filled = length-replicate size 0
fill_sized (Some b) size filled = filled

new_counted : (f : CreatedFile) → IsCreatable f → IsCounted (described_of f)
new_counted f is =
    let sizes = int_size_bounds f.int_type.size is.int_type in
    record {
      rows = omega (arith, is.some_rows);
      cols = omega (arith, is.some_cols);
      some = omega (arith, sizes.0);
      few = omega (arith, sizes.1);
      small = omega (arith, is.small);
      fill = fill_sized f.fill.value f.int_type.size is.fill;
      columns = omega (arith, is.some_columns);
      across = up_some f.columns f.chunk_cols (omega (arith, is.some_cols)) (omega (arith, is.some_columns));
    }

-- no file began
pub new_end : (log : Log) → IsNew log → first_end_of log ≡ 1024
new_end log is = ap first_end_of is.log_is

pub past_begins : (f : CreatedFile) (s : Session) (log : Log) (m : Moment) → IsCreatable f → log ≡ log_of f log.events → hist log.events ≡ created_writes f → s.name ≡ f.name → s.place ≡ header_place f → s.dataset ≡ described_of f
    → IsLimit s.places.limit → s.places.end ≡ end_of f → AllEndBy (end_of f) (created_writes f) → Represents (image_now log) s.name m → needed m.dataset ≡ 0 → IsMadeHere s.index → IsRoomy s.dataset s.index → Past s [] log m
past_begins f s log m is log_is pieces name place dataset limit end fits here none own roomy =
    let small : end_of f ≤ 1024 = (created_sizes f is).end in
    let first : log.first ≡ length (created_blocks f) = ap (λ (l : Log). l.first) log_is in
    let count : length (hist log.events) ≡ length (created_blocks f) = ap length pieces ∙ one_each f in
    let nothing : AllAddressed (reading_of m) = λ k below. absurd (omega (arith, below, none)) in
    let began : first_end_of log ≡ 1024 = ap first_end_of log_is in
    record {
      begun = inl (record {
        file = f;
        is = is;
        log_is = log_is;
        pieces = ap (take (length (created_writes f))) pieces ∙ take_all (length (created_writes f)) (created_writes f) (omega arith);
        name = name;
        place = place;
        dataset = dataset ∙ ap (λ (d : Described). with_rows d.shape.rows (described_of f)) (sym dataset);
      });
      counted = subst IsCounted (sym dataset) (new_counted f is);
      limit_low = limit.low;
      limit_high = limit.high;
      addressed = λ bare p r at seen.
          let now : shown log.events ≤ p = omega (arith, length_hist log.events, count, first, at.begun) in
          shown_addressed (image_now log) s.name m r here nothing (subst (λ (i : List ℕ). Shows format_limits i s.name r) (image_last log p now) seen);
      next = λ bare. nothing;
      own = λ new. own;
      reach = λ more key low there. reach_laws.own s.index key own.0 there;
      grew = omega (arith, end, small, began);
      fits = omega (arith, small, end, limit.low);
      ends =
          let later : AllEndBy (most_of s log) (created_writes f) = ends_later (end_of f) (most_of s log) (created_writes f) (omega (arith, small, limit.low)) fits in
          subst (AllEndBy (most_of s log)) (sym (append-nil (hist log.events) ∙ pieces)) later;
      roomy = λ new. roomy;
    }

-- ---- Bounds

pub image_ends : (end : ℕ) (start : List ℕ) (ws : List Write) → length start ≤ end → AllEndBy end ws → length (image start ws) ≤ end
image_ends end start [] short h = short
image_ends end start (w ∷ ws) short h = image_ends end (apply w start) ws (omega (arith, length-apply w start, h.0)) h.1
