-- What a session's relation to its log gives.
use Rattle.std.proofs.Common.{◌≡◌, ◌⊎◌, ℕ, suc, ◌-◌, ◌*◌, ◌/◌, ◌^◌, ◌<◌, ◌≤◌, Bool, true, false, nat_lt, max, List, [], ◌∷◌, length, take, Option, Ok, Err, refl, ap, sym, ◌∙◌, subst, inl, inr, arith}
use Rattle.std.proofs.lemmas.Bool.{cases_lt, cond-false, le-ltb, lt-ltb, ltb-false}
use Rattle.std.specs.Prelude.{IsSome}
use Rattle.h5w_model.specs.Arrays.{eahd_len, numbers_in}
use Rattle.h5w_model.specs.Images.{At}
use Rattle.h5w_model.specs.Numbers.{range}
use Rattle.h5w_model.specs.Programs.{Visit, eval, ret, and_then, visits}
use Rattle.h5w_model.specs.Logs.{Log, Happening, flushed, hist, rows_in, shown}
use Rattle.h5w_model.specs.Datasets.{Described, dataset, dataset_place, root_header, root_view}
use Rattle.h5w_model.specs.Tables.{Limits, Reading, Shows, format_limits, limit_of, needed, needed_keys, needed_table, table_of}
use Rattle.h5w_model.specs.Prefixed.{EachReads, Held, IsPosition, Keeps, Prefixed, ReadsNow, SameDescribed, continuation_blocks, image_at, root_address}
use Rattle.h5w_model.specs.declared.cell.IndexKind.{IndexKind}
use Rattle.h5w_model.specs.declared.piece.Write.{Write}
use Rattle.h5w_model.specs.declared.refusal.ReadError.TheVariants as read_errors
use Rattle.h5w_laws.proofs.HeldLemmas.{still_gives_held}
use Rattle.h5w_laws.proofs.LogLemmas.{each_gives_prefixed, length_hist}
use Rattle.h5w_laws.proofs.ProgramLemmas.{same_visits}
use Rattle.h5w_laws.proofs.StaysLemmas.{described_onward}
use Rattle.h5w_laws.proofs.ResultLemmas.{and_then_from}
use Rattle.h5w_laws.proofs.ValidLemmas.{dataset_ok, place_ok}
use Rattle.h5w_step_laws.specs.Moments.{Moment, Represents, reading_of}
use Rattle.h5w_step_laws.proofs.FoundLemmas.{moment_shows, opens, shown_is}
use Rattle.h5w_step_laws.proofs.GoesLemmas.{image_last, reads_now}
use Rattle.h5w_step_laws.proofs.MomentLemmas.{few, super_parts}
use Rattle.h5w_step_laws.specs.Logs.{image_now}
use Rattle.h5w_cache.specs.Stores.{Store}
use Rattle.h5w_index.specs.Views.{an_array}
use Rattle.h5w_index.specs.Placing.{IsOwn, IsOwnArray}
use Rattle.h5w_creation_laws.specs.CreatedFiles.{CreatedFile, IsCreatable, created_blocks, created_moment, index_place, root_place}
use Rattle.h5w_creation_laws.proofs.CreatedLaws.{created_sizes}
use Rattle.h5w_writer.specs.Laws.{IsDatasetOf, RoomStays, SaysNumbers, ShownLaws, StandingLaws}
use Rattle.h5w_writer.specs.Loads.{end_in, first_end_of}
use Rattle.h5w_writer.specs.Past.{HasCreated, HasOpened, IsNew, Past, most_of}
use Rattle.h5w_writer.specs.Room.{HasRoomFor}
use Rattle.h5w_writer.specs.Sessions.{IsRoomy, Session, Settles, chunk_limit, IsNamed}
use Rattle.h5w_writer.specs.Stands.{Creating, Stands}
use Rattle.h5w_writer.proofs.BeginLemmas.{beginning, new_image, since_first}
use Rattle.h5w_writer.proofs.CreatingLemmas.{committed_told, own_of, roomy_of, rows_told, shown_so_far, some_length}
use Rattle.h5w_writer.proofs.PastLemmas.{ends_front, ends_later, ends_take, image_ends, new_end, new_named, some_blocks}
use Rattle.h5w_writer.proofs.StandLemmas.{freed_keeps, goes_rows, left_running, resting}
use Rattle.h5w_writer.proofs.DatasetLemmas.{dataset_of, flush_keeps}
use Rattle.h5w_writer.proofs.IndexLemmas.{kept_whole}
use Rattle.h5w_writer.proofs.RestLemmas.{array_rests, at_rest}

-- ---- How a log began

-- a file's layout names its index
index_low : (f : CreatedFile) → IsCreatable f → index_place f ≤ 1024
index_low f is = let end = (created_sizes f is).end in omega (arith, end)

-- what both phases tell of the dataset and the limit
record Started (s : Session) (log : Log) : Type 0 where
  begun : IsNew log ⊎ HasOpened s log
  some : 0 < s.dataset.shape.cols
  columns : log.columns ≡ s.dataset.shape.cols
  limit : s.places.limit ≤ 2 ^ 40

started : (s : Session) (log : Log) → Stands s log → Started s log
started s log st =
    elim st.phase [
      | inl c ↦
          let f = c.0 in
          let cols : s.dataset.shape.cols ≡ f.columns = ap (λ (x : Session). x.dataset.shape.cols) c.1.session in
          record {
            begun = inl (record { file = f; is = c.1.is; log_is = c.1.log_is });
            some = omega (arith, cols, c.1.is.some_columns);
            columns = ap (λ (l : Log). l.columns) c.1.log_is ∙ sym cols;
            limit = c.1.limit.high;
          }
      | inr r ↦
          record {
            begun = elim r.past.begun [ inl b ↦ inl (record { file = b.file; is = b.is; log_is = b.log_is }) | inr b ↦ inr b ];
            some = r.past.counted.columns;
            columns = sym r.columns;
            limit = r.past.limit_high;
          }
    ]

-- ---- What a log is

stands_prefixed : (s : Session) (log : Log) → Stands s log → Prefixed s.name log
stands_prefixed s log st = each_gives_prefixed s.name log st.prefixed

stands_held : (s : Session) (log : Log) → Stands s log → Held s.name log
stands_held s log st = still_gives_held s.name log (stands_prefixed s log st) st.still

reads_all : (s : Session) (log : Log) → Stands s log → s.stopped ≡ false → s.pending ≡ [] → ReadsNow s.name log
reads_all s log st running idle =
    let r = at_rest s log st running idle in
    let g = resting s.name log r.after r.held r.runs in
    reads_now s.name log r.after g.now g.values g.some_columns g.columns

all_planned : (s : Session) (log : Log) → Stands s log → s.stopped ≡ false → s.pending ≡ [] → rows_in log (flushed log) ≡ s.dataset.shape.rows
all_planned s log st running idle =
    let r = at_rest s log st running idle in
    goes_rows s.name log r.after r.held (resting s.name log r.after r.held r.runs) ∙ ap (λ (d : Described). d.shape.rows) r.keeps.dataset

last_reads : (name : List ℕ) (log : Log) (es : List Happening) → EachReads name log es → log.first ≤ shown es → ReadsNow name (record log { events = es })
last_reads name log [] each begun = each begun
last_reads name log (e ∷ es) each begun = each.0 begun

-- ---- What an image shows at a position

-- before the first position there is none
none_yet : (f : CreatedFile) (s : Session) (left : List Write) (log : Log) (p : ℕ) → Creating f s left log → IsPosition log p → ⊥
none_yet f s left log p c at =
    let count = shown_so_far f log.events left c.pieces in
    let some = some_length left c.some in
    let first : log.first ≡ length (created_blocks f) = ap (λ (l : Log). l.first) c.log_is in
    absurd (omega (arith, count, some, first, at.begun, at.reached, length_hist log.events))

past_at : (s : Session) (log : Log) (p : ℕ) → (st : Stands s log) → IsPosition log p → (m : Moment) × Past s st.left log m
past_at s log p st at =
    elim st.phase [
      | inl c ↦ absurd (none_yet c.0 s st.left log p c.1 at)
      | inr r ↦ (r.after, r.past)
    ]

-- the file at a position
moment_at : (s : Session) (log : Log) (p : ℕ) → Stands s log → IsPosition log p → (m : Moment) × Represents (image_at log p) s.name m
moment_at s log p st at =
    let here = stands_prefixed s log st p at in
    let file = opens (image_at log p) s.name _ log.columns _ here.summary here.valid here.reads in
    (file.0, file.1)

few_needed : (s : Session) (log : Log) (p : ℕ) (r : Reading) → Stands s log → IsPosition log p → Shows format_limits (image_at log p) s.name r → needed r.dataset ≤ limit_of format_limits r.dataset.layout.index
few_needed s log p r st at shows =
    let file = moment_at s log p st at in
    let m = file.0 in
    let top = limit_of format_limits m.dataset.layout.index in
    let inside : needed m.dataset ≤ top = ltb-false top (needed m.dataset) (few (image_at log p) s.name m file.1) in
    subst (λ (x : Reading). needed x.dataset ≤ limit_of format_limits x.dataset.layout.index) (sym (shown_is (image_at log p) s.name m r file.1 shows)) inside

-- what each position shows is the session's dataset, but for its rows
dataset_is : (s : Session) (log : Log) (p : ℕ) (r : Reading) → Stands s log → IsPosition log p → Shows format_limits (image_at log p) s.name r → IsDatasetOf s r
dataset_is s log p r st at shows =
    elim st.phase [
      | inl c ↦ absurd (none_yet c.0 s st.left log p c.1 at)
      | inr run ↦
          let m = run.runs.before in
          let g = run.runs.goes in
          let last : ℕ = shown log.events in
          let now : IsPosition log last = record { begun = g.begun; reached = omega (arith, length_hist log.events) } in
          let seen : Shows format_limits (image_at log last) s.name (reading_of m) =
          subst (λ (i : List ℕ). Shows format_limits i s.name (reading_of m)) (sym (image_last log last (omega arith))) (moment_shows (image_now log) s.name m g.now) in
          let kept = (stands_held s log st p last r (reading_of m) at now (omega (arith, at.reached, length_hist log.events)) shows seen).stays in
          let later = flush_keeps (image_now log) s.name m run.after run.runs.held run.held st.left g.now run.runs.flush in
          let described = described_onward r.dataset m.dataset run.after.dataset kept.described later.described in
          dataset_of s r (sym run.keeps.place ∙ later.place ∙ kept.place) (subst (λ (d : Described). SameDescribed r.dataset d) run.keeps.dataset described)
    ]

-- so few chunks are needed by the session's own index
few_of : (s : Session) (log : Log) (p : ℕ) (r : Reading) → Stands s log → IsPosition log p → Shows format_limits (image_at log p) s.name r → needed r.dataset ≤ chunk_limit s
few_of s log p r st at shows = subst (λ (k : IndexKind). needed r.dataset ≤ limit_of format_limits k) (dataset_is s log p r st at shows).index (few_needed s log p r st at shows)

-- the file that was opened ends within its bytes
opened_end : (s : Session) (log : Log) → HasOpened s log → first_end_of log ≤ length log.start
opened_end s log b =
    let file = opens log.start s.name b.rows log.columns log.values b.summary b.valid b.reads in
    let parts = super_parts (length log.start) (range log.start 0 48) file.0.super file.1.super in
    let end : first_end_of log ≡ file.0.super.end = ap end_in parts.read in
    omega (arith, parts.inside, end)

-- the file that the log began with ends within the limit, or within its bytes
first_within : (s : Session) (left : List Write) (log : Log) (m : Moment) → Past s left log m → first_end_of log ≤ max s.places.limit (length log.start)
first_within s left log m past =
    elim past.begun [
      | inl b ↦ let end = new_end log (record { file = b.file; is = b.is; log_is = b.log_is }) in omega (arith, end, past.limit_low)
      | inr b ↦ omega (arith, opened_end s log b)
    ]

image_within : (s : Session) (log : Log) (p : ℕ) → Stands s log → IsPosition log p → length (image_at log p) ≤ max s.places.limit (length log.start)
image_within s log p st at =
    let file = past_at s log p st at in
    let past = file.1 in
    let shown = take p (hist log.events) in
    let most = most_of s log in
    let end = max s.places.limit (length log.start) in
    let less : most ≤ end = omega (arith, first_within s st.left log file.0 past) in
    image_ends end log.start shown (omega arith) (ends_later most end shown less (ends_take most p (hist log.events) (ends_front most (hist log.events) st.left past.ends)))

pub standing_laws : StandingLaws
standing_laws = record {
  begun = λ s log st. (started s log st).begun;
  columns = λ s log st. (started s log st).columns;
  some_columns = λ s log st. (started s log st).some;
  flushed_rows = λ s log st. sym (committed_told s log st);
  appended_rows = λ s log st. sym (rows_told s log (let some = (started s log st).some in omega (arith, some)) st);
  prefixed = stands_prefixed;
  still = λ s log st. st.still;
  held = stands_held;
  reads = λ s log st running idle. (reads_all s log st running idle).reads;
  planned_rows = all_planned;
  stopped = λ s log st stopped begun. last_reads s.name log log.events st.prefixed (omega (arith, begun, length_hist log.events));
  limited = λ s log st. (started s log st).limit;
  fits = image_within;
  within = few_needed;
  dataset = dataset_is;
  few = few_of;
  addressed = λ s log p r st bare at shows. (past_at s log p st at).1.addressed bare p r at shows;
}

-- ---- In a file that the session created

-- a log that is new began with the pieces of a new file
is_created : (s : Session) (log : Log) → IsNew log → HasCreated s log ⊎ HasOpened s log → HasCreated s log
is_created s log new (inl b) = b
is_created s log new (inr b) = let first : log.first ≡ length (created_blocks new.file) = ap (λ (l : Log). l.first) new.log_is in absurd (omega (arith, first, b.first, some_blocks new.file))

begun_at : (s : Session) (log : Log) (p : ℕ) → Stands s log → IsNew log → IsPosition log p → HasCreated s log
begun_at s log p st new at = is_created s log new (past_at s log p st at).1.begun

kept_at : (s : Session) (log : Log) (p : ℕ) (r : Reading) → (st : Stands s log) → (new : IsNew log) → (at : IsPosition log p) → Shows format_limits (image_at log p) s.name r
    → Keeps (new_image (begun_at s log p st new at).file) (reading_of (created_moment (begun_at s log p st new at).file)) (image_at log p) r
kept_at s log p r st new at shows = since_first s log p r (begun_at s log p st new at) (stands_held s log st) at shows

-- within any limits that allow the needed chunks
moment_within : (limits : Limits) (img name : List ℕ) (m : Moment) → needed m.dataset ≤ limit_of limits m.dataset.layout.index → Represents img name m → Shows limits img name (reading_of m)
moment_within limits img name m few r =
    let d : Described = m.dataset in
    let shown : Reading = reading_of m in
    let header = dataset_ok img m.super m.place (d, m.header) r.header in
    let table = ap (eval img) (cond-false (nat_lt (limit_of limits d.layout.index) (needed d)) (ret (Err (read_errors.TooManyChunks (needed d) (limit_of limits d.layout.index)))) (table_of d (needed_keys d)) (le-ltb (limit_of limits d.layout.index) (needed d) few)) ∙ r.table in
    and_then_from img (dataset_place name) (λ at. and_then (dataset at) (λ d. and_then (needed_table limits d) (λ t. ret (Ok (record { place = at; dataset = d; table = t }))))) m.place shown
    (place_ok img name m.super (m.place, r.root.own) r.super r.root.checked)
    (and_then_from img (dataset m.place) (λ d. and_then (needed_table limits d) (λ t. ret (Ok (record { place = m.place; dataset = d; table = t })))) d shown header.0
    (and_then_from img (needed_table limits d) (λ t. ret (Ok (record { place = m.place; dataset = d; table = t }))) m.table shown table refl))

few_within : (s : Session) (log : Log) (limits : Limits) (p : ℕ) (r : Reading) → Stands s log → IsNew log → chunk_limit s ≤ limit_of limits s.dataset.layout.index → IsPosition log p → Shows format_limits (image_at log p) s.name r
    → needed r.dataset ≤ limit_of limits r.dataset.layout.index
few_within s log limits p r st new most at shows =
    let same = (dataset_is s log p r st at shows).index in
    subst (λ (k : IndexKind). needed r.dataset ≤ limit_of limits k) (sym same) (omega (arith, few_of s log p r st at shows, most))

shows_within : (s : Session) (log : Log) (limits : Limits) (p : ℕ) (r : Reading) → Stands s log → IsNew log → chunk_limit s ≤ limit_of limits s.dataset.layout.index → IsPosition log p → Shows format_limits (image_at log p) s.name r
    → Shows limits (image_at log p) s.name r
shows_within s log limits p r st new most at shows =
    let img = image_at log p in
    let file = moment_at s log p st at in
    let m = file.0 in
    let same : r ≡ reading_of m = shown_is img s.name m r file.1 shows in
    let inside : needed m.dataset ≤ limit_of limits m.dataset.layout.index = subst (λ (x : Reading). needed x.dataset ≤ limit_of limits x.dataset.layout.index) same (few_within s log limits p r st new most at shows) in
    subst (λ (x : Reading). Shows limits img s.name x) (sym same) (moment_within limits img s.name m inside file.1)

root_one : (s : Session) (log : Log) (p : ℕ) → Stands s log → IsNew log → IsPosition log p → (v : Visit) × (visits (image_at log p) (root_header (root_address (image_at log p))) ≡ v ∷ [])
root_one s log p st new at =
    let img = image_at log p in
    let b = begun_at s log p st new at in
    let old = new_image b.file in
    let file = moment_at s log p st at in
    let kept = (kept_at s log p (reading_of file.0) st new at (moment_shows img s.name file.0 file.1)).stays in
    let begins = beginning b.file b.is in (
      record { place = root_place; len = 512; counts = root_view },
      ap (λ (a : ℕ). visits img (root_header a)) kept.root ∙ same_visits old img (root_header (root_address old)) kept.root_header ∙ begins.root,
    )

header_alone : (s : Session) (log : Log) (p : ℕ) (r : Reading) → Stands s log → IsNew log → IsPosition log p → Shows format_limits (image_at log p) s.name r → continuation_blocks (image_at log p) r ≡ []
header_alone s log p r st new at shows =
    let b = begun_at s log p st new at in
    (kept_at s log p r st new at shows).stays.named ∙ (beginning b.file b.is).header

image_fits : (s : Session) (log : Log) (p : ℕ) → Stands s log → IsNew log → IsPosition log p → length (image_at log p) ≤ s.places.limit
image_fits s log p st new at =
    let start : log.start ≡ [] = ap (λ (l : Log). l.start) new.log_is in
    omega (arith, image_within s log p st at, ap length start)

-- ---- The index

-- it is one as it is made here
own_index : (s : Session) (log : Log) → Stands s log → IsNew log → IsOwn s.index
own_index s log st new =
    elim st.phase [
      | inl c ↦ own_of c.0 s.index c.1.is c.1.index
      | inr r ↦ (r.past.own new).0
    ]

-- and has room for each chunk
pub roomy_index : (s : Session) (log : Log) → Stands s log → IsNew log → IsRoomy s.dataset s.index
roomy_index s log st new =
    elim st.phase [
      | inl c ↦ subst (λ (d : Described). IsRoomy d s.index) (sym (ap (λ (t : Session). t.dataset) c.1.session)) (roomy_of c.0 s.index c.1.index)
      | inr r ↦ r.past.roomy new
    ]

named_index : (s : Session) (log : Log) → Stands s log → IsNew log → IsNamed s.dataset
named_index s log st new none = elim st.phase [
  | inl c ↦
      let at : s.dataset.layout.address ≡ index_place c.0 = ap (λ (t : Session). t.dataset.layout.address) c.1.session in
      omega (arith, at, none, index_low c.0 c.1.is)
  | inr r ↦ new_named s st.left log r.after new r.past none
]

says_numbers : (s : Session) (log : Log) → Stands s log → IsNew log → s.stopped ≡ false → s.pending ≡ [] → s.waits ≡ 0 → (v : Store) → s.index ≡ an_array v → SaysNumbers s v (image_now log)
says_numbers s log st new running idle none v e =
    let r = at_rest s log st running idle in
    let own : IsOwnArray v = subst IsOwn e (r.past.own new).0 in
    let named : IsNamed r.after.dataset = subst IsNamed (sym r.keeps.dataset) (new_named s [] log r.after new r.past) in
    let now = kept_whole (image_now log) r.after r.address r.rest s.index named (r.past.own new).1 r.index in
    let rest = array_rests s log r now none v e in
    record {
      address = rest.address;
      map = rest.map;
      there = rest.there;
      most = own.numbered.max;
      greatest = own.numbered.greatest;
      six = ap (λ (at : ℕ). numbers_in (range (image_now log) at eahd_len) 6 12) (sym rest.address) ∙ rest.six ∙ own.numbered.six;
    }

pub shown_laws : ShownLaws
shown_laws = record {
  dataset = λ s log p r st new at shows. dataset_is s log p r st at shows;
  shown = shows_within;
  within = few_within;
  few = λ s log p r st new at shows. few_of s log p r st at shows;
  addressed = λ s log p r st new at shows. (past_at s log p st at).1.addressed (ap (λ (l : Log). l.values) new.log_is) p r at shows;
  root_header = root_one;
  dataset_header = header_alone;
  fits = image_fits;
  own = own_index;
  named = named_index;
  numbers = says_numbers;
}

-- ---- Room

pub room_stays : RoomStays
room_stays s t w [] v u pending room after wrote = by s.flushing after
  where
    count : length s.pending ≡ 1
    count = ap length pending

    by : (b : Bool) → Settles b s t → HasRoomFor t u
    by true settles =
        let end : t.places.end ≡ s.places.end = (freed_keeps s.keeps s.places t.places settles.0).0 in
        let none : length t.pending ≡ 0 = ap (λ (x : Session). length x.pending) settles.1 in
        record { pieces = omega (arith, count, none, room.pieces, wrote.pieces); end = omega (arith, end, room.end, wrote.end) }
    by false same =
        let end : t.places.end ≡ s.places.end = ap (λ (x : Session). x.places.end) same in
        let none : length t.pending ≡ 0 = ap (λ (x : Session). length x.pending) same in
        record { pieces = omega (arith, count, none, room.pieces, wrote.pieces); end = omega (arith, end, room.end, wrote.end) }
room_stays s t w (x ∷ xs) v u pending room after wrote =
    let count : length s.pending ≡ suc (length (x ∷ xs)) = ap length pending in
    let left : length t.pending ≡ length (x ∷ xs) = ap (λ (y : Session). length y.pending) after in
    let end : t.places.end ≡ s.places.end = ap (λ (y : Session). y.places.end) after in
    record { pieces = omega (arith, count, left, room.pieces, wrote.pieces); end = omega (arith, end, room.end, wrote.end) }
