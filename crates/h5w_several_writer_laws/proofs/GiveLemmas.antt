-- What a session of several datasets tells of each of them.
use Rattle.std.proofs.Common.{◌≡◌, ℕ, zero, suc, ◌+◌, ◌/◌, ◌<◌, ◌≤◌, max, List, [], ◌∷◌, ◌++◌, length, ℤ, Some, refl, sym, ◌∙◌, ap, subst, inl, inr, arith}
use Rattle.std.specs.Prelude.{map, slice_get, take}
use Rattle.h5w_model.specs.Findings.{Used}
use Rattle.h5w_model.specs.Logs.{Log, appended, flushed_rows, needed_chunks, rows_in}
use Rattle.h5w_model.specs.Datasets.{Described}
use Rattle.h5w_model.specs.Prefixed.{Held, Prefixed, PrefixedEach, ReadsNow, Still, image_at}
use Rattle.h5w_model.specs.Several.{Begun, FileLog, log_of, pieces_in}
use Rattle.h5w_model.specs.Tables.{Reading, Shows, format_limits, limit_of, needed}
use Rattle.h5w_model.specs.Images.{image}
use Rattle.h5w_model.specs.declared.cell.IndexKind.{IndexKind}
use Rattle.h5w_model.specs.declared.piece.Write.{Write}
use Rattle.h5w_model.specs.declared.root.Super.{Super}
use Rattle.h5w_space.specs.Space.{Space}
use Rattle.h5w_step_laws.specs.Moments.{Moment}
use Rattle.h5w_several_laws.proofs.SeenLemmas.{seen_laws}
use Rattle.h5w_several_laws.specs.Turns.{Entry}
use Rattle.h5w_writer.specs.Laws.{IsDatasetOf}
use Rattle.h5w_writer.specs.Sessions.{Session, rows_of, stopped_of}
use Rattle.h5w_writer.specs.Stands.{Running, Stands}
use Rattle.h5w_writer.proofs.LawLemmas.{standing_laws}
use Rattle.h5w_writer.proofs.PastLemmas.{ends_front, ends_later, ends_take, image_ends}
use Rattle.h5w_writer.proofs.StandLemmas.{goes_rows, resting}
use Rattle.h5w_several_writer_laws.specs.Laws.{PartTells, StandingAllLaws}
use Rattle.h5w_several_writer_laws.specs.Seen.{IsOwn}
use Rattle.h5w_several_writer_laws.specs.Sessions.{Sessions, all_pending, halted_of}
use Rattle.h5w_several_writer_laws.specs.Standing.{AreStandingParts, IsStandingPart, StandsAll, StandsOn, most_in, rested}
use Rattle.h5w_several_writer_laws.proofs.SightLemmas.{own_rows}
use Rattle.h5w_several_writer_laws.proofs.RunTellLemmas.{run_addressed, run_dataset, run_few, run_held, run_now, run_prefixed, run_still}
use Rattle.h5w_several_writer_laws.proofs.FlushAllLemmas.{back_nil, front_nil, goes_on}

-- ---- One part

-- how many rows it has, flushed and appended
record HasRows (log : FileLog) (d : ℕ) (b : Begun) (s : Session) : Type 0 where
  columns : b.columns ≡ s.dataset.shape.cols
  some_columns : 0 < s.dataset.shape.cols
  flushed_rows : s.committed ≡ flushed_rows (log_of d b log)
  appended_rows : rows_of s ≡ rows_in (log_of d b log) (appended (log_of d b log))

-- a session that runs over a part's own log, with what is left of its pieces
runs_rows : (log : FileLog) (d : ℕ) (b : Begun) {limit : ℕ} (l : Log) (later left : List Write) (s : Session) → IsOwn limit log d b l later → left ≡ s.pending → Running s left l → HasRows log d b s
runs_rows log d b {limit} l later left s seen is r =
    let goes = r.runs.goes in
    let st : Stands s l = record { left = left; dropped = inl is; phase = inr r; prefixed = goes.prefixed; still = goes.still } in
    record {
      columns = sym seen.columns ∙ standing_laws.columns s l st;
      some_columns = standing_laws.some_columns s l st;
      flushed_rows = standing_laws.flushed_rows s l st ∙ own_rows log d b l later seen;
      appended_rows = standing_laws.appended_rows s l st ∙ ap (λ (c : ℕ). length (appended l) / c) seen.columns ∙ ap (λ (vs : List ℤ). length vs / b.columns) seen.appended;
    }

-- it is where its moment is
record IsMoment (s : Session) (e : Entry) : Type 0 where
  place : e.moment.place ≡ s.place
  dataset : e.moment.dataset ≡ s.dataset

-- a reading is of a dataset by what that says, and by where its header stands
dataset_like : (s t : Session) (r : Reading) → t.place ≡ s.place → t.dataset ≡ s.dataset → IsDatasetOf s r → IsDatasetOf t r
dataset_like s t r place dataset x =
    let same = sym dataset in
    record {
      place = x.place ∙ sym place;
      rank = x.rank ∙ ap (λ (y : Described). y.shape.rank) same;
      columns = x.columns ∙ ap (λ (y : Described). y.shape.cols) same;
      growing = x.growing ∙ ap (λ (y : Described). y.shape.growing) same;
      int_type = x.int_type ∙ ap (λ (y : Described). y.int_type) same;
      fill = x.fill ∙ ap (λ (y : Described). y.fill) same;
      index = x.index ∙ ap (λ (y : Described). y.layout.index) same;
      chunk_rows = x.chunk_rows ∙ ap (λ (y : Described). y.layout.chunk_rows) same;
      chunk_columns = x.chunk_columns ∙ ap (λ (y : Described). y.layout.chunk_cols) same;
      needed = x.needed
          ∙ ap (λ (y : Described). needed_chunks (record { chunk_rows = y.layout.chunk_rows; chunk_columns = y.layout.chunk_cols; columns = y.shape.cols; value_size = y.int_type.size }) r.dataset.shape.rows) same;
    }

-- it says nothing of the superblock, the places, the pieces and of whether the session was stopped
tells_like : (log : FileLog) (d : ℕ) (b : Begun) (s t : Session) → t.name ≡ s.name → t.place ≡ s.place → t.dataset ≡ s.dataset → t.committed ≡ s.committed → t.waits ≡ s.waits → PartTells log d b s → PartTells log d b t
tells_like log d b s t name place dataset committed waits x =
    let columns = ap (λ (y : Described). y.shape.cols) dataset in
    let rows : rows_of t ≡ rows_of s = ap (λ (y : Described). y.shape.rows + t.waits) dataset ∙ ap (λ (n : ℕ). s.dataset.shape.rows + n) waits in
    record {
      columns = x.columns ∙ sym columns;
      some_columns = subst (λ (n : ℕ). 0 < n) (sym columns) x.some_columns;
      flushed_rows = committed ∙ x.flushed_rows;
      appended_rows = rows ∙ x.appended_rows;
      each = subst (λ (n : List ℕ). PrefixedEach n (log_of d b log)) (sym name) x.each;
      prefixed = subst (λ (n : List ℕ). Prefixed n (log_of d b log)) (sym name) x.prefixed;
      still = subst (λ (n : List ℕ). Still n (log_of d b log)) (sym name) x.still;
      held = subst (λ (n : List ℕ). Held n (log_of d b log)) (sym name) x.held;
      now = λ begun. subst (λ (n : List ℕ). ReadsNow n (log_of d b log)) (sym name) (x.now begun);
      dataset = λ p r at shows. dataset_like s t r place dataset (x.dataset p r at (by_name p r shows));
      few = λ p r at shows. subst (λ (y : Described). needed r.dataset ≤ limit_of format_limits y.layout.index) (sym dataset) (x.few p r at (by_name p r shows));
      addressed = λ bare p r at shows. x.addressed bare p r at (by_name p r shows);
    }
  where
    by_name : (p : ℕ) (r : Reading) → Shows format_limits (image_at (log_of d b log) p) t.name r → Shows format_limits (image_at (log_of d b log) p) s.name r
    by_name p r shows = subst (λ (n : List ℕ). Shows format_limits (image_at (log_of d b log) p) n r) name shows

module _ (root : Super) (t : Space) (us : List Used) (left : List Write) (log : FileLog) (d : ℕ) (b : Begun) (before : List Write) (s : Session) (behind : List Write) (e : Entry) (x : IsStandingPart root t us left log d b before s behind e) where
  part_rows : HasRows log d b s
  part_rows = elim x.phase [
    | inl done ↦
        let r = runs_rows log d b done.own left [] (rested root t s) done.seen refl done.runs.running in
        record { columns = r.columns; some_columns = r.some_columns; flushed_rows = r.flushed_rows; appended_rows = r.appended_rows }
    | inr due ↦
        let r = runs_rows log d b due.own before s.pending due.was due.seen (ap (λ (y : Session). y.pending) due.told) due.runs.running in
        subst (λ (y : Session). HasRows log d b y) (sym due.told) (record { columns = r.columns; some_columns = r.some_columns; flushed_rows = r.flushed_rows; appended_rows = r.appended_rows })
  ]

  part_moment : IsMoment s e
  part_moment = elim x.phase [
    | inl done ↦
        let r = done.runs.running in
        record { place = ap (λ (m : Moment). m.place) (sym done.runs.after) ∙ r.keeps.place; dataset = ap (λ (m : Moment). m.dataset) (sym done.runs.after) ∙ r.keeps.dataset }
    | inr due ↦
        let r = due.runs.running in
        record {
          place = ap (λ (m : Moment). m.place) (due.moment_is) ∙ ap (λ (m : Moment). m.place) (sym due.runs.after) ∙ r.keeps.place ∙ sym (ap (λ (y : Session). y.place) due.told);
          dataset = ap (λ (m : Moment). m.dataset) (due.moment_is) ∙ ap (λ (m : Moment). m.dataset) (sym due.runs.after) ∙ r.keeps.dataset ∙ sym (ap (λ (y : Session). y.dataset) due.told);
        }
  ]

  part_tells : PartTells log d b s
  part_tells =
      let rows = part_rows in
      let at = part_moment in
      let is = run_dataset log d b left s e x.run x.each at.place at.dataset in
      record {
        columns = rows.columns;
        some_columns = rows.some_columns;
        flushed_rows = rows.flushed_rows;
        appended_rows = rows.appended_rows;
        each = x.each;
        prefixed = run_prefixed log d b left s e x.run x.each;
        still = run_still log d b left s e x.run x.each;
        held = run_held log d b left s e x.run x.each;
        now = run_now log d b left s e x.run x.each;
        dataset = is;
        few = λ p r here shows. subst (λ (k : IndexKind). needed r.dataset ≤ limit_of format_limits k) (is p r here shows).index (run_few log d b left s e x.run x.each p r here shows);
        addressed = run_addressed log d b left s e x.run x.each x.name x.past;
      }

-- ---- All parts

some_is : {A : Type 0} (x y : A) → Some x ≡ Some y → x ≡ y
some_is x y e = cc

parts_tell : (root : Super) (t : Space) (us : List Used) (left : List Write) (log : FileLog) (k : ℕ) (bs : List Begun) (before : List Write) (ss : List Session) (es : List Entry) → AreStandingParts root t us left log k bs before ss es
    → (i d : ℕ) (b : Begun) (s : Session) → d ≡ k + i → slice_get bs i ≡ Some b → slice_get ss i ≡ Some s → PartTells log d b s
parts_tell root t us left log k [] before [] [] x i d b s is set part = absurd cc
parts_tell root t us left log k (c ∷ bs) before (u ∷ ss) (e ∷ es) x zero d b s is set part =
    let told = part_tells root t us left log k c before u (all_pending ss) e x.0 in
    let number : k ≡ d = omega (arith, is) in
    subst (λ (n : ℕ). PartTells log n b s) number (subst (λ (y : Begun). PartTells log k y s) (some_is c b set) (subst (λ (y : Session). PartTells log k c y) (some_is u s part) told))
parts_tell root t us left log k (c ∷ bs) before (u ∷ ss) (e ∷ es) x (suc i) d b s is set part =
    parts_tell root t us left log (suc k) bs (before ++ u.pending) ss es x.1 i d b s (omega (arith, is)) set part
parts_tell root t us left log k [] before (u ∷ ss) es x i d b s is set part = absurd x
parts_tell root t us left log k [] before [] (e ∷ es) x i d b s is set part = absurd x
parts_tell root t us left log k (c ∷ bs) before [] es x i d b s is set part = absurd x
parts_tell root t us left log k (c ∷ bs) before (u ∷ ss) [] x i d b s is set part = absurd x

-- the part that another was made of
record IsOf (f : Session → Session) (ss : List Session) (i : ℕ) (s : Session) : Type 0 where
  was : Session
  is : slice_get ss i ≡ Some was
  made : s ≡ f was

made_of : (f : Session → Session) (ss : List Session) (i : ℕ) (s : Session) → slice_get (map f ss) i ≡ Some s → IsOf f ss i s
made_of f [] i s is = absurd cc
made_of f (x ∷ ss) zero s is = record { was = x; is = refl; made = sym (some_is (f x) s is) }
made_of f (x ∷ ss) (suc i) s is =
    let r = made_of f ss i s is in
    record { was = r.was; is = r.is; made = r.made }

on_tells : (S : Sessions) (log : FileLog) → StandsOn S log → (d : ℕ) (b : Begun) (s : Session) → slice_get log.sets d ≡ Some b → slice_get S.parts d ≡ Some s → PartTells log d b s
on_tells S log st d b s set part = parts_tell S.root S.places st.ranges (all_pending S.parts) log 0 log.sets [] S.parts st.entries st.parts d d b s (let z : d ≡ 0 + d = omega arith in z) set part

ended_tells : (was : Sessions) (log : FileLog) → StandsOn was log → (f : Session → Session) → ((x : Session) → (f x).name ≡ x.name) → ((x : Session) → (f x).place ≡ x.place) → ((x : Session) → (f x).dataset ≡ x.dataset) → ((x : Session) → (f x).committed ≡ x.committed) → ((x : Session) → (f x).waits ≡ x.waits)
    → (d : ℕ) (b : Begun) (s : Session) → slice_get log.sets d ≡ Some b → slice_get (map f was.parts) d ≡ Some s → PartTells log d b s
ended_tells was log st f name place dataset committed waits d b s set part =
    let o = made_of f was.parts d s part in
    let told = on_tells was log st d b o.was set o.is in
    subst (λ (y : Session). PartTells log d b y) (sym o.made) (tells_like log d b o.was (f o.was) (name o.was) (place o.was) (dataset o.was) (committed o.was) (waits o.was) told)

all_tell : (S : Sessions) (log : FileLog) → StandsAll S log → (d : ℕ) (b : Begun) (s : Session) → slice_get log.sets d ≡ Some b → slice_get S.parts d ≡ Some s → PartTells log d b s
all_tell S log st d b s set part = elim st.is [
  | inl same ↦ on_tells st.was log st.stands d b s set (ap (λ (x : Sessions). slice_get x.parts d) (sym same) ∙ part)
  | inr ended ↦
      elim ended [
        | inl same ↦ ended_tells st.was log st.stands halted_of (λ x. refl) (λ x. refl) (λ x. refl) (λ x. refl) (λ x. refl) d b s set (ap (λ (x : Sessions). slice_get x.parts d) (sym same) ∙ part)
        | inr same ↦ ended_tells st.was log st.stands stopped_of (λ x. refl) (λ x. refl) (λ x. refl) (λ x. refl) (λ x. refl) d b s set (ap (λ (x : Sessions). slice_get x.parts d) (sym same) ∙ part)
      ]
]

-- ---- As many datasets as parts

as_many : (root : Super) (t : Space) (us : List Used) (left : List Write) (log : FileLog) (k : ℕ) (bs : List Begun) (before : List Write) (ss : List Session) (es : List Entry) → AreStandingParts root t us left log k bs before ss es → length bs ≡ length ss
as_many root t us left log k [] before [] [] x = refl
as_many root t us left log k (b ∷ bs) before (s ∷ ss) (e ∷ es) x = ap suc (as_many root t us left log (suc k) bs (before ++ s.pending) ss es x.1)
as_many root t us left log k [] before (s ∷ ss) es x = absurd x
as_many root t us left log k [] before [] (e ∷ es) x = absurd x
as_many root t us left log k (b ∷ bs) before [] es x = absurd x
as_many root t us left log k (b ∷ bs) before (s ∷ ss) [] x = absurd x

map_length : (f : Session → Session) (ss : List Session) → length (map f ss) ≡ length ss
map_length f [] = refl
map_length f (s ∷ ss) = ap suc (map_length f ss)

all_sets : (S : Sessions) (log : FileLog) → StandsAll S log → length log.sets ≡ length S.parts
all_sets S log st =
    let many = as_many st.was.root st.was.places st.stands.ranges (all_pending st.was.parts) log 0 log.sets [] st.was.parts st.stands.entries st.stands.parts in
    elim st.is [
      | inl same ↦ many ∙ ap (λ (x : Sessions). length x.parts) (sym same)
      | inr ended ↦
          elim ended [
            | inl same ↦ many ∙ sym (map_length halted_of st.was.parts) ∙ ap (λ (x : Sessions). length x.parts) (sym same)
            | inr same ↦ many ∙ sym (map_length stopped_of st.was.parts) ∙ ap (λ (x : Sessions). length x.parts) (sym same)
          ]
    ]

-- ---- The image's length

pub same_places : (S : Sessions) (log : FileLog) (st : StandsAll S log) → S.places ≡ st.was.places
same_places S log st = elim st.is [
  | inl same ↦ ap (λ (x : Sessions). x.places) same
  | inr ended ↦
      elim ended [
        | inl same ↦ ap (λ (x : Sessions). x.places) same
        | inr same ↦ ap (λ (x : Sessions). x.places) same
      ]
]

all_fit : (S : Sessions) (log : FileLog) → StandsAll S log → (d : ℕ) (b : Begun) → (p : ℕ) → length (image_at (log_of d b log) p) ≤ max S.places.limit (length log.start)
all_fit S log st d b p =
    let on = st.stands in
    let t = st.was.places in
    let most = most_in t log in
    let end = max t.limit (length log.start) in
    let less : most ≤ end = let low = on.low in omega (arith, low) in
    let shown : List Write = take p (pieces_in log.events) in
    let whole = ends_take most p (pieces_in log.events) (ends_front most (pieces_in log.events) (all_pending st.was.parts) on.ends) in
    let fits = image_ends end log.start shown (omega arith) (ends_later most end shown less whole) in
    let here = subst (λ (ws : List Write). length (image log.start (take p ws)) ≤ end) (sym (seen_laws.pieces d log.events)) fits in
    subst (λ (u : Space). length (image_at (log_of d b log) p) ≤ max u.limit (length log.start)) (sym (same_places S log st)) here

-- ---- The rows planned

part_planned : (root : Super) (t : Space) (us : List Used) (left : List Write) (log : FileLog) (d : ℕ) (b : Begun) (before : List Write) (s : Session) (behind : List Write) (e : Entry) → s.pending ≡ [] → IsStandingPart root t us left log d b before s behind e
    → flushed_rows (log_of d b log) ≡ s.dataset.shape.rows
part_planned root t us left log d b before s behind e idle x = elim x.phase [
  | inl done ↦
      let r = done.runs.running in
      sym (own_rows log d b done.own left done.seen) ∙ goes_rows s.name done.own r.after r.held (resting s.name done.own r.after r.held r.runs) ∙ ap (λ (y : Described). y.shape.rows) r.keeps.dataset
  | inr due ↦ absurd (due.some idle)
]

parts_planned : (root : Super) (t : Space) (us : List Used) (left : List Write) (log : FileLog) (k : ℕ) (bs : List Begun) (before : List Write) (ss : List Session) (es : List Entry) → all_pending ss ≡ [] → AreStandingParts root t us left log k bs before ss es
    → (i d : ℕ) (b : Begun) (s : Session) → d ≡ k + i → slice_get bs i ≡ Some b → slice_get ss i ≡ Some s → flushed_rows (log_of d b log) ≡ s.dataset.shape.rows
parts_planned root t us left log k [] before [] [] idle x i d b s is set part = absurd cc
parts_planned root t us left log k (c ∷ bs) before (u ∷ ss) (e ∷ es) idle x zero d b s is set part =
    let told = part_planned root t us left log k c before u (all_pending ss) e (front_nil u.pending (all_pending ss) idle) x.0 in
    let number : k ≡ d = omega (arith, is) in
    subst (λ (n : ℕ). flushed_rows (log_of n b log) ≡ s.dataset.shape.rows) number
    (subst (λ (y : Begun). flushed_rows (log_of k y log) ≡ s.dataset.shape.rows) (some_is c b set) (subst (λ (y : Session). flushed_rows (log_of k c log) ≡ y.dataset.shape.rows) (some_is u s part) told))
parts_planned root t us left log k (c ∷ bs) before (u ∷ ss) (e ∷ es) idle x (suc i) d b s is set part =
    parts_planned root t us left log (suc k) bs (before ++ u.pending) ss es (back_nil u.pending (all_pending ss) idle) x.1 i d b s (omega (arith, is)) set part
parts_planned root t us left log k [] before (u ∷ ss) es idle x i d b s is set part = absurd x
parts_planned root t us left log k [] before [] (e ∷ es) idle x i d b s is set part = absurd x
parts_planned root t us left log k (c ∷ bs) before [] es idle x i d b s is set part = absurd x
parts_planned root t us left log k (c ∷ bs) before (u ∷ ss) [] idle x i d b s is set part = absurd x

pub standing_all : StandingAllLaws
standing_all = record {
  tells = all_tell;
  sets = all_sets;
  fits = λ S log st d b s set part p at. all_fit S log st d b p;
  planned_rows = λ S log st going idle d b s set part.
      let on = goes_on S log st going in
      parts_planned S.root S.places on.ranges (all_pending S.parts) log 0 log.sets [] S.parts on.entries idle on.parts d d b s (let z : d ≡ 0 + d = omega arith in z) set part;
}
