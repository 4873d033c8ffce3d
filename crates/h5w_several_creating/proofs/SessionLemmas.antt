-- The sessions that begin over the datasets of a new file.
use Rattle.std.proofs.Common.{◌≡◌, ℕ, suc, ◌+◌, ◌^◌, ◌<◌, ◌≤◌, false, List, [], ◌∷◌, ◌++◌, length, refl, sym, ◌∙◌, ap, subst, inl, inr, arith, append_assoc, append-nil}
use Rattle.std.specs.Prelude.{OnOk, Result, Ok, Err}
use Rattle.std.proofs.lemmas.List.Elements.{All-nil}
use Rattle.h5w_model.specs.Arrays.{eahd_len}
use Rattle.h5w_model.specs.Datasets.{Described}
use Rattle.h5w_model.proofs.MessageLemmas.{length-shape_bytes, shape_rank}
use Rattle.h5w_space.specs.Space.{Apart, extent}
use Rattle.h5w_step_laws.specs.Spelled.{spelled_header}
use Rattle.h5w_step_laws.proofs.SpelledLemmas.{spelled_read}
use Rattle.h5w_index.specs.Views.{IndexView, IsSound}
use Rattle.h5w_chunks.specs.Grids.{dataset_of}
use Rattle.h5w_creation_laws.specs.CreatedFiles.{CreatedFile, IsCreatable, described_of}
use Rattle.h5w_creation.specs.Forms.{created_by}
use Rattle.h5w_creation.specs.Made.{IsNewIndex}
use Rattle.h5w_creation.specs.declared.form.Form.{Form}
use Rattle.h5w_several_creation_laws.specs.SeveralFiles.{block_behind, described_at, end_behind, end_from, index_behind}
use Rattle.h5w_several_creation_laws.proofs.PlaceLemmas.{end_above}
use Rattle.h5w_several_creation_laws.proofs.SetLemmas.{long_at, spellable_at}
use Rattle.h5w_several_creation.specs.Forms.{any_by, each_by}
use Rattle.h5w_writer.specs.Creations.{places_to}
use Rattle.h5w_writer.specs.PartLaws.{super_piece}
use Rattle.h5w_writer.specs.Sessions.{IsSession, IsWritable, Session}
use Rattle.h5w_writer.proofs.EarlyLemmas.{none_touched}
use Rattle.h5w_writer.proofs.HeaderAlone.{head_ends}
use Rattle.h5w_writer.proofs.SessionStarts.{empty_index}
use Rattle.h5w_writer.proofs.StateLemmas.{up_some}
use Rattle.h5w_several_writer.specs.Opened.{AreOpened, rested, sessions_at_rest}
use Rattle.h5w_several_writer_laws.specs.Sessions.{Sessions}
use Rattle.h5w_several_creating.specs.Created.{AreIndexes, created_part, created_parts}
use Rattle.h5w_several_creating.specs.Parts.{AddsParts, IsMold, IsPartOver, IsShared, over_part, over_parts}
use Rattle.h5w_several_creating.specs.declared.parts.Mold.{Mold}
use Rattle.h5w_several_creating.specs.declared.parts.Shared.{Shared}
use Rattle.h5w_several_creating.proofs.PartLemmas.{no_chunk}

-- ---- One part

writable : (place : ℕ) (f : CreatedFile) → IsCreatable f → end_behind place f < 2 ^ 62 → IsWritable (spelled_header (described_at place f))
writable place f is small =
    let d = described_at place f in
    let s = spellable_at place f is small in
    let read = spelled_read d s in
    let shape = length-shape_bytes d.shape s.shape in
    let long = long_at place f is small in
    let rank : 1 ≤ d.shape.rank = elim (shape_rank d.shape s.shape) [ inl one ↦ omega (arith, one) | inr two ↦ omega (arith, two) ] in
    record { some = omega (arith, long); list = _; space = _; read = read.alone; first = refl; long = omega (arith, shape, rank) }

pub short_header : (place : ℕ) (f : CreatedFile) → IsCreatable f → end_behind place f < 2 ^ 62 → length (spelled_header (described_at place f)) ≤ 512
short_header place f is small = (spelled_read (described_at place f) (spellable_at place f is small)).short

pub made_is : (t : Shared) (place : ℕ) (f : CreatedFile) (v : IndexView) → IsShared t → IsCreatable f → 48 ≤ place → end_behind place f ≤ t.root.end → IsSound v → IsNewIndex f.index (index_behind place f) (block_behind place f) v
    → IsSession (over_part t place f v)
made_is t place f v shared is begun ends sound new =
    let end = shared.small in
    let small : end_behind place f < 2 ^ 62 = omega (arith, ends, end) in
    let none = no_chunk place f is in
    let long = long_at place f is small in
    let empty = empty_index f.index (index_behind place f) (block_behind place f) v t.root.end (λ e. refl) (omega (arith, ends)) (omega (arith, ends, end)) (omega (arith, ends, end)) new in
    record {
      some_columns = is.some_columns;
      cells = omega arith;
      few = omega (arith, none);
      version = shared.version;
      begun = omega (arith, begun, ends);
      kind = empty.is_kind;
      sound = sound;
      fits = record { kind = empty.is_kind; some = up_some f.columns f.chunk_cols (omega (arith, is.some_cols)) (omega (arith, is.some_columns)) };
      header = writable place f is small;
      addressed = λ undefined. absurd (omega (arith, undefined, ends, end));
      header_ends = omega (arith, long, ends);
      small = omega (arith, end);
      limit = shared.limit;
      inside = λ key from named. absurd (named (empty.map key));
      tops = λ whole. empty.tops;
      blank = λ unmade key. empty.map key;
      live = λ unmade. record { within = omega (arith, begun, ends); off_free = All-nil (Apart (extent 0 48)); off_retired = All-nil (Apart (extent 0 48)) };
      early = omega arith;
      chunks = sym (none_touched (described_at place f) (described_at place f).shape.rows);
      placed = λ k p here. absurd cc;
      ends = λ k p here. absurd cc;
      flushing = λ e. refl;
      busy = λ e. absurd cc;
      budget_low = shared.budget_low;
      budget_high = shared.budget_high;
      head = λ named lacking. subst (λ (n : ℕ). n + eahd_len ≤ t.root.end) (sym empty.place) (head_ends v t.root.end lacking empty.tops);
    }

-- a dataset of the form, with its index behind the header
pub moved : (m : Mold) (place : ℕ) (name : List ℕ) → IsMold m
    → ◌≡◌ {A = Described} (record (dataset_of m.grid) { layout = record ((dataset_of m.grid).layout) { address = place + m.header_len } }) (described_at place (created_by name m.form))
moved m place name mold =
    ap (λ (d : Described). let e : Described = record d { layout = record (d.layout) { address = place + m.header_len } } in e) mold.dataset
    ∙ ap (λ (n : ℕ). let e : Described = record (described_of (any_by m.form)) { layout = record ((described_of (any_by m.form)).layout) { address = place + n } } in e) mold.long

pub moved_index : (m : Mold) (place : ℕ) (name : List ℕ) (v : IndexView) → IsMold m → IsNewIndex m.form.index (place + m.header_len) (place + m.header_len + 72) v
    → IsNewIndex m.form.index (index_behind place (created_by name m.form)) (block_behind place (created_by name m.form)) v
moved_index m place name v mold new = subst (λ (n : ℕ). IsNewIndex m.form.index (place + n) (place + n + 72) v) mold.long new

-- the session over a dataset with this header
abbrev pub over_with : Shared → ℕ → CreatedFile → Described → List ℕ → IndexView → Session
over_with t place f d header v = record (over_part t place f v) { header = header; dataset = d; committed = d.shape.rows }

pub over_is : (t : Shared) (place : ℕ) (f : CreatedFile) (d : Described) (header : List ℕ) (v : IndexView) → d ≡ described_at place f → header ≡ spelled_header d → over_with t place f d header v ≡ over_part t place f v
over_is t place f d header v is spelled = λ k. record (over_part t place f v) { header = (spelled ∙ ap spelled_header is) k; dataset = is k; committed = (is k).shape.rows }

-- ---- All of them

-- the first of them, which ends within the file
pub within_first : (end place : ℕ) (name : List ℕ) (names all : List (List ℕ)) (form : Form) (forms every : List Form) → all ≡ name ∷ names → every ≡ form ∷ forms → end_from place (each_by all every) ≤ end → end_behind place (created_by name form) ≤ end
within_first end place name names all form forms every is by ends =
    let e : end_from place (each_by all every) ≡ end_from (end_behind place (created_by name form)) (each_by names forms) =
    ap (λ (ns : List (List ℕ)). end_from place (each_by ns every)) is ∙ ap (λ (fs : List Form). end_from place (each_by (name ∷ names) fs)) by in
    let more = end_above (end_behind place (created_by name form)) (each_by names forms) in
    omega (arith, ends, e, more)

-- one more, and those behind it
pub adds_one : (t : Shared) (place next : ℕ) (f : CreatedFile) (fs : List CreatedFile) (s : Session) (old mid new : List Session) → IsPartOver t place f s → mid ≡ old ++ s ∷ [] → next ≡ end_behind place f → AddsParts t next fs mid new
    → AddsParts t place (f ∷ fs) old new
adds_one t place next f fs s old mid new p push at x =
    let y = subst (λ (n : ℕ). AddsParts t n fs mid new) at x in
    let behind = over_parts t (end_behind place f) fs y.indexes in
    record {
      indexes = p.index ∷ y.indexes;
      are = ((p.sound, p.new), y.are);
      is =
          y.is ∙ ap (λ (ss : List Session). ss ++ behind) push ∙ append_assoc old (s ∷ []) behind
          ∙ ap (λ (z : Session). old ++ z ∷ behind) p.is;
    }

pub added : {A E : Type 0} (t : Shared) (place next : ℕ) (f : CreatedFile) (fs : List CreatedFile) (s : Session) (old mid new : List Session) (r : Result A E) → IsPartOver t place f s → mid ≡ old ++ s ∷ [] → next ≡ end_behind place f
    → OnOk r (AddsParts t next fs mid new) → OnOk r (AddsParts t place (f ∷ fs) old new)
added t place next f fs s old mid new (Ok a) p push at x = adds_one t place next f fs s old mid new p push at x
added t place next f fs s old mid new (Err e) p push at x = tt

pub all_opened : (t : Shared) (place : ℕ) (fs : List CreatedFile) (vs : List IndexView) → AreOpened t.root.end (over_parts t place fs vs)
all_opened t place [] vs = tt
all_opened t place (f ∷ fs) [] = tt
all_opened t place (f ∷ fs) (v ∷ vs) =
    (record { ends = omega arith; going = refl; first = super_piece t.root; pending = refl; calm = refl; early = refl }, all_opened t (end_behind place f) fs vs)

pub many_over : (t : Shared) (place : ℕ) (fs : List CreatedFile) (vs : List IndexView) → AreIndexes place fs vs → length (over_parts t place fs vs) ≡ length fs
many_over t place [] vs x = refl
many_over t place (f ∷ fs) [] x = absurd x
many_over t place (f ∷ fs) (v ∷ vs) x = ap suc (many_over t (end_behind place f) fs vs x.1)

rested_made : (t : Shared) (place : ℕ) (fs : List CreatedFile) (vs : List IndexView)
    → rested t.root (places_to t.root.end t.limit) (over_parts t place fs vs) ≡ created_parts t.root (places_to t.root.end t.limit) t.budget place fs vs
rested_made t place [] vs = refl
rested_made t place (f ∷ fs) [] = refl
rested_made t place (f ∷ fs) (v ∷ vs) = ap (λ (ss : List Session). created_part t.root (places_to t.root.end t.limit) t.budget place f v ∷ ss) (rested_made t (end_behind place f) fs vs)

-- the session of all of them, with nothing pending
abbrev pub made_all : Shared → ℕ → List CreatedFile → List IndexView → Sessions
made_all t place fs vs = record {
  root = t.root;
  places = places_to t.root.end t.limit;
  parts = created_parts t.root (places_to t.root.end t.limit) t.budget place fs vs;
  stopped = false;
  keeps = false;
}

pub all_rest : (t : Shared) (place : ℕ) (fs : List CreatedFile) (vs : List IndexView) → sessions_at_rest t.root t.limit (over_parts t place fs vs) ≡ made_all t place fs vs
all_rest t place fs vs = ap (λ (ss : List Session). let S : Sessions = record { root = t.root; places = places_to t.root.end t.limit; parts = ss; stopped = false; keeps = false } in S) (rested_made t place fs vs)
