-- What holds of every session holds of one that creates its file.
use Rattle.std.proofs.Common.{◌≡◌, ℕ, ◌+◌, ◌^◌, ◌<◌, ◌≤◌, [], ◌∷◌, refl, sym, subst, inl, inr, arith}
use Rattle.std.proofs.lemmas.List.Elements.{All-nil}
use Rattle.h5w_model.specs.Numbers.{undefined}
use Rattle.h5w_model.specs.Arrays.{eahd_len, eaib_len}
use Rattle.h5w_model.specs.Trees.{bthd_len}
use Rattle.h5w_model.specs.declared.cell.Key.{Key}
use Rattle.h5w_model.specs.declared.cell.IndexKind.{IndexKind}
use Rattle.h5w_model.specs.declared.cell.IndexKind.TheVariants.{Array, Tree}
use Rattle.h5w_model.proofs.MessageLemmas.{length-shape_bytes, shape_rank}
use Rattle.h5w_step_laws.specs.Ranges.{AllEndBy as RangesEndBy, block_at}
use Rattle.h5w_step_laws.proofs.RangeLemmas.{ends_cons, ends_nil}
use Rattle.h5w_step_laws.specs.Spelled.{spelled_header}
use Rattle.h5w_step_laws.proofs.SpelledLemmas.{spelled_read}
use Rattle.h5w_space.specs.Space.{Apart, extent}
use Rattle.h5w_array_laws.specs.Parts.{index_block}
use Rattle.h5w_array_laws.specs.ArrayStores.{header_place, place_at_part}
use Rattle.h5w_array_laws.proofs.CreatedLemmas.{created_starts}
use Rattle.h5w_index.specs.Views.{IndexView, address_in, fixed_of, kind_of}
use Rattle.h5w_index.specs.Views.{header_place as index_header}
use Rattle.h5w_index.specs.Placing.{Fits}
use Rattle.h5w_creation_laws.specs.CreatedFiles.{CreatedFile, IsCreatable, block_place, created_writes, described_of, end_of, index_len, index_place}
use Rattle.h5w_creation_laws.proofs.CreatedLaws.{created_sizes}
use Rattle.h5w_creation.specs.Made.{IsNewIndex}
use Rattle.h5w_writer.specs.Sessions.{ArePieces, IsSession, IsWritable}
use Rattle.h5w_writer.specs.Creations.{IsIndexOf, IsLimit, created}
use Rattle.h5w_writer.proofs.CreatingLemmas.{no_chunks, writes_end}
use Rattle.h5w_writer.proofs.EarlyLemmas.{none_touched}
use Rattle.h5w_writer.proofs.HeaderAlone.{head_ends}
use Rattle.h5w_writer.proofs.StateLemmas.{up_some}

writable : (f : CreatedFile) → IsCreatable f → IsWritable (spelled_header (described_of f))
writable f is =
    let d = described_of f in
    let z = created_sizes f is in
    let read = spelled_read d z.spellable in
    let shape = length-shape_bytes d.shape z.spellable.shape in
    let rank : 1 ≤ d.shape.rank = elim (shape_rank d.shape z.spellable.shape) [ inl one ↦ omega (arith, one) | inr two ↦ omega (arith, two) ] in
    record { some = omega (arith, z.header); list = _; space = _; read = read.alone; first = refl; long = omega (arith, shape, rank) }

-- what is true of an index without chunks
pub record IsEmptyIndex (kind : IndexKind) (at end : ℕ) (v : IndexView) : Type 0 where
  pub is_kind : kind ≡ kind_of v
  pub map : (key : Key) → address_in v key ≡ undefined
  pub tops : RangesEndBy end (fixed_of v)
  pub place : at ≡ index_header v

pub empty_index : (k : IndexKind) (at block : ℕ) (v : IndexView) (end : ℕ) → (k ≡ Array → block ≡ at + eahd_len) → at + index_len k ≤ end → at < undefined → block < undefined → IsNewIndex k at block v → IsEmptyIndex k at end v
empty_index Array at block v end behind ends low high new =
    let c = new.2 in
    let starts = created_starts at block new.0 c low high in
    let next : block ≡ at + eahd_len = behind refl in
    subst (IsEmptyIndex Array at end) (sym new.1) (record {
      is_kind = refl;
      map = λ key. starts.map key.i;
      tops =
          let head = block_at (header_place new.0) eahd_len in
          let body = block_at (place_at_part new.0 index_block) eaib_len in
          ends_cons end head (body ∷ []) (omega (arith, c.header_at, ends)) (ends_cons end body [] (omega (arith, c.index_at, next, ends)) (ends_nil end));
      place = sym c.header_at;
    })
empty_index Tree at block v end behind ends low high new =
    subst (IsEmptyIndex Tree at end) (sym new) (record {
      is_kind = refl;
      map = λ key. refl;
      tops = ends_cons end (block_at at bthd_len) [] (omega (arith, ends)) (ends_nil end);
      place = refl;
    })

-- the index of a new file
pub new_index : (f : CreatedFile) (v : IndexView) → IsCreatable f → IsIndexOf f v → IsEmptyIndex f.index (index_place f) (end_of f) v
new_index f v is index =
    let small = (created_sizes f is).end in
    empty_index f.index (index_place f) (block_place f) v (end_of f) (λ e. refl) (omega arith) (omega (arith, small)) (omega (arith, small)) index.new

new_fits : (f : CreatedFile) (v : IndexView) → IsCreatable f → f.index ≡ kind_of v → Fits (described_of f) v
new_fits f v is kind = record { kind = kind; some = up_some f.columns f.chunk_cols (omega (arith, is.some_cols)) (omega (arith, is.some_columns)) }

pub created_is : (f : CreatedFile) (most budget : ℕ) (v : IndexView) → IsCreatable f → IsLimit most → 1024 ≤ budget → budget ≤ 2 ^ 30 → IsIndexOf f v → IsSession (created f most budget v)
created_is f most budget v is limit low high index =
    let z = created_sizes f is in
    let none = no_chunks f is in
    let empty = new_index f v is index in
    record {
      some_columns = is.some_columns;
      cells = omega arith;
      few = omega (arith, none);
      version = refl;
      begun = omega arith;
      kind = empty.is_kind;
      sound = index.sound;
      fits = new_fits f v is empty.is_kind;
      header = writable f is;
      addressed = λ none. absurd (omega (arith, none, z.end));
      header_ends = omega (arith, z.header);
      small = omega (arith, z.end);
      limit = limit.high;
      inside = λ key from named. absurd (named (empty.map key));
      tops = λ whole. empty.tops;
      blank = λ unmade key. empty.map key;
      live = λ unmade. record { within = omega arith; off_free = All-nil (Apart (extent 0 48)); off_retired = All-nil (Apart (extent 0 48)) };
      early = omega arith;
      chunks = sym (none_touched (described_of f) (described_of f).shape.rows);
      placed = λ k p here. absurd cc;
      ends = λ k p here. absurd cc;
      flushing = λ e. refl;
      busy = λ e. absurd cc;
      budget_low = low;
      budget_high = high;
      head = λ named lacking. subst (λ n. n + eahd_len ≤ end_of f) (sym empty.place) (head_ends v (end_of f) lacking empty.tops);
    }

pub created_pieces : (f : CreatedFile) → IsCreatable f → ArePieces (end_of f) (created_writes f)
created_pieces f is =
    let z = created_sizes f is in
    record { sized = z.sized; within = writes_end (end_of f) (created_writes f) z.within }
