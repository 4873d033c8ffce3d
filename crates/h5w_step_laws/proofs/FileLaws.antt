-- A file after the write of a commit.
use Rattle.std.proofs.Common.{◌≡◌, ◌≢◌, ℕ, ◌+◌, ◌≤◌, true, List, [], ◌∷◌, ◌++◌, length, map, Option, Some, None, Result, Ok, refl, ap, sym, ◌∙◌, subst, inl, inr, arith, rules}
use Rattle.std.specs.Prelude.{find, option_map, option_and_then, IsSome, IsOk}
use Rattle.h5w_model.specs.Images.{apply}
use Rattle.h5w_model.specs.Programs.{eval, visits, Same}
use Rattle.h5w_model.specs.Headers.{continuation_kind, index_address_place, messages_at, rows_in_header, index_in_data, index_in_header, with_rows_bytes}
use Rattle.h5w_model.specs.Datasets.{FoundMessage, Range, HeaderFields, Described, found_at, described, first_of, dataspace_kind, layout_kind, dataset_messages}
use Rattle.h5w_model.specs.Tables.{format_limits}
use Rattle.h5w_model.specs.Findings.{Used}
use Rattle.h5w_model.specs.Prefixed.{SameHeader}
use Rattle.h5w_model.specs.declared.message.Msg.{Msg}
use Rattle.h5w_model.proofs.HeaderLemmas.{messages_at-ok}
use Rattle.h5w_laws.proofs.PlaceLemmas.{one_index_place}
use Rattle.h5w_laws.proofs.ProgramLemmas.{same_eval}
use Rattle.h5w_step_laws.specs.Ranges.{AllEndBy, MissesBlocks, Disjoint, block_at}
use Rattle.h5w_step_laws.proofs.RangeLemmas.{missed_stay}
use Rattle.h5w_step_laws.proofs.HeaderVisits.{used_of, looks_of, within_looks, view_missed, same_header}
use Rattle.h5w_step_laws.proofs.HeaderLaws.{dataset_parts, dataset_looks}
use Rattle.h5w_step_laws.specs.Moments.{Moment, Represents}
use Rattle.h5w_step_laws.proofs.MomentLemmas.{inside}
use Rattle.h5w_step_laws.proofs.PartLemmas.{disjoint_left, disjoint_right}
use Rattle.h5w_step_laws.specs.Commits.{with_rows_in, with_index_in}
use Rattle.h5w_step_laws.specs.Files.{chunk_0, commit_at, with_rows, with_index, LayoutInChunk0, HeaderWritable, LayoutMissed, IsWritten, RowsCommitted, IndexCommitted, HeaderCommits, GrowingHeader, StartingHeader}
use Rattle.h5w_step_laws.proofs.ChunkLemmas.{of_kind}
use Rattle.h5w_step_laws.proofs.CommitLaws.{the_data, rows_place_is, rows_there, index_place_is, index_there, rows_written, index_written}
use Rattle.h5w_step_laws.proofs.MessageLemmas.{is_space}
use Rattle.h5w_step_laws.proofs.HeaderFoundLemmas.{KeepsKinds, replaced, replaced_keeps, replaced_own, replaced_kind, replaced_outside, replaced_all, first_map, first_other, some_found, in_image}
use Rattle.h5w_step_laws.proofs.HeaderDescribedLemmas.{described_rows, described_index, space_of, layout_of}
use Rattle.h5w_step_laws.proofs.SpliceLemmas.{IsOwnChange, with_messages, own_message}
use Rattle.h5w_step_laws.proofs.ImageLemmas.{HeaderRead, header_read, rewritten}

-- ---- The first dataspace and the first layout

no_block_space : continuation_kind ≢ dataspace_kind
no_block_space e = absurd (omega arith)

no_block_layout : continuation_kind ≢ layout_kind
no_block_layout e = absurd (omega arith)

-- the first dataspace, in chunk 0 and in the image
pub record HasSpace (place : ℕ) (ms : List Msg) (rs : List FoundMessage) : Type 0 where
  pub space : Msg
  pub found : find (of_kind dataspace_kind) ms ≡ Some space
  pub long : 12 ≤ length space.body
  pub first : first_of dataspace_kind rs ≡ Some (in_image place space)

pub has_space : (img : List ℕ) (place : ℕ) (h : HeaderFields) (d : Described) (r : HeaderRead img place h) → described h.messages ≡ Ok d → HasSpace place r.listed h.messages
has_space img place h d r says =
    let x = space_of h.messages d says in
    let own = own_message img r.prefix.tracked dataspace_kind r.spliced_by place r.listed h.messages x.0 no_block_space r.spliced x.1 x.2 in
    let long = (is_space x.0.body d.shape x.3).long in
    let same : x.0.body ≡ own.0.body = ap (λ (m : FoundMessage). m.body) (sym own.2) in
    record { space = own.0; found = own.1; long = subst (λ (b : List ℕ). 12 ≤ length b) same long; first = x.1 ∙ ap Some (sym own.2) }

-- and the first layout, where it stands in chunk 0
pub record HasLayout (place : ℕ) (ms : List Msg) (rs : List FoundMessage) : Type 0 where
  pub layout : Msg
  pub found : find (of_kind layout_kind) ms ≡ Some layout
  pub room : index_address_place layout.body + 8 ≤ length layout.body
  pub first : first_of layout_kind rs ≡ Some (in_image place layout)

pub has_layout : (img : List ℕ) (place : ℕ) (h : HeaderFields) (d : Described) (r : HeaderRead img place h) → described h.messages ≡ Ok d
    → ((y : FoundMessage) → first_of layout_kind h.messages ≡ Some y → y.in_chunk_0 ≡ true) → HasLayout place r.listed h.messages
has_layout img place h d r says inside_chunk =
    let y = layout_of h.messages d says in
    let own = own_message img r.prefix.tracked layout_kind r.spliced_by place r.listed h.messages y.0 no_block_layout r.spliced y.1 (inside_chunk y.0 y.1) in
    let p = one_index_place y.0.body d.shape d.int_type d.layout y.2 in
    let same : y.0.body ≡ own.0.body = ap (λ (m : FoundMessage). m.body) (sym own.2) in
    let room : index_address_place y.0.body + 8 ≤ length y.0.body = subst (λ (n : ℕ). n + 8 ≤ length y.0.body) (sym p.written) p.inside in
    record { layout = own.0; found = own.1; room = subst (λ (b : List ℕ). index_address_place b + 8 ≤ length b) same room; first = y.1 ∙ ap Some (sym own.2) }

-- ---- Laws

ok_is : {A E : Type 0} (r : Result A E) (a : A) → r ≡ Ok a → IsOk r
ok_is r a e = rw e (search rules)

some_is : {A : Type 0} (o : Option A) (a : A) → o ≡ Some a → IsSome o
some_is o a e = rw e (search rules)

pub header_writable : HeaderWritable
header_writable img limits s place d us e =
    let p = dataset_parts img limits s place d us e in
    let r = header_read img place p.header p.read in
    let h = messages_at-ok (chunk_0 img place) r.listed r.read in
    let x = has_space img place p.header d r p.says in
    record {
      read = ok_is (messages_at (chunk_0 img place)) r.listed r.read;
      rows = some_is (rows_in_header (chunk_0 img place)) _ (rows_place_is (chunk_0 img place) h.0 r.listed x.space h.1.header r.read x.found ∙ rows_there h.0 x.space x.long);
      index = λ own.
          let y = has_layout img place p.header d r p.says (λ y is. own p.header y p.read is) in
          some_is (index_in_header (chunk_0 img place)) _
          (index_place_is (chunk_0 img place) h.0 r.listed h.1.header r.read
          ∙ ap (λ o. option_and_then index_in_data (option_map (the_data h.0) o)) y.found
          ∙ index_there h.0 y.layout y.room);
    }

own_change : (kind place k v : ℕ) → continuation_kind ≢ kind → IsOwnChange (replaced kind place k v)
own_change kind place k v differ = record {
  kind = λ m. (replaced_keeps kind place k v m).kind;
  block = λ m e. replaced_kind kind place k v m (λ g. differ (sym e ∙ g));
  outside = λ m o. replaced_outside kind place k v m o;
  own = λ m. replaced_own kind place k v m;
}

-- a changed message stands where it stood
layout_stays : (img new : List ℕ) (place : ℕ) (h : HeaderFields) (f : FoundMessage → FoundMessage) → KeepsKinds f → IsOwnChange f → eval img (dataset_messages place (chunk_0 img place)) ≡ Ok h
    → eval new (dataset_messages place (chunk_0 new place)) ≡ Ok (with_messages f h) → LayoutInChunk0 img place → LayoutInChunk0 new place
layout_stays img new place h f keeps own read then_read stood k y is found =
    let e : with_messages f h ≡ k = same_header (with_messages f h) k (sym then_read ∙ is) in
    go (first_of layout_kind h.messages) refl (sym (first_map f layout_kind h.messages keeps) ∙ ap (λ (x : HeaderFields). first_of layout_kind x.messages) e ∙ found)
  where
    go : (o : Option FoundMessage) → first_of layout_kind h.messages ≡ o → option_map f o ≡ Some y → y.in_chunk_0 ≡ true
    go None e m = absurd cc
    go (Some x) e m = ap (λ (z : FoundMessage). z.in_chunk_0) (sym (some_found (f x) y m)) ∙ own.own x ∙ stood h x read e

pub layout_missed : LayoutMissed
layout_missed w img limits s place d us e fits misses stood k y is found =
    let b = chunk_0 img place in
    let p = dataset_parts img limits s place d us e in
    let l = dataset_looks img place p.header p.read in
    let all : us ≡ block_at place l.prefix.total ∷ used_of l.blocks = p.ranges ∙ ap (λ (rs : List Range). used_of rs) l.ranges in
    let ends : AllEndBy s.end (block_at place l.prefix.total ∷ used_of l.blocks) = subst (λ (xs : List Used). AllEndBy s.end xs) all p.ends in
    let off : MissesBlocks w (block_at place l.prefix.total ∷ used_of l.blocks) = subst (λ (xs : List Used). MissesBlocks w xs) all misses in
    let last = ends (block_at place l.prefix.total) (inl refl) in
    let view : chunk_0 (apply w img) place ≡ b = view_missed w img place l.prefix (off (block_at place l.prefix.total) (inl refl) refl) (omega arith) l.says l.short in
    let same : Same img (apply w img) (visits img (dataset_messages place b)) =
    subst (λ vs. Same img (apply w img) vs) (sym l.looks)
    (missed_stay w img s.end (used_of l.blocks) (looks_of l.blocks) fits (λ u a. ends u (inr a)) (within_looks l.blocks) (λ u a. off u (inr a))) in
    stood k y (sym (same_eval img (apply w img) (dataset_messages place b) same) ∙ ap (λ x. eval (apply w img) (dataset_messages place x)) (sym view) ∙ is) found

same_chunk : (old new piece : List ℕ) (address : ℕ) → new ≡ piece → SameHeader old piece address → SameHeader old new address
same_chunk old new piece address e h = subst (λ (x : List ℕ). SameHeader old x address) (sym e) h

pub rows_committed : RowsCommitted
rows_committed img limits s place d us rows e fits apart small few =
    let b = chunk_0 img place in
    let p = dataset_parts img limits s place d us e in
    let r = header_read img place p.header p.read in
    let x = has_space img place p.header d r p.says in
    let written = rows_written b r.listed x.space rows r.read x.found x.long in
    let f = replaced dataspace_kind (place + x.space.at) 4 rows in
    let says = described_rows p.header.messages d (in_image place x.space) rows p.says x.first refl small in
    let is = rewritten img limits s place d (with_rows rows d) us (with_rows_bytes b rows None) (with_rows_in x.space rows r.listed) f p r fits apart written.committed
    (own_change dataspace_kind (place + x.space.at) 4 rows no_block_space) (sym (replaced_all place dataspace_kind x.space.at 4 rows r.listed)) says few in
    record {
      continued = is.continued;
      ranges = is.ranges;
      some = is.some;
      short = is.short;
      header = is.header;
      now = is.now;
      same = same_chunk b (chunk_0 (apply (commit_at img place rows None) img) place) (with_rows_bytes b rows None) d.layout.address is.now (written.same d.layout.address (r.long ∙ sym r.exact));
      described = record { rows_alone = refl; address = λ u. refl };
      layout = layout_stays img (apply (commit_at img place rows None) img) place p.header f (replaced_keeps dataspace_kind (place + x.space.at) 4 rows)
          (own_change dataspace_kind (place + x.space.at) 4 rows no_block_space) p.read is.read;
    }

map_twice : (f g : FoundMessage → FoundMessage) (ms : List FoundMessage) → map f (map g ms) ≡ map (λ m. f (g m)) ms
map_twice f g [] = refl
map_twice f g (m ∷ ms) = ap (λ xs. f (g m) ∷ xs) (map_twice f g ms)

both_own : (f g : FoundMessage → FoundMessage) → IsOwnChange f → IsOwnChange g → IsOwnChange (λ m. f (g m))
both_own f g a b = record {
  kind = λ m. a.kind (g m) ∙ b.kind m;
  block = λ m e. ap f (b.block m e) ∙ a.block m e;
  outside = λ m o. ap f (b.outside m o) ∙ a.outside m o;
  own = λ m. a.own (g m) ∙ b.own m;
}

both_keep : (f g : FoundMessage → FoundMessage) → KeepsKinds f → KeepsKinds g → KeepsKinds (λ m. f (g m))
both_keep f g a b m = record { kind = (a (g m)).kind ∙ (b m).kind; flags = (a (g m)).flags ∙ (b m).flags }

pub index_committed : IndexCommitted
index_committed img limits s place d us rows index e fits apart none own small_rows small few =
    let b = chunk_0 img place in
    let p = dataset_parts img limits s place d us e in
    let r = header_read img place p.header p.read in
    let x = has_space img place p.header d r p.says in
    let y = has_layout img place p.header d r p.says (λ y is. own p.header y p.read is) in
    let k = index_address_place y.layout.body in
    let written = index_written b r.listed x.space y.layout rows index r.read x.found x.long y.found y.room in
    let f = replaced dataspace_kind (place + x.space.at) 4 rows in
    let g = replaced layout_kind (place + y.layout.at) k index in
    let one = described_rows p.header.messages d (in_image place x.space) rows p.says x.first refl small_rows in
    let later : first_of layout_kind (map f p.header.messages) ≡ Some (in_image place y.layout) =
    first_other dataspace_kind (place + x.space.at) 4 rows layout_kind p.header.messages (λ e. absurd (omega arith)) ∙ y.first in
    let two = described_index (map f p.header.messages) (with_rows rows d) (in_image place y.layout) index one later refl small in
    let says : described (map (λ m. g (f m)) p.header.messages) ≡ Ok (with_index index (with_rows rows d)) = ap described (sym (map_twice g f p.header.messages)) ∙ two in
    let ns = with_index_in y.layout index (with_rows_in x.space rows r.listed) in
    let changed : found_at place true ns ≡ map (λ m. g (f m)) (found_at place true r.listed) =
    sym (replaced_all place layout_kind y.layout.at k index (with_rows_in x.space rows r.listed))
    ∙ ap (map g) (sym (replaced_all place dataspace_kind x.space.at 4 rows r.listed))
    ∙ map_twice g f (found_at place true r.listed) in
    let is = rewritten img limits s place d (with_index index (with_rows rows d)) us (with_rows_bytes b rows (Some index)) ns (λ m. g (f m)) p r fits apart written.committed
    (both_own g f (own_change layout_kind (place + y.layout.at) k index no_block_layout) (own_change dataspace_kind (place + x.space.at) 4 rows no_block_space)) changed says few in
    record {
      continued = is.continued;
      ranges = is.ranges;
      some = is.some;
      short = is.short;
      header = is.header;
      now = is.now;
      same = same_chunk b (chunk_0 (apply (commit_at img place rows (Some index)) img) place) (with_rows_bytes b rows (Some index)) d.layout.address is.now
          (subst (λ a. SameHeader b (with_rows_bytes b rows (Some index)) a) (sym none) (written.same (r.long ∙ sym r.exact)));
      described = record { rows_alone = refl; address = λ u. absurd (u none) };
      layout = layout_stays img (apply (commit_at img place rows (Some index)) img) place p.header (λ m. g (f m))
          (both_keep g f (replaced_keeps layout_kind (place + y.layout.at) k index) (replaced_keeps dataspace_kind (place + x.space.at) 4 rows))
          (both_own g f (own_change layout_kind (place + y.layout.at) k index no_block_layout) (own_change dataspace_kind (place + x.space.at) 4 rows no_block_space)) p.read is.read;
    }

-- ---- A file at a moment

header_apart : (img name : List ℕ) (m : Moment) → Represents img name m → Disjoint m.header
header_apart img name m r = disjoint_left m.header (m.fixed ++ m.behind) (disjoint_right m.root (m.header ++ (m.fixed ++ m.behind)) r.apart.2)

commits_from : (img : List ℕ) (m : Moment) (piece : List ℕ) (d : Described) → IsWritten img format_limits m.super m.place m.header (record { at = m.place; piece = piece }) m.dataset d
    → HeaderCommits img m (record { at = m.place; piece = piece }) d
commits_from img m piece d is = record {
  inside = record { first = block_at m.place (length piece); continued = is.continued; header_is = is.ranges; from = omega arith; to = omega arith };
  some = is.some;
  short = is.short;
  header = is.header;
  now = is.now;
  chunk_0 = is.same;
  described = is.described;
  layout = is.layout;
}

pub growing_header : GrowingHeader
growing_header img name m rows r small few =
    commits_from img m (with_rows_bytes (chunk_0 img m.place) rows None) (with_rows rows m.dataset)
    (rows_committed img format_limits m.super m.place m.dataset m.header rows r.header (inside img name m r) (header_apart img name m r) small few)

pub starting_header : StartingHeader
starting_header img name m rows index r none own small_rows small few =
    commits_from img m (with_rows_bytes (chunk_0 img m.place) rows (Some index)) (with_index index (with_rows rows m.dataset))
    (index_committed img format_limits m.super m.place m.dataset m.header rows index r.header (inside img name m r) (header_apart img name m r) none own small_rows small few)
