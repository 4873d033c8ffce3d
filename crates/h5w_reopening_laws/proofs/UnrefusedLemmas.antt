-- What nothing refuses, and what that says of a file at a moment.
use Rattle.std.proofs.Common.{◌≡◌, ℕ, ◌^◌, ◌<◌, ◌≤◌, Bool, true, false, cond, not, ◌&&◌, List, length, Option, Some, None, Result, Ok, Err, refl, ap, sym, ◌∙◌, subst, arith}
use Rattle.std.specs.Prelude.{◌==◌, nat_lt}
use Rattle.std.specs.Option.{option_or}
use Rattle.std.proofs.lemmas.Bool.{eq-eqb, eqb-false, ltb-false}
use Rattle.h5w_model.specs.Numbers.{range, undefined}
use Rattle.h5w_model.specs.Programs.{eval}
use Rattle.h5w_model.specs.Datasets.{Described, FoundMessage, HeaderFields, dataset_messages, described, first_of, layout_kind, linked, root_header}
use Rattle.h5w_model.specs.Superblock.{super_at}
use Rattle.h5w_model.specs.Tables.{format_limits}
use Rattle.h5w_model.specs.Headers.{header_view}
use Rattle.h5w_model.specs.Findings.{chunk_bytes}
use Rattle.h5w_model.specs.Prefixed.{root_address}
use Rattle.h5w_model.specs.declared.root.Super.{Super}
use Rattle.h5w_step_laws.specs.Moments.{Moment, Represents, reading_of}
use Rattle.h5w_step_laws.proofs.MomentLemmas.{root_at, super_parts}
use Rattle.h5w_step_laws.proofs.HeaderLaws.{DatasetParts, RootParts, dataset_parts, root_parts}
use Rattle.h5w_step_laws.specs.Files.{LayoutInChunk0, chunk_0}
use Rattle.h5w_headers.specs.Walks.{dataset_header_for, root_header_for}
use Rattle.h5w_opening.specs.Openings.{Opened, looked_for, most_chunk_bytes, refused_dataset}
use Rattle.h5w_opening.specs.declared.error.OpenError.{OpenError}
use Rattle.h5w_opening.specs.declared.error.OpenError.TheVariants.{ChunkBytes, Layout, NoColumns}
use Rattle.h5w_opening.proofs.FoundParts.{Parts, parts}
use Rattle.h5w_opening.proofs.WritingLemmas.{alike_ok, dataset_alike, root_alike}
use Rattle.h5w_index.specs.Views.{IndexView}
use Rattle.h5w_writer_open.specs.declared.index.NoIndex.{NoIndex}
use Rattle.h5w_writer_open.specs.declared.index.NoIndex.TheVariants.{Unnamed, Empty, WrongTotals, Unordered}
use Rattle.h5w_writer_open.specs.OpenAnswers.{IsIndexOf, IsNotOpened, damaged, refused, unfound}
use Rattle.h5w_writer_open.specs.OpenRanges.{ranges_refused, refused_index, refused_open}
use Rattle.h5w_writer_open.proofs.OverFile.{has_parts}
use Rattle.h5w_writer_open.proofs.LeftLemmas.{never_unordered, never_wrong, no_bad, no_range}
use Rattle.h5w_writable_laws.specs.Writable.{CanBeWritten}

-- ---- What was found can be written

pub same_answer : {A E : Type 0} (r : Result A E) (a b : A) → r ≡ Ok a → r ≡ Ok b → a ≡ b
same_answer r a b h g = let e = sym h ∙ g in cc

-- a dataset that is not refused: its layout stands in chunk 0 where it names no index, its chunks are not too large, and there are columns
record IsTaken (o : Opened) : Type 0 where
  in_front : o.header.dataset.layout.address ≡ undefined → o.header.in_chunk_0 ≡ true
  small : chunk_bytes o.header.dataset ≤ most_chunk_bytes
  columns : 0 < o.header.dataset.shape.cols

both_ways : {X : Type 0} (t : Bool) → t ≡ false → t ≡ true → X
both_ways t f g = let e = sym f ∙ g in absurd cc

taken : (o : Opened) → refused_dataset o ≡ None → IsTaken o
taken o = by (at == undefined) o.header.in_chunk_0 (nat_lt most_chunk_bytes bytes) (o.header.dataset.shape.cols == 0) refl refl refl refl
  where
    at : ℕ
    at = o.header.dataset.layout.address

    bytes : ℕ
    bytes = chunk_bytes o.header.dataset

    some : (o.header.dataset.shape.cols == 0) ≡ false → 0 < o.header.dataset.shape.cols
    some e = let ne = eqb-false o.header.dataset.shape.cols 0 e in omega arith

    by : (unnamed front large none : Bool) → (at == undefined) ≡ unnamed → o.header.in_chunk_0 ≡ front → nat_lt most_chunk_bytes bytes ≡ large → (o.header.dataset.shape.cols == 0) ≡ none
        → cond (unnamed && not front) (Some Layout) (cond large (Some (ChunkBytes bytes most_chunk_bytes)) (cond none (Some NoColumns) None)) ≡ None → IsTaken o
    by true false large none u f l n e = cc
    by true true true none u f l n e = cc
    by true true false true u f l n e = cc
    by true true false false u f l n e = record { in_front = λ unnamed. f; small = ltb-false most_chunk_bytes bytes l; columns = some n }
    by false front true none u f l n e = cc
    by false front false true u f l n e = cc
    by false front false false u f l n e = record { in_front = λ unnamed. both_ways (at == undefined) u (eq-eqb at undefined unnamed); small = ltb-false most_chunk_bytes bytes l; columns = some n }

none_both : (r s : Option OpenError) → option_or r s ≡ None → (r ≡ None) × (s ≡ None)
none_both None s h = (refl, h)
none_both (Some e) s h = absurd cc

-- where nothing refuses a file, its dataset is not refused
pub dataset_taken : (o : Opened) (a : Result IndexView NoIndex) → refused_open o a ≡ None → refused_dataset o ≡ None
dataset_taken o a h = (none_both (refused_dataset o) (refused_index o.header.dataset a) (none_both (ranges_refused o a) (option_or (refused_dataset o) (refused_index o.header.dataset a)) h).1).0

module _ (img name : List ℕ) (size : ℕ) (o : Opened) (m : Moment) (is : eval img (looked_for size name) ≡ Ok o) (file : Represents img name m) where
  abbrev found : Parts img size name o
  found = parts img size name o is

  abbrev rooted : RootParts img name m.super m.place file.root.own
  rooted = root_parts img name m.super m.place file.root.own file.root.checked

  abbrev sized : DatasetParts img format_limits m.super m.place m.dataset m.header
  sized = dataset_parts img format_limits m.super m.place m.dataset m.header file.header

  super_same : m.super ≡ o.root
  super_same = same_answer (super_at (range img 0 48)) m.super o.root (super_parts (length img) (range img 0 48) m.super file.super).read found.super

  root_same : rooted.header ≡ found.root
  root_same =
      let read = alike_ok (eval img (root_header o.root.root)) (eval img (root_header_for true o.root.root)) found.root (root_alike img o.root.root) found.root_read in
      same_answer (eval img (root_header o.root.root)) rooted.header found.root (subst (λ (s : Super). eval img (root_header s.root) ≡ Ok rooted.header) super_same rooted.read) read

  place_same : m.place ≡ o.place
  place_same = same_answer (linked name found.root.messages) m.place o.place (subst (λ (h : HeaderFields). linked name h.messages ≡ Ok m.place) root_same rooted.link) found.link

  -- what is looked at of the header is what is read of it
  header_there : eval img (dataset_header_for true m.place) ≡ Ok found.header
  header_there = ap (λ a. eval img (dataset_header_for true a)) place_same ∙ found.header_read

  header_read : eval img (dataset_messages m.place (chunk_0 img m.place)) ≡ Ok found.header
  header_read = alike_ok (eval img (dataset_messages m.place (header_view (range img m.place 512)))) (eval img (dataset_header_for true m.place)) found.header (dataset_alike img m.place) header_there

  header_same : sized.header ≡ found.header
  header_same = same_answer (eval img (dataset_messages m.place (chunk_0 img m.place))) sized.header found.header sized.read header_read

  dataset_same : m.dataset ≡ o.header.dataset
  dataset_same = same_answer (described found.header.messages) m.dataset o.header.dataset (subst (λ (h : HeaderFields). described h.messages ≡ Ok m.dataset) header_same sized.says) found.says

  layout_here : refused_dataset o ≡ None → m.dataset.layout.address ≡ undefined → LayoutInChunk0 img m.place
  layout_here unrefused none h y read first =
      let chosen : Option FoundMessage → Bool = λ x. elim x [ Some f ↦ f.in_chunk_0 | None ↦ false ] in
      let inside : o.header.in_chunk_0 ≡ true = (taken o unrefused).in_front (sym (ap (λ (d : Described). d.layout.address) dataset_same) ∙ none) in
      let same : h ≡ found.header = same_answer (eval img (dataset_messages m.place (chunk_0 img m.place))) h found.header read header_read in
      let at : first_of layout_kind found.header.messages ≡ Some y = ap (λ (g : HeaderFields). first_of layout_kind g.messages) (sym same) ∙ first in
      sym (ap chosen at) ∙ sym found.in_chunk ∙ inside

  pub found_writable : refused_dataset o ≡ None → CanBeWritten img (reading_of m)
  found_writable unrefused =
      let root : root_address img ≡ o.root.root = root_at img name m file ∙ ap (λ (s : Super). s.root) super_same in
      record {
        root = (found.root, ap (λ a. eval img (root_header_for true a)) root ∙ found.root_read);
        header = (found.header, header_there);
        layout = layout_here unrefused;
      }

  pub found_small : refused_dataset o ≡ None → chunk_bytes m.dataset ≤ most_chunk_bytes
  found_small unrefused = subst (λ (d : Described). chunk_bytes d ≤ most_chunk_bytes) (sym dataset_same) (taken o unrefused).small

-- ---- Nothing refuses it

module _ (img name : List ℕ) (o : Opened) (m : Moment) (is : eval img (looked_for (length img) name) ≡ Ok o) (unrefused : refused_dataset o ≡ None) (file : Represents img name m) (short : length img < 2 ^ 64) where
  no_index : (p : Opened) (a : Result IndexView NoIndex) (e : OpenError) → eval img (looked_for (length img) name) ≡ Ok p → IsIndexOf img p.header.dataset a → refused_index p.header.dataset a ≡ Some e → ⊥
  no_index p (Ok v) e at x h = absurd cc
  no_index p (Err Unnamed) e at x h = absurd cc
  no_index p (Err Empty) e at x h = absurd cc
  no_index p (Err WrongTotals) e at x h = never_wrong img name p m (has_parts img name (length img) p at) file short x
  no_index p (Err Unordered) e at x h = never_unordered img name p m (has_parts img name (length img) p at) file short x

  pub never_refused : (e : OpenError) → IsNotOpened img (length img) name e → ⊥
  never_refused e (unfound f g) = let clash : ◌≡◌ {A = Result Opened OpenError} (Ok o) (Err f) = sym is ∙ g in absurd cc
  never_refused e (damaged p at f there bad) = no_bad img name p m (has_parts img name (length img) p there) file short at f bad
  never_refused e (refused p a f at x h) =
      let one : p ≡ o = same_answer (eval img (looked_for (length img) name)) p o at is in
      let none : refused_dataset p ≡ None = ap refused_dataset one ∙ unrefused in
      let ranges : ranges_refused p a ≡ None = no_range img name p m (has_parts img name (length img) p at) file short a x in
      let index : refused_index p.header.dataset a ≡ Some f =
      sym (ap (λ r. option_or r (refused_index p.header.dataset a)) none) ∙ sym (ap (λ r. option_or r (option_or (refused_dataset p) (refused_index p.header.dataset a))) ranges) ∙ h in
      no_index p a f at x index
