-- A file that can be written can be written behind each step that keeps what readers rest on.
use Rattle.std.proofs.Common.{◌≡◌, ℕ, true, List, Ok, ap, sym, ◌∙◌, subst, inl, inr, append-nil}
use Rattle.std.proofs.lemmas.Bool.Decides.{eqb_tells}
use Rattle.h5w_model.specs.Numbers.{range, undefined}
use Rattle.h5w_model.specs.Programs.{eval, ret, visits, Same}
use Rattle.h5w_model.specs.Headers.{header_view}
use Rattle.h5w_model.specs.Datasets.{HeaderFields, dataset_from, dataset_messages, described, first_of, layout_kind, refused_as, root_header}
use Rattle.h5w_model.specs.Prefixed.{Stays, root_address}
use Rattle.h5w_model.specs.Tables.{format_limits}
use Rattle.h5w_model.specs.declared.refusal.ReadError.TheVariants as read_errors
use Rattle.h5w_step_laws.proofs.HeaderLaws.{DatasetParts, dataset_parts}
use Rattle.h5w_step_laws.proofs.HeaderVisits.{same_header}
use Rattle.h5w_step_laws.proofs.VisitTells.{visits_next}
use Rattle.h5w_step_laws.specs.Moments.{Moment, Represents, reading_of}
use Rattle.h5w_step_laws.specs.Files.{LayoutInChunk0, chunk_0}
use Rattle.h5w_step_laws.proofs.ImageLemmas.{HeaderRead, header_read}
use Rattle.h5w_headers.specs.Walks.{dataset_header_for, root_header_for}
use Rattle.h5w_opening.proofs.WritingLemmas.{alike_ok, dataset_alike, root_alike}
use Rattle.h5w_writable_laws.specs.Writable.{CanBeWritten, WritableStays}
use Rattle.h5w_writable_laws.proofs.KeptHeaders.{dataset_kept}
use Rattle.h5w_writable_laws.proofs.KeptWalks.{Kept, first_alike, root_kept}

module _ (img new name : List ℕ) (m n : Moment) (r : Represents img name m) (s : Represents new name n) (stays : Stays img (reading_of m) new (reading_of n)) (w : CanBeWritten img (reading_of m)) where
  abbrev root : ℕ
  root = root_address img

  root_stays : (h : HeaderFields) × (eval new (root_header_for true (root_address new)) ≡ Ok h)
  root_stays =
      let read : eval img (root_header root) ≡ Ok w.root.0 = alike_ok (eval img (root_header root)) (eval img (root_header_for true root)) w.root.0 (root_alike img root) w.root.1 in
      let k = root_kept img new root w.root.0 read w.root.1 stays.root_header in
      (k.0, ap (λ a. eval new (root_header_for true a)) stays.root ∙ k.1)

  abbrev place : ℕ
  place = m.place

  -- what is looked at of a header is what is read of it
  read_so : (i : List ℕ) (h : HeaderFields) → eval i (dataset_header_for true place) ≡ Ok h → eval i (dataset_messages place (chunk_0 i place)) ≡ Ok h
  read_so i h e = alike_ok (eval i (dataset_messages place (header_view (range i place 512)))) (eval i (dataset_header_for true place)) h (dataset_alike i place) e

  abbrev old : HeaderFields
  old = w.header.0

  old_read : HeaderRead img place old
  old_read = header_read img place old (read_so img old w.header.1)

  abbrev sized : DatasetParts new format_limits n.super n.place n.dataset n.header
  sized = dataset_parts new format_limits n.super n.place n.dataset n.header s.header

  new_read : HeaderRead new place sized.header
  new_read = header_read new place sized.header (subst (λ a. eval new (dataset_messages a (chunk_0 new a)) ≡ Ok sized.header) stays.place sized.read)

  looks : Same img new (visits img (dataset_messages place (chunk_0 img place)))
  looks =
      let b = chunk_0 img place in
      let seen : visits img (dataset_from place b) ≡ visits img (dataset_messages place b) =
      visits_next img (dataset_messages place b) (λ h. ret (refused_as read_errors.Unsupported (described h.messages))) old (read_so img old w.header.1) ∙ append-nil (visits img (dataset_messages place b)) in
      subst (λ vs. Same img new vs) seen stays.continuations

  kept : Kept new (dataset_header_for true place) old
  kept = dataset_kept img new place m.dataset.layout.address old sized.header old_read new_read w.header.1 stays.chunk_0 looks

  -- an address that is undefined was so
  none_before : n.dataset.layout.address ≡ undefined → m.dataset.layout.address ≡ undefined
  none_before none = elim (eqb_tells m.dataset.layout.address undefined) [
    | inl t ↦ t.1
    | inr t ↦ absurd (t.1 (sym (stays.described.address t.1) ∙ none))
  ]

  layout_stays : n.dataset.layout.address ≡ undefined → LayoutInChunk0 new place
  layout_stays none h y is found =
      let one : h ≡ kept.0 = same_header h kept.0 (sym is ∙ read_so new kept.0 kept.1) in
      let x = first_alike layout_kind old.messages kept.0.messages y kept.2 (ap (λ (z : HeaderFields). first_of layout_kind z.messages) (sym one) ∙ found) in
      x.2 ∙ w.layout (none_before none) old x.0 (read_so img old w.header.1) x.1

  all_stays : CanBeWritten new (reading_of n)
  all_stays = record {
    root = root_stays;
    header = (kept.0, subst (λ a. eval new (dataset_header_for true a) ≡ Ok kept.0) (sym stays.place) kept.1);
    layout = λ none. subst (λ a. LayoutInChunk0 new a) (sym stays.place) (layout_stays none);
  }

pub writable_stays : WritableStays
writable_stays img new name m n r s stays w = all_stays img new name m n r s stays w
