-- A file that can be written is found by who opens it, and its dataset is not refused.
use Rattle.std.proofs.Common.{◌≡◌, ℕ, ◌<◌, ◌≤◌, Bool, true, false, cond, not, ◌&&◌, List, length, Option, Some, None, Result, Ok, Err, refl, ap, sym, ◌∙◌, inl, inr, arith}
use Rattle.std.specs.Prelude.{◌==◌, nat_lt}
use Rattle.std.proofs.lemmas.Bool.{cases_Bool, eqb-true, le-ltb, ne_eqb}
use Rattle.h5w_model.specs.Numbers.{range, undefined}
use Rattle.h5w_model.specs.Programs.{eval}
use Rattle.h5w_model.specs.Headers.{header_view}
use Rattle.h5w_model.specs.Datasets.{FoundMessage, HeaderFields, dataset_messages, described, linked, refused_as, root_header, super_refusal}
use Rattle.h5w_model.specs.Superblock.{super_at}
use Rattle.h5w_model.specs.Findings.{chunk_bytes}
use Rattle.h5w_model.specs.Tables.{format_limits, limit_of, needed}
use Rattle.h5w_model.specs.declared.root.Super.{Super}
use Rattle.h5w_model.specs.declared.refusal.ReadError.TheVariants as read_errors
use Rattle.h5w_step_laws.proofs.HeaderLaws.{DatasetParts, RootParts, dataset_parts, root_parts}
use Rattle.h5w_step_laws.specs.Moments.{Moment, Represents, reading_of}
use Rattle.h5w_step_laws.proofs.MomentLemmas.{root_at, super_parts}
use Rattle.h5w_step_laws.proofs.HeaderDescribedLemmas.{layout_of}
use Rattle.h5w_headers.specs.Walks.{dataset_header_for, root_header_for}
use Rattle.h5w_headers.proofs.RanLemmas.{step_ok}
use Rattle.h5w_opening.specs.Openings.{DatasetHeaderFields, Opened, chunk_0_len, closed_super, dataset_found, in_chunk_0, is_open, known, looked_for, most_chunk_bytes, place_found, refused_dataset, super_found}
use Rattle.h5w_opening.specs.declared.error.OpenError.{OpenError}
use Rattle.h5w_opening.specs.declared.error.OpenError.TheVariants.{ChunkBytes, Cut, Flags, Layout, NoColumns, Read, Version}
use Rattle.h5w_opening.proofs.OpeningLemmas.{behind_place, behind_super, opened_by, opening_gives}
use Rattle.h5w_opening.proofs.WritingLemmas.{alike_ok, dataset_alike, root_alike}
use Rattle.h5w_writable_laws.specs.Writable.{CanBeWritten, IsFoundSo, WritableFound}

same_ok : {A E : Type 0} (r : Result A E) (a b : A) → r ≡ Ok a → r ≡ Ok b → a ≡ b
same_ok r a b h g = let e = sym h ∙ g in cc

module _ (img name : List ℕ) (m : Moment) (file : Represents img name m) (w : CanBeWritten img (reading_of m)) where
  abbrev s : Super
  s = m.super

  abbrev size : ℕ
  size = length img

  rooted : RootParts img name s m.place file.root.own
  rooted = root_parts img name s m.place file.root.own file.root.checked

  sized : DatasetParts img format_limits s m.place m.dataset m.header
  sized = dataset_parts img format_limits s m.place m.dataset m.header file.header

  root_read : eval img (root_header_for true s.root) ≡ Ok rooted.header
  root_read =
      let h : HeaderFields = w.root.0 in
      let e : eval img (root_header_for true s.root) ≡ Ok h = ap (λ a. eval img (root_header_for true a)) (sym (root_at img name m file)) ∙ w.root.1 in
      let one : h ≡ rooted.header = same_ok (eval img (root_header s.root)) h rooted.header (alike_ok (eval img (root_header s.root)) (eval img (root_header_for true s.root)) h (root_alike img s.root) e) rooted.read in
      e ∙ ap (λ (x : HeaderFields). Ok x) one

  header_read : eval img (dataset_header_for true m.place) ≡ Ok sized.header
  header_read =
      let h : HeaderFields = w.header.0 in
      let read = eval img (dataset_messages m.place (header_view (range img m.place 512))) in
      let one : h ≡ sized.header = same_ok read h sized.header (alike_ok read (eval img (dataset_header_for true m.place)) h (dataset_alike img m.place) w.header.1) sized.read in
      w.header.1 ∙ ap (λ (x : HeaderFields). Ok x) one

  abbrev said : DatasetHeaderFields
  said = record { len = chunk_0_len sized.header.ranges; dataset = m.dataset; in_chunk_0 = in_chunk_0 sized.header.messages }

  abbrev opened : Opened
  opened = record { root = s; place = m.place; header = said }

  said_known : known (chunk_0_len sized.header.ranges) sized.header.messages ≡ Ok said
  said_known =
      step_ok (refused_as (λ e. Read (read_errors.Unsupported e)) (described sized.header.messages)) m.dataset _ (ap (refused_as (λ e. Read (read_errors.Unsupported e))) sized.says)
      ∙ ap (λ c. cond c (Err (Read (read_errors.TooManyChunks (needed m.dataset) (limit_of format_limits m.dataset.layout.index)))) (Ok said)) sized.within

  -- what is answered of a superblock of version 3
  abbrev by_flags : Bool → Result Super OpenError
  by_flags c = cond c (Err (Flags s.flags)) (cond (nat_lt size s.end) (Err (Cut s.end size)) (Ok s))

  abbrev by_version : Bool → Result Super OpenError
  by_version c = cond c (Err (Version 2)) (by_flags (is_open s.flags))

  abbrev by_end : Bool → Result Super OpenError
  by_end c = cond c (Err (Cut s.end size)) (Ok s)

  super_there : (s.version == 2) ≡ false → is_open s.flags ≡ false → super_found size img ≡ Ok s
  super_there new shut =
      let p = super_parts size (range img 0 48) s file.super in
      step_ok (refused_as Read (refused_as super_refusal (super_at (range img 0 48)))) s (closed_super size) (ap (λ r. refused_as Read (refused_as super_refusal r)) p.read)
      ∙ ap by_version new ∙ ap by_flags shut ∙ ap by_end (le-ltb size s.end p.inside)

  finds : (s.version == 2) ≡ false → is_open s.flags ≡ false → eval img (looked_for size name) ≡ Ok opened
  finds new shut =
      opening_gives img name size
      ∙ step_ok (super_found size img) s (behind_super name img) (super_there new shut)
      ∙ step_ok (place_found name s.root img) m.place (behind_place s img)
      (step_ok (refused_as Read (eval img (root_header_for true s.root))) rooted.header (λ (h : HeaderFields). refused_as Read (linked name h.messages)) (ap (refused_as Read) root_read) ∙ ap (refused_as Read) rooted.link)
      ∙ step_ok (dataset_found m.place img) said (opened_by s m.place)
      (step_ok (refused_as Read (eval img (dataset_header_for true m.place))) sized.header (λ (h : HeaderFields). known (chunk_0_len h.ranges) h.messages) (ap (refused_as Read) header_read) ∙ said_known)

  -- a layout that names no index stands in chunk 0
  in_front : m.dataset.layout.address ≡ undefined → in_chunk_0 sized.header.messages ≡ true
  in_front none =
      let chosen : Option FoundMessage → Bool = λ x. elim x [ Some f ↦ f.in_chunk_0 | None ↦ false ] in
      let y = layout_of sized.header.messages m.dataset sized.says in
      ap chosen y.1 ∙ w.layout none sized.header y.0 sized.read y.1

  front : ((m.dataset.layout.address == undefined) && not (in_chunk_0 sized.header.messages)) ≡ false
  front = elim (cases_Bool (m.dataset.layout.address == undefined)) [
    | inl t ↦ let own = in_front (eqb-true m.dataset.layout.address undefined t) in λ i. t i && not (own i)
    | inr f ↦ ap (λ c. c && not (in_chunk_0 sized.header.messages)) f
  ]

  unrefused : chunk_bytes m.dataset ≤ most_chunk_bytes → 0 < m.dataset.shape.cols → refused_dataset opened ≡ None
  unrefused small some =
      let bytes = chunk_bytes m.dataset in
      let last : Option OpenError = cond (m.dataset.shape.cols == 0) (Some NoColumns) None in
      let large : Option OpenError = cond (nat_lt most_chunk_bytes bytes) (Some (ChunkBytes bytes most_chunk_bytes)) last in
      ap (λ c. cond c (Some Layout) large) front
      ∙ ap (λ c. cond c (Some (ChunkBytes bytes most_chunk_bytes)) last) (le-ltb most_chunk_bytes bytes small)
      ∙ ap (λ c. cond c (Some NoColumns) None) (ne_eqb m.dataset.shape.cols 0 (λ e. absurd (omega (arith, e, some))))

  pub is_found : (s.version == 2) ≡ false → is_open s.flags ≡ false → chunk_bytes m.dataset ≤ most_chunk_bytes → 0 < m.dataset.shape.cols → IsFoundSo img name m
  is_found new shut small some = record { found = opened; is = finds new shut; unrefused = unrefused small some; dataset = refl; root = refl }

pub writable_found : WritableFound
writable_found img name m file w new shut small some = is_found img name m file w new shut small some
