-- A takeover is never refused on the image of a session.
use Rattle.std.proofs.Common.{◌≡◌, ℕ, ◌^◌, ◌<◌, ◌≤◌, Bool, true, false, cond, not, ◌&&◌, List, length, Option, Some, None, Result, Ok, Err, refl, ap, sym, ◌∙◌, subst, inl, inr, arith}
use Rattle.std.specs.Prelude.{◌==◌, nat_lt}
use Rattle.std.specs.Option.{option_or}
use Rattle.std.proofs.lemmas.Bool.{cases_Bool, eqb-true, le-ltb, ltb-false, ne_eqb}
use Rattle.h5w_model.specs.Numbers.{range, undefined}
use Rattle.h5w_model.specs.Programs.{eval}
use Rattle.h5w_model.specs.Headers.{header_view}
use Rattle.h5w_model.specs.Datasets.{Described, FoundMessage, HeaderFields, dataset_messages, described, first_of, layout_kind, linked, refused_as, root_header, super_refusal, then_also}
use Rattle.h5w_model.specs.Findings.{chunk_bytes}
use Rattle.h5w_model.specs.Logs.{Log}
use Rattle.h5w_model.specs.Prefixed.{IsPosition, image_at, root_address}
use Rattle.h5w_model.specs.Superblock.{super_at}
use Rattle.h5w_model.specs.Tables.{Shows, format_limits, limit_of, needed}
use Rattle.h5w_model.specs.declared.root.Super.{Super}
use Rattle.h5w_model.specs.declared.refusal.ReadError.TheVariants as read_errors
use Rattle.h5w_laws.proofs.ResultLemmas.{then_ok}
use Rattle.h5w_step_laws.proofs.HeaderLaws.{DatasetParts, RootParts, dataset_parts, root_parts}
use Rattle.h5w_step_laws.specs.Moments.{Moment, Represents, reading_of}
use Rattle.h5w_step_laws.proofs.FoundLemmas.{moment_shows, opens}
use Rattle.h5w_step_laws.proofs.MomentLemmas.{root_at, super_parts}
use Rattle.h5w_step_laws.specs.Files.{LayoutInChunk0, chunk_0}
use Rattle.h5w_step_laws.proofs.HeaderDescribedLemmas.{layout_of}
use Rattle.h5w_creation_laws.specs.CreatedFiles.{created_blocks}
use Rattle.h5w_index.specs.Views.{IndexView}
use Rattle.h5w_headers.specs.Walks.{dataset_header_for, root_header_for}
use Rattle.h5w_headers.proofs.RanLemmas.{same_value, step_ok}
use Rattle.h5w_opening.specs.Errors.{refusal_of}
use Rattle.h5w_opening.specs.Openings.{DatasetHeaderFields, Opened, chunk_0_len, dataset_found, in_chunk_0, is_written, known, most_chunk_bytes, place_found, refused_dataset, super_by, written_super}
use Rattle.h5w_opening.specs.declared.error.OpenError.{OpenError}
use Rattle.h5w_opening.specs.declared.error.OpenError.TheVariants.{ChunkBytes, Cut, Flags, Layout, NoColumns, Read, Version}
use Rattle.h5w_opening.proofs.FoundParts.{header_found_by}
use Rattle.h5w_opening.proofs.WritingLemmas.{alike_ok, dataset_alike, root_alike}
use Rattle.h5w_writer.specs.Past.{HasOpened, IsNew}
use Rattle.h5w_writer.specs.Sessions.{Session}
use Rattle.h5w_writer.specs.Stands.{Stands}
use Rattle.h5w_writer.proofs.LawLemmas.{standing_laws}
use Rattle.h5w_writer.proofs.PastLemmas.{some_blocks}
use Rattle.h5w_writer_open.specs.declared.index.NoIndex.{NoIndex}
use Rattle.h5w_writer_open.specs.declared.index.NoIndex.TheVariants.{Unnamed, Empty, WrongTotals, Unordered}
use Rattle.h5w_writer_open.specs.OpenAnswers.{IfRefusal, IsIndexOf}
use Rattle.h5w_writer_open.specs.OpenParts.{opened_at}
use Rattle.h5w_writer_open.specs.OpenRanges.{ranges_refused, refused_index}
use Rattle.h5w_writer_open.proofs.LeftLemmas.{never_unordered, never_wrong, no_bad, no_range}
use Rattle.h5w_writer_open.proofs.OverFile.{HasParts, checked, dataset_same, has_parts, header_same, place_same, same_answer, super_same}
use Rattle.h5w_writer_open.proofs.SessionOver.{in_chunk}
use Rattle.h5w_writable_laws.specs.Writable.{CanBeWritten}
use Rattle.h5w_several_open.specs.Beginnings.{HadFlags, IsNotBegun, found_by, is_damaged, is_refused, not_found, taken_over, written_at, written_found}
use Rattle.h5w_several_open.specs.declared.beginning.Beginning.{Beginning}
use Rattle.h5w_several_open.specs.declared.beginning.Beginning.TheVariants as beginnings
use Rattle.h5w_several_open.proofs.AloneLemmas.{with_root, written_at_tells}
use Rattle.h5w_reopening_laws.proofs.SinceLemmas.{IsAt, IsWritten, file_at, onward, written_at as opened_written}
use Rattle.h5w_several_open.proofs.BeginningLemmas.{was_opened}
use Rattle.h5w_reopening_laws.proofs.StopLemmas.{opened_is_writable, reopens}
use Rattle.h5w_reopening_laws.proofs.UnrefusedLemmas.{dataset_taken}
use Rattle.h5w_front_laws.specs.Fronts.{SaysWritten}
use Rattle.h5w_takeover_laws.specs.Refused.{AnswersSession, BegunReopens, IsBegunFile, IsLeftOpen, NeverRefused, TakenIsBegun}

-- ---- What was found

abbrev opened_from : Super × ℕ → DatasetHeaderFields → Result Opened OpenError
opened_from x h = Ok (opened_at x.0 x.1 h)

abbrev behind_at : List ℕ → Super × ℕ → Result Opened OpenError
behind_at img x = then_also (dataset_found x.1 img) (opened_from x)

abbrev front_at : List ℕ → List ℕ → Super → Result (Super × ℕ) OpenError
front_at name img s = then_also (place_found name s.root img) (with_root s)

-- it is the file's, by whichever way
pub begun_parts : (by : Beginning) (img name : List ℕ) (size : ℕ) (o : Opened) → found_by by size name img ≡ Ok o → HasParts img name o
begun_parts beginnings.Opened img name size o is = has_parts img name size o is
begun_parts beginnings.TakenOver img name size o is =
    let t = then_ok (written_at size name img) (behind_at img) o is in
    let d = then_ok (dataset_found t.0.1 img) (opened_from t.0) o t.2 in
    let w = written_at_tells img name size t.0.0 t.0.1 t.1 in
    let h = header_found_by img t.0.1 d.0 d.1 in
    let made = opened_at t.0.0 t.0.1 d.0 in
    let same : made ≡ o = same_value {E = OpenError} made o d.2 in
    subst (HasParts img name) same
    (record { super = w.super; root = w.header; root_read = w.read; link = w.link; header = h.header; header_read = h.read; says = h.says; len = h.len; in_chunk = h.in_chunk })

-- chunks of a dataset that is not refused are not too large
small_chunks : (o : Opened) → refused_dataset o ≡ None → chunk_bytes o.header.dataset ≤ most_chunk_bytes
small_chunks o = by ((o.header.dataset.layout.address == undefined) && not o.header.in_chunk_0) (nat_lt most_chunk_bytes bytes) refl
  where
    bytes : ℕ
    bytes = chunk_bytes o.header.dataset

    last : Option OpenError
    last = cond (o.header.dataset.shape.cols == 0) (Some NoColumns) None

    by : (front large : Bool) → nat_lt most_chunk_bytes bytes ≡ large → cond front (Some Layout) (cond large (Some (ChunkBytes bytes most_chunk_bytes)) last) ≡ None → bytes ≤ most_chunk_bytes
    by true large l e = absurd cc
    by false true l e = absurd cc
    by false false l e = ltb-false most_chunk_bytes bytes l

module _ (img name : List ℕ) (o : Opened) (m : Moment) (found : HasParts img name o) (file : Represents img name m) (unrefused : refused_dataset o ≡ None) where
  layout_here : m.dataset.layout.address ≡ undefined → LayoutInChunk0 img m.place
  layout_here none h y read first =
      let here = checked img name o m found file in
      let chosen : Option FoundMessage → Bool = λ x. elim x [ Some f ↦ f.in_chunk_0 | None ↦ false ] in
      let inside : o.header.in_chunk_0 ≡ true = in_chunk o (sym (ap (λ (d : Described). d.layout.address) (dataset_same img name o m found file)) ∙ none) unrefused in
      let same : h ≡ here.header = same_answer (eval img (dataset_messages m.place (chunk_0 img m.place))) h here.header read here.read in
      let there : in_chunk_0 here.header.messages ≡ true = ap (λ (g : HeaderFields). in_chunk_0 g.messages) (header_same img name o m found file) ∙ sym found.in_chunk ∙ inside in
      let at : first_of layout_kind here.header.messages ≡ Some y = ap (λ (g : HeaderFields). first_of layout_kind g.messages) (sym same) ∙ first in
      sym (ap chosen at) ∙ there

  -- it can be written
  pub found_written : IsWritten img m
  found_written =
      let root : root_address img ≡ o.root.root = root_at img name m file ∙ ap (λ (s : Super). s.root) (super_same img name o m found file) in
      let header : eval img (dataset_header_for true m.place) ≡ Ok found.header = ap (λ a. eval img (dataset_header_for true a)) (place_same img name o m found file) ∙ found.header_read in
      let small : chunk_bytes o.header.dataset ≤ most_chunk_bytes = small_chunks o unrefused in
      record {
        can = record {
          root = (found.root, ap (λ a. eval img (root_header_for true a)) root ∙ found.root_read);
          header = (found.header, header);
          layout = layout_here;
        };
        small = subst (λ (d : Described). chunk_bytes d ≤ most_chunk_bytes) (sym (dataset_same img name o m found file)) small;
      }

-- ---- What is found where it can be written

module _ (img name : List ℕ) (m : Moment) (file : Represents img name m) (w : CanBeWritten img (reading_of m)) where
  abbrev s : Super
  s = m.super

  abbrev size : ℕ
  size = length img

  rooted : RootParts img name s m.place file.root.own
  rooted = root_parts img name s m.place file.root.own file.root.checked

  pub sized : DatasetParts img format_limits s m.place m.dataset m.header
  sized = dataset_parts img format_limits s m.place m.dataset m.header file.header

  root_read : eval img (root_header_for true s.root) ≡ Ok rooted.header
  root_read =
      let h : HeaderFields = w.root.0 in
      let e : eval img (root_header_for true s.root) ≡ Ok h = ap (λ a. eval img (root_header_for true a)) (sym (root_at img name m file)) ∙ w.root.1 in
      let one : h ≡ rooted.header = same_answer (eval img (root_header s.root)) h rooted.header (alike_ok (eval img (root_header s.root)) (eval img (root_header_for true s.root)) h (root_alike img s.root) e) rooted.read in
      e ∙ ap (λ (x : HeaderFields). Ok x) one

  header_read : eval img (dataset_header_for true m.place) ≡ Ok sized.header
  header_read =
      let h : HeaderFields = w.header.0 in
      let read = eval img (dataset_messages m.place (header_view (range img m.place 512))) in
      let one : h ≡ sized.header = same_answer read h sized.header (alike_ok read (eval img (dataset_header_for true m.place)) h (dataset_alike img m.place) w.header.1) sized.read in
      w.header.1 ∙ ap (λ (x : HeaderFields). Ok x) one

  abbrev said : DatasetHeaderFields
  said = record { len = chunk_0_len sized.header.ranges; dataset = m.dataset; in_chunk_0 = in_chunk_0 sized.header.messages }

  abbrev opened : Opened
  opened = opened_at s m.place said

  said_known : known (chunk_0_len sized.header.ranges) sized.header.messages ≡ Ok said
  said_known =
      step_ok (refused_as (λ e. Read (read_errors.Unsupported e)) (described sized.header.messages)) m.dataset _ (ap (refused_as (λ e. Read (read_errors.Unsupported e))) sized.says)
      ∙ ap (λ c. cond c (Err (Read (read_errors.TooManyChunks (needed m.dataset) (limit_of format_limits m.dataset.layout.index)))) (Ok said)) sized.within

  -- what is answered of a superblock
  abbrev by_end : Bool → Result Super OpenError
  by_end c = cond c (Err (Cut s.end size)) (Ok s)

  abbrev by_flags : Bool → Result Super OpenError
  by_flags c = cond c (Err (Flags s.flags)) (by_end (nat_lt size s.end))

  abbrev by_version : Bool → Result Super OpenError
  by_version c = cond c (Err (Version 2)) (by_flags (not (is_written s.flags)))

  super_there : s.version ≡ 3 → HadFlags taken_over s.flags → super_by (written_super size) img ≡ Ok s
  super_there version f =
      let p = super_parts size (range img 0 48) s file.super in
      let new : (s.version == 2) ≡ false = ap (λ (n : ℕ). n == 2) version in
      let both : not (is_written s.flags) ≡ false = λ i. not ((f.writing i == 1) && (f.swmr i == 1)) in
      step_ok (refused_as Read (refused_as super_refusal (super_at (range img 0 48)))) s (written_super size) (ap (λ r. refused_as Read (refused_as super_refusal r)) p.read)
      ∙ ap by_version new ∙ ap by_flags both ∙ ap by_end (le-ltb size s.end p.inside)

  place_there : place_found name s.root img ≡ Ok m.place
  place_there =
      step_ok (refused_as Read (eval img (root_header_for true s.root))) rooted.header (λ (h : HeaderFields). refused_as Read (linked name h.messages)) (ap (refused_as Read) root_read)
      ∙ ap (refused_as Read) rooted.link

  dataset_there : dataset_found m.place img ≡ Ok said
  dataset_there =
      step_ok (refused_as Read (eval img (dataset_header_for true m.place))) sized.header (λ (h : HeaderFields). known (chunk_0_len h.ranges) h.messages) (ap (refused_as Read) header_read)
      ∙ said_known

  pub finds : s.version ≡ 3 → HadFlags taken_over s.flags → written_found size name img ≡ Ok opened
  finds version f =
      let at : written_at size name img ≡ Ok (s, m.place) =
      step_ok (super_by (written_super size) img) s (front_at name img) (super_there version f) ∙ step_ok (place_found name s.root img) m.place (with_root s) place_there in
      step_ok (written_at size name img) (s, m.place) (behind_at img) at ∙ step_ok (dataset_found m.place img) said (opened_from (s, m.place)) dataset_there

  -- a layout that names no index stands in chunk 0
  in_front : m.dataset.layout.address ≡ undefined → in_chunk_0 sized.header.messages ≡ true
  in_front none =
      let chosen : Option FoundMessage → Bool = λ x. elim x [ Some f ↦ f.in_chunk_0 | None ↦ false ] in
      let y = layout_of sized.header.messages m.dataset sized.says in
      ap chosen y.1 ∙ w.layout none sized.header y.0 sized.read y.1

  front : ((m.dataset.layout.address == undefined) && not (in_chunk_0 sized.header.messages)) ≡ false
  front = elim (cases_Bool (m.dataset.layout.address == undefined)) [
    | inl t ↦ let own = in_front (eqb-true m.dataset.layout.address undefined t) in λ i. t i && not (own i)
    | inr f ↦ ap (λ c. c && not (in_chunk_0 sized.header.messages)) f
  ]

  pub unrefused_here : chunk_bytes m.dataset ≤ most_chunk_bytes → 0 < m.dataset.shape.cols → refused_dataset opened ≡ None
  unrefused_here small some =
      let bytes = chunk_bytes m.dataset in
      let last : Option OpenError = cond (m.dataset.shape.cols == 0) (Some NoColumns) None in
      let large : Option OpenError = cond (nat_lt most_chunk_bytes bytes) (Some (ChunkBytes bytes most_chunk_bytes)) last in
      ap (λ c. cond c (Some Layout) large) front
      ∙ ap (λ c. cond c (Some (ChunkBytes bytes most_chunk_bytes)) last) (le-ltb most_chunk_bytes bytes small)
      ∙ ap (λ c. cond c (Some NoColumns) None) (ne_eqb m.dataset.shape.cols 0 (λ e. absurd (omega (arith, e, some))))

-- ---- Nothing refuses it

module _ (img name : List ℕ) (o : Opened) (m : Moment) (is : written_found (length img) name img ≡ Ok o) (unrefused : refused_dataset o ≡ None) (file : Represents img name m) (short : length img < 2 ^ 64) where
  parts_of : (p : Opened) → written_found (length img) name img ≡ Ok p → HasParts img name p
  parts_of p at = begun_parts beginnings.TakenOver img name (length img) p at

  no_index : (p : Opened) (a : Result IndexView NoIndex) (e : OpenError) → written_found (length img) name img ≡ Ok p → IsIndexOf img p.header.dataset a → refused_index p.header.dataset a ≡ Some e → ⊥
  no_index p (Ok v) e at x h = absurd cc
  no_index p (Err Unnamed) e at x h = absurd cc
  no_index p (Err Empty) e at x h = absurd cc
  no_index p (Err WrongTotals) e at x h = never_wrong img name p m (parts_of p at) file short x
  no_index p (Err Unordered) e at x h = never_unordered img name p m (parts_of p at) file short x

  pub nothing_refuses : (e : OpenError) → IsNotBegun taken_over img (length img) name e → ⊥
  nothing_refuses e (not_found f g) = let clash : ◌≡◌ {A = Result Opened OpenError} (Ok o) (Err f) = sym is ∙ g in absurd cc
  nothing_refuses e (is_damaged p at f there bad) = no_bad img name p m (parts_of p there) file short at f bad
  nothing_refuses e (is_refused p a f at x h) =
      let one : p ≡ o = same_answer (written_found (length img) name img) p o at is in
      let none : refused_dataset p ≡ None = ap refused_dataset one ∙ unrefused in
      let ranges : ranges_refused p a ≡ None = no_range img name p m (parts_of p at) file short a x in
      let index : refused_index p.header.dataset a ≡ Some f =
      sym (ap (λ r. option_or r (refused_index p.header.dataset a)) none) ∙ sym (ap (λ r. option_or r (option_or (refused_dataset p) (refused_index p.header.dataset a))) ranges) ∙ h in
      no_index p a f at x index

-- ---- At each position

pub not_opened : (s : Session) (log : Log) → IsNew log → HasOpened s log → ⊥
not_opened s log new o =
    let first : log.first ≡ length (created_blocks new.file) = ap (λ (l : Log). l.first) new.log_is in
    omega (arith, first, o.first, some_blocks new.file)

-- both flags of a writer
pub had_both : (root : Super) → SaysWritten root → HadFlags taken_over root.flags
had_both root says = record { writing = says.writing; swmr = says.swmr }

module _ (s : Session) (log : Log) (p : ℕ) (st : Stands s log) (at : IsPosition log p) (given : HasOpened s log → IsBegunFile log.start s.name) where
  abbrev here : IsAt s log p
  here = file_at s log p st at

  pub written : IsWritten (image_at log p) here.moment
  written = elim (standing_laws.begun s log st) [
    | inl new ↦ opened_written s log p st at here (λ o. absurd (not_opened s log new o))
    | inr b ↦
        let w = given b in
        let f = opens log.start s.name b.rows log.columns log.values b.summary b.valid b.reads in
        let m = f.0 in
        let there : Shows format_limits (image_at log 0) s.name (reading_of m) = moment_shows log.start s.name m f.1 in
        let first : IsPosition log 0 = record { begun = omega (arith, b.first); reached = omega arith } in
        let shows = moment_shows (image_at log p) s.name here.moment here.file in
        let stays = (standing_laws.held s log st 0 p (reading_of m) (reading_of here.moment) first at (omega arith) there shows).stays in
        onward log.start (image_at log p) s.name m here.moment f.1 here.file stays
        (found_written log.start s.name w.found m (begun_parts w.by log.start s.name (length log.start) w.found w.is) f.1 w.unrefused)
  ]

  pub refuses_none : (e : OpenError) → length log.start < 2 ^ 64 → IsLeftOpen (image_at log p) → IsNotBegun taken_over (image_at log p) (length (image_at log p)) s.name e → ⊥
  refuses_none e short left =
      let img = image_at log p in
      let m = here.moment in
      let same : left.root ≡ m.super = same_answer (super_at (range img 0 48)) left.root m.super left.read (super_parts (length img) (range img 0 48) m.super here.file.super).read in
      let some : 0 < m.dataset.shape.cols = let known = standing_laws.columns s log st in let more = standing_laws.some_columns s log st in omega (arith, here.columns, known, more) in
      let fits : length img < 2 ^ 64 = let f = standing_laws.fits s log p st at in let l = standing_laws.limited s log st in omega (arith, f, l, short) in
      let is = finds img s.name m here.file written.can (sym (ap (λ (t : Super). t.version) same) ∙ left.says.version) (subst (λ (t : Super). HadFlags taken_over t.flags) same (had_both left.root left.says)) in
      nothing_refuses img s.name _ m is (unrefused_here img s.name m here.file written.can written.small some) here.file fits e

pub never_refused : NeverRefused
never_refused s log p e st at given short left why = refuses_none s log p st at given e short left why

-- an answer that is an error is no refusal
pub none_of : (o : Option OpenError) (P : OpenError → Type 0) → IfRefusal o P → ((e : OpenError) → P e → ⊥) → o ≡ None
none_of None P h never = refl
none_of (Some e) P h never = absurd (never e h)

pub answers_session : AnswersSession
answers_session s log p limit budget (Ok t) st at given short left is = tt
answers_session s log p limit budget (Err e) st at given short left is =
    none_of (refusal_of e) (IsNotBegun taken_over (image_at log p) (length (image_at log p)) s.name) is (λ f why. refuses_none s log p st at given f short left why)

pub taken_is_begun : TakenIsBegun
taken_is_begun beginnings.Opened img name limit budget s x =
    let file = opened_is_writable img name limit budget s (was_opened img (length img) name limit budget s x) in
    record { by = beginnings.Opened; found = file.found; is = file.is; unrefused = file.unrefused }
taken_is_begun beginnings.TakenOver img name limit budget s x = record { by = beginnings.TakenOver; found = x.found; is = x.is; unrefused = dataset_taken x.found x.index x.unrefused }

-- ---- Its flags are cleared

pub begun_reopens : BegunReopens
begun_reopens s log p new st at given short c = reopens s log p st at (file_at s log p st at) (written s log p st at given) short new c
