-- A takeover of one dataset.
use Rattle.std.proofs.Common.{◌≡◌, ℕ, ◌≤◌, ◌^◌, true, List, [], ◌∷◌, get_or, ℤ, Bool, Option, Some, Result, Ok, Err, refl, sym, ap, ◌∙◌, subst, arith}
use Rattle.std.specs.Option.{option_or}
use Rattle.h5w_model.specs.Datasets.{Described, HeaderFields, linked, refused_as, same_link, then_also}
use Rattle.h5w_model.specs.Findings.{Summary, Valid}
use Rattle.h5w_model.specs.Numbers.{range}
use Rattle.h5w_model.specs.Programs.{eval}
use Rattle.h5w_model.specs.Superblock.{super_at}
use Rattle.h5w_model.specs.Tables.{Reads}
use Rattle.h5w_model.specs.declared.piece.Write.{Write}
use Rattle.h5w_model.specs.declared.root.Super.{Super}
use Rattle.h5w_model.specs.declared.refusal.ReadError.{ReadError}
use Rattle.h5w_laws.proofs.ResultLemmas.{refused_ok, then_ok}
use Rattle.h5w_step_laws.specs.Files.{chunk_0}
use Rattle.h5w_step_laws.proofs.FoundLemmas.{opens}
use Rattle.h5w_image.specs.View.{ImageView}
use Rattle.h5w_headers.specs.Ran.{seen}
use Rattle.h5w_headers.specs.Walks.{root_header_for}
use Rattle.h5w_headers.proofs.RanLemmas.{same_value, step_err, step_ok}
use Rattle.h5w_index.specs.Held.{view_of}
use Rattle.h5w_index.specs.Views.{IndexView}
use Rattle.h5w_index.specs.declared.index.Index.{Index as HeldIndex}
use Rattle.h5w_opening.specs.Fronts.{FrontFields, places_by, places_found, unlike, written_front}
use Rattle.h5w_opening.specs.Openings.{DatasetHeaderFields, Opened, dataset_found, is_written, place_found, refused_dataset, super_by, written_super}
use Rattle.h5w_opening.specs.Views.{opened_of}
use Rattle.h5w_opening.specs.declared.error.OpenError.{OpenError}
use Rattle.h5w_opening.specs.declared.error.OpenError.TheVariants.{Read}
use Rattle.h5w_opening.specs.declared.finding.Opening.{Opening}
use Rattle.h5w_opening.proofs.FoundParts.{header_found_by}
use Rattle.h5w_opening.proofs.FrontLemmas.{fronted_by, fronts_give}
use Rattle.h5w_opening.proofs.OpeningLemmas.{then_joined}
use Rattle.h5w_writer.specs.Openings.{opened_log}
use Rattle.h5w_writer.specs.PartLaws.{super_piece}
use Rattle.h5w_writer.specs.Sessions.{AfterPiece, Session, Settles}
use Rattle.h5w_writer.specs.Stands.{Stands}
use Rattle.h5w_writer.proofs.OpenedLemmas.{over_laws}
use Rattle.h5w_writer_open.specs.declared.index.NoIndex.{NoIndex}
use Rattle.h5w_writer_open.specs.OpenAnswers.{HasBegun, opened_session, session_over}
use Rattle.h5w_writer_open.specs.OpenParts.{IsPartOver, IsReadAt, IsUnread, bad_block, bad_range, no_header, opened_at, refused_part}
use Rattle.h5w_writer_open.specs.OpenRanges.{ranges_refused, refused_index, refused_open}
use Rattle.h5w_writer_open.specs.OpenSteps.{OpenStep, front_of, versioned}
use Rattle.h5w_writer_open.proofs.OpenStepLemmas.{step_both}
use Rattle.h5w_writer_open.proofs.OverFile.{HasParts, dataset_same}
use Rattle.h5w_writer_open.proofs.PartLemmas.{kept_at, open_part, read_bad, read_good}
use Rattle.h5w_writer_open.proofs.SessionOver.{some_columns, unrefused_parts}
use Rattle.h5w_several_open.specs.Beginnings.{HasBegunBy, IsBegunOver, IsNotBegun, is_damaged, is_refused, not_found, written_at, written_found}
use Rattle.h5w_several_open.specs.Taken.{closed_front}
use Rattle.h5w_several_open.specs.declared.beginning.Beginning.TheVariants.{TakenOver}
use Rattle.h5w_several_open.proofs.BeginLemmas.{over_by}
use Rattle.h5w_several_open.proofs.TakeAnswers.{super_written, writing_again, written_bits}

-- ---- The front of one name

abbrev one_listed : ℕ → Result (List ℕ) ReadError
one_listed at = Ok (at ∷ [])

abbrev one_told : ℕ → Result (List ℕ) OpenError
one_told at = Ok (at ∷ [])

abbrev pub with_root : Super → ℕ → Result (Super × ℕ) OpenError
with_root s place = Ok (s, place)

abbrev fronted_one : Super × ℕ → Result FrontFields OpenError
fronted_one x = Ok (record { root = x.0; places = x.1 ∷ [] })

one_link : (l : Result ℕ ReadError) → then_also (refused_as Read (then_also l one_listed)) (λ places. unlike places (same_link places)) ≡ then_also (refused_as Read l) one_told
one_link (Ok at) = refl
one_link (Err e) = refl

one_header : (name : List ℕ) (r : Result HeaderFields ReadError)
    → then_also (refused_as Read r) (λ (h : HeaderFields). places_by (name ∷ []) h.messages) ≡ then_also (then_also (refused_as Read r) (λ (h : HeaderFields). refused_as Read (linked name h.messages))) one_told
one_header name (Ok h) = one_link (linked name h.messages)
one_header name (Err e) = refl

one_place : (img name : List ℕ) (root : ℕ) → places_found (name ∷ []) root img ≡ then_also (place_found name root img) one_told
one_place img name root = one_header name (eval img (root_header_for true root))

one_front : (s : Super) (p : Result ℕ OpenError) → then_also (then_also p one_told) (fronted_by s) ≡ then_also (then_also p (with_root s)) fronted_one
one_front s (Ok place) = refl
one_front s (Err e) = refl

front_is : (img name : List ℕ) (size : ℕ) → eval img (written_front size (name ∷ [])) ≡ then_also (written_at size name img) fronted_one
front_is img name size =
    let super = super_by (written_super size) img in
    fronts_give (written_super size) img (name ∷ [])
    ∙ ap (then_also super) (λ i s. then_also (one_place img name s.root i) (fronted_by s))
    ∙ ap (then_also super) (λ i s. one_front s (place_found name s.root img) i)
    ∙ then_joined super (λ s. then_also (place_found name s.root img) (with_root s)) fronted_one

refused_one : (r : Result (Super × ℕ) OpenError) (e : OpenError) → then_also r fronted_one ≡ Err e → r ≡ Err e
refused_one (Ok x) e h = absurd cc
refused_one (Err f) e h = cc

told_one : (r : Result (Super × ℕ) OpenError) (f : FrontFields) (n : ℕ) → then_also r fronted_one ≡ Ok f → r ≡ Ok (f.root, get_or f.places 0 n)
told_one (Ok x) f n h =
    let made : FrontFields = record { root = x.0; places = x.1 ∷ [] } in
    let same : made ≡ f = same_value {E = OpenError} made f h in
    ap (λ (y : FrontFields). with_root y.root (get_or y.places 0 n)) same
told_one (Err e) f n h = absurd cc

pub front_refused : (img name : List ℕ) (names : List (List ℕ)) (size : ℕ) (e : OpenError) → names ≡ name ∷ [] → eval img (written_front size names) ≡ Err e → written_at size name img ≡ Err e
front_refused img name names size e is h = refused_one (written_at size name img) e (sym (front_is img name size) ∙ ap (λ (ns : List (List ℕ)). eval img (written_front size ns)) (sym is) ∙ h)

pub front_told : (img name : List ℕ) (names : List (List ℕ)) (size : ℕ) (f : FrontFields) (n : ℕ) → names ≡ name ∷ [] → eval img (written_front size names) ≡ Ok f → written_at size name img ≡ Ok (f.root, get_or f.places 0 n)
front_told img name names size f n is h = told_one (written_at size name img) f n (sym (front_is img name size) ∙ ap (λ (ns : List (List ℕ)). eval img (written_front size ns)) (sym is) ∙ h)

-- ---- What is known of a file where it was found

pub record WrittenAt (img name : List ℕ) (root : Super) (place : ℕ) : Type 0 where
  pub super : super_at (range img 0 48) ≡ Ok root
  pub version : root.version ≡ 3
  pub written : is_written root.flags ≡ true
  pub header : HeaderFields
  pub read : eval img (root_header_for true root.root) ≡ Ok header
  pub link : linked name header.messages ≡ Ok place

pub written_at_tells : (img name : List ℕ) (size : ℕ) (root : Super) (place : ℕ) → written_at size name img ≡ Ok (root, place) → WrittenAt img name root place
written_at_tells img name size root place h =
    let t = then_ok (super_by (written_super size) img) (λ s. then_also (place_found name s.root img) (with_root s)) (root, place) h in
    let u = then_ok (place_found name t.0.root img) (with_root t.0) (root, place) t.2 in
    let made : Super × ℕ = (t.0, u.0) in
    let same : made ≡ (root, place) = same_value {E = OpenError} made (root, place) u.2 in
    let s = super_written img size t.0 t.1 in
    let r = then_ok (refused_as Read (eval img (root_header_for true t.0.root))) (λ (x : HeaderFields). refused_as Read (linked name x.messages)) u.0 u.1 in
    subst (λ (x : Super × ℕ). WrittenAt img name x.0 x.1) same
    (record { super = s.super; version = s.version; written = s.written; header = r.0; read = refused_ok Read (eval img (root_header_for true t.0.root)) r.0 r.1; link = refused_ok Read (linked name r.0.messages) u.0 r.2 })

abbrev pub found_at : Super → ℕ → DatasetHeaderFields → Result Opened OpenError
found_at root place h = Ok (opened_at root place h)

abbrev pub behind_at : List ℕ → Super × ℕ → Result Opened OpenError
behind_at img x = then_also (dataset_found x.1 img) (found_at x.0 x.1)

-- nothing is found
pub absent_one : (img name : List ℕ) (size : ℕ) (e : OpenError) → written_at size name img ≡ Err e → IsNotBegun TakenOver img size name e
absent_one img name size e h = not_found e (step_err (written_at size name img) e (behind_at img) h)

module _ (img name : List ℕ) (size : ℕ) (root : Super) (place : ℕ) (at : written_at size name img ≡ Ok (root, place)) where
  is_found : (h : DatasetHeaderFields) → dataset_found place img ≡ Ok h → written_found size name img ≡ Ok (opened_at root place h)
  is_found h is = step_ok (written_at size name img) (root, place) (behind_at img) at ∙ step_ok (dataset_found place img) h (found_at root place) is

  -- ---- Refusals

  -- a dataset that is not read
  pub unread_one : (e : OpenError) → IsUnread img (closed_front root) place e → IsNotBegun TakenOver img size name e
  unread_one e (no_header _ h) = not_found e (step_ok (written_at size name img) (root, place) (behind_at img) at ∙ step_err (dataset_found place img) e (found_at root place) h)
  unread_one _ (bad_block h place_at f is bad) = is_damaged (opened_at root place h) place_at f (is_found h is) bad
  unread_one e (bad_range h a _ is index r) =
      let o = opened_at root place h in
      let ranges : ranges_refused o a ≡ Some e = r in
      is_refused o a e (is_found h is) index (ap (λ (x : Option OpenError). option_or x (option_or (refused_dataset o) (refused_index o.header.dataset a))) ranges)

  module _ (o : Opened) (a : Result IndexView NoIndex) (read : IsReadAt img (closed_front root) place o a) where
    abbrev own : Opened
    own = opened_at root place o.header

    refused_same : refused_open own a ≡ refused_part o a
    refused_same = ap (λ (y : Opened). refused_open y a) (sym read.is) ∙ open_part o a read.within

    -- one to which no rows are appended
    pub unfit_one : (e : OpenError) → refused_part o a ≡ Some e → IsNotBegun TakenOver img size name e
    unfit_one e why = is_refused own a e (is_found o.header read.header) read.index (refused_same ∙ why)

    -- ---- The session

    module _ (limit budget : ℕ) (s t : Session) (over : IsPartOver img o a name limit budget s) (after : t ≡ record s { pending = [] }) where
      abbrev made : Super → List ℕ → Session
      made r front = record (session_over own front over.kept name limit budget) { root = r }

      at_rest : t ≡ session_over own (chunk_0 img place) over.kept name limit budget
      at_rest =
          let w = written_at_tells img name size root place at in
          after
          ∙ ap (λ (x : Session). record x { pending = [] }) over.session
          ∙ ap (λ (y : Opened). record (opened_session (versioned y) (front_of img y.place y.header.len) over.kept name limit budget) { pending = [] }) read.is
          ∙ ap (λ (r : Super). made r (front_of img place o.header.len)) (writing_again root w.version w.written)
          ∙ ap (made root) (kept_at img own read.header).same

      pub taken_one : IsBegunOver TakenOver img size name limit budget t
      taken_one =
          let w = written_at_tells img name size root place at in
          let bits = written_bits root.flags w.written in
          record {
            found = own;
            is = is_found o.header read.header;
            flags = record { writing = bits.0; swmr = bits.1 };
            super = w.super;
            index = a;
            is_index = read.index;
            unrefused = refused_same ∙ over.fit;
            kept = over.kept;
            is_kept = over.is_kept;
            session = at_rest;
          }

-- a place was found, and what stands there was read
pub record ReadOne (size : ℕ) (name : List ℕ) (root : Super) (place : ℕ) (img : List ℕ) (x : Opening × Result HeldIndex NoIndex) : Type 0 where
  pub at : written_at size name img ≡ Ok (root, place)
  pub read : IsReadAt img (closed_front root) place (opened_of x.0) (seen view_of x.1)

pub read_step : {v w x : ImageView} (size : ℕ) (name : List ℕ) (root closed : Super) (place : ℕ) (y : Opening × Result HeldIndex NoIndex) → closed ≡ closed_front root
    → OpenStep v w (λ img z. written_at size name img ≡ Ok z) (λ img e. written_at size name img ≡ Err e) (Ok (root, place)) → OpenStep w x (read_good closed place) (read_bad closed place) (Ok y)
    → OpenStep v x (ReadOne size name root place) (read_bad closed place) (Ok y)
read_step size name root closed place y same one two =
    step_both (ReadOne size name root place) (read_bad closed place) (root, place) y y one two (λ img at read. record { at = at; read = subst (λ (s : Super). IsReadAt img s place (opened_of y.0) (seen view_of y.1)) same read })

-- the superblock was pending alone, and is pending no more
pub settled_one : (name : List ℕ) (limit budget : ℕ) (s t : Session) → HasBegun name limit budget s → ((w : Write) (ws : List Write) → s.pending ≡ w ∷ ws → AfterPiece s ws t) → t ≡ record s { pending = [] }
settled_one name limit budget s t h piece = subst (λ (b : Bool). Settles b s t) h.flushing (piece (super_piece s.root) [] h.pending)

-- what it has on every image
pub begun_one : (name : List ℕ) (limit budget : ℕ) (s t : Session) → HasBegun name limit budget s → t ≡ record s { pending = [] } → HasBegunBy TakenOver name limit budget t
begun_one name limit budget s t h after =
    subst (HasBegunBy TakenOver name limit budget) (sym after)
    (record {
      named = h.named;
      limited = h.limited;
      end = h.end;
      free = h.free;
      retired = h.retired;
      committed = h.committed;
      waiting = h.waiting;
      waits = h.waits;
      writing = h.writing;
      swmr = h.swmr;
      pending = refl;
      running = h.running;
      frees = h.frees;
      budgeted = h.budgeted;
      early = h.early;
      chunks = h.chunks;
      flushing = h.flushing;
    })

-- ---- What it stands for

-- what was found is the file's
taken_parts : (img name : List ℕ) (size : ℕ) (o : Opened) → written_found size name img ≡ Ok o → HasParts img name o
taken_parts img name size o is =
    let t = then_ok (written_at size name img) (behind_at img) o is in
    let d = then_ok (dataset_found t.0.1 img) (found_at t.0.0 t.0.1) o t.2 in
    let w = written_at_tells img name size t.0.0 t.0.1 t.1 in
    let h = header_found_by img t.0.1 d.0 d.1 in
    let made = opened_at t.0.0 t.0.1 d.0 in
    let same : made ≡ o = same_value {E = OpenError} made o d.2 in
    subst (HasParts img name) same
    (record { super = w.super; root = w.header; root_read = w.read; link = w.link; header = h.header; header_read = h.read; says = h.says; len = h.len; in_chunk = h.in_chunk })

pub taken_stands : (img name : List ℕ) (size limit budget rows columns : ℕ) (values : List ℤ) (sm : Summary) (s : Session) → IsBegunOver TakenOver img size name limit budget s → 1024 ≤ limit → limit ≤ 2 ^ 40 → Valid img name sm → Reads img name rows columns values
    → Stands s (opened_log img columns values)
taken_stands img name size limit budget rows columns values sm s x low high valid reads =
    let o = x.found in
    let found = taken_parts img name size o x.is in
    let first = opens img name rows columns values sm valid reads in
    let columns_are : o.header.dataset.shape.cols ≡ columns = ap (λ (d : Described). d.shape.cols) (sym (dataset_same img name o first.0 found first.1)) ∙ first.4 in
    let some = some_columns o (unrefused_parts o x.index x.unrefused).dataset in
    let t = over_laws.over img name rows columns values sm valid reads (omega (arith, some, columns_are)) in
    let plain : Session = session_over o (chunk_0 img o.place) x.kept name limit budget in
    subst (λ (y : Session). Stands y (opened_log img columns values)) (sym x.session) (t.2 plain refl (over_by img name limit budget o x.kept found low high x.index x.is_index x.is_kept x.unrefused t.0 t.1))
