-- What a session of several datasets has where it begins, and whose superblock and datasets these are.
use Rattle.std.proofs.Common.{◌≡◌, ℕ, ◌≤◌, List, [], ◌∷◌, length, Ok, refl, sym, ap, ◌∙◌, subst, arith}
use Rattle.h5w_model.specs.Numbers.{range}
use Rattle.h5w_model.specs.Relations.{AllPaired}
use Rattle.h5w_model.specs.Several.{Begun}
use Rattle.h5w_model.specs.Superblock.{super_at, super_bytes}
use Rattle.h5w_model.specs.declared.refusal.SuperError.{SuperError}
use Rattle.h5w_model.specs.declared.root.Super.{Super}
use Rattle.h5w_space.specs.Space.{Space}
use Rattle.h5w_headers.proofs.RanLemmas.{same_value}
use Rattle.h5w_opening.proofs.FoundParts.{parts, super_found_by}
use Rattle.h5w_writer.specs.Sessions.{Session, cleared}
use Rattle.h5w_writer_open.specs.OpenAnswers.{IsOpenedOver, writing_flags}
use Rattle.h5w_writer_open.proofs.LeftLemmas.{open_laws}
use Rattle.h5w_writer_open.proofs.SessionOver.{unrefused_parts}
use Rattle.h5w_several_writer.specs.Opened.{places_from, rested, sessions_over, settled}
use Rattle.h5w_several_writer_laws.specs.Bounds.{IsGrown}
use Rattle.h5w_several_writer_laws.specs.Sessions.{AreSessions, Sessions}
use Rattle.h5w_several_open.specs.Answers.{HasBegunWith, HaveBegun, IsOpenedBy}
use Rattle.h5w_several_open.specs.Progress.{writing_root}
use Rattle.h5w_several_open.specs.Sessions.{BeginsWith, HasBegunAll, HasDatasetAt, IsOpenedAll}
use Rattle.h5w_several_open.specs.Stands.{opened_file}
use Rattle.h5w_several_open.proofs.OpenLemmas.{front_tells}
use Rattle.h5w_several_open.proofs.StandLemmas.{end_of, pending_of}

-- ---- Whatever the image is

module _ (limit budget : ℕ) (root : Super) (t : Space) where
  begins : (name : List ℕ) (s : Session) → HasBegunWith limit budget root name s → BeginsWith budget root name (record s { root = root; places = t })
  begins name s w =
      let b = w.begun in
      record { named = b.named; root_is = refl; committed = b.committed; waiting = b.waiting; waits = b.waits; running = b.running; budgeted = b.budgeted; early = b.early; flushing = b.flushing }

  pub rested_begin : (names : List (List ℕ)) (ss : List Session) → AllPaired (HasBegunWith limit budget root) names ss → AllPaired (BeginsWith budget root) names (rested root t ss)
  rested_begin [] [] h = tt
  rested_begin [] (s ∷ ss) h = absurd h
  rested_begin (name ∷ names) [] h = absurd h
  rested_begin (name ∷ names) (s ∷ ss) h =
      let b = begins name s h.0 in (
        record { named = b.named; root_is = refl; committed = b.committed; waiting = b.waiting; waits = b.waits; running = b.running; budgeted = b.budgeted; early = b.early; flushing = b.flushing },
        rested_begin names ss h.1,
      )

  settled_begin : (names : List (List ℕ)) (ss : List Session) → AllPaired (HasBegunWith limit budget root) names ss → AllPaired (BeginsWith budget root) names (settled root t ss)
  settled_begin [] [] h = tt
  settled_begin [] (s ∷ ss) h = absurd h
  settled_begin (name ∷ names) [] h = absurd h
  settled_begin (name ∷ names) (s ∷ ss) h = (begins name s h.0, rested_begin names ss h.1)

-- the superblock of the first of them can be written
first_reads : (limit budget : ℕ) (root : Super) (names : List (List ℕ)) (ss : List Session) → 1 ≤ length ss → AllPaired (HasBegunWith limit budget root) names ss → super_at (super_bytes root) ≡ Ok root
first_reads limit budget root names [] some h = absurd (omega (arith, some))
first_reads limit budget root [] (s ∷ ss) some h = absurd h
first_reads limit budget root (name ∷ names) (s ∷ ss) some h = let w : HasBegunWith limit budget root name s = h.0 in w.reads

pub begun_all : (names : List (List ℕ)) (limit budget : ℕ) (ss : List Session) (S : Sessions) → (h : HaveBegun names limit budget ss) → 1 ≤ length ss → S ≡ sessions_over h.root limit ss → AreSessions S → HasBegunAll names limit budget S
begun_all names limit budget ss S h some is are =
    let t = places_from h.root.end limit in
    let own : HasBegunAll names limit budget (sessions_over h.root limit ss) = record {
      parts = ss;
      begun = h;
      is = refl;
      sessions = subst AreSessions is are;
      pending = pending_of limit budget h.root t names ss some h.each;
      each = settled_begin limit budget h.root t names ss h.each;
      end = refl;
      limited = refl;
      going = refl;
      reads = first_reads limit budget h.root names ss some h.each;
    } in
    subst (HasBegunAll names limit budget) (sym is) own

-- ---- Over an image

module _ (img : List ℕ) (size limit budget : ℕ) (root : Super) (t : Space) where
  abbrev IsOpen : List ℕ → Session → Type 0
  IsOpen name s = IsOpenedOver img size name limit budget s

  rested_found : (names : List (List ℕ)) (ss : List Session) → AllPaired IsOpen names ss → AllPaired (HasDatasetAt img size) names (rested root t ss)
  rested_found [] [] h = tt
  rested_found [] (s ∷ ss) h = absurd h
  rested_found (name ∷ names) [] h = absurd h
  rested_found (name ∷ names) (s ∷ ss) h =
      let o : IsOpenedOver img size name limit budget s = h.0 in (
        record {
          found = o.found;
          is = o.is;
          place = ap (λ (x : Session). x.place) o.session;
          dataset = ap (λ (x : Session). x.dataset) o.session;
          unrefused = (unrefused_parts o.found o.index o.unrefused).dataset;
        },
        rested_found names ss h.1,
      )

  settled_found : (names : List (List ℕ)) (ss : List Session) → AllPaired IsOpen names ss → AllPaired (HasDatasetAt img size) names (settled root t ss)
  settled_found [] [] h = tt
  settled_found [] (s ∷ ss) h = absurd h
  settled_found (name ∷ names) [] h = absurd h
  settled_found (name ∷ names) (s ∷ ss) h =
      let o : IsOpenedOver img size name limit budget s = h.0 in (
        record {
          found = o.found;
          is = o.is;
          place = ap (λ (x : Session). x.place) o.session;
          dataset = ap (λ (x : Session). x.dataset) o.session;
          unrefused = (unrefused_parts o.found o.index o.unrefused).dataset;
        },
        rested_found names ss h.1,
      )

-- the superblock of all is the file's, with the flags of a writer
root_written : (img : List ℕ) (size limit budget : ℕ) (front root : Super) (names : List (List ℕ)) (ss : List Session) → 1 ≤ length ss → AllPaired (λ (name : List ℕ) (s : Session). IsOpenedOver img size name limit budget s) names ss
    → AllPaired (HasBegunWith limit budget root) names ss → super_at (range img 0 48) ≡ Ok front → front.version ≡ 3 → root ≡ writing_root front
root_written img size limit budget front root names [] some x h read version = absurd (omega (arith, some))
root_written img size limit budget front root [] (s ∷ ss) some x h read version = absurd h
root_written img size limit budget front root (name ∷ names) (s ∷ ss) some x h read version =
    let w : HasBegunWith limit budget root name s = h.0 in
    let o : IsOpenedOver img size name limit budget s = x.0 in
    let same : o.found.root ≡ front = same_value {E = SuperError} o.found.root front (sym (parts img size name o.found o.is).super ∙ read) in
    sym w.root_is ∙ ap (λ (y : Session). y.root) o.session ∙ ap (λ (y : Super). record y { flags = writing_flags y.flags }) same ∙ (λ i. record front { version = version i; flags = writing_flags front.flags })

pub opened_all : (img : List ℕ) (size : ℕ) (names : List (List ℕ)) (limit budget : ℕ) (ss : List Session) (S : Sessions) → (h : HaveBegun names limit budget ss) → 1 ≤ length ss → S ≡ sessions_over h.root limit ss → IsOpenedBy img size names limit budget ss
    → IsOpenedAll img size names limit budget S
opened_all img size names limit budget ss S h some is opened =
    let front = opened.front.root in
    let f = super_found_by img size front (front_tells img size front names opened.front.places opened.is).super in
    let t = places_from h.root.end limit in
    let root = root_written img size limit budget front h.root names ss some opened.each h.each f.read f.version in
    let own : IsOpenedAll img size names limit budget (sessions_over h.root limit ss) = record {
      root = h.root;
      parts = ss;
      opened = opened;
      is = refl;
      root_is = root;
      super = f.read;
      version = f.version;
      closed = f.closed;
      clears = ap (λ (x : Super). cleared x.flags) root ∙ open_laws.closes front.flags f.closed;
      datasets = settled_found img size limit budget h.root t names ss opened.each;
    } in
    subst (IsOpenedAll img size names limit budget) (sym is) own

-- the file did not grow yet
pub opened_grown : (img : List ℕ) (size : ℕ) (names : List (List ℕ)) (limit budget : ℕ) (ss : List Session) (S : Sessions) (sets : List Begun) → (h : HaveBegun names limit budget ss) → 1 ≤ length ss → S ≡ sessions_over h.root limit ss
    → IsOpenedBy img size names limit budget ss → IsGrown S (opened_file img sets)
opened_grown img size names limit budget ss S sets h some is opened =
    let end = end_of img size limit budget h.root names ss some opened.each h.each sets in
    let places = ap (λ (x : Sessions). x.places.end) is in
    omega (arith, end, places)
