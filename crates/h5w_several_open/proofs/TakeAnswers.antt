-- What is answered where a file of several datasets is taken over.
use Rattle.std.proofs.Common.{◌≡◌, ℕ, ◌/◌, ◌%◌, ◌≤◌, Bool, true, false, not, cond, ◌&&◌, List, [], length, Option, Some, None, Result, Ok, Err, refl, sym, ap, ◌∙◌, subst, inl, inr, arith}
use Rattle.std.specs.Prelude.{nat_lt, ◌==◌}
use Rattle.std.proofs.lemmas.Bool.{eqb-true, eqb-false}
use Rattle.h5w_model.specs.Datasets.{HeaderFields, linked, refused_as, super_refusal}
use Rattle.h5w_model.specs.Numbers.{range}
use Rattle.h5w_model.specs.Programs.{eval}
use Rattle.h5w_model.specs.Relations.{AllPaired}
use Rattle.h5w_model.specs.Several.{Begun}
use Rattle.h5w_model.specs.Superblock.{super_at}
use Rattle.h5w_model.specs.declared.root.Super.{Super}
use Rattle.h5w_model.proofs.SuperLemmas.{super_either}
use Rattle.h5w_laws.proofs.ResultLemmas.{fails, refused_ok, then_ok}
use Rattle.h5w_space.specs.Space.{Space}
use Rattle.h5w_laws.proofs.LinkLemmas.{IsLinked}
use Rattle.h5w_headers.specs.Ran.{Refuses}
use Rattle.h5w_headers.specs.Walks.{root_header_for}
use Rattle.h5w_headers.proofs.RanLemmas.{same_value, step_ok}
use Rattle.h5w_opening.specs.Errors.{refusal_of}
use Rattle.h5w_opening.specs.Fronts.{written_front}
use Rattle.h5w_opening.specs.Openings.{Opened, dataset_found, is_written, place_found, refused_dataset, super_by, written_super}
use Rattle.h5w_opening.specs.declared.error.OpenError.{OpenError}
use Rattle.h5w_opening.specs.declared.error.OpenError.TheVariants.{Read, Version, Flags, Cut}
use Rattle.h5w_writer.specs.Sessions.{Session, cleared}
use Rattle.h5w_writer_open.specs.OpenAnswers.{IfRefusal, writing_flags}
use Rattle.h5w_writer_open.specs.OpenParts.{opened_at}
use Rattle.h5w_writer_open.specs.OpenRanges.{refused_open}
use Rattle.h5w_writer_open.proofs.OpenStepLemmas.{refusal_map}
use Rattle.h5w_writer_open.proofs.PartLemmas.{open_part}
use Rattle.h5w_writer_open.proofs.SessionOver.{unrefused_parts}
use Rattle.h5w_several_writer.specs.Opened.{places_from, rested, sessions_at_rest}
use Rattle.h5w_several_writer_laws.specs.Began.{began_end, end_among}
use Rattle.h5w_several_writer_laws.specs.Bounds.{IsGrown}
use Rattle.h5w_several_writer_laws.specs.Sessions.{AreSessions, Sessions}
use Rattle.h5w_several_open.specs.Answers.{HasBegunWith, HaveBegun}
use Rattle.h5w_several_open.specs.Progress.{ArePartsAnswer, AreSessionsAt, IsRefusedAt, IsSessionAt, a_session, no_session, unfit_at, unread_at}
use Rattle.h5w_several_open.specs.Stands.{opened_file}
use Rattle.h5w_several_open.specs.Taken.{HasDatasetOf, HasTakenAll, IsNotTakenBy, IsTakenAll, closed_front, no_front, unfit, unread}
use Rattle.h5w_several_open.proofs.BegunLemmas.{rested_begin}
use Rattle.h5w_several_open.proofs.OpenLemmas.{fronts_tell}
use Rattle.h5w_several_open.proofs.StandLemmas.{none_rested}

-- ---- The front

-- the superblock of a file that was left, and the places to which the links lead
pub record IsWrittenFront (img : List ℕ) (size : ℕ) (root : Super) (names : List (List ℕ)) (places : List ℕ) : Type 0 where
  pub super : super_at (range img 0 48) ≡ Ok root
  pub version : root.version ≡ 3
  pub written : is_written root.flags ≡ true
  pub header : HeaderFields
  pub read : eval img (root_header_for true root.root) ≡ Ok header
  pub each : AllPaired (IsLinked header.messages) names places

abbrev as_super : Super → Result Super OpenError
as_super s = Ok s

negated : (b : Bool) → not b ≡ false → b ≡ true
negated true e = refl
negated false e = absurd cc

-- what is known of the superblock of a file that was left
pub record IsWrittenSuper (img : List ℕ) (s : Super) : Type 0 where
  pub super : super_at (range img 0 48) ≡ Ok s
  pub version : s.version ≡ 3
  pub written : is_written s.flags ≡ true

pub super_written : (img : List ℕ) (size : ℕ) (root : Super) → super_by (written_super size) img ≡ Ok root → IsWrittenSuper img root
super_written img size root h =
    let t = then_ok (refused_as Read (refused_as super_refusal (super_at (range img 0 48)))) (written_super size) root h in
    let read = refused_ok super_refusal (super_at (range img 0 48)) t.0 (refused_ok Read (refused_as super_refusal (super_at (range img 0 48))) t.0 t.1) in
    let new = fails (t.0.version == 2) (cond (not (is_written t.0.flags)) (Err (Flags t.0.flags)) (cond (nat_lt size t.0.end) (Err (Cut t.0.end size)) (as_super t.0))) (Version 2) root t.2 in
    let both = fails (not (is_written t.0.flags)) (cond (nat_lt size t.0.end) (Err (Cut t.0.end size)) (as_super t.0)) (Flags t.0.flags) root new.1 in
    let whole = fails (nat_lt size t.0.end) (as_super t.0) (Cut t.0.end size) root both.1 in
    let same : t.0 ≡ root = same_value {E = OpenError} t.0 root whole.1 in
    let version : t.0.version ≡ 3 = elim (super_either (range img 0 48) t.0 read) [
      | inl two ↦ absurd (eqb-false t.0.version 2 new.0 two)
      | inr three ↦ three
    ] in
    subst (IsWrittenSuper img) same (record { super = read; version = version; written = negated (is_written t.0.flags) both.0 })

pub written_tells : (img : List ℕ) (size : ℕ) (root : Super) (names : List (List ℕ)) (places : List ℕ) → eval img (written_front size names) ≡ Ok (record { root = root; places = places }) → IsWrittenFront img size root names places
written_tells img size root names places is =
    let f = fronts_tell (written_super size) img root names places is in
    let s = super_written img size root f.super in
    record {
      super = s.super;
      version = s.version;
      written = s.written;
      header = f.header;
      read = f.read;
      each = f.each;
    }

-- ---- Refusals

pub no_written_front : (img : List ℕ) (size : ℕ) (names : List (List ℕ)) (e : OpenError) → Refuses (eval img (written_front size names)) (refusal_of e) → IfRefusal (refusal_of e) (IsNotTakenBy img size names)
no_written_front img size names e h = by (refusal_of e) h
  where
    by : (o : Option OpenError) → Refuses (eval img (written_front size names)) o → IfRefusal o (IsNotTakenBy img size names)
    by (Some f) given = no_front f given
    by None given = tt

pub taken_refused : (img : List ℕ) (size : ℕ) (names : List (List ℕ)) (limit budget : ℕ) (root : Super) (places : List ℕ) (e : OpenError) → eval img (written_front size names) ≡ Ok (record { root = root; places = places })
    → ArePartsAnswer img (closed_front root) names places limit budget (Err e) → IfRefusal (refusal_of e) (IsNotTakenBy img size names)
taken_refused img size names limit budget root places e is x =
    refusal_map (refusal_of e) (IsRefusedAt img (closed_front root) places) (IsNotTakenBy img size names) why (x root (written_tells img size root names places is).super)
  where
    why : (g : OpenError) → IsRefusedAt img (closed_front root) places g → IsNotTakenBy img size names g
    why g (unread_at _ u) = unread (record { root = root; places = places }) g is u
    why g (unfit_at _ all u) = unfit (record { root = root; places = places }) g is all u

-- ---- The session

both_flags : (a b : Bool) → (a && b) ≡ true → (a ≡ true) × (b ≡ true)
both_flags true true e = (refl, refl)
both_flags true false e = absurd cc
both_flags false b e = absurd cc

-- both bits are set
pub written_bits : (flags : ℕ) → is_written flags ≡ true → (flags % 2 ≡ 1) × (flags / 4 % 2 ≡ 1)
written_bits flags written = let both = both_flags (flags % 2 == 1) (flags / 4 % 2 == 1) written in (eqb-true (flags % 2) 1 both.0, eqb-true (flags / 4 % 2) 1 both.1)

-- a writer's flags are those that the file had
flags_again : (flags : ℕ) → is_written flags ≡ true → writing_flags (cleared flags) ≡ flags
flags_again flags written = let bits = written_bits flags written in omega (arith, bits.0, bits.1)

-- so the superblock with which a session begins is the file's
pub writing_again : (root : Super) → root.version ≡ 3 → is_written root.flags ≡ true → ◌≡◌ {A = Super} (record root { version = 3; flags = writing_flags (cleared root.flags) }) root
writing_again root version written = λ i. record root { version = sym version i; flags = flags_again root.flags written i }

-- the superblock of all is the file's
root_again : (img : List ℕ) (limit budget : ℕ) (front root : Super) (names : List (List ℕ)) (places : List ℕ) (ss : List Session) → 1 ≤ length ss → AreSessionsAt img (closed_front front) limit budget names places ss
    → AllPaired (HasBegunWith limit budget root) names ss → front.version ≡ 3 → is_written front.flags ≡ true → root ≡ front
root_again img limit budget front root _ _ _ some no_session h version written = absurd (omega (arith, some))
root_again img limit budget front root _ _ _ some (a_session name place s names places ss x rest) h version written =
    let w : HasBegunWith limit budget root name s = h.0 in
    sym w.root_is ∙ ap (λ (y : Session). y.root) x.over.session ∙ ap (λ (o : Opened). let r : Super = record (o.root) { version = 3; flags = writing_flags o.root.flags } in r) x.read.is
    ∙ writing_again front version written

-- the dataset of a part at rest
dataset_of : (img : List ℕ) (root : Super) (limit budget : ℕ) (t : Space) (h : HeaderFields) (name : List ℕ) (place : ℕ) (s : Session) → eval img (root_header_for true root.root) ≡ Ok h → linked name h.messages ≡ Ok place → IsSessionAt img (closed_front root) limit budget name place s
    → HasDatasetOf img root name (record s { root = root; places = t; pending = [] })
dataset_of img root limit budget t h name place s read link x =
    let at : s.place ≡ place = ap (λ (y : Session). y.place) x.over.session ∙ ap (λ (o : Opened). o.place) x.read.is in
    let linked_here : place_found name root.root img ≡ Ok place = step_ok (refused_as Read (eval img (root_header_for true root.root))) h (λ (x : HeaderFields). refused_as Read (linked name x.messages)) (ap (refused_as Read) read) ∙ ap (refused_as Read) link in
    let none : refused_open (opened_at root place x.found.header) x.index ≡ None = ap (λ (y : Opened). refused_open y x.index) (sym x.read.is) ∙ open_part x.found x.index x.read.within ∙ x.over.fit in
    let fit = (unrefused_parts (opened_at root place x.found.header) x.index none).dataset in
    record {
      header = x.found.header;
      place = subst (λ (p : ℕ). place_found name root.root img ≡ Ok p) (sym at) linked_here;
      read = ap (λ (p : ℕ). dataset_found p img) at ∙ x.read.header;
      dataset = ap (λ (y : Session). y.dataset) x.over.session;
      unrefused = subst (λ (p : ℕ). refused_dataset (opened_at root p x.found.header) ≡ None) (sym at) fit;
    }

datasets_of : (img : List ℕ) (root : Super) (limit budget : ℕ) (t : Space) (h : HeaderFields) (names : List (List ℕ)) (places : List ℕ) (ss : List Session) → eval img (root_header_for true root.root) ≡ Ok h → AllPaired (IsLinked h.messages) names places
    → AreSessionsAt img (closed_front root) limit budget names places ss → AllPaired (HasDatasetOf img root) names (rested root t ss)
datasets_of img root limit budget t h _ _ _ read links no_session = tt
datasets_of img root limit budget t h _ _ _ read links (a_session name place s names places ss x rest) =
    (dataset_of img root limit budget t h name place s read links.0 x, datasets_of img root limit budget t h names places ss read links.1 rest)

pub taken_all : (img : List ℕ) (size : ℕ) (names : List (List ℕ)) (limit budget : ℕ) (front : Super) (places : List ℕ) (ss : List Session) (S : Sessions) → eval img (written_front size names) ≡ Ok (record { root = front; places = places }) → (h : HaveBegun names limit budget ss)
    → 1 ≤ length ss → S ≡ sessions_at_rest h.root limit ss → AreSessionsAt img (closed_front front) limit budget names places ss → IsTakenAll img size names limit budget S
taken_all img size names limit budget front places ss S is h some same x =
    let f = written_tells img size front names places is in
    let root = root_again img limit budget front h.root names places ss some x h.each f.version f.written in
    let t = places_from front.end limit in
    let session : S ≡ sessions_at_rest front limit ss = same ∙ ap (λ (r : Super). sessions_at_rest r limit ss) root in
    record {
      front = record { root = front; places = places };
      is = is;
      super = f.super;
      version = f.version;
      written = f.written;
      parts = ss;
      each = x;
      session = session;
      datasets = subst (λ (y : Sessions). AllPaired (HasDatasetOf img front) names y.parts) (sym session) (datasets_of img front limit budget t f.header names places ss f.read f.each x);
    }

pub taken_begun : (names : List (List ℕ)) (limit budget : ℕ) (ss : List Session) (S : Sessions) → (h : HaveBegun names limit budget ss) → S ≡ sessions_at_rest h.root limit ss → AreSessions S → HasTakenAll names limit budget S
taken_begun names limit budget ss S h same are =
    let t = places_from h.root.end limit in
    let own : HasTakenAll names limit budget (sessions_at_rest h.root limit ss) = record {
      parts = ss;
      begun = h;
      session = refl;
      sessions = subst AreSessions same are;
      idle = none_rested h.root t ss;
      each = rested_begin limit budget h.root t names ss h.each;
      end = refl;
      limited = refl;
      going = refl;
    } in
    subst (HasTakenAll names limit budget) (sym same) own

-- the file did not grow yet
pub taken_grown : (img : List ℕ) (size : ℕ) (names : List (List ℕ)) (limit budget : ℕ) (S : Sessions) (sets : List Begun) → IsTakenAll img size names limit budget S → IsGrown S (opened_file img sets)
taken_grown img size names limit budget S sets x =
    let end : began_end (opened_file img sets) ≡ x.front.root.end = ap (end_among (length sets)) x.super in
    let places = ap (λ (y : Sessions). y.places.end) x.session in
    omega (arith, end, places)
