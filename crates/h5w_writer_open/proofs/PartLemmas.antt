-- What the opening of a file by several names answers of each of its datasets.
use Rattle.std.proofs.Common.{◌≡◌, ◌⊎◌, ℕ, List, Option, Some, None, Result, Ok, Err, sym, ap, ◌∙◌, subst, inl, inr, ◌≤◌, length}
use Rattle.std.specs.Prelude.{MatchOption}
use Rattle.std.specs.Option.{option_or}
use Rattle.h5w_model.specs.Numbers.{range}
use Rattle.h5w_model.specs.Superblock.{super_at}
use Rattle.h5w_headers.specs.Ran.{seen}
use Rattle.h5w_index.specs.Held.{view_of}
use Rattle.h5w_index.specs.declared.index.Index.{Index as HeldIndex}
use Rattle.h5w_opening.specs.Errors.{refusal_of}
use Rattle.h5w_opening.specs.Views.{opened_of}
use Rattle.h5w_opening.specs.declared.finding.Opening.{Opening}
use Rattle.h5w_opening.specs.Openings.{Opened, dataset_found, refused_dataset}
use Rattle.h5w_opening.specs.declared.error.OpenError.{OpenError}
use Rattle.h5w_opening.specs.declared.error.OpenError.TheVariants.{OutOfMemory}
use Rattle.h5w_opening.proofs.FoundParts.{header_found_by}
use Rattle.h5w_index.specs.Views.{IndexView}
use Rattle.h5w_model.specs.declared.root.Super.{Super}
use Rattle.h5w_writer.specs.Sessions.{Session}
use Rattle.h5w_writer_open.specs.declared.index.NoIndex.{NoIndex}
use Rattle.h5w_writer_open.specs.OpenAnswers.{IfRefusal, IsIndexOf, IsKeptIndexOf, opened_session}
use Rattle.h5w_writer_open.specs.OpenParts.{IsPartOver, IsReadAt, IsReadWell, IsUnfit, IsUnread, bad_block, bad_range, opened_at, refused_part}
use Rattle.h5w_writer_open.specs.OpenRanges.{is_starting, ranges_refused, refused_index, refused_open}
use Rattle.h5w_writer_open.specs.OpenSteps.{IsBadIndex, IsKeptHeader, IsReady, front_of, versioned}
use Rattle.h5w_writer_open.proofs.OpenStepLemmas.{IsKeptFront, IsQuiet, front_kept, refused_quiet, some_refusal}
use Rattle.h5w_writer_open.proofs.OpenRangeLemmas.{or_none}
use Rattle.h5w_writer_open.proofs.SessionOver.{in_chunk, next_told, none_told, ready_index, starts_so}

-- ---- What is read

abbrev pub read_good : Super → ℕ → List ℕ → Opening × Result HeldIndex NoIndex → Type 0
read_good root place img x = IsReadAt img root place (opened_of x.0) (seen view_of x.1)

abbrev pub read_bad : Super → ℕ → List ℕ → OpenError → Type 0
read_bad root place img e = (s : Super) → super_at (range img 0 48) ≡ Ok s → IsUnread img root place e

-- a header was found, and the index that it names
pub record FoundAt (place : ℕ) (img : List ℕ) (x : Opening × Result HeldIndex NoIndex) : Type 0 where
  pub header : dataset_found place img ≡ Ok (opened_of x.0).header
  pub index : IsIndexOf img (opened_of x.0).header.dataset (seen view_of x.1)

pub bad_index_at : (img : List ℕ) (root : Super) (place : ℕ) (o : Opened) (e : OpenError) → dataset_found place img ≡ Ok o.header → IsBadIndex img o.header.dataset e → IsUnread img root place e
bad_index_at img root place o e is bad = subst (IsUnread img root place) (sym bad.is) (bad_block o.header bad.at bad.fault is bad.bad)

pub bad_ranges_at : (img : List ℕ) (root : Super) (place : ℕ) (o : Opened) (a : Result IndexView NoIndex) (e : OpenError) → dataset_found place img ≡ Ok o.header → o ≡ opened_at root place o.header → IsIndexOf img o.header.dataset a
    → (ranges_refused o a ≡ Some e) ⊎ (e ≡ OutOfMemory) → IfRefusal (refusal_of e) (IsUnread img root place)
bad_ranges_at img root place o a e is same index (inl h) = some_refusal (IsUnread img root place) e (bad_range o.header a e is index (ap (λ (x : Opened). ranges_refused x a) (sym same) ∙ h))
bad_ranges_at img root place o a e is same index (inr h) = subst (λ g. IfRefusal (refusal_of g) (IsUnread img root place)) (sym h) tt

abbrev pub memory_quiet : IsQuiet OutOfMemory
memory_quiet = (tt, λ f. absurd cc)

or_first : (a b : Option OpenError) (e : OpenError) → a ≡ Some e → option_or a b ≡ Some e
or_first a b e h = ap (λ (o : Option OpenError). option_or o b) h

or_second : (a b : Option OpenError) → a ≡ None → option_or a b ≡ b
or_second a b h = ap (λ (o : Option OpenError). option_or o b) h

pub ranges_are_quiet : (o : Opened) (a : Result IndexView NoIndex) (e : OpenError) → (ranges_refused o a ≡ Some e) ⊎ (e ≡ OutOfMemory) → IsQuiet e
ranges_are_quiet o a e (inl h) = refused_quiet o a e (or_first (ranges_refused o a) (refused_part o a) e h)
ranges_are_quiet o a e (inr h) = subst IsQuiet (sym h) memory_quiet

-- ---- What refuses a dataset that was read

-- it is what refuses a file that is opened by this name
pub open_part : (o : Opened) (a : Result IndexView NoIndex) → ranges_refused o a ≡ None → refused_open o a ≡ refused_part o a
open_part o a h = or_second (ranges_refused o a) (refused_part o a) h

pub part_is_quiet : (o : Opened) (a : Result IndexView NoIndex) (e : OpenError) → ranges_refused o a ≡ None → (refused_part o a ≡ Some e) ⊎ (e ≡ OutOfMemory) → IsQuiet e
part_is_quiet o a e within (inl h) = refused_quiet o a e (open_part o a within ∙ h)
part_is_quiet o a e within (inr h) = subst IsQuiet (sym h) memory_quiet

pub unfit_part : (img : List ℕ) (o : Opened) (a : Result IndexView NoIndex) (e : OpenError) → (refused_part o a ≡ Some e) ⊎ (e ≡ OutOfMemory) → IfRefusal (refusal_of e) (IsUnfit img o a)
unfit_part img o a e (inl h) = some_refusal (IsUnfit img o a) e (λ is. h)
unfit_part img o a e (inr h) = subst (λ g. IfRefusal (refusal_of g) (IsUnfit img o a)) (sym h) tt

pub dataset_first : (o : Opened) (a : Result IndexView NoIndex) (r : Result (Unit {0}) OpenError) (e : OpenError) → MatchOption (refused_dataset o) (r ≡ Ok tt) (λ f. r ≡ Err f) → r ≡ Err e → refused_part o a ≡ Some e
dataset_first o a r e said is = next_told (refused_dataset o) (refused_index o.header.dataset a) r e said is

pub dataset_passed : (o : Opened) (a : Result IndexView NoIndex) (r : Result (Unit {0}) OpenError) → MatchOption (refused_dataset o) (r ≡ Ok tt) (λ f. r ≡ Err f) → r ≡ Ok tt → refused_part o a ≡ refused_index o.header.dataset a
dataset_passed o a r said is = none_told (refused_dataset o) (refused_index o.header.dataset a) r said is

-- ---- Chunk 0 of its header

-- it is as it was found, and can be written
pub kept_at : (img : List ℕ) (o : Opened) → dataset_found o.place img ≡ Ok o.header → IsKeptFront img o
kept_at img o is = front_kept img o (header_found_by img o.place o.header is)

pub header_kept_at : (img : List ℕ) (o : Opened) (a : Result IndexView NoIndex) → refused_part o a ≡ None → dataset_found o.place img ≡ Ok o.header → IsKeptHeader (is_starting o.header.dataset) (front_of img o.place o.header.len)
header_kept_at img o a none is =
    let k = kept_at img o is in
    let dataset = (or_none (refused_dataset o) (refused_index o.header.dataset a) none).0 in
    subst (IsKeptHeader (is_starting o.header.dataset)) (sym k.same) (k.writable, λ starts. k.addressed (in_chunk o (starts_so o.header.dataset starts) dataset))

-- ---- The session

-- what was read of it, and is not refused, is what a session begins with
pub part_ready : (o : Opened) (a : Result IndexView NoIndex) (v : IndexView) (header : List ℕ) → IsReadWell o a → IsKeptIndexOf o.header.dataset a v → refused_part o a ≡ None → IsKeptHeader (is_starting o.header.dataset) header → length header ≤ o.header.len
    → IsReady o header v
part_ready o a v header read kept none writable few =
    let unrefused : refused_open o a ≡ None = open_part o a read.within ∙ none in
    record {
      found = read.found;
      index = a;
      ready = ready_index o a v read.named kept unrefused;
      made = read.made;
      unrefused = unrefused;
      header_kept = writable;
      few = few;
    }

pub part_good : (img : List ℕ) (o : Opened) (a : Result IndexView NoIndex) (name : List ℕ) (limit budget : ℕ) (header : List ℕ) (v : IndexView) (s : Session) → refused_part o a ≡ None → IsKeptIndexOf o.header.dataset a v → header ≡ front_of img o.place o.header.len
    → s ≡ opened_session (versioned o) header v name limit budget → IsPartOver img o a name limit budget s
part_good img o a name limit budget header v s none kept same e =
    record { fit = none; kept = v; is_kept = kept; session = e ∙ ap (λ (h : List ℕ). opened_session (versioned o) h v name limit budget) same }
