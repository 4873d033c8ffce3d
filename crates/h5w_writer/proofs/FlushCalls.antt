-- What the call of a flush tells of the session that it leaves.
use Rattle.std.proofs.Common.{◌≡◌, ℕ, zero, suc, ◌-◌, ◌*◌, ◌<◌, ◌≤◌, Bool, true, false, nat_lt, if◌then◌else◌, [], ◌∷◌, ◌++◌, length, Option, Some, None, Result, Ok, Err, refl, sym, ap, ◌∙◌, subst, arith, length-append, inl, inr}
use Rattle.std.specs.Option.{MatchOption}
use Rattle.std.specs.Prelude.{IfOk, OnErr, OnOk}
use Rattle.std.proofs.lemmas.List.{nil_from_length}
use Rattle.h5w_model.specs.Datasets.{Described}
use Rattle.h5w_model.specs.Logs.{Log, and_now, load, plans}
use Rattle.h5w_model.specs.declared.root.Super.{Super}
use Rattle.h5w_space.specs.declared.Full.{Full}
use Rattle.h5w_step_laws.specs.Files.{with_index}
use Rattle.h5w_index.specs.Views.{header_place}
use Rattle.h5w_writer.specs.Sessions.{AllEndBy, IsNamed, IsSession, Session, TakesRows, cutting_of, row_bytes, rows_of, with_rows}
use Rattle.h5w_writer.specs.Loads.{NoPlace}
use Rattle.h5w_writer.specs.Flushes.{IsFlushed, SameBut, header_piece}
use Rattle.h5w_writer.specs.Past.{IsNew}
use Rattle.h5w_writer.specs.Refusals.{IsDeepFor, IsFullFor, flush_refusal}
use Rattle.h5w_writer.specs.Stands.{Stands}
use Rattle.h5w_writer.specs.Starts.{HasFlushed, IsStartFlushed, naming_piece}
use Rattle.h5w_writer.specs.declared.refusal.FlushError.{FlushError}
use Rattle.h5w_writer.specs.declared.refusal.FlushError.TheVariants as flushes
use Rattle.h5w_writer.proofs.EarlyLemmas.{no_chunks}
use Rattle.h5w_writer.proofs.FlushLemmas.{told_of}
use Rattle.h5w_writer.proofs.FlushStands.{refused_stands}
use Rattle.h5w_writer.proofs.HeaderAlone.{made_there}
use Rattle.h5w_writer.proofs.IndexLemmas.{header_defined}
use Rattle.h5w_writer.proofs.LawLemmas.{roomy_index}
use Rattle.h5w_writer.proofs.StartLoads.{any_bound, any_carries, full_no_place}
use Rattle.h5w_writer.proofs.StateLemmas.{none_pending, none_refused}

-- ---- Where a flush is not refused at once

pub record IsIdle (s : Session) : Type 0 where
  pub running : s.stopped ≡ false
  pub idle : s.pending ≡ []

abbrev refusal_by : Bool → Bool → ℕ → Option FlushError
refusal_by stopped busy pending = if stopped then Some flushes.Stopped else if busy then Some (flushes.Busy pending) else None

neither : (stopped busy : Bool) (pending : ℕ) → refusal_by stopped busy pending ≡ None → (stopped ≡ false) × (busy ≡ false)
neither true busy pending none = cc
neither false true pending none = cc
neither false false pending none = (refl, refl)

pub is_idle : (s : Session) (r : Result (Unit {0}) FlushError) → MatchOption (flush_refusal s) (r ≡ Ok tt) (λ e. r ≡ Err e) → r ≡ Ok tt → IsIdle s
is_idle s r is ok =
    let by = neither s.stopped (nat_lt 0 (length s.pending)) (length s.pending) (none_refused (flush_refusal s) r is ok) in
    record { running = by.0; idle = none_pending s.pending by.1 }

-- ---- What a flush of some rows does

some_pieces : (old new : Session) → IsFlushed old new → 1 ≤ length new.pending
some_pieces old new x =
    let p = x.planned in
    let fixed = p.fixed ++ header_piece old ∷ [] in
    omega (arith, ap length x.pending, length-append p.rows (p.copies ++ (p.supers ++ fixed)), length-append p.copies (p.supers ++ fixed), length-append p.supers fixed, length-append p.fixed (header_piece old ∷ []))

takes_rows : (old new : Session) → IsFlushed old new → TakesRows old new
takes_rows old new x =
    let told = told_of old old.index old.places new.index new.places x.planned in
    let taken = x.planned.taken in
    let root : new.root ≡ record (old.root) { end = new.places.end } = ap (λ (s : Session). s.root) x.session in
    let dataset : new.dataset ≡ with_rows (rows_of old) old.dataset = ap (λ (s : Session). s.dataset) x.session in
    record {
      name = ap (λ (s : Session). s.name) x.session;
      root = root ∙ ap (λ n. record (old.root) { end = n }) (sym (ap (λ (r : Super). r.end) root));
      place = ap (λ (s : Session). s.place) x.session;
      dataset = dataset ∙ ap (λ (d : Described). with_index d.layout.address (with_rows (rows_of old) old.dataset)) (sym dataset);
      address = λ named. ap (λ (d : Described). d.layout.address) dataset;
      named = λ some none. x.there.named (sym (ap (λ (d : Described). d.layout.address) dataset) ∙ none);
      made = λ some none. absurd (x.there.named none);
      waiting = ap (λ (s : Session). s.waiting) x.session;
      waits = ap (λ (s : Session). s.waits) x.session;
      committed = ap (λ (s : Session). s.committed) x.session;
      stopped = ap (λ (s : Session). s.stopped) x.session;
      keeps = ap (λ (s : Session). s.keeps) x.session;
      limit = told.limit ∙ taken.raised.limit;
      rises = omega (arith, taken.raised.rises, told.rises);
      budget = ap (λ (s : Session). s.budget) x.session;
      early = ap (λ (s : Session). s.early) x.session;
      chunks = ap (λ (s : Session). s.chunks) x.session;
      flushing = λ some. ap (λ (s : Session). s.flushing) x.session;
      still = λ none. absurd (let some = x.planned.some in omega (arith, some, none));
    }

started_pieces : (old new : Session) → IsStartFlushed old new → 1 ≤ length new.pending
started_pieces old new x =
    let p = x.planned in
    let j = x.pending in
    let last = j.behind ++ naming_piece old x.naming ∷ [] in
    let front = j.front ++ (p.supers ++ last) in
    omega (arith, ap length j.all, length-append p.rows (p.copies ++ front), length-append p.copies front, length-append j.front (p.supers ++ last), length-append p.supers last, length-append j.behind (naming_piece old x.naming ∷ []))

starts_rows : (old new : Session) → IsStartFlushed old new → TakesRows old new
starts_rows old new x =
    let told = told_of old x.made x.first new.index new.places x.planned in
    let names = x.planned.names in
    let taken = x.planned.taken in
    let root : new.root ≡ record (old.root) { end = new.places.end } = ap (λ (s : Session). s.root) x.session in
    let dataset : new.dataset ≡ with_index x.at (with_rows (rows_of old) old.dataset) = ap (λ (s : Session). s.dataset) x.session in
    let address : new.dataset.layout.address ≡ x.at = ap (λ (d : Described). d.layout.address) dataset in
    let at_place : header_place new.index ≡ x.at = told.place ∙ names.partly.like.place ∙ x.start.at_place in
    record {
      name = ap (λ (s : Session). s.name) x.session;
      root = root ∙ ap (λ n. record (old.root) { end = n }) (sym (ap (λ (r : Super). r.end) root));
      place = ap (λ (s : Session). s.place) x.session;
      dataset = dataset ∙ ap (λ (d : Described). with_index d.layout.address (with_rows (rows_of old) old.dataset)) (sym dataset);
      address = λ named. address ∙ made_there old.dataset.layout.address old.places x.at x.made x.first x.start.made named;
      named = λ some none. header_defined new.index told.sound (at_place ∙ sym address ∙ none);
      made = λ some none. address ∙ sym at_place;
      waiting = ap (λ (s : Session). s.waiting) x.session;
      waits = ap (λ (s : Session). s.waits) x.session;
      committed = ap (λ (s : Session). s.committed) x.session;
      stopped = ap (λ (s : Session). s.stopped) x.session;
      keeps = ap (λ (s : Session). s.keeps) x.session;
      limit = told.limit ∙ taken.raised.limit ∙ x.start.raised.limit;
      rises = omega (arith, x.start.raised.rises, taken.raised.rises, told.rises);
      budget = ap (λ (s : Session). s.budget) x.session;
      early = ap (λ (s : Session). s.early) x.session;
      chunks = ap (λ (s : Session). s.chunks) x.session;
      flushing = λ some. ap (λ (s : Session). s.flushing) x.session;
      still = λ none. absurd (let some = x.planned.some in omega (arith, some, none));
    }

any_rows : (old new : Session) → HasFlushed old new → TakesRows old new
any_rows old new (inl x) = takes_rows old new x
any_rows old new (inr x) = starts_rows old new x

any_pieces : (old new : Session) → HasFlushed old new → 1 ≤ length new.pending
any_pieces old new (inl x) = some_pieces old new x
any_pieces old new (inr x) = started_pieces old new x

-- where the layout named the index the rows alone are others
pub takes_named : (old new : Session) → TakesRows old new → IsNamed old.dataset → new.dataset ≡ with_rows (rows_of old) old.dataset
takes_named old new x named = x.dataset ∙ ap (λ (n : ℕ). with_index n (with_rows (rows_of old) old.dataset)) (x.address named)

-- a flush of no rows leaves the session
pub takes_none : (s : Session) → IsSession s → s.waits ≡ 0 → TakesRows s s
takes_none s is none =
    let same : s.dataset.shape.rows ≡ rows_of s = omega (arith, none) in
    let early : s.early ≡ 0 = omega (arith, is.early, none) in
    record {
      name = refl;
      root = refl;
      place = refl;
      dataset = ap (λ (n : ℕ). with_index s.dataset.layout.address (with_rows n s.dataset)) same;
      address = λ named. refl;
      named = λ some. absurd (omega (arith, some, none));
      made = λ some. absurd (omega (arith, some, none));
      waiting = nil_from_length s.waiting (is.cells ∙ ap (λ (n : ℕ). n * row_bytes s.dataset) (let e : s.waits - s.early ≡ 0 = omega (arith, none) in e) ∙ omega arith);
      waits = none;
      committed = refl;
      stopped = refl;
      keeps = refl;
      limit = refl;
      rises = omega arith;
      budget = refl;
      early = early;
      chunks = no_chunks s.dataset s.early s.chunks is.chunks early;
      flushing = λ some. absurd (omega (arith, some, none));
      still = λ waits. refl;
    }

pub told_rows : (old new : Session) (r : Result ℕ FlushError) → OnOk r (HasFlushed old new) → OnOk r (TakesRows old new)
told_rows old new (Ok n) x = any_rows old new x
told_rows old new (Err e) x = tt

pub told_some : (old new : Session) (r : Result ℕ FlushError) → OnOk r (HasFlushed old new) → IfOk r (λ n. n ≡ length new.pending) → IfOk r (λ n. 1 ≤ n)
told_some old new (Ok n) x count = omega (arith, any_pieces old new x, count)
told_some old new (Err e) x count = tt

-- ---- A flush that is refused

pub told_left : (old new : Session) (r : Result ℕ FlushError) → IsIdle old → OnErr r (SameBut old new) → OnErr r ((log : Log) → Stands old log → Stands new log)
told_left old new (Ok n) i kept = tt
told_left old new (Err e) i kept = λ log stands. refused_stands old new log kept i.running i.idle stands

-- ---- What a flush of some rows takes

pub told_stands : (old new : Session) (r : Result ℕ FlushError) → IsIdle old → OnOk r (HasFlushed old new) → OnOk r (AllEndBy new.places.end new.pending) → IfOk r (λ n. n ≡ length new.pending)
    → IfOk r (λ n. (log : Log) → Stands old log → Stands new (and_now (plans n) log))
told_stands old new (Ok n) i x ends count = λ log stands. subst (λ (k : ℕ). Stands new (and_now (plans k) log)) (sym count) (any_carries old new log x i.running i.idle ends stands)
told_stands old new (Err e) i x ends count = tt

pub told_bound : (old new : Session) (r : Result ℕ FlushError) → IsIdle old → OnOk r (HasFlushed old new) → IfOk r (λ n. n ≡ length new.pending) → IfOk r (λ n. (log : Log) → Stands old log → n ≤ load (cutting_of old) log)
told_bound old new (Ok n) i x count = λ log stands. subst (λ (k : ℕ). k ≤ load (cutting_of old) log) (sym count) (any_bound old new log x i.running i.idle stands)
told_bound old new (Err e) i x count = tt

pub told_bounds : (s : Session) (r : Result ℕ FlushError) → IsIdle s → 0 < s.waits → ((full : Full) → r ≡ Err (flushes.Space full) → IsFullFor s full)
    → (full : Full) → r ≡ Err (flushes.Space full) → (log : Log) → Stands s log → NoPlace s log full
told_bounds s r i waits told full is log stands = full_no_place s log i.running i.idle stands waits full (told full is)

-- a file that a session created has an index with room
pub told_shallow : (s : Session) (r : Result ℕ FlushError) → (r ≡ Err flushes.Deep → IsDeepFor s) → (log : Log) → Stands s log → IsNew log → r ≡ Err flushes.Deep → ⊥
told_shallow s r told log stands new is = (told is).1.cramped (roomy_index s log stands new)

pub some_waits : (n : ℕ) → (n ≡ 0 → ⊥) → 0 < n
some_waits zero some = absurd (some refl)
some_waits (suc n) some = omega arith
