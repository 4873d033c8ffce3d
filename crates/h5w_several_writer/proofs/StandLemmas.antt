-- What each call makes of a session of several datasets is the session of the log with the call's event.
use Rattle.std.proofs.Common.{◌≡◌, ℕ, suc, zero, Bool, true, false, List, [], ℤ, length, Result, Ok, Err, OnOk, OnErr, IfOk, Option, None, Some, nat_lt, if◌then◌else◌, MatchOption, slice_get, refl, sym, subst, ◌∙◌, lt-ltb, arith}
use Rattle.std.proofs.lemmas.List.{nil_from_length}
use Rattle.h5w_model.specs.Several.{FileLog, appends_to, plans_each}
use Rattle.h5w_model.specs.Superblock.{super_at, super_bytes}
use Rattle.h5w_writer.specs.Refusals.{append_refusal}
use Rattle.h5w_writer.specs.Sessions.{AreRows, Session}
use Rattle.h5w_writer.specs.declared.refusal.AppendError.{AppendError}
use Rattle.h5w_writer.specs.declared.refusal.FlushError.{FlushError}
use Rattle.h5w_writer.specs.declared.refusal.FlushError.TheVariants as flushes
use Rattle.h5w_several_writer.specs.Refusals.{append_refusal_in, flush_refusal_of}
use Rattle.h5w_several_writer_laws.specs.Sessions.{AppendsTo, AreParts, FlushesAll, SameButHeld, Sessions, all_pending, closed_all, closed_super, counts_of}
use Rattle.h5w_several_writer_laws.specs.Standing.{StandsAll, and_then}
use Rattle.h5w_several_writer_laws.proofs.CallLemmas.{calls_stand}
use Rattle.h5w_several_writer.proofs.EndLemmas.{refusal_in}

none_of : (o : Option AppendError) (rows : ℕ) → ((e : AppendError) → o ≡ Some e → ◌≡◌ {A = Result ℕ AppendError} (Ok rows) (Err e)) → o ≡ None
none_of None rows refused = refl
none_of (Some e) rows refused = absurd (let same = refused e refl in cc)

pub append_stands : (r : Result ℕ AppendError) (old new : Sessions) (d : ℕ) (values : List ℤ) → old.stopped ≡ false → length (all_pending old.parts) ≡ 0 → ((s : Session) → slice_get old.parts d ≡ Some s → AreRows s values)
    → ((s : Session) (e : AppendError) → slice_get old.parts d ≡ Some s → append_refusal_in old s values ≡ Some e → r ≡ Err e) → OnOk r (AppendsTo d values old new) → OnOk r ((log : FileLog) → StandsAll old log → StandsAll new (and_then (appends_to d values) log))
append_stands (Ok rows) old new d values going idle are refused x = λ log stands.
    let same = refusal_in old x.part values going idle in
    let none : append_refusal x.part values ≡ None = none_of (append_refusal x.part values) rows (λ e is. refused x.part e x.is (same ∙ is)) in
    calls_stand.appends old new d values log stands going (nil_from_length (all_pending old.parts) idle) x (are x.part x.is) none
append_stands (Err e) old new d values going idle are refused x = tt

-- ---- A call that was not refused at once

flush_on : (b : Bool) (n : ℕ) → MatchOption (if b then Some flushes.Stopped else if nat_lt 0 n then Some (flushes.Busy n) else None) (◌≡◌ {A = Result (Unit {0}) FlushError} (Ok tt) (Ok tt)) (λ e. ◌≡◌ {A = Result (Unit {0}) FlushError} (Ok tt) (Err e)) → (b ≡ false) × (n ≡ 0)
flush_on true n x = absurd cc
flush_on false zero x = (refl, refl)
flush_on false (suc n) x = absurd (
    let test : nat_lt 0 (suc n) ≡ true = lt-ltb 0 (suc n) (omega arith) in
    let y : MatchOption (if nat_lt 0 (suc n) then Some (flushes.Busy (suc n)) else None) (◌≡◌ {A = Result (Unit {0}) FlushError} (Ok tt) (Ok tt)) (λ e. ◌≡◌ {A = Result (Unit {0}) FlushError} (Ok tt) (Err e)) = x in
    let z : ◌≡◌ {A = Result (Unit {0}) FlushError} (Ok tt) (Err (flushes.Busy (suc n))) = subst (λ (t : Bool). MatchOption (if t then Some (flushes.Busy (suc n)) else None) (◌≡◌ {A = Result (Unit {0}) FlushError} (Ok tt) (Ok tt)) (λ e. ◌≡◌ {A = Result (Unit {0}) FlushError} (Ok tt) (Err e))) test y in
    cc
    )

pub flush_ready : (S : Sessions) → MatchOption (flush_refusal_of S) (◌≡◌ {A = Result (Unit {0}) FlushError} (Ok tt) (Ok tt)) (λ e. ◌≡◌ {A = Result (Unit {0}) FlushError} (Ok tt) (Err e)) → (S.stopped ≡ false) × (all_pending S.parts ≡ [])
flush_ready S x = let y = flush_on S.stopped (length (all_pending S.parts)) x in (y.0, nil_from_length (all_pending S.parts) y.1)

pub flush_stands : {E : Type 0} (r : Result (List ℕ) E) (old new : Sessions) → (old.stopped ≡ false) × (all_pending old.parts ≡ []) → OnOk r (FlushesAll old new) → IfOk r (λ counts. counts ≡ counts_of new.parts)
    → IfOk r (λ counts. (log : FileLog) → StandsAll old log → StandsAll new (and_then (plans_each counts) log))
flush_stands (Ok counts) old new ready x are = λ log stands. subst (λ (ns : List ℕ). StandsAll new (and_then (plans_each ns) log)) (sym are) (calls_stand.flushes old new log stands ready.0 ready.1 x)
flush_stands (Err e) old new ready x are = tt

pub refused_stands : {T E : Type 0} (r : Result T E) (old new : Sessions) → (old.stopped ≡ false) × (all_pending old.parts ≡ []) → OnErr r (SameButHeld old new) → OnErr r ((log : FileLog) → StandsAll old log → StandsAll new log)
refused_stands (Ok x) old new ready same = tt
refused_stands (Err e) old new ready same = λ log stands. calls_stand.refused old new log stands ready.0 ready.1 same

pub close_stands : {T E : Type 0} (r : Result T E) (old new : Sessions) → OnOk r (old.stopped ≡ false) → OnOk r (length (all_pending old.parts) ≡ 0) → AreParts old old.parts → OnOk r (super_at (super_bytes (closed_super old)) ≡ Ok (closed_super old))
    → OnOk r (new ≡ closed_all old) → OnOk r ((log : FileLog) → StandsAll old log → StandsAll new log)
close_stands (Ok x) old new going idle parts reads closed = λ log stands. subst (λ (S : Sessions). StandsAll S log) (sym closed) (calls_stand.closes old log stands going (nil_from_length (all_pending old.parts) idle) parts reads)
close_stands (Err e) old new going idle parts reads closed = tt
